-- What bytes, words and buffers mean to the contracts of this crate.
pub mod Budget
pub mod Flaws
pub mod Listing
pub mod Scan
