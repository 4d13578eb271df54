-- What a text is, what its threads do, and when they clash: the definitions that every contract rests on.
pub mod Kernel
pub mod Chains
pub mod Steps
pub mod Races
pub mod Rows
pub mod Orders
pub mod Cases
