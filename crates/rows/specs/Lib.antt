-- What the reader's contracts cite, from heads to the promise of `decode`.
pub mod Heads
pub mod Parts
pub mod Table
pub mod Reader
pub mod Told
pub mod Decoded
