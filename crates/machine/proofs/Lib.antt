-- From rows that say a kernel to the steps of its threads.
pub mod Heads
pub mod Texts
pub mod Values
pub mod Held
pub mod Rules
pub mod StatusWords
pub mod Parts
pub mod Begin
pub mod Loads
pub mod Moved
pub mod Together
pub mod OnePass
pub mod Running
