-- What an order of a text is promised to be.
pub mod Numbers
pub mod Choice
pub mod Held
pub mod Noting
pub mod Watching
pub mod Order
pub mod Ran
pub mod Jobs
pub mod Drawn
pub mod Outcome
pub mod Says
pub mod Sequence
pub mod Whole
pub mod Led
