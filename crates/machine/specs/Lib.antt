-- What stands in the rows, how threads lie in the words, and what a step does to them.
pub mod Stands
pub mod Values
pub mod Words
pub mod Rules
pub mod Loads
pub mod All
pub mod Begins
pub mod Stepped
pub mod Together
pub mod Engines
