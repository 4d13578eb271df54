-- What the marks of places say, and how they tell a clash.
pub mod Stamps
pub mod Marks
pub mod Places
pub mod Lent
pub mod Tells
pub mod Runs
pub mod Promises
