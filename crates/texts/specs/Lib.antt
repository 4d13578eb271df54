-- What the functions that write parts of a text promise.
pub mod Owed
pub mod Spelled
