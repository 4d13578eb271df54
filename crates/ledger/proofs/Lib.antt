-- From the flags of one mark to the runs of all threads.
pub mod Flags
pub mod OneMark
pub mod Words
pub mod Threads
pub mod Tells
pub mod Runs
pub mod Posts
