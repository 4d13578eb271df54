-- From any steps that have the diamond to the orders of a kernel's threads.
pub mod Chains
pub mod Confluence
pub mod Changes
pub mod Effects
pub mod Threads
pub mod Commutes
pub mod Diamond
pub mod Cost
pub mod InOrder
pub mod Orders
pub mod Cases
pub mod Promised
