-- What the contracts on answers cite.
pub mod States
