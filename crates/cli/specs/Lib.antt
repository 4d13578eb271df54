-- What the contracts on options cite.
pub mod Options
