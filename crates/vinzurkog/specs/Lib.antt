-- What the exported call promises.
pub mod Export
