-- From heads, by parts, to whole texts.
pub mod Answered
pub mod Shapes
pub mod HeadsExact
pub mod Exact
pub mod Marks
pub mod Exits
pub mod Layers
pub mod Reasons
pub mod Texts
