pub mod Items
pub mod Texts
pub mod Sides
pub mod Writes
