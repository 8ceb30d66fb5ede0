pub mod OrderConditions
pub mod Behind
pub mod Laws
