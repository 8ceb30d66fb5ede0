pub mod Codes
pub mod Machine
pub mod Canonical
pub mod Laws
pub mod Keys
pub mod KeyEquality
