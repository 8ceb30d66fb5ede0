pub mod Taking
pub mod Keeping
pub mod Filling
pub mod Telling
