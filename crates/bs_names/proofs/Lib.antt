pub mod Names
pub mod Listed
pub mod TablesSeen
pub mod Meant
