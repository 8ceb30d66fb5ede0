pub mod Texts
pub mod Told
pub mod Clean
pub mod Sessions
