pub mod Sums
pub mod Steps
pub mod Children
pub mod Remembering
