pub mod Begun
pub mod Acceptance
pub mod Named
pub mod Reading
