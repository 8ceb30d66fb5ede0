pub mod Walk
pub mod Remembered
