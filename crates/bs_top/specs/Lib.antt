pub mod Output
pub mod ErrorLines
pub mod Run
pub mod Made
pub mod Examples
