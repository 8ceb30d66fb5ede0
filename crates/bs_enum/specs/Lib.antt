pub mod AllTrees
pub mod Walk
pub mod Successor
pub mod Laws
