pub mod Numbers
pub mod Pieces
pub mod Rest
pub mod Texts
pub mod Pairs
pub mod ReadsBack
