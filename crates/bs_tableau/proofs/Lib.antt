pub mod Parts
pub mod Entries
pub mod Lists
pub mod Totals
pub mod MapSums
pub mod CheckedWeights
pub mod Equal
