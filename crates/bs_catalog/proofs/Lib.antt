mod RowLists
mod Merging
mod FirstChild
pub mod RowLaws
mod Tables
pub mod Remembering
pub mod Putting
pub mod Shelving
mod Forests
pub mod Grouping
