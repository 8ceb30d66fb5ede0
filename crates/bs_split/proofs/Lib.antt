pub mod Lists
pub mod Words
pub mod Passes
pub mod Onward
pub mod Items
pub mod Next
