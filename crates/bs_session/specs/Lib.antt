pub mod Replies
pub mod Toil
pub mod Needed
pub mod Listing
pub mod Machine
pub mod Turns
pub mod Counted
pub mod Examples
