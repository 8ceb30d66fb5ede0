pub mod SeriesReplies
pub mod Works
pub mod Needed
pub mod WorkNeeded
pub mod WorkCounted
