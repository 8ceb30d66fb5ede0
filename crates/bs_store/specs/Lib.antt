pub mod Rule
pub mod Seats
pub mod Closing
pub mod Walks
pub mod Reading
pub mod Laws
pub mod Events
pub mod Trees
