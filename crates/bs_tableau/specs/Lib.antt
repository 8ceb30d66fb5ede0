pub mod Words
pub mod Table
pub mod Rows
pub mod ElementaryWeight
pub mod WrittenWeight
pub mod Laws
