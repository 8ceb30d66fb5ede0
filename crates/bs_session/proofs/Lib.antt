pub mod Turns
pub mod Sound
pub mod Settled
pub mod Goes
pub mod Counting
pub mod Needed
pub mod Interned
