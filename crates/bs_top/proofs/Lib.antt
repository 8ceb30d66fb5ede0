pub mod Fronts
mod Sessions
mod Texts
mod Runs
mod Mades
