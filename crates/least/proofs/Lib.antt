pub mod Fixed
mod Raising
