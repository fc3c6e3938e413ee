pub mod Halves
pub mod Fanning
pub mod Tables
pub mod Lined
pub mod Homes
