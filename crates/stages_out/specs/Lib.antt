pub mod Rows
pub mod Writing
