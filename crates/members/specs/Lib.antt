pub mod Chain
pub mod Group
