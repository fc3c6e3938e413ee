pub mod Tables
pub mod Chains
pub mod Fuse
pub mod JoinLinks
pub mod Lay
pub mod Link
pub mod Spread
pub mod Replace
