pub mod Naming
pub mod FanLaws
