pub mod Joints
pub mod Limits
pub mod Payloads
