pub mod Last
pub mod EdgeLaws
pub mod Complete
