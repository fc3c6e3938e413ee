pub mod Links
pub mod LinkLaws
