pub mod Chain
pub mod StageLaws
pub mod Known
pub mod KnownLaws
pub mod Parts
pub mod Endings
