pub mod FaceTables
pub mod Merging
pub mod MergingLaws
pub mod Removing
pub mod Numbering
