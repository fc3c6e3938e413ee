pub mod IndexedLaws
pub mod OpenedLaws
pub mod FoundLaws
