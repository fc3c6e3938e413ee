pub mod FansLaws
pub mod LinedLaws
pub mod SolidLaws
