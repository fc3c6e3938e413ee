pub mod Parents
pub mod ParentLaws
pub mod Padding
