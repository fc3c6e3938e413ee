pub mod Apart
pub mod Lists
pub mod Raw
pub mod ListLaws
pub mod FieldLaws
pub mod ItemLaws
