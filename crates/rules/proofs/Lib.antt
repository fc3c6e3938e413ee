pub mod OutcomeLaws
pub mod FieldLaws
pub mod FrameLaws
pub mod QuestionLaws
pub mod GroupLaws
pub mod SenseLaws
pub mod KindLaws
pub mod SizeLaws
