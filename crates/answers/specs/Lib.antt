pub mod Question
pub mod QuestionLaws
pub mod RecordLaws
pub mod Index
pub mod ChainLaws
pub mod IndexLaws
pub mod EnterLaws
