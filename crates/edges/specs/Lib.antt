pub mod Table
pub mod Made
pub mod LoopLaws
