pub mod Walks
pub mod PassLaws
pub mod RoundLaws
pub mod LoopLaws
