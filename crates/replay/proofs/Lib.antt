pub mod StageNumbers
