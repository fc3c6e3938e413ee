pub mod Clear
pub mod ClearLaws
pub mod Stamps
pub mod StampLaws
pub mod Buckets
pub mod BucketLaws
pub mod ContactLaws
