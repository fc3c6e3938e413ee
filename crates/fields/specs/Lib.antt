pub mod FilledTable
pub mod Wrote
pub mod Tabled
pub mod Chains
pub mod Spans
