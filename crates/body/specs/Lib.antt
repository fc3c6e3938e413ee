pub mod Numbers
pub mod Vertices
pub mod Writing
pub mod Sizes
pub mod Solids
pub mod FaceLaws
pub mod ShellLaws
pub mod BodyLaws
