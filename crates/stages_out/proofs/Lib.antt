pub mod RowLaws
pub mod ShellFaces
