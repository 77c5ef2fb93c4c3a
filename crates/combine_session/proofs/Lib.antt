mod CutRuns
mod Windows
mod CutFits
pub mod Pieces
pub mod Sessions
