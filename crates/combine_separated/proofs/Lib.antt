pub mod PartCalls
pub mod Separators
pub mod SeparatedCalls
pub mod ElementThenTurns
pub mod FoldRight
pub mod EscapedBlocks
