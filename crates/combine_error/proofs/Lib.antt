pub mod UnexpectedRefusals
pub mod AppendedItems
pub mod ClearedItems
pub mod ReplacedItems
pub mod ItemLists
pub mod ShapedAnswers
pub mod SpanStreams
mod SpannedAnswers
