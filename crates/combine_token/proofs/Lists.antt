-- lists of tokens, matched or searched
pub mod FoundItems
pub mod GivenItems
pub mod IteratorCalls
pub mod KnownItems
pub mod ListAnswers
pub mod ListClones
pub mod ListReasons
pub mod Matches
pub mod StdLists
