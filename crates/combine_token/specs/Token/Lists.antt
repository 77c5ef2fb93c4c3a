-- lists of tokens, by their items or by the calls of their iterators
pub mod IteratedLists
pub mod KnownLists
pub mod ListAnswers
pub mod ListCalls
pub mod ListMeaning
pub mod TokenLists
