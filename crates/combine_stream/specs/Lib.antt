pub mod Position
pub mod FailingCalls
pub mod MaybePartial
pub mod Range
