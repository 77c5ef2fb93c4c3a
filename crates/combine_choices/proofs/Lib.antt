pub mod EqualValues
pub mod AlternativeLists
pub mod MergedErrors
pub mod RefusedAlternatives
pub mod SliceCalls
