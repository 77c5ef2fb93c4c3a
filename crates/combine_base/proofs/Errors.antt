-- errors: what a call's error says, which refusals are meant, and items added
pub mod AddedItems
pub mod CallErrors
pub mod CallReasons
pub mod Explanations
pub mod MeantRefusals
