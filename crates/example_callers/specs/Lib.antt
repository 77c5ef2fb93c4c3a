pub mod Attributes
pub mod Brackets
pub mod Nests
pub mod Records
