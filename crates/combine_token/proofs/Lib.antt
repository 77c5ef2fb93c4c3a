pub mod Tokens
pub mod Lists
