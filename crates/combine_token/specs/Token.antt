-- parsers of one token, of none, and of lists of tokens
pub mod Among
pub mod Lists
pub mod OneToken
pub mod PureValues
pub mod Stateless
pub mod TokenParsers
pub mod Together
pub mod TokenReasons
