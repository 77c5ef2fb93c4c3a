-- parsers of one token, and of none
pub mod OneToken
pub mod PureValues
pub mod Stateless
pub mod TokenReasons
pub mod TwoAdditions
