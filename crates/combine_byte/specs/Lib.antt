pub use Rattle.combine_base.specs.Parser.Meaning
pub use Rattle.combine_base.specs.Error.Errors
pub use Rattle.combine_token.specs.Token.Stateless
pub mod Search
pub mod Bytes
pub mod Numbers
pub mod WholeNumbers
