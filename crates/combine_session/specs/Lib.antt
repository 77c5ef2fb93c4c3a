pub use Rattle.combine_base.specs.Parser.Meaning
pub mod Cuts
pub mod Pieces
pub mod Sessions
