pub use Rattle.combine_base.specs.Parser.Meaning
pub use Rattle.combine_base.specs.Parser.Outcome
pub use Rattle.combine_base.specs.Sequence.Tuples
pub use Rattle.combine_base.specs.Stream.View
pub use Rattle.combine_combinator.specs.CombinatorParsers
pub mod Then
pub mod Values
