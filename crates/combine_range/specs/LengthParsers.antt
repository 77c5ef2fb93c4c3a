-- `length_prefix` of a parser
use Rattle.std.specs.Prelude.{ℕ}
use Rattle.combine_function.specs.ChangeParsers.{changed_of}
use Rattle.combine_function.specs.declared.combinator.changed.Changed.{Changed}
use Rattle.combine_range.specs.declared.length_prefix.prefix.AsLength.{AsLength}
use Rattle.combine_range.specs.declared.length_prefix.prefix.Taking.{Taking}
use Rattle.combine_combinator.specs.CombinatorParsers.{no_partial_of}
use Rattle.combine_combinator.specs.declared.combinator.look.NoPartial.{NoPartial}
use Rattle.combine_sequence.specs.Then.{answered_of}
use Rattle.combine_sequence.specs.declared.sequence.answered.Answered.{Answered}

abbrev pub length_prefix_of : {Input Q R : Type 0} → Q → NoPartial (Answered (Changed Q AsLength ℕ) (Taking Input) R)
length_prefix_of q = no_partial_of (answered_of (changed_of q (record {})) (record { 0 = record {} }))
