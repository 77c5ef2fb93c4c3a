use Rattle.combine_choice.specs.Choice.Alternatives.{both_merged}
use Rattle.combine_choice.specs.Choice.Or.{is_associative}
use Rattle.combine_choice.proofs.or.or_is_associative.Goals as goal

pub returns : goal.returns
returns g c = is_associative (both_merged g.Input.Error.ParseError.observers g.Input.Position.Ord.cmp) _ _ _
