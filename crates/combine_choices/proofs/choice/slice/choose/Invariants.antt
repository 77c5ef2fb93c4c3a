use Rattle.std.proofs.Common.{ℕ, ◌≡◌, ◌≤◌, drop, false}
use Rattle.std.specs.List.{All}
use Rattle.combine_base.specs.Parser.Answer.{world}
use Rattle.combine_base.specs.Stream.Calls.{Passes}
use Rattle.combine_choices.specs.ListChoice.{AllSame}
use Rattle.combine_base.specs.Parser.Meaning.{begun, begun_refuses}
use Rattle.combine_choices.specs.MergedErrors.{tried_refuses}
use Rattle.combine_choices.proofs.MergedErrors.{MakesUpError}
use Rattle.combine_choices.proofs.RefusedAlternatives.{RefusedBefore}
use Rattle.combine_choices.specs.declared.choice.slice.SliceState.TheVariants.{Peek, At}
use Rattle.combine_choices.proofs.choice.slice.choose.Given as goal

abbrev pub invariant-loop-at : goal.invariant-loop-at
invariant-loop-at g l = record {
  lawful : All g.P.Parser.lawful l.alternatives;
  same : AllSame g.P.Parser.meaning l.fn.alternatives l.alternatives;
  untried : (k : ℕ) → l.at ≤ k → drop k l.alternatives ≡ drop k l.fn.alternatives;
  state : l.state ≡ Peek;
  passes : Passes (g.Input.StreamOnce.marks l.fn.input) (g.Input.StreamOnce.marks l.input) (g.Input.StreamOnce.failures l.fn.input) (g.Input.StreamOnce.failures l.input);
  refusing : RefusedBefore (world g.Input.StreamOnce.step g.Input.Error.ParseError.observers g.Input.StreamOnce.counts_failures g.P.PartialState.Default.is_default) g.Input.Error.ParseError.observers g.Input.Position.Ord.cmp g.P.Parser.meaning l.fn.alternatives false (At l.fn.index l.fn.kept) (g.Input.StreamOnce.view l.fn.input) (g.Input.StreamOnce.failures l.fn.input) (drop l.at l.fn.alternatives) (g.Input.StreamOnce.view l.input) (g.Input.StreamOnce.failures l.input) (g.Input.Error.ParseError.observers.kind l.refused.error);
  goes : MakesUpError g.Input.Error.ParseError.observers g.Input.Position.Ord.cmp g.P.Parser.meaning (g.Input.StreamOnce.view l.fn.input) (tried_refuses g.Input.Error.ParseError.observers g.Input.Position.Ord.cmp g.P.Parser.meaning (λ x. begun (g.P.Parser.meaning x) (g.M.ParseMode.first l.fn.mode) l.fn.kept) (λ x. begun_refuses (g.P.Parser.meaning x) (g.M.ParseMode.first l.fn.mode) l.fn.kept) (drop l.fn.index l.fn.alternatives) (g.Input.StreamOnce.view l.fn.input)) (drop l.at l.fn.alternatives) (g.Input.StreamOnce.view l.input) l.refused.error;
}
