use Rattle.std.proofs.Common.{ℕ, ◌≡◌, ◌≤◌, drop}
use Rattle.std.specs.List.{All}
use Rattle.combine_choices.specs.ListChoice.{AllSame}
use Rattle.combine_choices.proofs.SliceCalls.{Adding}
use Rattle.combine_choices.proofs.choice.slice.add_errors.Given as goal

abbrev pub invariant-loop-at : goal.invariant-loop-at
invariant-loop-at g l = record {
  lawful : All g.P.Parser.lawful l.alternatives;
  same : AllSame g.P.Parser.meaning l.fn.alternatives l.alternatives;
  untried : (k : ℕ) → l.at ≤ k → drop k l.alternatives ≡ drop k l.fn.alternatives;
  adding : Adding g.Input.Error.ParseError.observers g.P.Parser.meaning l.fn.alternatives (drop l.at l.fn.alternatives) l.fn.error.error l.error.error;
}
