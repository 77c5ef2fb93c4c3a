use Rattle.combine_base.specs.Parser.Faults.{parse_without_fault}
use Rattle.example_callers.proofs.faults.of_a_slice.Goals as goal

pub returns : goal.returns
returns c = parse_without_fault _ _ _ _ _ _ _ _ c.parse.ensures.results
