use Rattle.std.proofs.Common.{refl}
use Rattle.combine_base.specs.Parser.Faults.{results_without_fault}
use Rattle.example_callers.proofs.faults.of_a_fed_stream.Goals as goal

pub returns : goal.returns
returns c = results_without_fault _ _ _ _ _ refl _ c.parse_with_state.ensures.results
