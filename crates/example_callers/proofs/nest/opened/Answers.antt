use Rattle.combine_function.proofs.Once.{run_once}
use Rattle.example_callers.proofs.nest.opened.Goals as goal

pub returns : goal.returns
returns g c = run_once g.Input.StreamOnce.step g.Input.Error.ParseError.observers g.Input.StreamOnce.counts_failures g.Input.StreamOnce.view g.Input.StreamOnce.marks g.Input.StreamOnce.failures _ _ tt c.args.input.now c.parse_stream.new.input c.parse_stream.result c.parse_stream.ensures.passes (rw (c.optional.ensures, c.token.ensures) at c.parse_stream.ensures.answers)
