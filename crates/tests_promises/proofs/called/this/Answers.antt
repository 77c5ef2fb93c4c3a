use Rattle.combine_function.proofs.Once.{standard_back}
use Rattle.tests_promises.proofs.called.this.Goals as goal

pub returns : goal.returns
returns g c = rw (c.into_result.ensures, standard_back c.parse_stream.result) (rw c.token.ensures at c.parse_stream.ensures.answers)
