use Rattle.feedline_core.specs.Messages.{message}
use Rattle.feedline_core.proofs.OnInput.{runs_unlimited}
use Rattle.feedline_core.proofs.feeding.run.Goals as goal

pub returns-clause-unlimited : goal.returns-clause-unlimited
returns-clause-unlimited g c = runs_unlimited message.whole message.rest _ _ _ _ _ c.run_limited.ensures
