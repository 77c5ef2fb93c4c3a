use Rattle.tests_promises.proofs.Exactly.{asks_exactly}
use Rattle.tests_promises.proofs.promises.keeps_and_asks.Goals as goal

pub returns : goal.returns
returns g c = asks_exactly _ _ (g.met.P.Parser.single _ c.requires.lawful c.requires.determined).whole _ _ _ _ _ _ _ c.parse_first.ensures.answers
