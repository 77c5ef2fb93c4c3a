use Rattle.std.proofs.Common.{rules}
use Rattle.tests_promises.proofs.sequences.dispatched.Goals as goal

pub keeps_and_asks-requires-clause-determined : goal.keeps_and_asks-requires-clause-determined
keeps_and_asks-requires-clause-determined g c = (tt, λ n i. search rules, record { whole = search rules; rest = λ s d. search rules })
