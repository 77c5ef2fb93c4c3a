use Rattle.tests_promises.proofs.OneOutcome.{any_decides}
use Rattle.tests_promises.proofs.values.judged.Goals as goal

pub keeps_without_memory-requires-clause-determined : goal.keeps_without_memory-requires-clause-determined
keeps_without_memory-requires-clause-determined c =
    (tt, record { whole = any_decides _ _ _ (λ at a b x y. absurd (let i = x in let j = y.met.0 in cc)); rest = λ s k. any_decides _ _ _ (λ at a b x y. absurd (let i = x in let j = y.met.0 in cc)) })

pub keeps_without_memory-requires-2-clause-determined : goal.keeps_without_memory-requires-2-clause-determined
keeps_without_memory-requires-2-clause-determined c =
    (tt, record { whole = any_decides _ _ _ (λ at a b x y. absurd (let i = x in let j = y.met.0 in cc)); rest = λ s k. any_decides _ _ _ (λ at a b x y. absurd (let i = x in let j = y.met.0 in cc)) })
