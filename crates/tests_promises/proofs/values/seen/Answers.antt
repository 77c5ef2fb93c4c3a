use Rattle.tests_promises.proofs.values.seen.Goals as goal

pub keeps_without_memory-requires-clause-determined : goal.keeps_without_memory-requires-clause-determined
keeps_without_memory-requires-clause-determined g c = (tt, record { whole = record { one = λ v a b n m k l p q z x d. d }; rest = λ s i. record { one = λ v a b n m k l p q z x d. d } })
