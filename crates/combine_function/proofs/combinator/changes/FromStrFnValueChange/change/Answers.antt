use Rattle.std.proofs.Common.{inl}
use Rattle.combine_function.proofs.Changes.{says_made}
use Rattle.combine_function.proofs.combinator.changes.FromStrFnValueChange.change.Goals as goal

pub returns-in_default-clause-changes : goal.returns-in_default-clause-changes
returns-in_default-clause-changes g c =
    let wrong = rw c.in_default.is at c.from_utf8.ensures in
    says_made _ _ _ _ _ _ _ _ _ (λ is p. inl (wrong, p)) c.new_error-error.ensures c.add_expected.ensures (inl wrong)
