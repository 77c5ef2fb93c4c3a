use Rattle.std.proofs.Common.{refl, sym, ◌∙◌, inl, inr}
use Rattle.std.proofs.lemmas.Bool.{false≢true}
use Rattle.combine_separated.proofs.separated.run_later.Goals as goal

pub returns-in-CommitOk-clause-ran : goal.returns-in-CommitOk-clause-ran
returns-in-CommitOk-clause-ran g c = record { stopped = _; answer = _; answers = c.in-CommitOk.ensures.called.answers; refuses = c.in-CommitOk.ensures.called.refuses; is = refl; leaves = inr (λ q. q, refl) }

pub returns-in-PeekOk-clause-ran : goal.returns-in-PeekOk-clause-ran
returns-in-PeekOk-clause-ran g c = record { stopped = _; answer = _; answers = c.in-PeekOk.ensures.called.answers; refuses = c.in-PeekOk.ensures.called.refuses; is = refl; leaves = inr (λ q. q, refl) }

pub returns-then-needs_more-clause-ran : goal.returns-then-needs_more-clause-ran
returns-then-needs_more-clause-ran g c = record { stopped = _; answer = _; answers = c.in-CommitErr.ensures.called.answers; refuses = c.in-CommitErr.ensures.called.refuses; is = refl; leaves = inl (c.needs_more.ensures.0 c.if-needs_more.true, c.later.ensures, (c.in-CommitErr.ensures.led, c.in-CommitErr.ensures.called.valid)) }

pub returns-in-CommitErr-clause-ran : goal.returns-in-CommitErr-clause-ran
returns-in-CommitErr-clause-ran g c = record { stopped = _; answer = _; answers = c.in-CommitErr.ensures.called.answers; refuses = c.in-CommitErr.ensures.called.refuses; is = refl; leaves = inr (λ q. false≢true (sym c.if-needs_more.false ∙ c.needs_more.ensures.1 q), refl) }

pub returns-clause-ran : goal.returns-clause-ran
returns-clause-ran g c = record { stopped = _; answer = _; answers = c.in-PeekErr.ensures.called.answers; refuses = c.in-PeekErr.ensures.called.refuses; is = refl; leaves = inr (λ q. q, refl) }
