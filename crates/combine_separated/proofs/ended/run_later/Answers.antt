use Rattle.std.proofs.Common.{refl, sym, ◌∙◌, inl, inr}
use Rattle.std.proofs.lemmas.Bool.{false≢true}
use Rattle.combine_separated.specs.Ended.{optional_part_same}
use Rattle.combine_separated.proofs.ended.run_later.Goals as goal

pub returns-in-CommitOk-clause-ran : goal.returns-in-CommitOk-clause-ran
returns-in-CommitOk-clause-ran g c = record { stopped = _; answer = _; answers = c.in-CommitOk.ensures.called.answers; refuses = c.in-CommitOk.ensures.called.refuses; is = refl; leaves = inr (λ q. q, refl) }

pub returns-in-PeekOk-clause-ran : goal.returns-in-PeekOk-clause-ran
returns-in-PeekOk-clause-ran g c = record { stopped = _; answer = _; answers = c.in-PeekOk.ensures.called.answers; refuses = c.in-PeekOk.ensures.called.refuses; is = refl; leaves = inr (λ q. q, refl) }

pub returns-then-needs_more-clause-ran : goal.returns-then-needs_more-clause-ran
returns-then-needs_more-clause-ran g c = record { stopped = _; answer = _; answers = c.in-CommitErr.ensures.called.answers; refuses = c.in-CommitErr.ensures.called.refuses; is = refl; leaves = inl (c.needs_more.ensures.0 c.if-needs_more.true, c.later.ensures, c.in-CommitErr.ensures.called.valid) }

pub returns-in-CommitErr-clause-ran : goal.returns-in-CommitErr-clause-ran
returns-in-CommitErr-clause-ran g c = record { stopped = _; answer = _; answers = c.in-CommitErr.ensures.called.answers; refuses = c.in-CommitErr.ensures.called.refuses; is = refl; leaves = inr (λ q. false≢true (sym c.if-needs_more.false ∙ c.needs_more.ensures.1 q), refl) }

pub returns-clause-ran : goal.returns-clause-ran
returns-clause-ran g c = record { stopped = _; answer = _; answers = c.in-PeekErr.ensures.called.answers; refuses = c.in-PeekErr.ensures.called.refuses; is = refl; leaves = inr (λ q. q, refl) }

pub returns-in-CommitOk-clause-parts : goal.returns-in-CommitOk-clause-parts
returns-in-CommitOk-clause-parts g c = (c.in-CommitOk.ensures.parts.0, optional_part_same _ _ c.in-CommitOk.ensures.parts.1)

pub returns-in-PeekOk-clause-parts : goal.returns-in-PeekOk-clause-parts
returns-in-PeekOk-clause-parts g c = (c.in-PeekOk.ensures.parts.0, optional_part_same _ _ c.in-PeekOk.ensures.parts.1)

pub returns-then-needs_more-clause-parts : goal.returns-then-needs_more-clause-parts
returns-then-needs_more-clause-parts g c = (c.in-CommitErr.ensures.parts.0, optional_part_same _ _ c.in-CommitErr.ensures.parts.1)

pub returns-in-CommitErr-clause-parts : goal.returns-in-CommitErr-clause-parts
returns-in-CommitErr-clause-parts g c = (c.in-CommitErr.ensures.parts.0, optional_part_same _ _ c.in-CommitErr.ensures.parts.1)

pub returns-clause-parts : goal.returns-clause-parts
returns-clause-parts g c = (c.in-PeekErr.ensures.parts.0, optional_part_same _ _ c.in-PeekErr.ensures.parts.1)
