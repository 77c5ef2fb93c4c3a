use Rattle.std.proofs.Common.{refl, sym, ◌∙◌, inl, inr}
use Rattle.std.proofs.lemmas.Bool.{false≢true}
use Rattle.combine_base.proofs.Errors.MeantRefusals.{reasoned_at_rest}
use Rattle.combine_base.proofs.Parsers.CallStarts.{at_rest}
use Rattle.combine_separated.proofs.ended.run_first.Goals as goal

pub returns-in-CommitOk-clause-ran : goal.returns-in-CommitOk-clause-ran
returns-in-CommitOk-clause-ran g c = record { stopped = _; answer = _; answers = at_rest _ _ _ (g.met.P.Parser.laws _ c.requires.lawful) _ c.requires.starts _ c.in-CommitOk.ensures.answers; refuses = reasoned_at_rest (g.met.P.Parser.laws _ c.requires.lawful) g.Input.Error.ParseError.observers c.requires.starts c.in-CommitOk.ensures.refuses; is = refl; leaves = inr (λ q. q, refl) }

pub returns-in-PeekOk-clause-ran : goal.returns-in-PeekOk-clause-ran
returns-in-PeekOk-clause-ran g c = record { stopped = _; answer = _; answers = at_rest _ _ _ (g.met.P.Parser.laws _ c.requires.lawful) _ c.requires.starts _ c.in-PeekOk.ensures.answers; refuses = reasoned_at_rest (g.met.P.Parser.laws _ c.requires.lawful) g.Input.Error.ParseError.observers c.requires.starts c.in-PeekOk.ensures.refuses; is = refl; leaves = inr (λ q. q, refl) }

pub returns-then-needs_more-clause-ran : goal.returns-then-needs_more-clause-ran
returns-then-needs_more-clause-ran g c = record { stopped = _; answer = _; answers = at_rest _ _ _ (g.met.P.Parser.laws _ c.requires.lawful) _ c.requires.starts _ c.in-CommitErr.ensures.answers; refuses = reasoned_at_rest (g.met.P.Parser.laws _ c.requires.lawful) g.Input.Error.ParseError.observers c.requires.starts c.in-CommitErr.ensures.refuses; is = refl; leaves = inl (c.needs_more.ensures.0 c.if-needs_more.true, refl, c.in-CommitErr.ensures.valid) }

pub returns-in-CommitErr-clause-ran : goal.returns-in-CommitErr-clause-ran
returns-in-CommitErr-clause-ran g c = record { stopped = _; answer = _; answers = at_rest _ _ _ (g.met.P.Parser.laws _ c.requires.lawful) _ c.requires.starts _ c.in-CommitErr.ensures.answers; refuses = reasoned_at_rest (g.met.P.Parser.laws _ c.requires.lawful) g.Input.Error.ParseError.observers c.requires.starts c.in-CommitErr.ensures.refuses; is = refl; leaves = inr (λ q. false≢true (sym c.if-needs_more.false ∙ c.needs_more.ensures.1 q), refl) }

pub returns-clause-ran : goal.returns-clause-ran
returns-clause-ran g c = record { stopped = _; answer = _; answers = at_rest _ _ _ (g.met.P.Parser.laws _ c.requires.lawful) _ c.requires.starts _ c.in-PeekErr.ensures.answers; refuses = reasoned_at_rest (g.met.P.Parser.laws _ c.requires.lawful) g.Input.Error.ParseError.observers c.requires.starts c.in-PeekErr.ensures.refuses; is = refl; leaves = inr (λ q. q, refl) }
