use Rattle.std.proofs.Common.{refl, sym, ◌∙◌}
use Rattle.combine_repeat.specs.Turns.OneTurn.{EndedByRefusal}
use Rattle.combine_repeat.specs.Turns.Bounds.{Few, TurnMissing}
use Rattle.combine_repeat.proofs.OneTurn.{lacks_first, lacks_nothing, lacks_turns, turn_put_back, turn_not_put_back, ran_answers}
use Rattle.combine_repeat.proofs.turns.judge_refusal.Goals as goal

pub returns-in-Err-clause-halted : goal.returns-in-Err-clause-halted
returns-in-Err-clause-halted g c = λ p later r n a. turn_not_put_back _ _ _ _ _ _ _ _ _ _ _ _ _ _ _ _ (ran_answers _ _ _ _ _ _ n _ a) _ c.in-Err.ensures.to.is (rw n.failures at n.resets) _ c.new_error.ensures.kind

pub returns-in_default-clause-halted : goal.returns-in_default-clause-halted
returns-in_default-clause-halted g c = λ p later r n a.
    let i = c.in_default.ensures.to.is in
    let e = i.0 _ n.begun_at in
    EndedByRefusal (lacks_nothing _ _ _ (sym c.lacks.ensures ∙ c.in-Nothing.is)) (turn_put_back (ran_answers _ _ _ _ _ _ n _ a) e i.1) e refl

pub returns-in-First-clause-halted : goal.returns-in-First-clause-halted
returns-in-First-clause-halted g c = λ p later r n a. record { missing = (lacks_first _ _ _ (sym c.lacks.ensures ∙ c.in-First.is)).0; answers = ran_answers _ _ _ _ _ _ n _ a; turns = refl }

pub returns-in-First-clause-refuses : goal.returns-in-First-clause-refuses
returns-in-First-clause-refuses g c = λ p later. record { is = λ first s v q x. record { is = let h = lacks_first _ _ _ (sym c.lacks.ensures ∙ c.in-First.is) in (refl, TurnMissing refl h.0 h.1 x) } }

pub returns-else-eq-clause-refuses : goal.returns-else-eq-clause-refuses
returns-else-eq-clause-refuses g c = λ p later. record { is = λ first s v q x. record { is = let h = lacks_turns _ _ _ _ (sym c.lacks.ensures ∙ c.in-Turns.is) in (refl, Few refl h.0 h.1 c.args.refusal.error x (rw (q, ← h.2, ← c.kind.ensures, c.from.ensures) c.too_few-error.ensures)) } }
