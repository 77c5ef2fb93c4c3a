use Rattle.std.proofs.Common.{sym, refl, ◌∙◌}
use Rattle.combine_repeat.proofs.NextCalls.{gives_block, ends_turns, progress_block}
use Rattle.combine_repeat.specs.declared.iter.IterStep.TheVariants.{Over, Fails}
use Rattle.combine_repeat.proofs.iter.IterIterator.next.Goals as goal

pub returns-in-Gives-clause-steps : goal.returns-in-Gives-clause-steps
returns-in-Gives-clause-steps g c = gives_block _ _ _ _ _ _ _ _ (g.met.P.Parser.laws _ c.requires.lawful) c.requires.valid (sym c.is_running.ensures ∙ c.if-not-is_running.false) (c.in-Gives.ensures) c.set_first.ensures refl refl refl refl

pub returns-in-Gives-clause-goes : goal.returns-in-Gives-clause-goes
returns-in-Gives-clause-goes g c = progress_block _ _ _ _ _ _ _ _ (sym c.is_running.ensures ∙ c.if-not-is_running.false) (c.in-Gives.ensures) c.set_first.ensures refl

pub returns-in-Over-clause-steps : goal.returns-in-Over-clause-steps
returns-in-Over-clause-steps g c = ends_turns _ _ _ _ _ _ _ Over (sym c.is_running.ensures ∙ c.if-not-is_running.false) (c.in-Over.ensures) refl refl refl refl refl

pub returns-in-Fails-clause-steps : goal.returns-in-Fails-clause-steps
returns-in-Fails-clause-steps g c = ends_turns _ _ _ _ _ _ _ (Fails _) (sym c.is_running.ensures ∙ c.if-not-is_running.false) (c.in-Fails.ensures) refl refl refl refl refl
