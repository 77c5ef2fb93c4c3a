use Rattle.combine_base.specs.Parser.Answer.{world}
use Rattle.combine_choice.proofs.Choices.FirstAlternative.{first_begun_valid}
use Rattle.combine_choice.proofs.Choices.HalfCalls.{resumed, tried}
use Rattle.combine_choice.proofs.or.alternatives.choose_first_half.Goals as goal

pub returns-in-Err-clause-tried : goal.returns-in-Err-clause-tried
returns-in-Err-clause-tried g c =
    let b = rw c.in-Err.is at c.begin.ensures.begun.is in
    resumed (world g.Input.StreamOnce.step g.Input.Error.ParseError.observers g.Input.StreamOnce.counts_failures g.L.State.Default.is_default) _ g.L.Alternatives.valid _ _ _ _ _ _ _ c.requires.lawful _ b.0 b.1 c.begin.ensures.left

pub choose-answer-requires-clause-valid : goal.choose-answer-requires-clause-valid
choose-answer-requires-clause-valid g c =
    let b = rw c.in-Ok.is at c.begin.ensures.begun.is in
    first_begun_valid g.L.State.Default.is_default g.L.Alternatives.valid g.met.L.Alternatives.default_valid _ _ _ b c.requires.valid

pub returns-clause-tried : goal.returns-clause-tried
returns-clause-tried g c =
    let b = rw c.in-Ok.is at c.begin.ensures.begun.is in
    let stands = g.met.Input.ResetStream.lasts _ _ _ _ c.choose-answer.ensures.chose.passes.marks c.checkpoint-start.ensures.stands in
    tried g.Input.StreamOnce.step g.Input.Error.ParseError.observers g.Input.StreamOnce.counts_failures _ _ _ _ _ _ _ _ _ _ _ _ _ b (first_begun_valid g.L.State.Default.is_default g.L.Alternatives.valid g.met.L.Alternatives.default_valid _ _ _ b c.requires.valid) _ c.choose-answer.ensures.chose stands c.settle_first.ensures.passes _ c.settle_first.ensures.goes
