use Rattle.combine_base.specs.Parser.Answer.{world}
use Rattle.combine_choice.proofs.Choices.HalfCalls.{may_settle}
use Rattle.combine_choice.proofs.or.alternatives.choose_second_half.Goals as goal

pub settle_second-requires : goal.settle_second-requires
settle_second-requires g c = may_settle (world g.Input.StreamOnce.step g.Input.Error.ParseError.observers g.Input.StreamOnce.counts_failures g.R.State.Default.is_default) _ _ c.requires.refused _ c.choose-answer.ensures.chose

pub returns-clause-followed : goal.returns-clause-followed
returns-clause-followed g c = record { answer = _; stopped = _; called = c.choose-answer.ensures.chose; settled = c.settle_second.ensures }
