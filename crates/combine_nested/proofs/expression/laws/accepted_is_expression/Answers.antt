use Rattle.combine_nested.specs.Asks.{asked_by_some}
use Rattle.combine_nested.specs.NestedSteps.{depth_part, root_part, step_asker}
use Rattle.combine_nested.specs.SpelledItems.{accepted_is_expression}
use Rattle.combine_nested.proofs.expression.laws.accepted_is_expression.Goals as goal

pub returns : goal.returns
returns g c = λ alloc levels k. accepted_is_expression levels g.O.Operator.changes g.O.Operator.joins g.O.Operator.refuses_operand g.O.Operator.refuses_operands (depth_part c.args.parser.now) g.Input.StreamOnce.step (g.S.RefFunction.returns (step_asker c.args.parser.now)) (asked_by_some g.S.RefFunction.callable g.S.RefFunction.returns g.P.Parser.lawful) g.P.Parser.meaning (root_part c.args.parser.now).levels k.has_levels
