use Rattle.combine_nested.specs.Levels.{Operand}
use Rattle.combine_nested.proofs.PartSteps.{stayed_goes}
use Rattle.combine_nested.proofs.expression.types.PartFrame.join.Goals as goal

pub returns : goal.returns
returns g c = stayed_goes g.O.Operator.changes g.O.Operator.joins g.O.Operator.refuses_operand g.O.Operator.refuses_operands c.args.self (Operand c.args.value) c.operand.result c.stay.result c.operand.ensures c.stay.ensures
