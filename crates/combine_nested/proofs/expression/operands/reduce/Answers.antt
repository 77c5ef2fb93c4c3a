use Rattle.combine_nested.proofs.OpenExpressions.{operator_blames}
use Rattle.combine_nested.proofs.expression.operands.reduce.Goals as goal

pub returns-in-Err : goal.returns-in-Err
returns-in-Err g c = rw c.fault_of.ensures (operator_blames g.O.Operator.refuses_operand g.O.Operator.refuses_operands c.args.waits.operator c.args.waits.left c.args.right _ c.in-Err.ensures)
