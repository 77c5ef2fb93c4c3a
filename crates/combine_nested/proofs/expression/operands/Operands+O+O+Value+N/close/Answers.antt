use Rattle.combine_nested.proofs.OpenExpressions.{closes_so, ends_early}
use Rattle.combine_nested.proofs.expression.operands.Operands+O+O+Value+N.close.Goals as goal

pub returns-in_default : goal.returns-in_default
returns-in_default g c = ends_early g.O.Operator.changes g.O.Operator.joins c.args.self c.in_default.is

pub returns : goal.returns
returns g c = closes_so g.O.Operator.refuses_operand g.O.Operator.refuses_operands g.O.Operator.changes g.O.Operator.joins c.args.self c.in-Some.held c.in-Some.is c.reduce_all.result c.reduce_all.ensures
