use Rattle.std.proofs.Common.{Some, ap, refl, rules}
use Rattle.combine_nested.proofs.OpenExpressions.{follows_operand, none_of, operand_misfits}
use Rattle.combine_nested.proofs.expression.operands.Operands+O+O+Value+N.operand.Goals as goal

pub returns-then-is_some : goal.returns-then-is_some
returns-then-is_some g c = operand_misfits g.O.Operator.changes g.O.Operator.joins c.args.self c.args.value (search rules)

pub returns : goal.returns
returns g c = follows_operand g.O.Operator.changes g.O.Operator.joins c.args.self _ c.args.value (none_of c.args.self.held (search rules)) refl refl (ap (λ n. Some (record { value = c.args.value; level = n })) c.number_of-level.ensures)
