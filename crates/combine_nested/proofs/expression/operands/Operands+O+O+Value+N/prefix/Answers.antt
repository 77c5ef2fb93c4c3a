use Rattle.std.proofs.Common.{refl, rules}
use Rattle.combine_nested.proofs.OpenExpressions.{follows_prefix, none_of, prefix_misfits, prefix_misplaced}
use Rattle.combine_nested.proofs.expression.operands.Operands+O+O+Value+N.prefix.Goals as goal

pub returns-then-is_some : goal.returns-then-is_some
returns-then-is_some g c = prefix_misfits g.O.Operator.changes g.O.Operator.joins c.args.self c.args.level c.args.operator (search rules)

pub returns-then-not-is_prefix : goal.returns-then-not-is_prefix
returns-then-not-is_prefix g c = prefix_misplaced g.O.Operator.changes g.O.Operator.joins c.args.self c.args.level c.args.operator (none_of c.args.self.held (search rules)) (let e = c.is_prefix.ensures in let a = c.asked_by.ensures in let t = c.if-not-is_prefix.true in cc)

pub returns : goal.returns
returns g c = follows_prefix g.O.Operator.changes g.O.Operator.joins c.args.self _ c.args.level c.args.operator (none_of c.args.self.held (search rules)) (let e = c.is_prefix.ensures in let a = c.asked_by.ensures in let t = c.if-not-is_prefix.false in cc) refl c.in-Ok.ensures refl
