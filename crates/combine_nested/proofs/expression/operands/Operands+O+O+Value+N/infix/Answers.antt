use Rattle.std.proofs.Common.{arith, refl, sym, vec_items, ◌∙◌}
use Rattle.std.proofs.lemmas.Result.{err_from_is_err_and}
use Rattle.combine_nested.proofs.OpenExpressions.{follows_infix, infix_misfits, infix_misplaced, infix_refused, infix_too_low}
use Rattle.combine_nested.proofs.expression.operands.Operands+O+O+Value+N.infix.Goals as goal

pub returns-in_default : goal.returns-in_default
returns-in_default g c = infix_misfits g.O.Operator.changes g.O.Operator.joins c.args.self c.args.level c.args.operator c.in_default.is

pub returns-in_default-sides : goal.returns-in_default-sides
returns-in_default-sides g c = infix_misplaced g.O.Operator.changes g.O.Operator.joins c.args.self c.args.level c.args.operator c.in-Some.held c.in-Some.is (sym c.sides.ensures ∙ c.in_default-sides.is)

pub returns-in_err-left : goal.returns-in_err-left
returns-in_err-left g c =
    let p = err_from_is_err_and c.from_residual.result c.from_residual.ensures.1 in
    rw (p.1, p.2) (infix_refused g.O.Operator.refuses_operand g.O.Operator.refuses_operands g.O.Operator.changes g.O.Operator.joins c.args.self c.in-Some.held c.in-Some.is c.args.level c.args.operator c.in_err-left.field-0.0 c.in_err-left.ensures)

pub returns-then-left-lowest : goal.returns-then-left-lowest
returns-then-left-lowest g c = infix_too_low g.O.Operator.changes g.O.Operator.joins c.args.self c.args.level c.args.operator c.in-Some.held c.in_ok-left.left (vec_items c.reduce_above.new.pending) c.in-Some.is c.in_ok-left.ensures.shape c.in-Some-sides.lowest (sym c.sides.ensures ∙ c.in-Some-sides.is) (omega arith)

pub returns : goal.returns
returns g c = follows_infix g.O.Operator.changes g.O.Operator.joins c.args.self _ c.in_ok-left.left c.in-Some.held (vec_items c.reduce_above.new.pending) c.args.level c.in_ok-left.ensures c.in-Some-sides.lowest c.args.operator c.in-Some.is (sym c.sides.ensures ∙ c.in-Some-sides.is) (omega arith) refl c.in-Ok.ensures refl
