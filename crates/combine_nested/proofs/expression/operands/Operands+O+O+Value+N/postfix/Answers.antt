use Rattle.std.proofs.Common.{refl, vec_items}
use Rattle.std.proofs.lemmas.Result.{err_from_is_err_and}
use Rattle.combine_nested.proofs.OpenExpressions.{follows_postfix, postfix_misfits, postfix_misplaced, postfix_refused, postfix_refuses}
use Rattle.combine_nested.proofs.expression.operands.Operands+O+O+Value+N.postfix.Goals as goal

pub returns-in_default : goal.returns-in_default
returns-in_default g c = postfix_misfits g.O.Operator.changes g.O.Operator.joins c.args.self c.args.level c.args.operator c.in_default.is

pub returns-in_err-before : goal.returns-in_err-before
returns-in_err-before g c =
    let p = err_from_is_err_and c.from_residual.result c.from_residual.ensures.1 in
    rw (p.1, p.2) (postfix_refused g.O.Operator.refuses_operand g.O.Operator.refuses_operands g.O.Operator.changes g.O.Operator.joins c.args.self c.in-Some.held c.in-Some.is c.args.level c.args.operator c.in_err-before.field-0.0 c.in_err-before.ensures)

pub returns-then-not-is_postfix : goal.returns-then-not-is_postfix
returns-then-not-is_postfix g c = postfix_misplaced g.O.Operator.changes g.O.Operator.joins c.args.self c.args.level c.args.operator c.in-Some.held c.in_ok-before.before (vec_items c.reduce_above.new.pending) c.in-Some.is c.in_ok-before.ensures.shape (let e = c.is_postfix.ensures in let t = c.if-not-is_postfix.true in cc)

pub returns-in_err-whole : goal.returns-in_err-whole
returns-in_err-whole g c =
    let p = err_from_is_err_and c.from_residual-in_err-whole.result c.from_residual-in_err-whole.ensures.1 in
    rw (p.1, p.2) (postfix_refuses g.O.Operator.refuses_operand g.O.Operator.refuses_operands g.O.Operator.changes g.O.Operator.joins c.args.self c.in-Some.held c.in-Some.is c.args.level c.args.operator c.in_ok-before.before (vec_items c.reduce_above.new.pending) c.in_err-whole.field-0.0 c.in_ok-before.ensures (let e = c.is_postfix.ensures in let t = c.if-not-is_postfix.false in cc) c.in_err-whole.ensures)

pub returns : goal.returns
returns g c = follows_postfix g.O.Operator.changes g.O.Operator.joins c.args.self _ c.in_ok-before.before c.in-Some.held (vec_items c.reduce_above.new.pending) c.args.level c.in_ok-before.ensures c.args.operator c.in_ok-whole.whole c.in-Some.is (let e = c.is_postfix.ensures in let t = c.if-not-is_postfix.false in cc) c.in_ok-whole.ensures refl refl refl
