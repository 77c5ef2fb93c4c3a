use Rattle.std.proofs.Common.{arith, refl, reverse, vec_items, ◌<◌, ◌∙◌}
use Rattle.std.proofs.lemmas.Result.{err_from_is_err_and}
use Rattle.combine_nested.specs.OpenExpressions.{HoldsOperand}
use Rattle.combine_nested.proofs.Reductions.{pop_reduced}
use Rattle.combine_nested.proofs.OpenExpressions.{none_asked, pop_refuses, pop_shape, stay_shape}
use Rattle.combine_nested.proofs.expression.operands.reduce_above.Goals as goal

pub innermost-init : goal.innermost-init
innermost-init g c = ((λ levels ts h. h), refl)

pub innermost-preserved : goal.innermost-preserved
innermost-preserved g c = ((λ levels ts h. pop_reduced levels g.O.Operator.changes g.O.Operator.joins (vec_items c.innermost.pending) (vec_items c.pop.new.self) c.in-Some.waits c.innermost.held c.in_ok-held.held ts c.in-Some.ensures.items c.in_ok-held.ensures (c.innermost.invariant.0 levels ts h)), c.innermost.invariant.1 ∙ pop_shape g.O.Operator.changes g.O.Operator.joins (vec_items c.innermost.pending) (vec_items c.pop.new.self) c.in-Some.waits c.innermost.held c.in_ok-held.held c.args.level c.in-Some.ensures.items (let e = c.asked_by.ensures in let t = c.innermost-test.true in omega arith) c.in_ok-held.ensures)

pub returns-in_err-held : goal.returns-in_err-held
returns-in_err-held g c =
    let p = err_from_is_err_and c.from_residual.result c.from_residual.ensures.1 in
    rw (p.1, p.2) (pop_refuses g.O.Operator.refuses_operand g.O.Operator.refuses_operands g.O.Operator.changes g.O.Operator.joins (vec_items c.innermost.pending) (vec_items c.pop.new.self) c.in-Some.waits c.innermost.held (λ levels. HoldsOperand levels g.O.Operator.changes g.O.Operator.joins (reverse (vec_items c.args.pending.now)) c.args.held) (λ a. c.args.level < a) c.in_err-held.field-0.0 c.in-Some.ensures.items c.innermost.invariant.0 (let e = c.asked_by.ensures in let t = c.innermost-test.true in omega arith) c.in_err-held.ensures)

pub returns-in_default : goal.returns-in_default
returns-in_default g c = absurd (none_asked (vec_items c.innermost.pending) c.args.level (let e = c.in_default.ensures in omega arith) (let e = c.asked_by.ensures in let t = c.innermost-test.true in omega arith))

pub returns : goal.returns
returns g c = record {
  low = (let e = c.asked_by.ensures in let t = c.innermost-test.false in omega arith);
  holds = c.innermost.invariant.0;
  shape = c.innermost.invariant.1 ∙ stay_shape g.O.Operator.changes g.O.Operator.joins (vec_items c.innermost.pending) c.innermost.held.level c.args.level (let e = c.asked_by.ensures in let t = c.innermost-test.false in omega arith);
}
