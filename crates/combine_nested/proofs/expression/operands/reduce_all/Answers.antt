use Rattle.std.proofs.Common.{arith, reverse, vec_items}
use Rattle.std.proofs.lemmas.Result.{err_from_is_err_and}
use Rattle.combine_nested.specs.OpenExpressions.{HoldsOperand}
use Rattle.combine_nested.proofs.Reductions.{complete_at, pop_reduced}
use Rattle.combine_nested.proofs.OpenExpressions.{pop_refuses}
use Rattle.combine_nested.proofs.expression.operands.reduce_all.Goals as goal

pub innermost-preserved : goal.innermost-preserved
innermost-preserved g c = λ levels ts h. pop_reduced levels g.O.Operator.changes g.O.Operator.joins (vec_items c.innermost.pending) (vec_items c.pop.new.self) c.in-Some.waits c.innermost.held c.in_ok-held.held ts c.in-Some.ensures.items c.in_ok-held.ensures (c.innermost.invariant levels ts h)

pub returns-in_err-held : goal.returns-in_err-held
returns-in_err-held g c =
    let p = err_from_is_err_and c.from_residual.result c.from_residual.ensures.1 in
    rw (p.1, p.2) (pop_refuses g.O.Operator.refuses_operand g.O.Operator.refuses_operands g.O.Operator.changes g.O.Operator.joins (vec_items c.innermost.pending) (vec_items c.pop.new.self) c.in-Some.waits c.innermost.held (λ levels. HoldsOperand levels g.O.Operator.changes g.O.Operator.joins (reverse (vec_items c.args.pending)) c.args.held) (λ _. Unit {0}) c.in_err-held.field-0.0 c.in-Some.ensures.items c.innermost.invariant tt c.in_err-held.ensures)

pub returns : goal.returns
returns g c = λ levels ts h. complete_at levels g.O.Operator.changes g.O.Operator.joins (vec_items c.innermost.pending) c.innermost.held ts (let e = c.in_default.ensures in omega arith) (c.innermost.invariant levels ts h)
