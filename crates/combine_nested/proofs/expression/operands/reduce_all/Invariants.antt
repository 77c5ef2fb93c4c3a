use Rattle.std.proofs.Common.{List, reverse, vec_items, vec_len}
use Rattle.combine_nested.specs.Levels.{Thing}
use Rattle.combine_nested.specs.OpenExpressions.{HoldsOperand}
use Rattle.combine_nested.specs.declared.expression.Fixity.{Fixity}
use Rattle.combine_nested.proofs.expression.operands.reduce_all.Given as goal

abbrev pub invariant-innermost : goal.invariant-innermost
invariant-innermost g l = (levels : List Fixity) (ts : List (Thing g.row.O.Denot g.row.O-Value.Denot)) → HoldsOperand levels g.O.Operator.changes g.O.Operator.joins (reverse (vec_items l.fn.pending)) l.fn.held ts → HoldsOperand levels g.O.Operator.changes g.O.Operator.joins (reverse (vec_items l.pending)) l.held ts

abbrev pub decreases-innermost : goal.decreases-innermost
decreases-innermost g l = vec_len l.pending
