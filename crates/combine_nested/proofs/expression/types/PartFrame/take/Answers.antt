use Rattle.combine_nested.proofs.PartSteps.{takes_close, takes_infix, takes_operand, takes_postfix, takes_prefix}
use Rattle.combine_nested.proofs.expression.types.PartFrame.take.Goals as goal

pub returns-in-Operand : goal.returns-in-Operand
returns-in-Operand g c = takes_operand g.O.Operator.changes g.O.Operator.joins g.O.Operator.refuses_operand g.O.Operator.refuses_operands c.args.self c.args.item c.stay.result c.operand.result c.stay.ensures c.in-Operand.value c.in-Operand.is c.operand.ensures

pub returns-in-Prefix : goal.returns-in-Prefix
returns-in-Prefix g c = takes_prefix g.O.Operator.changes g.O.Operator.joins g.O.Operator.refuses_operand g.O.Operator.refuses_operands c.args.self c.args.item c.stay-in-Prefix.result c.prefix.result c.stay-in-Prefix.ensures c.in-Prefix.level c.in-Prefix.operator c.in-Prefix.is c.prefix.ensures

pub returns-in-Postfix : goal.returns-in-Postfix
returns-in-Postfix g c = takes_postfix g.O.Operator.changes g.O.Operator.joins g.O.Operator.refuses_operand g.O.Operator.refuses_operands c.args.self c.args.item c.stay-in-Postfix.result c.postfix.result c.stay-in-Postfix.ensures c.in-Postfix.level c.in-Postfix.operator c.in-Postfix.is c.postfix.ensures

pub returns-in-Infix : goal.returns-in-Infix
returns-in-Infix g c = takes_infix g.O.Operator.changes g.O.Operator.joins g.O.Operator.refuses_operand g.O.Operator.refuses_operands c.args.self c.args.item c.stay-in-Infix.result c.infix.result c.stay-in-Infix.ensures c.in-Infix.level c.in-Infix.operator c.in-Infix.is c.infix.ensures

pub returns-in-Close : goal.returns-in-Close
returns-in-Close g c = takes_close g.O.Operator.changes g.O.Operator.joins g.O.Operator.refuses_operand g.O.Operator.refuses_operands c.args.self c.args.item c.close-in-Close.result c.close.result c.in-Close.is c.close.ensures c.close-in-Close.ensures
