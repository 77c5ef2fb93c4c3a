use Rattle.std.proofs.Common.{refl}
use Rattle.combine_choice.proofs.or.first.settle_second.Goals as goal
use Rattle.combine_choice.proofs.or.first.settle_second.Goals.{then-asks_for_more, else-asks_for_more}

pub returns-in-Some : goal.returns-in-Some
returns-in-Some g c =
    record {
      is = rw c.in-Some.is c.after_refusal.ensures;
      asks = λ i. elim c.if-asks_for_more.branch [ then-asks_for_more w ↦ w.state-is | else-asks_for_more w ↦ absurd (let j = c.asks_for_more.ensures.1 i in let k = w.if-asks_for_more.false in cc) ];
      ends = λ i. elim c.if-asks_for_more.branch [ then-asks_for_more w ↦ absurd (i (c.asks_for_more.ensures.0 w.if-asks_for_more.true)) | else-asks_for_more w ↦ w.state-is ];
    }

pub returns : goal.returns
returns g c =
    record {
      is = rw c.in-None.is refl;
      asks = λ i. elim c.if-asks_for_more.branch [ then-asks_for_more w ↦ w.state-is | else-asks_for_more w ↦ absurd (let j = c.asks_for_more.ensures.1 i in let k = w.if-asks_for_more.false in cc) ];
      ends = λ i. elim c.if-asks_for_more.branch [ then-asks_for_more w ↦ absurd (i (c.asks_for_more.ensures.0 w.if-asks_for_more.true)) | else-asks_for_more w ↦ w.state-is ];
    }
