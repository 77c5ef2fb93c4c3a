use Rattle.combine_base.proofs.Parsers.SameMeanings.{passes_more}
use Rattle.std.proofs.Common.{arith}
use Rattle.combine_range.proofs.RangePlaces.{sought_range_more, seeks_end, seeks_none, seeks_broken, seeks_unread}
use Rattle.combine_range.proofs.places.seek.Goals as goal

pub returns-in-Ok-None-clause-seeks : goal.returns-in-Ok-None-clause-seeks
returns-in-Ok-None-clause-seeks g c = seeks_none c.loop-found.invariant.sought (rw c.in-Ok-None.field-0-is at c.in-Ok-None.ensures.tells)

pub returns-in-Err-clause-seeks : goal.returns-in-Err-clause-seeks
returns-in-Err-clause-seeks g c =
    let p = c.loop-found.invariant.passes in
    seeks_broken c.loop-found.invariant.sought _ p.reads p.resets c.in-Err.ensures.tells

pub loop-found-preserved : goal.loop-found-preserved
loop-found-preserved g c =
    let t = rw c.in-Ok-Some.field-0-is at c.in-Ok-Some.ensures.tells in
    record {
      passes = passes_more (passes_more c.loop-found.invariant.passes c.begins_with.ensures.passes) c.uncons.ensures.passes;
      sought = sought_range_more c.loop-found.invariant.sought (rw c.if-found.false at t) _ _ _ c.in-Ok.ensures.read;
    }

pub returns-in-Err-End-clause-seeks : goal.returns-in-Err-End-clause-seeks
returns-in-Err-End-clause-seeks g c =
    let t = rw c.in-Ok-Some.field-0-is at c.in-Ok-Some.ensures.tells in
    seeks_end c.loop-found.invariant.sought (rw c.if-found.false at t) _ _ (rw c.in-Err-End.field-0-is at c.in-Err-End.ensures.read)

pub returns-in-Err-Read-clause-seeks : goal.returns-in-Err-Read-clause-seeks
returns-in-Err-Read-clause-seeks g c =
    let t = rw c.in-Ok-Some.field-0-is at c.in-Ok-Some.ensures.tells in
    let a = c.loop-found.invariant.passes.reads in
    let b = c.begins_with.ensures.passes.reads in
    seeks_unread c.loop-found.invariant.sought (rw c.if-found.false at t) _ _ (omega arith) (rw c.in-Err-Read.field-0-is at c.in-Err-Read.ensures.read)
