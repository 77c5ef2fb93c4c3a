use Rattle.std.proofs.Common.{length, take, arith, ap, ◌∙◌, length-drop, length-take-le}
use Rattle.combine_stream.proofs.BlockWalks.{few, passed_block, passed_inside, passed_rest, block_within}
use Rattle.combine_stream.proofs.TokenWalks.{passed_none}
use Rattle.combine_stream.proofs.range.slices.count_while.Goals as goal

pub walk-init : goal.walk-init
walk-init g c = passed_none _ _ _

pub overflow_add-n : goal.overflow_add-n
overflow_add-n g c =
    let split = c.in-Some.ensures.cases in
    let block = rw split.1 at c.count_each-passed.ensures in
    let m = few (g.F.Function.returns c.args.f.now) (take 8 c.walk.rest.now) _ block in
    let e = length-take-le 8 c.walk.rest.now split.0 in
    let w = block_within _ _ _ _ c.walk.invariant c.count_each-passed.result (omega arith) in
    omega arith

pub returns-then-passed-lt-BLOCK : goal.returns-then-passed-lt-BLOCK
returns-then-passed-lt-BLOCK g c =
    let split = c.in-Some.ensures.cases in
    passed_inside _ _ _ _ c.walk.invariant 8 _ split.0 (rw split.1 at c.count_each-passed.ensures) c.if-passed-lt-BLOCK.true

pub walk-smaller : goal.walk-smaller
walk-smaller g c =
    let split = c.in-Some.ensures.cases in
    let e = ap length split.2 ∙ length-drop 8 c.walk.rest.now in
    omega arith

pub walk-preserved : goal.walk-preserved
walk-preserved g c =
    let split = c.in-Some.ensures.cases in
    rw split.2 (passed_block _ _ _ _ c.walk.invariant 8 _ split.0 (rw split.1 at c.count_each-passed.ensures) (λ i. let x = c.if-passed-lt-BLOCK.false in omega arith))

pub overflow_add-result : goal.overflow_add-result
overflow_add-result g c =
    let m = few _ _ _ c.count_each.ensures in
    let w = block_within _ _ _ _ c.walk.invariant c.count_each.result m in
    omega arith

pub returns-in-None : goal.returns-in-None
returns-in-None g c = passed_rest _ _ _ _ c.walk.invariant _ c.count_each.ensures
