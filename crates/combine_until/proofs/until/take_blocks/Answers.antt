use Rattle.std.proofs.Common.{ap, refl}
use Rattle.combine_base.proofs.Parsers.SameMeanings.{passes_more, same_more, same_none}
use Rattle.combine_until.proofs.UntilTurn.{blocks_shrink}
use Rattle.combine_until.proofs.UntilCalls.{handed_valid, reaches_afresh, reaches_first_block, reaches_on, running_valid, turn_back, until_settled}
use Rattle.combine_until.proofs.UntilErrors.{until_leads_first, until_leads_on, settled_reasons, short_reasons, stop_alike}
use Rattle.combine_until.proofs.until.take_blocks.Goals as goal
use Rattle.combine_base.specs.Parser.Meaning.{begun_reads}

pub turns-init : goal.turns-init
turns-init g c =
    let a = c.in-Ok.ensures.comes.is in
    let p = c.in-Ok.ensures.passes in
    let h = g.met.N.Parser.laws _ c.requires.lawful in
    let o = rw c.is_first.ensures at c.hand_out-before.ensures.out in
    let z = reaches_first_block _ g.Input.Error.ParseError.observers _ _ g.N.PartialState.Default.is_default g.N.Parser.valid h _ _ _ _ _ _ _ _ c.hand_out-before.result c.args.empty _ _ o c.requires.empty a c.or_committed-blocks.ensures refl p.reads p.resets _ a.first a.then in
    record {
      lawful = c.requires.lawful;
      valid = handed_valid g.N.PartialState.Default.is_default g.N.Parser.valid g.met.N.Parser.default_valid _ _ _ _ o c.requires.valid;
      same = same_none _;
      passes = p;
      cleared = c.hand_out-before.ensures.left;
      there = (_, a.stood, z);
      errors = until_leads_first _ _ _ _ h _ _ c.hand_out-before.result c.args.empty _ o (ap (λ b. b.took_before) c.or_committed-blocks.ensures) _ _ _ a.first a.then;
    }

pub turns-smaller : goal.turns-smaller
turns-smaller g c = blocks_shrink _ _ _ _ _ _ _ c.in-Goes.ensures.turned.is

pub turns-preserved : goal.turns-preserved
turns-preserved g c =
    let i = c.turns.invariant in
    let q = c.in-Goes.ensures.passes in
    let h = g.met.N.Parser.laws _ c.requires.lawful in
    let t = turn_back _ _ _ _ i.same _ _ _ _ c.in-Goes.ensures.turned in
    let z = reaches_on _ g.Input.Error.ParseError.observers _ _ (record { first = g.M.ParseMode.first c.args.mode; state = c.args.state.now; left = c.args.state.now; old = g.Input.StreamOnce.view c.args.input.now; new = g.Input.StreamOnce.view c.args.input.now; before = g.Input.StreamOnce.failures c.args.input.now; after = g.Input.StreamOnce.failures c.args.input.now }) _ _ _ i.there.2 (begun_reads g.N.PartialState.Default.is_default g.N.Parser.valid _ h _ _ i.valid) q.reads q.resets _ _ t.is _ in
    record {
      lawful = c.in-Goes.ensures.lawful;
      valid = c.in-Goes.ensures.valid;
      same = same_more _ _ _ i.same c.in-Goes.ensures.same;
      passes = passes_more i.passes q;
      cleared = i.cleared;
      there = (_, c.checkpoint-place.ensures.stands, reaches_afresh _ g.Input.Error.ParseError.observers _ _ g.N.PartialState.Default.is_default g.N.Parser.valid h _ _ _ _ _ _ _ _ _ _ t.is.accepts.state z);
      errors = until_leads_on _ _ _ _ h _ _ _ _ _ _ _ i.errors t.is.value t.is.accepts.count t.is.committed t.is.accepts.meant t.is.takes _ t.is.accepts.state _ t.is.accepts.taken.rest _ (ap (λ s. s.mark) t.is.blocks);
    }

pub returns-in-Stops-clause-valid : goal.returns-in-Stops-clause-valid
returns-in-Stops-clause-valid g c = running_valid _ _ _ _ c.in-Stops.ensures.valid c.turns.invariant.cleared c.settle_blocks.ensures.left

pub returns-in-Stops-clause-same : goal.returns-in-Stops-clause-same
returns-in-Stops-clause-same g c = same_more _ _ _ c.turns.invariant.same c.in-Stops.ensures.same

pub returns-in-Stops-clause-passes : goal.returns-in-Stops-clause-passes
returns-in-Stops-clause-passes g c = passes_more c.turns.invariant.passes (passes_more c.in-Stops.ensures.passes c.settle_blocks.ensures.passes)

pub returns-in-Stops-clause-answers : goal.returns-in-Stops-clause-answers
returns-in-Stops-clause-answers g c =
    let i = c.turns.invariant in
    let q = c.in-Stops.ensures.passes in
    let t = turn_back _ _ _ _ i.same _ _ _ _ c.in-Stops.ensures.turned in
    let start = g.met.Input.ResetStream.lasts _ _ _ _ q.marks (g.met.Input.ResetStream.lasts _ _ _ _ i.passes.marks c.checkpoint-start.ensures.stands) in
    until_settled _ g.Input.Error.ParseError.observers _ _ _ _ _ _ i.there.2 _ _ _ _ _ _ t.is c.settle_blocks.ensures.settled i.cleared i.there.1 start (g.met.Input.ResetStream.lasts _ _ _ _ q.marks i.there.1) q.reads q.resets

pub returns-in-Stops-clause-refuses : goal.returns-in-Stops-clause-refuses
returns-in-Stops-clause-refuses g c =
    let observers = g.Input.Error.ParseError.observers in
    let i = c.turns.invariant in
    let q = c.in-Stops.ensures.passes in
    let z = i.there.2 in
    let t = turn_back _ _ _ _ i.same _ _ _ _ c.in-Stops.ensures.turned in
    let start = g.met.Input.ResetStream.lasts _ _ _ _ q.marks (g.met.Input.ResetStream.lasts _ _ _ _ i.passes.marks c.checkpoint-start.ensures.stands) in
    let x = stop_alike observers (g.N.Parser.meaning c.args.parser.now) _ i.same _ _ _ _ _ _ c.in-Stops.ensures.refuses in
    settled_reasons _ observers _ _ _ _ _ _ _ _ _ _ _ _ i.errors _ _ _ _ _ _ t.is x c.settle_blocks.ensures.settled _ start (g.met.Input.ResetStream.lasts _ _ _ _ q.marks i.there.1) z.before z.beyond z.there z.on

pub returns-in-Err-clause-refuses : goal.returns-in-Err-clause-refuses
returns-in-Err-clause-refuses g c = short_reasons _ _ _ g.Input.StreamOnce.counts_failures g.Input.StreamOnce.step (g.Input.StreamOnce.view c.args.input.now) (g.Input.StreamOnce.view c.pass_to.new.input) (g.Input.StreamOnce.failures c.args.input.now) (g.Input.StreamOnce.failures c.pass_to.new.input) _ _ _ _ c.lost.ensures c.new_error.ensures.kind c.in-Err.ensures.comes.is.0
