use Rattle.std.proofs.Common.{inl, inr, refl, ap}
use Rattle.combine_base.specs.Parser.Answer.{world}
use Rattle.combine_base.proofs.Parsers.CallStarts.{at_rest}
use Rattle.combine_base.specs.declared.error.result.ParseResult.TheVariants.{CommitOk, PeekOk, CommitErr, PeekErr}
use Rattle.combine_repeat.specs.declared.iterate.items.Item.TheVariants as items
use Rattle.combine_repeat.proofs.ItemErrors.{item_at_rest}
use Rattle.combine_repeat.proofs.iterate.items.parse_item.Goals as goal
use Rattle.combine_repeat.proofs.iterate.items.parse_item.Goals.{in-CommitOk, in-PeekOk}

pub returns-then-needs_more : goal.returns-then-needs_more
returns-then-needs_more g c =
    let call = c.call_item.ensures in
    let around = world g.Input.StreamOnce.step g.Input.Error.ParseError.observers g.Input.StreamOnce.counts_failures g.N.PartialState.Default.is_default in
    record {
      parser = _;
      lawful = call.lawful;
      same = call.same;
      passes = call.passes;
      stopped = _;
      answer = CommitErr c.in-CommitErr.error;
      answers = at_rest around _ _ (g.met.N.Parser.laws c.args.from.parser c.requires.ready.lawful) _ c.requires.starts _ c.in-CommitErr.ensures.answers;
      refuses = item_at_rest (g.met.N.Parser.laws c.args.from.parser c.requires.ready.lawful) g.Input.Error.ParseError.observers _ _ c.requires.starts _ _ _ _ _ c.in-CommitErr.ensures.refuses;
      did = refl;
      keeps = inl (c.needs_more.ensures.0 c.if-needs_more.true, refl, c.in-CommitErr.ensures.valid);
    }

pub returns-in-CommitErr : goal.returns-in-CommitErr
returns-in-CommitErr g c =
    let call = c.call_item.ensures in
    let around = world g.Input.StreamOnce.step g.Input.Error.ParseError.observers g.Input.StreamOnce.counts_failures g.N.PartialState.Default.is_default in
    record {
      parser = _;
      lawful = call.lawful;
      same = call.same;
      passes = call.passes;
      stopped = _;
      answer = CommitErr c.in-CommitErr.error;
      answers = at_rest around _ _ (g.met.N.Parser.laws c.args.from.parser c.requires.ready.lawful) _ c.requires.starts _ c.in-CommitErr.ensures.answers;
      refuses = item_at_rest (g.met.N.Parser.laws c.args.from.parser c.requires.ready.lawful) g.Input.Error.ParseError.observers _ _ c.requires.starts _ _ _ _ _ c.in-CommitErr.ensures.refuses;
      did = refl;
      keeps = inr (λ q. let e = c.needs_more.ensures.1 q in let f = c.if-needs_more.false in cc, c.requires.fresh);
    }

pub returns-in-PeekErr : goal.returns-in-PeekErr
returns-in-PeekErr g c =
    let call = c.call_item.ensures in
    let around = world g.Input.StreamOnce.step g.Input.Error.ParseError.observers g.Input.StreamOnce.counts_failures g.N.PartialState.Default.is_default in
    record {
      parser = _;
      lawful = call.lawful;
      same = call.same;
      passes = call.passes;
      stopped = _;
      answer = PeekErr c.in-PeekErr.refusal;
      answers = at_rest around _ _ (g.met.N.Parser.laws c.args.from.parser c.requires.ready.lawful) _ c.requires.starts _ c.in-PeekErr.ensures.answers;
      refuses = item_at_rest (g.met.N.Parser.laws c.args.from.parser c.requires.ready.lawful) g.Input.Error.ParseError.observers _ _ c.requires.starts _ _ _ _ _ c.in-PeekErr.ensures.refuses;
      did = ap items.Stops c.refused_after.ensures;
      keeps = inr (λ q. q, c.requires.fresh);
    }

pub returns-in-Ok : goal.returns-in-Ok
returns-in-Ok g c =
    let call = c.call_item.ensures in
    let around = world g.Input.StreamOnce.step g.Input.Error.ParseError.observers g.Input.StreamOnce.counts_failures g.N.PartialState.Default.is_default in
    elim c.match-call_item.branch [
      | in-CommitOk w ↦ record {
        parser = _;
        lawful = call.lawful;
        same = call.same;
        passes = call.passes;
        stopped = _;
        answer = CommitOk _;
        answers = at_rest around _ _ (g.met.N.Parser.laws c.args.from.parser c.requires.ready.lawful) _ c.requires.starts _ w.in-CommitOk.ensures.answers;
        refuses = item_at_rest (g.met.N.Parser.laws c.args.from.parser c.requires.ready.lawful) g.Input.Error.ParseError.observers _ _ c.requires.starts _ _ _ _ _ w.in-CommitOk.ensures.refuses;
        did = rw w.value-is at c.in-Ok.ensures;
        keeps = inr (λ q. q, c.requires.fresh);
      }
      | in-PeekOk w ↦ record {
        parser = _;
        lawful = call.lawful;
        same = call.same;
        passes = call.passes;
        stopped = _;
        answer = PeekOk _;
        answers = at_rest around _ _ (g.met.N.Parser.laws c.args.from.parser c.requires.ready.lawful) _ c.requires.starts _ w.in-PeekOk.ensures.answers;
        refuses = item_at_rest (g.met.N.Parser.laws c.args.from.parser c.requires.ready.lawful) g.Input.Error.ParseError.observers _ _ c.requires.starts _ _ _ _ _ w.in-PeekOk.ensures.refuses;
        did = rw w.value-is at c.in-Ok.ensures;
        keeps = inr (λ q. q, c.requires.fresh);
      }
    ]

pub returns : goal.returns
returns g c =
    let call = c.call_item.ensures in
    let around = world g.Input.StreamOnce.step g.Input.Error.ParseError.observers g.Input.StreamOnce.counts_failures g.N.PartialState.Default.is_default in
    elim c.match-call_item.branch [
      | in-CommitOk w ↦ record {
        parser = _;
        lawful = call.lawful;
        same = call.same;
        passes = call.passes;
        stopped = _;
        answer = CommitOk _;
        answers = at_rest around _ _ (g.met.N.Parser.laws c.args.from.parser c.requires.ready.lawful) _ c.requires.starts _ w.in-CommitOk.ensures.answers;
        refuses = item_at_rest (g.met.N.Parser.laws c.args.from.parser c.requires.ready.lawful) g.Input.Error.ParseError.observers _ _ c.requires.starts _ _ _ _ _ w.in-CommitOk.ensures.refuses;
        did = (c.new_error.ensures.kind, c.in-Err.ensures);
        keeps = inr (λ q. q, c.requires.fresh);
      }
      | in-PeekOk w ↦ record {
        parser = _;
        lawful = call.lawful;
        same = call.same;
        passes = call.passes;
        stopped = _;
        answer = PeekOk _;
        answers = at_rest around _ _ (g.met.N.Parser.laws c.args.from.parser c.requires.ready.lawful) _ c.requires.starts _ w.in-PeekOk.ensures.answers;
        refuses = item_at_rest (g.met.N.Parser.laws c.args.from.parser c.requires.ready.lawful) g.Input.Error.ParseError.observers _ _ c.requires.starts _ _ _ _ _ w.in-PeekOk.ensures.refuses;
        did = (c.new_error.ensures.kind, c.in-Err.ensures);
        keeps = inr (λ q. q, c.requires.fresh);
      }
    ]
