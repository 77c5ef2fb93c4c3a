use Rattle.std.proofs.Common.{inl, inr, refl, ap}
use Rattle.combine_base.specs.Parser.Answer.{world}
use Rattle.combine_base.proofs.Errors.MeantRefusals.{explained_at_rest}
use Rattle.combine_base.proofs.Parsers.CallStarts.{at_rest}
use Rattle.combine_base.specs.declared.error.result.ParseResult.TheVariants.{CommitOk, PeekOk, CommitErr, PeekErr}
use Rattle.combine_nested.specs.declared.nested.steps.Did.TheVariants as dids
use Rattle.combine_nested.proofs.nested.steps.run_step.Goals as goal
use Rattle.combine_nested.proofs.nested.steps.run_step.Goals.{in-CommitOk, in-PeekOk}

pub returns-then-needs_more : goal.returns-then-needs_more
returns-then-needs_more g c =
    let call = c.parse_explained.ensures in
    let around = world g.Input.StreamOnce.step g.Input.Error.ParseError.observers g.Input.StreamOnce.counts_failures g.N.PartialState.Default.is_default in
    record {
      parser = _;
      lawful = call.lawful;
      same = call.same;
      passes = call.passes;
      stopped = _;
      answer = CommitErr c.in-CommitErr.error;
      answers = at_rest around _ _ (g.met.N.Parser.laws c.args.from.parser c.requires.ready.lawful) _ c.requires.starts _ c.in-CommitErr.ensures.answers;
      explained = explained_at_rest (g.met.N.Parser.laws c.args.from.parser c.requires.ready.lawful) c.requires.starts c.in-CommitErr.ensures.explained;
      did = refl;
      keeps = inl (c.needs_more.ensures.0 c.if-needs_more.true, record { took_before = _; is = refl; took = λ n t. c.has_taken.ensures n _ (g.met.Input.ResetStream.lasts _ _ _ _ call.passes.marks c.checkpoint-since.ensures.stands) t; valid = c.in-CommitErr.ensures.valid });
    }

pub returns-in-CommitErr : goal.returns-in-CommitErr
returns-in-CommitErr g c =
    let call = c.parse_explained.ensures in
    let around = world g.Input.StreamOnce.step g.Input.Error.ParseError.observers g.Input.StreamOnce.counts_failures g.N.PartialState.Default.is_default in
    record {
      parser = _;
      lawful = call.lawful;
      same = call.same;
      passes = call.passes;
      stopped = _;
      answer = CommitErr c.in-CommitErr.error;
      answers = at_rest around _ _ (g.met.N.Parser.laws c.args.from.parser c.requires.ready.lawful) _ c.requires.starts _ c.in-CommitErr.ensures.answers;
      explained = explained_at_rest (g.met.N.Parser.laws c.args.from.parser c.requires.ready.lawful) c.requires.starts c.in-CommitErr.ensures.explained;
      did = refl;
      keeps = inr (λ q. let e = c.needs_more.ensures.1 q in let f = c.if-needs_more.false in cc, c.requires.fresh);
    }

pub returns-in-PeekErr : goal.returns-in-PeekErr
returns-in-PeekErr g c =
    let call = c.parse_explained.ensures in
    let around = world g.Input.StreamOnce.step g.Input.Error.ParseError.observers g.Input.StreamOnce.counts_failures g.N.PartialState.Default.is_default in
    record {
      parser = _;
      lawful = call.lawful;
      same = call.same;
      passes = call.passes;
      stopped = _;
      answer = PeekErr c.in-PeekErr.refusal;
      answers = at_rest around _ _ (g.met.N.Parser.laws c.args.from.parser c.requires.ready.lawful) _ c.requires.starts _ c.in-PeekErr.ensures.answers;
      explained = explained_at_rest (g.met.N.Parser.laws c.args.from.parser c.requires.ready.lawful) c.requires.starts c.in-PeekErr.ensures.explained;
      did = ap dids.Stops c.refused_after.ensures;
      keeps = inr (λ q. q, c.requires.fresh);
    }

pub returns : goal.returns
returns g c =
    let call = c.parse_explained.ensures in
    let around = world g.Input.StreamOnce.step g.Input.Error.ParseError.observers g.Input.StreamOnce.counts_failures g.N.PartialState.Default.is_default in
    elim c.match-parse_explained.branch [
      | in-CommitOk w ↦ record {
        parser = _;
        lawful = call.lawful;
        same = call.same;
        passes = call.passes;
        stopped = _;
        answer = CommitOk _;
        answers = at_rest around _ _ (g.met.N.Parser.laws c.args.from.parser c.requires.ready.lawful) _ c.requires.starts _ w.in-CommitOk.ensures.answers;
        explained = explained_at_rest (g.met.N.Parser.laws c.args.from.parser c.requires.ready.lawful) c.requires.starts w.in-CommitOk.ensures.explained;
        did = record { took = c.has_taken-took.result; is = λ n t. c.has_taken-took.ensures n _ (g.met.Input.ResetStream.lasts _ _ _ _ call.passes.marks c.checkpoint-since.ensures.stands) t; did = rw (c.position-position.ensures, c.one_of-commits.ensures, w.item-is) at c.finish_step.ensures };
        keeps = inr (λ q. q, c.requires.fresh);
      }
      | in-PeekOk w ↦ record {
        parser = _;
        lawful = call.lawful;
        same = call.same;
        passes = call.passes;
        stopped = _;
        answer = PeekOk _;
        answers = at_rest around _ _ (g.met.N.Parser.laws c.args.from.parser c.requires.ready.lawful) _ c.requires.starts _ w.in-PeekOk.ensures.answers;
        explained = explained_at_rest (g.met.N.Parser.laws c.args.from.parser c.requires.ready.lawful) c.requires.starts w.in-PeekOk.ensures.explained;
        did = record { took = c.has_taken-took.result; is = λ n t. c.has_taken-took.ensures n _ (g.met.Input.ResetStream.lasts _ _ _ _ call.passes.marks c.checkpoint-since.ensures.stands) t; did = rw (c.position-position.ensures, c.one_of-commits.ensures, w.item-is) at c.finish_step.ensures };
        keeps = inr (λ q. q, c.requires.fresh);
      }
    ]
