use Rattle.std.proofs.Common.{inl, inr, refl}
use Rattle.combine_base.specs.Parser.Answer.{world}
use Rattle.combine_base.specs.declared.error.result.ParseResult.TheVariants.{CommitErr}
use Rattle.combine_base.proofs.Errors.MeantRefusals.{explained_at_rest}
use Rattle.combine_base.proofs.Parsers.CallStarts.{at_rest}
use Rattle.combine_separated.proofs.pair.parse_part.Goals as goal

pub returns-in-CommitOk : goal.returns-in-CommitOk
returns-in-CommitOk g c =
    let call = c.parse_explained.ensures in
    record {
      lawful = call.lawful;
      same = call.same;
      passes = call.passes;
      runs = record {
        stopped = _;
        answer = _;
        answers = at_rest _ _ _ (g.met.P.Parser.laws c.args.part.now c.requires.ready.lawful) _ c.requires.starts _ c.in-CommitOk.ensures.answers;
        explained = explained_at_rest (g.met.P.Parser.laws c.args.part.now c.requires.ready.lawful) c.requires.starts c.in-CommitOk.ensures.explained;
        is = refl;
        leaves = inr (λ q. q, refl);
      };
    }

pub returns-in-PeekOk : goal.returns-in-PeekOk
returns-in-PeekOk g c =
    let call = c.parse_explained.ensures in
    record {
      lawful = call.lawful;
      same = call.same;
      passes = call.passes;
      runs = record {
        stopped = _;
        answer = _;
        answers = at_rest _ _ _ (g.met.P.Parser.laws c.args.part.now c.requires.ready.lawful) _ c.requires.starts _ c.in-PeekOk.ensures.answers;
        explained = explained_at_rest (g.met.P.Parser.laws c.args.part.now c.requires.ready.lawful) c.requires.starts c.in-PeekOk.ensures.explained;
        is = c.accepted_after.ensures;
        leaves = inr (λ q. q, refl);
      };
    }

pub returns-then-needs_more : goal.returns-then-needs_more
returns-then-needs_more g c =
    let around = world g.Input.StreamOnce.step g.Input.Error.ParseError.observers g.Input.StreamOnce.counts_failures g.P.PartialState.Default.is_default in
    let call = c.parse_explained.ensures in
    record {
      lawful = call.lawful;
      same = call.same;
      passes = call.passes;
      runs = record {
        stopped = _;
        answer = CommitErr c.in-CommitErr.error;
        answers = at_rest around _ _ (g.met.P.Parser.laws c.args.part.now c.requires.ready.lawful) _ c.requires.starts _ c.in-CommitErr.ensures.answers;
        explained = explained_at_rest (g.met.P.Parser.laws c.args.part.now c.requires.ready.lawful) c.requires.starts c.in-CommitErr.ensures.explained;
        is = refl;
        leaves = inl (c.needs_more.ensures.0 c.if-needs_more.true, refl, c.in-CommitErr.ensures.valid);
      };
    }

pub returns-else-needs_more : goal.returns-else-needs_more
returns-else-needs_more g c =
    let call = c.parse_explained.ensures in
    record {
      lawful = call.lawful;
      same = call.same;
      passes = call.passes;
      runs = record {
        stopped = _;
        answer = _;
        answers = at_rest _ _ _ (g.met.P.Parser.laws c.args.part.now c.requires.ready.lawful) _ c.requires.starts _ c.in-CommitErr.ensures.answers;
        explained = explained_at_rest (g.met.P.Parser.laws c.args.part.now c.requires.ready.lawful) c.requires.starts c.in-CommitErr.ensures.explained;
        is = refl;
        leaves = inr (λ q. let e = c.needs_more.ensures.1 q in let f = c.if-needs_more.false in cc, refl);
      };
    }

pub returns-in-PeekErr : goal.returns-in-PeekErr
returns-in-PeekErr g c =
    let call = c.parse_explained.ensures in
    record {
      lawful = call.lawful;
      same = call.same;
      passes = call.passes;
      runs = record {
        stopped = _;
        answer = _;
        answers = at_rest _ _ _ (g.met.P.Parser.laws c.args.part.now c.requires.ready.lawful) _ c.requires.starts _ c.in-PeekErr.ensures.answers;
        explained = explained_at_rest (g.met.P.Parser.laws c.args.part.now c.requires.ready.lawful) c.requires.starts c.in-PeekErr.ensures.explained;
        is = c.refused_after.ensures;
        leaves = inr (λ q. q, refl);
      };
    }
