use Rattle.std.proofs.Common.{◌≤◌, ◌<◌, ◌∙◌, true, length, arith, rules}
use Rattle.std.proofs.lemmas.List.{drop-set-lt}
use Rattle.std.proofs.lemmas.List.Elements.{All-set}
use Rattle.combine_base.specs.Parser.Answer.{world}
use Rattle.combine_base.specs.Parser.Meaning.{begun, begun_refuses, begun_reads}
use Rattle.combine_base.proofs.Parsers.SameMeanings.{passes_more}
use Rattle.combine_choices.specs.ListChoice.{every_drop}
use Rattle.combine_choices.proofs.AlternativeLists.{drop_at, drop_here, drop_past, same_self, same_set}
use Rattle.combine_choices.proofs.RefusedAlternatives.{alternative_begins, later_refuses, later_settles, peeked_no_fault, refusing_end, refusing_here, refusing_next, refusing_unreset, alternative_meant, alternative_no_fault, alternative_settles}
use Rattle.combine_base.proofs.Errors.CallReasons.{reasons_fault, reasons_ok, reasons_peek_ok}
use Rattle.combine_base.specs.declared.stream.Kind.TheVariants as kinds
use Rattle.combine_choices.proofs.MergedErrors.{first_commits, makes_up_end, makes_up_first, makes_up_next, next_reasons}
use Rattle.combine_choices.proofs.choice.slice.choose.Goals as goal

pub returns-in-CommitOk : goal.returns-in-CommitOk
returns-in-CommitOk g c =
    let here = drop_at _ _ c.index-alternatives-index.result c.requires.within in
    let h = g.met.P.Parser.laws _ (c.requires.lawful _ c.index-alternatives-index.result c.requires.within) in
    let z = alternative_begins (world g.Input.StreamOnce.step g.Input.Error.ParseError.observers g.Input.StreamOnce.counts_failures g.P.PartialState.Default.is_default) g.Input.Error.ParseError.observers g.Input.Position.Ord.cmp _ g.P.Parser.meaning _ _ _ _ here h _ _ c.requires.fresh _ _ in
    record {
      lawful = All-set g.P.Parser.lawful _ _ _ c.in-CommitOk.ensures.lawful c.requires.lawful;
      valid = c.in-CommitOk.ensures.valid;
      same = same_set g.P.Parser.meaning _ _ _ c.index-alternatives-index.result _ (same_self g.P.Parser.meaning _) c.requires.within c.in-CommitOk.ensures.same;
      passes = c.in-CommitOk.ensures.passes;
      answers = alternative_settles g.Input.StreamOnce.step g.Input.Error.ParseError.observers g.Input.Position.Ord.cmp g.Input.StreamOnce.counts_failures g.P.PartialState.Default.is_default g.P.Parser.meaning _ _ _ _ _ _ _ _ here _ _ _ _ _ _ _ z _ tt c.in-CommitOk.ensures.calls;
      refuses = reasons_ok _ _ _ _;
    }

pub returns-in-PeekOk : goal.returns-in-PeekOk
returns-in-PeekOk g c =
    let here = drop_at _ _ c.index-alternatives-index.result c.requires.within in
    let h = g.met.P.Parser.laws _ (c.requires.lawful _ c.index-alternatives-index.result c.requires.within) in
    let z = alternative_begins (world g.Input.StreamOnce.step g.Input.Error.ParseError.observers g.Input.StreamOnce.counts_failures g.P.PartialState.Default.is_default) g.Input.Error.ParseError.observers g.Input.Position.Ord.cmp _ g.P.Parser.meaning _ _ _ _ here h _ _ c.requires.fresh _ _ in
    record {
      lawful = All-set g.P.Parser.lawful _ _ _ c.in-PeekOk.ensures.lawful c.requires.lawful;
      valid = c.in-PeekOk.ensures.valid;
      same = same_set g.P.Parser.meaning _ _ _ c.index-alternatives-index.result _ (same_self g.P.Parser.meaning _) c.requires.within c.in-PeekOk.ensures.same;
      passes = c.in-PeekOk.ensures.passes;
      answers = alternative_settles g.Input.StreamOnce.step g.Input.Error.ParseError.observers g.Input.Position.Ord.cmp g.Input.StreamOnce.counts_failures g.P.PartialState.Default.is_default g.P.Parser.meaning _ _ _ _ _ _ _ _ here _ _ _ _ _ _ _ z _ tt c.in-PeekOk.ensures.calls;
      refuses = reasons_peek_ok _ _ _ _;
    }

pub returns-in-CommitErr : goal.returns-in-CommitErr
returns-in-CommitErr g c =
    let here = drop_at _ _ c.index-alternatives-index.result c.requires.within in
    let h = g.met.P.Parser.laws _ (c.requires.lawful _ c.index-alternatives-index.result c.requires.within) in
    let z = alternative_begins (world g.Input.StreamOnce.step g.Input.Error.ParseError.observers g.Input.StreamOnce.counts_failures g.P.PartialState.Default.is_default) g.Input.Error.ParseError.observers g.Input.Position.Ord.cmp _ g.P.Parser.meaning _ _ _ _ here h _ _ c.requires.fresh _ _ in
    let d = alternative_meant c.in-CommitErr.ensures.calls c.in-CommitErr.ensures.refuses in
    record {
      lawful = All-set g.P.Parser.lawful _ _ _ c.in-CommitErr.ensures.lawful c.requires.lawful;
      valid = c.in-CommitErr.ensures.valid;
      same = same_set g.P.Parser.meaning _ _ _ c.index-alternatives-index.result _ (same_self g.P.Parser.meaning _) c.requires.within c.in-CommitErr.ensures.same;
      passes = c.in-CommitErr.ensures.passes;
      answers = alternative_settles g.Input.StreamOnce.step g.Input.Error.ParseError.observers g.Input.Position.Ord.cmp g.Input.StreamOnce.counts_failures g.P.PartialState.Default.is_default g.P.Parser.meaning _ _ _ _ _ _ _ _ here _ _ _ _ _ _ _ z _ tt c.in-CommitErr.ensures.calls;
      refuses = first_commits _ _ g.P.Parser.meaning _ (λ x. begun (g.P.Parser.meaning x) (g.M.ParseMode.first c.args.mode) c.args.kept) (λ x. begun_refuses (g.P.Parser.meaning x) (g.M.ParseMode.first c.args.mode) c.args.kept) _ _ _ here _ _ d;
    }

pub loop-at-init : goal.loop-at-init
loop-at-init g c =
    let here = drop_at _ _ c.index-alternatives-index.result c.requires.within in
    let h = g.met.P.Parser.laws _ (c.requires.lawful _ c.index-alternatives-index.result c.requires.within) in
    let w = world g.Input.StreamOnce.step g.Input.Error.ParseError.observers g.Input.StreamOnce.counts_failures g.P.PartialState.Default.is_default in
    let t = c.in-PeekErr.ensures.calls in
    let z = alternative_begins w g.Input.Error.ParseError.observers g.Input.Position.Ord.cmp _ g.P.Parser.meaning _ _ _ _ here h _ _ c.requires.fresh _ _ in
    let d = alternative_meant t c.in-PeekErr.ensures.refuses in
    record {
      lawful = All-set g.P.Parser.lawful _ _ _ c.in-PeekErr.ensures.lawful c.requires.lawful;
      same = same_set g.P.Parser.meaning _ _ _ c.index-alternatives-index.result _ (same_self g.P.Parser.meaning _) c.requires.within c.in-PeekErr.ensures.same;
      untried = λ k l. drop-set-lt k c.args.alternatives.now c.args.index _ (omega arith);
      state = t.ends (λ a. a);
      passes = c.in-PeekErr.ensures.passes;
      goes = makes_up_first _ _ g.P.Parser.meaning _ (λ x. begun (g.P.Parser.meaning x) (g.M.ParseMode.first c.args.mode) c.args.kept) (λ x. begun_refuses (g.P.Parser.meaning x) (g.M.ParseMode.first c.args.mode) c.args.kept) _ _ _ here _ _ d;
      refusing = refusing_next w g.Input.Error.ParseError.observers g.Input.Position.Ord.cmp g.P.Parser.meaning _ _ _ _ _ _ _ _ z (begun_reads _ _ _ h _ _ c.requires.valid) _ t.answers c.in-PeekErr.ensures.passes (every_drop g.P.Parser.meaning (λ a. a.keeps) _ _) (every_drop g.P.Parser.meaning (λ a. a.puts_back) _ _) (every_drop g.P.Parser.meaning (λ a. a.heapless) _ _);
    }

pub try_alternative-answer-requires-clause-lawful : goal.try_alternative-answer-requires-clause-lawful
try_alternative-answer-requires-clause-lawful g c = c.loop-at.invariant.lawful _ _ (search (rules, arith))

pub after_refusal-requires-clause-first : goal.after_refusal-requires-clause-first
after_refusal-requires-clause-first g c = peeked_no_fault _ _ c.loop-at.invariant.refusing.peeked

pub after_refusal-requires-clause-later : goal.after_refusal-requires-clause-later
after_refusal-requires-clause-later g c = alternative_no_fault _ c.try_alternative-answer.ensures.calls

pub returns-in-Err : goal.returns-in-Err
returns-in-Err g c =
    record {
      lawful = c.loop-at.invariant.lawful;
      valid = rw c.loop-at.invariant.state tt;
      same = c.loop-at.invariant.same;
      passes = passes_more c.loop-at.invariant.passes c.in-Err.ensures.passes;
      answers = refusing_unreset g.Input.StreamOnce.step g.Input.Error.ParseError.observers g.Input.Position.Ord.cmp g.Input.StreamOnce.counts_failures g.P.PartialState.Default.is_default g.P.Parser.meaning _ _ _ _ _ _ _ _ _ _ _ _ c.loop-at.invariant.refusing _ c.in-Err.ensures.to.is c.loop-at.invariant.state _ c.new_error.ensures.kind;
      refuses = reasons_fault _ _ _ _ kinds.Reset (c.new_error.ensures.kind ∙ c.in-Err.ensures.to.is.0) tt;
    }

pub returns-in-CommitOk-after_refusal : goal.returns-in-CommitOk-after_refusal
returns-in-CommitOk-after_refusal g c =
    let within : c.loop-at.at < length c.loop-at.alternatives = search (rules, arith) in
    let w = world g.Input.StreamOnce.step g.Input.Error.ParseError.observers g.Input.StreamOnce.counts_failures g.P.PartialState.Default.is_default in
    let here = drop_here _ _ _ c.index-alternatives-at.result c.loop-at.invariant.untried within in
    let h = g.met.P.Parser.laws _ (c.loop-at.invariant.lawful _ c.index-alternatives-at.result within) in
    let n = c.in-Ok.ensures.to.is in
    let back = n.0 _ (g.met.Input.ResetStream.lasts _ _ _ _ c.loop-at.invariant.passes.marks c.checkpoint-start.ensures.stands) in
    let z = refusing_here w g.Input.Error.ParseError.observers g.Input.Position.Ord.cmp g.P.Parser.meaning _ _ _ _ _ _ _ _ here _ _ _ c.loop-at.invariant.refusing _ h _ _ c.default-fresh.ensures _ _ back n.1 c.in-Ok.ensures.passes in
    let d = alternative_meant c.try_alternative-answer.ensures.calls c.try_alternative-answer.ensures.refuses in
    record {
      lawful = All-set g.P.Parser.lawful _ _ _ c.try_alternative-answer.ensures.lawful c.loop-at.invariant.lawful;
      valid = c.try_alternative-answer.ensures.valid;
      same = same_set g.P.Parser.meaning _ _ _ c.index-alternatives-at.result _ c.loop-at.invariant.same within c.try_alternative-answer.ensures.same;
      passes = passes_more (passes_more c.loop-at.invariant.passes c.in-Ok.ensures.passes) c.try_alternative-answer.ensures.passes;
      answers = later_settles g.Input.StreamOnce.step g.Input.Error.ParseError.observers g.Input.Position.Ord.cmp g.Input.StreamOnce.counts_failures g.P.PartialState.Default.is_default g.P.Parser.meaning _ _ _ _ _ _ _ _ here _ _ _ _ _ _ _ z _ _ _ tt c.try_alternative-answer.ensures.calls c.in-CommitOk-after_refusal.ensures;
      refuses = next_reasons _ _ g.P.Parser.meaning _ _ _ _ _ here _ _ c.loop-at.invariant.goes _ _ (rw back at d) _ tt c.in-CommitOk-after_refusal.ensures;
    }

pub returns-in-PeekOk-after_refusal : goal.returns-in-PeekOk-after_refusal
returns-in-PeekOk-after_refusal g c =
    let within : c.loop-at.at < length c.loop-at.alternatives = search (rules, arith) in
    let w = world g.Input.StreamOnce.step g.Input.Error.ParseError.observers g.Input.StreamOnce.counts_failures g.P.PartialState.Default.is_default in
    let here = drop_here _ _ _ c.index-alternatives-at.result c.loop-at.invariant.untried within in
    let h = g.met.P.Parser.laws _ (c.loop-at.invariant.lawful _ c.index-alternatives-at.result within) in
    let n = c.in-Ok.ensures.to.is in
    let back = n.0 _ (g.met.Input.ResetStream.lasts _ _ _ _ c.loop-at.invariant.passes.marks c.checkpoint-start.ensures.stands) in
    let z = refusing_here w g.Input.Error.ParseError.observers g.Input.Position.Ord.cmp g.P.Parser.meaning _ _ _ _ _ _ _ _ here _ _ _ c.loop-at.invariant.refusing _ h _ _ c.default-fresh.ensures _ _ back n.1 c.in-Ok.ensures.passes in
    let d = alternative_meant c.try_alternative-answer.ensures.calls c.try_alternative-answer.ensures.refuses in
    record {
      lawful = All-set g.P.Parser.lawful _ _ _ c.try_alternative-answer.ensures.lawful c.loop-at.invariant.lawful;
      valid = c.try_alternative-answer.ensures.valid;
      same = same_set g.P.Parser.meaning _ _ _ c.index-alternatives-at.result _ c.loop-at.invariant.same within c.try_alternative-answer.ensures.same;
      passes = passes_more (passes_more c.loop-at.invariant.passes c.in-Ok.ensures.passes) c.try_alternative-answer.ensures.passes;
      answers = later_settles g.Input.StreamOnce.step g.Input.Error.ParseError.observers g.Input.Position.Ord.cmp g.Input.StreamOnce.counts_failures g.P.PartialState.Default.is_default g.P.Parser.meaning _ _ _ _ _ _ _ _ here _ _ _ _ _ _ _ z _ _ _ tt c.try_alternative-answer.ensures.calls c.in-PeekOk-after_refusal.ensures;
      refuses = next_reasons _ _ g.P.Parser.meaning _ _ _ _ _ here _ _ c.loop-at.invariant.goes _ _ (rw back at d) _ tt c.in-PeekOk-after_refusal.ensures;
    }

pub returns-in-CommitErr-after_refusal : goal.returns-in-CommitErr-after_refusal
returns-in-CommitErr-after_refusal g c =
    let within : c.loop-at.at < length c.loop-at.alternatives = search (rules, arith) in
    let w = world g.Input.StreamOnce.step g.Input.Error.ParseError.observers g.Input.StreamOnce.counts_failures g.P.PartialState.Default.is_default in
    let here = drop_here _ _ _ c.index-alternatives-at.result c.loop-at.invariant.untried within in
    let h = g.met.P.Parser.laws _ (c.loop-at.invariant.lawful _ c.index-alternatives-at.result within) in
    let n = c.in-Ok.ensures.to.is in
    let back = n.0 _ (g.met.Input.ResetStream.lasts _ _ _ _ c.loop-at.invariant.passes.marks c.checkpoint-start.ensures.stands) in
    let z = refusing_here w g.Input.Error.ParseError.observers g.Input.Position.Ord.cmp g.P.Parser.meaning _ _ _ _ _ _ _ _ here _ _ _ c.loop-at.invariant.refusing _ h _ _ c.default-fresh.ensures _ _ back n.1 c.in-Ok.ensures.passes in
    let d = alternative_meant c.try_alternative-answer.ensures.calls c.try_alternative-answer.ensures.refuses in
    record {
      lawful = All-set g.P.Parser.lawful _ _ _ c.try_alternative-answer.ensures.lawful c.loop-at.invariant.lawful;
      valid = c.try_alternative-answer.ensures.valid;
      same = same_set g.P.Parser.meaning _ _ _ c.index-alternatives-at.result _ c.loop-at.invariant.same within c.try_alternative-answer.ensures.same;
      passes = passes_more (passes_more c.loop-at.invariant.passes c.in-Ok.ensures.passes) c.try_alternative-answer.ensures.passes;
      answers = later_settles g.Input.StreamOnce.step g.Input.Error.ParseError.observers g.Input.Position.Ord.cmp g.Input.StreamOnce.counts_failures g.P.PartialState.Default.is_default g.P.Parser.meaning _ _ _ _ _ _ _ _ here _ _ _ _ _ _ _ z _ _ _ tt c.try_alternative-answer.ensures.calls c.in-CommitErr-after_refusal.ensures;
      refuses = next_reasons _ _ g.P.Parser.meaning _ _ _ _ _ here _ _ c.loop-at.invariant.goes _ _ (rw back at d) _ tt c.in-CommitErr-after_refusal.ensures;
    }

pub loop-at-preserved : goal.loop-at-preserved
loop-at-preserved g c =
    let within : c.loop-at.at < length c.loop-at.alternatives = search (rules, arith) in
    let w = world g.Input.StreamOnce.step g.Input.Error.ParseError.observers g.Input.StreamOnce.counts_failures g.P.PartialState.Default.is_default in
    let here = drop_here _ _ _ c.index-alternatives-at.result c.loop-at.invariant.untried within in
    let h = g.met.P.Parser.laws _ (c.loop-at.invariant.lawful _ c.index-alternatives-at.result within) in
    let n = c.in-Ok.ensures.to.is in
    let back = n.0 _ (g.met.Input.ResetStream.lasts _ _ _ _ c.loop-at.invariant.passes.marks c.checkpoint-start.ensures.stands) in
    let z = refusing_here w g.Input.Error.ParseError.observers g.Input.Position.Ord.cmp g.P.Parser.meaning _ _ _ _ _ _ _ _ here _ _ _ c.loop-at.invariant.refusing _ h _ _ c.default-fresh.ensures _ _ back n.1 c.in-Ok.ensures.passes in
    let q = later_refuses g.Input.StreamOnce.step g.Input.Error.ParseError.observers g.Input.Position.Ord.cmp g.Input.StreamOnce.counts_failures g.P.PartialState.Default.is_default g.P.Parser.meaning _ _ _ _ _ _ _ _ here _ _ _ _ _ _ _ z (begun_reads _ _ _ h true _ (g.met.P.Parser.default_valid _ c.default-fresh.ensures)) _ _ _ c.try_alternative-answer.ensures.calls c.in-PeekErr-after_refusal.ensures c.loop-at.invariant.refusing.peeked c.try_alternative-answer.ensures.passes (every_drop g.P.Parser.meaning (λ a. a.keeps) _ _) (every_drop g.P.Parser.meaning (λ a. a.puts_back) _ _) (every_drop g.P.Parser.meaning (λ a. a.heapless) _ _) in
    let d = alternative_meant c.try_alternative-answer.ensures.calls c.try_alternative-answer.ensures.refuses in
    record {
      lawful = All-set g.P.Parser.lawful _ _ _ c.try_alternative-answer.ensures.lawful c.loop-at.invariant.lawful;
      same = same_set g.P.Parser.meaning _ _ _ c.index-alternatives-at.result _ c.loop-at.invariant.same within c.try_alternative-answer.ensures.same;
      untried = λ k l. drop-set-lt k c.loop-at.alternatives c.loop-at.at _ (omega arith) ∙ c.loop-at.invariant.untried k (omega arith);
      state = q.1;
      passes = passes_more (passes_more c.loop-at.invariant.passes c.in-Ok.ensures.passes) c.try_alternative-answer.ensures.passes;
      goes = makes_up_next _ _ g.P.Parser.meaning _ _ _ _ _ here _ _ c.loop-at.invariant.goes _ _ (rw back at d) _ c.in-PeekErr-after_refusal.ensures;
      refusing = q.0;
    }

pub returns : goal.returns
returns g c =
    let past : length c.args.alternatives.now ≤ c.loop-at.at = search (rules, arith) in
    record {
      lawful = c.loop-at.invariant.lawful;
      valid = rw c.loop-at.invariant.state tt;
      same = c.loop-at.invariant.same;
      passes = c.loop-at.invariant.passes;
      answers = refusing_end g.Input.StreamOnce.step g.Input.Error.ParseError.observers g.Input.Position.Ord.cmp g.Input.StreamOnce.counts_failures g.P.PartialState.Default.is_default g.P.Parser.meaning _ _ _ _ _ _ _ _ _ _ (drop_past _ _ past) c.loop-at.invariant.refusing c.loop-at.invariant.state;
      refuses = makes_up_end _ _ g.P.Parser.meaning _ _ _ (drop_past _ _ past) _ _ c.loop-at.invariant.goes;
    }
