use Rattle.std.proofs.Common.{◌-◌, arith, refl, sym}
use Rattle.example_callers.specs.Nests.{closed, inside, nest, nest_few, nest_is_reading, none_there, opened, opened_is_reading, second, too_deep}
use Rattle.example_callers.proofs.Nests.{deeper_there, no_bracket, too_deep_there}
use Rattle.combine_function.proofs.Once.{as_it_is, commits_once, gives_once, peeks_once, refused_once, stops_once, stops_peeked}
use Rattle.example_callers.proofs.nest.+brackets.Goals as goal

pub brackets-returns-in-CommitOk : goal.brackets-returns-in-CommitOk
brackets-returns-in-CommitOk g t c = rw c.committed.ensures (commits_once g.Input.StreamOnce.step g.Input.Error.ParseError.observers g.Input.StreamOnce.counts_failures g.Input.StreamOnce.view g.Input.StreamOnce.marks g.Input.StreamOnce.failures second opened (λ b. inside g.Input.StreamOnce.step b c.args.depth) c.args.input.now c.opened.new.input opened_is_reading c.inside.new.input c.inside.result _ c.in-CommitOk.ensures c.inside.ensures)

pub brackets-returns-in-PeekOk : goal.brackets-returns-in-PeekOk
brackets-returns-in-PeekOk g t c = rw (sym (as_it_is g.Input.StreamOnce.step g.Input.Error.ParseError.observers g.Input.StreamOnce.counts_failures c.inside-in-PeekOk.result)) (peeks_once g.Input.StreamOnce.step g.Input.Error.ParseError.observers g.Input.StreamOnce.counts_failures g.Input.StreamOnce.view g.Input.StreamOnce.marks g.Input.StreamOnce.failures second opened (λ b. inside g.Input.StreamOnce.step b c.args.depth) c.args.input.now c.opened.new.input opened_is_reading c.inside-in-PeekOk.new.input c.inside-in-PeekOk.result _ c.in-PeekOk.ensures c.inside-in-PeekOk.ensures)

pub brackets-returns-in-CommitErr : goal.brackets-returns-in-CommitErr
brackets-returns-in-CommitErr g t c = stops_once g.Input.StreamOnce.step g.Input.Error.ParseError.observers g.Input.StreamOnce.counts_failures g.Input.StreamOnce.view g.Input.StreamOnce.marks g.Input.StreamOnce.failures second opened (λ b. inside g.Input.StreamOnce.step b c.args.depth) c.args.input.now c.opened.new.input _ c.in-CommitErr.ensures

pub brackets-returns-in-PeekErr : goal.brackets-returns-in-PeekErr
brackets-returns-in-PeekErr g t c = stops_peeked g.Input.StreamOnce.step g.Input.Error.ParseError.observers g.Input.StreamOnce.counts_failures g.Input.StreamOnce.view g.Input.StreamOnce.marks g.Input.StreamOnce.failures second opened (λ b. inside g.Input.StreamOnce.step b c.args.depth) c.args.input.now c.opened.new.input _ c.in-PeekErr.ensures

pub inside-returns-in-None : goal.inside-returns-in-None
inside-returns-in-None g t c = rw (no_bracket g.Input.StreamOnce.step c.args.bracket c.args.depth c.in-None.is) (gives_once g.Input.StreamOnce.step g.Input.Error.ParseError.observers g.Input.StreamOnce.counts_failures g.Input.StreamOnce.view g.Input.StreamOnce.marks g.Input.StreamOnce.failures none_there c.args.input.now 0 refl)

pub inside-returns-then-depth-eq0 : goal.inside-returns-then-depth-eq0
inside-returns-then-depth-eq0 g t c = rw (too_deep_there g.Input.StreamOnce.step c.args.bracket _ c.in-Some.is c.args.depth c.if-depth-eq0.true) (refused_once g.Input.StreamOnce.step g.Input.Error.ParseError.observers g.Input.StreamOnce.counts_failures g.Input.StreamOnce.view g.Input.StreamOnce.marks g.Input.StreamOnce.failures too_deep c.args.input.now _ refl c.refusal_saying.ensures.told)

pub inside-closed-requires : goal.inside-closed-requires
inside-closed-requires g t c =
    let few = nest_few g.Input.StreamOnce.step (c.args.depth - 1) _ c.in-CommitOk.number _ _ c.in-CommitOk.ensures.answers.answers.is.meant in
    let range = c.ranges.depth.fits in
    omega arith

pub inside-closed-requires-in-PeekOk : goal.inside-closed-requires-in-PeekOk
inside-closed-requires-in-PeekOk g t c =
    let few = nest_few g.Input.StreamOnce.step (c.args.depth - 1) _ c.in-PeekOk.number _ _ c.in-PeekOk.ensures.answers.answers.is.meant in
    let range = c.ranges.depth.fits in
    omega arith

pub inside-returns-in-CommitOk : goal.inside-returns-in-CommitOk
inside-returns-in-CommitOk g t c = rw (deeper_there g.Input.StreamOnce.step c.args.bracket _ c.in-Some.is c.args.depth c.if-depth-eq0.false, c.committed.ensures) (commits_once g.Input.StreamOnce.step g.Input.Error.ParseError.observers g.Input.StreamOnce.counts_failures g.Input.StreamOnce.view g.Input.StreamOnce.marks g.Input.StreamOnce.failures second (nest g.Input.StreamOnce.step (c.args.depth - 1)) closed c.args.input.now c.brackets.new.input (nest_is_reading g.Input.StreamOnce.step (c.args.depth - 1)) c.closed.new.input c.closed.result _ c.in-CommitOk.ensures c.closed.ensures)

pub inside-returns-in-PeekOk : goal.inside-returns-in-PeekOk
inside-returns-in-PeekOk g t c = rw (deeper_there g.Input.StreamOnce.step c.args.bracket _ c.in-Some.is c.args.depth c.if-depth-eq0.false, sym (as_it_is g.Input.StreamOnce.step g.Input.Error.ParseError.observers g.Input.StreamOnce.counts_failures c.closed-in-PeekOk.result)) (peeks_once g.Input.StreamOnce.step g.Input.Error.ParseError.observers g.Input.StreamOnce.counts_failures g.Input.StreamOnce.view g.Input.StreamOnce.marks g.Input.StreamOnce.failures second (nest g.Input.StreamOnce.step (c.args.depth - 1)) closed c.args.input.now c.brackets.new.input (nest_is_reading g.Input.StreamOnce.step (c.args.depth - 1)) c.closed-in-PeekOk.new.input c.closed-in-PeekOk.result _ c.in-PeekOk.ensures c.closed-in-PeekOk.ensures)

pub inside-returns-in-CommitErr : goal.inside-returns-in-CommitErr
inside-returns-in-CommitErr g t c = rw (deeper_there g.Input.StreamOnce.step c.args.bracket _ c.in-Some.is c.args.depth c.if-depth-eq0.false) (stops_once g.Input.StreamOnce.step g.Input.Error.ParseError.observers g.Input.StreamOnce.counts_failures g.Input.StreamOnce.view g.Input.StreamOnce.marks g.Input.StreamOnce.failures second (nest g.Input.StreamOnce.step (c.args.depth - 1)) closed c.args.input.now c.brackets.new.input _ c.in-CommitErr.ensures)

pub inside-returns-in-PeekErr : goal.inside-returns-in-PeekErr
inside-returns-in-PeekErr g t c = rw (deeper_there g.Input.StreamOnce.step c.args.bracket _ c.in-Some.is c.args.depth c.if-depth-eq0.false) (stops_peeked g.Input.StreamOnce.step g.Input.Error.ParseError.observers g.Input.StreamOnce.counts_failures g.Input.StreamOnce.view g.Input.StreamOnce.marks g.Input.StreamOnce.failures second (nest g.Input.StreamOnce.step (c.args.depth - 1)) closed c.args.input.now c.brackets.new.input _ c.in-PeekErr.ensures)
