use Rattle.std.proofs.Common.{arith, refl}
use Rattle.combine_range.proofs.LengthCalls.{take_commits, take_none, take_peeks}
use Rattle.combine_base.proofs.Errors.CallReasons.{reasons_ok, reasons_peek_ok}
use Rattle.combine_base.specs.Error.Errors.{AddsNothing}
use Rattle.combine_range.specs.Range.Lengths.{taking}
use Rattle.combine_range.specs.RangeReasons.{RefusesLength}
use Rattle.combine_range.proofs.RangeReasons.{reasons_none, range_stateless_reasons}
use Rattle.combine_range.proofs.range.lengths.TakeParser.parse_mode.Goals as goal

pub returns-then-self-gt0-clause-answers : goal.returns-then-self-gt0-clause-answers
returns-then-self-gt0-clause-answers g c = take_commits _ _ g.met.Input.RangeStream.filled _ _ _ _ _ _ tt _ c.in-Ok.ensures.read (omega arith)

pub returns-else-self-gt0-clause-answers : goal.returns-else-self-gt0-clause-answers
returns-else-self-gt0-clause-answers g c = take_peeks _ _ g.met.Input.RangeStream.filled _ _ _ _ _ _ tt _ c.in-Ok.ensures.read (omega arith)

pub returns-in-Err-clause-answers : goal.returns-in-Err-clause-answers
returns-in-Err-clause-answers g c = take_none _ _ g.met.Input.RangeStream.filled _ _ _ _ _ _ tt _ _ c.in-Err.ensures.read c.no_range.ensures.answers

pub returns-then-self-gt0-clause-refuses : goal.returns-then-self-gt0-clause-refuses
returns-then-self-gt0-clause-refuses g c = reasons_ok _ _ _ _

pub returns-else-self-gt0-clause-refuses : goal.returns-else-self-gt0-clause-refuses
returns-else-self-gt0-clause-refuses g c = reasons_peek_ok _ _ _ _

pub returns-in-Err-clause-refuses : goal.returns-in-Err-clause-refuses
returns-in-Err-clause-refuses g c =
    let observers = g.Input.Error.ParseError.observers in
    let size = g.Input.RangeStream.size in
    let spells = g.Input.RangeStream.spells in
    let n = c.args.self.now.count in
    let old = g.Input.StreamOnce.view c.args.input.now in
    let new = g.Input.StreamOnce.view c.uncons_range.new.self in
    let said = reasons_none observers (RefusesLength observers size spells n old new) old.position _ _ size spells old new _ _ n (λ q u e h. record { peeked = refl; back = q; unfit = u; says = h }) _ _ c.in-Err.ensures.read c.no_range.ensures.answers (rw c.position-position.ensures at c.no_range.ensures.says) in
    range_stateless_reasons (taking size spells n) ⊥ (Unit {0}) AddsNothing (RefusesLength observers size spells n) c.args.state.now old new (g.M.ParseMode.first c.args.mode) said
