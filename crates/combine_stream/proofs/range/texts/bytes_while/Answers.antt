use Rattle.std.proofs.Common.{arith, ◌≡◌, ◌+◌, ◌-◌, length, subst}
use Rattle.std.specs.Char.{len_utf8}
use Rattle.std.specs.Str.{chars}
use Rattle.combine_stream.proofs.TokenWalks.{PassesTest, passed_more, passed_stop, passed_end}
use Rattle.combine_stream.proofs.range.texts.bytes_while.Goals as goal

pub returns-then-not-call : goal.returns-then-not-call
returns-then-not-call g c = passed_stop _ _ _ _ _ c.loop-first.invariant.passed _ _ c.in-Some.ensures.characters c.if-not-call.ensures

pub loop-first-preserved : goal.loop-first-preserved
loop-first-preserved g c =
    let i = c.in-Some.ensures in
    let s = i.size in
    let e : c.loop-first.passed + len_utf8 c.in-Some.first ≡ c.loop-first.passed + (length c.loop-first.rest.now - length c.in-Some.after.now) = omega arith in
    record {
      text = i.text;
      size = let z = c.loop-first.invariant.size in omega arith;
      passed = subst (PassesTest len_utf8 (g.F.Function.returns c.args.f.now) (chars c.args.text.now) (chars c.in-Some.after.now)) e (passed_more _ _ _ _ _ c.loop-first.invariant.passed _ _ i.characters c.if-not-call.ensures);
    }

pub returns-in-None : goal.returns-in-None
returns-in-None g c = passed_end _ _ _ _ _ c.loop-first.invariant.passed c.in-None.ensures
