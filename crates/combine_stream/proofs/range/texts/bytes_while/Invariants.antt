use Rattle.std.proofs.Common.{◌≡◌, ◌+◌, length}
use denote.Text.{Utf8}
use denote.Shadow.{shadow}
use Rattle.std.specs.Char.{len_utf8}
use Rattle.std.specs.Str.{chars}
use Rattle.combine_stream.proofs.TokenWalks.{PassesTest}
use Rattle.combine_stream.proofs.range.texts.bytes_while.Given as goal

abbrev pub invariant-loop-first : goal.invariant-loop-first
invariant-loop-first g l = record {
  text : shadow (Utf8 l.rest);
  size : l.passed + length l.rest ≡ length l.fn.text;
  passed : PassesTest len_utf8 (g.F.Function.returns l.fn.f) (chars l.fn.text) (chars l.rest) l.passed;
}

abbrev pub decreases-loop-first : goal.decreases-loop-first
decreases-loop-first g l = length l.rest
