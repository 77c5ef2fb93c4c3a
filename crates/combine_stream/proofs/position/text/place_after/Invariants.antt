use Rattle.std.proofs.Common.{◌≡◌, length}
use denote.Text.{Utf8}
use denote.Shadow.{shadow}
use Rattle.std.specs.Str.{chars}
use Rattle.combine_base.specs.Stream.View.{after_all}
use Rattle.combine_stream.specs.Position.Lines.{CountsFit, next_place}
use Rattle.combine_stream.proofs.position.text.place_after.Given as goal

abbrev pub invariant-loop-first : goal.invariant-loop-first
invariant-loop-first l = record {
  text : shadow (Utf8 l.rest);
  fits : CountsFit l.now (length l.rest);
  same : after_all next_place l.now (chars l.rest) ≡ after_all next_place l.fn.place (chars l.fn.text);
}

abbrev pub decreases-loop-first : goal.decreases-loop-first
decreases-loop-first l = length l.rest
