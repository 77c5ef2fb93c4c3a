use Rattle.std.proofs.Common.{ℕ, ◌≡◌, ◌+◌, ◌≤◌, length, drop}
use denote.Text.{Utf8}
use denote.Shadow.{shadow}
use Rattle.std.specs.Str.{chars}
use Rattle.combine_base.proofs.stream.texts.count_before.Given as goal

abbrev pub invariant-characters : goal.invariant-characters
invariant-characters l = record {
  text : shadow (Utf8 l.left);
  bound : l.count + length l.left ≤ length l.fn.text;
  at : chars l.left ≡ drop l.count (chars l.fn.text);
  before : (n : ℕ) → n ≤ length (chars l.fn.text) → chars l.fn.end ≡ drop n (chars l.fn.text) → l.count ≤ n;
}

abbrev pub decreases-characters : goal.decreases-characters
decreases-characters l = length l.left
