use Rattle.std.proofs.Common.{◌≡◌, ◌<◌, ◌^◌, drop}
use Rattle.feedline_core.specs.Sizes.{all_digits, number_from}
use Rattle.feedline_core.proofs.args.read_size.Given as goal

abbrev pub invariant-loop-digit : goal.invariant-loop-digit
invariant-loop-digit l = record {
  digits : all_digits l.word ≡ all_digits (drop l.digit-index l.word);
  value : number_from 0 l.word ≡ number_from l.size (drop l.digit-index l.word);
  bound : l.size < 10 ^ l.digit-index;
}
