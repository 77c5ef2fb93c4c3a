use Rattle.std.proofs.Common.{◌≡◌, drop, map}
use Rattle.feedline_core.specs.Sizes.{each_size}
use Rattle.feedline_core.proofs.Sizes.{sizes_before}
use Rattle.feedline_core.proofs.args.read_sizes.Given as goal

abbrev pub invariant-loop-word : goal.invariant-loop-word
invariant-loop-word l = each_size (map (λ w. w.now) l.words) ≡ sizes_before l.sizes.items (each_size (drop l.word-index (map (λ w. w.now) l.words)))
