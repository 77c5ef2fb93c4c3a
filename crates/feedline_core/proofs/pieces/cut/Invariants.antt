use Rattle.std.proofs.Common.{◌≡◌, ◌++◌, map, drop}
use Rattle.feedline_core.specs.Cut.{pieces_of}
use Rattle.feedline_core.proofs.pieces.cut.Given as goal

abbrev pub invariant-loop-size : goal.invariant-loop-size
invariant-loop-size l = pieces_of l.sizes l.input ≡ map (λ p. p.now) l.pieces.items ++ pieces_of (drop l.size-index l.sizes) l.rest
