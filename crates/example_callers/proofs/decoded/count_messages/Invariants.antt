use Rattle.std.proofs.Common.{◌≡◌}
use Rattle.example_callers.proofs.decoded.count_messages.Given as goal

abbrev pub invariant-pieces : goal.invariant-pieces
invariant-pieces g l = record { maker : l.decoder.maker ≡ l.fn.maker }
