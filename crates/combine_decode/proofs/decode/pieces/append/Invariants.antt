use Rattle.std.proofs.Common.{◌≡◌, ◌++◌}
use Rattle.combine_decode.proofs.decode.pieces.append.Given as goal

-- the messages so far stand behind those before
abbrev pub invariant-more : goal.invariant-more
invariant-more g l = l.messages.items ≡ l.fn.messages.items ++ l.yielded
