use Rattle.std.proofs.Common.{◌+◌, ◌*◌}
use Rattle.example_callers.proofs.nest.+brackets.Given as goal

abbrev pub decreases-brackets : goal.decreases-brackets
decreases-brackets g l = 2 * l.depth + 1

abbrev pub decreases-inside : goal.decreases-inside
decreases-inside g l = 2 * l.depth
