use Rattle.std.proofs.Common.{◌≡◌, ◌-◌, length}
use Rattle.combine_error.specs.Easy.{cleared_from}
use Rattle.combine_error.proofs.easy.ErrorsParseError.clear_expected_after.Given as goal

-- what is cleared from here on is what is to be cleared, and the rest stays
abbrev pub invariant-items : goal.invariant-items
invariant-items g l = (cleared_from l.at l.self.errors.items ≡ cleared_from l.fn.kept l.fn.self.errors.items) × (l.self.kind ≡ l.fn.self.kind) × (l.self.position ≡ l.fn.self.position)

abbrev pub decreases-items : goal.decreases-items
decreases-items g l = length l.self.errors.items - l.at
