use Rattle.std.specs.Prelude.{ℕ, nat_eq, if◌then◌else◌}

-- what stands under a character before the caret: a tab under a tab, and else a blank
abbrev pub mark : ℕ → ℕ
mark character = (if nat_eq character 9 then 9 else 32)
