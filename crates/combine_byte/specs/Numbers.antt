-- the numbers that stand in bytes
use Rattle.std.specs.Prelude.{ℕ, suc, ◌+◌, ◌*◌, ◌^◌, ◌/◌, List, [], ◌∷◌, length, nat_lt, if◌then◌else◌, ℤ, pos, ◌-ℤ◌}

-- the highest byte first: each byte times 256 to the number of those after it
abbrev pub big_endian : List ℕ → ℕ
big_endian [] = 0
big_endian (b ∷ bs) = b * 256 ^ length bs + big_endian bs

-- the lowest byte first: each byte times 256 to the number of those before it, of which there are n already
abbrev pub little_endian_after : ℕ → List ℕ → ℕ
little_endian_after n [] = 0
little_endian_after n (b ∷ bs) = b * 256 ^ n + little_endian_after (suc n) bs

abbrev pub little_endian : List ℕ → ℕ
little_endian = little_endian_after 0

-- a number of so many bytes, with a sign: 256 to that many is taken off where it is at least half of that
abbrev pub signed : ℕ → ℕ → ℤ
signed width n = if nat_lt n (256 ^ width / 2) then pos n else pos n -ℤ pos (256 ^ width)
