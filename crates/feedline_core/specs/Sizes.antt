-- the piece sizes that words say
use Rattle.std.specs.Prelude.{ℕ, ◌+◌, ◌-◌, ◌*◌, List, [], ◌∷◌, length, Bool, true, ◌&&◌, nat_le, if◌then◌else◌, Option, Some, None}
use Rattle.std.specs.Char.{is_ascii_digit}

abbrev pub all_digits : List ℕ → Bool
all_digits [] = true
all_digits (b ∷ bs) = is_ascii_digit b && all_digits bs

-- the number that decimal digits write, behind those of n
abbrev pub number_from : ℕ → List ℕ → ℕ
number_from n [] = n
number_from n (b ∷ bs) = number_from (n * 10 + (b - 48)) bs

-- one to seven digits
abbrev pub is_short : List ℕ → Bool
is_short bs = nat_le 1 (length bs) && nat_le (length bs) 7

-- a word of one to seven decimal digits, of at most 1,000,000
abbrev pub size_of_word : List ℕ → Option ℕ
size_of_word bs = if is_short bs && all_digits bs && nat_le (number_from 0 bs) 1000000 then Some (number_from 0 bs) else None

abbrev pub with_size : Option ℕ → Option (List ℕ) → Option (List ℕ)
with_size None rest = None
with_size (Some n) None = None
with_size (Some n) (Some ns) = Some (n ∷ ns)

abbrev pub each_size : List (List ℕ) → Option (List ℕ)
each_size [] = Some []
each_size (w ∷ ws) = with_size (size_of_word w) (each_size ws)

-- up to 64 such words
abbrev pub sizes_of : List (List ℕ) → Option (List ℕ)
sizes_of ws = if nat_le (length ws) 64 then each_size ws else None
