-- lines and columns
use Rattle.std.specs.Prelude.{ℕ, suc, ◌+◌, ◌<◌, ◌^◌, ◌≡◌, List, [], ◌∷◌, Bool, true, false, length, take, nat_eq, if◌then◌else◌}
use Rattle.std.specs.Str.{chars}
use Rattle.combine_stream.specs.declared.position.text.SourcePosition.{SourcePosition}

abbrev pub first_place : SourcePosition
first_place = record { line = 1; column = 1 }

-- a line feed begins a line, and every other character is a column more
abbrev pub next_place : SourcePosition → ℕ → SourcePosition
next_place p c = if nat_eq c 10 then record { line = p.line + 1; column = 1 } else record { line = p.line; column = p.column + 1 }

-- so many characters more can be counted
abbrev pub CountsFit : SourcePosition → ℕ → Type 0
CountsFit p n = (p.line + n < 2 ^ 64) × (p.column + n < 2 ^ 64)

-- the first character, and what is left behind it
pub record StepsOn (text : List ℕ) (at : SourcePosition) (c : ℕ) (rest : List ℕ) (now : SourcePosition) : Type 0 where
  pub characters : chars text ≡ c ∷ chars rest
  pub place : now ≡ next_place at c

-- how many line feeds there are
abbrev pub line_feeds : List ℕ → ℕ
line_feeds [] = 0
line_feeds (c ∷ cs) = if nat_eq c 10 then suc (line_feeds cs) else line_feeds cs

-- whether there is one
abbrev pub has_feed : List ℕ → Bool
has_feed [] = false
has_feed (c ∷ cs) = if nat_eq c 10 then true else has_feed cs

-- what is behind the last line feed; all, if there is none
abbrev pub last_line : List ℕ → List ℕ
last_line [] = []
last_line (c ∷ cs) = if has_feed (c ∷ cs) then last_line cs else c ∷ cs

-- the place behind the first n characters: a line for each line feed, a column for each character behind the last, both from 1
abbrev pub place_behind : List ℕ → ℕ → SourcePosition
place_behind cs n = record { line = 1 + line_feeds (take n cs); column = 1 + length (last_line (take n cs)) }
