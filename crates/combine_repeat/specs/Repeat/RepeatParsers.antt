-- the parsers of repetitions of one parser, and their parts
use Rattle.std.specs.Prelude.{ℕ}
use Rattle.std.specs.declared.alloc.Global.{Global}
use Rattle.combine_repeat.specs.declared.each.Dropped.{Dropped}
use Rattle.combine_repeat.specs.declared.each.Each.{Each}
use Rattle.combine_repeat.specs.declared.each.SameParser.{SameParser}
use Rattle.combine_repeat.specs.declared.counts.Repeat.{Repeat}
use Rattle.combine_repeat.specs.declared.bounds.MinToMax.{MinToMax}

-- the same parser in each turn
abbrev pub plain_parser : {P : Type 0} → SameParser P → P
plain_parser p = p.0

-- the parser of turns, which parser it repeats, and how often
abbrev pub repeat_of : {G P B : Type 0} → G → P → B → Repeat G P B
repeat_of gather parser bounds = record { gather = gather; turn = record { 0 = parser }; bounds = bounds }

abbrev pub repeated_by : {G P B : Type 0} → Repeat G P B → P
repeated_by p = p.turn.0

abbrev pub repeat_bounds : {G P B : Type 0} → Repeat G P B → B
repeat_bounds p = p.bounds

-- each value appended
abbrev pub each_of : {F : Type 0} → Global → Each F
each_of alloc = record { alloc = alloc; collects = record {} }

abbrev pub between_of : ℕ → ℕ → MinToMax
between_of least most = record { min = least; max = most }

-- what the constructors of counted repetitions build
abbrev pub count_min_max_of : {F P : Type 0} → Global → ℕ → ℕ → P → Repeat (Each F) P MinToMax
count_min_max_of alloc least most parser = repeat_of (each_of alloc) parser (between_of least most)

abbrev pub skip_count_min_max_of : {P : Type 0} → ℕ → ℕ → P → Repeat Dropped P MinToMax
skip_count_min_max_of least most parser = repeat_of (record {}) parser (between_of least most)

abbrev pub repeat_min : {G P : Type 0} → Repeat G P MinToMax → ℕ
repeat_min p = (repeat_bounds p).min

abbrev pub repeat_max : {G P : Type 0} → Repeat G P MinToMax → ℕ
repeat_max p = (repeat_bounds p).max
