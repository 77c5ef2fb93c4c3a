-- the parsers of `sep_end_by` and its kin, and their parts
use Rattle.std.specs.declared.alloc.Global.{Global}
use Rattle.combine_separated.specs.Ended.{closer_of, ended_of, ended_part}
use Rattle.combine_separated.specs.declared.sep_end_by.SepEndRepeat.{SepEndRepeat}
use Rattle.combine_repeat.specs.declared.bounds.FirstThenMore.{FirstThenMore}

abbrev pub sep_end_repeat_of : {F P S B : Type 0} → Global → B → P → S → SepEndRepeat F P S B
sep_end_repeat_of alloc bounds parser separator = record { alloc = alloc; bounds = bounds; turn = ended_of parser separator; collects = record {} }

abbrev pub sep_end_bounds : {F P S B : Type 0} → SepEndRepeat F P S B → B
sep_end_bounds p = p.bounds

abbrev pub ended_by_part : {F P S B : Type 0} → SepEndRepeat F P S B → P
ended_by_part p = ended_part p.turn

abbrev pub ended_by_separator : {F P S B : Type 0} → SepEndRepeat F P S B → S
ended_by_separator p = closer_of p.turn

abbrev pub sep_end_by_of : {F P S : Type 0} → Global → P → S → SepEndRepeat F P S (FirstThenMore 0)
sep_end_by_of alloc parser separator = sep_end_repeat_of alloc (record {}) parser separator

abbrev pub sep_end_by1_of : {F P S : Type 0} → Global → P → S → SepEndRepeat F P S (FirstThenMore 1)
sep_end_by1_of alloc parser separator = sep_end_repeat_of alloc (record {}) parser separator
