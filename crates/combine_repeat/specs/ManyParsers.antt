-- the parsers that the constructors build
use Rattle.std.specs.declared.alloc.Global.{Global}
use Rattle.combine_repeat.specs.Repeat.RepeatParsers.{each_of, repeat_of}
use Rattle.combine_repeat.specs.declared.each.Dropped.{Dropped}
use Rattle.combine_repeat.specs.declared.each.Each.{Each}
use Rattle.combine_repeat.specs.declared.counts.Repeat.{Repeat}
use Rattle.combine_repeat.specs.declared.bounds.FirstThenMore.{FirstThenMore}
use Rattle.combine_repeat.specs.declared.bounds.ZeroOrMore.{ZeroOrMore}

abbrev pub many_of : {F P : Type 0} → Global → P → Repeat (Each F) P ZeroOrMore
many_of alloc parser = repeat_of (each_of alloc) parser (record {})

abbrev pub many1_of : {F P : Type 0} → Global → P → Repeat (Each F) P (FirstThenMore 1)
many1_of alloc parser = repeat_of (each_of alloc) parser (record {})

abbrev pub skip_many_of : {P : Type 0} → P → Repeat Dropped P ZeroOrMore
skip_many_of parser = repeat_of (record {}) parser (record {})

abbrev pub skip_many1_of : {P : Type 0} → P → Repeat Dropped P (FirstThenMore 1)
skip_many1_of parser = repeat_of (record {}) parser (record {})
