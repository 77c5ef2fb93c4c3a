-- what the program writes where it gives up
use Rattle.std.specs.Prelude.{ℕ, List, codes}
use Rattle.feedline_core.specs.declared.fault.Fault.{Fault}
use Rattle.feedline_core.specs.declared.fault.Fault.TheVariants.{Argument, Read, Input, Memory, Write, TooLong}

-- the line on standard error, without its end
abbrev pub fault_text : Fault → List ℕ
fault_text Argument = codes "feedline: bad argument"
fault_text Read = codes "feedline: cannot read"
fault_text Input = codes "feedline: input too long"
fault_text Memory = codes "feedline: out of memory"
fault_text Write = codes "feedline: cannot write"
fault_text TooLong = codes "feedline: piece too long"
