use Rattle.combine_base.proofs.Parsers.SameMeanings.{same_none}
use Rattle.combine_byte.specs.Numbers.{big_endian, little_endian}
use Rattle.combine_byte.specs.WholeNumbers.{takes_number}
use Rattle.combine_byte.proofs.num.laws.unsigned_numbers.Goals as goal

pub returns-clause-be_u16 : goal.returns-clause-be_u16
returns-clause-be_u16 g c = same_none (takes_number g.Input.Error.ParseError.observers 2 big_endian)

pub returns-clause-le_u16 : goal.returns-clause-le_u16
returns-clause-le_u16 g c = same_none (takes_number g.Input.Error.ParseError.observers 2 little_endian)

pub returns-clause-be_u32 : goal.returns-clause-be_u32
returns-clause-be_u32 g c = same_none (takes_number g.Input.Error.ParseError.observers 4 big_endian)

pub returns-clause-le_u32 : goal.returns-clause-le_u32
returns-clause-le_u32 g c = same_none (takes_number g.Input.Error.ParseError.observers 4 little_endian)

pub returns-clause-be_u64 : goal.returns-clause-be_u64
returns-clause-be_u64 g c = same_none (takes_number g.Input.Error.ParseError.observers 8 big_endian)

pub returns-clause-le_u64 : goal.returns-clause-le_u64
returns-clause-le_u64 g c = same_none (takes_number g.Input.Error.ParseError.observers 8 little_endian)
