use Rattle.combine_base.proofs.Parsers.SameMeanings.{same_none}
use Rattle.combine_byte.specs.Numbers.{big_endian, little_endian, signed}
use Rattle.combine_byte.specs.WholeNumbers.{takes_number, worth}
use Rattle.combine_byte.proofs.num.laws.signed_numbers.Goals as goal

pub returns-clause-be_i16 : goal.returns-clause-be_i16
returns-clause-be_i16 g c = same_none (takes_number g.Input.Error.ParseError.observers 2 (worth (signed 2) big_endian))

pub returns-clause-le_i16 : goal.returns-clause-le_i16
returns-clause-le_i16 g c = same_none (takes_number g.Input.Error.ParseError.observers 2 (worth (signed 2) little_endian))

pub returns-clause-be_i32 : goal.returns-clause-be_i32
returns-clause-be_i32 g c = same_none (takes_number g.Input.Error.ParseError.observers 4 (worth (signed 4) big_endian))

pub returns-clause-le_i32 : goal.returns-clause-le_i32
returns-clause-le_i32 g c = same_none (takes_number g.Input.Error.ParseError.observers 4 (worth (signed 4) little_endian))

pub returns-clause-be_i64 : goal.returns-clause-be_i64
returns-clause-be_i64 g c = same_none (takes_number g.Input.Error.ParseError.observers 8 (worth (signed 8) big_endian))

pub returns-clause-le_i64 : goal.returns-clause-le_i64
returns-clause-le_i64 g c = same_none (takes_number g.Input.Error.ParseError.observers 8 (worth (signed 8) little_endian))
