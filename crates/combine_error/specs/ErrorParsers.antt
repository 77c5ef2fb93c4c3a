-- the parsers that shape errors, by their parts
use Rattle.combine_error.specs.declared.error.types.Expected.{Expected}
use Rattle.combine_error.specs.declared.error.types.Message.{Message}
use Rattle.combine_error.specs.declared.error.types.Silent.{Silent}

-- `message` of a parser and what is to be said
abbrev pub message_of : {P I : Type 0} → P → I → Message P I
message_of p i = record { parser = p; info = i }

abbrev pub message_part : {P I : Type 0} → Message P I → P
message_part m = m.parser

abbrev pub message_info : {P I : Type 0} → Message P I → I
message_info m = m.info

-- `expected` of a parser and what was expected
abbrev pub expected_of : {P I : Type 0} → P → I → Expected P I
expected_of p i = record { parser = p; info = i }

abbrev pub expected_part : {P I : Type 0} → Expected P I → P
expected_part m = m.parser

abbrev pub expected_info : {P I : Type 0} → Expected P I → I
expected_info m = m.info

-- `silent` of a parser
abbrev pub silent_of : {P : Type 0} → P → Silent P
silent_of p = record { 0 = p }

abbrev pub silent_part : {P : Type 0} → Silent P → P
silent_part m = m.0
