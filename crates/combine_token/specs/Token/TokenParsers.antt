-- the parsers of tokens, by their parts
use Rattle.std.specs.Prelude.{ℕ}
use Rattle.combine_token.specs.declared.token.among.types.Absent.{Absent}
use Rattle.combine_token.specs.declared.token.among.types.Listed.{Listed}
use Rattle.combine_token.specs.declared.token.among.types.Present.{Present}
use Rattle.combine_token.specs.declared.token.lists.types.Tokens.{Tokens}
use Rattle.combine_token.specs.declared.token.lists.types.TokensCmp.{TokensCmp}
use Rattle.combine_token.specs.declared.token.lists.types.TokensState.{TokensState}
use Rattle.combine_token.specs.declared.token.types.Any.{Any}
use Rattle.combine_token.specs.declared.token.types.Eof.{Eof}
use Rattle.combine_token.specs.declared.token.types.Position.{Position}
use Rattle.combine_token.specs.declared.token.types.Produce.{Produce}
use Rattle.combine_token.specs.declared.token.types.Satisfy.{Satisfy}
use Rattle.combine_token.specs.declared.token.types.SatisfyMap.{SatisfyMap}
use Rattle.combine_token.specs.declared.token.types.Token.{Token}
use Rattle.combine_token.specs.declared.token.types.Value.{Value}

abbrev pub any_parser : {Input : Type 0} → Any Input
any_parser = record { reads = record {} }

abbrev pub satisfy_parser : {Input F : Type 0} → F → Satisfy Input F
satisfy_parser f = record { predicate = f; reads = record {} }

abbrev pub satisfy_map_parser : {Input F : Type 0} → F → SatisfyMap Input F
satisfy_map_parser f = record { predicate = f; reads = record {} }

abbrev pub token_parser : {Input T : Type 0} → T → Token Input T
token_parser t = record { token = t; reads = record {} }

abbrev pub position_parser : {Input : Type 0} → Position Input
position_parser = record { reads = record {} }

abbrev pub value_parser : {Input T : Type 0} → T → Value Input T
value_parser v = record { value = v; reads = record {} }

abbrev pub produce_parser : {Input F : Type 0} → F → Produce Input F
produce_parser f = record { function = f; reads = record {} }

abbrev pub eof_parser : {Input : Type 0} → Eof Input
eof_parser = record { reads = record {} }

-- the parsers of a token among those of a list, and of another
abbrev pub one_of_parser : {T Input : Type 0} → T → Listed T Input Present
one_of_parser list = record { tokens = list; reads = record {}; wants = record {} }

abbrev pub none_of_parser : {T Input : Type 0} → T → Listed T Input Absent
none_of_parser list = record { tokens = list; reads = record {}; wants = record {} }

-- the parser of a list of tokens, with how they compare and what its errors say was expected
abbrev pub tokens_of : {C E T Input : Type 0} → C → E → T → Tokens C E T Input
tokens_of cmp expected list = record { cmp = cmp; expected = expected; tokens = list; reads = record {} }

-- the same, of which errors say nothing
abbrev pub tokens_cmp_of : {C T Input : Type 0} → T → C → TokensCmp C T Input
tokens_cmp_of list cmp = record { cmp = cmp; tokens = list; reads = record {} }

-- how many items were matched before
abbrev pub matched_before : TokensState → ℕ
matched_before s = s.matched
