-- the parsers of searches, by their parts
use Rattle.std.specs.Prelude.{ℕ, List}
use Rattle.std.proofs.Common.{Bor}
use Rattle.combine_byte.specs.declared.search.Searching.{Searching}
use Rattle.combine_byte.specs.declared.search.FindByFn.{FindByFn}
use Rattle.combine_byte.specs.declared.bytes.FindBytes.{FindBytes}
use Rattle.combine_byte.specs.declared.bytes.ByteOf.{ByteOf}
use Rattle.combine_byte.specs.declared.bytes.Needle.{Needle}
use Rattle.combine_byte.specs.declared.find.One.{One}
use Rattle.combine_byte.specs.declared.find.Two.{Two}
use Rattle.combine_byte.specs.declared.find.Three.{Three}

-- what stands before the place that this finds
abbrev pub searching_of : {Input S : Type 0} → S → Searching Input S
searching_of s = record { searcher = s; reads = record {} }

abbrev pub take_fn_of : {Input F : Type 0} → F → Searching Input (FindByFn F)
take_fn_of f = searching_of (record { 0 = f })

-- before the first byte that passes
abbrev pub until_byte_of : {Input B : Type 0} → B → Searching Input (FindBytes (ByteOf B))
until_byte_of b = searching_of (record { 0 = record { 0 = b } })

abbrev pub until_one_of : {Input : Type 0} → ℕ → Searching Input (FindBytes (ByteOf One))
until_one_of a = until_byte_of (record { 0 = a })

abbrev pub until_two_of : {Input : Type 0} → ℕ → ℕ → Searching Input (FindBytes (ByteOf Two))
until_two_of a b = until_byte_of (record { 0 = a; 1 = b })

abbrev pub until_three_of : {Input : Type 0} → ℕ → ℕ → ℕ → Searching Input (FindBytes (ByteOf Three))
until_three_of a b c = until_byte_of (record { 0 = a; 1 = b; 2 = c })

-- before the first place of a needle
abbrev pub until_needle_of : {Input : Type 0} → Bor (List ℕ) → Searching Input (FindBytes Needle)
until_needle_of n = searching_of (record { 0 = record { 0 = n } })
