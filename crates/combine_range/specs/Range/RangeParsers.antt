-- the parsers of ranges, by their parts
use Rattle.combine_range.specs.declared.range.beginnings.TakeWhile.{TakeWhile}
use Rattle.combine_range.specs.declared.range.beginnings.TakeWhile1.{TakeWhile1}
use Rattle.std.specs.Prelude.{ℕ}
use Rattle.combine_range.specs.declared.range.lengths.Range.{Range}
use Rattle.combine_range.specs.declared.range.lengths.Take.{Take}
use Rattle.combine_range.specs.declared.range.recognized.Recognize.{Recognize}
use Rattle.combine_range.specs.declared.range.recognized.RecognizeWithValue.{RecognizeWithValue}
use Rattle.combine_range.specs.declared.range.until.TakeUntilRange.{TakeUntilRange}

abbrev pub take_while_of : {Input F : Type 0} → F → TakeWhile Input F
take_while_of f = record { predicate = f; reads = record {} }

abbrev pub take_while1_of : {Input F : Type 0} → F → TakeWhile1 Input F
take_while1_of f = record { predicate = f; reads = record {} }

abbrev pub take_until_range_of : {Input R : Type 0} → R → TakeUntilRange Input R
take_until_range_of r = record { wanted = r; reads = record {} }

abbrev pub recognize_with_value_of : {Q : Type 0} → Q → RecognizeWithValue Q
recognize_with_value_of q = record { 0 = q }

abbrev pub recognize_of : {Q : Type 0} → Q → Recognize Q
recognize_of q = record { 0 = recognize_with_value_of q }

abbrev pub take_of : {Input : Type 0} → ℕ → Take Input
take_of n = record { count = n; reads = record {} }

abbrev pub range_of : {Input R : Type 0} → R → Range Input R
range_of r = record { wanted = r; reads = record {} }
