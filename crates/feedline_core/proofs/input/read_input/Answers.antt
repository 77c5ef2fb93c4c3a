use Rattle.std.proofs.Common.{ℕ, ◌≡◌, ◌<◌, ◌≤◌, List, length, take, Option, Some, None, IfSome, ap, sym, ◌∙◌, arith}
use Rattle.std.proofs.lemmas.List.{take_all, length-take}
use Rattle.std.specs.Option.{option_map}
use Rattle.feedline_core.proofs.input.read_input.Goals as goal

-- fewer bytes came than were asked for, so these are all
all_read : (left : Option (List ℕ)) (limit : ℕ) (read : List ℕ) → length read < limit → IfSome (option_map (take limit) left) (λ bytes. read ≡ bytes) → IfSome left (λ all. all ≡ read)
all_read None limit read h e = e
all_read (Some all) limit read h e =
    let n = ap length e in
    let short : length all ≤ limit = omega (arith, length-take limit all) in
    sym (e ∙ take_all limit all short)

pub returns : goal.returns
returns g c =
    let few = c.read_to_end.new.buf.ok.0 in (
      omega arith,
      all_read _ 1048577 _ (omega arith) (rw (c.new-input.ensures.items, c.take-limited.ensures.inner, c.take-limited.ensures.limit) at c.in_default.ensures.bytes),
    )
