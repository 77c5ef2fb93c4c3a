use Rattle.std.proofs.Common.{refl, sym, ◌∙◌}
use Rattle.combine_error.proofs.ItemLists.{said_before, said_now}
use Rattle.combine_error.proofs.easy.Errors.put.Goals as goal

pub returns-then-is_there : goal.returns-then-is_there
returns-then-is_there g c =
    let t = sym c.is_there.ensures ∙ c.if-is_there.true in
    said_before _ _ _ _ (rw c.as_slice.ensures.value at t)

pub returns-in-Ok : goal.returns-in-Ok
returns-in-Ok g c =
    let t = sym c.is_there.ensures ∙ c.if-is_there.false in
    said_now _ _ _ _ _ (rw c.as_slice.ensures.value at t) refl refl c.in-Ok.ensures.items
