use Rattle.std.proofs.Common.{ℕ, ◌≤◌, drop, length, subst, ap, ◌∙◌}
use Rattle.combine_base.specs.Stream.View.{View}
use Rattle.combine_stream.proofs.position.text.TextStreamResetStream.has_moved.Goals as goal

pub returns : goal.returns
returns c n v e t = c.has_advanced.ensures n (subst (λ (u : View _ ℕ). n ≤ length u.unread) e t.enough) (t.unread ∙ ap (λ (u : View _ ℕ). drop n u.unread) e)
