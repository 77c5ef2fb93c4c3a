-- where what is not followed by a parser is accepted
use Rattle.std.proofs.Common.{◌≡◌, ◌↔◌, Bool, false, refl}
use Rattle.combine_base.specs.Stream.View.{View}
use Rattle.combine_base.specs.Parser.Outcome.{Outcome, Accepted, Refused, Undecided}
use Rattle.combine_base.specs.Parser.Meaning.{Reading}
use Rattle.combine_combinator.specs.Tables.{ByTable, is_not}

module _ {P T V : Type 0} (r : Reading P T V) (v : View P T) where
  refused_there : (o : Outcome V) → r v o → Accepted tt 0 false ≡ is_not o → (committed : Bool) × r v (Refused committed)
  refused_there (Accepted a n k) w e = absurd (cc)
  refused_there (Refused k) w e = (k, w)
  refused_there Undecided w e = absurd (cc)

  pub accepted_where_refused : ByTable is_not r v (Accepted tt 0 false) ↔ ((committed : Bool) × r v (Refused committed))
  accepted_where_refused = (λ w. refused_there w.inner w.meant w.is, λ p. record { inner = Refused p.0; meant = p.1; is = refl })
