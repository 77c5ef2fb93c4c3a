-- which error a refusal has of parsers for the items of a list
use Rattle.std.specs.Prelude.{◌≡◌, ◌⊎◌, Bool, true, false, ◌||◌, List, [], ◌∷◌}
use Rattle.combine_base.specs.Error.Errors.{Observers}
use Rattle.combine_base.specs.Parser.Drivers.{ExplainsRefusal}
use Rattle.combine_base.specs.Parser.Meaning.{Meaning, Reading, Refusing, refusals, refusals_from}
use Rattle.combine_base.specs.Sequence.PartErrors.{RefusesBehind}
use Rattle.combine_base.specs.Stream.View.{View}
use Rattle.combine_repeat.specs.declared.iterate.items.RunningItem.{RunningItem}
use Rattle.combine_repeat.specs.declared.iterate.items.IterateState.{IterateState}
use Rattle.combine_repeat.specs.declared.iterate.items.IterateState.TheVariants as states

module _ {P T R B U E : Type 0} (errors : Observers T R P E) (m : Meaning P T R E B U) (own : Refusing P T E) (v w : View P T) where
  -- An item's parser is refused peeked. Where no item is over its error is left as it is; else it was put back to where that parser began, and explained.
  abbrev pub item_peeks : Bool → E → Type 0
  item_peeks false e = own v w false e
  item_peeks true e = ExplainsRefusal errors m own v w e

  -- it is refused, committed or peeked
  abbrev pub item_refuses : Bool → Bool → E → Type 0
  item_refuses begun true e = own v w true e
  item_refuses begun false e = item_peeks begun e

  -- That is the answer: it is committed if the parser refused committed, and else where c says that an item before was committed.
  pub record RefusesAtItem (begun c committed : Bool) (e : E) : Type 0 where
    pub is : ((committed ≡ true) × own v w true e) ⊎ ((committed ≡ c) × item_peeks begun e)

module _ {P T R I N B U E : Type 0} (step : P → T → P) (answers : I → N → Type 0) (means : N → Meaning P T R E B U) (errors : Observers T R P E) where
  -- an item's parser refuses, with one of these errors, or it is accepted, and what is behind it refuses
  abbrev pub from_item : (Bool → Refusing P T E) → Bool → Bool → N → Refusing P T E → Reading P T B → Refusing P T E
  from_item behind begun c n own r v w k e = RefusesAtItem errors (means n) own v w begun c k e ⊎ RefusesBehind step (λ b d. behind (c || d)) r v w k e

  -- one of these items refuses; any parser may run that is answered for it, and begins afresh
  abbrev pub items_refuse : List I → Bool → Bool → Refusing P T E
  items_refuse [] begun c v w k e = ⊥
  items_refuse (x ∷ xs) begun c v w k e = (n : N) × answers x n × from_item (items_refuse xs true) begun c n (refusals (means n)) (means n).whole v w k e

  -- the item whose parser runs refuses, or one of these behind it
  abbrev pub running_item_refuses : {C It : Type 0} → List I → RunningItem C It N U → Refusing P T E
  running_item_refuses xs l v w k e = from_item (items_refuse xs true) l.before.is_begun l.before.committed l.parser (refusals_from (means l.parser) l.state) ((means l.parser).rest l.state) v w k e

  module _ {C It : Type 0} (at : It → List I → Type 0) (lists : List I → Type 0) where
    abbrev pub iterated_refuses : IterateState C It N U → Refusing P T E
    iterated_refuses states.Start v w k e = (xs : List I) × lists xs × items_refuse xs false false v w k e
    iterated_refuses (states.Running l) v w k e = (xs : List I) × at l.before.items xs × running_item_refuses xs l v w k e

    -- The error of a refusal is that of the parser that was answered for an item, run behind the values before, or that of the parser that the kept state holds.
    pub record RefusesIterated (from : IterateState C It N U) (v w : View P T) (committed : Bool) (e : E) : Type 0 where
      pub is : iterated_refuses from v w committed e
