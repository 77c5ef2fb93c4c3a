-- what the laws of `attempt`, `map` and `not_followed_by` say
use Rattle.std.specs.Prelude.{◌↔◌, Bool, false}
use Rattle.combine_base.specs.Stream.View.{View}
use Rattle.combine_base.specs.Parser.Outcome.{Outcome, Accepted, Refused}
use Rattle.combine_base.specs.Parser.Meaning.{Meaning}

-- two meanings have the same outcomes on every view, from the start; their states may differ
abbrev pub SameFromTheStart : {P T R E V S S' : Type 0} → Meaning P T R E V S → Meaning P T R E V S' → Type 0
SameFromTheStart {P} {T} {R} {V} m m' = (v : View P T) (o : Outcome V) → m.whole v o ↔ m'.whole v o

-- one function and then another, each known by its relation
abbrev pub composed_relation : {A B C : Type 0} → (A → B → Type 0) → (B → C → Type 0) → A → C → Type 0
composed_relation {A} {B} f g a c = (b : B) × f a b × g b c

-- a function gives what the second gives of what the first does
abbrev pub IsComposition : {A B C : Type 0} → (A → B → Type 0) → (B → C → Type 0) → (A → C → Type 0) → Type 0
IsComposition {A} {B} {C} f g h = (a : A) (c : C) → h a c ↔ composed_relation f g a c

-- the first is accepted, with nothing taken, exactly where the second is refused
abbrev pub AcceptedWhereRefused : {P T R E V S S' : Type 0} → Meaning P T R E (Unit {0}) S → Meaning P T R E V S' → Type 0
AcceptedWhereRefused {P} {T} m n = (v : View P T) → m.whole v (Accepted tt 0 false) ↔ ((committed : Bool) × n.whole v (Refused committed))
