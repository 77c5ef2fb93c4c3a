-- lists whose items are given one after another, and functions that are asked for a parser of each
use Rattle.std.specs.Prelude.{◌≡◌, List, [], ◌∷◌, Option, Some, None, refl}
use Rattle.std.specs.Iterator.{Count, IsFinite}
use Rattle.std.specs.declared.clone.Clone as clone
use Rattle.std.specs.declared.iter.IntoIterator as into_iterator
use Rattle.std.specs.declared.iter.Iterator as iterator
use Rattle.combine_base.specs.Stream.View.{View}
use Rattle.combine_base.specs.Stream.Calls.{Passes}
use Rattle.combine_base.specs.declared.function.Lent.{Lent}
use Rattle.combine_base.specs.declared.function.MutFunction as function
use Rattle.combine_base.specs.declared.stream.Failures.{Failures}
use Rattle.combine_base.specs.declared.stream.StreamOnce as stream
use Rattle.combine_repeat.specs.declared.iterate.types.Iterate.{Iterate}
use Rattle.std.specs.declared.alloc.Global.{Global}

-- the parser of this list and this function
abbrev pub iterate_of : {C J F : Type 0} → Global → J → F → Iterate C J F
iterate_of alloc items f = record { alloc = alloc; items = items; asked = f; collects = record {} }

abbrev pub items_part : {C J F : Type 0} → Iterate C J F → J
items_part p = p.items

abbrev pub item_asker : {C J F : Type 0} → Iterate C J F → F
item_asker p = p.asked

module _ {It I : Type 0} (can_next : It → Type 0) (remaining : It → Count) (steps : It → Option I → It → Type 0) where
  -- it may be called, and ends
  pub record Callable (it : It) : Type 0 where
    pub can : can_next it
    pub finite : IsFinite (remaining it)

  -- a call gives this, and then that holds of the iterator; there is such a call
  pub record GivesThen (it : It) (r : Option I) (then : It → Type 0) : Type 0 where
    pub callable : Callable it
    pub each : (s : Option I) (next : It) → steps it s next → (s ≡ r) × then next
    pub left : It
    pub some : steps it r left

  abbrev pub gives_items : List I → It → Type 0
  gives_items [] it = GivesThen it None (λ next. Unit {0})
  gives_items (x ∷ xs) it = GivesThen it (Some x) (gives_items xs)

  -- an iterator gives these items, one after another, and then none
  pub record GivesItems (it : It) (xs : List I) : Type 0 where
    pub is : gives_items xs it

  -- an iterator of each clone of a list gives these items
  pub record ListsItems {J : Type 0} (clones : J → J → Type 0) (makes : J → It → Type 0) (list : J) (xs : List I) : Type 0 where
    pub each : (clone : J) (it : It) → clones list clone → makes clone it → GivesItems it xs

-- the same by what iterates and copies
abbrev pub iterator_gives : {It I : Type 0} → iterator.Ghosts It I → It → List I → Type 0
iterator_gives n = GivesItems n.can_next n.remaining n.next_gives

module _ {It I J : Type 0} (copies : clone.Ghosts J) (iterates : into_iterator.Ghosts J I It) (n : iterator.Ghosts It I) (list : J) where
  abbrev pub lists : List I → Type 0
  lists = ListsItems n.can_next n.remaining n.next_gives copies.is_clone iterates.into_iter_gives list

  -- a clone of it has an iterator, so it has one list of items
  abbrev pub HasIterator : Type 0
  HasIterator = (clone : J) × (it : It) × copies.is_clone list clone × iterates.into_iter_gives clone it

module _ {I N Input : Type 0} (returns : Lent I → Input → N → Input → Type 0) where
  -- the function may answer this parser for the item
  pub record AskedFor (x : I) (n : N) : Type 0 where
    pub input : Input
    pub left : Input
    pub met : returns (record { 0 = x }) input n left

  -- a function that leaves the stream in place
  pub record AskedLeavesStream {P T C V : Type 0} (view : Input → View P T) (marks : Input → C → V → Type 0) (failures : Input → Failures) : Type 0 where
    pub kept : (x : I) (i : Input) (n : N) (l : Input) → returns (record { 0 = x }) i n l → (view l ≡ view i) × Passes (marks i) (marks l) (failures i) (failures l) × (failures l ≡ failures i)

-- a function that may be called on every item and every stream
abbrev pub MayAskAlways : {I Input : Type 0} → (Lent I → Input → Type 0) → Type 0
MayAskAlways {I = I} {Input = Input} callable = (x : I) (i : Input) → callable (record { 0 = x }) i

-- asked for by a function that is fit, and whose parsers are all lawful
pub record AskedBySome {F I N : Type 0} (fit : F → Type 0) (answers : F → I → N → Type 0) (lawful : N → Type 0) (n : N) : Type 0 where
  pub asked : F
  pub is_fit : fit asked
  pub all : (x : I) (m : N) → answers asked x m → lawful m
  pub item : I
  pub answered : answers asked item n

-- asked for by a function of this type that may always be called and leaves the stream in place
abbrev pub any_of : {F I N Input T R P E : Type 0} → stream.Ghosts Input T R P E → function.Ghosts F (Lent I) Input N → (N → Type 0) → N → Type 0
any_of i g lawful = AskedBySome (λ f. MayAskAlways (g.callable f) × AskedLeavesStream (g.returns f) i.view i.marks i.failures) (λ f. AskedFor (g.returns f)) lawful

module _ {It I : Type 0} (can_next : It → Type 0) (remaining : It → Count) (steps : It → Option I → It → Type 0) where
  same_steps : (it : It) (r s : Option I) (f g : It → Type 0) → GivesThen can_next remaining steps it r f → GivesThen can_next remaining steps it s g → r ≡ s
  same_steps it r s f g h k = (k.each r h.left h.some).0

  -- an iterator gives one list
  gives_same : (xs ys : List I) (it : It) → gives_items can_next remaining steps xs it → gives_items can_next remaining steps ys it → xs ≡ ys
  gives_same [] [] it h k = refl
  gives_same [] (y ∷ ys) it h k = absurd (let e = same_steps it None (Some y) (λ next. Unit {0}) (gives_items can_next remaining steps ys) h k in cc)
  gives_same (x ∷ xs) [] it h k = absurd (let e = same_steps it (Some x) None (gives_items can_next remaining steps xs) (λ next. Unit {0}) h k in cc)
  gives_same (x ∷ xs) (y ∷ ys) it h k =
      let e : x ≡ y = (let i = same_steps it (Some x) (Some y) (gives_items can_next remaining steps xs) (gives_items can_next remaining steps ys) h k in cc) in
      let i = gives_same xs ys h.left (h.each (Some x) h.left h.some).1 (k.each (Some x) h.left h.some).1 in
      cc

  pub gives_one : (it : It) (xs ys : List I) → GivesItems can_next remaining steps it xs → GivesItems can_next remaining steps it ys → xs ≡ ys
  gives_one it xs ys h k = gives_same xs ys it h.is k.is

  pub gives_none : (it next : It) (xs : List I) → GivesItems can_next remaining steps it xs → steps it None next → xs ≡ []
  gives_none it next [] h k = refl
  gives_none it next (x ∷ xs) h k = absurd (let e = (h.is.each None next k).0 in cc)

  pub gives_some : (it next : It) (x : I) (xs : List I) → GivesItems can_next remaining steps it xs → steps it (Some x) next → (ys : List I) × (xs ≡ x ∷ ys) × GivesItems can_next remaining steps next ys
  gives_some it next x [] h k = absurd (let e = (h.is.each (Some x) next k).0 in cc)
  gives_some it next x (y ∷ ys) h k =
      let e : Some x ≡ Some y = (h.is.each (Some x) next k).0 in
      (ys, (let i : x ≡ y = cc in cc), record { is = (h.is.each (Some x) next k).1 })

  pub gives_callable : (it : It) (xs : List I) → GivesItems can_next remaining steps it xs → Callable can_next remaining steps it
  gives_callable it [] h = h.is.callable
  gives_callable it (x ∷ xs) h = h.is.callable
