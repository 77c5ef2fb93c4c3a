-- what the tokens of several parts say of their values: those of each part stand one behind another
use Rattle.std.specs.Prelude.{◌≡◌, List, ◌++◌}

-- parts, and one more: the value has one for the parts and one for the last
abbrev pub more : {T A B C : Type 0} → (C → A) → (C → B) → (List T → A → Type 0) → (List T → B → Type 0) → List T → C → Type 0
more {T} f g p q xs c = (ys : List T) × (zs : List T) × (xs ≡ ys ++ zs) × p ys (f c) × q zs (g c)

module _ {T A B : Type 0} (p : List T → A → Type 0) (q : List T → B → Type 0) where
  abbrev pub two : List T → A × B → Type 0
  two xs t = (ps : List T) × (qs : List T) × (xs ≡ ps ++ qs) × p ps t.0 × q qs t.1

  -- the value of the first part, or that of the second
  abbrev pub first_of : List T → A → Type 0
  first_of xs a = (b : B) × two xs (a, b)

  abbrev pub second_of : List T → B → Type 0
  second_of xs b = (a : A) × two xs (a, b)

  module _ {C : Type 0} (r : List T → C → Type 0) where
    abbrev pub three : List T → A × B × C → Type 0
    three xs t = (ps : List T) × (qs : List T) × (rs : List T) × (xs ≡ ps ++ qs ++ rs) × p ps t.0 × q qs t.1 × r rs t.2

    -- the value of the part between two others
    abbrev pub middle_of : List T → B → Type 0
    middle_of xs b = (a : A) × (c : C) × three xs (a, b, c)

    module _ {D : Type 0} (s : List T → D → Type 0) where
      abbrev pub four : List T → A × B × C × D → Type 0
      four xs t = (ps : List T) × (qs : List T) × (rs : List T) × (ss : List T) × (xs ≡ ps ++ qs ++ rs ++ ss) × p ps t.0 × q qs t.1 × r rs t.2 × s ss t.3

      module _ {E : Type 0} (u : List T → E → Type 0) where
        abbrev pub five : List T → A × B × C × D × E → Type 0
        five xs t = (ps : List T) × (qs : List T) × (rs : List T) × (ss : List T) × (us : List T) × (xs ≡ ps ++ qs ++ rs ++ ss ++ us) × p ps t.0 × q qs t.1 × r rs t.2 × s ss t.3 × u us t.4

        module _ {F : Type 0} (v : List T → F → Type 0) where
          abbrev pub six : List T → A × B × C × D × E × F → Type 0
          six xs t = (ps : List T) × (qs : List T) × (rs : List T) × (ss : List T) × (us : List T) × (vs : List T) × (xs ≡ ps ++ qs ++ rs ++ ss ++ us ++ vs) × p ps t.0 × q qs t.1 × r rs t.2 × s ss t.3 × u us t.4 × v vs t.5

          module _ {G : Type 0} (w : List T → G → Type 0) where
            abbrev pub seven : List T → A × B × C × D × E × F × G → Type 0
            seven xs t = (ps : List T) × (qs : List T) × (rs : List T) × (ss : List T) × (us : List T) × (vs : List T) × (ws : List T) × (xs ≡ ps ++ qs ++ rs ++ ss ++ us ++ vs ++ ws) × p ps t.0 × q qs t.1 × r rs t.2 × s ss t.3 × u us t.4 × v vs t.5 × w ws t.6

            module _ {H : Type 0} (y : List T → H → Type 0) where
              abbrev pub eight : List T → A × B × C × D × E × F × G × H → Type 0
              eight xs t = (ps : List T) × (qs : List T) × (rs : List T) × (ss : List T) × (us : List T) × (vs : List T) × (ws : List T) × (ys : List T) × (xs ≡ ps ++ qs ++ rs ++ ss ++ us ++ vs ++ ws ++ ys) × p ps t.0 × q qs t.1 × r rs t.2 × s ss t.3 × u us t.4 × v vs t.5 × w ws t.6 × y ys t.7
