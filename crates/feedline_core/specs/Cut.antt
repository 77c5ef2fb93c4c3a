-- the pieces that an input is fed in
use Rattle.std.specs.Prelude.{ℕ, List, [], ◌∷◌, take, drop}

-- what is left over is a piece where it isn't empty
abbrev pub rest_of : List ℕ → List (List ℕ)
rest_of [] = []
rest_of (b ∷ bs) = (b ∷ bs) ∷ []

-- one piece for each size, what is left where less is left, and then the rest
abbrev pub pieces_of : List ℕ → List ℕ → List (List ℕ)
pieces_of [] input = rest_of input
pieces_of (n ∷ ns) input = take n input ∷ pieces_of ns (drop n input)
