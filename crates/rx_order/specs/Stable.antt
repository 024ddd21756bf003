-- The order of a list that keeps the order of what ties.
use Rattle.std.specs.Prelude.{Bool, List, [], ◌∷◌, if◌then◌else◌}

-- an element put behind those that stand before it by the order, of a list that it stood in front of
abbrev pub put : {X : Type 0} → (X → X → Bool) → X → List X → List X
put before x [] = x ∷ []
put before x (y ∷ ys) = if before y x then y ∷ put before x ys else x ∷ y ∷ ys

-- The one list of the same elements in which none stands behind one that is to stand behind it, and those that tie stand as they did.
abbrev pub ordered : {X : Type 0} → (X → X → Bool) → List X → List X
ordered before [] = []
ordered before (x ∷ xs) = put before x (ordered before xs)
