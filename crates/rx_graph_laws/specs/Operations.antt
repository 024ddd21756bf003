-- Calls of an arena as plain data, and what they do to a list of plain sets.
use Rattle.std.specs.Prelude.{◌&&◌, ◌||◌, ◌++◌, ℕ, zero, suc, Bool, true, false, List, [], ◌∷◌, get_or}
use Rattle.rx_value.specs.declared.order.End.{End}
use Rattle.rx_value.specs.declared.order.Span.{Span}
use Rattle.rx_tree.specs.Points.{is_inside_at}

-- A set of tuples of positions, by what it says of each.
abbrev pub KeySet : Type 0
KeySet = List End → Bool

-- A call that changes an arena. Handles are named by their place in the list of those that are held, and the second of two by its place
-- among the others. A handle that is given comes at the end of the list; one that is spent is taken out.
pub data Operation : Type 0 where
  add_everything : Operation
  add_nothing : Operation
  add_points : (part : ℕ) (spans : List Span) → Operation
  refused_points : Operation
  share : (i : ℕ) → Operation
  release : (i : ℕ) → Operation
  meet : (i j : ℕ) → Operation
  refused_meet : (i j : ℕ) → Operation
  unite : (i j : ℕ) → Operation
  refused_unite : (i j : ℕ) → Operation

-- a list without what stands at a place
abbrev pub without : {A : Type 0} → ℕ → List A → List A
without k [] = []
without zero (x ∷ rest) = rest
without (suc k) (x ∷ rest) = x ∷ without k rest

-- a list without what stands at a place, and at a place among the others
abbrev pub without_two : {A : Type 0} → ℕ → ℕ → List A → List A
without_two i j xs = without j (without i xs)

-- the set at a place
abbrev pub set_at : ℕ → List KeySet → KeySet
set_at k sets = get_or sets k (λ ps. false)

-- the tuples that two sets have in common
abbrev pub in_both : KeySet → KeySet → KeySet
in_both f g ps = f ps && g ps

-- the tuples that one of two sets has
abbrev pub in_either : KeySet → KeySet → KeySet
in_either f g ps = f ps || g ps

-- What a call does to the list of held sets: a refused point set leaves it, and a refused meet or union has spent both sets.
abbrev pub plays : Operation → List KeySet → List KeySet
plays Operation.add_everything sets = sets ++ (λ ps. true) ∷ []
plays Operation.add_nothing sets = sets ++ (λ ps. false) ∷ []
plays (Operation.add_points k spans) sets = sets ++ is_inside_at k spans ∷ []
plays Operation.refused_points sets = sets
plays (Operation.share i) sets = sets ++ set_at i sets ∷ []
plays (Operation.release i) sets = without i sets
plays (Operation.meet i j) sets = without_two i j sets ++ in_both (set_at i sets) (set_at j (without i sets)) ∷ []
plays (Operation.refused_meet i j) sets = without_two i j sets
plays (Operation.unite i j) sets = without_two i j sets ++ in_either (set_at i sets) (set_at j (without i sets)) ∷ []
plays (Operation.refused_unite i j) sets = without_two i j sets

-- the held sets after these calls, one after the other
abbrev pub played : List Operation → List KeySet → List KeySet
played [] sets = sets
played (o ∷ rest) sets = played rest (plays o sets)
