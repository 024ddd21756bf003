-- How often a root stands in a list of which something is taken out.
use Rattle.std.proofs.Common.{◌≡◌, ◌+◌, ◌<◌, ◌++◌, arith, ℕ, zero, suc, List, [], ◌∷◌, Some, inl, inr, refl, ap, sym}
use Rattle.std.proofs.lemmas.Bool.Decides.{eqb_tells}
use Rattle.rx_level.specs.Store.{leads}
use Rattle.rx_level.proofs.Counts.{leads_unlike}
use Rattle.rx_graph.specs.declared.handles.Root.{Root}
use Rattle.rx_graph.specs.declared.handles.Root.TheVariants.{Everything, Nothing, Items}
use Rattle.rx_graph.specs.Graph.{times}
use Rattle.rx_graph_laws.specs.Operations.{without, without_two}
use Rattle.rx_graph_laws.specs.Runs.{IsPlace, ArePlaces, IsRootAt, root_at, two_at}

pub times_first : (r x : Root) (rest : List Root) → times r (x ∷ rest) ≡ times r (x ∷ []) + times r rest
times_first Everything x rest = omega arith
times_first Nothing x rest = omega arith
times_first (Items k) x rest = omega arith

pub times_none : (r : Root) → times r [] ≡ 0
times_none Everything = refl
times_none Nothing = refl
times_none (Items k) = refl

pub times_joined : (r : Root) (xs ys : List Root) → times r (xs ++ ys) ≡ times r xs + times r ys
times_joined r [] ys = omega (arith, times_none r)
times_joined r (x ∷ rest) ys = omega (arith, times_first r x (rest ++ ys), times_first r x rest, times_joined r rest ys)

pub times_without : (r : Root) (k : ℕ) (xs : List Root) → IsPlace k xs → times r xs ≡ times r (root_at k xs ∷ []) + times r (without k xs)
times_without r k [] at = absurd (omega (arith, at))
times_without r zero (x ∷ rest) at = times_first r x rest
times_without r (suc k) (x ∷ rest) at =
    omega (arith, times_first r x rest, times_first r x (without k rest), times_without r k rest (omega (arith, at)))

pub times_two : (r : Root) (i j : ℕ) (xs : List Root) → ArePlaces i j xs → times r xs ≡ times r (two_at i j xs) + times r (without_two i j xs)
times_two r i j xs at =
    omega (arith, times_without r i xs at.0, times_without r j (without i xs) at.1, times_first r (root_at i xs) (root_at j (without i xs) ∷ []))

is_same : (k m : ℕ) → 0 < leads m (Some k) + 0 → Items k ≡ Items m
is_same k m more = elim (eqb_tells k m) [
  | inl e ↦ ap Items e.1
  | inr e ↦ absurd (omega (arith, more, leads_unlike m k (λ s. e.1 (sym s))))
]

-- what a list of one root has is that root
is_one : (r x : Root) → 0 < times r (x ∷ []) → x ≡ r
is_one Everything Everything more = refl
is_one Everything Nothing more = absurd (omega (arith, more))
is_one Everything (Items k) more = absurd (omega (arith, more))
is_one Nothing Everything more = absurd (omega (arith, more))
is_one Nothing Nothing more = refl
is_one Nothing (Items k) more = absurd (omega (arith, more))
is_one (Items m) Everything more = absurd (omega (arith, more))
is_one (Items m) Nothing more = absurd (omega (arith, more))
is_one (Items m) (Items k) more = is_same k m more

place_first : (r x : Root) (rest : List Root) → 0 < times r (x ∷ []) → (k : ℕ) × IsRootAt k (x ∷ rest) r
place_first r x rest more = (0, record { place = omega arith; root = is_one r x more })

place_later : (r x : Root) (rest : List Root) → (k : ℕ) × IsRootAt k rest r → (k : ℕ) × IsRootAt k (x ∷ rest) r
place_later r x rest (k, stands) = (suc k, record { place = omega (arith, stands.place); root = stands.root })

-- a root that a list has stands at a place of it
pub place_of : (r : Root) (xs : List Root) → 0 < times r xs → (k : ℕ) × IsRootAt k xs r
place_of r [] more = absurd (omega (arith, more, times_none r))
place_of r (x ∷ rest) more = elim (eqb_tells (times r (x ∷ [])) 0) [
  | inl e ↦ place_later r x rest (place_of r rest (omega (arith, more, e.1, times_first r x rest)))
  | inr e ↦ place_first r x rest (omega (arith, e.1))
]
