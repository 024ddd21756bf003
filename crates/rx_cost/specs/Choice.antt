-- Which candidate is chosen.
use Rattle.std.specs.Prelude.{ℕ, suc, ◌<◌, ◌≤◌, List, [], ◌∷◌, length, map, slice_index, nat_le, if◌then◌else◌}
use Rattle.std.specs.List.{list_all}
use Rattle.rx_cost.specs.declared.candidates.Candidate.{Candidate}

-- what a candidate costs
abbrev pub cost_of : Candidate → ℕ
cost_of candidate = candidate.cost

-- the place of the first of the least costs: it is there, none costs less, and each before it costs more
pub record IsFirstLeast (costs : List ℕ) (place : ℕ) : Type 0 where
  pub within : place < length costs
  pub least : (k : ℕ) → k < length costs → slice_index costs place ≤ slice_index costs k
  pub first : (k : ℕ) → k < place → slice_index costs place < slice_index costs k

-- the first cost that is above none behind it, which is the first of the least
abbrev pub least_place : List ℕ → ℕ
least_place [] = 0
least_place (cost ∷ costs) = if list_all (λ c. nat_le cost c) costs then 0 else suc (least_place costs)

-- the place of the chosen candidate
abbrev pub chosen_place : List Candidate → ℕ
chosen_place all = least_place (map cost_of all)
