-- The first of least cost: of numbers read so far, and of candidates by its place.
use Rattle.std.proofs.Common.{◌≡◌, ℕ, zero, suc, ◌+◌, ◌<◌, ◌≤◌, List, [], ◌∷◌, length, map, get_or, slice_get, Some, refl, ap, sym, ◌∙◌, arith, inl, inr, ◌⊎◌}
use Rattle.std.proofs.lemmas.List.{length-map}
use Rattle.std.proofs.lemmas.Option.{slice_get-get_or}
use Rattle.rx_cost.specs.declared.candidates.Candidate.{Candidate}
use Rattle.rx_cost.specs.declared.candidates.Scan.{Scan}
use Rattle.rx_cost.specs.Choice.{cost_of, IsFirstLeast, least_place, chosen_place}
use Rattle.rx_cost.proofs.Least.{place_is_first, one_first}
use Rattle.rx_merges.specs.Intersections.{ids_of}
use Rattle.rx_merges.specs.Unions.{cheapest}

-- a place is the first of the least among so many
pub record IsLeastOf (costs : List ℕ) (best i : ℕ) : Type 0 where
  pub within : best < length costs
  pub least : (k : ℕ) → k < i → get_or costs best 0 ≤ get_or costs k 0
  pub first : (k : ℕ) → k < best → get_or costs best 0 < get_or costs k 0

last_or : (k i : ℕ) → k < i + 1 → (k < i) ⊎ (k ≡ i)
last_or k zero h = inr (omega arith)
last_or zero (suc i) h = inl (omega arith)
last_or (suc k) (suc i) h = elim (last_or k i (omega (arith, h))) [ inl l ↦ inl (omega (arith, l)) | inr e ↦ inr (ap suc e) ]

lower : (costs : List ℕ) (best i : ℕ) → IsLeastOf costs best i → i < length costs → get_or costs i 0 < get_or costs best 0 → IsLeastOf costs i (i + 1)
lower costs best i b within less = record {
  within = within;
  least = λ k h. elim (last_or k i h) [ inl l ↦ omega (arith, less, b.least k l) | inr e ↦ rw e (omega arith) ];
  first = λ k h. omega (arith, less, b.least k h);
}

kept : (costs : List ℕ) (best i : ℕ) → IsLeastOf costs best i → get_or costs best 0 ≤ get_or costs i 0 → IsLeastOf costs best (i + 1)
kept costs best i b more = record {
  within = b.within;
  least = λ k h. elim (last_or k i h) [ inl l ↦ b.least k l | inr e ↦ rw e more ];
  first = b.first;
}

cost_at : (scans : List Scan) (k : ℕ) (d : Scan) → k < length scans → get_or (map ids_of scans) k 0 ≡ ids_of (get_or scans k d)
cost_at [] k d within = absurd (omega (arith, within))
cost_at (s ∷ ss) zero d within = refl
cost_at (s ∷ ss) (suc k) d within = cost_at ss k d (omega (arith, within))

-- one scan more costs less
pub scan-lower : (scans : List Scan) (best i : ℕ) (d e : Scan) → IsLeastOf (map ids_of scans) best i → i < length scans → ids_of (get_or scans i d) < ids_of (get_or scans best e) → IsLeastOf (map ids_of scans) i (i + 1)
scan-lower scans best i d e b within less =
    let long : length (map ids_of scans) ≡ length scans = length-map scans ids_of in
    let there : best < length scans = omega (arith, long, b.within) in
    lower (map ids_of scans) best i b (omega (arith, long)) (omega (arith, less, cost_at scans i d within, cost_at scans best e there))

-- one scan more costs no less
pub scan-kept : (scans : List Scan) (best i : ℕ) (d e : Scan) → IsLeastOf (map ids_of scans) best i → i < length scans → ids_of (get_or scans best e) ≤ ids_of (get_or scans i d) → IsLeastOf (map ids_of scans) best (i + 1)
scan-kept scans best i d e b within more =
    let long : length (map ids_of scans) ≡ length scans = length-map scans ids_of in
    let there : best < length scans = omega (arith, long, b.within) in
    kept (map ids_of scans) best i b (omega (arith, more, cost_at scans i d within, cost_at scans best e there))

-- what stands at the first of the least costs
pub chosen_at : (list : List Candidate) (place : ℕ) (x : Candidate) → IsFirstLeast (map cost_of list) place → x ≡ get_or list place x → Some x ≡ slice_get list (chosen_place list)
chosen_at list place x first at =
    let long : length (map cost_of list) ≡ length list = length-map list cost_of in
    let within : place < length list = omega (arith, long, first.within) in
    let same : place ≡ chosen_place list = one_first (map cost_of list) place (chosen_place list) first (place_is_first (map cost_of list) (omega (arith, first.within))) in
    ap Some at ∙ sym (slice_get-get_or list place x within) ∙ ap (slice_get list) same

pub cheapest_at : (scans : List Scan) (place : ℕ) (x : Scan) → IsFirstLeast (map ids_of scans) place → x ≡ get_or scans place x → Some x ≡ cheapest scans
cheapest_at scans place x first at =
    let long : length (map ids_of scans) ≡ length scans = length-map scans ids_of in
    let within : place < length scans = omega (arith, long, first.within) in
    let same : place ≡ least_place (map ids_of scans) = one_first (map ids_of scans) place (least_place (map ids_of scans)) first (place_is_first (map ids_of scans) (omega (arith, first.within))) in
    ap Some at ∙ sym (slice_get-get_or scans place x within) ∙ ap (slice_get scans) same

-- the place is one of the scans
pub place_there : (scans : List Scan) (place : ℕ) → IsFirstLeast (map ids_of scans) place → place < length scans
place_there scans place first = omega (arith, length-map scans ids_of, first.within)
