-- The least of the candidates read so far.
use Rattle.std.proofs.Common.{◌≡◌, ℕ, zero, suc, ◌+◌, ◌<◌, ◌≤◌, List, [], ◌∷◌, length, map, get_or, refl, ap, arith, inl, inr, ◌⊎◌}
use Rattle.std.proofs.lemmas.List.{length-map}
use Rattle.rx_cost.specs.declared.candidates.Candidate.{Candidate}
use Rattle.rx_cost.specs.Choice.{cost_of}

pub cost_at : (all : List Candidate) (k : ℕ) (d : Candidate) → k < length all → get_or (map cost_of all) k 0 ≡ (get_or all k d).cost
cost_at [] k d within = absurd (omega arith)
cost_at (c ∷ cs) zero d within = refl
cost_at (c ∷ cs) (suc k) d within = cost_at cs k d (omega (arith, within))

-- What holds of each candidate read so far, where `best` is the place of the least of them.
pub record IsBest (costs : List ℕ) (best i : ℕ) : Type 0 where
  pub within : best < length costs
  pub least : (k : ℕ) → k < i → get_or costs best 0 ≤ get_or costs k 0
  pub first : (k : ℕ) → k < best → get_or costs best 0 < get_or costs k 0

last_or : (k i : ℕ) → k < i + 1 → (k < i) ⊎ (k ≡ i)
last_or k zero h = inr (omega arith)
last_or zero (suc i) h = inl (omega arith)
last_or (suc k) (suc i) h = elim (last_or k i (omega (arith, h))) [ inl l ↦ inl (omega (arith, l)) | inr e ↦ inr (ap suc e) ]

pub best-lower : (costs : List ℕ) (best i : ℕ) → IsBest costs best i → i < length costs → get_or costs i 0 < get_or costs best 0 → IsBest costs i (i + 1)
best-lower costs best i b within lower = record {
  within = within;
  least = λ k h. elim (last_or k i h) [ inl l ↦ omega (arith, lower, b.least k l) | inr e ↦ rw e (omega arith) ];
  first = λ k h. omega (arith, lower, b.least k h);
}

pub best-kept : (costs : List ℕ) (best i : ℕ) → IsBest costs best i → get_or costs best 0 ≤ get_or costs i 0 → IsBest costs best (i + 1)
best-kept costs best i b kept = record {
  within = b.within;
  least = λ k h. elim (last_or k i h) [ inl l ↦ b.least k l | inr e ↦ rw e kept ];
  first = b.first;
}

pub choice-lower : (all : List Candidate) (best i : ℕ) (d e : Candidate) → IsBest (map cost_of all) best i → i < length all → (get_or all i d).cost < (get_or all best e).cost → IsBest (map cost_of all) i (i + 1)
choice-lower all best i d e b within lower =
    let long : length (map cost_of all) ≡ length all = length-map all cost_of in
    let there : best < length all = omega (arith, long, b.within) in
    best-lower (map cost_of all) best i b (omega (arith, long)) (omega (arith, lower, cost_at all i d within, cost_at all best e there))

pub choice-kept : (all : List Candidate) (best i : ℕ) (d e : Candidate) → IsBest (map cost_of all) best i → i < length all → (get_or all best e).cost ≤ (get_or all i d).cost → IsBest (map cost_of all) best (i + 1)
choice-kept all best i d e b within kept =
    let long : length (map cost_of all) ≡ length all = length-map all cost_of in
    let there : best < length all = omega (arith, long, b.within) in
    best-kept (map cost_of all) best i b (omega (arith, kept, cost_at all i d within, cost_at all best e there))
