-- Places of values that are borrowed.
use Rattle.std.proofs.Common.{◌≡◌, ◌<◌, ◌≤◌, ◌+◌, ℕ, zero, suc, List, [], ◌∷◌, ◌++◌, length, Option, Some, None, Bor, refl, ap, sym, ◌∙◌, arith, length-append, get_or, take}
use Rattle.std.proofs.lemmas.List.{length-set}
use Rattle.std.specs.Prelude.{slice_get, slice_set}
use Rattle.rx_value.specs.declared.values.Value.{Value}
use Rattle.rx_walk.specs.Points.{values_in, IsFull}

-- no more values than places
pub few_values : (k : ℕ) (places : List (Option (Bor Value))) → length (values_in k places) ≤ length places
few_values zero places = omega arith
few_values (suc k) [] = omega arith
few_values (suc k) (None ∷ places) = omega (arith, few_values k places)
few_values (suc k) (Some v ∷ places) = omega (arith, few_values k places)

few_taken : (k : ℕ) (places : List (Option (Bor Value))) → length (values_in k places) ≤ k
few_taken zero places = omega arith
few_taken (suc k) [] = omega arith
few_taken (suc k) (None ∷ places) = omega (arith, few_taken k places)
few_taken (suc k) (Some v ∷ places) = omega (arith, few_taken k places)

-- one more is taken
pub one_more : (k : ℕ) (places : List (Option (Bor Value))) (v : Bor Value) → k < length places → values_in (k + 1) (slice_set places k (Some v)) ≡ values_in k places ++ v.now ∷ []
one_more k [] v low = absurd (omega (arith, low))
one_more zero (p ∷ places) v low = refl
one_more (suc k) (None ∷ places) v low = let up : suc k + 1 ≡ suc (k + 1) = omega arith in rw up (one_more k places v (omega (arith, low)))
one_more (suc k) (Some w ∷ places) v low = let up : suc k + 1 ≡ suc (k + 1) = omega arith in rw up (ap (λ (l : List Value). w.now ∷ l) (one_more k places v (omega (arith, low))))

pub full_more : (k : ℕ) (places : List (Option (Bor Value))) (v : Bor Value) → k < 16 → IsFull k places → IsFull (k + 1) (slice_set places k (Some v))
full_more k places v low is = record {
  room = length-set places k (Some v) ∙ is.room;
  taken = ap length (one_more k places v (omega (arith, is.room))) ∙ length-append (values_in k places) (v.now ∷ []) ∙ omega (arith, is.taken);
}

abbrev pub now_of : Option (Bor Value) → Option Value
now_of None = None
now_of (Some v) = Some v.now

-- what stands in a place that is taken
pub taken_at : (k i : ℕ) (places : List (Option (Bor Value))) (d : Option (Bor Value)) → length (values_in k places) ≡ k → i < k → slice_get (values_in k places) i ≡ now_of (get_or places i d)
taken_at zero i places d is low = absurd (omega (arith, low))
taken_at (suc k) i [] d is low = absurd (omega (arith, is))
taken_at (suc k) i (None ∷ places) d is low = absurd (omega (arith, is, few_taken k places))
taken_at (suc k) zero (Some v ∷ places) d is low = refl
taken_at (suc k) (suc i) (Some v ∷ places) d is low = taken_at k i places d (omega (arith, is)) (omega (arith, low))

-- a place that is taken is one of the 16
pub place_low : (k i : ℕ) (places : List (Option (Bor Value))) (now : List Value) → IsFull k places → values_in k places ≡ now → i < length now → i < 16
place_low k i places now is same low = omega (arith, ap length same, few_values k places, is.room, low)

pub few_points : (k : ℕ) (places : List (Option (Bor Value))) → IsFull k places → k ≤ 16
few_points k places is = omega (arith, few_values k places, is.room, is.taken)

-- what is read there
pub read_at : (k i : ℕ) (places : List (Option (Bor Value))) (now : List Value) (d r : Option (Bor Value)) → IsFull k places → values_in k places ≡ now → i < length now → r ≡ get_or places i d → slice_get now i ≡ now_of r
read_at k i places now d r is same low e =
    ap (λ (l : List Value). slice_get l i) (sym same)
    ∙ taken_at k i places d is.taken (omega (arith, ap length same, is.taken, low))
    ∙ ap now_of (sym e)

never_empty : (now : List Value) (i : ℕ) → i < length now → slice_get now i ≡ None → ⊥
never_empty [] i low e = omega (arith, low)
never_empty (v ∷ vs) zero low e = cc e
never_empty (v ∷ vs) (suc i) low e = never_empty vs i (omega (arith, low)) e

-- no place that is taken is empty
pub not_empty : (k i : ℕ) (places : List (Option (Bor Value))) (now : List Value) (d r : Option (Bor Value)) → IsFull k places → values_in k places ≡ now → i < length now → r ≡ get_or places i d → r ≡ None → ⊥
not_empty k i places now d r is same low e empty = never_empty now i low (read_at k i places now d r is same low e ∙ ap now_of empty)

-- one value more of the first ones
pub take_more : (i : ℕ) (list : List Value) (v : Value) → slice_get list i ≡ Some v → take (i + 1) list ≡ take i list ++ v ∷ []
take_more i [] v is = absurd (cc is)
take_more zero (w ∷ list) v is = let same : w ≡ v = cc is in ap (λ (u : Value). u ∷ []) same
take_more (suc i) (w ∷ list) v is =
    let up : suc i + 1 ≡ suc (i + 1) = omega arith in
    ap (λ (k : ℕ). take k (w ∷ list)) up ∙ ap (λ (l : List Value). w ∷ l) (take_more i list v is)

-- a point copied behind those before it
pub point_copied : (i : ℕ) (list old new : List Value) (v w : Value) → old ≡ take i list → slice_get list i ≡ Some v → w ≡ v → new ≡ old ++ w ∷ [] → new ≡ take (i + 1) list
point_copied i list old new v w was is same pushed =
    pushed ∙ ap (λ (l : List Value). l ++ w ∷ []) was ∙ ap (λ (u : Value). take i list ++ u ∷ []) same ∙ sym (take_more i list v is)
