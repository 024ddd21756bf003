-- Scans that are picked and sorted are as many at most, and what holds of each still holds.
use Rattle.std.proofs.Common.{◌≡◌, ◌≤◌, ◌<◌, ◌+◌, ℕ, Bool, not, List, [], ◌∷◌, length, take, drop, All, arith}
use Rattle.std.specs.List.{fold, filter, position_or_len}
use Rattle.std.proofs.lemmas.List.{length-map}
use Rattle.std.proofs.lemmas.List.Edits.{length-insert}
use Rattle.std.proofs.lemmas.List.Elements.{All-nil, All-cons, All-append, All-take, All-drop, All-tail, All-head, All-filter, All-map, All-weaker}
use Rattle.std.proofs.lemmas.List.Sums.{length-filter, count_by-le-length, prefix_len-le-length}
use Rattle.rx_value.specs.declared.shapes.Schema.{Schema}
use Rattle.rx_cost.specs.declared.candidates.Scan.{Scan}
use Rattle.rx_plan.specs.Naming.{is_primary}
use Rattle.rx_merges.specs.Ordered.{is_row_ordered, goes_first, placed, sorted, row_ordered, as_filter, filters_in}
use Rattle.rx_merges.specs.Fitting.{IsCounted, AreScans}

fewer : {A : Type 0} (p : A → Bool) (xs : List A) → length (filter p xs) ≤ length xs
fewer p xs = omega (arith, length-filter p xs, count_by-le-length p xs)

one_more : (xs : List Scan) (s : Scan) → length (placed xs s) ≡ length xs + 1
one_more xs s = length-insert xs (position_or_len (goes_first s) xs) s (prefix_len-le-length (λ o. not (goes_first s o)) xs)

as_many_from : (xs ys : List Scan) → length (fold placed ys xs) ≡ length ys + length xs
as_many_from [] ys = omega arith
as_many_from (x ∷ xs) ys = omega (arith, as_many_from xs (placed ys x), one_more ys x)

all_placed : (P : Scan → Type 0) (xs : List Scan) (s : Scan) → All P xs → P s → All P (placed xs s)
all_placed P xs s h k =
    let at = position_or_len (goes_first s) xs in
    All-append P (take at xs) (s ∷ drop at xs) (All-take P at xs h) (All-cons P s (drop at xs) k (All-drop P at xs h))

all_from : (P : Scan → Type 0) (xs ys : List Scan) → All P xs → All P ys → All P (fold placed ys xs)
all_from P [] ys h k = k
all_from P (x ∷ xs) ys h k = all_from P xs (placed ys x) (All-tail P x xs h) (all_placed P ys x k (All-head P x xs h))

-- what holds of each scan holds of each of them sorted
pub all_sorted : (P : Scan → Type 0) (scans : List Scan) → All P scans → All P (sorted scans)
all_sorted P scans h = all_from P scans [] h (All-nil P)

-- what holds of each scan holds of those that give row ids in rising order
pub all_ordered : (P : Scan → Type 0) (schema : Schema) (scans : List Scan) → All P scans → All P (row_ordered schema scans)
all_ordered P schema scans h =
    all_sorted P (filter (is_row_ordered schema) scans) (All-filter (is_row_ordered schema) P scans h)

-- and of the filters, where it doesn't look at the role
pub all_filters : (P : Scan → Type 0) (schema : Schema) (scans : List Scan) → ((s : Scan) → P s → P (as_filter s)) → All P scans → All P (filters_in schema scans)
all_filters P schema scans so h =
    All-map P as_filter (filter (λ s. is_primary schema s.index) scans) (All-filter (λ s. is_primary schema s.index) (λ s. P (as_filter s)) scans (All-weaker P (λ s. P (as_filter s)) so scans h))

pub ordered_are : (schema : Schema) (count : ℕ) (scans : List Scan) → AreScans schema count scans → AreScans schema count (row_ordered schema scans)
ordered_are schema count scans h = record {
  there = all_ordered (λ s. s.index < length schema.indexes) schema scans h.there;
  counted = all_ordered (IsCounted count) schema scans h.counted;
  few = omega (arith, h.few, as_many_from (filter (is_row_ordered schema) scans) [], fewer (is_row_ordered schema) scans);
}

pub filters_are : (schema : Schema) (count : ℕ) (scans : List Scan) → AreScans schema count scans → AreScans schema count (filters_in schema scans)
filters_are schema count scans h = record {
  there = all_filters (λ s. s.index < length schema.indexes) schema scans (λ s k. k) h.there;
  counted = all_filters (IsCounted count) schema scans (λ s k. record { rows = k.rows; ranges = k.ranges }) h.counted;
  few = omega (arith, h.few, length-map (filter (λ s. is_primary schema s.index) scans) as_filter, fewer (λ s. is_primary schema s.index) scans);
}
