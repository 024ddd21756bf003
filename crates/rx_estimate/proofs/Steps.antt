-- What the seeks of a dive tell, and one range more of an estimate.
use Rattle.std.proofs.Common.{◌≡◌, ℕ, suc, ◌+◌, ◌-◌, ◌<◌, ◌≤◌, min, List, [], ◌∷◌, length, drop, get_or, Option, Some, None, IfSome, refl, sym, ap, ap₂, ◌∙◌, add-one, arith}
use Rattle.std.proofs.Math.Seq.{drop-cons}
use Rattle.std.specs.List.{sum_by}
use Rattle.std.proofs.lemmas.List.{drop_all, get_or_default}
use Rattle.std.proofs.lemmas.Option.{unwrap_or-slice_get}
use Rattle.std.proofs.lemmas.List.Sums.{sum_by-cons}
use Rattle.rx_value.specs.declared.values.Value.{Value}
use Rattle.rx_value.specs.declared.ranges.KeyRange.{KeyRange}
use Rattle.rx_value.specs.declared.ranges.Rest.{Rest}
use Rattle.rx_value.specs.declared.shapes.Index.{Index}
use Rattle.rx_value.specs.declared.shapes.Schema.{Schema}
use Rattle.rx_value.specs.Counting.{rise}
use Rattle.rx_index.specs.declared.indexed.Indexed.{Indexed}
use Rattle.rx_index.specs.Entries.{parts_at, ids_at}
use Rattle.rx_index.specs.Bounds.{cut_of, begin_of, end_of, count_before, count_held, index_keys}
use Rattle.rx_index.proofs.Holding.{difference}
use Rattle.rx_stats.specs.Statistics.{SuitsIndexes}
use Rattle.rx_store.specs.declared.tables.Counts.{Counts}
use Rattle.rx_store.specs.Tables.{Meaning, IsMeaning, IsPlace, IsTold, add_counts}
use Rattle.rx_estimate.specs.Estimates.{parts_in, numbers_at, with_seeks}

-- there are statistics for each index
pub as_many : (indexes : List Index) (statistics : List (List ℕ)) → SuitsIndexes indexes statistics → length statistics ≡ length indexes
as_many [] [] h = refl
as_many [] (numbers ∷ statistics) h = absurd h
as_many (index ∷ indexes) [] h = absurd h
as_many (index ∷ indexes) (numbers ∷ statistics) h = ap suc (as_many indexes statistics h.1)

-- the statistics of an index, read at its number
pub numbers_read : (list statistics : List (List ℕ)) (n : ℕ) (numbers : List ℕ) → list ≡ statistics → n < length list → numbers ≡ get_or list n numbers → numbers ≡ numbers_at statistics n
numbers_read list statistics n numbers same within is = is ∙ get_or_default list n numbers [] within ∙ sym (unwrap_or-slice_get list n []) ∙ ap (λ s. numbers_at s n) same

module _ (index : ℕ) (range : KeyRange) (low high : List Value) (from to : Rest) (begin end : ℕ) where
  held_by : (schema : Schema) (told : Option Indexed) → IfSome told (λ t. t.schema ≡ schema)
      → low ≡ range.points → cut_of from ≡ begin_of (parts_in schema index) range → high ≡ range.points → cut_of to ≡ end_of (parts_in schema index) range
      → IfSome told (λ t. begin ≡ count_before low from (parts_at t index) (index_keys t index))
      → IfSome told (λ t. end ≡ count_before high to (parts_at t index) (index_keys t index))
      → IfSome told (λ t. end - begin ≡ count_held range (index_keys t index))
  held_by schema None same p e q f b c = tt
  held_by schema (Some t) same p e q f b c =
      ap₂ (λ m n. m - n) c b
      ∙ sym (difference (parts_at t index) t.rows (ids_at t index) range low high from to p q
      (e ∙ ap (λ s. begin_of (parts_in s index) range) (sym same)) (f ∙ ap (λ s. end_of (parts_in s index) range) (sym same)))

  same_schema : (table : Meaning) (told : Option Indexed) → IfSome told (IsTold table) → IfSome told (λ t. t.schema ≡ table.schema)
  same_schema table None h = tt
  same_schema table (Some t) h = h.schema_is

  -- the seeks to where a range begins and ends tell how many entries it holds
  pub held_by_seeks : (table : Meaning) → IsMeaning table
      → low ≡ range.points → cut_of from ≡ begin_of (parts_in table.schema index) range → high ≡ range.points → cut_of to ≡ end_of (parts_in table.schema index) range
      → IsPlace table index low from begin → IsPlace table index high to end → IfSome table.told (λ t. end - begin ≡ count_held range (index_keys t index))
  held_by_seeks table sound p e q f b c = held_by table.schema table.told (same_schema table table.told sound.told) p e q f b c

-- an element is the first behind those before it
pub step_at : {A : Type 0} (l : List A) (i : ℕ) (x : A) → i < length l → x ≡ get_or l i x → drop i l ≡ x ∷ drop (i + 1) l
step_at {A} l i x within is =
    drop-cons l i x within ∙ ap (λ (y : A). y ∷ drop (suc i) l) (sym is) ∙ ap (λ (j : ℕ). x ∷ drop j l) (sym (add-one i))

-- what one element more adds to what is left
pub sum_step : {A : Type 0} (f : A → ℕ) (l : List A) (i : ℕ) (x : A) → i < length l → x ≡ get_or l i x → sum_by f (drop i l) ≡ f x + sum_by f (drop (i + 1) l)
sum_step f l i x within is = ap (sum_by f) (step_at l i x within is) ∙ sum_by-cons f x (drop (i + 1) l)

-- what is left at the end adds nothing
pub sum_end : {A : Type 0} (f : A → ℕ) (l : List A) (i : ℕ) → length l ≤ i → sum_by f (drop i l) ≡ 0
sum_end f l i past = ap (sum_by f) (drop_all i l past)

-- a sum that stays at its most, and one number more
pub capped : (most big rows taken left all : ℕ) → most ≤ big → min most (rows + (taken + left)) ≡ all → min most (min (min (rows + taken) big) most + left) ≡ all
capped most big rows taken left all few e = grind (arith, e)

module _ (most : ℕ) (f : Indexed → KeyRange → ℕ) (l : List KeyRange) (i : ℕ) where
  -- of ranges from a place on, what is taken so far comes to what all are taken to have
  abbrev pub ComesTo : Option Indexed → ℕ → ℕ → Type 0
  ComesTo told rows from = IfSome told (λ t. min most (rows + sum_by (f t) (drop from l)) ≡ min most (sum_by (f t) l))

  -- one range more is taken
  pub rows-more : (told : Option Indexed) (x : KeyRange) (big rows taken sum new : ℕ) → i < length l → x ≡ get_or l i x → most ≤ big
      → IfSome told (λ t. taken ≡ f t x) → sum ≡ min (rows + taken) big → new ≡ min sum most → ComesTo told rows i → ComesTo told new (i + 1)
  rows-more None x big rows taken sum new within is few e p q h = tt
  rows-more (Some t) x big rows taken sum new within is few e p q h =
      ap (λ n. min most (n + sum_by (f t) (drop (i + 1) l))) (q ∙ ap (λ n. min n most) p)
      ∙ capped most big rows taken (sum_by (f t) (drop (i + 1) l)) (min most (sum_by (f t) l)) few
      (ap (λ n. min most (rows + n)) (ap (λ n. n + sum_by (f t) (drop (i + 1) l)) e ∙ sym (sum_step (f t) l i x within is)) ∙ h)

  -- all are taken
  pub rows-all : (told : Option Indexed) (rows : ℕ) → length l ≤ i → rows ≤ most → ComesTo told rows i → IfSome told (λ t. rows ≡ min most (sum_by (f t) l))
  rows-all None rows past few h = tt
  rows-all (Some t) rows past few h = omega (arith, few, ap (λ n. min most (rows + n)) (sum_end (f t) l i past), h)

rise-zero : (c : ℕ) → rise 0 c ≡ c
rise-zero c = grind arith

rise-more : (n m c : ℕ) → rise m (rise n c) ≡ rise (n + m) c
rise-more n m c = grind arith

pub with_seeks-zero : (c : Counts) → with_seeks 0 c ≡ c
with_seeks-zero c = ap (λ s. record c { seeks = s }) (rise-zero c.seeks)

-- m seeks more after n
pub with_seeks-more : (n m : ℕ) (a b : Counts) → b ≡ with_seeks n a → with_seeks m b ≡ with_seeks (n + m) a
with_seeks-more n m a b e = ap (with_seeks m) e ∙ ap (λ s. record a { seeks = s }) (rise-more n m a.seeks)

-- of ranges from a place on, the seeks for one more are made
pub seeks-more : (f : KeyRange → ℕ) (l : List KeyRange) (i : ℕ) (x : KeyRange) (old new all : Counts) → i < length l → x ≡ get_or l i x → new ≡ with_seeks (f x) old
    → with_seeks (sum_by f (drop i l)) old ≡ all → with_seeks (sum_by f (drop (i + 1) l)) new ≡ all
seeks-more f l i x old new all within is e h =
    with_seeks-more (f x) (sum_by f (drop (i + 1) l)) old new e ∙ ap (λ n. with_seeks n old) (sym (sum_step f l i x within is)) ∙ h

-- so many seeks, and no entry and no row
pub with_seeks-add : (n : ℕ) (c : Counts) → with_seeks n c ≡ add_counts (record { seeks = n; entries = 0; rows = 0 }) c
with_seeks-add n c = ap₂ (λ e r. record { seeks = rise n c.seeks; entries = e; rows = r }) (sym (rise-zero c.entries)) (sym (rise-zero c.rows))
