-- The ids of an order are those of rows, and each index has its own.
use Rattle.std.proofs.Common.{◌≡◌, ℕ, zero, suc, ◌+◌, ◌<◌, Bool, true, false, List, [], ◌∷◌, ◌++◌, take, length, filter, cond, get_or, slice_get, unwrap_or, Option, Some, None, inl, inr, All, refl, sym, ap, ◌∙◌, subst, arith}
use Rattle.std.specs.List.{range_with_len}
use Rattle.std.proofs.lemmas.List.Sorted.{All-permutation}
use Rattle.std.proofs.lemmas.List.Elements.{All-from_get_or, All-get_or}
use Rattle.std.proofs.lemmas.List.FromFn.{length-range_with_len, get_or-range_with_len}
use Rattle.std.proofs.lemmas.Option.{slice_get-get_or, get_or_from_slice_get, unwrap_or-slice_get, slice_get_cases}
use Rattle.std.proofs.lemmas.List.{get_or_default, take_more}
use Rattle.std.specs.List.Sorted.{IsPartitionedBy}
use Rattle.rx_value.specs.declared.values.Value.{Value}
use Rattle.rx_value.specs.declared.shapes.Part.{Part}
use Rattle.rx_value.specs.declared.shapes.Index.{Index}
use Rattle.rx_value.specs.declared.ranges.Rest.{Rest}
use Rattle.rx_value.specs.Keys.{key_of, is_before}
use Rattle.rx_index.specs.Entries.{entry_key, IsOrder, AreOrders, IsEntered, parts_at, ids_at, different_at}
use Rattle.rx_index.specs.Different.{AreDifferent, AreAllDifferent}
use Rattle.rx_index.specs.declared.indexed.Indexed.{Indexed}
use Rattle.rx_index.specs.Steps.{stands_before}
use Rattle.rx_index.proofs.Counting.{parted}

range_below : (n : ℕ) → All (λ id. id < n) (range_with_len 0 n)
range_below n = All-from_get_or (λ id. id < n) (range_with_len 0 n) 0 (λ i lt.
    let within : i < n = omega (arith, lt, length-range_with_len 0 n) in omega (arith, within, get_or-range_with_len 0 n i 0 within))

-- the ids of an order are those of rows
pub ids_below : (parts : List Part) (rows : List (List Value)) (ids : List ℕ) → IsOrder parts rows ids → All (λ id. id < length rows) ids
ids_below parts rows ids o = All-permutation (λ id. id < length rows) (range_with_len 0 (length rows)) ids o.each (range_below (length rows))

pub id_below : (parts : List Part) (rows : List (List Value)) (ids : List ℕ) → IsOrder parts rows ids → (i d : ℕ) → i < length ids → get_or ids i d < length rows
id_below parts rows ids o i d lt = All-get_or (λ id. id < length rows) ids i d lt (ids_below parts rows ids o)

abbrev of_row : List Value → Rest → List Part → Option (List Value) → Bool
of_row points rest parts o = elim o [ Some row ↦ is_before points rest parts (key_of parts row) | None ↦ false ]

found : (points : List Value) (rest : Rest) (parts : List Part) (rows : List (List Value)) (id : ℕ) (o : Option (List Value)) → slice_get rows id ≡ o → (o ≡ None → ⊥)
    → stands_before points rest parts rows id ≡ is_before points rest parts (entry_key parts rows id)
found points rest parts rows id None e h = absurd (h refl)
found points rest parts rows id (Some row) e h =
    ap (of_row points rest parts) e ∙ sym (ap (λ (x : Option (List Value)). is_before points rest parts (key_of parts (unwrap_or x []))) e)

-- of a row that is there, the key stands before a bound
pub of_entry : (points : List Value) (rest : Rest) (parts : List Part) (rows : List (List Value)) (id : ℕ) → id < length rows
    → stands_before points rest parts rows id ≡ is_before points rest parts (entry_key parts rows id)
of_entry points rest parts rows id lt = found points rest parts rows id (slice_get rows id) refl (λ e. absurd (cc (e, slice_get-get_or rows id [] lt)))

-- tests that agree on a list pass as often
pub same_count : {X : Type 0} (p q : X → Bool) (xs : List X) → All (λ x. p x ≡ q x) xs → length (filter p xs) ≡ length (filter q xs)
same_count {X} p q xs h = go xs (λ i d lt. All-get_or (λ x. p x ≡ q x) xs i d lt h) where
  kept : (b c : Bool) (x : X) (ys zs : List X) → b ≡ c → length ys ≡ length zs → length (cond b (x ∷ ys) ys) ≡ length (cond c (x ∷ zs) zs)
  kept true true x ys zs e f = ap suc f
  kept false false x ys zs e f = f
  kept true false x ys zs e f = absurd (cc e)
  kept false true x ys zs e f = absurd (cc e)

  go : (ys : List X) → ((i : ℕ) (d : X) → i < length ys → p (get_or ys i d) ≡ q (get_or ys i d)) → length (filter p ys) ≡ length (filter q ys)
  go [] k = refl
  go (y ∷ ys) k = kept (p y) (q y) y (filter p ys) (filter q ys) (k 0 y (omega arith)) (go ys (λ i d lt. k (suc i) d (omega (arith, lt))))

module _ (parts : List Part) (rows : List (List Value)) (ids : List ℕ) (o : IsOrder parts rows ids) (points : List Value) (rest : Rest) where
  pub agree : All (λ id. stands_before points rest parts rows id ≡ is_before points rest parts (entry_key parts rows id)) ids
  agree = All-from_get_or (λ id. stands_before points rest parts rows id ≡ is_before points rest parts (entry_key parts rows id)) ids 0
      (λ i lt. of_entry points rest parts rows (get_or ids i 0) (id_below parts rows ids o i 0 lt))

  -- the entries before a bound come first
  pub entries_parted : IsPartitionedBy (λ id. stands_before points rest parts rows id) ids
  entries_parted i j d ij jn h =
      of_entry points rest parts rows (get_or ids i d) (id_below parts rows ids o i d (omega (arith, ij, jn)))
      ∙ parted parts rows ids o.rising points rest i j d ij jn (sym (of_entry points rest parts rows (get_or ids j d) (id_below parts rows ids o j d jn)) ∙ h)

-- an index that is there has its entries
pub order_at : (indexes : List Index) (rows : List (List Value)) (orders : List (List ℕ)) → AreOrders indexes rows orders → (n : ℕ) → n < length indexes → (i : Index) (d : List ℕ)
    → (n < length orders) × IsOrder (get_or indexes n i).parts rows (get_or orders n d)
order_at [] rows orders h n lt i d = absurd (omega (arith, lt))
order_at (index ∷ indexes) rows [] h n lt i d = absurd h
order_at (index ∷ indexes) rows (ids ∷ orders) h zero lt i d = (omega arith, h.0)
order_at (index ∷ indexes) rows (ids ∷ orders) h (suc n) lt i d =
    let r = order_at indexes rows orders h.1 n (omega (arith, lt)) i d in (omega (arith, r.0), r.1)

pub parts_there : (t : Indexed) (n : ℕ) (index : Index) → slice_get t.schema.indexes n ≡ Some index → parts_at t n ≡ index.parts
parts_there t n index e = ap (λ (o : Option Index). elim o [ Some i ↦ i.parts | None ↦ [] ]) e

of_index : (t : Indexed) (n : ℕ) → IsEntered t → n < length t.schema.indexes → (index : Index) → slice_get t.schema.indexes n ≡ Some index
    → (n < length t.orders) × IsOrder (parts_at t n) t.rows (ids_at t n)
of_index t n e lt index is =
    let r = order_at t.schema.indexes t.rows t.orders e.orders n lt index [] in (
      r.0,
      subst (λ (p : List Part). IsOrder p t.rows (ids_at t n)) (ap (λ (i : Index). i.parts) (get_or_from_slice_get t.schema.indexes n index index is) ∙ sym (parts_there t n index is))
          (subst (λ (l : List ℕ). IsOrder (get_or t.schema.indexes n index).parts t.rows l) (sym (unwrap_or-slice_get t.orders n [])) r.1),
    )

-- the ids of an index are those of its entries
pub ids_there : (t : Indexed) (n : ℕ) → IsEntered t → n < length t.schema.indexes → (n < length t.orders) × IsOrder (parts_at t n) t.rows (ids_at t n)
ids_there t n e lt = elim (slice_get_cases t.schema.indexes n).1 [
  | inl (index, within, is, same) ↦ of_index t n e lt index is
  | inr (past, none) ↦ absurd (omega (arith, lt, past))
]

pub ids_read : (t : Indexed) (n : ℕ) (ids : List ℕ) → n < length t.orders → ids ≡ get_or t.orders n ids → ids ≡ ids_at t n
ids_read t n ids lt e = e ∙ get_or_default t.orders n ids [] lt ∙ sym (unwrap_or-slice_get t.orders n [])

orders_append : (indexes : List Index) (rows : List (List Value)) (orders : List (List ℕ)) (index : Index) (ids : List ℕ) → AreOrders indexes rows orders → IsOrder index.parts rows ids
    → AreOrders (indexes ++ index ∷ []) rows (orders ++ ids ∷ [])
orders_append [] rows [] index ids h o = (o, tt)
orders_append [] rows (other ∷ orders) index ids h o = absurd h
orders_append (first ∷ indexes) rows [] index ids h o = absurd h
orders_append (first ∷ indexes) rows (other ∷ orders) index ids h o = (h.0, orders_append indexes rows orders index ids h.1 o)

-- one index more has its entries
pub orders_more : (indexes : List Index) (rows : List (List Value)) (orders after : List (List ℕ)) (n : ℕ) (index : Index) (ids : List ℕ) → n < length indexes → index ≡ get_or indexes n index
    → AreOrders (take n indexes) rows orders → IsOrder index.parts rows ids → after ≡ orders ++ ids ∷ [] → AreOrders (take (n + 1) indexes) rows after
orders_more indexes rows orders after n index ids lt is h o e =
    subst (λ l. AreOrders l rows after) (sym (take_more indexes n index lt ∙ ap (λ i. take n indexes ++ i ∷ []) (sym is)))
    (subst (AreOrders (take n indexes ++ index ∷ []) rows) (sym e) (orders_append (take n indexes) rows orders index ids h o))

-- ---- how many different keys

different_of : (indexes : List Index) (rows : List (List Value)) (different : List (List ℕ)) → AreAllDifferent indexes rows different → (n : ℕ) → n < length indexes → (i : Index) (d : List ℕ)
    → (n < length different) × AreDifferent (get_or indexes n i).parts rows (get_or different n d)
different_of [] rows different h n lt i d = absurd (omega (arith, lt))
different_of (index ∷ indexes) rows [] h n lt i d = absurd h
different_of (index ∷ indexes) rows (counts ∷ different) h zero lt i d = (omega arith, h.0)
different_of (index ∷ indexes) rows (counts ∷ different) h (suc n) lt i d =
    let r = different_of indexes rows different h.1 n (omega (arith, lt)) i d in (omega (arith, r.0), r.1)

different_on : (t : Indexed) (n : ℕ) → IsEntered t → n < length t.schema.indexes → (index : Index) → slice_get t.schema.indexes n ≡ Some index
    → (n < length t.different) × AreDifferent (parts_at t n) t.rows (different_at t n)
different_on t n e lt index is =
    let r = different_of t.schema.indexes t.rows t.different e.different n lt index [] in (
      r.0,
      subst (λ (p : List Part). AreDifferent p t.rows (different_at t n)) (ap (λ (i : Index). i.parts) (get_or_from_slice_get t.schema.indexes n index index is) ∙ sym (parts_there t n index is))
          (subst (λ (l : List ℕ). AreDifferent (get_or t.schema.indexes n index).parts t.rows l) (sym (unwrap_or-slice_get t.different n [])) r.1),
    )

-- each index has its numbers of different keys
pub different_there : (t : Indexed) (n : ℕ) → IsEntered t → n < length t.schema.indexes → (n < length t.different) × AreDifferent (parts_at t n) t.rows (different_at t n)
different_there t n e lt = elim (slice_get_cases t.schema.indexes n).1 [
  | inl (index, within, is, same) ↦ different_on t n e lt index is
  | inr (past, none) ↦ absurd (omega (arith, lt, past))
]

pub different_read : (t : Indexed) (n : ℕ) (counts : List ℕ) → n < length t.different → counts ≡ get_or t.different n counts → counts ≡ different_at t n
different_read t n counts lt e = e ∙ get_or_default t.different n counts [] lt ∙ sym (unwrap_or-slice_get t.different n [])

different_append : (indexes : List Index) (rows : List (List Value)) (different : List (List ℕ)) (index : Index) (counts : List ℕ) → AreAllDifferent indexes rows different → AreDifferent index.parts rows counts
    → AreAllDifferent (indexes ++ index ∷ []) rows (different ++ counts ∷ [])
different_append [] rows [] index counts h o = (o, tt)
different_append [] rows (other ∷ different) index counts h o = absurd h
different_append (first ∷ indexes) rows [] index counts h o = absurd h
different_append (first ∷ indexes) rows (other ∷ different) index counts h o = (h.0, different_append indexes rows different index counts h.1 o)

-- one index more has its numbers
pub all_different_more : (indexes : List Index) (rows : List (List Value)) (different after : List (List ℕ)) (n : ℕ) (index : Index) (counts : List ℕ) → n < length indexes → index ≡ get_or indexes n index
    → AreAllDifferent (take n indexes) rows different → AreDifferent index.parts rows counts → after ≡ different ++ counts ∷ [] → AreAllDifferent (take (n + 1) indexes) rows after
all_different_more indexes rows different after n index counts lt is h o e =
    subst (λ l. AreAllDifferent l rows after) (sym (take_more indexes n index lt ∙ ap (λ i. take n indexes ++ i ∷ []) (sym is)))
    (subst (AreAllDifferent (take n indexes ++ index ∷ []) rows) (sym e) (different_append (take n indexes) rows different index counts h o))
