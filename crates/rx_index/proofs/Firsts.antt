-- One more index among those that were looked through for duplicates.
use Rattle.std.proofs.Common.{◌≡◌, ◌⊎◌, inl, inr, ℕ, zero, suc, ◌+◌, ◌<◌, ◌≤◌, Bool, true, false, List, Option, Some, None, slice_get, refl, subst, arith}
use Rattle.std.specs.Prelude.{nat_le}
use Rattle.rx_value.specs.declared.values.Value.{Value}
use Rattle.rx_value.specs.declared.shapes.Index.{Index}
use Rattle.rx_index.specs.declared.duplicates.Duplicate.{Duplicate}
use Rattle.rx_index.specs.Duplicates.{Repeats, RepeatsUnique, Breaks, IsFirst}
use Rattle.rx_index.specs.Soonest.{IsSoonest, sooner}

module _ (indexes : List Index) (file : List (List Value)) (n : ℕ) (index : Index) (there : slice_get indexes n ≡ Some index) where
  one : (o p : Option Index) (i j : Index) → o ≡ Some i → o ≡ Some j → i ≡ j
  one o p i j e f = cc (e, f)

  of_index : (row : ℕ) → Breaks indexes file n row → RepeatsUnique index file row
  of_index row b = subst (λ i. RepeatsUnique i file row) (one (slice_get indexes n) None b.0 index b.1 there) b.2

  breaks : (row : ℕ) → RepeatsUnique index file row → Breaks indexes file n row
  breaks row r = (index, there, r)

  either : (m : ℕ) → m < n + 1 → (m < n) ⊎ (m ≡ n)
  either m lt = by (nat_lt_or m n lt) where
    nat_lt_or : (a b : ℕ) → a < b + 1 → (a < b) ⊎ (a ≡ b)
    nat_lt_or zero zero h = inr (omega arith)
    nat_lt_or zero (suc b) h = inl (omega arith)
    nat_lt_or (suc a) zero h = absurd (omega (arith, h))
    nat_lt_or (suc a) (suc b) h = elim (nat_lt_or a b (omega (arith, h))) [ inl k ↦ inl (omega (arith, k)) | inr k ↦ inr (omega (arith, k)) ]

    by : (m < n) ⊎ (m ≡ n) → (m < n) ⊎ (m ≡ n)
    by h = h

  none_there : IsFirst (RepeatsUnique index file) None → (m row : ℕ) → m ≡ n → Breaks indexes file m row → ⊥
  none_there h m row e b = h row (of_index row (subst (λ k. Breaks indexes file k row) e b))

  least_there : (least : ℕ) → IsFirst (RepeatsUnique index file) (Some least) → (m row : ℕ) → m ≡ n → Breaks indexes file m row → least ≤ row
  least_there least h m row e b = h.1 row (of_index row (subst (λ k. Breaks indexes file k row) e b))

  stays : (d : Duplicate) → IsSoonest indexes file n (Some d) → ((m row : ℕ) → m ≡ n → Breaks indexes file m row → d.row ≤ row) → IsSoonest indexes file (n + 1) (Some d)
  stays d h k = (
    omega (arith, h.0),
    h.1,
    λ m row lt b. elim (either m lt) [ inl l ↦ h.2 m row l b | inr e ↦ k m row e b ],
    λ m lt b. elim (either m lt) [ inl l ↦ h.3 m l b | inr e ↦ omega (arith, h.0, e) ],
  )

  comes : (row : ℕ) → IsFirst (RepeatsUnique index file) (Some row) → ((m other : ℕ) → m < n → Breaks indexes file m other → row < other) → IsSoonest indexes file (n + 1) (Some (record { index = n; row = row }))
  comes row h k = (
    omega arith,
    breaks row h.0,
    λ m other lt b. elim (either m lt) [ inl l ↦ (let s : row < other = k m other l b in omega (arith, s)) | inr e ↦ least_there row h m other e b ],
    λ m lt b. elim (either m lt) [ inl l ↦ absurd (let s : row < row = k m row l b in omega (arith, s)) | inr e ↦ omega (arith, e) ],
  )

  le_is : (a b : ℕ) → nat_le a b ≡ true → a ≤ b
  le_is a b e = grind arith

  gt_is : (a b : ℕ) → nat_le a b ≡ false → b < a
  gt_is a b e = grind arith

  by_row : (d : Duplicate) (row : ℕ) (b : Bool) → nat_le d.row row ≡ b → IsSoonest indexes file n (Some d) → IsFirst (RepeatsUnique index file) (Some row)
      → IsSoonest indexes file (n + 1) (Some (elim b [ true ↦ d | false ↦ record { index = n; row = row } ]))
  by_row d row true e h k = stays d h (λ m other s b. let l : row ≤ other = least_there row k m other s b in omega (arith, l, le_is d.row row e))
  by_row d row false e h k = comes row k (λ m other lt b. let l : d.row ≤ other = h.2 m other lt b in omega (arith, l, gt_is d.row row e))

  pub one_more : (first : Option Duplicate) (row : Option ℕ) → IsSoonest indexes file n first → IsFirst (RepeatsUnique index file) row → IsSoonest indexes file (n + 1) (sooner first n row)
  one_more None None h k = λ m row lt b. elim (either m lt) [ inl l ↦ h m row l b | inr e ↦ none_there k m row e b ]
  one_more (Some d) None h k = stays d h (λ m row e b. absurd (none_there k m row e b))
  one_more None (Some row) h k = comes row k (λ m other lt b. absurd (h m other lt b))
  one_more (Some d) (Some row) h k = by_row d row (nat_le d.row row) refl h k

-- the first row that repeats a key of an index that is unique
pub of_unique : (index : Index) (file : List (List Value)) (first : Option ℕ) → index.unique ≡ true → IsFirst (Repeats index.parts file) first → IsFirst (RepeatsUnique index file) first
of_unique index file None e h = λ n r. h n r.1
of_unique index file (Some first) e h = ((e, h.0), λ n r. h.1 n r.1)
