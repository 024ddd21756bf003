-- The keys that a range holds are those before its end and not before its begin.
use Rattle.std.proofs.Common.{◌≡◌, ◌⊎◌, inl, inr, ℕ, ◌+◌, ◌-◌, ◌≤◌, Bool, true, false, not, ◌&&◌, cond, List, [], ◌∷◌, length, drop, filter, Option, Some, None, refl, sym, ap, ap₂, ◌∙◌, arith}
use Rattle.std.specs.declared.cmp.Ordering.{Ordering}
use Rattle.std.specs.declared.cmp.Ordering.TheVariants.{Less, Equal, Greater}
use Rattle.std.specs.Ordering.{ordering_then, ordering_reverse}
use Rattle.rx_value.specs.declared.values.Value.{Value}
use Rattle.rx_value.specs.declared.shapes.Part.{Part}
use Rattle.rx_value.specs.declared.order.End.{End}
use Rattle.rx_value.specs.declared.order.End.TheVariants.{Cut, Last}
use Rattle.rx_value.specs.declared.order.Side.{Side}
use Rattle.rx_value.specs.declared.order.Side.TheVariants.{Below, Above}
use Rattle.rx_value.specs.declared.order.Span.{Span}
use Rattle.rx_value.specs.declared.ranges.KeyRange.{KeyRange}
use Rattle.rx_value.specs.declared.ranges.Rest.{Rest}
use Rattle.rx_value.specs.declared.ranges.Rest.TheVariants.{Start, Part as AtCut, Finish}
use Rattle.rx_value.specs.Order.{value_cmp, is_at_most, below, above}
use Rattle.rx_value.specs.Range.{behind}
use Rattle.rx_value.specs.Keys.{part_value, key_of, part_cmp, is_before_cut, goes_before, is_before, goes_within, goes_on, holds}
use Rattle.rx_value.proofs.Ends.{value_cmp_total, at_most-trans, at_most-total}
use mathlib.Core.Path.{fun_ext}
use Rattle.rx_index.specs.Entries.{row_at, entry_key}
use Rattle.rx_index.proofs.Counting.{count_mapped}
use Rattle.rx_index.specs.Bounds.{keys_of, count_before, count_held, KeyCut, start, at, finish, cut_of, first_falls, begin_end, end_end, begin_of, end_of}

abbrev between : Bool → Bool → Bool
between before_begin before_end = not before_begin && before_end

-- ---- a cut of a part stands below a value or above it

sides : (o : Ordering) (s : Side) → elim (ordering_then o (elim s [ Below ↦ Equal | Above ↦ Greater ])) [ Greater ↦ false | _ ↦ true ]
    ≡ not (elim (ordering_then (ordering_reverse o) (elim s [ Below ↦ Greater | Above ↦ Equal ])) [ Greater ↦ false | _ ↦ true ])
sides Less Below = refl
sides Less Above = refl
sides Equal Below = refl
sides Equal Above = refl
sides Greater Below = refl
sides Greater Above = refl

cut_side : (u v : Value) (s : Side) → is_at_most (Cut u s) (below v) ≡ not (is_at_most (above v) (Cut u s))
cut_side u v Below = sides (value_cmp u v) Below ∙ ap (λ o. not (elim (ordering_then o Greater) [ Greater ↦ false | _ ↦ true ])) (sym (value_cmp_total.antisymm v u))
cut_side u v Above = sides (value_cmp u v) Above ∙ ap (λ o. not (elim (ordering_then o Equal) [ Greater ↦ false | _ ↦ true ])) (sym (value_cmp_total.antisymm v u))

either_side : (e : End) (v : Value) → is_at_most e (below v) ≡ not (is_at_most (above v) e)
either_side (Cut u s) v = cut_side u v s
either_side Last v = refl

twice : (b : Bool) → not (not b) ≡ b
twice true = refl
twice false = refl

guarded : (b c : Bool) → elim b [ true ↦ c | false ↦ false ] ≡ b && c
guarded true c = refl
guarded false c = refl

swapped : (b c : Bool) → b && c ≡ c && b
swapped true true = refl
swapped true false = refl
swapped false true = refl
swapped false false = refl

within_cuts : (falls : Bool) (span : Span) (v : Value)
    → elim (is_at_most span.lo (below v)) [ true ↦ is_at_most (above v) span.hi | false ↦ false ]
    ≡ between (is_before_cut falls v (begin_end falls span)) (is_before_cut falls v (end_end falls span))
within_cuts false span v = guarded (is_at_most span.lo (below v)) (is_at_most (above v) span.hi) ∙ ap (λ b. b && is_at_most (above v) span.hi) (either_side span.lo v)
within_cuts true span v =
    guarded (is_at_most span.lo (below v)) (is_at_most (above v) span.hi)
    ∙ swapped (is_at_most span.lo (below v)) (is_at_most (above v) span.hi)
    ∙ ap (λ b. b && is_at_most span.lo (below v)) (sym (twice (is_at_most (above v) span.hi)) ∙ ap not (sym (either_side span.hi v)))

-- ---- what follows the points

abbrev pub at_begin : (parts : List Part) (last : Option Span) → KeyCut
at_begin parts last = elim last [ None ↦ start | Some span ↦ at (begin_end (first_falls parts) span) ]

abbrev pub at_end : (parts : List Part) (last : Option Span) → KeyCut
at_end parts last = elim last [ None ↦ finish | Some span ↦ at (end_end (first_falls parts) span) ]

-- the keys that stand before a cut
abbrev before_cut : KeyCut → List Part → List Value → Bool
before_cut start parts values = false
before_cut finish parts values = true
before_cut (at end) (p ∷ ps) (v ∷ vs) = is_before_cut p.descending v end
before_cut (at end) _ _ = false

of_rest : (rest : Rest) (parts : List Part) (row : List Value) → goes_before rest parts (key_of parts row) ≡ before_cut (cut_of rest) parts (key_of parts row)
of_rest Start parts row = refl
of_rest Finish parts row = refl
of_rest (AtCut end) [] row = refl
of_rest (AtCut end) (p ∷ ps) row = refl

goes_between : (parts : List Part) (last : Option Span) (row : List Value)
    → goes_within last (key_of parts row) ≡ between (before_cut (at_begin parts last) parts (key_of parts row)) (before_cut (at_end parts last) parts (key_of parts row))
goes_between parts None row = refl
goes_between [] (Some span) row = refl
goes_between (p ∷ ps) (Some span) row = within_cuts p.descending span (part_value p row)

-- ---- the points before

-- a key stands before a cut among the keys with these points
abbrev pub before_key_cut : List Value → KeyCut → List Part → List Value → Bool
before_key_cut [] stand parts key = before_cut stand parts key
before_key_cut (point ∷ points) stand (p ∷ ps) (v ∷ vs) = elim (part_cmp p.descending v point) [ Less ↦ true | Equal ↦ before_key_cut points stand ps vs | Greater ↦ false ]
before_key_cut (point ∷ points) stand _ _ = false

abbrev decide : Ordering → Bool → Bool
decide o same = elim o [ Less ↦ true | Equal ↦ same | Greater ↦ false ]

pub of_bound : (points : List Value) (rest : Rest) (parts : List Part) (row : List Value)
    → is_before points rest parts (key_of parts row) ≡ before_key_cut points (cut_of rest) parts (key_of parts row)
of_bound [] rest parts row = of_rest rest parts row
of_bound (point ∷ points) rest [] row = refl
of_bound (point ∷ points) rest (p ∷ ps) row = ap (decide (part_cmp p.descending (part_value p row) point)) (of_bound points rest ps row)

abbrev met : Ordering → Option (List Value) → Option (List Value)
met o rest = elim o [ Equal ↦ rest | _ ↦ None ]

on_equal : (o : Ordering) (last : Option Span) (rest : Option (List Value)) (b c : Bool) → goes_on last rest ≡ between b c → goes_on last (met o rest) ≡ between (decide o b) (decide o c)
on_equal Less last rest b c h = refl
on_equal Equal last rest b c h = h
on_equal Greater last rest b c h = refl

met_turned : (o : Ordering) (rest : Option (List Value)) → met (ordering_reverse o) rest ≡ met o rest
met_turned Less rest = refl
met_turned Equal rest = refl
met_turned Greater rest = refl

met_by : (falls : Bool) (v point : Value) (rest : Option (List Value)) → met (value_cmp v point) rest ≡ met (part_cmp falls v point) rest
met_by false v point rest = refl
met_by true v point rest = ap (λ o. met o rest) (value_cmp_total.antisymm v point) ∙ met_turned (value_cmp point v) rest

-- a range holds the keys that stand before its end and not before its begin
pub held : (points : List Value) (last : Option Span) (parts : List Part) (row : List Value)
    → goes_on last (behind (key_of parts row) points)
    ≡ between (before_key_cut points (at_begin (drop (length points) parts) last) parts (key_of parts row)) (before_key_cut points (at_end (drop (length points) parts) last) parts (key_of parts row))
held [] last parts row = goes_between parts last row
held (point ∷ points) last [] row = refl
held (point ∷ points) last (p ∷ ps) row =
    ap (goes_on last) (met_by p.descending (part_value p row) point (behind (key_of ps row) points))
    ∙ on_equal (part_cmp p.descending (part_value p row) point) last (behind (key_of ps row) points) _ _ (held points last ps row)

-- ---- the begin stands before the end, or no key is between

abbrev Implies : Bool → Bool → Type 0
Implies b c = b ≡ true → c ≡ true

cuts_imply : (falls : Bool) (low high : End) → is_at_most low high ≡ true → (v : Value) → Implies (is_before_cut falls v (begin_end falls (record { lo = low; hi = high }))) (is_before_cut falls v (end_end falls (record { lo = low; hi = high })))
cuts_imply false low high le v h = at_most-trans (above v) low high h le
cuts_imply true low high le v h = at_most-trans low high (below v) le h

cuts_turned : (falls : Bool) (low high : End) → is_at_most high low ≡ true → (v : Value) → Implies (is_before_cut falls v (end_end falls (record { lo = low; hi = high }))) (is_before_cut falls v (begin_end falls (record { lo = low; hi = high })))
cuts_turned false low high le v h = at_most-trans (above v) high low h le
cuts_turned true low high le v h = at_most-trans high low (below v) le h

-- of two cuts among the keys with the same points, each key before the first is before the second
abbrev pub Imply : KeyCut → KeyCut → List Part → Type 0
Imply a b parts = (row : List Value) → Implies (before_cut a parts (key_of parts row)) (before_cut b parts (key_of parts row))

base_by : (parts : List Part) (span : Span) (b : Bool) → is_at_most span.lo span.hi ≡ b → (Imply (at_begin parts (Some span)) (at_end parts (Some span)) parts) ⊎ (Imply (at_end parts (Some span)) (at_begin parts (Some span)) parts)
base_by [] span b e = inl (λ row h. h)
base_by (p ∷ ps) span true e = inl (λ row h. cuts_imply p.descending span.lo span.hi e (part_value p row) h)
base_by (p ∷ ps) span false e = inr (λ row h. cuts_turned p.descending span.lo span.hi (at_most-total span.lo span.hi e) (part_value p row) h)

base : (parts : List Part) (last : Option Span) → (Imply (at_begin parts last) (at_end parts last) parts) ⊎ (Imply (at_end parts last) (at_begin parts last) parts)
base parts None = inl (λ row h. refl)
base parts (Some span) = base_by parts span (is_at_most span.lo span.hi) refl

step : (o : Ordering) (b c : Bool) → Implies b c → Implies (decide o b) (decide o c)
step Less b c h k = refl
step Equal b c h k = h k
step Greater b c h k = k

imply : (points : List Value) (a b : KeyCut) (parts : List Part) → Imply a b (drop (length points) parts) → (row : List Value)
    → Implies (before_key_cut points a parts (key_of parts row)) (before_key_cut points b parts (key_of parts row))
imply [] a b parts h row k = h row k
imply (point ∷ points) a b [] h row k = k
imply (point ∷ points) a b (p ∷ ps) h row k = step (part_cmp p.descending (part_value p row) point) _ _ (imply points a b ps h row) k

-- ---- numbers of keys

module _ {X : Type 0} (l u h : X → Bool) (is : (x : X) → h x ≡ between (l x) (u x)) where
  one : (b c : Bool) (x : X) (hs ls us : List X) → Implies b c → length hs + length ls ≡ length us
      → length (cond (between b c) (x ∷ hs) hs) + length (cond b (x ∷ ls) ls) ≡ length (cond c (x ∷ us) us)
  one true true x hs ls us i e = omega (arith, e)
  one true false x hs ls us i e = absurd (cc (i refl))
  one false true x hs ls us i e = omega (arith, e)
  one false false x hs ls us i e = e

  counted : ((x : X) → Implies (l x) (u x)) → (xs : List X) → length (filter h xs) + length (filter l xs) ≡ length (filter u xs)
  counted i [] = refl
  counted i (x ∷ xs) =
      ap (λ (b : Bool). length {A = X} (cond b (x ∷ filter h xs) (filter h xs)) + length (filter l (x ∷ xs))) (is x)
      ∙ one (l x) (u x) x (filter h xs) (filter l xs) (filter u xs) (i x) (counted i xs)

  none : (b c : Bool) (x : X) (hs ls us : List X) → Implies c b → length hs ≡ 0 → length us ≤ length ls
      → (length (cond (between b c) (x ∷ hs) hs) ≡ 0) × (length (cond c (x ∷ us) us) ≤ length (cond b (x ∷ ls) ls))
  none true true x hs ls us i e f = (e, omega (arith, f))
  none true false x hs ls us i e f = (e, omega (arith, f))
  none false true x hs ls us i e f = absurd (cc (i refl))
  none false false x hs ls us i e f = (e, f)

  empty : ((x : X) → Implies (u x) (l x)) → (xs : List X) → (length (filter h xs) ≡ 0) × (length (filter u xs) ≤ length (filter l xs))
  empty i [] = (refl, omega arith)
  empty i (x ∷ xs) =
      let r = none (l x) (u x) x (filter h xs) (filter l xs) (filter u xs) (i x) (empty i xs).0 (empty i xs).1 in
      (ap (λ (b : Bool). length {A = X} (cond b (x ∷ filter h xs) (filter h xs))) (is x) ∙ r.0, r.1)

  by_difference : ((x : X) → Implies (l x) (u x)) ⊎ ((x : X) → Implies (u x) (l x)) → (xs : List X) → length (filter h xs) ≡ length (filter u xs) - length (filter l xs)
  by_difference (inl i) xs = omega (arith, counted i xs)
  by_difference (inr i) xs = omega (arith, (empty i xs).0, (empty i xs).1)

module _ (parts : List Part) (rows : List (List Value)) (ids : List ℕ) (range : KeyRange) where
  abbrev is_held : ℕ → Bool
  is_held id = holds range (entry_key parts rows id)

  abbrev is_before_begin : ℕ → Bool
  is_before_begin id = before_key_cut range.points (begin_of parts range) parts (entry_key parts rows id)

  abbrev is_before_end : ℕ → Bool
  is_before_end id = before_key_cut range.points (end_of parts range) parts (entry_key parts rows id)

  apart : ((id : ℕ) → Implies (is_before_begin id) (is_before_end id)) ⊎ ((id : ℕ) → Implies (is_before_end id) (is_before_begin id))
  apart = by (base (drop (length range.points) parts) range.last) where
    by : (Imply (begin_of parts range) (end_of parts range) (drop (length range.points) parts)) ⊎ (Imply (end_of parts range) (begin_of parts range) (drop (length range.points) parts))
        → ((id : ℕ) → Implies (is_before_begin id) (is_before_end id)) ⊎ ((id : ℕ) → Implies (is_before_end id) (is_before_begin id))
    by (inl h) = inl (λ id. imply range.points (begin_of parts range) (end_of parts range) parts h (row_at rows id))
    by (inr h) = inr (λ id. imply range.points (end_of parts range) (begin_of parts range) parts h (row_at rows id))

  before_count : (points : List Value) (rest : Rest) (stand : KeyCut) → points ≡ range.points → cut_of rest ≡ stand
      → count_before points rest parts (keys_of parts rows ids) ≡ length (filter (λ id. before_key_cut range.points stand parts (entry_key parts rows id)) ids)
  before_count points rest stand p e =
      count_mapped (λ id. entry_key parts rows id) (λ key. is_before points rest parts key) ids
      ∙ ap (λ (t : ℕ → Bool). length (filter t ids)) (fun_ext (λ id. of_bound points rest parts (row_at rows id)
      ∙ ap (λ q. before_key_cut q (cut_of rest) parts (entry_key parts rows id)) p ∙ ap (λ c. before_key_cut range.points c parts (entry_key parts rows id)) e))

  -- the entries in a range are those before its end, less those before its begin
  pub difference : (low high : List Value) (from to : Rest) → low ≡ range.points → high ≡ range.points → cut_of from ≡ begin_of parts range → cut_of to ≡ end_of parts range
      → count_held range (keys_of parts rows ids) ≡ count_before high to parts (keys_of parts rows ids) - count_before low from parts (keys_of parts rows ids)
  difference low high from to p q e f =
      count_mapped (λ id. entry_key parts rows id) (λ key. holds range key) ids
      ∙ by_difference is_before_begin is_before_end is_held (λ id. held range.points range.last parts (row_at rows id)) apart ids
      ∙ ap₂ (λ m n. m - n) (sym (before_count high to (end_of parts range) q f)) (sym (before_count low from (begin_of parts range) p e))
