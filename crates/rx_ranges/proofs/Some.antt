-- A condition has an answer on every index.
use Rattle.std.proofs.Common.{◌≡◌, ◌<◌, ◌≤◌, arith, ℕ, zero, suc, Bool, true, not, List, [], ◌∷◌, take, length, Option, Some, None, inl, inr, refl, ap, ap₂, sym, ◌∙◌, subst}
use Rattle.std.specs.declared.cmp.Ordering.{Ordering}
use Rattle.std.specs.declared.cmp.Ordering.TheVariants.{Less, Equal, Greater}
use Rattle.std.proofs.lemmas.Cmp.{tied_itself}
use Rattle.std.proofs.lemmas.Bool.{cases_lt}
use Rattle.std.proofs.lemmas.List.{length-map}
use Rattle.rx_value.specs.declared.values.Value.{Value}
use Rattle.rx_value.specs.declared.order.End.{End}
use Rattle.rx_value.specs.declared.order.Span.{Span}
use Rattle.rx_value.specs.declared.ranges.KeyRange.{KeyRange}
use Rattle.rx_value.specs.declared.shapes.Column.{Column}
use Rattle.rx_value.specs.declared.shapes.Part.{Part}
use Rattle.rx_value.specs.Order.{end_cmp}
use Rattle.rx_value.specs.Spans.{whole_span}
use Rattle.rx_value.proofs.Ends.{end_cmp_total, end_cmp-equal}
use Rattle.rx_tree.specs.Tree.{size}
use Rattle.rx_cond.specs.Tree.{Tree, Trees, truth, compare, member, row_member, is_null, like, neg, conj, disj, none, more}
use Rattle.rx_regions.specs.Cans.{can_be}
use Rattle.rx_cover.specs.Cover.{cover}
use Rattle.rx_sets.specs.Sets.{KeySet, IsSmall}
use Rattle.rx_sets.proofs.Trees.{not_small}
use Rattle.rx_ranges.specs.Subterms.{front, HoldsUnder, HoldsUnderEach, IsSmallOn}
use Rattle.rx_ranges.specs.Answers.{may_be_null, nullables, fallings, Fits, ArePartsUsed, IsCover, IsAnswer, Answer, no_parts, whole, ranges, whole_list}
use Rattle.rx_ranges.proofs.Splits.{Splits}
use Rattle.rx_ranges.proofs.Grown.{can_split}

both_decided : {P Q : Type 0} → Dec P → Dec Q → Dec (P × Q)
both_decided (yes p) (yes q) = yes (p, q)
both_decided (yes p) (no away) = no (λ h. away h.1)
both_decided (no away) d = no (λ h. away h.0)

-- a set that has a tree is small or not
small_decided : (parts : List Bool) (limit : ℕ) (f : KeySet) → Splits parts f → Dec (IsSmall parts limit f)
small_decided parts limit f s = elim (cases_lt limit (size s.yes)) [
  | inl over ↦ no (not_small parts limit f s.yes s.has over)
  | inr few ↦ yes (record { tree = s.yes; is = s.has; few = few })
]

none_front : (n : ℕ) → front n none ≡ none
none_front zero = refl
none_front (suc n) = refl

fronts_from : (P : Trees → Type 0) (t : Tree) (ts : Trees) → P none → ((n : ℕ) → P (more t (front n ts))) → (n : ℕ) → P (front n (more t ts))
fronts_from P t ts here later zero = here
fronts_from P t ts here later (suc n) = later n

fronts_by : (P : Trees → Type 0) (t : Tree) (ts : Trees) → Dec (P none) → Dec ((n : ℕ) → P (more t (front n ts))) → Dec ((n : ℕ) → P (front n (more t ts)))
fronts_by P t ts (yes here) (yes later) = yes (fronts_from P t ts here later)
fronts_by P t ts (yes here) (no away) = no (λ h. away (λ n. h (suc n)))
fronts_by P t ts (no away) d = no (λ h. away (h 0))

-- whether each front of a list has a property
fronts_decided : (P : Trees → Type 0) → ((items : Trees) → Dec (P items)) → (items : Trees) → Dec ((n : ℕ) → P (front n items))
fronts_decided P each none = elim (each none) [
  | yes here ↦ yes (λ n. subst P (sym (none_front n)) here)
  | no away ↦ no (λ h. away (h 0))
]
fronts_decided P each (more t ts) = fronts_by P t ts (each none) (fronts_decided (λ us. P (more t us)) (λ us. each (more t us)) ts)

-- whether a condition and all under it have a property
module _ (P : Bool → Tree → Type 0) (each : (sign : Bool) (t : Tree) → Dec (P sign t)) where
  mutual
    under_decided : (sign : Bool) (t : Tree) → Dec (HoldsUnder P sign t)
    under_decided sign (truth t) = each sign (truth t)
    under_decided sign (compare op left right) = each sign (compare op left right)
    under_decided sign (member left list) = each sign (member left list)
    under_decided sign (row_member columns list) = each sign (row_member columns list)
    under_decided sign (is_null operand) = each sign (is_null operand)
    under_decided sign (like column pattern) = each sign (like column pattern)
    under_decided sign (neg t) = both_decided (each sign (neg t)) (under_decided (not sign) t)
    under_decided sign (conj items) = both_decided (fronts_decided (λ ts. P sign (conj ts)) (λ ts. each sign (conj ts)) items) (each_decided sign items)
    under_decided sign (disj items) = both_decided (fronts_decided (λ ts. P sign (disj ts)) (λ ts. each sign (disj ts)) items) (each_decided sign items)

    each_decided : (sign : Bool) (items : Trees) → Dec (HoldsUnderEach P sign items)
    each_decided sign none = yes tt
    each_decided sign (more t ts) = both_decided (under_decided sign t) (each_decided sign ts)

end_by : (a b : End) (o : Ordering) → end_cmp a b ≡ o → (Equal ≡ o → ⊥) → a ≡ b → ⊥
end_by a b o e away same = away (sym (tied_itself end_cmp_total a) ∙ ap (end_cmp a) same ∙ e)

end_decided_by : (a b : End) (o : Ordering) → end_cmp a b ≡ o → Dec (a ≡ b)
end_decided_by a b Equal e = yes (end_cmp-equal a b e)
end_decided_by a b Less e = no (end_by a b Less e (λ k. absurd (cc k)))
end_decided_by a b Greater e = no (end_by a b Greater e (λ k. absurd (cc k)))

span_decided : (s t : Span) → Dec (s ≡ t)
span_decided s t = elim (both_decided (end_decided_by s.lo t.lo (end_cmp s.lo t.lo) refl) (end_decided_by s.hi t.hi (end_cmp s.hi t.hi) refl)) [
  | yes same ↦ yes (ap₂ (λ (lo hi : End). record { lo = lo; hi = hi }) same.0 same.1)
  | no away ↦ no (λ e. away (ap (λ (x : Span). x.lo) e, ap (λ (x : Span). x.hi) e))
]

abbrev range_of : List Value → Option Span → KeyRange
range_of points last = record { points = points; last = last }

points_same : (points : List Value) (last : Option Span) (s : Span) → range_of points last ≡ range_of [] (Some s) → points ≡ []
points_same points last s e = ap (λ (r : KeyRange). r.points) e

last_of : (points : List Value) (last : Option Span) (s : Span) → range_of points last ≡ range_of [] (Some s) → last ≡ Some s
last_of points last s e = ap (λ (r : KeyRange). r.last) e

last_same : (t s : Span) → range_of [] (Some t) ≡ range_of [] (Some s) → t ≡ s
last_same t s e = cc (last_of [] (Some t) s e)

-- whether a range is a span of the first part
range_decided : (points : List Value) (last : Option Span) (s : Span) → Dec (range_of points last ≡ range_of [] (Some s))
range_decided (v ∷ points) last s = no (λ e. absurd (cc (points_same (v ∷ points) last s e)))
range_decided [] None s = no (λ e. absurd (cc (last_of [] None s e)))
range_decided [] (Some t) s = elim (span_decided t s) [
  | yes same ↦ yes (ap (λ (x : Span). range_of [] (Some x)) same)
  | no away ↦ no (λ e. away (last_same t s e))
]

only_same : (r s : KeyRange) → r ∷ [] ≡ s ∷ [] → r ≡ s
only_same r s e = cc e

-- whether ranges are the whole first part
whole_decided : (columns : List Column) (parts : List Part) (list : List KeyRange) → Dec (list ≡ whole_list columns parts)
whole_decided columns [] [] = yes refl
whole_decided columns [] (r ∷ rs) = no (λ e. absurd (cc e))
whole_decided columns (q ∷ parts) [] = no (λ e. absurd (cc e))
whole_decided columns (q ∷ parts) (r ∷ s ∷ rs) = no (λ e. absurd (cc e))
whole_decided columns (q ∷ parts) (r ∷ []) = elim (range_decided r.points r.last (whole_span (may_be_null columns q.column))) [
  | yes same ↦ yes (ap (λ (x : KeyRange). x ∷ []) same)
  | no away ↦ no (λ e. away (only_same r (range_of [] (Some (whole_span (may_be_null columns q.column)))) e))
]

module _ (columns : List Column) (parts : List Part) (limit : ℕ) (t : Tree) where
  -- where a condition can be so on the first p parts
  split_on : (p : ℕ) (sign : Bool) (u : Tree) → Splits (nullables columns (take p parts)) (can_be sign u (take p parts))
  split_on p sign u = can_split (take p parts) (nullables columns (take p parts)) (length-map (take p parts) (λ q. may_be_null columns q.column)) sign u

  fits_decided : (p : ℕ) → Dec (Fits columns parts limit t p)
  fits_decided p =
      under_decided (IsSmallOn (nullables columns (take p parts)) (take p parts) limit)
      (λ sign u. small_decided (nullables columns (take p parts)) limit (can_be sign u (take p parts)) (split_on p sign u))
      true t

  next_most : (k : ℕ) → ((q : ℕ) → suc k < q → q ≤ length parts → Fits columns parts limit t q → ⊥) → (Fits columns parts limit t (suc k) → ⊥)
      → (q : ℕ) → k < q → q ≤ length parts → Fits columns parts limit t q → ⊥
  next_most k most away q over there fits = elim (cases_lt (suc k) q) [
    | inl beyond ↦ most q beyond there fits
    | inr upto ↦
        let same : q ≡ suc k = omega (arith, over, upto) in
        away (subst (λ (n : ℕ). Fits columns parts limit t n) same fits)
  ]

  -- the most parts that fit, where no more than k do
  used_by : (k : ℕ) → k ≤ length parts → ((q : ℕ) → k < q → q ≤ length parts → Fits columns parts limit t q → ⊥) → (p : ℕ) × ArePartsUsed columns parts limit t p
  used_by zero there most = (0, record { there = there; fits = λ some. absurd (omega (arith, some)); most = most })
  used_by (suc k) there most = elim (fits_decided (suc k)) [
    | yes fits ↦ (suc k, record { there = there; fits = λ some. fits; most = most })
    | no away ↦ used_by k (omega (arith, there)) (next_most k most away)
  ]

  cover_on : (p : ℕ) → (list : List KeyRange) × IsCover columns parts t p list
  cover_on p =
      let s = split_on p true t in
      (cover (nullables columns (take p parts)) (fallings (take p parts)) s.yes, record { tree = s.yes; of = s.has; is = refl })

  answer_by : (p : ℕ) → ArePartsUsed columns parts limit t p → (answer : Answer) × IsAnswer columns parts limit t answer
  answer_by zero used = (no_parts, used)
  answer_by (suc p) used =
      let (list, is) = cover_on (suc p) in
      let some : 0 < suc p = omega arith in
      elim (whole_decided columns parts list) [
        | yes same ↦ (whole, (suc p, record { some = some; used = used; cover = subst (λ (xs : List KeyRange). IsCover columns parts t (suc p) xs) same is }))
        | no away ↦ (ranges (suc p) list, (record { some = some; used = used; cover = is }, away))
      ]

  none_beyond : (q : ℕ) → length parts < q → q ≤ length parts → Fits columns parts limit t q → ⊥
  none_beyond q over there fits = absurd (omega (arith, over, there))

  pub some_answer : (answer : Answer) × IsAnswer columns parts limit t answer
  some_answer =
      let (p, used) = used_by (length parts) (omega arith) none_beyond in
      answer_by p used
