-- Of the scans that a condition gives, each has the role of a scan, and one at most is of the primary key.
use Rattle.std.proofs.Common.{◌≡◌, ◌+◌, ◌≤◌, ℕ, zero, suc, Bool, true, false, List, [], ◌∷◌, ◌++◌, length, map, drop, slice_get, Option, Some, None, All, cond, refl, ap, ap₂, ◌∙◌, arith}
use Rattle.std.specs.List.{filter, range_with_len, AllByRecursion}
use Rattle.std.proofs.lemmas.List.Elements.{All-from_recursion, recursion_from_All}
use Rattle.rx_value.specs.declared.shapes.Index.{Index}
use Rattle.rx_value.specs.declared.shapes.Schema.{Schema}
use Rattle.rx_value.specs.Shape.{IsSchema}
use Rattle.rx_cond.specs.Tree.{Tree}
use Rattle.rx_query.specs.declared.settings.Settings.{Settings}
use Rattle.rx_query.specs.Steps.{Question}
use Rattle.rx_store.specs.Tables.{Meaning}
use Rattle.rx_ranges.specs.Answers.{Answer, no_parts, whole, ranges}
use Rattle.rx_cost.specs.declared.candidates.Role.TheVariants.{Scan as ScanRole}
use Rattle.rx_cost.specs.declared.candidates.Scan.{Scan}
use Rattle.rx_plan.specs.Naming.{is_primary, index_numbers}
use Rattle.rx_plan.specs.Known.{Ranged, ranged_as, ranged_in, known_at}
use Rattle.rx_merges.specs.Rules.{AreOfCondition}
use Rattle.rx_merge_plan.specs.Disjuncts.{ranged_by, found_scan}
use Rattle.rx_merge_plan.specs.Lists.{AreCounted}

-- ---- numbers of indexes

abbrev is_at : List Index → ℕ → Bool
is_at indexes n = elim (slice_get indexes n) [ Some x ↦ x.primary | None ↦ false ]

none_at : (xs : List Index) → AllByRecursion (λ i. i.primary ≡ false) xs → (n : ℕ) → is_at xs n ≡ false
none_at [] h n = refl
none_at (x ∷ xs) h zero = h.0
none_at (x ∷ xs) h (suc n) = none_at xs h.1 n

later_not : (xs : List Index) → All (λ i. i.primary ≡ false) (drop 1 xs) → (n : ℕ) → 1 ≤ n → is_at xs n ≡ false
later_not xs h zero low = absurd (omega (arith, low))
later_not [] h (suc n) low = refl
later_not (x ∷ xs) h (suc n) low = none_at xs (recursion_from_All (λ i. i.primary ≡ false) xs h) n

module _ (p : ℕ → Bool) where
  skipped : (b : Bool) (n : ℕ) (ns : List ℕ) → b ≡ false → ns ≡ [] → cond b (n ∷ ns) ns ≡ []
  skipped b n ns e none = ap₂ (λ c l. cond c (n ∷ l) l) e none

  none_from : ((k : ℕ) → 1 ≤ k → p k ≡ false) → (n a : ℕ) → 1 ≤ a → filter p (range_with_len a n) ≡ []
  none_from h zero a low = refl
  none_from h (suc n) a low = skipped (p a) a (filter p (range_with_len (a + 1) n)) (h a low) (none_from h n (a + 1) (omega arith))

  first_alone : (b : Bool) (n : ℕ) (ns : List ℕ) → ns ≡ [] → length (cond b (n ∷ ns) ns) ≤ 1
  first_alone true n ns none = omega (arith, ap length none)
  first_alone false n ns none = omega (arith, ap length none)

  one_from : ((k : ℕ) → 1 ≤ k → p k ≡ false) → (n : ℕ) → length (filter p (range_with_len 0 n)) ≤ 1
  one_from h zero = omega arith
  one_from h (suc n) = first_alone (p 0) 0 (filter p (range_with_len (0 + 1) n)) (none_from h n (0 + 1) (omega arith))

  -- scans that pass by their index are as many as the indexes that pass
  longer : (b : Bool) (x : Scan) (xs : List Scan) (n : ℕ) (ns : List ℕ) → length xs ≡ length ns → length (cond b (x ∷ xs) xs) ≡ length (cond b (n ∷ ns) ns)
  longer true x xs n ns e = ap suc e
  longer false x xs n ns e = e

  by_index : (scans : List Scan) → length (filter (λ s. p s.index) scans) ≡ length (filter p (map (λ s. s.index) scans))
  by_index [] = refl
  by_index (s ∷ ss) = longer (p s.index) s (filter (λ x. p x.index) ss) s.index (filter p (map (λ x. x.index) ss)) (by_index ss)

  more_pass : (b : Bool) (n : ℕ) (xs ys : List ℕ) → length xs ≤ length ys → length (cond b (n ∷ xs) xs) ≤ length (cond b (n ∷ ys) ys)
  more_pass true n xs ys h = omega (arith, h)
  more_pass false n xs ys h = h

  fewer_pass : (b : Bool) (n : ℕ) (xs ys : List ℕ) → length xs ≤ length ys → length xs ≤ length (cond b (n ∷ ys) ys)
  fewer_pass true n xs ys h = omega (arith, h)
  fewer_pass false n xs ys h = h

  pass_as : (n : ℕ) (answer : Option Answer) (rs : List Ranged) (ns : List ℕ) → length (filter p (map (λ r. r.index) rs)) ≤ length (filter p ns)
      → length (filter p (map (λ r. r.index) (ranged_as n answer ++ rs))) ≤ length (filter p (n ∷ ns))
  pass_as n None rs ns h = fewer_pass (p n) n (filter p (map (λ r. r.index) rs)) (filter p ns) h
  pass_as n (Some no_parts) rs ns h = fewer_pass (p n) n (filter p (map (λ r. r.index) rs)) (filter p ns) h
  pass_as n (Some whole) rs ns h = fewer_pass (p n) n (filter p (map (λ r. r.index) rs)) (filter p ns) h
  pass_as n (Some (ranges k list)) rs ns h = more_pass (p n) n (filter p (map (λ r. r.index) rs)) (filter p ns) h

  pass_in : (settings : Settings) (q : Question) (schema : Schema) (cond : Tree) (ns : List ℕ)
      → length (filter p (map (λ r. r.index) (ranged_in (map (known_at settings q schema cond) ns)))) ≤ length (filter p ns)
  pass_in settings q schema cond [] = omega arith
  pass_in settings q schema cond (n ∷ ns) =
      pass_as n (known_at settings q schema cond n).answer (ranged_in (map (known_at settings q schema cond) ns)) ns (pass_in settings q schema cond ns)

-- ---- scans

found_indexes : (member : ℕ) (rs : List Ranged) → map (λ s. s.index) (map (found_scan member) rs) ≡ map (λ r. r.index) rs
found_indexes member [] = refl
found_indexes member (r ∷ rs) = ap (λ l. r.index ∷ l) (found_indexes member rs)

-- scans on the indexes that a condition narrows have one of the primary key at most
pub one_primary : (settings : Settings) (q : Question) (schema : Schema) (cond : Tree) (scans : List Scan) → IsSchema schema
    → map (λ s. s.index) scans ≡ map (λ r. r.index) (ranged_by settings q schema cond) → length (filter (λ s. is_primary schema s.index) scans) ≤ 1
one_primary settings q schema cond scans is e =
    let p = is_primary schema in
    omega (
      arith,
      by_index p scans,
      ap (λ l. length (filter p l)) e,
      pass_in p settings q schema cond (index_numbers schema),
      one_from p (later_not schema.indexes is.primary_first) (length schema.indexes),
    )

module _ (settings : Settings) (table : Meaning) where
  same_indexes : (scans counted : List Scan) → AreCounted settings table scans counted → map (λ s. s.index) counted ≡ map (λ s. s.index) scans
  same_indexes [] [] h = refl
  same_indexes [] (y ∷ ys) h = absurd h
  same_indexes (x ∷ xs) [] h = absurd h
  same_indexes (x ∷ xs) (y ∷ ys) h = ap₂ (λ n l. n ∷ l) (ap (λ (s : Scan). s.index) h.0.is) (same_indexes xs ys h.1)

  roles : (member : ℕ) (rs : List Ranged) (counted : List Scan) → AreCounted settings table (map (found_scan member) rs) counted
      → AllByRecursion (λ s. s.role ≡ ScanRole) counted
  roles member [] [] h = tt
  roles member [] (y ∷ ys) h = absurd h
  roles member (r ∷ rs) [] h = absurd h
  roles member (r ∷ rs) (y ∷ ys) h = (ap (λ (s : Scan). s.role) h.0.is, roles member rs ys h.1)

  -- after their ranges were counted, they are the scans of a condition
  pub counted_are : (q : Question) (cond : Tree) (member : ℕ) (counted : List Scan) → IsSchema table.schema
      → AreCounted settings table (map (found_scan member) (ranged_by settings q table.schema cond)) counted → AreOfCondition table.schema counted
  counted_are q cond member counted is h =
      let rs = ranged_by settings q table.schema cond in
      record {
        roles = All-from_recursion (λ s. s.role ≡ ScanRole) counted (roles member rs counted h);
        primary = one_primary settings q table.schema cond counted is (same_indexes (map (found_scan member) rs) counted h ∙ found_indexes member rs);
      }
