-- What a table is made of.
use Rattle.std.proofs.Common.{◌≡◌, ℕ, suc, ◌+◌, ◌<◌, ◌≤◌, Bool, true, false, not, cond, List, [], ◌∷◌, length, filter, drop, get_or, Option, Some, None, All, refl, sym, ap, ◌∙◌, subst, arith}
use Rattle.std.proofs.lemmas.List.Sorted.{length_permutation}
use Rattle.std.proofs.lemmas.List.Elements.{All-get_or}
use Rattle.std.proofs.lemmas.Option.{slice_get_within}
use Rattle.rx_value.specs.declared.values.Value.{Value}
use Rattle.rx_value.specs.declared.shapes.Index.{Index}
use Rattle.rx_value.specs.declared.shapes.Schema.{Schema}
use Rattle.rx_value.specs.Limits.{most_rows}
use Rattle.rx_value.specs.Shape.{IsSchema}
use Rattle.rx_index.specs.declared.faults.IndexFault.TheVariants.{DuplicateKey}
use Rattle.rx_index.specs.declared.duplicates.Duplicate.{Duplicate}
use Rattle.rx_index.specs.Entries.{IsByPrimary, IsInIdOrder}
use Rattle.rx_index.specs.Duplicates.{Breaks, IsFree, CausesFault}
use Rattle.rx_index.specs.Soonest.{IsSoonest}

by_primary : (b : Bool) (index : Index) (file rows : List (List Value)) → IsByPrimary b index.parts file rows → length rows ≡ length file
by_primary true index file rows h = length_permutation file rows h.same
by_primary false index file rows h = ap length h

-- as many rows as in the file
pub as_many : (indexes : List Index) (file rows : List (List Value)) → IsInIdOrder indexes file rows → length rows ≡ length file
as_many [] file rows h = ap length h
as_many (index ∷ others) file rows h = by_primary index.primary index file rows h

pub few_rows : (indexes : List Index) (file rows : List (List Value)) → IsInIdOrder indexes file rows → length file ≤ most_rows → length rows ≤ most_rows
few_rows indexes file rows h few = subst (λ n. n ≤ most_rows) (sym (as_many indexes file rows h)) few

none_primary : (xs : List Index) → ((i : ℕ) (d : Index) → i < length xs → (get_or xs i d).primary ≡ false) → length (filter (λ i. not i.primary) xs) ≡ length xs
none_primary [] h = refl
none_primary (x ∷ xs) h =
    ap (λ (b : Bool). length {A = Index} (cond (not b) (x ∷ filter (λ i. not i.primary) xs) (filter (λ i. not i.primary) xs))) (h 0 x (omega arith))
    ∙ ap suc (none_primary xs (λ i d lt. h (suc i) d (omega (arith, lt))))

at_most_one_more : (b : Bool) (x : Index) (ys : List Index) (n : ℕ) → length ys ≡ n → n ≤ length (cond (not b) (x ∷ ys) ys)
at_most_one_more true x ys n e = omega (arith, e)
at_most_one_more false x ys n e = omega (arith, e)

counted : (xs : List Index) → All (λ i. i.primary ≡ false) (drop 1 xs) → length xs ≤ suc (length (filter (λ i. not i.primary) xs))
counted [] h = omega arith
counted (x ∷ xs) h =
    let others = none_primary xs (λ i d lt. All-get_or (λ y. y.primary ≡ false) xs i d lt h) in
    omega (arith, at_most_one_more x.primary x (filter (λ i. not i.primary) xs) (length xs) others)

-- a schema has at most 65 indexes
pub few_indexes : (schema : Schema) → IsSchema schema → length schema.indexes ≤ 65
few_indexes schema is = omega (arith, counted schema.indexes is.primary_first, is.few_indexes)

within : (indexes : List Index) (file : List (List Value)) (m row : ℕ) → Breaks indexes file m row → m < length indexes
within indexes file m row b = slice_get_within indexes m b.0 b.1

module _ (schema : Schema) (file : List (List Value)) (indexes : List Index) (rows : List (List Value)) (p : indexes ≡ schema.indexes) (q : rows ≡ file) where
  known : (first : Option Duplicate) → IsSoonest indexes rows (length indexes) first → IsSoonest schema.indexes file (length schema.indexes) first
  known first h = subst (λ (l : List Index). IsSoonest l file (length l) first) p (subst (λ (r : List (List Value)). IsSoonest indexes r (length indexes) first) q h)

  pub free : (first : Option Duplicate) → first ≡ None → IsSoonest indexes rows (length indexes) first → IsFree schema file
  free None e h = λ m row b. known None h m row (within schema.indexes file m row b) b
  free (Some d) e h = absurd (cc e)

  pub broken : (first : Option Duplicate) (d : Duplicate) (place : ℕ) → first ≡ Some d → place ≡ d.row → IsSoonest indexes rows (length indexes) first
      → CausesFault schema file (DuplicateKey d.index (place + 1))
  broken None d place e f h = absurd (cc e)
  broken (Some c) d place e f h =
      let same : c ≡ d = cc e in
      let k = subst (λ (x : Duplicate). IsSoonest schema.indexes file (length schema.indexes) (Some x)) same (known (Some c) h) in
      subst (λ (n : ℕ). CausesFault schema file (DuplicateKey d.index (n + 1))) (sym f) (
        d.row,
        refl,
        record {
          breaks = k.1;
          first = λ m other b. k.2 m other (within schema.indexes file m other b) b;
          least = λ m b. k.3 m (within schema.indexes file m d.row b) b;
        },
      )
