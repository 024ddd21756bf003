-- A condition has one answer on an index.
use Rattle.std.proofs.Common.{◌≡◌, ◌<◌, arith, ℕ, true, List, take, refl, ap, ap₂, sym, ◌∙◌, subst}
use Rattle.rx_value.specs.declared.ranges.KeyRange.{KeyRange}
use Rattle.rx_value.specs.declared.shapes.Column.{Column}
use Rattle.rx_value.specs.declared.shapes.Part.{Part}
use Rattle.rx_cond.specs.Tree.{Tree}
use Rattle.rx_regions.specs.Cans.{can_be}
use Rattle.rx_cover.specs.Cover.{cover}
use Rattle.rx_sets.proofs.Trees.{one_tree}
use Rattle.rx_ranges.specs.Answers.{nullables, fallings, whole_list, ArePartsUsed, IsCover, IsUsed, IsAnswer, Answer, no_parts, whole, ranges}

module _ (columns : List Column) (parts : List Part) (limit : ℕ) (t : Tree) where
  -- one number of parts is the most that fits
  not_less : (p q : ℕ) → ArePartsUsed columns parts limit t p → ArePartsUsed columns parts limit t q → p < q → ⊥
  not_less p q first second low =
      let some : 0 < q = omega (arith, low) in
      first.most q low second.there (second.fits some)

  one_number : (p q : ℕ) → ArePartsUsed columns parts limit t p → ArePartsUsed columns parts limit t q → p ≡ q
  one_number p q first second =
      let low : p < q → ⊥ = not_less p q first second in
      let high : q < p → ⊥ = not_less q p second first in
      omega (arith, low, high)

  -- one list is the cover
  one_cover : (p : ℕ) (xs ys : List KeyRange) → IsCover columns parts t p xs → IsCover columns parts t p ys → xs ≡ ys
  one_cover p xs ys first second =
      let front = take p parts in
      first.is
      ∙ ap (cover (nullables columns front) (fallings front)) (one_tree (nullables columns front) (can_be true t front) first.tree second.tree first.of second.of)
      ∙ sym second.is

  one_used : (p q : ℕ) (xs ys : List KeyRange) → IsUsed columns parts limit t p xs → IsUsed columns parts limit t q ys → (p ≡ q) × (xs ≡ ys)
  one_used p q xs ys first second =
      let same = one_number p q first.used second.used in
      (same, one_cover q xs ys (subst (λ (n : ℕ). IsCover columns parts t n xs) same first.cover) second.cover)

  none_used : (p : ℕ) (list : List KeyRange) → ArePartsUsed columns parts limit t 0 → IsUsed columns parts limit t p list → ⊥
  none_used p list none is = not_less 0 p none is.used is.some

  pub one_answer : (a b : Answer) → IsAnswer columns parts limit t a → IsAnswer columns parts limit t b → a ≡ b
  one_answer no_parts no_parts first second = refl
  one_answer no_parts whole first (p, is) = absurd (none_used p (whole_list columns parts) first is)
  one_answer no_parts (ranges p list) first (is, not) = absurd (none_used p list first is)
  one_answer whole no_parts (p, is) second = absurd (none_used p (whole_list columns parts) second is)
  one_answer whole whole first second = refl
  one_answer whole (ranges q ys) (p, is) (other, not) = absurd (not (sym ((one_used p q (whole_list columns parts) ys is other).1)))
  one_answer (ranges p xs) no_parts (is, not) second = absurd (none_used p xs second is)
  one_answer (ranges p xs) whole (is, not) (q, other) = absurd (not ((one_used p q xs (whole_list columns parts) is other).1))
  one_answer (ranges p xs) (ranges q ys) (is, not) (other, different) =
      let same = one_used p q xs ys is other in
      ap₂ ranges same.0 same.1
