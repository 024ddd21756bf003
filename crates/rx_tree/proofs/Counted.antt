-- The size of a point set's tree, and the parts that it constrains.
use Rattle.std.proofs.Common.{◌≡◌, ◌&&◌, ◌||◌, ℕ, zero, suc, ◌+◌, ◌==◌, Bool, true, false, not, cond, List, [], ◌∷◌, length, refl, ap, ap₂, sym, ◌∙◌, arith}
use Rattle.std.proofs.lemmas.Bool.Decides.{nat_tests}
use Rattle.rx_value.specs.declared.order.End.{End}
use Rattle.rx_value.specs.declared.order.End.TheVariants.{Last}
use Rattle.rx_value.specs.declared.order.Span.{Span}
use Rattle.rx_value.specs.Order.{is_at_most}
use Rattle.rx_value.proofs.Ends.{below-at_most-trans, greatest_end}
use Rattle.std.proofs.Math.Bool.{or-false}
use Rattle.rx_value.specs.Spans.{first_end, is_whole_span}
use Rattle.rx_tree.specs.Tree.{level_size, size, level_constrains, constrains}
use Rattle.rx_tree.specs.Tree.Level.{end}
use Rattle.rx_tree.specs.Tree.Tree.{everything, items}
use Rattle.rx_tree.specs.Member.{IsTuple}
use Rattle.rx_tree.specs.Points.{AreSpans, AreSpansAt, is_inside_at, is_whole_list, is_whole_at, items_of, items_at, point_tree}
use Rattle.rx_tree.proofs.Sets.{whole_is_whole, point_canonical, point_holds}
use Rattle.rx_tree.proofs.Unique.{same_trees}

items_size : (spans : List Span) → level_size (items_of spans) ≡ length spans
items_size [] = refl
items_size (s ∷ rest) = let e = items_size rest in omega (arith, e)

pub size_at : (parts : List Bool) (k : ℕ) (spans : List Span) → AreSpansAt parts k spans → level_size (items_at parts k spans) ≡ k + length spans
size_at [] k spans fits = absurd fits
size_at (n ∷ ns) zero spans fits = let e = items_size spans in omega (arith, e)
size_at (n ∷ ns) (suc k) spans fits = let e = size_at ns k spans fits in omega (arith, e)

-- the tree of a point set that isn't all has a whole item for each part before its own, and an item for each span
pub point_size : (parts : List Bool) (k : ℕ) (s : Span) (rest : List Span) → AreSpansAt parts k (s ∷ rest) → is_whole_at parts k (s ∷ rest) ≡ false → size (point_tree parts k (s ∷ rest)) ≡ k + length (s ∷ rest)
point_size parts k s rest fits apart = ap (λ b. size (cond b everything (items (items_at parts k (s ∷ rest))))) apart ∙ size_at parts k (s ∷ rest) fits

below_free : (ns : List Bool) (j : ℕ) → level_constrains ns end j ≡ false
below_free [] j = refl
below_free (n ∷ ns) j = refl

items_free : (n : Bool) (ns : List Bool) (spans : List Span) (j : ℕ) → level_constrains (n ∷ ns) (items_of spans) (suc j) ≡ false
items_free n ns [] j = refl
items_free n ns (s ∷ rest) j = ap₂ (λ x y. x || y) (below_free ns j) (items_free n ns rest j)

not_up_to_last : (a b : Bool) → b ≡ false → not (a && b) ≡ true
not_up_to_last true b e = ap not e
not_up_to_last false b e = refl

or_true : (a b : Bool) → a ≡ true → (a || b) ≡ true
or_true true b e = refl
or_true false b e = absurd (cc e)

items_narrow : (n : Bool) (ns : List Bool) (s : Span) (rest : List Span) → AreSpans n (s ∷ rest) → is_whole_list n (s ∷ rest) ≡ false → level_constrains (n ∷ ns) (items_of (s ∷ rest)) zero ≡ true
items_narrow n ns s [] fits apart = ap (λ b. not b || false) apart
items_narrow n ns s (t ∷ rest) fits apart =
    or_true (not (is_whole_span n s)) (level_constrains (n ∷ ns) (items_of (t ∷ rest)) zero)
    (not_up_to_last (is_at_most s.lo (first_end n)) (is_at_most Last s.hi) (below-at_most-trans s.hi t.lo Last fits.2.0 (greatest_end t.lo)))

after_zero : (j : ℕ) → (suc j == 0) ≡ false
after_zero j = grind (arith, nat_tests)

zero_before : (k : ℕ) → (0 == suc k) ≡ false
zero_before k = grind (arith, nat_tests)

both_after : (j k : ℕ) → (j == k) ≡ (suc j == suc k)
both_after j k = grind (arith, nat_tests)

constrains_at : (parts : List Bool) (k j : ℕ) (s : Span) (rest : List Span) → AreSpansAt parts k (s ∷ rest) → is_whole_at parts k (s ∷ rest) ≡ false → level_constrains parts (items_at parts k (s ∷ rest)) j ≡ (j == k)
constrains_at [] k j s rest fits apart = absurd fits
constrains_at (n ∷ ns) zero zero s rest fits apart = items_narrow n ns s rest fits apart
constrains_at (n ∷ ns) zero (suc j) s rest fits apart = items_free n ns (s ∷ rest) j ∙ sym (after_zero j)
constrains_at (n ∷ ns) (suc k) zero s rest fits apart = ap (λ b. not b || false) (whole_is_whole n) ∙ sym (zero_before k)
constrains_at (n ∷ ns) (suc k) (suc j) s rest fits apart = or-false (level_constrains ns (items_at ns k (s ∷ rest)) j) ∙ constrains_at ns k j s rest fits apart ∙ both_after j k

-- the tree of a point set that isn't all constrains its own part alone
pub point_constrains : (parts : List Bool) (k j : ℕ) (s : Span) (rest : List Span) → AreSpansAt parts k (s ∷ rest) → is_whole_at parts k (s ∷ rest) ≡ false → constrains parts (point_tree parts k (s ∷ rest)) j ≡ (j == k)
point_constrains parts k j s rest fits apart = ap (λ b. constrains parts (cond b everything (items (items_at parts k (s ∷ rest)))) j) apart ∙ constrains_at parts k j s rest fits apart

-- spans that hold each position give everything
pub point_whole : (parts : List Bool) (k : ℕ) (spans : List Span) → AreSpansAt parts k spans → ((ps : List End) → IsTuple parts ps → is_inside_at k spans ps ≡ true) → point_tree parts k spans ≡ everything
point_whole parts k spans fits all = same_trees parts (point_tree parts k spans) everything (point_canonical parts k spans fits) tt (λ ps tuple. point_holds parts k spans ps fits tuple ∙ all ps tuple)
