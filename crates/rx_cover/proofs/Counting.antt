-- A cover has no more ranges than its tree has items, but one for everything.
use Rattle.std.proofs.Common.{arith, ◌≡◌, ◌≤◌, ◌+◌, ℕ, max, Bool, true, false, List, [], ◌∷◌, length, reverse, flat_map, if◌then◌else◌, refl, ap}
use mathlib.Core.List.{reverse-cons}
use Rattle.std.specs.List.{sum_by}
use Rattle.std.specs.Ordering.{is_eq}
use Rattle.std.proofs.lemmas.List.{length-append, length-map}
use Rattle.std.proofs.lemmas.List.Sums.{sum_by-cons, sum_by_push}
use Rattle.rx_value.specs.declared.order.Span.{Span}
use Rattle.rx_value.specs.declared.ranges.KeyRange.{KeyRange}
use Rattle.rx_value.specs.Order.{end_cmp}
use Rattle.rx_tree.specs.Tree.{Level, Tree, level_size, size}
use Rattle.rx_tree.specs.Tree.Level.{end, item}
use Rattle.rx_tree.specs.Tree.Tree.{everything, nothing, items}
use Rattle.rx_cover.specs.Cover.{Stretch, stretch_of, put_stretch, stretches, in_order, behind_point, stretch_ranges, level_cover, cover}
use Rattle.rx_cover.specs.Cover.Stretch.{deep, full}

-- what each member gives is no longer than its weight, so all together is no longer than all weights
flat_map_few : {A B : Type 0} (f : A → List B) (weight : A → ℕ) → ((x : A) → length (f x) ≤ weight x) → (xs : List A) → length (flat_map f xs) ≤ sum_by weight xs
flat_map_few f weight few [] = omega arith
flat_map_few f weight few (x ∷ xs) = omega (arith, length-append (f x) (flat_map f xs), sum_by-cons weight x xs, few x, flat_map_few f weight few xs)

-- a list turned round weighs the same
sum_reverse : {A : Type 0} (weight : A → ℕ) (xs : List A) → sum_by weight (reverse xs) ≡ sum_by weight xs
sum_reverse weight [] = refl
sum_reverse weight (x ∷ xs) =
    omega (arith, ap (sum_by weight) (reverse-cons x xs), sum_by_push weight (reverse xs) x, sum_reverse weight xs, sum_by-cons weight x xs)

-- the items that a stretch stands for: those of the level below a point, and one for a full span
abbrev weight_of : Stretch → ℕ
weight_of (deep v c) = level_size c
weight_of (full s) = 1

order_same : (f : Bool) (xs : List Stretch) → sum_by weight_of (in_order f xs) ≡ sum_by weight_of xs
order_same true xs = omega (arith, sum_reverse weight_of xs)
order_same false xs = refl

joined_few : (s t u : Span) (rest : List Stretch) (joins : Bool) → sum_by weight_of (if joins then full u ∷ rest else full s ∷ full t ∷ rest) ≤ 1 + sum_by weight_of (full t ∷ rest)
joined_few s t u rest true = omega (arith, sum_by-cons weight_of (full u) rest, sum_by-cons weight_of (full t) rest)
joined_few s t u rest false = omega (arith, sum_by-cons weight_of (full s) (full t ∷ rest))

put_few : (x : Stretch) (rest : List Stretch) → sum_by weight_of (put_stretch x rest) ≤ weight_of x + sum_by weight_of rest
put_few (deep v c) rest = omega (arith, sum_by-cons weight_of (deep v c) rest)
put_few (full s) [] = omega (arith, sum_by-cons weight_of (full s) [])
put_few (full s) (deep v c ∷ rest) = omega (arith, sum_by-cons weight_of (full s) (deep v c ∷ rest))
put_few (full s) (full t ∷ rest) = joined_few s t _ rest (is_eq (end_cmp s.hi t.lo))

-- the stretch of an item weighs no more than the item and those below it
stretch_few : (s : Span) (c : Level) → weight_of (stretch_of s c) ≤ 1 + level_size c
stretch_few s end = omega arith
stretch_few s (item t d rest) = grind arith

-- the stretches of a level weigh no more than it has items
stretches_few : (l : Level) → sum_by weight_of (stretches l) ≤ level_size l
stretches_few end = omega arith
stretches_few (item s c rest) = omega (arith, put_few (stretch_of s c) (stretches rest), stretch_few s c, stretches_few rest)

-- a stretch has no more ranges than it weighs, where a level below has no more than its items
ranges_few : (below : Level → List KeyRange) → ((c : Level) → length (below c) ≤ level_size c) → (first n : Bool) (x : Stretch) → length (stretch_ranges below first n x) ≤ weight_of x
ranges_few below few first n (deep v c) = omega (arith, length-map (below c) (behind_point v), few c)
ranges_few below few first n (full s) = omega arith

-- a level has no more ranges than items
level_few : (first : Bool) (ns fs : List Bool) (l : Level) → length (level_cover first ns fs l) ≤ level_size l
level_few first [] fs l = omega arith
level_few first (n ∷ ns) [] l = omega arith
level_few first (n ∷ ns) (f ∷ fs) l =
    let each = ranges_few (level_cover false ns fs) (level_few false ns fs) first n in
    let all = flat_map_few (stretch_ranges (level_cover false ns fs) first n) weight_of each (in_order f (stretches l)) in
    omega (arith, all, order_same f (stretches l), stretches_few l)

-- a cover has no more ranges than its tree has items, but one of everything
pub cover_few : (parts falling : List Bool) (t : Tree) → length (cover parts falling t) ≤ max 1 (size t)
cover_few [] falling t = omega arith
cover_few (n ∷ ns) falling everything = omega arith
cover_few (n ∷ ns) falling nothing = omega arith
cover_few (n ∷ ns) falling (items l) = omega (arith, level_few true (n ∷ ns) falling l)
