-- Ranges are no more than the limit of items, or one.
use Rattle.std.proofs.Common.{arith, ◌≤◌, ℕ, max, true, List, take, length, sym, subst}
use Rattle.rx_value.specs.declared.ranges.KeyRange.{KeyRange}
use Rattle.rx_value.specs.declared.shapes.Column.{Column}
use Rattle.rx_value.specs.declared.shapes.Part.{Part}
use Rattle.rx_tree.specs.Tree as trees
use Rattle.rx_tree.specs.Tree.{size}
use Rattle.rx_cond.specs.Tree.{Tree}
use Rattle.rx_regions.specs.Cans.{can_be}
use Rattle.rx_cover.proofs.Counting.{cover_few}
use Rattle.rx_sets.specs.Sets.{IsSmall}
use Rattle.rx_sets.proofs.Trees.{one_tree}
use Rattle.rx_ranges.specs.Subterms.{IsSmallOn}
use Rattle.rx_ranges.specs.Answers.{nullables, fallings, IsUsed}
use Rattle.rx_ranges.proofs.Under.{under_itself}

-- the tree whose cover the ranges are has no more items than the limit, since it is the one tree of a condition that fits
tree_few : (columns : List Column) (parts : List Part) (limit : ℕ) (t : Tree) (p : ℕ) (list : List KeyRange) (is : IsUsed columns parts limit t p list) → size is.cover.tree ≤ limit
tree_few columns parts limit t p list is =
    let front = take p parts in
    let nulls = nullables columns front in
    let small : IsSmall nulls limit (can_be true t front) = under_itself (IsSmallOn nulls front limit) true t (is.used.fits is.some) in
    subst (λ (u : trees.Tree). size u ≤ limit) (one_tree nulls (can_be true t front) small.tree is.cover.tree small.is is.cover.of) small.few

pub used_few : (columns : List Column) (parts : List Part) (limit : ℕ) (t : Tree) (p : ℕ) (list : List KeyRange) → IsUsed columns parts limit t p list → length list ≤ max 1 limit
used_few columns parts limit t p list is =
    let front = take p parts in
    subst (λ (l : List KeyRange). length l ≤ max 1 limit) (sym is.cover.is)
    (omega (arith, cover_few (nullables columns front) (fallings front) is.cover.tree, tree_few columns parts limit t p list is))
