-- The tree of a set.
use Rattle.std.proofs.Common.{arith, ◌≡◌, ◌<◌, ◌≤◌, ◌&&◌, ◌||◌, ℕ, Bool, List, ap₂, sym, ◌∙◌, subst}
use Rattle.rx_tree.specs.Tree.{Tree, size}
use Rattle.rx_tree.specs.Meet.{tree_and}
use Rattle.rx_tree.specs.Union.{tree_or}
use Rattle.rx_sets.specs.Sets.{KeySet, IsTreeOf, IsSmall, AreSame, both, either}
use Rattle.rx_tree.proofs.Unique.{same_trees}
use Rattle.rx_tree.proofs.Intersection.{and_canonical, and_holds}
use Rattle.rx_tree.proofs.Either.{or_canonical, or_holds}

-- a set has one canonical tree
pub one_tree : (parts : List Bool) (f : KeySet) (t u : Tree) → IsTreeOf parts f t → IsTreeOf parts f u → t ≡ u
one_tree parts f t u first second =
    same_trees parts t u first.canonical second.canonical (λ ps tuple. first.positions ps tuple ∙ sym (second.positions ps tuple))

-- it is that of any set of the same tuples
pub same_set : (parts : List Bool) (f g : KeySet) (t : Tree) → AreSame parts f g → IsTreeOf parts f t → IsTreeOf parts g t
same_set parts f g t same of = record { canonical = of.canonical; positions = λ ps tuple. of.positions ps tuple ∙ same ps tuple }

-- a set whose tree has more items than the limit isn't small
pub not_small : (parts : List Bool) (limit : ℕ) (f : KeySet) (t : Tree) → IsTreeOf parts f t → limit < size t → IsSmall parts limit f → ⊥
not_small parts limit f t of over is =
    let fits : size t ≤ limit = subst (λ (u : Tree). size u ≤ limit) (one_tree parts f is.tree t is.is of) is.few in
    omega (arith, over, fits)

pub small_same : (parts : List Bool) (limit : ℕ) (f g : KeySet) → AreSame parts f g → IsSmall parts limit f → IsSmall parts limit g
small_same parts limit f g same is = record { tree = is.tree; is = same_set parts f g is.tree same is.is; few = is.few }

-- what two trees have in common is the tree of both sets
pub tree_of_both : (parts : List Bool) (f g : KeySet) (t u : Tree) → IsTreeOf parts f t → IsTreeOf parts g u → IsTreeOf parts (both f g) (tree_and t u)
tree_of_both parts f g t u first second = record {
  canonical = and_canonical parts t u first.canonical second.canonical;
  positions = λ ps tuple. and_holds parts t u ps first.canonical second.canonical ∙ ap₂ (λ x y. x && y) (first.positions ps tuple) (second.positions ps tuple);
}

-- and what they have together that of either
pub tree_of_either : (parts : List Bool) (f g : KeySet) (t u : Tree) → IsTreeOf parts f t → IsTreeOf parts g u → IsTreeOf parts (either f g) (tree_or parts t u)
tree_of_either parts f g t u first second = record {
  canonical = or_canonical parts t u first.canonical second.canonical;
  positions = λ ps tuple. or_holds parts t u ps first.canonical second.canonical tuple ∙ ap₂ (λ x y. x || y) (first.positions ps tuple) (second.positions ps tuple);
}
