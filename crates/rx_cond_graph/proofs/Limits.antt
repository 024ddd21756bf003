-- What is over the limit isn't small.
use Rattle.std.proofs.Common.{◌≡◌, ◌<◌, ℕ, Bool, true, false, List, subst}
use Rattle.rx_tree.specs.Tree.{Tree, size}
use Rattle.rx_tree.specs.Meet.{tree_and}
use Rattle.rx_tree.specs.Union.{tree_or}
use Rattle.rx_sets.specs.Sets.{KeySet, IsSmall, IsTreeOf, both, either}
use Rattle.rx_sets.proofs.Trees.{not_small, tree_of_both, tree_of_either}
use Rattle.rx_cond_graph.specs.Giving.{combined}

pub met_over : (parts : List Bool) (limit : ℕ) (t u : Tree) (meets : Bool) → meets ≡ true → limit < size (tree_and t u) → (e f : KeySet) → IsTreeOf parts e t → IsTreeOf parts f u
    → IsSmall parts limit (combined meets e f) → ⊥
met_over parts limit t u meets is over e f first second small =
    not_small parts limit (both e f) (tree_and t u) (tree_of_both parts e f t u first second) over (subst (λ (x : Bool). IsSmall parts limit (combined x e f)) is small)

pub united_over : (parts : List Bool) (limit : ℕ) (t u : Tree) (meets : Bool) → meets ≡ false → limit < size (tree_or parts t u) → (e f : KeySet) → IsTreeOf parts e t → IsTreeOf parts f u
    → IsSmall parts limit (combined meets e f) → ⊥
united_over parts limit t u meets is over e f first second small =
    not_small parts limit (either e f) (tree_or parts t u) (tree_of_either parts e f t u first second) over (subst (λ (x : Bool). IsSmall parts limit (combined x e f)) is small)
