-- Equal trees and equal sets.
use Rattle.std.proofs.Common.{◌≡◌, ◌≤◌, IsTrue, false, Bool, ℕ, [], ◌∷◌, Some, arith, refl, ap, sym, ◌∙◌}
use Rattle.slab.specs.Slab.{Slab}
use Rattle.rx_tree.specs.Tree.Tree.{everything, nothing}
use Rattle.rx_tree.specs.Member.{HoldSame, holds}
use Rattle.rx_tree.proofs.Unique.{same_trees}
use Rattle.rx_level.specs.declared.nodes.Node.{Node}
use Rattle.rx_level.specs.Store.{leads, held_of}
use Rattle.rx_level.specs.Step.{Lent}
use Rattle.rx_level.proofs.Steps.{held_there}
use Rattle.rx_level.proofs.Lending.{lent_held}
use Rattle.rx_graph.specs.declared.handles.Root.{Root}
use Rattle.rx_graph.specs.declared.handles.Root.TheVariants.{Everything, Nothing, Items}
use Rattle.rx_graph.specs.Graph.{Graph, IsHeld, AreCanonical, tree_in}
use Rattle.rx_graph.proofs.GraphSteps.{once, held_items}

-- a level that a handle holds is lent
pub root_lent : (g : Graph) (s : Slab Node) (h r : Root) (k : ℕ) → s ≡ g.store → IsHeld g (h ∷ []) → r ≡ h → r ≡ Items k → Lent s [] (Some k)
root_lent g s h r k same held is_root is =
    let room : (m : ℕ) → leads m (Some k) ≤ held_of s m = λ m. omega (arith, held_items g h k held (sym is_root ∙ is) m, ap (λ t. held_of t m) same) in
    lent_held s [] (Some k) (held_there s (Some k) room) (λ m. omega (arith, room m))

-- where the answer tells equal trees, it tells equal sets
pub sets_tell : (g : Graph) (a b : Root) (t : Bool) → IsHeld g (a ∷ []) → IsHeld g (b ∷ [])
    → (IsTrue t → tree_in g a ≡ tree_in g b) × (tree_in g a ≡ tree_in g b → IsTrue t)
    → AreCanonical g → (IsTrue t → HoldSame g.nullable (tree_in g a) (tree_in g b)) × (HoldSame g.nullable (tree_in g a) (tree_in g b) → IsTrue t)
sets_tell g a b t held_a held_b tells canonical = (
  (λ yes ps tuple. ap (λ u. holds u ps) (tells.0 yes)),
  (λ alike. tells.1 (same_trees g.nullable (tree_in g a) (tree_in g b) (canonical a (omega (arith, held_a a, once a))) (canonical b (omega (arith, held_b b, once b))) alike)),
)

-- the trees of roots of other kinds differ
all_differs : (g : Graph) (b : Root) → (b ≡ Everything → ⊥) → everything ≡ tree_in g b → ⊥
all_differs g Everything other e = other refl
all_differs g Nothing other e = cc e
all_differs g (Items k) other e = cc e

none_differs : (g : Graph) (b : Root) → (b ≡ Nothing → ⊥) → nothing ≡ tree_in g b → ⊥
none_differs g Everything other e = cc e
none_differs g Nothing other e = other refl
none_differs g (Items k) other e = cc e

items_differ : (g : Graph) (k : ℕ) (b : Root) → ((m : ℕ) → b ≡ Items m → ⊥) → tree_in g (Items k) ≡ tree_in g b → ⊥
items_differ g k Everything other e = cc e
items_differ g k Nothing other e = cc e
items_differ g k (Items m) other e = other m refl

-- the answer no
pub record AnswersNo (g : Graph) (a b : Root) : Type 0 where
  pub trees : (IsTrue false → tree_in g a ≡ tree_in g b) × (tree_in g a ≡ tree_in g b → IsTrue false)

pub answers_no : (g : Graph) (a b : Root) → (tree_in g a ≡ tree_in g b → ⊥) → AnswersNo g a b
answers_no g a b differ = record { trees = ((λ yes. absurd (cc yes)), (λ e. absurd (differ e))) }

pub no_all : (g : Graph) (a b a' b' : Root) → a' ≡ a → b' ≡ b → a' ≡ Everything → (b' ≡ Everything → ⊥) → AnswersNo g a b
no_all g a b a' b' same_a same_b is other = answers_no g a b (λ e. all_differs g b (λ x. other (same_b ∙ x)) (ap (tree_in g) (sym is ∙ same_a) ∙ e))

pub no_none : (g : Graph) (a b a' b' : Root) → a' ≡ a → b' ≡ b → a' ≡ Nothing → (b' ≡ Nothing → ⊥) → AnswersNo g a b
no_none g a b a' b' same_a same_b is other = answers_no g a b (λ e. none_differs g b (λ x. other (same_b ∙ x)) (ap (tree_in g) (sym is ∙ same_a) ∙ e))

pub no_items : (g : Graph) (k : ℕ) (a b a' b' : Root) → a' ≡ a → b' ≡ b → a' ≡ Items k → ((m : ℕ) → b' ≡ Items m → ⊥) → AnswersNo g a b
no_items g k a b a' b' same_a same_b is other = answers_no g a b (λ e. items_differ g k b (λ m x. other m (same_b ∙ x)) (ap (tree_in g) (sym is ∙ same_a) ∙ e))
