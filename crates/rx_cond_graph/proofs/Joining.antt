-- Conditions joined one after another: those so far, and what refuses the next.
use Rattle.std.proofs.Common.{arith, ◌≡◌, ◌≤◌, ◌<◌, ℕ, zero, suc, Bool, true, false, List, [], ◌∷◌, length, drop, refl, sym, ◌∙◌, subst, inl, inr}
use Rattle.std.proofs.lemmas.Bool.{cases_lt}
use Rattle.rx_value.specs.declared.shapes.Part.{Part}
use Rattle.rx_tree.specs.Tree as plain
use Rattle.rx_cond.specs.Tree.{Tree, Trees, trees}
use Rattle.rx_regions.specs.Cans.{can_be}
use Rattle.rx_graph.specs.declared.handles.Root.{Root}
use Rattle.rx_graph.specs.Graph.{Graph, Steps, tree_in}
use Rattle.rx_sets.specs.Sets.{KeySet, IsSmall, IsTreeOf}
use Rattle.rx_sets.proofs.Trees.{small_same}
use Rattle.rx_ranges.specs.Subterms.{front, HoldsUnderEach, IsSmallOn, AreSmall, AreSmallJoined, joined_can}
use Rattle.rx_cond_graph.specs.Giving.{GivesTreeOf, combined}
use Rattle.rx_cond_graph.proofs.Sames.{gives_same}
use Rattle.rx_cond_graph.proofs.Going.{joined_step, tree_kept}
use Rattle.rx_cond_graph.proofs.Fronts.{none_joined, front_next, front_whole, each_next, each_at}

-- the first so many conditions are joined, and all under them are small
pub record JoinedSoFar (parts : List Part) (meets sign : Bool) (limit : ℕ) (list : List Tree) (i : ℕ) (old new : Graph) (made : Root) : Type 0 where
  pub gives : GivesTreeOf (joined_can meets sign (front i (trees list)) parts) old new made
  pub fronts : (n : ℕ) → n ≤ i → IsSmall old.nullable limit (joined_can meets sign (front n (trees list)) parts)
  pub each : HoldsUnderEach (IsSmallOn old.nullable parts limit) sign (front i (trees list))

module _ (parts : List Part) (meets sign : Bool) (limit : ℕ) (list : List Tree) where
  abbrev set_of : ℕ → KeySet
  set_of n = joined_can meets sign (front n (trees list)) parts

  first_small : (nullable : List Bool) (b : Bool) → IsSmall nullable limit (λ ps. b)
  first_small nullable true = record { tree = plain.everything; is = record { canonical = tt; positions = λ ps tuple. refl }; few = omega arith }
  first_small nullable false = record { tree = plain.nothing; is = record { canonical = tt; positions = λ ps tuple. refl }; few = omega arith }

  first_fronts : (nullable : List Bool) (n : ℕ) → n ≤ 0 → IsSmall nullable limit (set_of n)
  first_fronts nullable zero low = small_same nullable limit (λ ps. meets) (set_of 0) (λ ps tuple. none_joined meets sign parts ps) (first_small nullable meets)
  first_fronts nullable (suc n) low = absurd (omega (arith, low))

  -- nothing is joined yet
  pub joined_first : (old new : Graph) (made : Root) → GivesTreeOf (λ ps. meets) old new made → JoinedSoFar parts meets sign limit list 0 old new made
  joined_first old new made gives = record {
    gives = gives_same (λ ps. meets) (set_of 0) old new made (λ ps tuple. none_joined meets sign parts ps) gives;
    fronts = first_fronts old.nullable;
    each = tt;
  }

  more_fronts : (nullable : List Bool) (i : ℕ) → ((n : ℕ) → n ≤ i → IsSmall nullable limit (set_of n)) → IsSmall nullable limit (set_of (suc i)) → (n : ℕ) → n ≤ suc i → IsSmall nullable limit (set_of n)
  more_fronts nullable i before here n low =
      elim (cases_lt i n) [
        | inl above ↦ let same : suc i ≡ n = omega (arith, above, low) in subst (λ k. IsSmall nullable limit (set_of k)) same here
        | inr below ↦ let low : n ≤ i = omega (arith, below) in before n low
      ]

  -- one more is joined
  pub joined_next : (i : ℕ) (t : Tree) (rest : List Tree) (a b c d : Graph) (w n r : Root) → drop i list ≡ t ∷ rest → JoinedSoFar parts meets sign limit list i a b w
      → GivesTreeOf (can_be sign t parts) b c n → AreSmall b.nullable parts limit sign t → Steps c d (w ∷ n ∷ []) (r ∷ [])
      → ((e f : KeySet) → IsTreeOf c.nullable e (tree_in c w) → IsTreeOf c.nullable f (tree_in c n) → IsTreeOf c.nullable (combined meets e f) (tree_in d r))
      → plain.size (tree_in d r) ≤ limit → JoinedSoFar parts meets sign limit list (suc i) a d r
  joined_next i t rest a b c d w n r is so_far gives small step joins few =
      let parts_are : c.nullable ≡ a.nullable = gives.step.parts ∙ so_far.gives.step.parts in
      let second : IsTreeOf c.nullable (can_be sign t parts) (tree_in c n) = subst (λ (ns : List Bool). IsTreeOf ns (can_be sign t parts) (tree_in c n)) (sym gives.step.parts) gives.tree in
      let joint : IsTreeOf a.nullable (combined meets (set_of i) (can_be sign t parts)) (tree_in d r) =
      subst (λ (ns : List Bool). IsTreeOf ns (combined meets (set_of i) (can_be sign t parts)) (tree_in d r)) parts_are
      (joins (set_of i) (can_be sign t parts) (tree_kept a b c w (n ∷ []) (set_of i) so_far.gives gives.step) second) in
      let made : GivesTreeOf (combined meets (set_of i) (can_be sign t parts)) a d r = record { step = joined_step a b c d w n r so_far.gives.step gives.step step; tree = joint } in
      let whole : GivesTreeOf (set_of (suc i)) a d r = gives_same (combined meets (set_of i) (can_be sign t parts)) (set_of (suc i)) a d r (λ ps tuple. front_next meets sign i list t rest parts is ps) made in
      record {
        gives = whole;
        fronts = more_fronts a.nullable i so_far.fronts (record { tree = tree_in d r; is = whole.tree; few = few });
        each = each_next (IsSmallOn a.nullable parts limit) sign i list t rest is so_far.each (subst (λ (ns : List Bool). AreSmall ns parts limit sign t) so_far.gives.step.parts small);
      }

  -- all are joined
  pub all_gives : (i : ℕ) (old new : Graph) (made : Root) → length list ≤ i → JoinedSoFar parts meets sign limit list i old new made → GivesTreeOf (joined_can meets sign (trees list) parts) old new made
  all_gives i old new made long so_far = subst (λ (items : Trees). GivesTreeOf (joined_can meets sign items parts) old new made) (front_whole i list long) so_far.gives

  longer : (i n : ℕ) → length list ≤ i → i < n → length list ≤ n
  longer i n long above = omega (arith, long, above)

  itself : (i : ℕ) → i ≤ i
  itself i = omega arith

  all_fronts : (nullable : List Bool) (i : ℕ) → length list ≤ i → ((n : ℕ) → n ≤ i → IsSmall nullable limit (set_of n)) → (n : ℕ) → IsSmall nullable limit (set_of n)
  all_fronts nullable i long before n =
      elim (cases_lt i n) [
        | inl above ↦ subst (λ (items : Trees). IsSmall nullable limit (joined_can meets sign items parts)) (front_whole i list long ∙ sym (front_whole n list (longer i n long above))) (before i (itself i))
        | inr below ↦ before n (omega (arith, below))
      ]

  pub all_small : (i : ℕ) (old new : Graph) (made : Root) → length list ≤ i → JoinedSoFar parts meets sign limit list i old new made → AreSmallJoined old.nullable parts limit meets sign (trees list)
  all_small i old new made long so_far = record {
    fronts = all_fronts old.nullable i long so_far.fronts;
    each = subst (λ (items : Trees). HoldsUnderEach (IsSmallOn old.nullable parts limit) sign items) (front_whole i list long) so_far.each;
  }

  -- where one isn't small, not all are
  pub one_over : (i : ℕ) (t : Tree) (rest : List Tree) (a b : Graph) (w : Root) → drop i list ≡ t ∷ rest → JoinedSoFar parts meets sign limit list i a b w
      → (AreSmall b.nullable parts limit sign t → ⊥) → AreSmallJoined a.nullable parts limit meets sign (trees list) → ⊥
  one_over i t rest a b w is so_far over small =
      over (subst (λ (ns : List Bool). AreSmall ns parts limit sign t) (sym so_far.gives.step.parts) (each_at (IsSmallOn a.nullable parts limit) sign i list t rest is small.each))

  -- where the next front isn't small, not all are
  pub front_over : (i : ℕ) (t : Tree) (rest : List Tree) (a b c : Graph) (w n : Root) → drop i list ≡ t ∷ rest → JoinedSoFar parts meets sign limit list i a b w
      → GivesTreeOf (can_be sign t parts) b c n
      → ((e f : KeySet) → IsTreeOf c.nullable e (tree_in c w) → IsTreeOf c.nullable f (tree_in c n) → IsSmall c.nullable limit (combined meets e f) → ⊥)
      → AreSmallJoined a.nullable parts limit meets sign (trees list) → ⊥
  front_over i t rest a b c w n is so_far gives over small =
      let parts_are : c.nullable ≡ a.nullable = gives.step.parts ∙ so_far.gives.step.parts in
      let second : IsTreeOf c.nullable (can_be sign t parts) (tree_in c n) = subst (λ (ns : List Bool). IsTreeOf ns (can_be sign t parts) (tree_in c n)) (sym gives.step.parts) gives.tree in
      over (set_of i) (can_be sign t parts) (tree_kept a b c w (n ∷ []) (set_of i) so_far.gives gives.step) second
      (subst (λ (ns : List Bool). IsSmall ns limit (combined meets (set_of i) (can_be sign t parts))) (sym parts_are)
      (small_same a.nullable limit (set_of (suc i)) (combined meets (set_of i) (can_be sign t parts)) (λ ps tuple. sym (front_next meets sign i list t rest parts is ps)) (small.fronts (suc i))))
