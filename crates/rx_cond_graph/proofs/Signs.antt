-- What is asked of a condition under NOT, AND and OR, by its sign.
use Rattle.std.proofs.Common.{◌≡◌, ℕ, Bool, true, false, not, List, refl, sym}
use Rattle.rx_value.specs.declared.shapes.Part.{Part}
use Rattle.rx_value.specs.declared.order.End.{End}
use Rattle.rx_cond.specs.Tree.{Tree, Trees, truth, compare, member, row_member, is_null, like, neg, conj, disj}
use Rattle.rx_regions.specs.Cans.{can_be}
use Rattle.rx_graph.specs.declared.handles.Root.{Root}
use Rattle.rx_graph.specs.Graph.{Graph}
use Rattle.rx_sets.proofs.Trees.{small_same}
use Rattle.rx_ranges.specs.Subterms.{front, IsSmallOn, AreSmall, AreSmallJoined, joined_can}
use Rattle.rx_ranges.proofs.Under.{under_itself}
use Rattle.rx_cond_graph.specs.Giving.{GivesTreeOf, is_single}
use Rattle.rx_cond_graph.proofs.Sames.{gives_same}

neg_can : (sign : Bool) (t : Tree) (parts : List Part) (ps : List End) → can_be (not sign) t parts ps ≡ can_be sign (neg t) parts ps
neg_can true t parts ps = refl
neg_can false t parts ps = refl

conj_can : (sign : Bool) (items : Trees) (parts : List Part) (ps : List End) → joined_can sign sign items parts ps ≡ can_be sign (conj items) parts ps
conj_can true items parts ps = refl
conj_can false items parts ps = refl

disj_can : (sign : Bool) (items : Trees) (parts : List Part) (ps : List End) → joined_can (not sign) sign items parts ps ≡ can_be sign (disj items) parts ps
disj_can true items parts ps = refl
disj_can false items parts ps = refl

module _ (nullable : List Bool) (parts : List Part) (limit : ℕ) (sign : Bool) where
  pub neg_small : (t : Tree) → AreSmall nullable parts limit (not sign) t → AreSmall nullable parts limit sign (neg t)
  neg_small t small =
      (small_same nullable limit (can_be (not sign) t parts) (can_be sign (neg t) parts) (λ ps tuple. neg_can sign t parts ps) (under_itself (IsSmallOn nullable parts limit) (not sign) t small), small)

  pub conj_small : (items : Trees) → AreSmallJoined nullable parts limit sign sign items → AreSmall nullable parts limit sign (conj items)
  conj_small items small =
      (λ n. small_same nullable limit (joined_can sign sign (front n items) parts) (can_be sign (conj (front n items)) parts) (λ ps tuple. conj_can sign (front n items) parts ps) (small.fronts n), small.each)

  pub small_conj : (items : Trees) → AreSmall nullable parts limit sign (conj items) → AreSmallJoined nullable parts limit sign sign items
  small_conj items small = record {
    fronts = λ n. small_same nullable limit (can_be sign (conj (front n items)) parts) (joined_can sign sign (front n items) parts) (λ ps tuple. sym (conj_can sign (front n items) parts ps)) (small.0 n);
    each = small.1;
  }

  pub disj_small : (items : Trees) → AreSmallJoined nullable parts limit (not sign) sign items → AreSmall nullable parts limit sign (disj items)
  disj_small items small =
      (λ n. small_same nullable limit (joined_can (not sign) sign (front n items) parts) (can_be sign (disj (front n items)) parts) (λ ps tuple. disj_can sign (front n items) parts ps) (small.fronts n), small.each)

  pub small_disj : (items : Trees) → AreSmall nullable parts limit sign (disj items) → AreSmallJoined nullable parts limit (not sign) sign items
  small_disj items small = record {
    fronts = λ n. small_same nullable limit (can_be sign (disj (front n items)) parts) (joined_can (not sign) sign (front n items) parts) (λ ps tuple. sym (disj_can sign (front n items) parts ps)) (small.0 n);
    each = small.1;
  }

  -- a single test has nothing under it
  pub single_small : (t : Tree) → is_single t ≡ true → IsSmallOn nullable parts limit sign t → AreSmall nullable parts limit sign t
  single_small (truth t) single h = h
  single_small (compare op left right) single h = h
  single_small (member left list) single h = h
  single_small (row_member columns list) single h = h
  single_small (is_null operand) single h = h
  single_small (like column pattern) single h = h
  single_small (neg t) single h = absurd (cc single)
  single_small (conj items) single h = absurd (cc single)
  single_small (disj items) single h = absurd (cc single)

module _ (parts : List Part) (sign : Bool) (old new : Graph) (given : Root) where
  pub gives_neg : (t : Tree) → GivesTreeOf (can_be (not sign) t parts) old new given → GivesTreeOf (can_be sign (neg t) parts) old new given
  gives_neg t gives = gives_same (can_be (not sign) t parts) (can_be sign (neg t) parts) old new given (λ ps tuple. neg_can sign t parts ps) gives

  pub gives_conj : (items : Trees) → GivesTreeOf (joined_can sign sign items parts) old new given → GivesTreeOf (can_be sign (conj items) parts) old new given
  gives_conj items gives = gives_same (joined_can sign sign items parts) (can_be sign (conj items) parts) old new given (λ ps tuple. conj_can sign items parts ps) gives

  pub gives_disj : (items : Trees) → GivesTreeOf (joined_can (not sign) sign items parts) old new given → GivesTreeOf (can_be sign (disj items) parts) old new given
  gives_disj items gives = gives_same (joined_can (not sign) sign items parts) (can_be sign (disj items) parts) old new given (λ ps tuple. disj_can sign items parts ps) gives
