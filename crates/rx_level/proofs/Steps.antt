-- Steps follow one another.
use Rattle.std.proofs.Common.{◌≡◌, ◌+◌, ◌<◌, ◌≤◌, arith, ℕ, List, [], Option, Some, None, IsSome, refl, ap, sym, ◌∙◌}
use Rattle.slab.specs.Slab.{Slab, get}
use Rattle.rx_value.specs.declared.order.Span.{Span}
use Rattle.rx_level.specs.declared.nodes.Node.{Node}
use Rattle.rx_tree.specs.Tree.{Level}
use Rattle.rx_tree.specs.Join.{join_level}
use Rattle.rx_level.specs.Tree.{plain}
use Rattle.rx_level.specs.Tree.Tree.{some}
use Rattle.rx_tree.specs.Tree.Level.{end, item}
use Rattle.rx_level.specs.Store.{IsThere, IsSound, IsWithinStore, bare, Body, body_in, held_in, held_of, leads, links_in, owed, tree_of}
use Rattle.rx_level.specs.Step.{Owns, Step, level_of}
use Rattle.rx_level.proofs.Counts.{leads_same}
use Rattle.rx_level.proofs.Unfolding.{tree_of_within, tree_of-node, link_there}

-- the sums that let one step follow another
pub record Follows (m : ℕ) (s1 g1 s2 g2 s g : List (Option ℕ)) : Type 0 where
  pub first : owed m s1 ≤ owed m s
  pub second : owed m s2 + owed m s1 ≤ owed m s + owed m g1
  pub both : owed m g + owed m s1 + owed m s2 ≡ owed m s + owed m g1 + owed m g2

pub then : (a b c : Slab Node) (s1 g1 s2 g2 s g : List (Option ℕ)) → Step a b s1 g1 → Step b c s2 g2 → ((m : ℕ) → owed m s ≤ held_of a m) → ((m : ℕ) → Follows m s1 g1 s2 g2 s g) → Step a c s g
then a b c s1 g1 s2 g2 s g one two owned fits = record {
  sound = two.sound;
  held = λ m. let f = fits m in omega (arith, one.held m, two.held m, owned m, f.first, f.second, f.both);
  keeps = λ m more. let f = fits m in
      two.keeps m (omega (arith, one.held m, more, f.first, f.second))
      ∙ one.keeps m (omega (arith, more, f.first));
}

-- what is held afterwards
pub owns_after : (a b : Slab Node) (s g all left : List (Option ℕ)) → Owns a all → Step a b s g → ((m : ℕ) → owed m left + owed m s ≤ owed m all + owed m g) → Owns b left
owns_after a b s g all left owns step fits = record {
  sound = step.sound;
  owned = λ m. omega (arith, step.held m, owns.owned m, fits m);
}

-- a handle that the call doesn't spend keeps its tree
pub keeps_root : (a b : Slab Node) (s g : List (Option ℕ)) → Step a b s g → (r : Option ℕ) → ((m : ℕ) → owed m s + leads m r ≤ held_of a m) → tree_of b r ≡ tree_of a r
keeps_root a b s g step None room = refl
keeps_root a b s g step (Some k) room = step.keeps k (omega (arith, room k, leads_same k))

there_of : (s : Slab Node) (k : ℕ) (o : Option Node) → get s k ≡ o → 0 < held_in o → IsSome (get s k)
there_of s k None is h = absurd (omega (arith, h))
there_of s k (Some v) is h = rw is refl

pub held_there : (s : Slab Node) (r : Option ℕ) → ((m : ℕ) → leads m r ≤ held_of s m) → IsThere s r
held_there s None h = tt
held_there s (Some k) h = there_of s k (get s k) refl (omega (arith, h k, leads_same k))

-- a step that only adds nodes
pub step_onto : (old new : Slab Node) (spent given : List (Option ℕ)) → IsSound old [] → IsSound new [] → IsWithinStore old new → ((m : ℕ) → held_of new m + owed m spent ≡ held_of old m + owed m given) → Step old new spent given
step_onto old new spent given sound_old sound_new within held = record {
  sound = sound_new;
  held = held;
  keeps = λ m more. sym (tree_of_within old new None [] sound_old within (Some m) (there_of old m (get old m) refl (omega (arith, more))));
}

-- a step that only takes nodes away
pub step_within : (old new : Slab Node) (spent given : List (Option ℕ)) → IsSound new [] → IsWithinStore new old → ((m : ℕ) → held_of new m + owed m spent ≡ held_of old m + owed m given) → Step old new spent given
step_within old new spent given sound_new within held = record {
  sound = sound_new;
  held = held;
  keeps = λ m more. tree_of_within new old None [] sound_new within (Some m) (there_of new m (get new m) refl (omega (arith, more, held m)));
}

pub record HasParts (s : Slab Node) (k : ℕ) (p : Body) : Type 0 where
  pub node : Node
  pub is : get s k ≡ Some node
  pub span : node.span ≡ p.span
  pub child : node.child ≡ p.child
  pub left : node.left ≡ p.left
  pub right : node.right ≡ p.right

abbrev span_part : Option Body → Option (Span)
span_part None = None
span_part (Some p) = Some p.span

parts_span : (q p : Body) → Some q ≡ Some p → q.span ≡ p.span
parts_span q p e = let h : Some q.span ≡ Some p.span = ap span_part e in cc h

abbrev child_part : Option Body → Option (Option ℕ)
child_part None = None
child_part (Some p) = Some p.child

parts_child : (q p : Body) → Some q ≡ Some p → q.child ≡ p.child
parts_child q p e = let h : Some q.child ≡ Some p.child = ap child_part e in cc h

abbrev left_part : Option Body → Option (Option ℕ)
left_part None = None
left_part (Some p) = Some p.left

parts_left : (q p : Body) → Some q ≡ Some p → q.left ≡ p.left
parts_left q p e = let h : Some q.left ≡ Some p.left = ap left_part e in cc h

abbrev right_part : Option Body → Option (Option ℕ)
right_part None = None
right_part (Some p) = Some p.right

parts_right : (q p : Body) → Some q ≡ Some p → q.right ≡ p.right
parts_right q p e = let h : Some q.right ≡ Some p.right = ap right_part e in cc h

pub has_parts : (s : Slab Node) (k : ℕ) (p : Body) (o : Option Node) → get s k ≡ o → body_in o ≡ Some p → HasParts s k p
has_parts s k p None is e = absurd (cc e)
has_parts s k p (Some v) is e =
    let same : Some (record { span = v.span; child = v.child; left = v.left; right = v.right }) ≡ Some p = e in
    record { node = v; is = is; span = parts_span _ p same; child = parts_child _ p same; left = parts_left _ p same; right = parts_right _ p same }

pub tree_of-parts : (s : Slab Node) → IsSound s [] → (k : ℕ) (p : Body) → body_in (get s k) ≡ Some p → tree_of s (Some k) ≡ some k p.span (tree_of s p.child) (tree_of s p.left) (tree_of s p.right)
tree_of-parts s sound k p e =
    let h = has_parts s k p (get s k) refl e in
    tree_of-node s None [] sound k h.node h.is ∙ (rw (h.span, h.child, h.left, h.right) refl)

some_bare : (o p : Option Node) → IsSome o → bare o ≡ bare p → IsSome p
some_bare None p there e = cc there
some_bare (Some v) None there e = absurd (cc e)
some_bare (Some v) (Some w) there e = refl

pub there_onto : (old new : Slab Node) → IsWithinStore old new → (r : Option ℕ) → IsThere old r → IsThere new r
there_onto old new onto None there = tt
there_onto old new onto (Some k) there = some_bare (get old k) (get new k) there (onto k there)

pub level_of-parts : (s : Slab Node) → IsSound s [] → (k : ℕ) (p : Body) → body_in (get s k) ≡ Some p → level_of s (Some k) ≡ join_level (level_of s p.left) (item p.span (level_of s p.child) (level_of s p.right))
level_of-parts s sound k p e = ap plain (tree_of-parts s sound k p e)

-- the tree of what was there before a node came
pub tree_onto : (old new : Slab Node) → IsSound old [] → IsWithinStore old new → (r : Option ℕ) → IsThere old r → tree_of new r ≡ tree_of old r
tree_onto old new sound onto r there = sym (tree_of_within old new None [] sound onto r there)

pub record LinksThere (s : Slab Node) (p : Body) : Type 0 where
  pub child : IsThere s p.child
  pub left : IsThere s p.left
  pub right : IsThere s p.right

-- what a node leads to is there
pub links_there : (s : Slab Node) → IsSound s [] → (k : ℕ) (p : Body) → body_in (get s k) ≡ Some p → LinksThere s p
links_there s sound k p e =
    let h = has_parts s k p (get s k) refl e in
    let inside : (m : ℕ) → links_in m (get s k) ≡ leads m p.child + leads m p.left + leads m p.right = (λ m. ap (links_in m) h.is ∙ (rw (h.child, h.left, h.right) refl)) in
    record {
      child = link_there s None [] sound k p.child (λ m. omega (arith, inside m));
      left = link_there s None [] sound k p.left (λ m. omega (arith, inside m));
      right = link_there s None [] sound k p.right (λ m. omega (arith, inside m));
    }

pub join-end : (a : Level) → join_level a end ≡ a
join-end end = refl
join-end (item s c rest) = ap (item s c) (join-end rest)

pub join_assoc : (a b c : Level) → join_level (join_level a b) c ≡ join_level a (join_level b c)
join_assoc end b c = refl
join_assoc (item s d rest) b c = ap (item s d) (join_assoc rest b c)

pub level_none : (s : Slab Node) (left right : Option ℕ) → right ≡ None → level_of s left ≡ join_level (level_of s left) (level_of s right)
level_none s left right e = sym (join-end (level_of s left)) ∙ ap (λ r. join_level (level_of s left) (level_of s r)) (sym e)
