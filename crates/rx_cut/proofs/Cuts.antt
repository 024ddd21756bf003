-- A lent level that is cut at an end, over stores that follow one another.
use Rattle.std.proofs.Common.{◌≡◌, inl, inr, ◌<◌, ◌≤◌, ◌+◌, ◌-◌, ◌*◌, max, Bool, true, false, cond, ℕ, [], ◌∷◌, Option, Some, arith, refl, ap, sym, ◌∙◌, subst}
use Rattle.std.proofs.lemmas.Bool.{cases_lt}
use Rattle.slab.specs.Slab.{Slab}
use Rattle.rx_value.specs.declared.order.End.{End}
use Rattle.rx_value.specs.declared.order.Span.{Span}
use Rattle.rx_value.specs.Order.{is_at_most}
use Rattle.rx_value.specs.Spans.{IsAtMost, IsBelow}
use Rattle.rx_value.proofs.Ends.{at_most-trans, below-at_most, at_most-total}
use Rattle.rx_tree.specs.Tree.{Level}
use Rattle.rx_tree.specs.Tree.Level.{end, item}
use Rattle.rx_tree.specs.Join.{join_level}
use Rattle.rx_tree.proofs.Welding.{begins_later}
use Rattle.rx_level.specs.declared.nodes.Node.{Node}
use Rattle.rx_level.specs.Tree.{fork_of, Fork, IsNear, IsHeight}
use Rattle.rx_level.specs.Store.{IsSound, tree_of}
use Rattle.rx_level.specs.Step.{Step, Lent, level_of, tall_of}
use Rattle.rx_level.proofs.Heights.{even_tree, fork_tall, fork_near}
use Rattle.rx_level.proofs.Turning.{kept_root, max_turn}
use Rattle.rx_tree.specs.Cuts.{before, after, AreInOrder}
use Rattle.rx_tree.proofs.Order.{first_low, left_order, right_order, before_keep, before_drop, before_cut, nothing_before, after_drop, after_cut, after_keep}
use Rattle.rx_cut.proofs.Staying.{stays_two}

-- a level that is seen at its topmost item
pub record IsSeen (a : Slab Node) (root child left right : Option ℕ) (t : Span) : Type 0 where
  pub height : tall_of a root ≡ 1 + max (tall_of a left) (tall_of a right)
  pub near : IsNear (tall_of a left) (tall_of a right)
  pub left_order : AreInOrder (level_of a left)
  pub right_order : AreInOrder (level_of a right)
  pub order : AreInOrder (join_level (level_of a left) (item t (level_of a child) (level_of a right)))

pub seen : (a : Slab Node) (root child left right : Option ℕ) (t : Span) → IsSound a []
    → fork_of (tree_of a root) ≡ Some (record { span = t; child = tree_of a child; left = tree_of a left; right = tree_of a right })
    → level_of a root ≡ join_level (level_of a left) (item t (level_of a child) (level_of a right)) → AreInOrder (level_of a root) → IsSeen a root child left right t
seen a root child left right t sound fork level order =
    let f : Fork = record { span = t; child = tree_of a child; left = tree_of a left; right = tree_of a right } in
    let all = subst AreInOrder level order in
    record {
      height = fork_tall (tree_of a root) f fork;
      near = fork_near (tree_of a root) f (even_tree a sound root) fork;
      left_order = left_order (level_of a left) (item t (level_of a child) (level_of a right)) all;
      right_order = (right_order (level_of a left) t (level_of a child) (level_of a right) all).3;
      order = all;
    }

pub lower_left : (t l r : ℕ) → t ≡ 1 + max l r → l < t
lower_left t l r e = grind (arith, e)

pub lower_right : (t l r : ℕ) → t ≡ 1 + max l r → r < t
lower_right t l r e = grind (arith, e)

-- what an item has from an end on, and what it has before one
abbrev pub from_end : End → Span → Span
from_end e t = cond (is_at_most e t.lo) t (record { lo = e; hi = t.hi })

abbrev pub till_end : End → Span → Span
till_end e t = cond (is_at_most t.hi e) t (record { lo = t.lo; hi = e })

pub no_after : (e : End) (l : Level) (i : Span) (d r : Level) → AreInOrder (join_level l (item i d r)) → IsAtMost i.lo e → after e l ≡ end
no_after e end i d r order low = refl
no_after e (item u c l) i d r order low =
    let up : is_at_most u.hi e ≡ true = at_most-trans u.hi i.lo e (first_low u.hi l i d r order.3 order.1) low in
    rw up (no_after e l i d r order.3 low)

pub after_by : (e : End) (l : Level) (i : Span) (d r : Level) (b : Bool) → is_at_most e i.lo ≡ b → AreInOrder (join_level l (item i d r)) → IsBelow e i.hi
    → after e (join_level l (item i d r)) ≡ join_level (after e l) (item (cond b i (record { lo = e; hi = i.hi })) d r)
after_by e l i d r true is order high = after_keep e l i d r order is
after_by e l i d r false is order high =
    let low = at_most-total e i.lo is in
    after_cut e l i d r order low high
    ∙ ap (λ x. cond x (item i d r) (item (record { lo = e; hi = i.hi }) d r)) is
    ∙ ap (λ x. join_level x (item (record { lo = e; hi = i.hi }) d r)) (sym (no_after e l i d r order low))

pub before_by : (e : End) (l : Level) (i : Span) (d r : Level) (b : Bool) → is_at_most i.hi e ≡ b → AreInOrder (join_level l (item i d r)) → IsBelow i.lo e
    → before e (join_level l (item i d r)) ≡ join_level l (item (cond b i (record { lo = i.lo; hi = e })) d (before e r))
before_by e l i d r true is order low = before_keep e l i d r order is
before_by e l i d r false is order low =
    let on = right_order l i d r order in
    before_cut e l i d r order low is
    ∙ ap (λ x. join_level l (item (record { lo = i.lo; hi = e }) d x)) (sym (nothing_before e r on.3 (begins_later e i.hi r (below-at_most e i.hi is) on.1)))

-- a level behind an end: what is behind it on the left, the item from there on, and the right
pub after_seen : (a b d f : Slab Node) (root child left right front whole : Option ℕ) (t s : Span) (e : End) → IsSound a [] → Lent a [] child → Lent a [] right → IsSeen a root child left right t
    → level_of a root ≡ join_level (level_of a left) (item t (level_of a child) (level_of a right)) → IsBelow e t.hi → s ≡ from_end e t
    → Step a b [] (front ∷ []) → level_of b front ≡ after e (level_of a left) → Step b d [] (child ∷ right ∷ [])
    → level_of f whole ≡ join_level (level_of d front) (item s (level_of d child) (level_of d right)) → level_of f whole ≡ after e (level_of a root)
after_seen a b d f root child left right front whole t s e sound lent_c lent_r o level high is_s one is_front two joined =
    let c = stays_two a b d _ _ sound one two child lent_c in
    let r = stays_two a b d _ _ sound one two right lent_r in
    let k = kept_root b d [] (child ∷ right ∷ []) two front (λ m. omega (arith, one.held m)) in
    joined
    ∙ (rw (k.level, is_front, c.level, r.level, is_s) refl)
    ∙ sym (ap (after e) level ∙ after_by e (level_of a left) t (level_of a child) (level_of a right) (is_at_most e t.lo) refl o.order high)

-- a level before an end: the left, the item up to there, and what is before it on the right
pub before_seen : (a b d f : Slab Node) (root child left right back whole : Option ℕ) (t s : Span) (e : End) → IsSound a [] → Lent a [] child → Lent a [] left → IsSeen a root child left right t
    → level_of a root ≡ join_level (level_of a left) (item t (level_of a child) (level_of a right)) → IsBelow t.lo e → s ≡ till_end e t
    → Step a b [] (back ∷ []) → level_of b back ≡ before e (level_of a right) → Step b d [] (child ∷ left ∷ [])
    → level_of f whole ≡ join_level (level_of d left) (item s (level_of d child) (level_of d back)) → level_of f whole ≡ before e (level_of a root)
before_seen a b d f root child left right back whole t s e sound lent_c lent_l o level low is_s one is_back two joined =
    let c = stays_two a b d _ _ sound one two child lent_c in
    let l = stays_two a b d _ _ sound one two left lent_l in
    let k = kept_root b d [] (child ∷ left ∷ []) two back (λ m. omega (arith, one.held m)) in
    joined
    ∙ (rw (k.level, is_back, c.level, l.level, is_s) refl)
    ∙ sym (ap (before e) level ∙ before_by e (level_of a left) t (level_of a child) (level_of a right) (is_at_most t.hi e) refl o.order low)

-- an item that ends at the end or before it, and one that begins there or behind it
pub after_beside : (a : Slab Node) (root child left right : Option ℕ) (t : Span) (e : End) → IsSeen a root child left right t → level_of a root ≡ join_level (level_of a left) (item t (level_of a child) (level_of a right))
    → IsAtMost t.hi e → after e (level_of a right) ≡ after e (level_of a root)
after_beside a root child left right t e o level low = sym (ap (after e) level ∙ after_drop e (level_of a left) t (level_of a child) (level_of a right) o.order low)

pub before_beside : (a : Slab Node) (root child left right : Option ℕ) (t : Span) (e : End) → IsSeen a root child left right t → level_of a root ≡ join_level (level_of a left) (item t (level_of a child) (level_of a right))
    → IsAtMost e t.lo → before e (level_of a left) ≡ before e (level_of a root)
before_beside a root child left right t e o level low = sym (ap (before e) level ∙ before_drop e (level_of a left) t (level_of a child) (level_of a right) o.order low)

-- the heights of what is given and lent, as they stand when they are joined
pub record Sides (a b d : Slab Node) (made lent : Option ℕ) : Type 0 where
  pub made_tall : tall_of d made ≡ tall_of b made
  pub lent_tall : tall_of d lent ≡ tall_of a lent

pub sides : (a b d : Slab Node) (child side made : Option ℕ) → IsSound a [] → Lent a [] side → Step a b [] (made ∷ []) → Step b d [] (child ∷ side ∷ []) → Sides a b d made side
sides a b d child side made sound lent one two = record {
  made_tall = (kept_root b d [] (child ∷ side ∷ []) two made (λ m. omega (arith, one.held m))).tall;
  lent_tall = (stays_two a b d _ _ sound one two side lent).tall;
}

joined_near : (l r x w : ℕ) → IsNear l r → x ≤ r → l ≤ x → IsHeight l x w → w ≡ 1 + x
joined_near l r x w near low side is =
    let beside : IsNear l x = ((omega (arith, side)), (omega (arith, near.1, low))) in
    let top : max l x ≡ x = grind (arith, side) in
    is.2 beside ∙ ap (λ y. 1 + y) top

made_by : (t l r x w n0 n1 n2 n3 : ℕ) → t ≡ 1 + max l r → IsNear l r → x ≤ r → IsHeight l x w → n1 ≤ n0 + 3 * x + r → n2 ≤ n1 → n3 ≤ n2 + 3 * ((l - x) + (x - l)) + 1 → n3 ≤ n0 + 3 * w + t
made_by t l r x w n0 n1 n2 n3 e near low is one two three =
    let side : r < t = grind (arith, e) in
    elim (cases_lt x l) [
      | inl h ↦ let up : l ≤ w = grind (arith, is.0, h) in omega (arith, side, h, up, one, two, three)
      | inr h ↦ let up : w ≡ 1 + x = joined_near l r x w near low h is in omega (arith, side, h, near.1, low, up, one, two, three)
    ]

-- what is cut on the right of an item is no higher than the whole, and takes so many new nodes at most
pub ahead_height : (t l r x w lj xj : ℕ) → t ≡ 1 + max l r → lj ≡ l → xj ≡ x → x ≤ r → IsHeight lj xj w → w ≤ t
ahead_height t l r x w lj xj e el ex low is = grind (arith, e, el, ex, low, is.1)

pub ahead_made : (t l r x w lj xj n0 n1 n2 n3 : ℕ) → t ≡ 1 + max l r → IsNear l r → lj ≡ l → xj ≡ x → x ≤ r → IsHeight lj xj w → n1 ≤ n0 + 3 * x + r → n2 ≤ n1 → n3 ≤ n2 + 3 * ((lj - xj) + (xj - lj)) + 1 → n3 ≤ n0 + 3 * w + t
ahead_made t l r x w lj xj n0 n1 n2 n3 e near el ex low is one two three =
    made_by t lj r xj w n0 n1 n2 n3
    (subst (λ (y : ℕ). t ≡ 1 + max y r) (sym el) e) (subst (λ (y : ℕ). IsNear y r) (sym el) near) (omega (arith, ex, low)) is (omega (arith, ex, one)) two three

turn_height : (x l w : ℕ) → IsHeight x l w → IsHeight l x w
turn_height x l w is = ((grind (arith, is.0)), (grind (arith, is.1)), (λ near. is.2 (near.1, near.0) ∙ ap (λ y. 1 + y) (max_turn x l)))

-- and the same on the left
pub behind_height : (t l r x w xj rj : ℕ) → t ≡ 1 + max l r → rj ≡ r → xj ≡ x → x ≤ l → IsHeight xj rj w → w ≤ t
behind_height t l r x w xj rj e er ex low is = grind (arith, e, er, ex, low, is.1)

pub behind_made : (t l r x w xj rj n0 n1 n2 n3 : ℕ) → t ≡ 1 + max l r → IsNear l r → rj ≡ r → xj ≡ x → x ≤ l → IsHeight xj rj w → n1 ≤ n0 + 3 * x + l → n2 ≤ n1 → n3 ≤ n2 + 3 * ((xj - rj) + (rj - xj)) + 1 → n3 ≤ n0 + 3 * w + t
behind_made t l r x w xj rj n0 n1 n2 n3 e near er ex low is one two three =
    ahead_made t r l x w rj xj n0 n1 n2 n3 (e ∙ ap (λ y. 1 + y) (max_turn l r)) (near.1, near.0) er ex low (turn_height xj rj w is) one two (omega (arith, three))
