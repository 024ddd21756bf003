-- Items that are put together anew, over stores that follow one another.
use Rattle.std.proofs.Common.{◌≡◌, ◌<◌, ◌≤◌, ◌+◌, max, ℕ, List, [], ◌∷◌, Option, Some, arith, refl, ap, sym, ◌∙◌}
use Rattle.slab.specs.Slab.{Slab}
use Rattle.rx_value.specs.declared.order.Span.{Span}
use Rattle.rx_level.specs.declared.nodes.Node.{Node}
use Rattle.rx_level.specs.declared.trees.Item.{Item}
use Rattle.rx_tree.specs.Tree.{Level}
use Rattle.rx_tree.specs.Join.{join_level}
use Rattle.rx_tree.specs.Tree.Level.{item}
use Rattle.rx_level.specs.Tree.{plain, tall, IsNear, IsHeight}
use Rattle.rx_level.specs.Store.{leads, owed, held_of}
use Rattle.rx_level.specs.Step.{Owns, Step, level_of, tall_of, between}
use Rattle.rx_level.proofs.Steps.{keeps_root, join_assoc}

-- a link that a step keeps
pub record Kept (a b : Slab Node) (r : Option ℕ) : Type 0 where
  pub level : level_of b r ≡ level_of a r
  pub tall : tall_of b r ≡ tall_of a r

pub kept_root : (a b : Slab Node) (s g : List (Option ℕ)) → Step a b s g → (r : Option ℕ) → ((m : ℕ) → owed m s + leads m r ≤ held_of a m) → Kept a b r
kept_root a b s g step r room = let e = keeps_root a b s g step r room in record { level = ap plain e; tall = ap tall e }

-- the first item under the second
pub leaned_left : (a b d : Slab Node) (left middle right inner whole : Option ℕ) (first second : Item)
    → Owns a (left ∷ first.child ∷ middle ∷ second.child ∷ right ∷ [])
    → Step a b (first.child ∷ left ∷ middle ∷ []) (inner ∷ [])
    → level_of b inner ≡ between a left first middle
    → level_of d whole ≡ between b inner second right
    → level_of d whole ≡ (join_level (level_of a left) (item first.span (level_of a first.child) (between a middle second right)))
leaned_left a b d left middle right inner whole first second owns one in_level level =
    let child = kept_root a b _ _ one second.child (λ m. omega (arith, owns.owned m)) in
    let last = kept_root a b _ _ one right (λ m. omega (arith, owns.owned m)) in
    level ∙ (rw (in_level, child.level, last.level) refl)
    ∙ join_assoc (level_of a left) (item first.span (level_of a first.child) (level_of a middle)) (item second.span (level_of a second.child) (level_of a right))

-- the second item under the first
pub leaned_right : (a b d : Slab Node) (left middle right inner whole : Option ℕ) (first second : Item)
    → Owns a (left ∷ first.child ∷ middle ∷ second.child ∷ right ∷ [])
    → Step a b (second.child ∷ middle ∷ right ∷ []) (inner ∷ [])
    → level_of b inner ≡ between a middle second right
    → level_of d whole ≡ between b left first inner
    → level_of d whole ≡ (join_level (level_of a left) (item first.span (level_of a first.child) (between a middle second right)))
leaned_right a b d left middle right inner whole first second owns one in_level level =
    let child = kept_root a b _ _ one first.child (λ m. omega (arith, owns.owned m)) in
    let before = kept_root a b _ _ one left (λ m. omega (arith, owns.owned m)) in
    level ∙ (rw (in_level, child.level, before.level) refl)

-- the first and the third item under the second
pub leaned_both : (a b d : Slab Node) (left sl sr right front whole : Option ℕ) (first second third : Item)
    → Owns a (left ∷ first.child ∷ second.child ∷ sl ∷ sr ∷ third.child ∷ right ∷ [])
    → Step a b (first.child ∷ left ∷ sl ∷ []) (front ∷ [])
    → level_of b front ≡ between a left first sl
    → level_of d whole ≡ join_level (level_of b front) (item second.span (level_of b second.child) (between b sr third right))
    → level_of d whole ≡ join_level (level_of a left) (item first.span (level_of a first.child) (join_level (between a sl second sr) (item third.span (level_of a third.child) (level_of a right))))
leaned_both a b d left sl sr right front whole first second third owns one in_level level =
    let child2 = kept_root a b _ _ one second.child (λ m. omega (arith, owns.owned m)) in
    let child3 = kept_root a b _ _ one third.child (λ m. omega (arith, owns.owned m)) in
    let middle = kept_root a b _ _ one sr (λ m. omega (arith, owns.owned m)) in
    let last = kept_root a b _ _ one right (λ m. omega (arith, owns.owned m)) in
    level ∙ (rw (in_level, child2.level, child3.level, middle.level, last.level) refl)
    ∙ join_assoc (level_of a left) (item first.span (level_of a first.child) (level_of a sl)) (item second.span (level_of a second.child) (between a sr third right))
    ∙ ap (λ x. join_level (level_of a left) (item first.span (level_of a first.child) x))
    (sym (join_assoc (level_of a sl) (item second.span (level_of a second.child) (level_of a sr)) (item third.span (level_of a third.child) (level_of a right))))

-- a level that is taken apart and put together anew, after an item
pub turned_after : (a b d : Slab Node) (left child high whole : Option ℕ) (key : ℕ) (span : Span) (g : List (Option ℕ)) (x : Level)
    → high ≡ Some key
    → Owns a (child ∷ left ∷ high ∷ [])
    → Step a b (Some key ∷ []) g
    → level_of a (Some key) ≡ x
    → level_of d whole ≡ join_level (level_of b left) (item span (level_of b child) x)
    → level_of d whole ≡ join_level (level_of a left) (item span (level_of a child) (level_of a high))
turned_after a b d left child high whole key span g x is owns one opened level =
    let key_leads : (m : ℕ) → leads m high ≡ leads m (Some key) = (λ m. ap (leads m) is) in
    let before = kept_root a b _ _ one left (λ m. omega (arith, owns.owned m, key_leads m)) in
    let below = kept_root a b _ _ one child (λ m. omega (arith, owns.owned m, key_leads m)) in
    let high_level : level_of a high ≡ x = ap (level_of a) is ∙ opened in
    level ∙ (rw (before.level, below.level, high_level) refl)

-- the same before an item
pub turned_before : (a b d : Slab Node) (right child high whole : Option ℕ) (key : ℕ) (span : Span) (g : List (Option ℕ)) (x : Level)
    → high ≡ Some key
    → Owns a (child ∷ high ∷ right ∷ [])
    → Step a b (Some key ∷ []) g
    → level_of a (Some key) ≡ x
    → level_of d whole ≡ join_level x (item span (level_of b child) (level_of b right))
    → level_of d whole ≡ join_level (level_of a high) (item span (level_of a child) (level_of a right))
turned_before a b d right child high whole key span g x is owns one opened level =
    let key_leads : (m : ℕ) → leads m high ≡ leads m (Some key) = (λ m. ap (leads m) is) in
    let after = kept_root a b _ _ one right (λ m. omega (arith, owns.owned m, key_leads m)) in
    let below = kept_root a b _ _ one child (λ m. omega (arith, owns.owned m, key_leads m)) in
    let high_level : level_of a high ≡ x = ap (level_of a) is ∙ opened in
    level ∙ (rw (after.level, below.level, high_level) refl)

-- the links that stand beside a level that is taken apart
pub record Beside (a b : Slab Node) (low' child' below' other' : Option ℕ) : Type 0 where
  pub low : Kept a b low'
  pub child : Kept a b child'
  pub below : Kept a b below'
  pub other : Kept a b other'

pub beside : (a b : Slab Node) (low child below high other : Option ℕ) (key : ℕ) (g : List (Option ℕ))
    → high ≡ Some key → Step a b (Some key ∷ []) g
    → ((m : ℕ) → leads m low + leads m child + leads m below + leads m high + leads m other ≤ held_of a m)
    → Beside a b low child below other
beside a b low child below high other key g is one owned =
    let key_leads : (m : ℕ) → leads m high ≡ leads m (Some key) = (λ m. ap (leads m) is) in
    record {
      low = kept_root a b _ _ one low (λ m. omega (arith, owned m, key_leads m));
      child = kept_root a b _ _ one child (λ m. omega (arith, owned m, key_leads m));
      below = kept_root a b _ _ one below (λ m. omega (arith, owned m, key_leads m));
      other = kept_root a b _ _ one other (λ m. omega (arith, owned m, key_leads m));
    }

-- an item before a level whose left side is taken apart
pub turned_left : (a b d : Slab Node) (left right high whole : Option ℕ) (key : ℕ) (first third : Item) (x : Level)
    → high ≡ Some key → Beside a b left first.child third.child right
    → level_of a (Some key) ≡ x
    → level_of d whole ≡ join_level (level_of b left) (item first.span (level_of b first.child) (join_level x (item third.span (level_of b third.child) (level_of b right))))
    → level_of d whole ≡ join_level (level_of a left) (item first.span (level_of a first.child) (between a high third right))
turned_left a b d left right high whole key first third x is k opened level =
    let high_level : level_of a high ≡ x = ap (level_of a) is ∙ opened in
    level ∙ (rw (k.low.level, k.child.level, k.below.level, k.other.level, high_level) refl)

-- an item after a level whose right side is taken apart
pub turned_right : (a b d : Slab Node) (left right high whole : Option ℕ) (key : ℕ) (first third : Item) (x : Level)
    → high ≡ Some key → Beside a b right third.child first.child left
    → level_of a (Some key) ≡ x
    → level_of d whole ≡ join_level (level_of b left) (item first.span (level_of b first.child) (join_level x (item third.span (level_of b third.child) (level_of b right))))
    → level_of d whole ≡ join_level (between a left first high) (item third.span (level_of a third.child) (level_of a right))
turned_right a b d left right high whole key first third x is k opened level =
    let high_level : level_of a high ≡ x = ap (level_of a) is ∙ opened in
    level ∙ (rw (k.low.level, k.child.level, k.below.level, k.other.level, high_level) refl)
    ∙ sym (join_assoc (level_of a left) (item first.span (level_of a first.child) (level_of a high)) (item third.span (level_of a third.child) (level_of a right)))

-- heights

pub outer_near : (l sl sr r f mb rb : ℕ) → f ≡ 1 + max l sl → mb ≡ sr → rb ≡ r → IsNear (max l sl) (max sr r) → IsNear f (1 + max mb rb)
outer_near l sl sr r f mb rb ef em er near = rw (ef, em, er) ((omega (arith, near.0)), (omega (arith, near.1)))

max_up : (x y : ℕ) → 1 + max (1 + x) (1 + y) ≡ 2 + max x y
max_up x y = grind arith

pub both_tall : (l sl sr r f mb rb w : ℕ) → w ≡ 1 + max f (1 + max mb rb) → f ≡ 1 + max l sl → mb ≡ sr → rb ≡ r → w ≡ 2 + max (max l sl) (max sr r)
both_tall l sl sr r f mb rb w e ef em er = e ∙ (rw (ef, em, er) (max_up (max l sl) (max sr r)))

-- a side that is one higher than the other, and two than what stands beside both
pub record TurnedNear (h o near far : ℕ) : Type 0 where
  pub low : IsNear h near
  pub other : IsNear far o
  pub outer : IsNear (max h near) (max far o)
  pub whole : 2 + max (max h near) (max far o) ≡ h + 2

pub turned_near : (h t o near far : ℕ) → max t o ≡ h + 1 → o < t → IsNear t o → t ≡ 1 + max near far → IsNear near far → TurnedNear h o near far
turned_near h t o near far top less sides parts close =
    let high : t ≡ h + 1 = grind (arith, top, less) in
    let same : o ≡ h = omega (arith, high, less, sides.0) in
    let inner : max near far ≡ h = omega (arith, high, parts) in
    record {
      low = ((grind (arith, inner, close)), (grind (arith, inner, close)));
      other = ((grind (arith, inner, close, same)), (grind (arith, inner, close, same)));
      outer = ((grind (arith, inner, close, same)), (grind (arith, inner, close, same)));
      whole = grind (arith, inner, close, same);
    }

pub raised_height : (l r w : ℕ) → r ≡ l + 2 → l + 2 ≤ w → w ≤ l + 3 → IsHeight l r w × IsHeight r l w
raised_height l r w e low high =
    (((grind (arith, e, low)), (grind (arith, e, high)), (λ n. absurd (omega (arith, e, n.1)))), ((grind (arith, e, low)), (grind (arith, e, high)), (λ n. absurd (omega (arith, e, n.0)))))

pub max_turn : (x y : ℕ) → max x y ≡ max y x
max_turn x y = grind arith

pub outer_turn : (h near far o : ℕ) → IsNear (max h near) (max far o) → IsNear (max o far) (max near h)
outer_turn h near far o n = rw (max_turn o far, max_turn near h) (n.1, n.0)

pub whole_turn : (o far near h : ℕ) → 2 + max (max o far) (max near h) ≡ 2 + max (max h near) (max far o)
whole_turn o far near h = rw (max_turn o far, max_turn near h, max_turn (max far o) (max h near)) refl

-- equal links lead to the same node
pub led_alike : (m : ℕ) (r q : Option ℕ) → r ≡ q → leads m r ≡ leads m q
led_alike m r q e = ap (leads m) e

pub turned_high : (h hb o ob near far w : ℕ) → w ≡ 2 + max (max hb near) (max far ob) → hb ≡ h → ob ≡ o → 2 + max (max h near) (max far o) ≡ h + 2 → w ≤ h + 3
turned_high h hb o ob near far w e eh eo whole =
    let same : w ≡ 2 + max (max h near) (max far o) = e ∙ (rw (eh, eo) refl) in
    omega (arith, same, whole)

pub laid_assoc : (a d : Slab Node) (left middle right whole : Option ℕ) (first second : Item)
    → level_of d whole ≡ join_level (level_of a left) (item first.span (level_of a first.child) (between a middle second right))
    → level_of d whole ≡ join_level (between a left first middle) (item second.span (level_of a second.child) (level_of a right))
laid_assoc a d left middle right whole first second level =
    level ∙ sym (join_assoc (level_of a left) (item first.span (level_of a first.child) (level_of a middle)) (item second.span (level_of a second.child) (level_of a right)))
