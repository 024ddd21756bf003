-- A level beside a higher one, over stores that follow one another.
use Rattle.std.proofs.Common.{◌≡◌, ◌<◌, ◌≤◌, ◌+◌, ◌-◌, ◌*◌, inl, inr, max, ℕ, List, [], ◌∷◌, Option, Some, arith, refl, ap, sym, ◌∙◌, subst}
use Rattle.std.proofs.lemmas.Bool.Decides.{eqb_tells}
use Rattle.slab.specs.Slab.{Slab}
use Rattle.rx_level.specs.declared.nodes.Node.{Node}
use Rattle.rx_level.specs.declared.trees.Item.{Item}
use Rattle.rx_tree.specs.Join.{join_level}
use Rattle.rx_tree.specs.Tree.Level.{item}
use Rattle.rx_level.specs.Tree.{IsNear, IsHeight}
use Rattle.rx_level.specs.Store.{leads, held_of}
use Rattle.rx_level.specs.Step.{Owns, Step, level_of, tall_of, between}
use Rattle.rx_level.proofs.Steps.{join_assoc}
use Rattle.rx_level.proofs.Turning.{Kept, kept_root, max_turn}

-- a level, and the side of a higher one that it goes into: heights
pub record Sunk (l near far f : ℕ) : Type 0 where
  pub low : l ≤ near + 1
  pub raise_low : far ≤ f + 1
  pub raise_high : f ≤ far + 2

pub sunk : (l h near far f : ℕ) → h ≡ 1 + max near far → IsNear near far → l + 1 < h → IsHeight l near f → Sunk l near far f
sunk l h near far f e sides less is =
    let low : l ≤ near = grind (arith, e, less, sides) in
    let top : max l near ≡ near = grind (arith, low) in
    record {
      low = omega (arith, low);
      raise_low = omega (arith, is.0, top, sides.1);
      raise_high = omega (arith, is.1, top, sides.0);
    }

pub sunk_low : (l h near far : ℕ) → h ≡ 1 + max near far → IsNear near far → l + 1 < h → l ≤ near + 1
sunk_low l h near far e sides less = grind (arith, e, less, sides)

sunk_within : (h near far f w : ℕ) → h ≡ 1 + max near far → IsNear near far → near ≤ f → f ≤ near + 1 → IsHeight f far w → (h ≤ w) × (w ≤ h + 1)
sunk_within h near far f w e sides low high whole = elim (eqb_tells f (far + 2)) [
  | inl d ↦
      let same : near ≡ far + 1 = omega (arith, d.1, high, sides.0) in
      let h_is : h ≡ f = grind (arith, e, same, d.1) in
      let top : max f far ≡ f = grind (arith, d.1) in
      ((omega (arith, h_is, top, whole.0)), (omega (arith, h_is, top, whole.1)))
  | inr d ↦
      let near_far : IsNear f far = ((omega (arith, d.1, high, sides.0)), (omega (arith, low, sides.1))) in
      let w_is : w ≡ 1 + max f far = whole.2 near_far in
      ((grind (arith, e, w_is, low)), (grind (arith, e, w_is, high)))
]

pub sunk_height : (l h near far f w : ℕ) → h ≡ 1 + max near far → IsNear near far → l + 1 < h → IsHeight l near f → IsHeight f far w → IsHeight l h w
sunk_height l h near far f w e sides less is whole =
    let low : l ≤ near = grind (arith, e, less, sides) in
    let top : max l near ≡ near = grind (arith, low) in
    let over : max l h ≡ h = grind (arith, less) in
    let f_low : near ≤ f = omega (arith, is.0, top) in
    let f_high : f ≤ near + 1 = omega (arith, is.1, top) in
    let within = sunk_within h near far f w e sides f_low f_high whole in
    ((omega (arith, within.0, over)), (omega (arith, within.1, over)), (λ n. absurd (omega (arith, less, n.1))))

pub turn_height : (l r h : ℕ) → IsHeight l r h → IsHeight r l h
turn_height l r h is =
    let turn : max r l ≡ max l r = max_turn r l in
    ((omega (arith, turn, is.0)), (omega (arith, turn, is.1)), (λ n. is.2 (n.1, n.0) ∙ ap (λ x. 1 + x) (sym turn)))

pub sunk_live : (l h near far a b c d : ℕ) → h ≡ 1 + max near far → l + 1 < h → b ≤ a → c ≤ b + 3 * (near - l) + 1 → d ≤ c + 3 → d ≤ a + 3 * (h - l) + 1
sunk_live l h near far a b c d e less one two three =
    let low : near < h = grind (arith, e) in
    omega (arith, low, less, one, two, three)

-- the links that stand beside a lower level that goes into a side of a higher one
pub record SunkBeside (a b d : Slab Node) (low' child' below' far' : Option ℕ) : Type 0 where
  pub low : Kept a b low'
  pub child : Kept a b child'
  pub below : Kept b d below'
  pub far : Kept b d far'

pub sunk_left_beside : (a b d : Slab Node) (left child high near below far front : Option ℕ) (key : ℕ)
    → high ≡ Some key → Owns a (child ∷ left ∷ high ∷ [])
    → Step a b (Some key ∷ []) (below ∷ near ∷ far ∷ [])
    → Step b d (child ∷ left ∷ near ∷ []) (front ∷ [])
    → SunkBeside a b d left child below far
sunk_left_beside a b d left child high near below far front key is owns one two =
    let key_leads : (m : ℕ) → leads m high ≡ leads m (Some key) = (λ m. ap (leads m) is) in
    record {
      low = kept_root a b _ _ one left (λ m. omega (arith, owns.owned m, key_leads m));
      child = kept_root a b _ _ one child (λ m. omega (arith, owns.owned m, key_leads m));
      below = kept_root b d _ _ two below (λ m. omega (arith, owns.owned m, key_leads m, one.held m));
      far = kept_root b d _ _ two far (λ m. omega (arith, owns.owned m, key_leads m, one.held m));
    }

pub sunk_right_beside : (a b d : Slab Node) (right child high near below far back : Option ℕ) (key : ℕ)
    → high ≡ Some key → Owns a (child ∷ high ∷ right ∷ [])
    → Step a b (Some key ∷ []) (below ∷ far ∷ near ∷ [])
    → Step b d (child ∷ near ∷ right ∷ []) (back ∷ [])
    → SunkBeside a b d right child below far
sunk_right_beside a b d right child high near below far back key is owns one two =
    let key_leads : (m : ℕ) → leads m high ≡ leads m (Some key) = (λ m. ap (leads m) is) in
    record {
      low = kept_root a b _ _ one right (λ m. omega (arith, owns.owned m, key_leads m));
      child = kept_root a b _ _ one child (λ m. omega (arith, owns.owned m, key_leads m));
      below = kept_root b d _ _ two below (λ m. omega (arith, owns.owned m, key_leads m, one.held m));
      far = kept_root b d _ _ two far (λ m. omega (arith, owns.owned m, key_leads m, one.held m));
    }

pub sunk_left : (a b d e : Slab Node) (left high near far front whole : Option ℕ) (key : ℕ) (i top : Item)
    → high ≡ Some key → SunkBeside a b d left i.child top.child far
    → level_of a (Some key) ≡ between b near top far
    → level_of d front ≡ between b left i near
    → level_of e whole ≡ between d front top far
    → level_of e whole ≡ between a left i high
sunk_left a b d e left high near far front whole key i top is k opened in_level level =
    let high_level : level_of a high ≡ between b near top far = ap (level_of a) is ∙ opened in
    level ∙ (rw (in_level, k.below.level, k.far.level) refl)
    ∙ join_assoc (level_of b left) (item i.span (level_of b i.child) (level_of b near)) (item top.span (level_of b top.child) (level_of b far))
    ∙ ap (λ x. join_level (level_of b left) (item i.span (level_of b i.child) x)) (sym high_level)
    ∙ (rw (k.low.level, k.child.level) refl)

pub sunk_right : (a b d e : Slab Node) (right high near far back whole : Option ℕ) (key : ℕ) (i top : Item)
    → high ≡ Some key → SunkBeside a b d right i.child top.child far
    → level_of a (Some key) ≡ between b far top near
    → level_of d back ≡ between b near i right
    → level_of e whole ≡ between d far top back
    → level_of e whole ≡ between a high i right
sunk_right a b d e right high near far back whole key i top is k opened in_level level =
    let high_level : level_of a high ≡ between b far top near = ap (level_of a) is ∙ opened in
    level ∙ (rw (in_level, k.below.level, k.far.level) refl)
    ∙ sym (join_assoc (level_of b far) (item top.span (level_of b top.child) (level_of b near)) (item i.span (level_of b i.child) (level_of b right)))
    ∙ ap (λ x. join_level x (item i.span (level_of b i.child) (level_of b right))) (sym high_level)
    ∙ (rw (k.low.level, k.child.level) refl)

-- what follows of heights and of the number of items
pub record SunkFacts (a b d : Slab Node) (low high near far front : Option ℕ) : Type 0 where
  pub raise_high : tall_of d front ≤ tall_of d far + 2
  pub height : (w : ℕ) → IsHeight (tall_of d front) (tall_of d far) w → IsHeight (tall_of a low) (tall_of a high) w
  pub live : (n0 n1 n2 n3 : ℕ) → n1 ≤ n0 → n2 ≤ n1 + 3 * (tall_of b near - tall_of b low) + 1 → n3 ≤ n2 + 3 → n3 ≤ n0 + 3 * (tall_of a high - tall_of a low) + 1

pub sunk_facts : (a b d : Slab Node) (low child high near below far front : Option ℕ) (key : ℕ)
    → high ≡ Some key → SunkBeside a b d low child below far
    → tall_of a (Some key) ≡ 1 + max (tall_of b near) (tall_of b far)
    → IsNear (tall_of b near) (tall_of b far)
    → tall_of a low + 1 < tall_of a (Some key)
    → IsHeight (tall_of b low) (tall_of b near) (tall_of d front)
    → SunkFacts a b d low high near far front
sunk_facts a b d low child high near below far front key is k e sides less height =
    let same : tall_of a high ≡ tall_of a (Some key) = ap (tall_of a) is in
    let over : tall_of a low + 1 < tall_of a high = omega (arith, same, less) in
    let front_is : IsHeight (tall_of a low) (tall_of b near) (tall_of d front) = subst (λ (x : ℕ). IsHeight x (tall_of b near) (tall_of d front)) k.low.tall height in
    let s = sunk (tall_of a low) (tall_of a high) (tall_of b near) (tall_of b far) (tall_of d front) (same ∙ e) sides over front_is in
    record {
      raise_high = omega (arith, s.raise_high, k.far.tall);
      height = λ w is_w. sunk_height (tall_of a low) (tall_of a high) (tall_of b near) (tall_of b far) (tall_of d front) w (same ∙ e) sides over front_is
          (subst (λ (x : ℕ). IsHeight (tall_of d front) x w) k.far.tall is_w);
      live = λ n0 n1 n2 n3 one two three. sunk_live (tall_of a low) (tall_of a high) (tall_of b near) (tall_of b far) n0 n1 n2 n3 (same ∙ e) over one
          (subst (λ (x : ℕ). n2 ≤ n1 + 3 * (tall_of b near - x) + 1) k.low.tall two) three;
    }

-- the same of items where a side can't be put together again
pub sunk_live_off : (a b : Slab Node) (low child high near far : Option ℕ) (key : ℕ)
    → high ≡ Some key
    → ((m : ℕ) → leads m low + leads m child + leads m high ≤ held_of a m)
    → {g : List (Option ℕ)} → Step a b (Some key ∷ []) g
    → tall_of a (Some key) ≡ 1 + max (tall_of b near) (tall_of b far)
    → tall_of a low + 1 < tall_of a (Some key)
    → (n0 n1 n2 n3 : ℕ) → n1 ≤ n0 → n2 ≤ n1 + 3 * (tall_of b near - tall_of b low) + 1 → n3 ≤ n2 → n3 ≤ n0 + 3 * (tall_of a high - tall_of a low) + 1
sunk_live_off a b low child high near far key is owned one e less n0 n1 n2 n3 first second third =
    let key_leads : (m : ℕ) → leads m high ≡ leads m (Some key) = (λ m. ap (leads m) is) in
    let same : tall_of a high ≡ tall_of a (Some key) = ap (tall_of a) is in
    let kept = kept_root a b _ _ one low (λ m. omega (arith, owned m, key_leads m)) in
    sunk_live (tall_of a low) (tall_of a high) (tall_of b near) (tall_of b far) n0 n1 n2 n3 (same ∙ e) (omega (arith, same, less)) first
    (subst (λ (x : ℕ). n2 ≤ n1 + 3 * (tall_of b near - x) + 1) kept.tall second) (omega (arith, third))

-- the first item is taken off the left side
pub first_level : (a b d e : Slab Node) (left right rest whole : Option ℕ) (key next : ℕ) (top first : Item)
    → left ≡ Some next
    → Owns a (Some key ∷ [])
    → Step a b (Some key ∷ []) (top.child ∷ left ∷ right ∷ [])
    → Step b d (Some next ∷ []) (first.child ∷ rest ∷ [])
    → Step d e (top.child ∷ rest ∷ right ∷ []) (whole ∷ [])
    → level_of a (Some key) ≡ between b left top right
    → level_of b (Some next) ≡ item first.span (level_of d first.child) (level_of d rest)
    → level_of e whole ≡ between d rest top right
    → level_of a (Some key) ≡ item first.span (level_of e first.child) (level_of e whole)
first_level a b d e left right rest whole key next top first is owns one two three opened taken level =
    let next_leads : (m : ℕ) → leads m left ≡ leads m (Some next) = (λ m. ap (leads m) is) in
    let below = kept_root b d _ _ two top.child (λ m. omega (arith, next_leads m, one.held m, owns.owned m)) in
    let after = kept_root b d _ _ two right (λ m. omega (arith, next_leads m, one.held m, owns.owned m)) in
    let child = kept_root d e _ _ three first.child (λ m. omega (arith, next_leads m, one.held m, two.held m, owns.owned m)) in
    let left_level : level_of b left ≡ item first.span (level_of d first.child) (level_of d rest) = ap (level_of b) is ∙ taken in
    let whole_level : level_of e whole ≡ join_level (level_of d rest) (item top.span (level_of b top.child) (level_of b right)) = level ∙ (rw (below.level, after.level) refl) in
    opened ∙ (rw (left_level, child.level, whole_level) refl)

pub first_low : (h near far f w : ℕ) → h ≡ 1 + max near far → f ≤ near → IsHeight f far w → w ≤ h
first_low h near far f w e low is = grind (arith, e, low, is.1)

pub first_high : (h near far f w : ℕ) → h ≡ 1 + max near far → IsNear near far → f ≤ near → near ≤ f + 1 → IsHeight f far w → h ≤ w + 1
first_high h near far f w e sides low high is = elim (eqb_tells near (far + 1)) [
  | inl d ↦
      let near_far : IsNear f far = ((omega (arith, d.1, low)), (omega (arith, d.1, high))) in
      let w_is : w ≡ 1 + max f far = is.2 near_far in
      grind (arith, e, d.1, w_is, high)
  | inr d ↦
      let side : near ≤ far = omega (arith, d.1, sides.0) in
      grind (arith, e, side, is.0)
]

-- the right side stands while the first item is taken off the left one
pub first_kept : (a b d : Slab Node) (child left right : Option ℕ) (key next : ℕ)
    → left ≡ Some next
    → Owns a (Some key ∷ [])
    → Step a b (Some key ∷ []) (child ∷ left ∷ right ∷ [])
    → {g : List (Option ℕ)} → Step b d (Some next ∷ []) g
    → tall_of d right ≡ tall_of b right
first_kept a b d child left right key next is owns one two =
    let next_leads : (m : ℕ) → leads m left ≡ leads m (Some next) = (λ m. ap (leads m) is) in
    (kept_root b d _ _ two right (λ m. omega (arith, next_leads m, one.held m, owns.owned m))).tall
