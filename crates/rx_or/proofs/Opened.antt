-- A level that is taken apart at its topmost item and cut, over stores that follow one another.
use Rattle.std.proofs.Common.{◌≡◌, inl, inr, ◌<◌, ◌≤◌, ◌+◌, ◌-◌, ◌*◌, max, ℕ, List, [], ◌∷◌, Option, Some, None, IsSome, arith, refl, ap, sym, ◌∙◌, subst}
use Rattle.std.proofs.lemmas.Bool.{cases_lt}
use Rattle.slab.specs.Slab.{Slab, get}
use Rattle.rx_value.specs.declared.order.End.{End}
use Rattle.rx_value.specs.declared.order.Span.{Span}
use Rattle.rx_value.specs.Spans.{IsAtMost, IsBelow}
use Rattle.rx_tree.specs.Tree.{Level}
use Rattle.rx_tree.specs.Tree.Level.{end, item}
use Rattle.rx_tree.specs.Weld.{weld, glue}
use Rattle.rx_level.specs.declared.nodes.Node.{Node}
use Rattle.rx_level.specs.declared.trees.Item.{Item}
use Rattle.rx_tree.specs.Join.{join_level}
use Rattle.rx_level.specs.Tree.{IsNear, IsHeight}
use Rattle.rx_level.specs.Store.{IsSound, held_of, leads, owed, body_in}
use Rattle.rx_level.specs.Step.{Owns, Step, level_of, tall_of, between}
use Rattle.rx_level.proofs.Steps.{held_there, level_of-parts}
use Rattle.rx_level.proofs.Turning.{Kept, kept_root, max_turn}
use Rattle.rx_tree.specs.Cuts.{before, after, AreInOrder}
use Rattle.rx_or.specs.Cover.{covered, IsCutBefore, IsCutAfter}
use Rattle.rx_tree.proofs.Order.{till, left_order, right_order}
use Rattle.rx_or.proofs.Reaching.{apart_before, beyond_before, joined_before, across_before, apart_after, beyond_after, joined_after, across_after}

not_end : (a : Level) (s : Span) (c r : Level) → join_level a (item s c r) ≡ end → ⊥
not_end end s c r e = absurd (cc e)
not_end (item t d a) s c r e = absurd (cc e)

node_level : (s : Slab Node) → IsSound s [] → (k : ℕ) (o : Option Node) → get s k ≡ o → IsSome o → level_of s (Some k) ≡ end → ⊥
node_level s sound k None is there e = absurd (cc there)
node_level s sound k (Some v) is there e =
    not_end (level_of s v.left) v.span (level_of s v.child) (level_of s v.right)
    (sym (level_of-parts s sound k (record { span = v.span; child = v.child; left = v.left; right = v.right }) (ap body_in is)) ∙ e)

-- a link that leads somewhere leads to items
pub some_level : (s : Slab Node) → IsSound s [] → (r : Option ℕ) → ((m : ℕ) → leads m r ≤ held_of s m) → (r ≡ None → ⊥) → level_of s r ≡ end → ⊥
some_level s sound None held some = λ e. some refl
some_level s sound (Some k) held some = node_level s sound k (get s k) refl (held_there s (Some k) held)

-- a link that leads nowhere leads to no items
pub none_level : (s : Slab Node) (r : Option ℕ) → r ≡ None → level_of s r ≡ end
none_level s r is = ap (level_of s) is

-- what taking apart gives
pub record IsOpened (a b : Slab Node) (root left right : Option ℕ) (top : Item) : Type 0 where
  pub held : (m : ℕ) → leads m top.child + leads m left + leads m right ≤ held_of b m
  pub sound : IsSound b []
  pub level : level_of a root ≡ between b left top right
  pub height : tall_of a root ≡ 1 + max (tall_of b left) (tall_of b right)
  pub near : IsNear (tall_of b left) (tall_of b right)
  pub order : AreInOrder (between b left top right)

pub opened : (a b : Slab Node) (root left right : Option ℕ) (top : Item) (key : ℕ) → root ≡ Some key → Owns a (root ∷ []) → Step a b (Some key ∷ []) (top.child ∷ left ∷ right ∷ [])
    → level_of a (Some key) ≡ between b left top right → tall_of a (Some key) ≡ 1 + max (tall_of b left) (tall_of b right) → IsNear (tall_of b left) (tall_of b right) → AreInOrder (level_of a root)
    → IsOpened a b root left right top
opened a b root left right top key is owns step level height near order =
    let key_leads : (m : ℕ) → leads m root ≡ leads m (Some key) = (λ m. ap (leads m) is) in
    let all : level_of a root ≡ between b left top right = ap (level_of a) is ∙ level in
    record {
      held = λ m. omega (arith, step.held m, owns.owned m, key_leads m);
      sound = step.sound;
      level = all;
      height = ap (tall_of a) is ∙ height;
      near = near;
      order = subst AreInOrder all order;
    }

-- what stays while one of the links is spent
pub stays_open : (a b d : Slab Node) (root left right : Option ℕ) (top : Item) (spent g : List (Option ℕ)) (r : Option ℕ) → IsOpened a b root left right top → Step b d spent g
    → ((m : ℕ) → owed m spent + leads m r ≤ leads m top.child + leads m left + leads m right) → Kept b d r
stays_open a b d root left right top spent g r o step fits = kept_root b d spent g step r (λ m. omega (arith, o.held m, fits m))

-- what stays while two of the links are spent one after the other
pub stays_twice : (a b d f : Slab Node) (root left right : Option ℕ) (top : Item) (x y r : Option ℕ) → IsOpened a b root left right top → Step b d (x ∷ []) [] → Step d f (y ∷ []) []
    → ((m : ℕ) → leads m x + leads m y + leads m r ≤ leads m top.child + leads m left + leads m right) → Kept b f r
stays_twice a b d f root left right top x y r o one two fits =
    let first = kept_root b d (x ∷ []) [] one r (λ m. omega (arith, o.held m, fits m)) in
    let second = kept_root d f (y ∷ []) [] two r (λ m. omega (arith, one.held m, o.held m, fits m)) in
    record { level = second.level ∙ first.level; tall = second.tall ∙ first.tall }

-- heights seen from the right
pub turned_height : (a b : Slab Node) (root left right : Option ℕ) (top : Item) → IsOpened a b root left right top → (tall_of a root ≡ 1 + max (tall_of b right) (tall_of b left)) × IsNear (tall_of b right) (tall_of b left)
turned_height a b root left right top o = ((o.height ∙ ap (λ x. 1 + x) (max_turn (tall_of b left) (tall_of b right))), (o.near.1, o.near.0))

pub turned_live : (x l n m : ℕ) → m ≤ n + 3 * ((x - l) + (l - x)) + 1 → m ≤ n + 3 * ((l - x) + (x - l)) + 1
turned_live x l n m e = omega (arith, e)

pub owns_side : (a b : Slab Node) (root left right : Option ℕ) (top : Item) (r : Option ℕ) → IsOpened a b root left right top → ((m : ℕ) → leads m r ≤ leads m top.child + leads m left + leads m right) → Owns b (r ∷ [])
owns_side a b root left right top r o fits = record { sound = o.sound; owned = λ m. omega (arith, o.held m, fits m) }

pub owns_twice : (a b d f : Slab Node) (root left right : Option ℕ) (top : Item) (x y r : Option ℕ) → IsOpened a b root left right top → Step b d (x ∷ []) [] → Step d f (y ∷ []) []
    → ((m : ℕ) → leads m x + leads m y + leads m r ≤ leads m top.child + leads m left + leads m right) → Owns f (r ∷ [])
owns_twice a b d f root left right top x y r o one two fits = record { sound = two.sound; owned = λ m. omega (arith, one.held m, two.held m, o.held m, fits m) }

pub lower_left : (t l r : ℕ) → t ≡ 1 + max l r → l < t
lower_left t l r e = grind (arith, e)

pub lower_right : (t l r : ℕ) → t ≡ 1 + max l r → r < t
lower_right t l r e = grind (arith, e)

pub order_left : (b : Slab Node) (left right : Option ℕ) (top : Item) → AreInOrder (between b left top right) → AreInOrder (level_of b left)
order_left b left right top order = left_order (level_of b left) (item top.span (level_of b top.child) (level_of b right)) order

pub order_right : (b : Slab Node) (left right : Option ℕ) (top : Item) → AreInOrder (between b left top right) → AreInOrder (level_of b right)
order_right b left right top order = (right_order (level_of b left) top.span (level_of b top.child) (level_of b right) order).3

-- an item stays before the edge
pub apart_level_before : (a b d f : Slab Node) (root left right rest whole : Option ℕ) (top : Item) (e lo : End) (g : List (Option ℕ)) → IsOpened a b root left right top → Step b d (right ∷ []) g
    → IsAtMost top.span.hi e × (top.span.hi ≡ e → top.child ≡ None → ⊥)
    → IsCutBefore e (level_of b right) (level_of d rest) lo → level_of f whole ≡ between d left top rest → IsCutBefore e (level_of a root) (level_of f whole) lo
apart_level_before a b d f root left right rest whole top e lo g o step place cut joined =
    let l = stays_open a b d root left right top (right ∷ []) g left o step (λ m. omega arith) in
    let c = stays_open a b d root left right top (right ∷ []) g top.child o step (λ m. omega arith) in
    let all : level_of f whole ≡ join_level (level_of b left) (item top.span (level_of b top.child) (level_of d rest)) = joined ∙ (rw (l.level, c.level) refl) in
    subst (λ (x : Level). IsCutBefore e x (level_of f whole) lo) (sym o.level)
    (subst (λ (x : Level). IsCutBefore e (between b left top right) x lo) (sym all)
    (apart_before e (level_of b left) top.span (level_of b top.child) (level_of b right) (level_of d rest) lo o.order place.0
    (λ touch. λ none. some_level b o.sound top.child (λ m. omega (arith, o.held m)) (place.1 touch) none) cut))

-- an item is behind the edge
pub beyond_level_before : (a b d f : Slab Node) (root left right rest : Option ℕ) (top : Item) (e lo : End) → IsOpened a b root left right top → Kept b d left → IsAtMost e top.span.lo
    → IsCutBefore e (level_of d left) (level_of f rest) lo → IsCutBefore e (level_of a root) (level_of f rest) lo
beyond_level_before a b d f root left right rest top e lo o k place cut =
    subst (λ (x : Level). IsCutBefore e x (level_of f rest) lo) (sym o.level)
    (beyond_before e (level_of b left) top.span (level_of b top.child) (level_of b right) (level_of f rest) lo o.order place
    (subst (λ (x : Level). IsCutBefore e x (level_of f rest) lo) k.level cut))

-- an item is taken in
pub joined_level_before : (a b d : Slab Node) (root left right : Option ℕ) (top : Item) (e : End) → IsOpened a b root left right top → Kept b d left
    → IsBelow top.span.lo e × IsAtMost e top.span.hi × (top.child ≡ None) → IsCutBefore e (level_of a root) (level_of d left) top.span.lo
joined_level_before a b d root left right top e o k place =
    subst (λ (x : Level). IsCutBefore e x (level_of d left) top.span.lo) (sym o.level)
    (subst (λ (x : Level). IsCutBefore e (between b left top right) x top.span.lo) (sym k.level)
    (joined_before e (level_of b left) top.span (level_of b top.child) (level_of b right) o.order place.0 place.1 (none_level b top.child place.2)))

-- an item is cut
pub across_level_before : (a b d f : Slab Node) (root left right rest : Option ℕ) (top : Item) (e lo : End) → IsOpened a b root left right top → Step b d (right ∷ []) []
    → IsBelow top.span.lo e × IsBelow e top.span.hi × (top.child ≡ None → ⊥)
    → level_of f rest ≡ join_level (level_of d left) (item (record { lo = top.span.lo; hi = e }) (level_of d top.child) end) → lo ≡ e → IsCutBefore e (level_of a root) (level_of f rest) lo
across_level_before a b d f root left right rest top e lo o step place made is =
    let l = stays_open a b d root left right top (right ∷ []) [] left o step (λ m. omega arith) in
    let c = stays_open a b d root left right top (right ∷ []) [] top.child o step (λ m. omega arith) in
    let all : level_of f rest ≡ join_level (level_of b left) (item (till top.span e) (level_of b top.child) end) = made ∙ (rw (l.level, c.level) refl) in
    subst (λ (x : Level). IsCutBefore e x (level_of f rest) lo) (sym o.level)
    (subst (λ (x : Level). IsCutBefore e (between b left top right) x lo) (sym all)
    (subst (λ (x : End). IsCutBefore e (between b left top right) (join_level (level_of b left) (item (till top.span e) (level_of b top.child) end)) x) (sym is)
    (across_before e (level_of b left) top.span (level_of b top.child) (level_of b right) o.order place.0 place.1
    (some_level b o.sound top.child (λ m. omega (arith, o.held m)) place.2))))

-- heights and the number of items where a side is cut and joined again
pub joined_height : (t l r x w : ℕ) → t ≡ 1 + max l r → x ≤ r → IsHeight l x w → w ≤ t
joined_height t l r x w e low is = grind (arith, e, low, is.1)

pub joined_live : (t l r x n0 n1 n2 n3 : ℕ) → t ≡ 1 + max l r → IsNear l r → x ≤ r → n1 ≤ n0 → n2 ≤ n1 + 3 * x + r → n3 ≤ n2 + 3 * ((l - x) + (x - l)) + 1 → n3 ≤ n0 + 4 * t
joined_live t l r x n0 n1 n2 n3 e near low one two three = grind (arith, e, near, low, one, two, three)

joined_near : (l r x w : ℕ) → IsNear l r → x ≤ r → l ≤ x → IsHeight l x w → w ≡ 1 + x
joined_near l r x w near low side is =
    let beside : IsNear l x = ((omega (arith, side)), (omega (arith, near.1, low))) in
    let top : max l x ≡ x = grind (arith, side) in
    is.2 beside ∙ ap (λ y. 1 + y) top

pub joined_made : (t l r x w n0 n1 n2 n3 : ℕ) → t ≡ 1 + max l r → IsNear l r → x ≤ r → IsHeight l x w → n1 ≤ n0 → n2 ≤ n1 + 3 * x + r → n3 ≤ n2 + 3 * ((l - x) + (x - l)) + 1 → n3 ≤ n0 + 3 * w + t
joined_made t l r x w n0 n1 n2 n3 e near low is one two three =
    let side : r < t = grind (arith, e) in
    elim (cases_lt x l) [
      | inl h ↦ let up : l ≤ w = grind (arith, is.0, h) in omega (arith, side, h, up, one, two, three)
      | inr h ↦ let up : w ≡ 1 + x = joined_near l r x w near low h is in omega (arith, side, h, near.1, low, up, one, two, three)
    ]

-- an item stays behind the edge
pub apart_level_after : (a b d f : Slab Node) (root left right rest whole : Option ℕ) (top : Item) (e hi : End) (g : List (Option ℕ)) → IsOpened a b root left right top → Step b d (left ∷ []) g
    → IsAtMost e top.span.lo × (e ≡ top.span.lo → top.child ≡ None → ⊥)
    → IsCutAfter e (level_of b left) (level_of d rest) hi → level_of f whole ≡ between d rest top right → IsCutAfter e (level_of a root) (level_of f whole) hi
apart_level_after a b d f root left right rest whole top e hi g o step place cut joined =
    let r = stays_open a b d root left right top (left ∷ []) g right o step (λ m. omega arith) in
    let c = stays_open a b d root left right top (left ∷ []) g top.child o step (λ m. omega arith) in
    let all : level_of f whole ≡ join_level (level_of d rest) (item top.span (level_of b top.child) (level_of b right)) = joined ∙ (rw (r.level, c.level) refl) in
    subst (λ (x : Level). IsCutAfter e x (level_of f whole) hi) (sym o.level)
    (subst (λ (x : Level). IsCutAfter e (between b left top right) x hi) (sym all)
    (apart_after e (level_of b left) top.span (level_of b top.child) (level_of b right) (level_of d rest) hi o.order place.0
    (λ touch. λ none. some_level b o.sound top.child (λ m. omega (arith, o.held m)) (place.1 touch) none) cut))

-- an item is before the edge
pub beyond_level_after : (a b d f : Slab Node) (root left right rest : Option ℕ) (top : Item) (e hi : End) → IsOpened a b root left right top → Kept b d right → IsAtMost top.span.hi e
    → IsCutAfter e (level_of d right) (level_of f rest) hi → IsCutAfter e (level_of a root) (level_of f rest) hi
beyond_level_after a b d f root left right rest top e hi o k place cut =
    subst (λ (x : Level). IsCutAfter e x (level_of f rest) hi) (sym o.level)
    (beyond_after e (level_of b left) top.span (level_of b top.child) (level_of b right) (level_of f rest) hi o.order place
    (subst (λ (x : Level). IsCutAfter e x (level_of f rest) hi) k.level cut))

-- an item is taken in
pub joined_level_after : (a b d : Slab Node) (root left right : Option ℕ) (top : Item) (e : End) → IsOpened a b root left right top → Kept b d right
    → IsAtMost top.span.lo e × IsBelow e top.span.hi × (top.child ≡ None) → IsCutAfter e (level_of a root) (level_of d right) top.span.hi
joined_level_after a b d root left right top e o k place =
    subst (λ (x : Level). IsCutAfter e x (level_of d right) top.span.hi) (sym o.level)
    (subst (λ (x : Level). IsCutAfter e (between b left top right) x top.span.hi) (sym k.level)
    (joined_after e (level_of b left) top.span (level_of b top.child) (level_of b right) o.order place.0 place.1 (none_level b top.child place.2)))

-- an item is cut
pub across_level_after : (a b d f : Slab Node) (root left right rest : Option ℕ) (top : Item) (e hi : End) → IsOpened a b root left right top → Step b d (left ∷ []) []
    → IsBelow top.span.lo e × IsBelow e top.span.hi × (top.child ≡ None → ⊥)
    → level_of f rest ≡ item (record { lo = e; hi = top.span.hi }) (level_of d top.child) (level_of d right) → hi ≡ e → IsCutAfter e (level_of a root) (level_of f rest) hi
across_level_after a b d f root left right rest top e hi o step place made is =
    let r = stays_open a b d root left right top (left ∷ []) [] right o step (λ m. omega arith) in
    let c = stays_open a b d root left right top (left ∷ []) [] top.child o step (λ m. omega arith) in
    let part : Span = record { lo = e; hi = top.span.hi } in
    let all : level_of f rest ≡ item part (level_of b top.child) (level_of b right) = made ∙ (rw (r.level, c.level) refl) in
    subst (λ (x : Level). IsCutAfter e x (level_of f rest) hi) (sym o.level)
    (subst (λ (x : Level). IsCutAfter e (between b left top right) x hi) (sym all)
    (subst (λ (x : End). IsCutAfter e (between b left top right) (item part (level_of b top.child) (level_of b right)) x) (sym is)
    (across_after e (level_of b left) top.span (level_of b top.child) (level_of b right) o.order place.0 place.1
    (some_level b o.sound top.child (λ m. omega (arith, o.held m)) place.2))))

-- both sides of a level are cut, and the span put between
pub covered_level : (a b d f g : Slab Node) (root front back whole : Option ℕ) (lo hi from to : End) → Owns a (root ∷ []) → Step a b [] (root ∷ []) → Step b d (root ∷ []) (front ∷ []) → Step d f (root ∷ []) (back ∷ [])
    → IsCutBefore lo (level_of b root) (level_of d front) from → IsCutAfter hi (level_of d root) (level_of f back) to
    → level_of g whole ≡ join_level (level_of f front) (item (record { lo = from; hi = to }) end (level_of f back))
    → level_of g whole ≡ covered (record { lo = lo; hi = hi }) (level_of a root)
covered_level a b d f g root front back whole lo hi from to owns one two three first second joined =
    let ab = kept_root a b [] (root ∷ []) one root (λ m. omega (arith, owns.owned m)) in
    let bd = kept_root b d (root ∷ []) (front ∷ []) two root (λ m. omega (arith, owns.owned m, one.held m)) in
    let df = kept_root d f (root ∷ []) (back ∷ []) three front (λ m. omega (arith, owns.owned m, one.held m, two.held m)) in
    joined
    ∙ ap (λ x. join_level x (item (record { lo = from; hi = to }) end (level_of f back))) df.level
    ∙ ap (join_level (level_of d front)) (sym (second.joins from))
    ∙ sym (first.joins hi (after hi (level_of d root)))
    ∙ ap (λ x. glue (before lo (level_of b root)) (weld (record { lo = lo; hi = hi }) end (after hi x))) bd.level
    ∙ ap (covered (record { lo = lo; hi = hi })) ab.level

pub covered_front : (a b d f : Slab Node) (root front : Option ℕ) → Owns a (root ∷ []) → Step a b [] (root ∷ []) → Step b d (root ∷ []) (front ∷ []) → {g : List (Option ℕ)} → Step d f (root ∷ []) g → Kept d f front
covered_front a b d f root front owns one two three = kept_root d f (root ∷ []) _ three front (λ m. omega (arith, owns.owned m, one.held m, two.held m))

pub covered_height : (a b d : Slab Node) (root front : Option ℕ) → Owns a (root ∷ []) → Step a b [] (root ∷ []) → {g : List (Option ℕ)} → Step b d (root ∷ []) g → (tall_of b root ≡ tall_of a root) × (tall_of d root ≡ tall_of a root)
covered_height a b d root front owns one two =
    let ab = kept_root a b [] (root ∷ []) one root (λ m. omega (arith, owns.owned m)) in
    let bd = kept_root b d (root ∷ []) _ two root (λ m. omega (arith, owns.owned m, one.held m)) in
    (ab.tall, bd.tall ∙ ab.tall)

pub covered_live : (h x y n0 n1 n2 n3 n4 : ℕ) → x ≤ h → y ≤ h → n1 ≤ n0 → n2 ≤ n1 + 3 * x + h → n3 ≤ n2 + 3 * y + h → n4 ≤ n3 + 3 * ((x - y) + (y - x)) + 1 → n4 ≤ n0 + 8 * h + 1
covered_live h x y n0 n1 n2 n3 n4 first second one two three four = omega (arith, first, second, one, two, three, four)
