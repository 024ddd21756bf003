-- What two levels have in common, where the one's whole items go as far down as the other.
use Rattle.std.proofs.Common.{◌≡◌, ◌||◌, ◌+◌, ◌<◌, ◌≤◌, max, arith, ℕ, zero, suc, Bool, true, false, not, cond, List, [], ◌∷◌, length, refl, ap, ap₂, sym, ◌∙◌}
use Rattle.rx_value.specs.declared.order.Span.{Span}
use Rattle.rx_value.specs.Spans.{is_whole_span}
use Rattle.rx_tree.specs.Tree.{Level, level_constrains}
use Rattle.rx_tree.specs.Tree.Level.{end, item}
use Rattle.rx_tree.specs.Canonical.{ArePlaced, IsCanonicalLevel}
use Rattle.rx_tree.specs.Meet.{both}
use Rattle.rx_tree.specs.Join.{join_level, length_of}
use Rattle.rx_graft.specs.Graft.{ComesBefore, grafted}
use Rattle.rx_graft.specs.Hang.{hung, depth_of, chain}
use Rattle.rx_graft.proofs.Grafting.{kept_items, first_free, one_whole, child_constrains, rest_constrains}

-- the list of a level of one whole item
pub chain_whole : (n : Bool) (ns : List Bool) (t : Span) (d rest : Level) → is_whole_span n t ≡ true → rest ≡ end → chain (n ∷ ns) (item t d rest) ≡ d ∷ chain ns d
chain_whole n ns t d rest whole alone = ap (λ r. chain (n ∷ ns) (item t d r)) alone ∙ ap (λ b. cond b (d ∷ chain ns d) []) whole

pub chain_narrow : (n : Bool) (ns : List Bool) (t : Span) (d : Level) → is_whole_span n t ≡ false → chain (n ∷ ns) (item t d end) ≡ []
chain_narrow n ns t d narrow = ap (λ b. cond b (d ∷ chain ns d) []) narrow

-- what hangs below each item of a level, where that is so of its children
graft_hung : (n : Bool) (ns : List Bool) (g d : Level) → ArePlaced (n ∷ ns) g
    → ((c : Level) → IsCanonicalLevel ns c → (c ≡ end → ⊥) → ((k : ℕ) → level_constrains ns c k ≡ true → level_constrains (n ∷ ns) g (suc k) ≡ true) → both c d ≡ hung (chain ns d) c)
    → grafted d g ≡ hung (d ∷ chain ns d) g
graft_hung n ns end d placed children = refl
graft_hung n ns (item s end rest) d placed children =
    ap (item s d) (graft_hung n ns rest d placed.3 (λ c canonical some within. children c canonical some (λ k e. rest_constrains n ns s end rest (suc k) (within k e))))
graft_hung n ns (item s (item t e more) rest) d placed children =
    ap₂ (λ x y. item s x y)
    (children (item t e more) (record { placed = placed.2; not_all = placed.1 }) (λ e. cc e) (λ k e'. child_constrains n ns s (item t e more) rest k e'))
    (graft_hung n ns rest d placed.3 (λ c canonical some within. children c canonical some (λ k e'. rest_constrains n ns s (item t e more) rest (suc k) (within k e'))))

-- the parts below are in order too
before_below : (n : Bool) (ns : List Bool) (g c : Level) (t : Span) (d rest : Level) → ComesBefore (n ∷ ns) g (item t d rest) → ((k : ℕ) → level_constrains ns c k ≡ true → level_constrains (n ∷ ns) g (suc k) ≡ true) → ComesBefore ns c d
before_below n ns g c t d rest before within j k first second =
    let low = before (suc j) (suc k) (within j first) (child_constrains n ns t d rest k second) in
    omega (arith, low)

pub before_hung : (ns : List Bool) (g h : Level) → IsCanonicalLevel ns g → IsCanonicalLevel ns h → (g ≡ end → ⊥) → (h ≡ end → ⊥) → ComesBefore ns g h → both g h ≡ hung (chain ns h) g
before_hung ns end h canonical other some some' before = absurd (some refl)
before_hung ns (item s c more) end canonical other some some' before = absurd (some' refl)
before_hung [] (item s c more) (item t d rest) canonical other some some' before = absurd canonical.placed
before_hung (n ∷ ns) (item s c more) (item t d rest) canonical other some some' before =
    let one = one_whole n ns t d rest other (first_free n ns s c more (item t d rest) canonical before) in
    kept_items (n ∷ ns) (item s c more) (item t d rest) canonical other some some' before
    ∙ graft_hung n ns (item s c more) d canonical.placed
    (λ x canonical_x some_x within. before_hung ns x d canonical_x (record { placed = other.placed.2; not_all = other.placed.1 }) some_x one.child (before_below n ns (item s c more) x t d rest before within))
    ∙ ap (λ ls. hung ls (item s c more)) (sym (chain_whole n ns t d rest one.whole one.alone))

either_true : (a b : Bool) → (a || b) ≡ true → (a ≡ false → b ≡ true)
either_true true b e other = absurd (cc other)
either_true false b e other = e

-- a level constrains only parts that it goes down to
deep_or : (x : Bool) (a b w : ℕ) → (x ≡ true → a < b) → (x ≡ false → a < w) → a < max b w
deep_or true a b w h k = let low = h refl in omega (arith, low)
deep_or false a b w h k = let low = k refl in omega (arith, low)

pub constrains_deep : (ns : List Bool) (g : Level) (k : ℕ) → level_constrains ns g k ≡ true → k < depth_of g
constrains_deep ns end k e = absurd (cc e)
constrains_deep [] (item s c rest) k e = absurd (cc e)
constrains_deep (n ∷ ns) (item s c rest) zero e = omega arith
constrains_deep (n ∷ ns) (item s c rest) (suc k) e =
    deep_or (level_constrains ns c k) (suc k) (1 + depth_of c) (depth_of rest)
    (λ h. let low = constrains_deep ns c k h in omega (arith, low))
    (λ h. constrains_deep (n ∷ ns) rest (suc k) (either_true (level_constrains ns c k) (level_constrains (n ∷ ns) rest (suc k)) e h))

not_both : (b : Bool) → b ≡ true → (not b || false) ≡ true → ⊥
not_both true e h = cc h
not_both false e h = cc e

with_none : (b : Bool) → (b || false) ≡ true → b ≡ true
with_none true e = refl
with_none false e = absurd (cc e)

long_or : (b : Bool) (ns : List Bool) (d : Level) (k : ℕ) → (b ≡ true → 1 + length (chain ns d) ≤ k) → length (cond b (d ∷ chain ns d) []) ≤ k
long_or true ns d k h = let low = h refl in omega (arith, low)
long_or false ns d k h = omega arith

-- a level constrains no part that its whole items go down to
pub chain_free : (ns : List Bool) (h : Level) (k : ℕ) → level_constrains ns h k ≡ true → length (chain ns h) ≤ k
chain_free [] h k e = omega arith
chain_free (n ∷ ns) end k e = omega arith
chain_free (n ∷ ns) (item s c (item t d rest)) k e = omega arith
chain_free (n ∷ ns) (item s c end) zero e = long_or (is_whole_span n s) ns c zero (λ whole. absurd (not_both (is_whole_span n s) whole e))
chain_free (n ∷ ns) (item s c end) (suc k) e = long_or (is_whole_span n s) ns c (suc k) (λ whole. let low = chain_free ns c k (with_none (level_constrains ns c k) e) in omega (arith, low))

-- what two levels have in common, from the depth of the first
pub deep_hung : (ns : List Bool) (g h : Level) → IsCanonicalLevel ns g → IsCanonicalLevel ns h → (g ≡ end → ⊥) → (h ≡ end → ⊥) → depth_of g ≤ length (chain ns h) → both g h ≡ hung (chain ns h) g
deep_hung ns g h canonical other some some' deep =
    before_hung ns g h canonical other some some' (λ j k first second. omega (arith, constrains_deep ns g j first, chain_free ns h k second, deep))

-- a level goes no further down than the parts below it
items_deep : (n : Bool) (ns : List Bool) (g : Level) (most : ℕ) → ArePlaced (n ∷ ns) g
    → ((c : Level) → IsCanonicalLevel ns c → (c ≡ end → ⊥) → ((k : ℕ) → level_constrains ns c k ≡ true → level_constrains (n ∷ ns) g (suc k) ≡ true) → depth_of c ≤ most)
    → depth_of g ≤ 1 + most
items_deep n ns end most placed children = omega arith
items_deep n ns (item s end rest) most placed children =
    omega (arith, items_deep n ns rest most placed.3 (λ c canonical some within. children c canonical some (λ k e. rest_constrains n ns s end rest (suc k) (within k e))))
items_deep n ns (item s (item t e more) rest) most placed children =
    omega (
      arith,
      children (item t e more) (record { placed = placed.2; not_all = placed.1 }) (λ e'. cc e') (λ k e'. child_constrains n ns s (item t e more) rest k e'),
      items_deep n ns rest most placed.3 (λ c canonical some within. children c canonical some (λ k e'. rest_constrains n ns s (item t e more) rest (suc k) (within k e'))),
    )

pub before_deep : (ns : List Bool) (g h : Level) → IsCanonicalLevel ns g → IsCanonicalLevel ns h → (g ≡ end → ⊥) → (h ≡ end → ⊥) → ComesBefore ns g h → depth_of g ≤ length (chain ns h)
before_deep ns end h canonical other some some' before = absurd (some refl)
before_deep ns (item s c more) end canonical other some some' before = absurd (some' refl)
before_deep [] (item s c more) (item t d rest) canonical other some some' before = absurd canonical.placed
before_deep (n ∷ ns) (item s c more) (item t d rest) canonical other some some' before =
    let one = one_whole n ns t d rest other (first_free n ns s c more (item t d rest) canonical before) in
    let deep = items_deep n ns (item s c more) (length (chain ns d)) canonical.placed
    (λ x canonical_x some_x within. before_deep ns x d canonical_x (record { placed = other.placed.2; not_all = other.placed.1 }) some_x one.child (before_below n ns (item s c more) x t d rest before within)) in
    let long : length (chain (n ∷ ns) (item t d rest)) ≡ suc (length (chain ns d)) = ap length (chain_whole n ns t d rest one.whole one.alone) in
    omega (arith, deep, long)

none_long : (l : Level) → length_of l ≡ 0 → l ≡ end
none_long end e = refl
none_long (item s c rest) e = absurd (omega (arith, e))

-- a level of more items than one has no list
pub chain_many : (n : Bool) (ns : List Bool) (before : Level) (s : Span) (c after : Level) → 0 < length_of before + length_of after → chain (n ∷ ns) (join_level before (item s c after)) ≡ []
chain_many n ns end s c end many = absurd (omega (arith, many))
chain_many n ns end s c (item t d rest) many = refl
chain_many n ns (item t d end) s c after many = refl
chain_many n ns (item t d (item u e rest)) s c after many = refl

-- a level that is taken apart at its one item
pub one_item : (whole before : Level) (s : Span) (c after : Level) → whole ≡ join_level before (item s c after) → length_of before ≡ 0 → length_of after ≡ 0 → whole ≡ item s c end
one_item whole before s c after is none none' =
    is ∙ ap₂ (λ x y. join_level x (item s c y)) (none_long before none) (none_long after none')

-- the same for a level that is told by its parts
pub opened_many : (n : Bool) (ns : List Bool) (whole before : Level) (s : Span) (c after : Level) → whole ≡ join_level before (item s c after) → 0 < length_of before + length_of after → chain (n ∷ ns) whole ≡ []
opened_many n ns whole before s c after is many = ap (chain (n ∷ ns)) is ∙ chain_many n ns before s c after many

pub opened_narrow : (n : Bool) (ns : List Bool) (whole before : Level) (s : Span) (c after : Level) → whole ≡ join_level before (item s c after) → length_of before ≡ 0 → length_of after ≡ 0 → is_whole_span n s ≡ false → chain (n ∷ ns) whole ≡ []
opened_narrow n ns whole before s c after is none none' narrow = ap (chain (n ∷ ns)) (one_item whole before s c after is none none') ∙ chain_narrow n ns s c narrow

pub opened_whole : (n : Bool) (ns : List Bool) (whole before : Level) (s : Span) (c after : Level) → whole ≡ join_level before (item s c after) → length_of before ≡ 0 → length_of after ≡ 0 → is_whole_span n s ≡ true → chain (n ∷ ns) whole ≡ c ∷ chain ns c
opened_whole n ns whole before s c after is none none' wide = ap (chain (n ∷ ns)) (one_item whole before s c after is none none') ∙ chain_whole n ns s c end wide refl
