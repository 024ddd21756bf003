-- Two levels of which one hangs below the other, or one is one item without a child.
use Rattle.std.proofs.Common.{◌≡◌, ◌<◌, ◌≤◌, ◌&&◌, ◌||◌, cond, count_by, get_or, ℕ, zero, suc, Bool, true, false, not, List, [], ◌∷◌, length, Option, Some, None, IfSome, IfNone, arith, refl, ap, sym, ◌∙◌, subst}
use Rattle.slab.specs.Slab.{Slab}
use Rattle.rx_value.specs.declared.order.Span.{Span}
use Rattle.rx_value.specs.Spans.{is_whole_span}
use Rattle.rx_tree.specs.Tree.{Level, level_constrains, is_end}
use Rattle.rx_tree.specs.Tree.Level.{end, item}
use Rattle.rx_tree.specs.Canonical.{IsCanonicalLevel}
use Rattle.rx_tree.specs.Join.{join_level, length_of}
use Rattle.rx_tree.specs.Bare.{is_bare}
use Rattle.rx_tree.proofs.Joining.{length-join}
use Rattle.rx_level.specs.declared.nodes.Node.{Node}
use Rattle.rx_level.specs.Tree.{Tree, plain}
use Rattle.rx_level.specs.Tree.Tree.{none, some}
use Rattle.rx_level.specs.Store.{IsSound, tree_of}
use Rattle.rx_level.specs.Step.{Step, level_of}
use Rattle.rx_level.specs.Standing.{StandsAt, StandsIn}
use Rattle.rx_level.specs.Standing.StandsAt.{here}
use Rattle.rx_level.specs.Under.{IsNumberUnder}
use Rattle.rx_graft.specs.Graft.{ComesBefore}
use Rattle.rx_graft.specs.Hang.{depth_of, chain}
use Rattle.rx_graft.specs.Made.{AreUnder}
use Rattle.rx_graft.proofs.Grafting.{one_whole, child_constrains}
use Rattle.rx_graft.proofs.Chained.{before_deep, constrains_deep, chain_free}
use Rattle.rx_graft.proofs.GraftedTrees.{rooted, stands_where, none_stands}
use Rattle.rx_graft.proofs.GraftedTrees.Where.{at_top, in_child, in_left, in_right}
use Rattle.rx_graft.proofs.Numbers.{count-cons}

-- a part that a level constrains
record Constrained (ns : List Bool) (l : Level) : Type 0 where
  part : ℕ
  is : level_constrains ns l part ≡ true

constrained_by : (n : Bool) (ns : List Bool) (s : Span) (c rest : Level) → IsCanonicalLevel (n ∷ ns) (item s c rest) → (b : Bool) → level_constrains (n ∷ ns) (item s c rest) 0 ≡ b → (IsCanonicalLevel ns c → (c ≡ end → ⊥) → Constrained ns c) → Constrained (n ∷ ns) (item s c rest)
constrained_by n ns s c rest canonical true is deeper = record { part = 0; is = is }
constrained_by n ns s c rest canonical false is deeper =
    let one = one_whole n ns s c rest canonical is in
    let more = deeper (record { placed = canonical.placed.2; not_all = canonical.placed.1 }) one.child in
    record { part = suc more.part; is = child_constrains n ns s c rest more.part more.is }

-- a canonical level that has items constrains some part
constrained : (ns : List Bool) (l : Level) → IsCanonicalLevel ns l → (l ≡ end → ⊥) → Constrained ns l
constrained ns end canonical has = absurd (has refl)
constrained [] (item s c rest) canonical has = absurd canonical.placed
constrained (n ∷ ns) (item s c rest) canonical has =
    constrained_by n ns s c rest canonical (level_constrains (n ∷ ns) (item s c rest) 0) refl (λ canonical_c some_c. constrained ns c canonical_c some_c)

-- a level that the other's whole items go down to doesn't come behind that
pub deep_not_behind : (ns : List Bool) (g h : Level) → IsCanonicalLevel ns g → IsCanonicalLevel ns h → (g ≡ end → ⊥) → (h ≡ end → ⊥) → depth_of g ≤ length (chain ns h) → ComesBefore ns h g → ⊥
deep_not_behind ns g h canonical other has has' deep before =
    let first = constrained ns g canonical has in
    let second = constrained ns h other has' in
    let low = before second.part first.part second.is first.is in
    omega (arith, low, deep, constrains_deep ns g first.part first.is, chain_free ns h second.part second.is)

-- a level that goes further down than the other's whole items doesn't come before that
pub short_not_before : (ns : List Bool) (g h : Level) → IsCanonicalLevel ns g → IsCanonicalLevel ns h → (g ≡ end → ⊥) → (h ≡ end → ⊥) → length (chain ns h) < depth_of g → ComesBefore ns g h → ⊥
short_not_before ns g h canonical other has has' short before = omega (arith, short, before_deep ns g h canonical other has has' before)

pub some_deep : (l : Level) → (l ≡ end → ⊥) → 1 ≤ depth_of l
some_deep end has = absurd (has refl)
some_deep (item s c rest) has = omega arith

not_whole : (n : Bool) (ns : List Bool) (s : Span) (b : Bool) → is_whole_span n s ≡ b → IsCanonicalLevel (n ∷ ns) (item s end end) → cond b (end ∷ chain ns end) [] ≡ []
not_whole n ns s true is canonical =
    let free : level_constrains (n ∷ ns) (item s end end) 0 ≡ false = ap (λ x. not x || false) is in
    absurd ((one_whole n ns s end end canonical free).child refl)
not_whole n ns s false is canonical = refl

and_parts : (c r : Level) → (is_end c && is_end r) ≡ true → (c ≡ end) × (r ≡ end)
and_parts end end e = (refl, refl)
and_parts end (item s c rest) e = absurd (cc e)
and_parts (item s c rest) r e = absurd (cc e)

-- a canonical level of one item without a child isn't whole
pub bare_chain : (ns : List Bool) (l : Level) → IsCanonicalLevel ns l → is_bare l ≡ true → chain ns l ≡ []
bare_chain [] l canonical bare = refl
bare_chain (n ∷ ns) end canonical bare = refl
bare_chain (n ∷ ns) (item s end end) canonical bare = not_whole n ns s (is_whole_span n s) refl canonical
bare_chain (n ∷ ns) (item s c (item t d rest)) canonical bare = refl
bare_chain (n ∷ ns) (item s (item t d rest) end) canonical bare = absurd (cc bare)

pub bare_depth : (l : Level) → is_bare l ≡ true → depth_of l ≡ 1
bare_depth end bare = absurd (cc bare)
bare_depth (item s end end) bare = refl
bare_depth (item s end (item t d rest)) bare = absurd (cc bare)
bare_depth (item s (item t d rest) r) bare = absurd (cc bare)

-- marks of one number alone
abbrev only : ℕ → List Bool
only zero = true ∷ []
only (suc k) = false ∷ only k

only_one : (k : ℕ) → count_by (λ marked. marked) (only k) ≡ 1
only_one zero = refl
only_one (suc k) = let e = count-cons false (only k) in omega (arith, e, only_one k)

only_at : (k : ℕ) → get_or (only k) k false ≡ true
only_at zero = refl
only_at (suc k) = only_at k

only_there : (k m : ℕ) → get_or (only k) m false ≡ true → m ≡ k
only_there zero zero e = refl
only_there zero (suc m) e = absurd (cc e)
only_there (suc k) zero e = absurd (cc e)
only_there (suc k) (suc m) e = ap suc (only_there k m e)

no_nodes : (t : Tree) → length_of (plain t) ≡ 0 → t ≡ none
no_nodes none e = refl
no_nodes (some k s c l r) e = absurd (omega (arith, e, length-join (plain l) (item s (plain c) (plain r))))

-- the node of a level of one item without a child leads nowhere
record OneNode (t : Tree) : Type 0 where
  number : ℕ
  span : Span
  is : t ≡ some number span none none none

pub bare_length : (l : Level) → is_bare l ≡ true → length_of l ≡ 1
bare_length end bare = absurd (cc bare)
bare_length (item s c end) bare = refl
bare_length (item s c (item t d rest)) bare = let e = and_parts c (item t d rest) bare in absurd (cc e.1)

bare_below : (l : Level) (s : Span) (c r : Level) → l ≡ end → is_bare (join_level l (item s c r)) ≡ true → c ≡ end
bare_below l s c r empty bare = (and_parts c r (ap (λ x. is_bare (join_level x (item s c r))) (sym empty) ∙ bare)).0

one_node : (t : Tree) → is_bare (plain t) ≡ true → OneNode t
one_node none bare = absurd (cc bare)
one_node (some k s c l r) bare =
    let long = bare_length (plain (some k s c l r)) bare in
    let sum = length-join (plain l) (item s (plain c) (plain r)) in
    let no_l : l ≡ none = no_nodes l (omega (arith, long, sum)) in
    let no_r : r ≡ none = no_nodes r (omega (arith, long, sum)) in
    let no_c : c ≡ none = no_nodes c (ap length_of (bare_below (plain l) s (plain c) (plain r) (ap plain no_l) bare)) in
    record { number = k; span = s; is = λ i. some k s (no_c i) (no_l i) (no_r i) }

one_stands : (m : ℕ) (t : Tree) (o : OneNode t) → StandsIn m t → m ≡ o.number
one_stands m t o h = elim (stands_where m o.number o.span none none none t o.is h) [
  | at_top top ↦ top
  | in_child s ↦ absurd (none_stands m s)
  | in_left s ↦ absurd (none_stands m s)
  | in_right s ↦ absurd (none_stands m s)
]

-- a level of one item without a child is of one node
pub number_bare : (s : Slab Node) → IsSound s [] → AreUnder s → (k : ℕ) → is_bare (level_of s (Some k)) ≡ true → IsNumberUnder s (Some k) 1
number_bare s sound under k bare =
    let o = one_node (tree_of s (Some k)) bare in
    let root : Some k ≡ Some o.number = (rooted s sound (Some k) o.number o.span none none none o.is).root_is in
    let same : k ≡ o.number = cc root in
    record {
      marks = only k;
      exact = λ m. (
        (λ marked. (under (Some k) m).1 (0, subst (λ t. StandsAt m 0 t) (sym o.is) (subst (λ j. StandsAt m 0 (some j o.span none none none)) (only_there k m marked ∙ same) (here o.span none none none)))),
        (λ inside. let at : m ≡ k = one_stands m (tree_of s (Some k)) o ((under (Some k) m).0 inside) ∙ sym same in subst (λ j. get_or (only k) j false ≡ true) (sym at) (only_at k)),
      );
      number = sym (only_one k);
    }

-- a canonical level that has items goes further down than its whole items
long_by : (n : Bool) (ns : List Bool) (s : Span) (c : Level) (b : Bool) → is_whole_span n s ≡ b → IsCanonicalLevel (n ∷ ns) (item s c end) → (IsCanonicalLevel ns c → (c ≡ end → ⊥) → length (chain ns c) < depth_of c) → length (cond b (c ∷ chain ns c) []) < depth_of (item s c end)
long_by n ns s c true is canonical deeper =
    let free : level_constrains (n ∷ ns) (item s c end) 0 ≡ false = ap (λ x. not x || false) is in
    let low = deeper (record { placed = canonical.placed.2; not_all = canonical.placed.1 }) (one_whole n ns s c end canonical free).child in
    omega (arith, low)
long_by n ns s c false is canonical deeper = omega arith

pub chain_deep : (ns : List Bool) (l : Level) → IsCanonicalLevel ns l → (l ≡ end → ⊥) → length (chain ns l) < depth_of l
chain_deep ns end canonical has = absurd (has refl)
chain_deep [] (item s c rest) canonical has = absurd canonical.placed
chain_deep (n ∷ ns) (item s c end) canonical has = long_by n ns s c (is_whole_span n s) refl canonical (λ canonical_c has_c. chain_deep ns c canonical_c has_c)
chain_deep (n ∷ ns) (item s c (item t d rest)) canonical has = omega arith

-- a step that does nothing after another
pub idle_twice : (a b d : Slab Node) → Step a b [] [] → Step b d [] [] → Step a d [] []
idle_twice a b d one two = record {
  sound = two.sound;
  held = λ m. omega (arith, one.held m, two.held m);
  keeps = λ m more. two.keeps m (omega (arith, one.held m, more)) ∙ one.keeps m more;
}

-- what is said of an option that is some, or none
pub told_some : {X : Type 0} (P : X → Type 0) (o : Option X) (x : X) → o ≡ Some x → IfSome o P → P x
told_some P o x is told = subst (λ q. IfSome q P) is told

pub told_none : {X : Type 0} (P : Type 0) (o : Option X) → o ≡ None → IfNone o P → P
told_none P o is told = subst (λ q. IfNone q P) is told
