-- Either of two graphs, over the arena's map.
use Rattle.std.proofs.Common.{◌≡◌, ◌||◌, ℕ, Bool, true, false, cond, List, [], ◌∷◌, Option, Some, None, arith, refl, ap, ap₂, sym, ◌∙◌, subst}
use Rattle.slab.specs.Slab.{Slab}
use Rattle.rx_value.specs.declared.order.End.{End}
use Rattle.rx_tree.specs.Tree.{Level, Tree, level_size, size}
use Rattle.rx_tree.specs.Tree.Level.{end, item}
use Rattle.rx_tree.specs.Tree.Tree.{everything, items}
use Rattle.rx_tree.specs.Member.{IsTuple, holds}
use Rattle.rx_tree.specs.Canonical.{ArePlaced, IsCanonical}
use Rattle.rx_tree.specs.Union.{is_all, lay_all, either_child, either, tree_or}
use Rattle.rx_tree.proofs.Either.{or_canonical, or_holds}
use Rattle.rx_level.specs.declared.nodes.Node.{Node}
use Rattle.rx_level.specs.Step.{Owns, Step, level_of}
use Rattle.rx_graph.specs.declared.handles.Root.{Root}
use Rattle.rx_graph.specs.declared.handles.Root.TheVariants.{Items}
use Rattle.rx_graph.specs.Graph.{Graph, Steps, IsHeld, AreCanonical, tree_in}
use Rattle.rx_graph.proofs.GraphSteps.{canonical_given}
use Rattle.rx_graph.proofs.Back.{times_first, times_second}
use Rattle.rx_or.specs.Below.{unless_all}
use Rattle.rx_or.proofs.Opened.{some_level}

-- the trees of two held graphs are canonical
pub canonical_both : (old : Graph) (g h : Root) → IsHeld old (g ∷ h ∷ []) → AreCanonical old → IsCanonical old.nullable (tree_in old g) × IsCanonical old.nullable (tree_in old h)
canonical_both old g h held was = ((was g (omega (arith, held g, times_first g h))), (was h (omega (arith, held h, times_second g h))))

-- either of two canonical trees is given in their place
pub given_or : (old new : Graph) (g h r : Root) → IsHeld old (g ∷ h ∷ []) → Steps old new (g ∷ h ∷ []) (r ∷ []) → tree_in new r ≡ tree_or old.nullable (tree_in old g) (tree_in old h) → AreCanonical old → AreCanonical new
given_or old new g h r held step is was =
    let both = canonical_both old g h held was in
    canonical_given old new (g ∷ h ∷ []) r step
    (subst (λ (t : Tree). IsCanonical old.nullable t) (sym is) (or_canonical old.nullable (tree_in old g) (tree_in old h) both.0 both.1))
    was

pub keys_or : (old new : Graph) (g h r : Root) → IsHeld old (g ∷ h ∷ []) → tree_in new r ≡ tree_or old.nullable (tree_in old g) (tree_in old h) → AreCanonical old
    → (ps : List End) → IsTuple old.nullable ps → holds (tree_in new r) ps ≡ (holds (tree_in old g) ps || holds (tree_in old h) ps)
keys_or old new g h r held is was ps tuple =
    let both = canonical_both old g h held was in
    ap (λ t. holds t ps) is ∙ or_holds old.nullable (tree_in old g) (tree_in old h) ps both.0 both.1 tuple

placed_of : (parts : List Bool) (l : Level) → IsCanonical parts (items l) → ArePlaced parts l
placed_of parts end is = absurd is
placed_of parts (item s c rest) is = is.placed

-- the levels of two held graphs, taken out of the arena, are in their places
pub placed_taken : (old mid : Graph) (taken : Slab Node) (parts : List Bool) (g h : ℕ) → taken ≡ old.store → mid ≡ record old { store = mid.store } → parts ≡ mid.nullable
    → IsHeld old (Items g ∷ Items h ∷ []) → AreCanonical old → ArePlaced parts (level_of taken (Some g)) × ArePlaced parts (level_of taken (Some h))
placed_taken old mid taken parts g h is_taken is_mid is_parts held was =
    let both = canonical_both old (Items g) (Items h) held was in
    let same : parts ≡ old.nullable = is_parts ∙ ap (λ x. x.nullable) is_mid in (
      subst (λ (p : List Bool). ArePlaced p (level_of taken (Some g))) (sym same) (subst (λ (s : Slab Node). ArePlaced old.nullable (level_of s (Some g))) (sym is_taken) (placed_of old.nullable (level_of old.store (Some g)) both.0)),
      subst (λ (p : List Bool). ArePlaced p (level_of taken (Some h))) (sym same) (subst (λ (s : Slab Node). ArePlaced old.nullable (level_of s (Some h))) (sym is_taken) (placed_of old.nullable (level_of old.store (Some h)) both.1)),
    )

some_by : (b : Bool) (l x : Level) → x ≡ cond b end l → (x ≡ end → ⊥) → items x ≡ cond b everything (items l)
some_by true l x is some = absurd (some is)
some_by false l x is some = ap items is

-- the level that stands for either of two is a tree's where it has items
pub tree_some : (parts : List Bool) (g h x : Level) → x ≡ unless_all parts (either parts g h) → (x ≡ end → ⊥) → items x ≡ tree_or parts (items g) (items h)
tree_some [] g h x is some = absurd (some is)
tree_some (n ∷ ns) g h x is some = some_by (is_all n (lay_all (either_child ns) g h)) (lay_all (either_child ns) g h) x is some

none_by : (n : Bool) (ns : List Bool) (b : Bool) (l : Level) → end ≡ cond b end l → IsCanonical (n ∷ ns) (cond b everything (items l)) → everything ≡ cond b everything (items l)
none_by n ns true l is canonical = refl
none_by n ns false l is canonical = absurd (subst (λ (x : Level). IsCanonical (n ∷ ns) (items x)) (sym is) canonical)

-- and everything where it has none
pub tree_none : (parts : List Bool) (g h : Level) → IsCanonical parts (items g) → IsCanonical parts (items h) → end ≡ unless_all parts (either parts g h) → everything ≡ tree_or parts (items g) (items h)
tree_none [] g h first second is = refl
tree_none (n ∷ ns) g h first second is =
    none_by n ns (is_all n (lay_all (either_child ns) g h)) (lay_all (either_child ns) g h) is (or_canonical (n ∷ ns) (items g) (items h) first second)

size_by : (b : Bool) (l : Level) → level_size (cond b end l) ≡ size (cond b everything (items l))
size_by true l = refl
size_by false l = refl

-- its size is the tree's
pub tree_or_size : (parts : List Bool) (g h : Level) → level_size (unless_all parts (either parts g h)) ≡ size (tree_or parts (items g) (items h))
tree_or_size [] g h = refl
tree_or_size (n ∷ ns) g h = size_by (is_all n (lay_all (either_child ns) g h)) (lay_all (either_child ns) g h)

-- what is said of the levels that were taken, of those in the arena
pub record AreBack (old : Graph) (taken : Slab Node) (parts : List Bool) (g h : ℕ) : Type 0 where
  pub level : unless_all parts (either parts (level_of taken (Some g)) (level_of taken (Some h))) ≡ unless_all old.nullable (either old.nullable (level_of old.store (Some g)) (level_of old.store (Some h)))

pub are_back : (old mid : Graph) (taken : Slab Node) (parts : List Bool) (g h : ℕ) → taken ≡ old.store → mid ≡ record old { store = mid.store } → parts ≡ mid.nullable → AreBack old taken parts g h
are_back old mid taken parts g h is_taken is_mid is_parts =
    let same : parts ≡ old.nullable = is_parts ∙ ap (λ x. x.nullable) is_mid in
    record { level = ap₂ (λ p s. unless_all p (either p (level_of s (Some g)) (level_of s (Some h)))) same is_taken }

-- a level with items that is put back is the tree of its root
pub some_tree : (old mid new : Graph) (taken levels : Slab Node) (parts : List Bool) (g h key : ℕ) (o : Option ℕ) (r : Root)
    → taken ≡ old.store → mid ≡ record old { store = mid.store } → parts ≡ mid.nullable → new ≡ record mid { store = levels }
    → Owns taken (Some g ∷ Some h ∷ [])
    → Step taken levels (Some g ∷ Some h ∷ []) (o ∷ []) → o ≡ Some key → r ≡ Items key
    → level_of levels o ≡ unless_all parts (either parts (level_of taken (Some g)) (level_of taken (Some h)))
    → tree_in new r ≡ tree_or old.nullable (tree_in old (Items g)) (tree_in old (Items h))
some_tree old mid new taken levels parts g h key o r is_taken is_mid is_parts is_new owns step is is_root level =
    let back = are_back old mid taken parts g h is_taken is_mid is_parts in
    let stored : new.store ≡ levels = ap (λ x. x.store) is_new in
    let some : level_of levels o ≡ end → ⊥ = some_level levels step.sound o (λ m. omega (arith, step.held m, owns.owned m)) (λ none. cc (sym is ∙ none)) in
    ap (tree_in new) is_root
    ∙ ap₂ (λ s k. items (level_of s k)) stored (sym is)
    ∙ tree_some old.nullable (level_of old.store (Some g)) (level_of old.store (Some h)) (level_of levels o) (level ∙ back.level) some

-- and canonical
pub some_canonical : (old mid : Graph) (taken levels : Slab Node) (parts : List Bool) (g h key : ℕ) (o : Option ℕ)
    → taken ≡ old.store → mid ≡ record old { store = mid.store } → parts ≡ mid.nullable → o ≡ Some key
    → IsHeld old (Items g ∷ Items h ∷ []) → Owns taken (Some g ∷ Some h ∷ [])
    → Step taken levels (Some g ∷ Some h ∷ []) (o ∷ [])
    → level_of levels o ≡ unless_all parts (either parts (level_of taken (Some g)) (level_of taken (Some h)))
    → AreCanonical old → IsCanonical old.nullable (items (level_of levels o))
some_canonical old mid taken levels parts g h key o is_taken is_mid is_parts is held owns step level was =
    let tree = some_tree old mid (record mid { store = levels }) taken levels parts g h key o (Items key) is_taken is_mid is_parts refl owns step is refl level in
    let both = canonical_both old (Items g) (Items h) held was in
    subst (λ (t : Tree). IsCanonical old.nullable t) (sym (ap (λ x. items (level_of levels x)) is ∙ tree))
    (or_canonical old.nullable (tree_in old (Items g)) (tree_in old (Items h)) both.0 both.1)

-- one without items is everything
pub none_tree : (old mid : Graph) (taken levels : Slab Node) (parts : List Bool) (g h : ℕ) (o : Option ℕ)
    → taken ≡ old.store → mid ≡ record old { store = mid.store } → parts ≡ mid.nullable
    → IsHeld old (Items g ∷ Items h ∷ []) → AreCanonical old → o ≡ None
    → level_of levels o ≡ unless_all parts (either parts (level_of taken (Some g)) (level_of taken (Some h)))
    → everything ≡ tree_or old.nullable (tree_in old (Items g)) (tree_in old (Items h))
none_tree old mid taken levels parts g h o is_taken is_mid is_parts held was is level =
    let back = are_back old mid taken parts g h is_taken is_mid is_parts in
    let both = canonical_both old (Items g) (Items h) held was in
    tree_none old.nullable (level_of old.store (Some g)) (level_of old.store (Some h)) both.0 both.1 (sym (ap (level_of levels) is) ∙ level ∙ back.level)

-- the size of the tree of either, from that of its level
pub size_back : (old mid : Graph) (taken : Slab Node) (parts : List Bool) (g h : ℕ)
    → taken ≡ old.store → mid ≡ record old { store = mid.store } → parts ≡ mid.nullable
    → level_size (unless_all parts (either parts (level_of taken (Some g)) (level_of taken (Some h)))) ≡ size (tree_or old.nullable (tree_in old (Items g)) (tree_in old (Items h)))
size_back old mid taken parts g h is_taken is_mid is_parts =
    ap level_size ((are_back old mid taken parts g h is_taken is_mid is_parts).level) ∙ tree_or_size old.nullable (level_of old.store (Some g)) (level_of old.store (Some h))

-- the same of two roots with items
pub given_items_or : (old new : Graph) (g h r : Root) (i j : ℕ) → g ≡ Items i → h ≡ Items j → IsHeld old (g ∷ h ∷ []) → Steps old new (Items i ∷ Items j ∷ []) (r ∷ []) → tree_in new r ≡ tree_or old.nullable (tree_in old (Items i)) (tree_in old (Items j)) → AreCanonical old → AreCanonical new
given_items_or old new g h r i j is_g is_h held step is was =
    given_or old new (Items i) (Items j) r (subst (λ (x : Root). IsHeld old (Items i ∷ x ∷ [])) is_h (subst (λ (x : Root). IsHeld old (x ∷ h ∷ [])) is_g held)) step is was

pub keys_items_or : (old new : Graph) (g h r : Root) (i j : ℕ) → g ≡ Items i → h ≡ Items j → IsHeld old (g ∷ h ∷ []) → tree_in new r ≡ tree_or old.nullable (tree_in old (Items i)) (tree_in old (Items j)) → AreCanonical old
    → (ps : List End) → IsTuple old.nullable ps → holds (tree_in new r) ps ≡ (holds (tree_in old g) ps || holds (tree_in old h) ps)
keys_items_or old new g h r i j is_g is_h held is was ps tuple =
    keys_or old new g h r held (is ∙ ap₂ (λ x y. tree_or old.nullable (tree_in old x) (tree_in old y)) (sym is_g) (sym is_h)) was ps tuple
