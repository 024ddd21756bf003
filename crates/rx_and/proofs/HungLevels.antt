-- Two levels that are met by hanging, and the number of items that come.
use Rattle.std.proofs.Common.{inr, ◌≡◌, ◌<◌, ◌≤◌, ◌+◌, ◌*◌, ◌^◌, ◌∷◌, [], ℕ, suc, Bool, true, List, length, Option, Some, None, arith, refl, ap, sym, ◌∙◌, subst}
use Rattle.slab.specs.Slab.{Slab, slab_len}
use Rattle.rx_tree.specs.Tree.{Level}
use Rattle.rx_tree.specs.Tree.Level.{end, item}
use Rattle.rx_tree.specs.Tree.Tree.{items}
use Rattle.rx_tree.specs.Canonical.{IsCanonical, IsCanonicalLevel}
use Rattle.rx_tree.specs.Join.{length_of}
use Rattle.rx_tree.specs.Bare.{is_bare, is_span, first_length}
use Rattle.rx_tree.specs.Meet.{both}
use Rattle.rx_level.specs.declared.nodes.Node.{Node}
use Rattle.rx_level.specs.Store.{IsSound, held_of, tree_of}
use Rattle.rx_level.specs.Step.{Owns, Step, Lent, level_of}
use Rattle.rx_level.specs.Standing.{StandsIn}
use Rattle.rx_level.specs.Under.{IsNumberUnder, IsUnder}
use Rattle.rx_level.specs.Under.IsUnder.{here, below}
use Rattle.rx_level.proofs.Steps.{keeps_root}
use Rattle.rx_graft.specs.Graft.{ComesBefore}
use Rattle.rx_graft.specs.Hang.{hung, depth_of, chain}
use Rattle.rx_graft.specs.Made.{AreUnder, levels_of}
use Rattle.rx_graft.proofs.Chained.{deep_hung}
use Rattle.rx_graft.proofs.Numbers.{few_marks}
use Rattle.rx_graph.specs.declared.handles.Root.{Root}
use Rattle.rx_graph.specs.declared.handles.Root.TheVariants.{Items, Nothing}
use Rattle.rx_graph.specs.Graph.{Graph, AreCanonical, link_of, tree_in}
use Rattle.rx_and.specs.Before.{IsBefore}
use Rattle.rx_and.specs.Fellows.{AreFellows}
use Rattle.rx_and.proofs.Fellows.{fellows_later}
use Rattle.rx_cut.proofs.Staying.{stays}
use Rattle.rx_and.proofs.Meets.{HasItems, lent_items, both_later}

pub lengths : (s : Slab Node) (links : List (Option ℕ)) → length (levels_of s links) ≡ length links
lengths s [] = refl
lengths s (r ∷ rest) = ap suc (lengths s rest)

pub not_end : (l : Level) → HasItems l → l ≡ end → ⊥
not_end l has e = cc (sym e ∙ has.is)

-- two lent levels of these parts are canonical
pub record Two (a : Slab Node) (parts : List Bool) (g h : ℕ) : Type 0 where
  pub sound : IsSound a []
  pub lent_g : Lent a [] (Some g)
  pub lent_h : Lent a [] (Some h)
  pub first : IsCanonicalLevel parts (level_of a (Some g))
  pub second : IsCanonicalLevel parts (level_of a (Some h))

-- what is hung is what both have in common
pub two_hung : (a : Slab Node) (parts : List Bool) (g h : ℕ) (links : List (Option ℕ)) → Two a parts g h → levels_of a links ≡ chain parts (level_of a (Some h)) → depth_of (level_of a (Some g)) ≤ length links
    → hung (levels_of a links) (level_of a (Some g)) ≡ both (level_of a (Some g)) (level_of a (Some h))
two_hung a parts g h links two is deep =
    ap (λ ls. hung ls (level_of a (Some g))) is
    ∙ sym (deep_hung parts (level_of a (Some g)) (level_of a (Some h)) two.first two.second
    (not_end _ (lent_items a two.sound (Some g) g refl two.lent_g)) (not_end _ (lent_items a two.sound (Some h) h refl two.lent_h))
    (omega (arith, deep, lengths a links, ap length is)))

-- what is so of the two levels after a step that gives no handle
pub record Later (a b : Slab Node) (g h : ℕ) : Type 0 where
  pub lent_g : Lent b [] (Some g)
  pub lent_h : Lent b [] (Some h)
  pub fellows : AreFellows (level_of b (Some g)) (level_of b (Some h))
  pub same : both (level_of b (Some g)) (level_of b (Some h)) ≡ both (level_of a (Some g)) (level_of a (Some h))

pub later : (a b : Slab Node) (parts : List Bool) (g h : ℕ) → Two a parts g h → Step a b [] [] → Later a b g h
later a b parts g h two step =
    let one = stays a b [] two.sound step (Some g) two.lent_g in
    let other = stays a b [] two.sound step (Some h) two.lent_h in
    record {
      lent_g = one.lent;
      lent_h = other.lent;
      fellows = fellows_later a b (Some g) (Some h) one other (record { parts = parts; first = two.first.placed; second = two.second.placed });
      same = both_later a b (Some g) (Some h) one other;
    }

-- a level that is held on is of as many items as before
pub number_stays : (b d : Slab Node) (r : Option ℕ) → tree_of d r ≡ tree_of b r → AreUnder b → AreUnder d → (k : ℕ) → IsNumberUnder d r k → IsNumberUnder b r k
number_stays b d r same under under' k number =
    record {
      marks = number.marks;
      exact = (λ m. (
        (λ marked. (under r m).1 (subst (λ t. StandsIn m t) same ((under' r m).0 ((number.exact m).0 marked)))),
        (λ below. (number.exact m).1 ((under' r m).1 (subst (λ t. StandsIn m t) (sym same) ((under r m).0 below)))),
      ));
      number = number.number;
    }

-- the tree that was given stays where the two that were held go
pub freed_tree : (a b d e : Slab Node) (g h : ℕ) (r : Option ℕ) → Owns a (Some g ∷ Some h ∷ []) → Step a b [] (r ∷ []) → Step b d (Some g ∷ []) [] → Step d e (Some h ∷ []) [] → tree_of e r ≡ tree_of b r
freed_tree a b d e g h r owns first one two =
    keeps_root d e (Some h ∷ []) [] two r (λ m. omega (arith, owns.owned m, first.held m, one.held m))
    ∙ keeps_root b d (Some g ∷ []) [] one r (λ m. omega (arith, owns.owned m, first.held m))

-- a canonical tree that has items has a canonical level
pub canonical_level : (ns : List Bool) (l : Level) → IsCanonical ns (items l) → IsCanonicalLevel ns l
canonical_level ns end canonical = absurd canonical
canonical_level ns (item s c rest) canonical = canonical

-- the levels of handles, as they are taken, are canonical
pub level_canonical : (old : Graph) (parts : List Bool) (taken : Slab Node) (k : ℕ) → parts ≡ old.nullable → taken ≡ old.store → 0 < held_of old.store k → AreCanonical old → IsCanonicalLevel parts (level_of taken (Some k))
level_canonical old parts taken k is_parts is_taken held was =
    subst (λ (ns : List Bool). IsCanonicalLevel ns (level_of taken (Some k))) (sym is_parts)
    (subst (λ (s : Slab Node). IsCanonicalLevel old.nullable (level_of s (Some k))) (sym is_taken) (canonical_level old.nullable (level_of old.store (Some k)) (was (Items k) held)))

-- so many come at most, said of the arena
pub few_made : (old : Graph) (parts : List Bool) (taken : Slab Node) (g h len : ℕ) → parts ≡ old.nullable → taken ≡ old.store
    → (ComesBefore parts (level_of taken (Some g)) (level_of taken (Some h)) → (n : ℕ) → IsNumberUnder taken (Some g) n → len ≤ slab_len taken + n)
    → IsBefore old.nullable (tree_in old (Items g)) (tree_in old (Items h)) → (n : ℕ) → IsNumberUnder old.store (Some g) n → len ≤ slab_len old.store + n
few_made old parts taken g h len is_parts is_taken made =
    subst (λ (s : Slab Node). ComesBefore old.nullable (level_of s (Some g)) (level_of s (Some h)) → (n : ℕ) → IsNumberUnder s (Some g) n → len ≤ slab_len s + n) is_taken
    (subst (λ (ns : List Bool). ComesBefore ns (level_of taken (Some g)) (level_of taken (Some h)) → (n : ℕ) → IsNumberUnder taken (Some g) n → len ≤ slab_len taken + n) is_parts made)

-- of so many it is made at most, said of the arena
pub few_reached : (old : Graph) (parts : List Bool) (taken : Slab Node) (g h k : ℕ) → parts ≡ old.nullable → taken ≡ old.store
    → (ComesBefore parts (level_of taken (Some g)) (level_of taken (Some h)) → (n m : ℕ) → IsNumberUnder taken (Some g) n → IsNumberUnder taken (Some h) m → k ≤ n + m)
    → IsBefore old.nullable (tree_in old (Items g)) (tree_in old (Items h)) → (n m : ℕ) → IsNumberUnder old.store (Some g) n → IsNumberUnder old.store (Some h) m → k ≤ n + m
few_reached old parts taken g h k is_parts is_taken made =
    subst (λ (s : Slab Node). ComesBefore old.nullable (level_of s (Some g)) (level_of s (Some h)) → (n m : ℕ) → IsNumberUnder s (Some g) n → IsNumberUnder s (Some h) m → k ≤ n + m) is_taken
    (subst (λ (ns : List Bool). ComesBefore ns (level_of taken (Some g)) (level_of taken (Some h)) → (n m : ℕ) → IsNumberUnder taken (Some g) n → IsNumberUnder taken (Some h) m → k ≤ n + m) is_parts made)

pub number_moved : (s t : Slab Node) (r q : Option ℕ) → s ≡ t → r ≡ q → (k : ℕ) → IsNumberUnder s r k → IsNumberUnder t q k
number_moved s t r q same link k number = subst (λ (x : Slab Node). IsNumberUnder x q k) same (subst (λ (x : Option ℕ). IsNumberUnder s x k) link number)

-- a link is of one number of items
pub number_one : (s : Slab Node) (r : Option ℕ) (m k : ℕ) → IsNumberUnder s r m → IsNumberUnder s r k → k ≤ m
number_one s r m k first second =
    let marks = few_marks [] second.marks first.marks (λ x marked. inr ((first.exact x).1 ((second.exact x).0 marked))) in
    omega (arith, marks, first.number, second.number)

none_under : (s : Slab Node) (m : ℕ) → IsUnder s None m → ⊥
none_under s m (here j is there) = cc is
none_under s m (below j k way links) = none_under s k way

-- a link that leads nowhere is of no items
pub number_none : (s : Slab Node) (k : ℕ) → IsNumberUnder s None k → k ≡ 0
number_none s k number =
    let marks = few_marks [] number.marks [] (λ x marked. absurd (none_under s x ((number.exact x).0 marked))) in
    omega (arith, marks, number.number)

-- the same of two roots with items
pub few_for : (a : Graph) (g h : Root) (i j len : ℕ) → g ≡ Items i → h ≡ Items j
    → (IsBefore a.nullable (tree_in a (Items i)) (tree_in a (Items j)) → (n : ℕ) → IsNumberUnder a.store (Some i) n → len ≤ slab_len a.store + n)
    → IsBefore a.nullable (tree_in a g) (tree_in a h) → (n : ℕ) → IsNumberUnder a.store (link_of g) n → len ≤ slab_len a.store + n
few_for a g h i j len is_g is_h made =
    subst (λ (x : Root). IsBefore a.nullable (tree_in a x) (tree_in a h) → (n : ℕ) → IsNumberUnder a.store (link_of x) n → len ≤ slab_len a.store + n) (sym is_g)
    (subst (λ (y : Root). IsBefore a.nullable (tree_in a (Items i)) (tree_in a y) → (n : ℕ) → IsNumberUnder a.store (Some i) n → len ≤ slab_len a.store + n) (sym is_h) made)

pub reached_for : (a : Graph) (g h : Root) (i j k : ℕ) → g ≡ Items i → h ≡ Items j
    → (IsBefore a.nullable (tree_in a (Items i)) (tree_in a (Items j)) → (n m : ℕ) → IsNumberUnder a.store (Some i) n → IsNumberUnder a.store (Some j) m → k ≤ n + m)
    → IsBefore a.nullable (tree_in a g) (tree_in a h) → (n m : ℕ) → IsNumberUnder a.store (link_of g) n → IsNumberUnder a.store (link_of h) m → k ≤ n + m
reached_for a g h i j k is_g is_h made =
    subst (λ (x : Root). IsBefore a.nullable (tree_in a x) (tree_in a h) → (n m : ℕ) → IsNumberUnder a.store (link_of x) n → IsNumberUnder a.store (link_of h) m → k ≤ n + m) (sym is_g)
    (subst (λ (y : Root). IsBefore a.nullable (tree_in a (Items i)) (tree_in a y) → (n m : ℕ) → IsNumberUnder a.store (Some i) n → IsNumberUnder a.store (link_of y) m → k ≤ n + m) (sym is_h) made)

-- one of the two, given on, is of as many items as before
pub given_on : (old new : Slab Node) (q r : Root) → new ≡ old → r ≡ q → (m k : ℕ) → IsNumberUnder old (link_of q) m → IsNumberUnder new (link_of r) k → k ≤ m
given_on old new q r same is m k first second = number_one old (link_of q) m k first (number_moved new old (link_of r) (link_of q) same (ap link_of is) k second)

pub given_nothing : (s : Slab Node) (q r : Root) → r ≡ q → q ≡ Nothing → (k : ℕ) → IsNumberUnder s (link_of r) k → k ≡ 0
given_nothing s q r is none k number = number_none s k (number_moved s s (link_of r) None refl (ap link_of (is ∙ none)) k number)

-- so few are new where one level is cut, said of the arena
pub few_cut : (old : Graph) (taken : Slab Node) (g h len : ℕ) → taken ≡ old.store
    → (is_bare (level_of taken (Some h)) ≡ true → (bits : ℕ) → length_of (level_of taken (Some g)) < 2 ^ bits → len ≤ slab_len taken + 16 * bits + 16)
    → is_span (tree_in old (Items h)) ≡ true → (bits : ℕ) → first_length (tree_in old (Items g)) < 2 ^ bits → len ≤ slab_len old.store + 16 * bits + 16
few_cut old taken g h len is_taken made =
    subst (λ (s : Slab Node). is_bare (level_of s (Some h)) ≡ true → (bits : ℕ) → length_of (level_of s (Some g)) < 2 ^ bits → len ≤ slab_len s + 16 * bits + 16) is_taken made

pub cut_for : (a : Graph) (g h : Root) (i j len : ℕ) → g ≡ Items i → h ≡ Items j
    → (is_span (tree_in a (Items j)) ≡ true → (bits : ℕ) → first_length (tree_in a (Items i)) < 2 ^ bits → len ≤ slab_len a.store + 16 * bits + 16)
    → is_span (tree_in a h) ≡ true → (bits : ℕ) → first_length (tree_in a g) < 2 ^ bits → len ≤ slab_len a.store + 16 * bits + 16
cut_for a g h i j len is_g is_h made =
    subst (λ (x : Root). is_span (tree_in a h) ≡ true → (bits : ℕ) → first_length (tree_in a x) < 2 ^ bits → len ≤ slab_len a.store + 16 * bits + 16) (sym is_g)
    (subst (λ (y : Root). is_span (tree_in a y) ≡ true → (bits : ℕ) → first_length (tree_in a (Items i)) < 2 ^ bits → len ≤ slab_len a.store + 16 * bits + 16) (sym is_h) made)
