-- Canonical trees stay so over steps.
use Rattle.std.proofs.Common.{◌∙◌, ◌≡◌, ◌+◌, ◌<◌, ◌≤◌, inl, inr, arith, ℕ, Bool, List, [], ◌∷◌, Some, refl, ap, sym, subst}
use Rattle.std.proofs.lemmas.Bool.Decides.{eqb_tells}
use Rattle.rx_tree.specs.Tree.{Tree}
use Rattle.rx_tree.specs.Canonical.{IsCanonical}
use Rattle.rx_tree.specs.Tree.Tree.{items}
use Rattle.rx_level.specs.Tree.{plain}
use Rattle.rx_level.specs.Store.{leads, held_of, IsSound}
use Rattle.rx_level.specs.Step.{Step, Owns}
use Rattle.rx_level.proofs.Counts.{leads_unlike}
use Rattle.rx_graph.specs.declared.handles.Root.{Root}
use Rattle.rx_graph.specs.declared.handles.Root.TheVariants.{Everything, Nothing, Items}
use Rattle.rx_graph.specs.Graph.{Graph, Steps, IsHeld, AreCanonical, tree_in, held_count, times, links_of, all_in, none_in}

-- the trees of these roots are canonical
abbrev pub GivenCanonical : List Bool → Graph → List Root → Type 0
GivenCanonical parts g given = (r : Root) → 0 < times r given → IsCanonical parts (tree_in g r)

kept_or_given : (parts : List Bool) (new : Graph) (r : Root) (t : Tree) → (held_new held_old spent given : ℕ) → held_new + spent ≡ held_old + given → 0 < held_new
    → (spent < held_old → tree_in new r ≡ t) → (0 < held_old → IsCanonical parts t) → (0 < given → IsCanonical parts (tree_in new r)) → IsCanonical parts (tree_in new r)
kept_or_given parts new r t held_new held_old spent given sum held keeps was is = elim (eqb_tells given 0) [
  | inl e ↦
      let more : spent < held_old = omega (arith, e.1, sum, held) in
      subst (λ (u : Tree). IsCanonical parts u) (sym (keeps more)) (was (omega (arith, more)))
  | inr e ↦ is (omega (arith, e.1))
]

pub canonical_steps : (old new : Graph) (spent given : List Root) → Steps old new spent given → GivenCanonical old.nullable new given → AreCanonical old → AreCanonical new
canonical_steps old new spent given step is was r held =
    subst (λ (ns : List Bool). IsCanonical ns (tree_in new r)) (sym step.parts)
    (kept_or_given old.nullable new r (tree_in old r) (held_count new r) (held_count old r) (times r spent) (times r given) (step.held r) held (step.keeps r) (was r) (is r))

given_items : (parts : List Bool) (g : Graph) (k m : ℕ) → IsCanonical parts (tree_in g (Items k)) → 0 < leads m (Some k) + 0 → IsCanonical parts (tree_in g (Items m))
given_items parts g k m is more = elim (eqb_tells k m) [
  | inl e ↦ subst (λ (x : ℕ). IsCanonical parts (tree_in g (Items x))) e.1 is
  | inr e ↦ absurd (omega (arith, more, leads_unlike m k (λ s. e.1 (sym s))))
]

pub given_one : (parts : List Bool) (g : Graph) (root : Root) → IsCanonical parts (tree_in g root) → GivenCanonical parts g (root ∷ [])
given_one parts g Everything is Everything more = tt
given_one parts g Everything is Nothing more = absurd (omega (arith, more))
given_one parts g Everything is (Items m) more = absurd (omega (arith, more))
given_one parts g Nothing is Everything more = absurd (omega (arith, more))
given_one parts g Nothing is Nothing more = tt
given_one parts g Nothing is (Items m) more = absurd (omega (arith, more))
given_one parts g (Items k) is Everything more = absurd (omega (arith, more))
given_one parts g (Items k) is Nothing more = absurd (omega (arith, more))
given_one parts g (Items k) is (Items m) more = given_items parts g k m is more

none_given : (r : Root) → 0 < times r [] → ⊥
none_given Everything more = omega (arith, more)
none_given Nothing more = omega (arith, more)
none_given (Items k) more = omega (arith, more)

-- where no handle is given
pub canonical_kept : (old new : Graph) (spent : List Root) → Steps old new spent [] → AreCanonical old → AreCanonical new
canonical_kept old new spent step = canonical_steps old new spent [] step (λ r more. absurd (none_given r more))

-- where one is given
pub canonical_given : (old new : Graph) (spent : List Root) (root : Root) → Steps old new spent (root ∷ []) → IsCanonical old.nullable (tree_in new root) → AreCanonical old → AreCanonical new
canonical_given old new spent root step is = canonical_steps old new spent (root ∷ []) step (given_one old.nullable new root is)

pub once : (root : Root) → 1 ≤ times root (root ∷ [])
once Everything = omega arith
once Nothing = omega arith
once (Items k) = grind arith

none_times : (r : Root) → times r [] ≡ 0
none_times Everything = refl
none_times Nothing = refl
none_times (Items k) = refl

-- where one is given that was held before
pub canonical_shared : (old new : Graph) (root : Root) → IsHeld old (root ∷ []) → Steps old new [] (root ∷ []) → AreCanonical old → AreCanonical new
canonical_shared old new root held step was =
    let more : 0 < held_count old root = omega (arith, held root, once root) in
    canonical_given old new [] root step
    (subst (λ (t : Tree). IsCanonical old.nullable t) (sym (step.keeps root (omega (arith, more, none_times root)))) (was root more)) was

pub held_all : (g : Graph) (h : Root) → IsHeld g (h ∷ []) → h ≡ Everything → 1 ≤ g.all
held_all g h held is = omega (arith, held Everything, ap (λ r. times Everything (r ∷ [])) is)

pub held_none : (g : Graph) (h : Root) → IsHeld g (h ∷ []) → h ≡ Nothing → 1 ≤ g.none
held_none g h held is = omega (arith, held Nothing, ap (λ r. times Nothing (r ∷ [])) is)

pub held_items : (g : Graph) (h : Root) (k : ℕ) → IsHeld g (h ∷ []) → h ≡ Items k → (m : ℕ) → leads m (Some k) ≤ held_of g.store m
held_items g h k held is m = omega (arith, held (Items m), ap (λ r. times (Items m) (r ∷ [])) is)

held_by : (old new : Graph) (spent given : List Root) → Step old.store new.store (links_of spent) (links_of given)
    → new.all + all_in spent ≡ old.all + all_in given → new.none + none_in spent ≡ old.none + none_in given
    → (r : Root) → held_count new r + times r spent ≡ held_count old r + times r given
held_by old new spent given step all none Everything = all
held_by old new spent given step all none Nothing = none
held_by old new spent given step all none (Items k) = step.held k

kept_by : (old new : Graph) (spent given : List Root) → Step old.store new.store (links_of spent) (links_of given)
    → (r : Root) → times r spent < held_count old r → tree_in new r ≡ tree_in old r
kept_by old new spent given step Everything more = refl
kept_by old new spent given step Nothing more = refl
kept_by old new spent given step (Items k) more = ap (λ t. items (plain t)) (step.keeps k more)

-- what a step of the store is to the map of handles, where the counts of everything and nothing follow
pub steps_from : (old new : Graph) (spent given : List Root) → new.nullable ≡ old.nullable
    → Step old.store new.store (links_of spent) (links_of given)
    → new.all + all_in spent ≡ old.all + all_in given
    → new.none + none_in spent ≡ old.none + none_in given
    → Steps old new spent given
steps_from old new spent given parts step all none = record {
  parts = parts;
  held = λ r. held_by old new spent given step all none r;
  keeps = λ r. kept_by old new spent given step r;
}

-- the handles of an arena are owned in its store
pub owns_from : (g : Graph) (roots : List Root) → IsSound g.store [] → IsHeld g roots → Owns g.store (links_of roots)
owns_from g roots sound held = record { sound = sound; owned = λ m. held (Items m) }

-- the sums that let one call follow another
pub record Follow (r : Root) (s1 g1 s2 g2 s g : List Root) : Type 0 where
  pub first : times r s1 ≤ times r s
  pub second : times r s2 + times r s1 ≤ times r s + times r g1
  pub both : times r g + times r s1 + times r s2 ≡ times r s + times r g1 + times r g2

-- one call after another
pub steps_then : (a b c : Graph) (s1 g1 s2 g2 s g : List Root) → Steps a b s1 g1 → Steps b c s2 g2 → IsHeld a s → ((r : Root) → Follow r s1 g1 s2 g2 s g) → Steps a c s g
steps_then a b c s1 g1 s2 g2 s g one two held fits = record {
  parts = two.parts ∙ one.parts;
  held = λ r. let f = fits r in omega (arith, one.held r, two.held r, held r, f.first, f.second, f.both);
  keeps = λ r more. let f = fits r in
      two.keeps r (omega (arith, one.held r, more, f.first, f.second))
      ∙ one.keeps r (omega (arith, more, f.first));
}

-- what is held after a call
pub held_after : (a b : Graph) (s g all left : List Root) → IsHeld a all → Steps a b s g → ((r : Root) → times r left + times r s ≤ times r all + times r g) → IsHeld b left
held_after a b s g all left held step fits r = omega (arith, step.held r, held r, fits r)
