-- How many nodes come, and how many the whole is made of.
use Rattle.std.proofs.Common.{◌≡◌, inl, inr, ◌+◌, ◌≤◌, arith, ℕ, List, [], ◌∷◌, length, Option, sym, subst}
use Rattle.slab.specs.Slab.{Slab, slab_len}
use Rattle.rx_level.specs.declared.nodes.Node.{Node}
use Rattle.rx_level.specs.Store.{IsSound, held_of, owed, tree_of}
use Rattle.rx_level.specs.Step.{Owns, Step}
use Rattle.rx_level.specs.Standing.{StandsAt, StandsIn, IsAtOneDepth}
use Rattle.rx_level.specs.Under.{IsNumberUnder}
use Rattle.rx_level.proofs.Steps.{keeps_root}
use Rattle.rx_graft.specs.Made.{Place, Made, Among, AreDifferent, AreLent, AreUnder, StandIn, StandsFrom, Hangs, handles_of}
use Rattle.rx_graft.proofs.Adding.{adds_all_owned}
use Rattle.rx_graft.proofs.Ready.{links_stay}
use Rattle.rx_graft.proofs.Numbers.{few_numbers, few_marks, numbers_apart}

-- all that is remembered came from the level
came_from : (a b : Slab Node) (links : List (Option ℕ)) (root r : Option ℕ) (es fs : List Made) → es ≡ [] → Hangs a b links 0 root es fs r → (e : Made) → Among fs e → StandsFrom 0 (tree_of a root) e.0
came_from a b links root r es fs none hangs e among = elim (hangs.places e among) [
  | inl before ↦ absurd (subst (λ l. Among l e) none before)
  | inr stands ↦ stands
]

same_place : (p q : Place) → p.0 ≡ q.0 → p.1 ≡ q.1 → p ≡ q
same_place p q node depth = λ i. (node i, depth i)

-- where each node stands at one depth, a number tells its place
number_tells : (a b : Slab Node) (links : List (Option ℕ)) (root r : Option ℕ) (es fs : List Made) → es ≡ [] → Hangs a b links 0 root es fs r → IsAtOneDepth (tree_of a root)
    → (e f : Made) → Among fs e → Among fs f → e.0.0 ≡ f.0.0 → e.0 ≡ f.0
number_tells a b links root r es fs none hangs level e f here there node =
    let s = came_from a b links root r es fs none hangs e here in
    let t = came_from a b links root r es fs none hangs f there in
    let both : s.below ≡ t.below = level e.0.0 s.below t.below s.stands (subst (λ k. StandsAt k t.below (tree_of a root)) (sym node) t.stands) in
    same_place e.0 f.0 node (omega (arith, s.depth, t.depth, both))

-- no more is remembered than the level has nodes
few_came : (a b : Slab Node) (links : List (Option ℕ)) (root r : Option ℕ) (es fs : List Made) → es ≡ [] → AreDifferent fs → Hangs a b links 0 root es fs r
    → AreUnder a → IsAtOneDepth (tree_of a root) → (n : ℕ) → IsNumberUnder a root n → length fs ≤ n
few_came a b links root r es fs none different hangs under level n number =
    let few = few_numbers fs number.marks
    (numbers_apart fs different (number_tells a b links root r es fs none hangs level))
    (λ e among.
    let s = came_from a b links root r es fs none hangs e among in
    (number.exact e.0.0).1 ((under root e.0.0).1 (s.below, s.stands))) in
    omega (arith, few, number.number)

-- no more nodes come than the level has
pub live_bound : (a b d : Slab Node) (links : List (Option ℕ)) (root r : Option ℕ) (es fs : List Made) → es ≡ [] → AreDifferent fs → Hangs a b links 0 root es fs r → slab_len d ≤ slab_len b
    → AreUnder a → IsAtOneDepth (tree_of a root) → (n : ℕ) → IsNumberUnder a root n → slab_len d ≤ slab_len a + n
live_bound a b d links root r es fs none different hangs less under level n number =
    let few = few_came a b links root r es fs none different hangs under level n number in
    omega (arith, few, less, hangs.live)

-- what is made is of no more nodes than the level and what stands in the links
pub shared_bound : (a b d : Slab Node) (links : List (Option ℕ)) (root r : Option ℕ) (es fs : List Made) → es ≡ [] → IsSound a [] → AreLent a links → AreDifferent fs → Hangs a b links 0 root es fs r → Step b d (handles_of fs) []
    → AreUnder a → AreUnder d → IsAtOneDepth (tree_of a root) → (h : Option ℕ) → StandIn a links h → (n m k : ℕ) → IsNumberUnder a root n → IsNumberUnder a h m → IsNumberUnder d r k → k ≤ n + m
shared_bound a b d links root r es fs none sound lent different hangs step under under' level h stand n m k first second third =
    let few = few_came a b links root r es fs none different hangs under level n first in
    let owns : Owns a (handles_of es) = record { sound = sound; owned = λ x. subst (λ l. owed x (handles_of l) ≤ held_of a x) (sym none) (omega arith) } in
    let same : tree_of d r ≡ tree_of b r = keeps_root b d (handles_of fs) [] step r (λ x. omega (arith, adds_all_owned a b es fs (r ∷ []) owns hangs.adds x)) in
    let kept = links_stay a b _ sound hangs.adds.step links lent in
    let marks = few_marks fs third.marks second.marks (λ x marked.
    let stands : StandsIn x (tree_of b r) = subst (λ t. StandsIn x t) same ((under' r x).0 ((third.exact x).0 marked)) in
    elim (hangs.made x stands) [
      | inl more ↦ inl more
      | inr there ↦ inr ((second.exact x).1 ((under h x).1 (stand x (kept.stood x there))))
    ]) in
    omega (arith, marks, few, second.number, third.number)
