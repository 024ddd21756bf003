-- What a walk has to give as it begins, and where it has no level.
use Rattle.std.proofs.Common.{◌≡◌, ℕ, zero, suc, Bool, true, false, if◌then◌else◌, List, [], ◌∷◌, map, slice_index, Option, Some, None, MatchOption, IfSome, IfNone, refl, ap, sym, ◌∙◌, subst, arith}
use Rattle.slab.specs.Slab.{Slab}
use Rattle.rx_value.specs.declared.ranges.KeyRange.{KeyRange}
use Rattle.rx_tree.specs.Tree.Level.{end}
use Rattle.rx_level.specs.declared.nodes.Node.{Node}
use Rattle.rx_level.specs.Step.{Lent, level_of}
use Rattle.rx_graph.specs.declared.handles.Root.{Root}
use Rattle.rx_graph.specs.declared.handles.Root.TheVariants.{Everything, Nothing, Items}
use Rattle.rx_graph.specs.Graph.{Graph, IsHeld, link_of, tree_in}
use Rattle.rx_graph.proofs.Same.{root_lent}
use Rattle.rx_cover.specs.Cover.{level_cover, cover}
use Rattle.rx_walk.specs.Ranges.{behind_points, rest_at, rest_met, whole_first, is_all}
use Rattle.rx_walk.proofs.Ahead.{none_ahead}
use Rattle.rx_walk.proofs.Rest.{fresh_level}

-- the level of a handle is lent
link_lent : (g : Graph) (h : Root) → IsHeld g (h ∷ []) → Lent g.store [] (link_of h)
link_lent g Everything held = tt
link_lent g Nothing held = tt
link_lent g (Items k) held = root_lent g g.store (Items k) (Items k) k refl held refl refl

pub lent_at : (g : Graph) (s : Slab Node) (h : Root) (r : Option ℕ) → s ≡ g.store → r ≡ link_of h → IsHeld g (h ∷ []) → Lent s [] r
lent_at g s h r same is held =
    subst (λ (t : Slab Node). Lent t [] r) (sym same) (subst (λ (q : Option ℕ). Lent g.store [] q) (sym is) (link_lent g h held))

no_level : (h : Root) → is_all h ≡ true → link_of h ≡ None
no_level Everything all = refl
no_level Nothing all = cc all
no_level (Items k) all = cc all

-- everything has no level
pub whole_bare : (h : Root) (whole : Bool) (r : Option ℕ) → whole ≡ is_all h → r ≡ link_of h → whole ≡ true → r ≡ None
whole_bare h whole r is link all = link ∙ no_level h (sym is ∙ all)

-- no points before a range
behind_none : (list : List KeyRange) → map (behind_points []) list ≡ list
behind_none [] = refl
behind_none (r ∷ list) = ap (λ (l : List KeyRange). r ∷ l) (behind_none list)

-- a level without items has no ranges, however far a walk is
rest_bare : (d : ℕ) (first : Bool) (parts falling : List Bool) (places : List ℕ) → rest_at d first parts falling end places ≡ []
rest_bare d first [] falling places = refl
rest_bare d first (n ∷ ns) [] places = refl
rest_bare d first (n ∷ ns) (f ∷ fs) places =
    ap (rest_met (λ c. rest_at (suc d) false ns fs c places) (level_cover false ns fs) first n) (none_ahead f (slice_index places d) end (omega arith))

-- the ranges behind no points that are left of a link's level
abbrev pub left_at : Slab Node → List Bool → List Bool → Option ℕ → List ℕ → List KeyRange
left_at s parts falling r places = map (behind_points []) (rest_at 0 true parts falling (level_of s r) places)

pub left_bare : (s : Slab Node) (parts falling : List Bool) (r : Option ℕ) (places : List ℕ) → r ≡ None → left_at s parts falling r places ≡ []
left_bare s parts falling r places none =
    ap (λ (q : Option ℕ). left_at s parts falling q places) none ∙ ap (map (behind_points [])) (rest_bare 0 true parts falling places)

abbrev are_zeros : List ℕ → Bool
are_zeros [] = true
are_zeros (zero ∷ list) = are_zeros list
are_zeros (suc n ∷ list) = false

zero_at : (list : List ℕ) (k : ℕ) → are_zeros list ≡ true → slice_index list k ≡ 0
zero_at [] k is = refl
zero_at (zero ∷ list) zero is = refl
zero_at (zero ∷ list) (suc k) is = zero_at list k is
zero_at (suc n ∷ list) k is = absurd (cc is)

abbrev left_begun : Bool → Slab Node → List Bool → List Bool → Option ℕ → List ℕ → List KeyRange
left_begun whole s parts falling r places = if whole then whole_first parts else left_at s parts falling r places

level_begun : (s : Slab Node) (parts falling : List Bool) (r : Option ℕ) (places : List ℕ) → are_zeros places ≡ true → left_at s parts falling r places ≡ level_cover true parts falling (level_of s r)
level_begun s parts falling r places zeros =
    behind_none (rest_at 0 true parts falling (level_of s r) places) ∙ fresh_level 0 true parts falling (level_of s r) places (λ k low. zero_at places k zeros)

items_begun : (s : Slab Node) (parts falling : List Bool) (g : Graph) (k : ℕ) (places : List ℕ) → s ≡ g.store → are_zeros places ≡ true → left_at s parts falling (Some k) places ≡ cover parts falling (tree_in g (Items k))
items_begun s [] falling g k places same zeros = refl
items_begun s (n ∷ ns) falling g k places same zeros = level_begun s (n ∷ ns) falling (Some k) places zeros ∙ ap (λ (t : Slab Node). level_cover true (n ∷ ns) falling (level_of t (Some k))) same

begun_at : (g : Graph) (s : Slab Node) (falling : List Bool) (h : Root) (places : List ℕ) (parts : List Bool) → s ≡ g.store → are_zeros places ≡ true → left_begun (is_all h) s parts falling (link_of h) places ≡ cover parts falling (tree_in g h)
begun_at g s falling Everything places [] same zeros = refl
begun_at g s falling Everything places (n ∷ ns) same zeros = refl
begun_at g s falling Nothing places [] same zeros = left_bare s [] falling None places refl
begun_at g s falling Nothing places (n ∷ ns) same zeros = left_bare s (n ∷ ns) falling None places refl
begun_at g s falling (Items k) places parts same zeros = items_begun s parts falling g k places same zeros

-- a walk that begins has the cover to give
pub begun : (g : Graph) (s : Slab Node) (parts falling : List Bool) (h : Root) (r : Option ℕ) (whole : Bool) (places : List ℕ) → s ≡ g.store → parts ≡ g.nullable → r ≡ link_of h → whole ≡ is_all h → are_zeros places ≡ true
    → left_begun whole s parts falling r places ≡ cover g.nullable falling (tree_in g h)
begun g s parts falling h r whole places same parts_is link all zeros =
    ap (λ (b : Bool). left_begun b s parts falling r places) all
    ∙ ap (λ (q : Option ℕ). left_begun (is_all h) s parts falling q places) link
    ∙ begun_at g s falling h places parts same zeros
    ∙ ap (λ (ps : List Bool). cover ps falling (tree_in g h)) parts_is

-- it gives the first of what was left, and leaves nothing
pub whole_given : (old left new : List KeyRange) (r : Option KeyRange) → old ≡ left → new ≡ [] → IfSome r (λ x. left ≡ x ∷ []) → IfNone r (left ≡ []) → MatchOption r ((old ≡ []) × (new ≡ [])) (λ x. old ≡ x ∷ new)
whole_given old left new None is none given ended = (is ∙ ended, none)
whole_given old left new (Some x) is none given ended = is ∙ given ∙ ap (λ (l : List KeyRange). x ∷ l) (sym none)
