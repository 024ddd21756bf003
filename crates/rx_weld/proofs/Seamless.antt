-- Items welded before levels, and levels whose neighbours can't be one item glued together.
use Rattle.std.proofs.Common.{◌≡◌, ◌&&◌, ◌≤◌, Bool, true, false, cond, arith, refl, ap, ap₂, sym, ◌∙◌, subst}
use Rattle.rx_value.specs.declared.order.End.{End}
use Rattle.rx_value.specs.declared.order.Span.{Span}
use Rattle.rx_tree.specs.Tree.{Level, level_size}
use Rattle.rx_tree.specs.Tree.Level.{end, item}
use Rattle.rx_tree.specs.Canonical.{Differs}
use Rattle.rx_tree.specs.Join.{join_level}
use Rattle.rx_tree.specs.Weld.{is_same_end, is_touching, is_same_level, span_over, weld, glue}
use Rattle.rx_tree.proofs.Welding.{same_end-itself, same_level-itself, joined, weld_apart, glue-weld}
use Rattle.rx_tree.proofs.Sizes.{weld_size}
use Rattle.rx_weld.specs.Seamless.{IsSeamless}

tested : (s t : Span) (c d : Level) → s.hi ≡ t.lo → c ≡ d → (is_touching s t && is_same_level c d) ≡ true
tested s t c d touch same =
    let touching : is_touching s t ≡ true = subst (λ (x : End). is_same_end s.hi x ≡ true) touch (same_end-itself s.hi) in
    let alike : is_same_level c d ≡ true = subst (λ (x : Level). is_same_level c x ≡ true) same (same_level-itself c) in
    ap₂ (λ x y. x && y) touching alike

-- an item that touches the first of others and has its child is one with it
pub weld_one : (s t : Span) (c d rest : Level) → s.hi ≡ t.lo → c ≡ d → weld s c (item t d rest) ≡ item (span_over s t) c rest
weld_one s t c d rest touch same = ap (λ b. cond b (item (span_over s t) c rest) (item s c (item t d rest))) (tested s t c d touch same)

-- two touching items with the same child are one
pub weld_twice : (lo e hi : End) (c x : Level) → weld (record { lo = lo; hi = e }) c (weld (record { lo = e; hi = hi }) c x) ≡ weld (record { lo = lo; hi = hi }) c x
weld_twice lo e hi c x =
    let s : Span = record { lo = lo; hi = e } in
    let t : Span = record { lo = e; hi = hi } in
    sym (glue-weld s c (item t c end) x) ∙ ap (λ l. glue l x) (weld_one s t c c end refl refl)

weld_join_by : (s t : Span) (c d x m : Level) (b : Bool) → cond b (item (span_over s t) c (join_level x m)) (item s c (item t d (join_level x m))) ≡ join_level (cond b (item (span_over s t) c x) (item s c (item t d x))) m
weld_join_by s t c d x m true = refl
weld_join_by s t c d x m false = refl

-- what is welded before some items leaves one behind that differs from it
pub weld_join : (s : Span) (c l : Level) (i : Span) (d r : Level) → Differs s c (item i d r) → weld s c (join_level l (item i d r)) ≡ join_level (weld s c l) (item i d r)
weld_join s c end i d r differs = weld_apart s c (item i d r) differs
weld_join s c (item t e l) i d r differs = weld_join_by s t c e l (item i d r) (is_touching s t && is_same_level c e)

differs_by : (s : Span) (c : Level) (t : Span) (d : Level) (u : Span) (e x : Level) (b : Bool) → (s.hi ≡ t.lo → c ≡ d → ⊥) → Differs s c (cond b (item (span_over t u) d x) (item t d (item u e x)))
differs_by s c t d u e x true differs = differs
differs_by s c t d u e x false differs = differs

-- an item differs from one that is welded before others where it differs from that one
pub differs_weld : (s : Span) (c : Level) (t : Span) (d x : Level) → (s.hi ≡ t.lo → c ≡ d → ⊥) → Differs s c (weld t d x)
differs_weld s c t d end differs = differs
differs_weld s c t d (item u e x) differs = differs_by s c t d u e x (is_touching t u && is_same_level d e) differs

untested : (s t : Span) (c d : Level) → (is_touching s t && is_same_level c d) ≡ false → s.hi ≡ t.lo → c ≡ d → ⊥
untested s t c d e touch same = let no : true ≡ false = sym (tested s t c d touch same) ∙ e in absurd (cc no)

differs_over : (s t : Span) (c d rest : Level) → c ≡ d → Differs t d rest → Differs (span_over s t) c rest
differs_over s t c d end same differs = tt
differs_over s t c d (item u e more) same differs = λ touch alike. differs touch (sym same ∙ alike)

weld_are_apart_by : (s t : Span) (c d rest : Level) (b : Bool) → (is_touching s t && is_same_level c d) ≡ b → IsSeamless (item t d rest) → IsSeamless (cond b (item (span_over s t) c rest) (item s c (item t d rest)))
weld_are_apart_by s t c d rest true e apart = (differs_over s t c d rest (joined s t c d e).1 apart.0, apart.1)
weld_are_apart_by s t c d rest false e apart = (untested s t c d e, apart)

-- neighbours stay apart where an item is welded before them
pub weld_are_apart : (s : Span) (c rest : Level) → IsSeamless rest → IsSeamless (weld s c rest)
weld_are_apart s c end apart = (tt, tt)
weld_are_apart s c (item t d rest) apart = weld_are_apart_by s t c d rest (is_touching s t && is_same_level c d) refl apart

-- and where a level is glued before them
pub glue_are_apart : (a b : Level) → IsSeamless b → IsSeamless (glue a b)
glue_are_apart end b apart = apart
glue_are_apart (item s c rest) b apart = weld_are_apart s c (glue rest b) (glue_are_apart rest b apart)

-- a level whose neighbours can't be one item is glued together already
pub glue_nothing : (a : Level) → IsSeamless a → glue a end ≡ a
glue_nothing end apart = refl
glue_nothing (item s c rest) apart = ap (weld s c) (glue_nothing rest apart.1) ∙ weld_apart s c rest apart.0

differs_join : (s : Span) (c l : Level) (i : Span) (d r : Level) (j : Span) (y : Level) → j.lo ≡ i.lo → Differs s c (join_level l (item i d r)) → Differs s c (join_level l (weld j d y))
differs_join s c end i d r j y begins differs = differs_weld s c j d y (λ touch same. differs (touch ∙ begins) same)
differs_join s c (item u e l) i d r j y begins differs = differs

-- what is glued behind an item of a level, with any upper end, leaves the items before it
pub glue_join : (l : Level) (i : Span) (d r : Level) (j : Span) (b y : Level) → j.lo ≡ i.lo → IsSeamless (join_level l (item i d r)) → glue (join_level l (item j d b)) y ≡ join_level l (weld j d (glue b y))
glue_join end i d r j b y begins apart = refl
glue_join (item u c l) i d r j b y begins apart =
    ap (weld u c) (glue_join l i d r j b y begins apart.1)
    ∙ weld_apart u c (join_level l (weld j d (glue b y))) (differs_join u c l i d r j (glue b y) begins apart.0)

-- a level whose neighbours can't be one item is glued at its last item alone
pub glue_last : (before : Level) (s : Span) (c b : Level) → IsSeamless (join_level before (item s c end)) → glue (join_level before (item s c end)) b ≡ join_level before (weld s c b)
glue_last before s c b apart = glue_join before s c end s end b refl apart

-- what is glued together is at least as large as the first level
pub glue_size_first : (a b : Level) → IsSeamless a → level_size a ≤ level_size (glue a b)
glue_size_first end b apart = omega arith
glue_size_first (item s c end) b apart = let w = weld_size s c b in omega (arith, w.child)
glue_size_first (item s c (item t d rest)) b apart =
    let after = glue_size_first (item t d rest) b apart.1 in
    let here = ap level_size (weld_apart s c (glue (item t d rest) b) (differs_weld s c t d (glue rest b) apart.0)) in
    omega (arith, after, here)
