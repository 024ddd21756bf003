-- The size of levels that are put together: at least that of each, at most that of both.
use Rattle.std.proofs.Common.{◌≡◌, ◌&&◌, ◌+◌, ◌≤◌, ◌<◌, Bool, true, false, cond, List, ◌∷◌, refl, ap, arith}
use Rattle.rx_value.specs.declared.order.Span.{Span}
use Rattle.rx_tree.specs.Tree.{Level, level_size}
use Rattle.rx_tree.specs.Tree.Level.{end, item}
use Rattle.rx_tree.specs.Canonical.{Differs, ArePlaced}
use Rattle.rx_tree.specs.Weld.{is_touching, is_same_level, span_over, weld, glue}
use Rattle.rx_tree.proofs.Welding.{joined, weld_apart}

-- what is said of the size of an item welded before a level
pub record WeldSize (c rest welded : Level) : Type 0 where
  pub least : level_size rest ≤ level_size welded
  pub child : level_size c < level_size welded
  pub most : level_size welded ≤ 1 + level_size c + level_size rest

weld_size_by : (s t : Span) (c d rest : Level) (b : Bool) → (is_touching s t && is_same_level c d) ≡ b → WeldSize c (item t d rest) (cond b (item (span_over s t) c rest) (item s c (item t d rest)))
weld_size_by s t c d rest true e =
    let same : level_size c ≡ level_size d = ap level_size (joined s t c d e).1 in
    record { least = omega (arith, same); child = omega arith; most = omega arith }
weld_size_by s t c d rest false e = record { least = omega arith; child = omega arith; most = omega arith }

-- an item welded before a level makes it no smaller, leads to its child, and adds itself and its child at most
pub weld_size : (s : Span) (c rest : Level) → WeldSize c rest (weld s c rest)
weld_size s c end = record { least = omega arith; child = omega arith; most = omega arith }
weld_size s c (item t d rest) = weld_size_by s t c d rest (is_touching s t && is_same_level c d) refl

-- what is glued together is at least as large as the second level
pub glue_second : (a b : Level) → level_size b ≤ level_size (glue a b)
glue_second end b = omega arith
glue_second (item s c rest) b =
    let after = glue_second rest b in
    let w = weld_size s c (glue rest b) in
    omega (arith, after, w.least)

-- and at most as large as both
pub glue_most : (a b : Level) → level_size (glue a b) ≤ level_size a + level_size b
glue_most end b = omega arith
glue_most (item s c rest) b =
    let after = glue_most rest b in
    let w = weld_size s c (glue rest b) in
    omega (arith, after, w.most)

weld_differs_by : (s t u : Span) (c d e rest : Level) (b : Bool) → (s.hi ≡ t.lo → c ≡ d → ⊥) → Differs s c (cond b (item (span_over t u) d rest) (item t d (item u e rest)))
weld_differs_by s t u c d e rest true differs = differs
weld_differs_by s t u c d e rest false differs = differs

weld_differs : (s t : Span) (c d rest : Level) → (s.hi ≡ t.lo → c ≡ d → ⊥) → Differs s c (weld t d rest)
weld_differs s t c d end differs = differs
weld_differs s t c d (item u e rest) differs = weld_differs_by s t u c d e rest (is_touching t u && is_same_level d e) differs

-- what is glued together is at least as large as the first level, whose items are in their places
pub glue_first : (n : Bool) (ns : List Bool) (a b : Level) → ArePlaced (n ∷ ns) a → level_size a ≤ level_size (glue a b)
glue_first n ns end b placed = omega arith
glue_first n ns (item s c end) b placed = let w = weld_size s c b in omega (arith, w.child)
glue_first n ns (item s c (item t d rest)) b placed =
    let after = glue_first n ns (item t d rest) b placed.3 in
    let apart = ap level_size (weld_apart s c (glue (item t d rest) b) (weld_differs s t c d (glue rest b) placed.0.differs)) in
    omega (arith, after, apart)
