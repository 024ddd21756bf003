-- Canonical trees: one form for each set of tuples.
use Rattle.std.specs.Prelude.{◌≡◌, Bool, List, [], ◌∷◌}
use Rattle.rx_value.specs.declared.order.End.{End}
use Rattle.rx_value.specs.declared.order.Span.{Span}
use Rattle.rx_value.specs.Spans.{IsAtMost, IsSpan, first_end, whole_span}
use Rattle.rx_tree.specs.Tree.{Level, Tree}
use Rattle.rx_tree.specs.Tree.Level.{end, item}
use Rattle.rx_tree.specs.Tree.Tree.{everything, nothing, items}

-- the first of these items, where there is one, begins at this end or later
abbrev pub BeginsFrom : End → Level → Type 0
BeginsFrom e end = Unit {0}
BeginsFrom e (item s c rest) = IsAtMost e s.lo

-- the first of these items, where it touches this span, has another child
abbrev pub Differs : Span → Level → Level → Type 0
Differs s c end = Unit {0}
Differs s c (item t d rest) = s.hi ≡ t.lo → c ≡ d → ⊥

-- An item of a part is in its place: its ends rise, it begins no lower than the first position of the part,
-- the items after it rise and are disjoint from it, and a touching neighbour has another child.
pub record IsPlaced (nullable : Bool) (s : Span) (c rest : Level) : Type 0 where
  pub span : IsSpan s
  pub from : IsAtMost (first_end nullable) s.lo
  pub rises : BeginsFrom s.hi rest
  pub differs : Differs s c rest

-- a level isn't one whole item without a child, which would stand in place of everything
abbrev pub IsNotAll : List Bool → Level → Type 0
IsNotAll [] l = Unit {0}
IsNotAll (n ∷ ns) l = l ≡ item (whole_span n) end end → ⊥

-- The items of a level and of the levels below it are in their places. The levels end with the last part, and none below an item is all.
abbrev pub ArePlaced : List Bool → Level → Type 0
ArePlaced parts end = Unit {0}
ArePlaced [] (item s c rest) = ⊥
ArePlaced (n ∷ ns) (item s c rest) = IsPlaced n s c rest × IsNotAll ns c × ArePlaced ns c × ArePlaced (n ∷ ns) rest

-- A level is canonical, with or without items: as a child, the empty one means everything.
pub record IsCanonicalLevel (parts : List Bool) (l : Level) : Type 0 where
  pub placed : ArePlaced parts l
  pub not_all : IsNotAll parts l

-- A tree over these parts is canonical: everything, nothing, or a canonical level that has items.
abbrev pub IsCanonical : List Bool → Tree → Type 0
IsCanonical parts everything = Unit {0}
IsCanonical parts nothing = Unit {0}
IsCanonical parts (items end) = ⊥
IsCanonical parts (items (item s c rest)) = IsCanonicalLevel parts (item s c rest)
