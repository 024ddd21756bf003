-- What two levels, and two trees, have in common.
use Rattle.std.specs.Prelude.{Option, Some, None}
use Rattle.rx_value.specs.declared.order.Span.{Span}
use Rattle.rx_value.specs.Spans.{meet_span}
use Rattle.rx_tree.specs.Tree.{Level, Tree}
use Rattle.rx_tree.specs.Tree.Level.{end, item}
use Rattle.rx_tree.specs.Tree.Tree.{everything, nothing, items}
use Rattle.rx_tree.specs.Weld.{weld, glue}

-- none for a level without items
abbrev pub unless_end : Level → Option Level
unless_end end = None
unless_end (item s c rest) = Some (item s c rest)

-- what goes on below both of two items, where the empty level means all and none means nothing; the function gives it where both have children
abbrev pub meet_child : (Level → Level) → Level → Level → Option Level
meet_child f end d = Some d
meet_child f (item s c rest) end = Some (item s c rest)
meet_child f (item s c rest) (item t d more) = unless_end (f (item t d more))

-- a part of a level: a span, and the level below it
pub record Piece : Type 0 where
  pub span : Span
  pub below : Level

-- the part of a span and a level, where there are both
abbrev pub piece_of : Option Span → Option Level → Option Piece
piece_of None c = None
piece_of (Some s) None = None
piece_of (Some s) (Some c) = Some (record { span = s; below = c })

-- a part, where there is one, before a level
abbrev pub put_piece : Option Piece → Level → Level
put_piece None rest = rest
put_piece (Some p) rest = weld p.span p.below rest

-- what one item and a level have in common
abbrev pub across : (Level → Level) → Level → Span → Level → Level
across f c s end = end
across f c s (item t d rest) = put_piece (piece_of (meet_span s t) (meet_child f c d)) (across f c s rest)

-- what two levels have in common, item by item of the first
abbrev pub both : Level → Level → Level
both end h = end
both (item s c rest) h = glue (across (both c) c s h) (both rest h)

-- the tree of a level that isn't all: nothing where there are no items
abbrev pub tree_of_items : Level → Tree
tree_of_items end = nothing
tree_of_items (item s c rest) = items (item s c rest)

-- what two trees have in common
abbrev pub tree_and : Tree → Tree → Tree
tree_and everything u = u
tree_and nothing u = nothing
tree_and (items l) everything = items l
tree_and (items l) nothing = nothing
tree_and (items l) (items m) = tree_of_items (both l m)
