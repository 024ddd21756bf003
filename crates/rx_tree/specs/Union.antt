-- The tuples of either of two levels, and of either of two trees.
use Rattle.std.specs.Prelude.{◌&&◌, Bool, false, cond, List, [], ◌∷◌, Some}
use Rattle.std.specs.declared.cmp.Ordering.TheVariants.{Greater}
use Rattle.rx_value.specs.declared.order.End.{End}
use Rattle.rx_value.specs.declared.order.Span.{Span}
use Rattle.rx_value.specs.Order.{end_cmp, is_at_most}
use Rattle.rx_value.specs.Spans.{later, earlier, span_of, is_whole_span}
use Rattle.rx_tree.specs.Tree.{Level, Tree, is_end}
use Rattle.rx_tree.specs.Tree.Level.{end, item}
use Rattle.rx_tree.specs.Tree.Tree.{everything, nothing, items}
use Rattle.rx_tree.specs.Weld.{weld}
use Rattle.rx_tree.specs.Meet.{piece_of, put_piece}

-- what lies between two ends, where the first is below the second, over this child and before a level
abbrev pub piece_between : End → End → Level → Level → Level
piece_between lo hi c rest = put_piece (piece_of (span_of lo hi) (Some c)) rest

-- The parts of two spans that overlap: what the one or the other has alone before both begin, what both have, over what the function
-- gives of their children, what the second has alone behind the first, and the rest.
abbrev pub overlaid : (Level → Level → Level) → Span → Level → Span → Level → Level → Level
overlaid f s c t d rest =
    piece_between s.lo t.lo c (piece_between t.lo s.lo d (piece_between (later s.lo t.lo) (earlier s.hi t.hi) (f c d) (piece_between s.hi t.hi d rest)))

-- An item laid over a level: behind an item that ends before it, before one that begins after it, else in parts, and what is left of it
-- is laid over the items that follow. The function gives what goes on below either of two children.
abbrev pub lay : (Level → Level → Level) → Span → Level → Level → Level
lay f s c end = item s c end
lay f s c (item t d rest) =
    cond (is_at_most t.hi s.lo) (weld t d (lay f s c rest))
    (cond (is_at_most s.hi t.lo) (weld s c (item t d rest))
    (overlaid f s c t d (elim (end_cmp s.hi t.hi) [ Greater ↦ lay f (record { lo = t.hi; hi = s.hi }) c rest | _ ↦ rest ])))

-- the items of one level laid over another
abbrev pub lay_all : (Level → Level → Level) → Level → Level → Level
lay_all f end b = b
lay_all f (item s c rest) b = lay f s c (lay_all f rest b)

-- a level is one whole item without a child
abbrev pub is_all : Bool → Level → Bool
is_all n end = false
is_all n (item s c rest) = is_whole_span n s && (is_end c && is_end rest)

-- what goes on below either of two children of these parts; the empty level means all
abbrev pub either_child : List Bool → Level → Level → Level
either_child [] c d = end
either_child (n ∷ ns) end d = end
either_child (n ∷ ns) (item s c rest) end = end
either_child (n ∷ ns) (item s c rest) (item t d more) =
    let l = lay_all (either_child ns) (item s c rest) (item t d more) in
    cond (is_all n l) end l

-- the tree of a level of these parts that has items
abbrev pub tree_of_level : List Bool → Level → Tree
tree_of_level [] l = everything
tree_of_level (n ∷ ns) l = cond (is_all n l) everything (items l)

-- the items of either level
abbrev pub either : List Bool → Level → Level → Level
either [] a b = end
either (n ∷ ns) a b = lay_all (either_child ns) a b

-- the tuples of either of two trees over these parts
abbrev pub tree_or : List Bool → Tree → Tree → Tree
tree_or parts everything u = everything
tree_or parts nothing u = u
tree_or parts (items l) everything = everything
tree_or parts (items l) nothing = items l
tree_or parts (items l) (items m) = tree_of_level parts (either parts l m)
