-- The tree of the tuples whose position at one part is in a listed span.
use Rattle.std.specs.Prelude.{◌||◌, ℕ, zero, suc, Bool, false, cond, List, [], ◌∷◌}
use Rattle.rx_value.specs.declared.order.End.{End}
use Rattle.rx_value.specs.declared.order.Span.{Span}
use Rattle.rx_value.specs.Spans.{IsAtMost, IsBelow, IsSpan, is_inside, first_end, whole_span, is_whole_span}
use Rattle.rx_tree.specs.Tree.{Level, Tree}
use Rattle.rx_tree.specs.Tree.Level.{end, item}
use Rattle.rx_tree.specs.Tree.Tree.{everything, nothing, items}

-- spans that rise and don't touch, all above this end
abbrev pub AreApart : End → List Span → Type 0
AreApart e [] = Unit {0}
AreApart e (s ∷ rest) = IsBelow e s.lo × IsSpan s × AreApart s.hi rest

-- spans of a part that rise and don't touch, none below its first position
abbrev pub AreSpans : Bool → List Span → Type 0
AreSpans nullable [] = Unit {0}
AreSpans nullable (s ∷ rest) = IsAtMost (first_end nullable) s.lo × IsSpan s × AreApart s.hi rest

-- such spans of the part k, which is one of the parts
abbrev pub AreSpansAt : List Bool → ℕ → List Span → Type 0
AreSpansAt [] k spans = ⊥
AreSpansAt (n ∷ ns) zero spans = AreSpans n spans
AreSpansAt (n ∷ ns) (suc k) spans = AreSpansAt ns k spans

-- a position is in one of the spans
abbrev pub is_inside_any : List Span → End → Bool
is_inside_any [] p = false
is_inside_any (s ∷ rest) p = is_inside s p || is_inside_any rest p

-- the position of a tuple at part k is in one of the spans
abbrev pub is_inside_at : ℕ → List Span → List End → Bool
is_inside_at k spans [] = false
is_inside_at zero spans (p ∷ ps) = is_inside_any spans p
is_inside_at (suc k) spans (p ∷ ps) = is_inside_at k spans ps

-- the spans are one that is whole
abbrev pub is_whole_list : Bool → List Span → Bool
is_whole_list nullable (s ∷ []) = is_whole_span nullable s
is_whole_list nullable _ = false

-- the spans are the whole part k as one
abbrev pub is_whole_at : List Bool → ℕ → List Span → Bool
is_whole_at [] k spans = false
is_whole_at (n ∷ ns) zero spans = is_whole_list n spans
is_whole_at (n ∷ ns) (suc k) spans = is_whole_at ns k spans

-- an item without a child for each span
abbrev pub items_of : List Span → Level
items_of [] = end
items_of (s ∷ rest) = item s end (items_of rest)

-- these items at part k, under one whole item of each part before it
abbrev pub items_at : List Bool → ℕ → List Span → Level
items_at [] k spans = end
items_at (n ∷ ns) zero spans = items_of spans
items_at (n ∷ ns) (suc k) spans = item (whole_span n) (items_at ns k spans) end

-- The tree of the tuples whose position at part k is in one of the spans: nothing for no span, everything for the whole part.
abbrev pub point_tree : List Bool → ℕ → List Span → Tree
point_tree parts k [] = nothing
point_tree parts k (s ∷ rest) = cond (is_whole_at parts k (s ∷ rest)) everything (items (items_at parts k (s ∷ rest)))
