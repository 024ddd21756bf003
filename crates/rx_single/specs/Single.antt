-- The positions of a part at which a single test can have a truth, as spans.
use Rattle.std.specs.Prelude.{◌≡◌, ◌&&◌, ℕ, Bool, true, false, if◌then◌else◌, List, [], ◌∷◌, Option, Some, None}
use Rattle.std.specs.declared.cmp.Ordering.{Ordering}
use Rattle.std.specs.declared.cmp.Ordering.TheVariants.{Less, Equal, Greater}
use Rattle.rx_value.specs.declared.values.Value.{Value}
use Rattle.rx_value.specs.declared.values.Value.TheVariants.{Null}
use Rattle.rx_value.specs.declared.order.End.{End}
use Rattle.rx_value.specs.declared.order.End.TheVariants.{Last}
use Rattle.rx_value.specs.declared.order.Span.{Span}
use Rattle.rx_value.specs.Order.{below, above}
use Rattle.rx_value.specs.Keys.{point_span}
use Rattle.rx_tree.specs.Member.{IsPosition}
use Rattle.rx_tree.specs.Points.{AreSpans, is_inside_any}
use Rattle.rx_cond.specs.declared.conds.Op.{Op}
use Rattle.rx_cond.specs.declared.conds.Op.TheVariants.{SafeEq}
use Rattle.rx_cond.specs.Tri.{tri_of}
use Rattle.rx_cond.specs.Test.{holds}
use Rattle.rx_regions.specs.Places.{place, is_at, cut_true, cut_false}
use Rattle.rx_regions.specs.Cans.{is_so}
use Rattle.rx_single.specs.declared.regions.Flags.{Flags}

-- spans of a part that rise, don't touch, and hold exactly the positions that pass a test
pub record AreSpansOf (nullable : Bool) (spans : List Span) (test : End → Bool) : Type 0 where
  pub apart : AreSpans nullable spans
  pub positions : (p : End) → IsPosition nullable p → is_inside_any spans p ≡ test p

-- what is said of a position that stands so to a value
abbrev pub pick : Flags → Ordering → Bool
pick f Less = f.low
pick f Equal = f.at
pick f Greater = f.high

-- what is said of a position: at NULL, or by how it stands to a value that isn't NULL
abbrev pub says : Flags → Value → End → Bool
says f v p = if is_at p Null then f.null else pick f (place p v)

-- a span before others, where it is told to be there
abbrev pub listed : Bool → Span → List Span → List Span
listed true s rest = s ∷ rest
listed false s rest = rest

-- the regions of which something is said: NULL, what lies between NULL and a value, its point, and what lies above it
abbrev pub regions : Bool → Value → Flags → List Span
regions nullable v f =
    listed (f.null && nullable) (point_span Null)
    (listed f.low (record { lo = above Null; hi = below v })
    (listed f.at (point_span v)
    (listed f.high (record { lo = above v; hi = Last }) [])))

-- a comparison with a value that isn't NULL can have this truth at NULL
abbrev pub null_can : Bool → Op → Bool
null_can false SafeEq = true
null_can sign op = false

-- it can have this truth where a position of a whole part, or of a cut one, that isn't NULL stands so to the value, or the cut value
abbrev pub order_can : Bool → Op → Option ℕ → Ordering → Bool
order_can sign op None order = is_so sign (tri_of (holds op order))
order_can true op (Some n) order = cut_true op order
order_can false op (Some n) order = cut_false op order

-- what a comparison with a value says of the regions of that value, or of what a cut part has of it
abbrev pub flags_of : Bool → Op → Option ℕ → Flags
flags_of sign op chars =
    record { null = null_can sign op; low = order_can sign op chars Less; at = order_can sign op chars Equal; high = order_can sign op chars Greater }
