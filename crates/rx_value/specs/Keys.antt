-- Keys of an index: the order of its parts, the key that a row has on it, and where bounds and ranges stand among keys.
use Rattle.std.specs.Prelude.{ℕ, Bool, true, false, List, [], ◌∷◌, ◌++◌, map, Option, Some, None, slice_get, unwrap_or}
use Rattle.std.specs.Fmt.{take_chars}
use Rattle.std.specs.declared.cmp.Ordering.{Ordering}
use Rattle.std.specs.declared.cmp.Ordering.TheVariants.{Less, Equal, Greater}
use Rattle.std.specs.Ordering.{ordering_then}
use Rattle.rx_value.specs.declared.values.Value.{Value}
use Rattle.rx_value.specs.declared.values.Value.TheVariants.{Null, Int, Text}
use Rattle.rx_value.specs.declared.order.End.{End}
use Rattle.rx_value.specs.declared.order.Span.{Span}
use Rattle.rx_value.specs.declared.ranges.KeyRange.{KeyRange}
use Rattle.rx_value.specs.declared.ranges.Rest.{Rest}
use Rattle.rx_value.specs.declared.ranges.Rest.TheVariants.{Start, Part as AtCut, Finish}
use Rattle.rx_value.specs.declared.shapes.Part.{Part}
use Rattle.rx_value.specs.Order.{value_cmp, end_cmp, is_at_most, below, above}
use Rattle.rx_value.specs.Range.{behind}

-- the value of a column at a row, NULL where the row lacks it
abbrev pub column_value : ℕ → List Value → Value
column_value column row = unwrap_or (slice_get row column) Null

-- a value as a part has it: a text is cut to the part's number of characters, where it has one
abbrev pub cut_value : Option ℕ → Value → Value
cut_value None v = v
cut_value (Some n) Null = Null
cut_value (Some n) (Int m) = Int m
cut_value (Some n) (Text text) = Text (take_chars n text)

-- what a row has on a part of an index
abbrev pub part_value : Part → List Value → Value
part_value part row = cut_value part.chars (column_value part.column row)

-- the key of a row on an index of these parts
abbrev pub key_of : List Part → List Value → List Value
key_of parts row = map (λ p. part_value p row) parts

-- the order of one part: on a falling part the greater value comes first, so that NULL comes last
abbrev pub part_cmp : Bool → Value → Value → Ordering
part_cmp false u v = value_cmp u v
part_cmp true u v = value_cmp v u

-- the order of the keys of an index: part by part
abbrev pub key_cmp : List Part → List Value → List Value → Ordering
key_cmp (p ∷ ps) (u ∷ us) (v ∷ vs) = ordering_then (part_cmp p.descending u v) (key_cmp ps us vs)
key_cmp _ _ _ = Equal

-- a value stands before a cut of its part: below the cut, and on a falling part above it
abbrev pub is_before_cut : Bool → Value → End → Bool
is_before_cut false v end = is_at_most (above v) end
is_before_cut true v end = is_at_most end (below v)

-- of the keys with a bound's points, one that goes on with these values stands before the bound
abbrev pub goes_before : Rest → List Part → List Value → Bool
goes_before Start parts values = false
goes_before Finish parts values = true
goes_before (AtCut end) (p ∷ ps) (v ∷ vs) = is_before_cut p.descending v end.now
goes_before (AtCut end) _ _ = false

-- A key stands before a bound: its first values come before the points, or they are these, and what follows goes before the rest.
abbrev pub is_before : List Value → Rest → List Part → List Value → Bool
is_before [] rest parts key = goes_before rest parts key
is_before (point ∷ points) rest (p ∷ ps) (v ∷ vs) =
    elim (part_cmp p.descending v point) [ Less ↦ true | Equal ↦ is_before points rest ps vs | Greater ↦ false ]
is_before (point ∷ points) rest _ _ = false

-- the first of these values is there and in the span, where there is one
abbrev pub goes_within : Option Span → List Value → Bool
goes_within None values = true
goes_within (Some span) [] = false
goes_within (Some span) (v ∷ vs) = elim (is_at_most span.lo (below v)) [ true ↦ is_at_most (above v) span.hi | false ↦ false ]

-- what follows a range's points, where it is there, goes on within the range
abbrev pub goes_on : Option Span → Option (List Value) → Bool
goes_on last None = false
goes_on last (Some values) = goes_within last values

-- a range holds a key, as a test
abbrev pub holds : KeyRange → List Value → Bool
holds r key = goes_on r.last (behind key r.points)

-- a point as a span
abbrev pub point_span : Value → Span
point_span v = record { lo = below v; hi = above v }

-- nothing, or one span
abbrev pub listed_span : Option Span → List Span
listed_span None = []
listed_span (Some span) = span ∷ []

-- what a range has on each part that it names, a point as a span
abbrev pub spans_in : KeyRange → List Span
spans_in r = map point_span r.points ++ listed_span r.last

-- two spans have the same ends
abbrev pub same_span : Span → Span → Bool
same_span s t = elim (end_cmp s.lo t.lo) [ Equal ↦ (elim (end_cmp s.hi t.hi) [ Equal ↦ true | _ ↦ false ]) | _ ↦ false ]

-- One span of a part comes before another: its upper end isn't above the other's lower one, and on a falling part its lower end isn't below
-- the other's upper one.
abbrev pub comes_first : Bool → Span → Span → Bool
comes_first false s t = is_at_most s.hi t.lo
comes_first true s t = is_at_most t.hi s.lo

-- two spans of a part differ, and the first comes before the second; or they don't, and then this decides
abbrev pub apart_so : Bool → Span → Span → Bool → Bool
apart_so falls s t same = elim (same_span s t) [ true ↦ same | false ↦ comes_first falls s t ]

-- at the first part at which they differ, both are there, and the first comes before the second
abbrev pub differ_so : List Bool → List Span → List Span → Bool
differ_so (falls ∷ more) (s ∷ ss) (t ∷ ts) = apart_so falls s t (differ_so more ss ts)
differ_so _ _ _ = false

-- One range is before another, on parts of which each falls or rises.
abbrev pub is_range_before : List Bool → KeyRange → KeyRange → Bool
is_range_before falling a b = differ_so falling (spans_in a) (spans_in b)
