-- The text of a range: its points and its span, each with the name of the column that it limits.
use Rattle.std.specs.Prelude.{ℕ, ◌+◌, ◌/◌, ◌%◌, Bool, true, false, ◌==◌, nat_le, ◌&&◌, if◌then◌else◌, List, [], ◌∷◌, ◌++◌, map, length, codes, slice_get, Option, Some, None, option_and_then, option_to_list}
use Rattle.std.specs.List.{flat_map, enumerate_from, join_by}
use Rattle.std.specs.Fmt.{digits, signed_decimal}
use Rattle.std.specs.Str.Lossy.{utf8_lossy}
use Rattle.rx_value.specs.declared.values.Value.{Value}
use Rattle.rx_value.specs.declared.values.Value.TheVariants.{Null, Int, Text}
use Rattle.rx_value.specs.declared.order.Side.TheVariants.{Below, Above}
use Rattle.rx_value.specs.declared.order.End.{End}
use Rattle.rx_value.specs.declared.order.End.TheVariants.{Cut, Last}
use Rattle.rx_value.specs.declared.order.Span.{Span}
use Rattle.rx_value.specs.declared.ranges.KeyRange.{KeyRange}
use Rattle.rx_value.specs.declared.shapes.Column.{Column}
use Rattle.rx_value.specs.declared.shapes.Part.{Part}
use Rattle.rx_value.specs.declared.shapes.Schema.{Schema}

-- a byte of a text: an apostrophe and a backslash are doubled, a byte that isn't printed in ASCII is told by two hexadecimal digits
abbrev pub quoted_byte : ℕ → List ℕ
quoted_byte b =
    if b == 39 then codes "''"
    else (if b == 92 then codes "\\\\"
    else (if nat_le 32 b && nat_le b 126 then b ∷ []
    else codes "\\x" ++ digits 16 false (b / 16) ++ digits 16 false (b % 16)))

-- NULL by its name, an integer in decimal digits, a text between apostrophes
abbrev pub value_text : Value → List ℕ
value_text Null = codes "NULL"
value_text (Int n) = signed_decimal n
value_text (Text text) = 39 ∷ flat_map quoted_byte text ++ 39 ∷ []

-- a column with this name, and the value that it equals
abbrev pub equation_text : List ℕ → Value → List ℕ
equation_text name v = name ++ codes " = " ++ value_text v

-- a point of a column with this name
abbrev pub point_text : List ℕ → Value → List ℕ
point_text name Null = name ++ codes " IS NULL"
point_text name (Int n) = equation_text name (Int n)
point_text name (Text text) = equation_text name (Text text)

-- the value at the lower end of a span, and whether the span has it; none where the span has all but NULL of a part that is never NULL
abbrev pub lower_limit : Bool → End → Option (Value × Bool)
lower_limit nullable Last = None
lower_limit nullable (Cut v Below) = Some (v, true)
lower_limit true (Cut v Above) = Some (v, false)
lower_limit false (Cut Null Above) = None
lower_limit false (Cut v Above) = Some (v, false)

-- the value at the upper end of a span, and whether the span has it; none where the span has all above its lower end
abbrev pub upper_limit : End → Option (Value × Bool)
upper_limit Last = None
upper_limit (Cut v Above) = Some (v, true)
upper_limit (Cut v Below) = Some (v, false)

-- the end of a span that comes first on a part that rises, or falls
abbrev pub limit_before : Bool → Bool → Span → Option (Value × Bool)
limit_before nullable false s = lower_limit nullable s.lo
limit_before nullable true s = upper_limit s.hi

-- the other end
abbrev pub limit_behind : Bool → Bool → Span → Option (Value × Bool)
limit_behind nullable false s = upper_limit s.hi
limit_behind nullable true s = lower_limit nullable s.lo

-- how two values compare that stand in the order of a part that rises, or falls, where they may be equal, or not
abbrev pub sign_of : Bool → Bool → List ℕ
sign_of false true = codes " <= "
sign_of false false = codes " < "
sign_of true true = codes " >= "
sign_of true false = codes " > "

-- a limit before the name
abbrev pub text_before : Bool → Option (Value × Bool) → List ℕ
text_before falls None = []
text_before falls (Some limit) = value_text limit.0 ++ sign_of falls limit.1

-- a limit behind the name
abbrev pub text_behind : Bool → Option (Value × Bool) → List ℕ
text_behind falls None = []
text_behind falls (Some limit) = sign_of falls limit.1 ++ value_text limit.0

-- a span of a column with this name that may be NULL, or not, on a part that falls, or rises
abbrev pub span_text : List ℕ → Bool → Bool → Span → List ℕ
span_text name nullable falls s =
    text_before falls (limit_before nullable falls s) ++ name ++ text_behind falls (limit_behind nullable falls s)

-- the column of the part at a place, where both are there
abbrev pub column_at : Schema → List Part → ℕ → Option Column
column_at schema parts place = option_and_then (λ p. slice_get schema.columns p.column) (slice_get parts place)

-- the name of a column, in which what is no UTF-8 is replaced; empty where the column isn't there
abbrev pub column_name : Option Column → List ℕ
column_name None = []
column_name (Some column) = utf8_lossy column.name

-- the column is there and may be NULL
abbrev pub is_nullable : Option Column → Bool
is_nullable None = false
is_nullable (Some column) = column.nullable

-- the part at a place is there and falls
abbrev pub falls_at : List Part → ℕ → Bool
falls_at parts place = elim (slice_get parts place) [ Some part ↦ part.descending | None ↦ false ]

-- a point on the part at its place
abbrev pub point_at : Schema → List Part → ℕ × Value → List ℕ
point_at schema parts point = point_text (column_name (column_at schema parts point.0)) point.1

-- a span on the part at a place
abbrev pub span_at : Schema → List Part → ℕ → Span → List ℕ
span_at schema parts place s =
    span_text (column_name (column_at schema parts place)) (is_nullable (column_at schema parts place)) (falls_at parts place) s

-- the points of a range that begins at the part at a place
abbrev pub points_of : Schema → List Part → ℕ → KeyRange → List (List ℕ)
points_of schema parts from r = map (point_at schema parts) (enumerate_from from r.points)

-- its span, where it has one, on the part behind them
abbrev pub last_of : Schema → List Part → ℕ → KeyRange → List (List ℕ)
last_of schema parts from r = map (span_at schema parts (from + length r.points)) (option_to_list r.last)

-- a range of parts from the one at a place on
abbrev pub range_text : Schema → List Part → ℕ → KeyRange → List ℕ
range_text schema parts from r = join_by (λ t. t) (codes " AND ") (points_of schema parts from r ++ last_of schema parts from r)
