-- Lines of traces and texts of ranges, by examples.
use Rattle.std.proofs.Common.{◌≡◌, ℕ, Bool, true, false, List, [], ◌∷◌, ◌++◌, codes, Some, None, refl}
use Rattle.std.specs.Prelude.{pos, ⊤}
use Rattle.std.specs.Fmt.{digits}
use Rattle.std.specs.Str.{is_utf8, chars}
use Rattle.std.specs.Str.Lossy.{utf8_lossy, utf8_valid_len}
use lib.Utf8.{encode}
use Rattle.serde_json.proofs.OnLiterals.{serde_json_on_literals}
use Rattle.rx_value.specs.declared.values.Value.{Value}
use Rattle.rx_value.specs.declared.values.Value.TheVariants.{Null, Int, Text}
use Rattle.rx_value.specs.declared.order.End.TheVariants.{Last}
use Rattle.rx_value.specs.declared.ranges.KeyRange.{KeyRange}
use Rattle.rx_value.specs.declared.shapes.ColType.TheVariants.{Whole as Numbers, VarChar}
use Rattle.rx_value.specs.declared.shapes.Column.{Column}
use Rattle.rx_value.specs.declared.shapes.Part.{Part}
use Rattle.rx_value.specs.declared.shapes.Schema.{Schema}
use Rattle.rx_value.specs.Order.{below, above}
use Rattle.rx_cost.specs.declared.candidates.Kind.TheVariants as kind
use Rattle.rx_cost.specs.declared.candidates.Role.TheVariants as role
use Rattle.rx_cost.specs.declared.candidates.Reason.TheVariants as reason
use Rattle.rx_cost.specs.declared.candidates.Candidate.{Candidate}
use Rattle.rx_trace.specs.Ranges.{range_text}
use Rattle.rx_trace.specs.Trace.{Trace, trace_data, trace_line}

-- what an example unfolds
unfoldable computed : ⊤
unfolding trace_line trace_data utf8_lossy utf8_valid_len is_utf8 chars encode digits serde_json_on_literals
computed = tt

-- columns and parts
abbrev whole_column : List ℕ → Bool → Column
whole_column name nullable = record { name = name; kind = Numbers 32 true; nullable = nullable }

abbrev part : ℕ → Bool → Part
part column falls = record { column = column; descending = falls; chars = None }

abbrev schema : Schema
schema = record {
  table = codes "t";
  columns = whole_column (codes "key_part1") true ∷ whole_column (codes "key_part2") false ∷ record { name = codes "key_part3"; kind = VarChar 10; nullable = false } ∷ [];
  indexes = record { name = codes "k"; primary = false; unique = false; parts = part 0 false ∷ part 1 false ∷ part 2 false ∷ [] } ∷ [];
}

-- the keys whose first part is 1
abbrev ones : KeyRange
ones = record { points = Int (pos 1) ∷ []; last = None }

abbrev candidates : List Candidate
candidates =
    record { kind = kind.Table; scans = []; cost = 34; rows = 7; index_only = false }
    ∷ record { kind = kind.Index; scans = record { index = 0; role = role.Whole; member = 1; part = 0; ranges = []; dives = false; rows = 7 } ∷ []; cost = 34; rows = 7; index_only = true }
    ∷ record { kind = kind.Range; scans = record { index = 0; role = role.Scan; member = 1; part = 0; ranges = ones ∷ []; dives = true; rows = 3 } ∷ []; cost = 29; rows = 3; index_only = true }
    ∷ []

abbrev trace : Trace
trace = record { statement = 2; all = candidates; chosen = 2; answers = reason.Ranges ∷ []; dive_seeks = 2; reads = record { seeks = 2; entries = 3; rows = 0 } }

-- SELECT * .. WHERE key_part1 = 1
line : trace_line schema trace
    ≡ codes "{\"chosen_range_access_summary\":{\"cost\":29,\"n\":3,\"type\":\"range_scan\"},\"range_analysis\":{\"analyzing_index_merge_union\":[],\"analyzing_roworder_intersect\":[],\"covering_index_scans\":[{\"cost\":34,\"index_only\":true,\"n\":2,\"rows\":7,\"scans\":[{\"dives\":false,\"index\":\"k\",\"member\":1,\"ranges\":[],\"role\":\"whole\",\"rows\":7}],\"type\":\"index_scan\"}],\"group_index_range\":[],\"potential_range_indexes\":[{\"answer\":\"ranges\",\"index\":\"k\"}],\"range_scan_alternatives\":[{\"cost\":29,\"index_only\":true,\"n\":3,\"rows\":3,\"scans\":[{\"dives\":true,\"index\":\"k\",\"member\":1,\"ranges\":[\"key_part1 = 1\"],\"role\":\"scan\",\"rows\":3}],\"type\":\"range_scan\"}],\"skip_scan_range\":[],\"table_scan\":{\"cost\":34,\"index_only\":false,\"n\":1,\"rows\":7,\"scans\":[],\"type\":\"table_scan\"}},\"reads\":{\"dive_seeks\":2,\"entries\":3,\"rows\":0,\"seeks\":2},\"statement\":2}" ++ 10 ∷ []
unfolding computed
line = refl

-- a table whose columns have short names, and an index on them whose second part falls
abbrev falling : Schema
falling = record {
  table = codes "t";
  columns = whole_column (codes "a") false ∷ whole_column (codes "b") true ∷ record { name = codes "s"; kind = VarChar 10; nullable = false } ∷ [];
  indexes = [];
}

abbrev parts : List Part
parts = part 0 false ∷ part 1 true ∷ part 2 false ∷ []

abbrev i : ℕ → Value
i n = Int (pos n)

-- points and a span on a part that falls
fallen : range_text falling parts 0 (record { points = i 1 ∷ []; last = Some (record { lo = above (i 1); hi = Last }) }) ≡ codes "a = 1 AND b > 1"
unfolding computed
fallen = refl

-- a span without NULL on a part that may be NULL, and falls
not_null : range_text falling parts 1 (record { points = []; last = Some (record { lo = above Null; hi = below (i 5) }) }) ≡ codes "5 > b > NULL"
unfolding computed
not_null = refl

-- a span of all keys of a part that is never NULL
all_keys : range_text falling parts 0 (record { points = []; last = Some (record { lo = above Null; hi = Last }) }) ≡ codes "a"
unfolding computed
all_keys = refl

-- a span of texts
texts : range_text falling parts 2 (record { points = []; last = Some (record { lo = below (Text (codes "a")); hi = below (Text (codes "b")) }) }) ≡ codes "'a' <= s < 'b'"
unfolding computed
texts = refl

-- a point that is NULL, and a text with bytes that aren't printed as they are
escapes : range_text falling parts 1 (record { points = Null ∷ Text (39 ∷ 92 ∷ 126 ∷ 127 ∷ 10 ∷ []) ∷ []; last = None }) ≡ codes "b IS NULL AND s = '''\\\\~\\x7f\\x0a'"
unfolding computed
escapes = refl

-- a range without points and span, and one of a part that isn't there
nothing : range_text falling parts 0 (record { points = []; last = None }) ≡ []
nothing = refl

beyond : range_text falling parts 3 (record { points = i 1 ∷ []; last = None }) ≡ codes " = 1"
unfolding computed
beyond = refl
