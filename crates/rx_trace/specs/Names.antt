-- What a trace calls kinds, roles, reasons and indexes.
use Rattle.std.specs.Prelude.{ℕ, List, [], codes, Some, None, slice_get}
use Rattle.std.specs.Str.Lossy.{utf8_lossy}
use Rattle.rx_value.specs.declared.shapes.Index.{Index}
use Rattle.rx_value.specs.declared.shapes.Schema.{Schema}
use Rattle.rx_cost.specs.declared.candidates.Kind.{Kind}
use Rattle.rx_cost.specs.declared.candidates.Kind.TheVariants as kind
use Rattle.rx_cost.specs.declared.candidates.Role.{Role}
use Rattle.rx_cost.specs.declared.candidates.Role.TheVariants as role
use Rattle.rx_cost.specs.declared.candidates.Reason.{Reason}
use Rattle.rx_cost.specs.declared.candidates.Reason.TheVariants as reason

-- how a candidate reads the rows
abbrev pub name_of_kind : Kind → List ℕ
name_of_kind kind.Table = codes "table_scan"
name_of_kind kind.Index = codes "index_scan"
name_of_kind kind.Group = codes "group_scan"
name_of_kind kind.SkipScan = codes "skip_scan"
name_of_kind kind.Range = codes "range_scan"
name_of_kind kind.Intersect = codes "intersect"
name_of_kind kind.Union = codes "union"
name_of_kind kind.SortUnion = codes "sort_union"

-- what a scan is for
abbrev pub name_of_role : Role → List ℕ
name_of_role role.Whole = codes "whole"
name_of_role role.Group = codes "group"
name_of_role role.Constant = codes "constant"
name_of_role role.Prefix = codes "prefix"
name_of_role role.Skip = codes "skip"
name_of_role role.Scan = codes "scan"
name_of_role role.Filter = codes "filter"

-- what the condition says of an index
abbrev pub name_of_reason : Reason → List ℕ
name_of_reason reason.Ranges = codes "ranges"
name_of_reason reason.Whole = codes "whole"
name_of_reason reason.NoParts = codes "no_parts"
name_of_reason reason.Hint = codes "hint"

-- the name of an index, in which what is no UTF-8 is replaced
abbrev pub index_name : Index → List ℕ
index_name index = utf8_lossy index.name

-- the name of an index by its number, empty where it isn't there
abbrev pub name_at : Schema → ℕ → List ℕ
name_at schema n = elim (slice_get schema.indexes n) [ Some index ↦ index_name index | None ↦ [] ]
