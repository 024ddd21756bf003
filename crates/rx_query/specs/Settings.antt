-- The settings of a script.
use Rattle.std.specs.Prelude.{ℕ, Bool, true, false, List, [], ◌∷◌, Option, Some, None}
use Rattle.rx_query.specs.declared.statements.Setting.{Setting}
use Rattle.rx_query.specs.declared.statements.Setting.TheVariants.{Merge, Intersection, UnionOn, SortUnion, Skip, DiveLimit, Memory, Trace}
use Rattle.rx_query.specs.declared.settings.Settings.{Settings}
use Rattle.rx_query.specs.Steps.{Request, Step}
use Rattle.rx_query.specs.Steps.Request.{select, change}

-- a script begins with every flag on, 200 dives, 8 MiB and no trace
abbrev pub default_settings : Settings
default_settings = record { merge = true; intersection = true; union_on = true; sort_union = true; skip = true; dive_limit = 200; memory = 8388608; trace = false }

-- what a setting gives to `index_merge`
abbrev pub merge_in : Setting → Option Bool
merge_in (Merge on) = Some on
merge_in _ = None

-- what a setting gives to `index_merge_intersection`
abbrev pub intersection_in : Setting → Option Bool
intersection_in (Intersection on) = Some on
intersection_in _ = None

-- what a setting gives to `index_merge_union`
abbrev pub union_in : Setting → Option Bool
union_in (UnionOn on) = Some on
union_in _ = None

-- what a setting gives to `index_merge_sort_union`
abbrev pub sort_union_in : Setting → Option Bool
sort_union_in (SortUnion on) = Some on
sort_union_in _ = None

-- what a setting gives to `skip_scan`
abbrev pub skip_in : Setting → Option Bool
skip_in (Skip on) = Some on
skip_in _ = None

-- what a setting gives to `eq_range_index_dive_limit`
abbrev pub dive_limit_in : Setting → Option ℕ
dive_limit_in (DiveLimit limit) = Some limit
dive_limit_in _ = None

-- what a setting gives to `range_optimizer_max_mem_size`
abbrev pub memory_in : Setting → Option ℕ
memory_in (Memory bytes) = Some bytes
memory_in _ = None

-- what a setting gives to the trace
abbrev pub trace_in : Setting → Option Bool
trace_in (Trace on) = Some on
trace_in _ = None

-- a value, or the old one where there is none
abbrev pub given_or : {T : Type 0} → Option T → T → T
given_or (Some new) old = new
given_or None old = old

-- the last value that settings give, or the old one where none gives any
abbrev pub last_given : {T : Type 0} → (Setting → Option T) → List Setting → T → T
last_given given [] old = old
last_given given (setting ∷ rest) old = last_given given rest (given_or (given setting) old)

-- the settings after a list of changes: of each the last value given, else the old one
abbrev pub applied : Settings → List Setting → Settings
applied old listed = record {
  merge = last_given merge_in listed old.merge;
  intersection = last_given intersection_in listed old.intersection;
  union_on = last_given union_in listed old.union_on;
  sort_union = last_given sort_union_in listed old.sort_union;
  skip = last_given skip_in listed old.skip;
  dive_limit = last_given dive_limit_in listed old.dive_limit;
  memory = last_given memory_in listed old.memory;
  trace = last_given trace_in listed old.trace;
}

-- the settings after one change
abbrev pub with_setting : Settings → Setting → Settings
with_setting old setting = applied old (setting ∷ [])

-- the settings after a request
abbrev pub settings_after_request : Settings → Request → Settings
settings_after_request settings (select question) = settings
settings_after_request settings (change listed) = applied settings listed

-- the settings after a step
abbrev pub settings_after : Settings → Step → Settings
settings_after settings step = settings_after_request settings step.request
