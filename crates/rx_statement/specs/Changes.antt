-- What a SET statement sets, or the first setting that it can't.
use Rattle.std.specs.Prelude.{ℕ, Bool, true, false, ◌&&◌, ◌||◌, List, [], ◌∷◌, codes, Option, Some, None, is_none, unwrap_or, find, flat_map, nat_le, ◌==◌, not, Result, if◌then◌else◌}
use Rattle.std.specs.Option.{option_map}
use Rattle.rx_value.specs.Names.{same_name}
use Rattle.rx_script.specs.declared.statements.RawValue.{RawValue}
use Rattle.rx_script.specs.declared.statements.RawValue.TheVariants.{Number, Text, Default}
use Rattle.rx_script.specs.declared.statements.RawSetting.{RawSetting}
use Rattle.rx_query.specs.declared.statements.Setting.{Setting}
use Rattle.rx_query.specs.declared.statements.Setting.TheVariants.{DiveLimit, Memory, Trace}
use Rattle.rx_statement.specs.declared.faults.What.{What}
use Rattle.rx_statement.specs.declared.faults.What.TheVariants.{BadSetting}
use Rattle.rx_statement.specs.Outcomes.{unless_refused}
use Rattle.rx_statement.specs.Switches.{default_flags, switch_of_text}

-- a number from 0 to a limit; -0 is 0
abbrev pub is_up_to : ℕ → Bool → ℕ → Bool
is_up_to limit negative n = nat_le n limit && (not negative || n == 0)

-- what `optimizer_switch` takes
abbrev pub switch_of : RawValue → Option (List Setting)
switch_of (Number negative n) = None
switch_of (Text text) = switch_of_text text
switch_of Default = Some default_flags

-- what `eq_range_index_dive_limit` takes
abbrev pub dive_limit_of : RawValue → Option Setting
dive_limit_of (Number negative n) = if is_up_to 4294967295 negative n then Some (DiveLimit n) else None
dive_limit_of (Text text) = None
dive_limit_of Default = Some (DiveLimit 200)

-- what `range_optimizer_max_mem_size` takes
abbrev pub memory_of : RawValue → Option Setting
memory_of (Number negative n) = if is_up_to 18446744073709551615 negative n then Some (Memory n) else None
memory_of (Text text) = None
memory_of Default = Some (Memory 8388608)

-- the two texts of `optimizer_trace`
abbrev pub trace_of_text : List ℕ → Option Setting
trace_of_text text =
    if same_name text (codes "enabled=on") then Some (Trace true)
    else (if same_name text (codes "enabled=off") then Some (Trace false) else None)

-- what `optimizer_trace` takes
abbrev pub trace_of : RawValue → Option Setting
trace_of (Number negative n) = None
trace_of (Text text) = trace_of_text text
trace_of Default = Some (Trace false)

-- a setting as a list
abbrev pub one : Option Setting → Option (List Setting)
one None = None
one (Some setting) = Some (setting ∷ [])

-- what a setting sets, and none where there is no such setting or it takes no such value
unfoldable pub set_by : RawSetting → Option (List Setting)
set_by s =
    if same_name s.name (codes "optimizer_switch") then switch_of s.value
    else (if same_name s.name (codes "eq_range_index_dive_limit") then one (dive_limit_of s.value)
    else (if same_name s.name (codes "range_optimizer_max_mem_size") then one (memory_of s.value)
    else (if same_name s.name (codes "optimizer_trace") then one (trace_of s.value)
    else None)))

-- a setting that sets nothing
abbrev pub is_bad : RawSetting → Bool
is_bad s = is_none (set_by s)

-- what settings set, in the order of the text
abbrev pub all_set : List RawSetting → List Setting
all_set settings = flat_map (λ s. unwrap_or (set_by s) []) settings

-- The settings that a SET changes, or the first bad one.
unfoldable pub changed : List RawSetting → Result (List Setting) What
changed settings = unless_refused (option_map (λ s. BadSetting s.name) (find is_bad settings)) (all_set settings)
