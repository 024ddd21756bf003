-- The text of `optimizer_switch`.
use Rattle.std.specs.Prelude.{ℕ, Bool, true, false, not, ◌&&◌, ◌||◌, List, [], ◌∷◌, ◌++◌, codes, Option, Some, None, is_some, filter_map, ◌==◌, if◌then◌else◌}
use Rattle.std.specs.Option.{option_or, option_map}
use Rattle.std.specs.List.{list_any, list_all, slice_split}
use Rattle.rx_value.specs.Names.{same_name}
use Rattle.rx_query.specs.declared.statements.Setting.{Setting}
use Rattle.rx_query.specs.declared.statements.Setting.TheVariants.{Merge, Intersection, UnionOn, SortUnion, Skip, DiveLimit, Memory, Trace}

-- the items of a text, parted by commas
abbrev pub parted : List ℕ → List (List ℕ)
parted text = slice_split (λ b. b == 44) text

-- `default`
abbrev pub is_default : List ℕ → Bool
is_default item = same_name item (codes "default")

-- whether a flag is on, where an item sets it on, off or to its default, which is on
abbrev pub flag_state : List ℕ → List ℕ → List ℕ → List ℕ → Option Bool
flag_state item on off by_default =
    if same_name item on || same_name item by_default then Some true
    else (if same_name item off then Some false else None)

-- what an item sets of index merges, and of intersections
unfoldable pub merge_flag_of : List ℕ → Option Setting
merge_flag_of item =
    option_or (option_map (λ on. Merge on)
    (flag_state item (codes "index_merge=on") (codes "index_merge=off") (codes "index_merge=default")))
    (option_map (λ on. Intersection on) (flag_state item
    (codes "index_merge_intersection=on") (codes "index_merge_intersection=off") (codes "index_merge_intersection=default")))

-- what an item sets of unions, and of unions that sort
unfoldable pub union_flag_of : List ℕ → Option Setting
union_flag_of item =
    option_or (option_map (λ on. UnionOn on)
    (flag_state item (codes "index_merge_union=on") (codes "index_merge_union=off") (codes "index_merge_union=default")))
    (option_map (λ on. SortUnion on) (flag_state item
    (codes "index_merge_sort_union=on") (codes "index_merge_sort_union=off") (codes "index_merge_sort_union=default")))

-- the flag that an item sets, one of five
unfoldable pub flag_of : List ℕ → Option Setting
flag_of item =
    option_or (merge_flag_of item) (option_or (union_flag_of item)
    (option_map (λ on. Skip on) (flag_state item (codes "skip_scan=on") (codes "skip_scan=off") (codes "skip_scan=default"))))

-- an item of the switch
abbrev pub is_switch_item : List ℕ → Bool
is_switch_item item = is_default item || is_some (flag_of item)

-- two settings are of one flag
abbrev pub same_flag : Setting → Setting → Bool
same_flag (Merge a) (Merge b) = true
same_flag (Intersection a) (Intersection b) = true
same_flag (UnionOn a) (UnionOn b) = true
same_flag (SortUnion a) (SortUnion b) = true
same_flag (Skip a) (Skip b) = true
same_flag _ _ = false

-- a flag stands twice
abbrev pub repeats : List Setting → Bool
repeats [] = false
repeats (setting ∷ others) = list_any (same_flag setting) others || repeats others

-- the five flags with their defaults
abbrev pub default_flags : List Setting
default_flags = Merge true ∷ Intersection true ∷ UnionOn true ∷ SortUnion true ∷ Skip true ∷ []

-- the flags' defaults, where an item says so
abbrev pub defaults_first : List (List ℕ) → List Setting
defaults_first items = if list_any is_default items then default_flags else []

-- the flags that items set, in order
abbrev pub flags_of : List (List ℕ) → List Setting
flags_of items = filter_map flag_of items

-- What items set: each is `default`, which acts first, or a flag, each flag once.
abbrev pub switch_of_items : List (List ℕ) → Option (List Setting)
switch_of_items items =
    if list_all is_switch_item items && not (repeats (flags_of items)) then Some (defaults_first items ++ flags_of items) else None

-- what a text sets
abbrev pub switch_of_text : List ℕ → Option (List Setting)
switch_of_text text = switch_of_items (parted text)
