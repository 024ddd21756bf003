-- Lists of row ids, and those of the members of a merge.
use Rattle.std.specs.Prelude.{◌≡◌, ℕ, ◌<◌, Bool, nat_eq, if◌then◌else◌, List, [], length, filter, Option, Some, None}
use Rattle.std.specs.Ordering.{nat_cmp}
use Rattle.std.specs.List.{list_any, list_all}
use Rattle.std.specs.BTreeMap.{BTreeMap, get}

-- an id is one of these
abbrev pub has_id : List ℕ → ℕ → Bool
has_id ids id = list_any (nat_eq id) ids

-- the ids of a member with one scan more: those that the scan found, and were the member's where it had a scan before
abbrev pub met_ids : Option (List ℕ) → List ℕ → List ℕ
met_ids None found = found
met_ids (Some ids) found = filter (has_id found) ids

-- one more scan of a member found these ids, and the others keep theirs
abbrev pub MeetsAt : BTreeMap ℕ (List ℕ) → BTreeMap ℕ (List ℕ) → ℕ → List ℕ → Type 0
MeetsAt old new member found =
    (number : ℕ) → get nat_cmp new number ≡ (if nat_eq member number then Some (met_ids (get nat_cmp old member) found) else get nat_cmp old number)

-- the ids of a member are none where nothing is of it, else those that all of these pass
abbrev pub HasOfAll : {X : Type 0} → (X → ℕ → Bool) → List X → Option (List ℕ) → Type 0
HasOfAll passes these None = these ≡ []
HasOfAll passes these (Some ids) = (0 < length these) × ((id : ℕ) → has_id ids id ≡ list_all (λ x. passes x id) these)
