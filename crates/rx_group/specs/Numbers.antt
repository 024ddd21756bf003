-- Numbers of lists of values in the order in which they came.
use Rattle.std.specs.Prelude.{◌≡◌, ℕ, suc, List, [], ◌∷◌, ◌++◌, Option, Some, None, unwrap_or, get_or, set, length, nat_lt, if◌then◌else◌}
use Rattle.std.specs.Option.{option_map}
use Rattle.std.specs.BTreeMap.{BTreeMap, get}
use Rattle.rx_value.specs.declared.values.Value.{Value}
use Rattle.rx_group.specs.Classes.{values_cmp, same_values}

-- the place of the first list that is equal to one
abbrev pub place_of : List Value → List (List Value) → Option ℕ
place_of key [] = None
place_of key (k ∷ ks) = if same_values key k then Some 0 else option_map suc (place_of key ks)

-- a map has the place of each list
abbrev pub Numbers : List (List Value) → BTreeMap (List Value) ℕ → Type 0
Numbers keys map = (key : List Value) → get values_cmp map key ≡ place_of key keys

-- The number of a list is what the map has of it, or the next, which the map has of it afterwards.
pub record Notes (old new : BTreeMap (List Value) ℕ) (key : List Value) (next number : ℕ) : Type 0 where
  pub number_is : number ≡ unwrap_or (get values_cmp old key) next
  pub noted : (q : List Value) → get values_cmp new q ≡ (if same_values key q then Some number else get values_cmp old q)

-- an element put at the end of the list at a place, or alone behind all lists
abbrev pub added : {X : Type 0} → List (List X) → ℕ → X → List (List X)
added lists place x =
    if nat_lt place (length lists) then set lists place (get_or lists place [] ++ x ∷ []) else lists ++ (x ∷ []) ∷ []
