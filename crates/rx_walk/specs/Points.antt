-- Values that are borrowed, in places of which the first ones are taken.
use Rattle.std.specs.Prelude.{◌≡◌, ℕ, zero, suc, List, [], ◌∷◌, length, Option, Some, None}
use Rattle.std.specs.Borrow.{Bor}
use Rattle.rx_value.specs.declared.values.Value.{Value}

-- the values in the first places
abbrev pub values_in : ℕ → List (Option (Bor Value)) → List Value
values_in zero places = []
values_in (suc k) [] = []
values_in (suc k) (None ∷ places) = values_in k places
values_in (suc k) (Some v ∷ places) = v.now ∷ values_in k places

-- there are 16 places, and the first ones, so many, are taken
pub record IsFull (count : ℕ) (places : List (Option (Bor Value))) : Type 0 where
  pub room : length places ≡ 16
  pub taken : length (values_in count places) ≡ count
