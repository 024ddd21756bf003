-- What a statement within the limits has.
use Rattle.std.proofs.Common.{◌≡◌, ◌≤◌, Bool, true, false, cond, List, Option, Some, None, length, refl, arith}
use Rattle.std.specs.Prelude.{filter, nat_lt}
use Rattle.std.specs.List.{list_any}
use Rattle.std.proofs.lemmas.Bool.{ltb-false}
use Rattle.std.proofs.lemmas.List.{length-map}
use Rattle.rx_value.specs.Limits.{most_columns, most_indexes}
use Rattle.rx_ddl.specs.declared.statements.CreateDefinition.{CreateDefinition}
use Rattle.rx_schema.specs.Given.{columns_in, keys_in}
use Rattle.rx_schema.specs.Limits.{is_secondary, has_many_parts, too_many}
use Rattle.rx_schema.specs.Names.{column_names}

-- a choice of something or an option gives nothing
pub neither : {A : Type 0} (b : Bool) (x : A) (o : Option A) → cond b (Some x) o ≡ None → (b ≡ false) × (o ≡ None)
neither true x o e = absurd (grind arith)
neither false x o e = (refl, e)

-- no limit is passed
pub record IsWithin (items : List CreateDefinition) : Type 0 where
  pub columns : length (columns_in items) ≤ most_columns
  pub indexes : length (filter is_secondary (keys_in items)) ≤ most_indexes
  pub parts : list_any has_many_parts (keys_in items) ≡ false

pub within : (items : List CreateDefinition) → too_many items ≡ None → IsWithin items
unfolding too_many
within items e =
    let first = neither (nat_lt 256 (length (columns_in items))) _ _ e in
    let second = neither (nat_lt 64 (length (filter is_secondary (keys_in items)))) _ _ first.1 in
    let third = neither (list_any has_many_parts (keys_in items)) _ _ second.1 in
    record { columns = ltb-false 256 _ first.0; indexes = ltb-false 64 _ second.0; parts = third.0 }

-- no more columns have names
pub few_names : (items : List CreateDefinition) → too_many items ≡ None → length (column_names items) ≤ most_columns
few_names items e = rw (length-map (columns_in items) (λ c. c.name)) ((within items e).columns)
