-- Rows that a table is made of stand in the order of their ids.
use Rattle.std.proofs.Common.{◌≡◌, Bool, true, false, List, [], ◌∷◌, refl, sym, subst}
use Rattle.std.proofs.lemmas.List.Sorted.{ranks_by, IsPermutation-refl}
use Rattle.rx_value.specs.declared.values.Value.{Value}
use Rattle.rx_value.specs.declared.shapes.Part.{Part}
use Rattle.rx_value.specs.declared.shapes.Index.{Index}
use Rattle.rx_value.specs.declared.shapes.Schema.{Schema}
use Rattle.rx_value.proofs.KeyOrder.{by_key_total}
use Rattle.rx_order.specs.Stable.{ordered}
use Rattle.rx_order.proofs.Stable.{ordered_sorted}
use Rattle.rx_index.specs.declared.indexed.Indexed.{Indexed}
use Rattle.rx_index.specs.Entries.{IsByPrimary, IsInIdOrder}
use Rattle.rx_load.specs.Loaded.{is_key_before, by_primary, in_id_order, loaded}

by_primary_stays : (primary : Bool) (parts : List Part) (file : List (List Value)) → IsByPrimary primary parts (by_primary primary parts file) (by_primary primary parts file)
by_primary_stays true parts file = record {
  same = IsPermutation-refl (ordered (is_key_before parts) file);
  rising = ordered_sorted (is_key_before parts) (ranks_by (by_key_total parts) (λ (r : List Value). r)) file;
}
by_primary_stays false parts file = refl

stays : (indexes : List Index) (file : List (List Value)) → IsInIdOrder indexes (in_id_order indexes file) (in_id_order indexes file)
stays [] file = refl
stays (index ∷ others) file = by_primary_stays index.primary index.parts file

-- the rows of a table that is made of a file
pub loaded_by_id : (schema : Schema) (file : List (List Value)) (t : Indexed) → t ≡ loaded schema file → IsInIdOrder t.schema.indexes t.rows t.rows
loaded_by_id schema file t is = subst (λ (x : Indexed). IsInIdOrder x.schema.indexes x.rows x.rows) (sym is) (stays schema.indexes file)
