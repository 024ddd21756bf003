-- What is made of a schema and the rows of a file is one table.
use Rattle.std.proofs.Common.{◌≡◌, ℕ, ◌<◌, Bool, true, false, List, [], ◌∷◌, length, map, get_or, slice_get, All, refl, sym, ap, ap₂, subst, ◌∙◌, arith}
use Rattle.std.specs.List.{list_any, AllPairs}
use Rattle.std.proofs.lemmas.List.{get_or_default}
use Rattle.std.proofs.lemmas.List.Elements.{All-head}
use Rattle.std.proofs.lemmas.List.Sorted.{All-permutation}
use Rattle.std.proofs.lemmas.Option.{unwrap_or-slice_get}
use Rattle.rx_value.specs.declared.values.Value.{Value}
use Rattle.rx_value.specs.declared.shapes.Part.{Part}
use Rattle.rx_value.specs.declared.shapes.Index.{Index}
use Rattle.rx_value.specs.declared.shapes.Schema.{Schema}
use Rattle.rx_value.specs.Keys.{key_of}
use Rattle.rx_value.specs.Shape.{IsSchema, FitsIndex, FitsRow}
use Rattle.rx_index.specs.declared.indexed.Indexed.{Indexed}
use Rattle.rx_index.specs.Entries.{row_at, AreOrders, IsByPrimary, IsInIdOrder, IsIndexed}
use Rattle.rx_index.specs.Duplicates.{is_null, IsFree}
use Rattle.rx_load.specs.Loaded.{by_primary, in_id_order, entries, counts_of, loaded}
use Rattle.rx_load.proofs.Counts.{all_counts_are}
use Rattle.rx_load.proofs.Orders.{entries_are, rows_are}
use Rattle.rx_load.proofs.Nulls.{key_not_null}

row_there : (file : List (List Value)) (i : ℕ) (d : List Value) → i < length file → row_at file i ≡ get_or file i d
row_there file i d lt = unwrap_or-slice_get file i [] ∙ get_or_default file i [] d lt

-- no two rows have one key on a primary index
apart : (schema : Schema) (file : List (List Value)) → IsSchema schema → All (FitsRow schema) file → IsFree schema file
    → (index : Index) (others : List Index) → schema.indexes ≡ index ∷ others → index.primary ≡ true → AllPairs (λ r s. key_of index.parts r ≡ key_of index.parts s → ⊥) file
apart schema file is fit free index others e primary i j d ij jn same =
    let fits : FitsIndex schema.columns index = All-head (FitsIndex schema.columns) index others (subst (All (FitsIndex schema.columns)) e is.indexes) in
    let first = row_there file i d (omega (arith, ij, jn)) in
    let second = row_there file j d jn in
    free 0 j (
      index,
      ap (λ (l : List Index). slice_get l 0) e,
      (
        fits.unique primary,
        record {
          there = jn;
          full = ap (λ r. list_any is_null (key_of index.parts r)) second ∙ key_not_null schema.columns (get_or file j d) (fit j d jn) index.parts (fits.not_null primary);
          earlier = (i, ij, ap (key_of index.parts) first ∙ same ∙ sym (ap (key_of index.parts) second));
        },
      ),
    )

by_primary_is : (primary : Bool) (parts : List Part) (file rows : List (List Value)) → (primary ≡ true → AllPairs (λ r s. key_of parts r ≡ key_of parts s → ⊥) file) → IsByPrimary primary parts file rows → rows ≡ by_primary primary parts file
by_primary_is true parts file rows h s = rows_are parts file rows (h refl) s
by_primary_is false parts file rows h s = s

in_order : (indexes : List Index) (file rows : List (List Value)) → ((index : Index) (others : List Index) → indexes ≡ index ∷ others → index.primary ≡ true → AllPairs (λ r s. key_of index.parts r ≡ key_of index.parts s → ⊥) file)
    → IsInIdOrder indexes file rows → rows ≡ in_id_order indexes file
in_order [] file rows h s = s
in_order (index ∷ others) file rows h s = by_primary_is index.primary index.parts file rows (h index others refl) s

orders_are : (indexes : List Index) (rows : List (List Value)) (orders : List (List ℕ)) → AreOrders indexes rows orders → orders ≡ map (λ index. entries index.parts rows) indexes
orders_are [] rows [] h = refl
orders_are [] rows (ids ∷ orders) h = absurd h
orders_are (index ∷ indexes) rows [] h = absurd h
orders_are (index ∷ indexes) rows (ids ∷ orders) h = ap₂ (λ x xs. x ∷ xs) (entries_are index.parts rows ids h.0) (orders_are indexes rows orders h.1)

same_table : (t : Indexed) (schema : Schema) (rows : List (List Value)) (orders different : List (List ℕ)) → t.schema ≡ schema → t.rows ≡ rows → t.orders ≡ orders → t.different ≡ different
    → t ≡ record { schema = schema; rows = rows; orders = orders; different = different }
same_table t schema rows orders different p q r s = λ i. record { schema = p i; rows = q i; orders = r i; different = s i }

-- the table that rows without duplicates make
pub table_is : (schema : Schema) (file : List (List Value)) (t : Indexed) → IsSchema schema → All (FitsRow schema) file → IsFree schema file → IsIndexed schema file t → t ≡ loaded schema file
table_is schema file t is fit free s =
    let rows : t.rows ≡ in_id_order schema.indexes file = in_order schema.indexes file t.rows (apart schema file is fit free) s.rows_are in
    let orders = orders_are t.schema.indexes t.rows t.orders s.entered.orders in
    let different = all_counts_are t.schema.indexes t.rows t.different s.entered.different in
    same_table t schema (in_id_order schema.indexes file) (map (λ index. entries index.parts (in_id_order schema.indexes file)) schema.indexes)
    (map (λ index. counts_of index.parts (in_id_order schema.indexes file)) schema.indexes) s.schema_is rows
    (orders ∙ ap₂ (λ (l : List Index) (r : List (List Value)). map (λ (index : Index). entries index.parts r) l) (ap (λ (x : Schema). x.indexes) s.schema_is) rows)
    (different ∙ ap₂ (λ (l : List Index) (r : List (List Value)). map (λ (index : Index). counts_of index.parts r) l) (ap (λ (x : Schema). x.indexes) s.schema_is) rows)

kept_by : (P : List Value → Type 0) (primary : Bool) (parts : List Part) (file rows : List (List Value)) → IsByPrimary primary parts file rows → All P file → All P rows
kept_by P true parts file rows s h = All-permutation P file rows s.same h
kept_by P false parts file rows s h = subst (All P) (sym s) h

kept : (P : List Value → Type 0) (indexes : List Index) (file rows : List (List Value)) → IsInIdOrder indexes file rows → All P file → All P rows
kept P [] file rows s h = subst (All P) (sym s) h
kept P (index ∷ others) file rows s h = kept_by P index.primary index.parts file rows s h

-- its rows fit the schema
pub rows_fit : (schema : Schema) (file : List (List Value)) (t : Indexed) → All (FitsRow schema) file → IsIndexed schema file t → All (FitsRow t.schema) t.rows
rows_fit schema file t fit s = subst (λ (x : Schema). All (FitsRow x) t.rows) (sym s.schema_is) (kept (FitsRow schema) schema.indexes file t.rows s.rows_are fit)
