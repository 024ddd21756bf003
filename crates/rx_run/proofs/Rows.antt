-- The row for an id, and what stays of a run when one is handed out.
use Rattle.std.proofs.Common.{◌≡◌, ℕ, ◌<◌, List, [], ◌∷◌, slice_get, unwrap_or, Option, Some, None, IfSome, All, refl, sym, ap, subst}
use Rattle.std.proofs.lemmas.List.Elements.{All-tail}
use Rattle.rx_value.specs.declared.values.Value.{Value}
use Rattle.rx_value.specs.Shape.{FitsRow}
use Rattle.rx_index.specs.declared.indexed.Indexed.{Indexed}
use Rattle.rx_index.specs.Entries.{row_at}
use Rattle.rx_store.specs.Tables.{Meaning, IsRow}
use Rattle.rx_scan.proofs.Types.{row_types}
use Rattle.rx_merge.specs.Runs.{Merging}
use Rattle.rx_run.specs.declared.runs.Source.TheVariants.{Merge}
use Rattle.rx_run.specs.Sources.{way_in}
use Rattle.rx_run.specs.Steps.{IsRowFor}

-- the row that is read
pub row_read : (table : Meaning) (id : ℕ) (row : List Value) → IsRow table id row → FitsRow table.schema row → IsRowFor table None id row
row_read table id row is fits = record { told = by table.told is; given_is = tt; types = λ e. row_types table.schema row fits }
  where
    by : (told : Option Indexed) → IfSome told (λ t. slice_get t.rows id ≡ Some row) → IfSome told (λ t. row ≡ row_at t.rows id)
    by None h = tt
    by (Some t) h = sym (ap (λ (o : Option (List Value)). unwrap_or o []) h)

-- the row that is given
pub row_given : (table : Meaning) (given row : List Value) (id : ℕ) → row ≡ given → IsRowFor table (Some given) id row
row_given table given row id e = record { told = by table.told; given_is = e; types = λ f. absurd (cc f) }
  where
    by : (told : Option Indexed) → IfSome told (λ t. row ≡ given)
    by None = tt
    by (Some t) = e

-- what is left after an id
pub rest_below : (table : Meaning) (old new : Merging) (id : ℕ) → All (λ x. x < table.count) old.left → old.left ≡ id ∷ new.left → All (λ x. x < table.count) new.left
rest_below table old new id all e = All-tail (λ x. x < table.count) id new.left (subst (All (λ x. x < table.count)) e all)

-- the ids that are left don't matter to the way of a merge
pub way_stays : (a b : Merging) (row : Option (List Value)) → way_in (Merge a row) ≡ way_in (Merge b row)
way_stays a b None = refl
way_stays a b (Some row) = refl
