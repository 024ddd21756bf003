-- What is read of a whole text.
use Rattle.std.proofs.Common.{◌≡◌, ℕ, ◌%◌, ◌≤◌, Bool, true, false, cond, eqb, List, [], ◌∷◌, Result, Ok, Err, IfOk, length, ap, sym, ◌∙◌}
use Rattle.std.specs.List.{All}
use Rattle.std.proofs.lemmas.Bool.{eqb-true, eqb-false, true_from_ne_false, false_from_ne_true}
use Rattle.rx_value.specs.declared.values.Value.{Value}
use Rattle.rx_value.specs.declared.shapes.Column.{Column}
use Rattle.rx_value.specs.declared.shapes.Schema.{Schema}
use Rattle.rx_value.specs.Shape.{FitsRow}
use Rattle.rx_value.specs.Limits.{most_rows}
use Rattle.rx_data.specs.declared.faults.DataFault.{DataFault}
use Rattle.rx_data.specs.declared.faults.DataFault.TheVariants.{NotCsv, HeaderMismatch}
use Rattle.rx_data.specs.Outcomes.{Answers, all_of}
use Rattle.rx_data.specs.Records.{records_of}
use Rattle.rx_data.specs.Rows.{is_header, row_outcomes, rows_under, quotes_in, data_rows}
use Rattle.rx_data.proofs.Fits.{under_fits}

quotes_step : (schema : Schema) (text : List ℕ) (t : Bool) → eqb (quotes_in text % 2) 1 ≡ t → data_rows schema text ≡ cond t (Err (NotCsv (quotes_in text))) (rows_under schema.columns (records_of text))
unfolding data_rows
quotes_step schema text t e = ap (λ (u : Bool). cond u (Err (NotCsv (quotes_in text))) (rows_under schema.columns (records_of text))) e

pub odd_quotes : (schema : Schema) (text : List ℕ) → quotes_in text % 2 ≡ 1 → data_rows schema text ≡ Err (NotCsv (quotes_in text))
odd_quotes schema text odd =
    quotes_step schema text true (true_from_ne_false _ (λ e. eqb-false (quotes_in text % 2) 1 e odd))

pub even_quotes : (schema : Schema) (text : List ℕ) → (quotes_in text % 2 ≡ 1 → ⊥) → data_rows schema text ≡ rows_under schema.columns (records_of text)
even_quotes schema text even =
    quotes_step schema text false (false_from_ne_true _ (λ e. even (eqb-true (quotes_in text % 2) 1 e)))

-- the header

pub no_header : (columns : List Column) (records : List (List (List ℕ))) → records ≡ [] → rows_under columns records ≡ Err HeaderMismatch
no_header columns records e = ap (rows_under columns) e

header_step : (columns : List Column) (header : List (List ℕ)) (others records : List (List (List ℕ))) (t : Bool) → records ≡ header ∷ others → is_header columns header ≡ t → rows_under columns records ≡ cond t (all_of (row_outcomes columns 1 others)) (Err HeaderMismatch)
header_step columns header others records t e is =
    ap (rows_under columns) e ∙ ap (λ (u : Bool). cond u (all_of (row_outcomes columns 1 others)) (Err HeaderMismatch)) is

pub other_header : (columns : List Column) (header : List (List ℕ)) (others records : List (List (List ℕ))) → records ≡ header ∷ others → is_header columns header ≡ false → rows_under columns records ≡ Err HeaderMismatch
other_header columns header others records e is = header_step columns header others records false e is

pub right_header : (columns : List Column) (header : List (List ℕ)) (others records : List (List (List ℕ))) → records ≡ header ∷ others → is_header columns header ≡ true → all_of (row_outcomes columns 1 others) ≡ rows_under columns records
right_header columns header others records e is = sym (header_step columns header others records true e is)

pub fit_given : (schema : Schema) (text : List ℕ) (result : Result (List (List Value)) DataFault) → Answers (rows_under schema.columns (records_of text)) result → IfOk result (λ rows. All (FitsRow schema) rows)
fit_given schema text (Ok rows) e = (under_fits schema.columns (records_of text) rows e).each
fit_given schema text (Err fault) e = tt

pub few_given : (schema : Schema) (text : List ℕ) (result : Result (List (List Value)) DataFault) → Answers (rows_under schema.columns (records_of text)) result → IfOk result (λ rows. length rows ≤ most_rows)
few_given schema text (Ok rows) e = (under_fits schema.columns (records_of text) rows e).few
few_given schema text (Err fault) e = tt
