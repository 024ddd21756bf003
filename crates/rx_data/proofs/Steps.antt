-- One step more of a list of outcomes.
use Rattle.std.proofs.Common.{◌≡◌, ℕ, zero, suc, ◌+◌, ◌≤◌, ◌<◌, Bool, true, false, ◌&&◌, cond, eqb, leb, List, [], ◌∷◌, ◌++◌, length, drop, Some, None, Result, Ok, Err, refl, sym, subst, ap, ◌∙◌, append_assoc, add-one, arith, get_or}
use Rattle.std.proofs.Math.Seq.{drop-cons}
use Rattle.std.proofs.lemmas.Bool.{eqb-true, eqb-false, leb-true, leb-false, true_from_ne_false, false_from_ne_true}
use Rattle.std.proofs.lemmas.List.{append-nil}
use Rattle.csv.specs.Records.{field_at}
use Rattle.rx_value.specs.declared.values.Value.{Value}
use Rattle.rx_value.specs.declared.shapes.Column.{Column}
use Rattle.rx_data.specs.declared.faults.DataFault.{DataFault}
use Rattle.rx_data.specs.declared.faults.DataFault.TheVariants.{NotCsv, HeaderMismatch, FieldCount, BadValue, NullNotAllowed, TooManyRows, NoMemory}
use Rattle.rx_data.specs.Outcomes.{Outcome, Answers, with_front, before, all_of}
use Rattle.rx_data.specs.Fields.{field_value}
use Rattle.rx_data.specs.Rows.{is_header, field_outcomes, row_outcome, bounded_outcome, row_outcomes}
use Rattle.rx_value.specs.Names.{same_name}
use Rattle.rx_value.specs.Limits.{most_rows}

fronts : {A : Type 0} (front : List A) (x : A) (others : Outcome (List A)) → with_front (front ++ x ∷ []) others ≡ with_front front (with_front (x ∷ []) others)
fronts {A} front x (Ok others) = ap (λ (xs : List A). let r : Outcome (List A) = Ok xs in r) (append_assoc front (x ∷ []) others)
fronts front x (Err fault) = refl

goes_on : {A : Type 0} (front : List A) (x : A) (o : Outcome A) (others all : Outcome (List A)) → Ok x ≡ o → with_front front (before o others) ≡ all → with_front (front ++ x ∷ []) others ≡ all
goes_on {A} front x o others all is e = fronts front x others ∙ ap (λ (p : Outcome A). with_front front (before p others)) is ∙ e

stops : {A : Type 0} (front : List A) (fault : DataFault) (o : Outcome A) (others all : Outcome (List A)) → Err fault ≡ o → with_front front (before o others) ≡ all → Err fault ≡ all
stops {A} front fault o others all is e = ap (λ (p : Outcome A). with_front front (before p others)) is ∙ e

-- a test of a bound
le-leb : {a b : ℕ} → a ≤ b → leb a b ≡ true
le-leb {a} {b} h = true_from_ne_false _ (λ e. let g = leb-false a b e in omega arith)

gt-leb : {a b : ℕ} → b < a → leb a b ≡ false
gt-leb {a} {b} h = false_from_ne_true _ (λ e. let g = leb-true a b e in omega arith)

drop-end : {A : Type 0} (l : List A) (i : ℕ) → length l ≤ i → drop i l ≡ []
drop-end [] zero e = refl
drop-end [] (suc i) e = refl
drop-end (x ∷ xs) zero e = absurd (omega arith)
drop-end (x ∷ xs) (suc i) e = drop-end xs i (omega arith)

-- nothing is left
ended : {A : Type 0} (front : List A) (all : Outcome (List A)) → with_front front (Ok []) ≡ all → Ok front ≡ all
ended {A} front all e = ap (λ (xs : List A). let r : Outcome (List A) = Ok xs in r) (sym (append-nil front)) ∙ e

-- the field at a place is the first behind those before it
pub field_here : (fields : List (List ℕ)) (i : ℕ) (field : List ℕ) → Some field ≡ field_at fields i → drop i fields ≡ field ∷ drop (suc i) fields
unfolding field_at
field_here [] i field e = absurd cc
field_here (f ∷ fs) zero field e = let same : f ≡ field = cc in ap (λ (g : List ℕ). g ∷ fs) same
field_here (f ∷ fs) (suc i) field e = field_here fs i field e

pub no_field : (fields : List (List ℕ)) (i : ℕ) → None ≡ field_at fields i → length fields ≤ i
unfolding field_at
no_field [] i e = omega arith
no_field (f ∷ fs) zero e = absurd cc
no_field (f ∷ fs) (suc i) e = let h = no_field fs i e in omega arith

-- the names

and_false : (t b : Bool) → false ≡ b → false ≡ t && b
and_false true b e = e
and_false false b e = refl

pub other_length : (columns : List Column) (fields : List (List ℕ)) → (length fields ≡ length columns → ⊥) → false ≡ is_header columns fields
other_length [] [] other = absurd (other refl)
other_length [] (field ∷ fields) other = refl
other_length (column ∷ columns) [] other = refl
other_length (column ∷ columns) (field ∷ fields) other =
    and_false _ (is_header columns fields) (other_length columns fields (λ e. other (ap suc e)))

-- an element is the first behind those before it
pub step_at : {A : Type 0} (l : List A) (i : ℕ) (x : A) → i < length l → x ≡ get_or l i x → drop i l ≡ x ∷ drop (i + 1) l
step_at {A} l i x within is =
    drop-cons l i x within ∙ ap (λ (y : A). y ∷ drop (suc i) l) (sym is) ∙ ap (λ (j : ℕ). x ∷ drop j l) (sym (add-one i))

field_at_place : (fields : List (List ℕ)) (i : ℕ) (field : List ℕ) → Some field ≡ field_at fields i → drop i fields ≡ field ∷ drop (i + 1) fields
field_at_place fields i field e = field_here fields i field e ∙ ap (λ (j : ℕ). field ∷ drop j fields) (sym (add-one i))

-- what is left of a header
left_header : (columns : List Column) (fields : List (List ℕ)) (i : ℕ) (column : Column) (field : List ℕ) → i < length columns → column ≡ get_or columns i column → Some field ≡ field_at fields i → is_header (drop i columns) (drop i fields) ≡ same_name field column.name && is_header (drop (i + 1) columns) (drop (i + 1) fields)
left_header columns fields i column field within is f =
    ap (λ (xs : List Column). is_header xs (drop i fields)) (step_at columns i column within is)
    ∙ ap (is_header (column ∷ drop (i + 1) columns)) (field_at_place fields i field f)

pub name_more : (columns : List Column) (fields : List (List ℕ)) (i : ℕ) (column : Column) (field : List ℕ) → i < length columns → column ≡ get_or columns i column → Some field ≡ field_at fields i → same_name field column.name ≡ true → is_header (drop (i + 1) columns) (drop (i + 1) fields) ≡ is_header (drop i columns) (drop i fields)
name_more columns fields i column field within is f same =
    ap (λ (t : Bool). t && is_header (drop (i + 1) columns) (drop (i + 1) fields)) (sym same) ∙ sym (left_header columns fields i column field within is f)

pub name_differs : (columns : List Column) (fields : List (List ℕ)) (i : ℕ) (column : Column) (field : List ℕ) → i < length columns → column ≡ get_or columns i column → Some field ≡ field_at fields i → same_name field column.name ≡ false → false ≡ is_header (drop i columns) (drop i fields)
name_differs columns fields i column field within is f other =
    ap (λ (t : Bool). t && is_header (drop (i + 1) columns) (drop (i + 1) fields)) (sym other) ∙ sym (left_header columns fields i column field within is f)

pub names_end : (columns : List Column) (fields : List (List ℕ)) (i : ℕ) → length columns ≤ i → length fields ≤ i → true ≡ is_header (drop i columns) (drop i fields)
names_end columns fields i end done = rw (drop-end columns i end, drop-end fields i done) refl

-- the fields of a row

count_step : (columns : List Column) (row : ℕ) (fields : List (List ℕ)) (t : Bool) → eqb (length fields) (length columns) ≡ t → row_outcome columns row fields ≡ cond t (all_of (field_outcomes row 0 columns fields)) (Err (FieldCount row))
unfolding row_outcome
count_step columns row fields t e = ap (λ (u : Bool). cond u (all_of (field_outcomes row 0 columns fields)) (Err (FieldCount row))) e

pub right_count : (columns : List Column) (row : ℕ) (fields : List (List ℕ)) → length fields ≡ length columns → row_outcome columns row fields ≡ all_of (field_outcomes row 0 columns fields)
right_count columns row fields same =
    count_step columns row fields true (true_from_ne_false _ (λ e. eqb-false (length fields) (length columns) e same))

pub wrong_count : (columns : List Column) (row : ℕ) (fields : List (List ℕ)) → (length fields ≡ length columns → ⊥) → row_outcome columns row fields ≡ Err (FieldCount row)
wrong_count columns row fields other =
    count_step columns row fields false (false_from_ne_true _ (λ e. other (eqb-true (length fields) (length columns) e)))

-- what the fields from a place on give, behind values
abbrev pub FieldsGive : List Column → ℕ → List (List ℕ) → ℕ → List Value → Outcome (List Value) → Type 0
FieldsGive columns row fields i values all = with_front values (all_of (field_outcomes row i (drop i columns) (drop i fields))) ≡ all

field_outcome : (columns : List Column) (row : ℕ) (fields : List (List ℕ)) (i : ℕ) (column : Column) (field : List ℕ) → i < length columns → column ≡ get_or columns i column → Some field ≡ field_at fields i → field_outcomes row i (drop i columns) (drop i fields) ≡ field_value row i column field ∷ field_outcomes row (i + 1) (drop (i + 1) columns) (drop (i + 1) fields)
field_outcome columns row fields i column field within is f =
    ap (λ (xs : List Column). field_outcomes row i xs (drop i fields)) (step_at columns i column within is)
    ∙ ap (field_outcomes row i (column ∷ drop (i + 1) columns)) (field_at_place fields i field f)
    ∙ ap (λ (j : ℕ). field_value row i column field ∷ field_outcomes row j (drop (i + 1) columns) (drop (i + 1) fields)) (sym (add-one i))

here : (columns : List Column) (row : ℕ) (fields : List (List ℕ)) (i : ℕ) (column : Column) (field : List ℕ) (values : List Value) (all : Outcome (List Value)) → i < length columns → column ≡ get_or columns i column → Some field ≡ field_at fields i → FieldsGive columns row fields i values all → with_front values (before (field_value row i column field) (all_of (field_outcomes row (i + 1) (drop (i + 1) columns) (drop (i + 1) fields)))) ≡ all
here columns row fields i column field values all within is f e =
    ap (λ (xs : List (Outcome Value)). with_front values (all_of xs)) (sym (field_outcome columns row fields i column field within is f)) ∙ e

pub field_more : (columns : List Column) (row : ℕ) (fields : List (List ℕ)) (i : ℕ) (column : Column) (field : List ℕ) (values : List Value) (value : Value) (all : Outcome (List Value)) → i < length columns → column ≡ get_or columns i column → Some field ≡ field_at fields i → Ok value ≡ field_value row i column field → FieldsGive columns row fields i values all → FieldsGive columns row fields (i + 1) (values ++ value ∷ []) all
field_more columns row fields i column field values value all within is f gives e =
    goes_on values value (field_value row i column field) _ all gives (here columns row fields i column field values all within is f e)

pub field_fault : (columns : List Column) (row : ℕ) (fields : List (List ℕ)) (i : ℕ) (column : Column) (field : List ℕ) (values : List Value) (fault : DataFault) (all : Outcome (List Value)) → i < length columns → column ≡ get_or columns i column → Some field ≡ field_at fields i → Err fault ≡ field_value row i column field → FieldsGive columns row fields i values all → Err fault ≡ all
field_fault columns row fields i column field values fault all within is f gives e =
    stops values fault (field_value row i column field) _ all gives (here columns row fields i column field values all within is f e)

none_left : (row i : ℕ) (left : List Column) (fields : List (List ℕ)) (values : List Value) (all : Outcome (List Value)) → left ≡ [] → with_front values (all_of (field_outcomes row i left fields)) ≡ all → Ok values ≡ all
none_left row i [] fields values all none e = ended values all e
none_left row i (column ∷ left) fields values all none e = absurd cc

pub fields_end : (columns : List Column) (row : ℕ) (fields : List (List ℕ)) (i : ℕ) (values : List Value) (all : Outcome (List Value)) → length columns ≤ i → FieldsGive columns row fields i values all → Ok values ≡ all
fields_end columns row fields i values all end e =
    none_left row i (drop i columns) (drop i fields) values all (drop-end columns i end) e

-- a refusal of a part is that of the whole
pub refused_by : {A B : Type 0} (part : Outcome A) (all : Outcome B) (fault : DataFault) → Answers part (Err fault) → (part ≡ Err fault → all ≡ Err fault) → Answers all (Err fault)
refused_by part all (NotCsv quotes) e h = h e
refused_by part all HeaderMismatch e h = h e
refused_by part all (FieldCount row) e h = h e
refused_by part all (BadValue row column) e h = h e
refused_by part all (NullNotAllowed row column) e h = h e
refused_by part all TooManyRows e h = h e
refused_by part all NoMemory e h = tt

-- want of memory answers each outcome
pub no_memory : {A : Type 0} (all : Outcome A) (fault : DataFault) → fault ≡ NoMemory → Answers all (Err fault)
no_memory all fault e = subst (λ (f : DataFault). Answers all (Err f)) (sym e) tt

-- a result answers an outcome that is the same
pub same_outcome : {A : Type 0} (said all : Outcome A) (result : Result A DataFault) → said ≡ all → Answers said result → Answers all result
same_outcome {A} said all result e h = subst (λ (o : Outcome A). Answers o result) e h

-- the rows

bounded : (columns : List Column) (row : ℕ) (fields : List (List ℕ)) (t : Bool) → leb row most_rows ≡ t → bounded_outcome columns row fields ≡ cond t (row_outcome columns row fields) (Err TooManyRows)
bounded columns row fields t e = ap (λ (u : Bool). cond u (row_outcome columns row fields) (Err TooManyRows)) e

-- what the records that are left give, behind some rows
abbrev pub RowsGive : List Column → ℕ → List (List Value) → List (List (List ℕ)) → Outcome (List (List Value)) → Type 0
RowsGive columns i rows left all = with_front rows (all_of (row_outcomes columns (i + 1) left)) ≡ all

at_row : (columns : List Column) (i : ℕ) (rows : List (List Value)) (fields : List (List ℕ)) (left after : List (List (List ℕ))) (all : Outcome (List (List Value))) → left ≡ fields ∷ after → RowsGive columns i rows left all → with_front rows (before (bounded_outcome columns (i + 1) fields) (all_of (row_outcomes columns (i + 1 + 1) after))) ≡ all
at_row columns i rows fields left after all is e =
    ap (λ (j : ℕ). with_front rows (before (bounded_outcome columns (i + 1) fields) (all_of (row_outcomes columns j after)))) (add-one (i + 1))
    ∙ ap (λ (rs : List (List (List ℕ))). with_front rows (all_of (row_outcomes columns (i + 1) rs))) (sym is) ∙ e

pub row_more : (columns : List Column) (i : ℕ) (rows : List (List Value)) (fields : List (List ℕ)) (left after : List (List (List ℕ))) (values : List Value) (all : Outcome (List (List Value))) → left ≡ fields ∷ after → i < most_rows → row_outcome columns (i + 1) fields ≡ Ok values → RowsGive columns i rows left all → RowsGive columns (i + 1) (rows ++ values ∷ []) after all
row_more columns i rows fields left after values all is few gives e =
    goes_on rows values (bounded_outcome columns (i + 1) fields) _ all (sym (bounded columns (i + 1) fields true (le-leb (omega (arith, few))) ∙ gives)) (at_row columns i rows fields left after all is e)

pub row_fault : (columns : List Column) (i : ℕ) (rows : List (List Value)) (fields : List (List ℕ)) (left after : List (List (List ℕ))) (fault : DataFault) (all : Outcome (List (List Value))) → left ≡ fields ∷ after → i < most_rows → row_outcome columns (i + 1) fields ≡ Err fault → RowsGive columns i rows left all → all ≡ Err fault
row_fault columns i rows fields left after fault all is few gives e =
    sym (stops rows fault (bounded_outcome columns (i + 1) fields) _ all (sym (bounded columns (i + 1) fields true (le-leb (omega (arith, few))) ∙ gives)) (at_row columns i rows fields left after all is e))

pub too_many : (columns : List Column) (i : ℕ) (rows : List (List Value)) (fields : List (List ℕ)) (left after : List (List (List ℕ))) (all : Outcome (List (List Value))) → left ≡ fields ∷ after → most_rows ≤ i → RowsGive columns i rows left all → all ≡ Err TooManyRows
too_many columns i rows fields left after all is many e =
    sym (stops rows TooManyRows (bounded_outcome columns (i + 1) fields) _ all (sym (bounded columns (i + 1) fields false (gt-leb (omega (arith, many))))) (at_row columns i rows fields left after all is e))

pub rows_end : (columns : List Column) (i : ℕ) (rows : List (List Value)) (left : List (List (List ℕ))) (all : Outcome (List (List Value))) → left ≡ [] → RowsGive columns i rows left all → all ≡ Ok rows
rows_end columns i rows left all none e =
    sym (ended rows all (ap (λ (rs : List (List (List ℕ))). with_front rows (all_of (row_outcomes columns (i + 1) rs))) (sym none) ∙ e))
