-- Columns by their names as they are declared, and the prefix lengths that they take.
use Rattle.std.proofs.Common.{◌≡◌, ℕ, suc, ◌+◌, ◌<◌, ◌≤◌, Bool, true, false, cond, not, List, [], ◌∷◌, map, Option, Some, None, refl, sym, ap, subst, ◌∙◌, arith}
use Rattle.std.specs.Prelude.{slice_get, unwrap_or, nat_le, nat_lt, IfSome}
use Rattle.std.specs.Option.{option_map}
use Rattle.std.proofs.lemmas.Bool.{cond_both, le-leb, lt-ltb, leb-true, ltb-true, and_parts, not-false}
use Rattle.std.proofs.lemmas.Option.{slice_get-map}
use Rattle.rx_value.specs.declared.shapes.ColType.{ColType}
use Rattle.rx_value.specs.declared.shapes.ColType.TheVariants.{Whole, VarChar}
use Rattle.rx_value.specs.declared.shapes.Column.{Column}
use Rattle.rx_value.specs.Shape.{IsLongText, IsTextOver, FitsPrefix}
use Rattle.rx_ddl.specs.declared.statements.Argument.TheVariants.{Number}
use Rattle.rx_ddl.specs.declared.statements.ColumnDefinition.{ColumnDefinition}
use Rattle.rx_ddl.specs.declared.statements.KeyPart.{KeyPart}
use Rattle.rx_ddl.specs.declared.statements.CreateDefinition.{CreateDefinition}
use Rattle.rx_schema.specs.declared.types.TypeWord.{TypeWord}
use Rattle.rx_schema.specs.declared.types.TypeWord.TheVariants as is
use Rattle.rx_schema.specs.Given.{columns_in}
use Rattle.rx_schema.specs.Names.{column_names, is_among}
use Rattle.rx_schema.specs.Profile.{type_word, characters, column_named, is_within, takes_prefix, is_refused}
use Rattle.rx_schema.specs.Columns.{typed, declared_column, declared_columns}
use Rattle.rx_schema.specs.Indexes.{column_number, shorter_than, kept_prefix, declared_part}
use Rattle.rx_schema.specs.Tables.{names_of}
use Rattle.rx_schema.proofs.Every.{map_same, map_both}
use Rattle.rx_schema.proofs.Places.{place, number_place}
use Rattle.rx_schema.proofs.Repeats.{same}

-- the names of the columns are those of the statement
pub column_name_of : (items : List CreateDefinition) (c : ColumnDefinition) → (declared_column items c).name ≡ c.name
unfolding declared_column
column_name_of items c = refl

pub columns_named : (items : List CreateDefinition) → names_of (declared_columns items) ≡ column_names items
columns_named items = map_both (declared_column items) (λ c. c.name) (columns_in items) ∙ map_same (λ c. (declared_column items c).name) (λ c. c.name) (column_name_of items) (columns_in items)

-- the first column of a name stands at the first place of the name
first_or_later : (b : Bool) (c : ColumnDefinition) (columns : List ColumnDefinition) (later : Option ColumnDefinition) (k : ℕ) → later ≡ slice_get columns k → cond b (Some c) later ≡ slice_get (c ∷ columns) (cond (not b) (1 + k) 0)
first_or_later true c columns later k e = refl
first_or_later false c columns later k e = let count : 1 + k ≡ suc k = omega arith in e ∙ sym (ap (slice_get (c ∷ columns)) count)

found_at : (columns : List ColumnDefinition) (name : List ℕ) → column_named columns name ≡ slice_get columns (place (map (λ c. c.name) columns) name)
found_at [] name = refl
found_at (c ∷ columns) name = first_or_later (same name c.name) c columns (column_named columns name) (place (map (λ d. d.name) columns) name) (found_at columns name)

pub found_by_number : (columns : List ColumnDefinition) (names : List (List ℕ)) (name : List ℕ) → map (λ c. c.name) columns ≡ names → is_among names name ≡ true → column_named columns name ≡ slice_get columns (column_number names name)
found_by_number columns names name e known =
    found_at columns name ∙ ap (λ (ns : List (List ℕ)). slice_get columns (place ns name)) e ∙ ap (slice_get columns) (sym (number_place names name known))

-- a column as it is declared, by its number
column_at : (items : List CreateDefinition) (name : List ℕ) → is_among (names_of (declared_columns items)) name ≡ true → slice_get (declared_columns items) (column_number (names_of (declared_columns items)) name) ≡ option_map (declared_column items) (column_named (columns_in items) name)
column_at items name known =
    slice_get-map (declared_column items) (columns_in items) (column_number (names_of (declared_columns items)) name)
    ∙ ap (option_map (declared_column items)) (sym (found_by_number (columns_in items) (names_of (declared_columns items)) name (sym (columns_named items)) known))

-- what a prefix length that is kept says
text_over : (C : List Column) (k n count : ℕ) (c : Column) → slice_get C k ≡ Some c → c.kind ≡ VarChar count → 1 ≤ n → n < count → IsTextOver C k n
text_over C k n count c there kind some less = (c, there, subst (IsLongText n) (sym kind) (omega arith, less))

kept_within : (C : List Column) (k n : ℕ) (c : Column) (most : Option ℕ) → slice_get C k ≡ Some c → c.kind ≡ VarChar (unwrap_or most 0) → is_within most n ≡ true → n < unwrap_or most 0 → IsTextOver C k n
kept_within C k n c None there kind within less = absurd (omega arith)
kept_within C k n c (Some most) there kind within less =
    let parts = and_parts (nat_le 1 n) (nat_le n most) within in
    text_over C k n most c there kind (leb-true 1 n parts.0) less

kept_over : (C : List Column) (k n : ℕ) (c : Column) (word : TypeWord) (column : ColumnDefinition) → slice_get C k ≡ Some c → c.kind ≡ typed word column → not (takes_prefix word (characters column.arguments) n) ≡ false → IfSome (shorter_than (typed word column) n) (IsTextOver C k)
kept_over C k n c (is.Whole bits) column there kind taken = tt
kept_over C k n c is.VarChar column there kind taken =
    cond_both (nat_lt n (unwrap_or (characters column.arguments) 0)) (Some n) None (λ o. IfSome o (IsTextOver C k))
    (λ e. kept_within C k n c (characters column.arguments) there kind (not-false (is_within (characters column.arguments) n) taken) (ltb-true n _ e)) (λ e. tt)
kept_over C k n c is.Other column there kind taken = absurd cc

column_kind_of : (items : List CreateDefinition) (c : ColumnDefinition) → (declared_column items c).kind ≡ typed (type_word c.kind) c
unfolding declared_column
column_kind_of items c = refl

kept_fits : (items : List CreateDefinition) (C : List Column) (k : ℕ) (o : Option ColumnDefinition) (prefix : Option ℕ) → slice_get C k ≡ option_map (declared_column items) o → is_refused o prefix ≡ false → IfSome (kept_prefix (option_map (declared_column items) o) prefix) (IsTextOver C k)
kept_fits items C k o None there taken = tt
kept_fits items C k None (Some n) there taken = tt
kept_fits items C k (Some c) (Some n) there taken =
    subst (λ (kind : ColType). IfSome (shorter_than kind n) (IsTextOver C k)) (sym (column_kind_of items c))
    (kept_over C k n (declared_column items c) (type_word c.kind) c there (column_kind_of items c) taken)

-- a part of a key whose column takes its prefix length
pub part_fits : (items : List CreateDefinition) (p : KeyPart) → is_among (names_of (declared_columns items)) p.column ≡ true → is_refused (column_named (columns_in items) p.column) p.prefix ≡ false → FitsPrefix (declared_columns items) (declared_part (declared_columns items) p)
part_fits items p known taken =
    let C = declared_columns items in
    let k = column_number (names_of C) p.column in
    let there = column_at items p.column known in
    subst (λ (o : Option Column). IfSome (kept_prefix o p.prefix) (IsTextOver C k)) (sym there) (kept_fits items C k (column_named (columns_in items) p.column) p.prefix there taken)

-- what a prefix length that stands in a schema says
pub record IsOver (C : List Column) (k n : ℕ) : Type 0 where
  pub column : Column
  pub count : ℕ
  pub there : slice_get C k ≡ Some column
  pub kind : column.kind ≡ VarChar count
  pub some : 1 ≤ n
  pub less : n < count

over_by : (C : List Column) (k n : ℕ) (c : Column) (kind : ColType) → slice_get C k ≡ Some c → c.kind ≡ kind → IsLongText n kind → IsOver C k n
over_by C k n c (Whole bits signed) there e long = absurd long
over_by C k n c (VarChar count) there e long = let some = long.0 in record { column = c; count = count; there = there; kind = e; some = omega arith; less = long.1 }

pub over_of : (C : List Column) (k n : ℕ) → IsTextOver C k n → IsOver C k n
over_of C k n h = over_by C k n h.0 h.0.kind h.1 refl h.2

-- it is kept where it is read again
pub prefix_kept : (C : List Column) (k : ℕ) (prefix : Option ℕ) → IfSome prefix (IsTextOver C k) → kept_prefix (slice_get C k) prefix ≡ prefix
prefix_kept C k None h = refl
prefix_kept C k (Some n) h =
    let over = over_of C k n h in
    ap (λ (o : Option Column). kept_prefix o (Some n)) over.there ∙ ap (λ (kind : ColType). shorter_than kind n) over.kind ∙ ap (λ (b : Bool). cond b (Some n) None) (lt-ltb n over.count over.less)

-- a length within the characters that a column's argument gives is taken
pub within_taken : (count n : ℕ) → 1 ≤ n → n < count → not (is_within (characters (Number count ∷ [])) n) ≡ false
within_taken count n some less =
    cond_both (nat_le count 255) (Some count) None (λ o. not (is_within o n) ≡ false) (λ e. rw (le-leb 1 n some, le-leb n count (omega arith)) refl) (λ e. refl)
