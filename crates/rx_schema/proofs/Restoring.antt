-- The statement of a schema that is read declares the schema.
use Rattle.std.proofs.Common.{◌≡◌, ℕ, zero, suc, ◌<◌, ◌≤◌, Bool, true, false, cond, not, ◌&&◌, List, [], ◌∷◌, ◌++◌, length, map, drop, Option, Some, refl, sym, ap, ◌∙◌, inl, inr, arith}
use Rattle.std.specs.Prelude.{filter, slice_get, nat_eq, unwrap_or, Ok}
use Rattle.std.specs.List.{AllByRecursion, list_any}
use Rattle.std.proofs.lemmas.Bool.{cases_Bool, le-leb, eqb-true, not_from_false}
use Rattle.rx_value.specs.declared.shapes.ColType.{ColType}
use Rattle.rx_value.specs.declared.shapes.ColType.TheVariants.{Whole, VarChar}
use Rattle.rx_value.specs.declared.shapes.Column.{Column}
use Rattle.rx_value.specs.declared.shapes.Part.{Part}
use Rattle.rx_value.specs.declared.shapes.Index.{Index}
use Rattle.rx_value.specs.declared.shapes.Schema.{Schema}
use Rattle.rx_value.specs.Shape.{IsColType, IsNotNull, FitsPrefix, FitsIndex}
use Rattle.rx_ddl.specs.declared.statements.ColumnDefinition.{ColumnDefinition}
use Rattle.rx_ddl.specs.declared.statements.KeyDefinition.{KeyDefinition}
use Rattle.rx_ddl.specs.declared.statements.CreateDefinition.{CreateDefinition}
use Rattle.rx_ddl.proofs.Law.{law as statement_law}
use Rattle.rx_schema.specs.Limits.{is_primary}
use Rattle.rx_schema.specs.Names.{part_names, primary_name, index_name, is_among}
use Rattle.rx_schema.specs.Profile.{type_word, characters, is_unsigned}
use Rattle.rx_schema.specs.Columns.{may_be_null, is_in_primary, typed, declared_column, declared_columns}
use Rattle.rx_schema.specs.Indexes.{is_unique_kind, numbered_part, declared_part, declared_index, is_of, keys_by_number, declared_indexes}
use Rattle.rx_schema.specs.Schema.{declared, schema_of, outcome_of, read_of}
use Rattle.rx_schema.specs.Tables.{IsNamedIndex, names_of, IsDeclarable}
use Rattle.rx_schema.proofs.Typing.{IsTypedColumn, typed_columns}
use Rattle.rx_schema.specs.Writing.{kind_word, kind_arguments, sign_marks, null_marks, column_definition, name_of, part_definition, key_kind, key_definition, definitions_of, statement_of, text_of}
use Rattle.rx_schema.proofs.Accepting.{word_back, text_back, primary_by, key_primary, own_keys, keys_secondary, other_name, names_apart, columns_apart, unrefused}
use Rattle.rx_schema.proofs.Apart.{name_at, places_apart, number_back}
use Rattle.rx_schema.proofs.Every.{every_map, every_both, every_of, from_all, pass_none, filter_all, filter_none, map_back, by_places}
use Rattle.rx_schema.proofs.Giving.{read_given}
use Rattle.rx_schema.proofs.Prefixes.{prefix_kept}
use Rattle.rx_schema.proofs.Repeats.{same, Apart}
use Rattle.rx_schema.proofs.Stating.{columns_back, keys_back, statement_canonical}

-- a type is read back
sign_back : (bits : ℕ) (signed nullable : Bool) → not (list_any is_unsigned (sign_marks (Whole bits signed) ++ null_marks nullable)) ≡ signed
sign_back bits true true = refl
sign_back bits true false = refl
sign_back bits false true = refl
sign_back bits false false = refl

characters_back : (count : ℕ) → count ≤ 255 → unwrap_or (characters (kind_arguments (VarChar count))) 0 ≡ count
characters_back count h = rw (le-leb count 255 h) refl

type_back : (kind : ColType) (nullable : Bool) (column : ColumnDefinition) → IsColType kind → column.kind ≡ kind_word kind → column.arguments ≡ kind_arguments kind → column.attributes ≡ sign_marks kind ++ null_marks nullable → typed (type_word column.kind) column ≡ kind
type_back (Whole bits signed) nullable column h e f g =
    ap (λ w. typed w column) (ap type_word e ∙ word_back bits h) ∙ ap (λ b. Whole bits (not b)) (ap (list_any is_unsigned) g) ∙ ap (Whole bits) (sign_back bits signed nullable)
type_back (VarChar count) nullable column h e f g =
    ap (λ w. typed w column) (ap type_word e ∙ text_back) ∙ ap (λ a. VarChar (unwrap_or (characters a) 0)) f ∙ ap VarChar (characters_back count h)

null_back : (kind : ColType) (nullable : Bool) → may_be_null (sign_marks kind ++ null_marks nullable) ≡ nullable
null_back (Whole bits true) true = refl
null_back (Whole bits true) false = refl
null_back (Whole bits false) true = refl
null_back (Whole bits false) false = refl
null_back (VarChar count) true = refl
null_back (VarChar count) false = refl

null_kept : (nullable inside : Bool) → (nullable ≡ true → inside ≡ false) → (nullable && not inside) ≡ nullable
null_kept true inside h = rw (h refl) refl
null_kept false inside h = refl

column_same : (c d : Column) → d.name ≡ c.name → d.kind ≡ c.kind → d.nullable ≡ c.nullable → d ≡ c
column_same c d e f g =
    ap (λ v. record { name = v; kind = d.kind; nullable = d.nullable }) e ∙ ap (λ v. record { name = c.name; kind = v; nullable = d.nullable }) f ∙ ap (λ v. record { name = c.name; kind = c.kind; nullable = v }) g

column_back : (items : List CreateDefinition) (c : Column) → IsTypedColumn c → (c.nullable ≡ true → is_in_primary items c.name ≡ false) → declared_column items (column_definition c) ≡ c
unfolding declared_column column_definition
column_back items c is h =
    column_same c (declared_column items (column_definition c)) refl (type_back c.kind c.nullable (column_definition c) is.kind refl refl refl)
    (ap (λ b. b && not (is_in_primary items c.name)) (null_back c.kind c.nullable) ∙ null_kept c.nullable (is_in_primary items c.name) h)

-- a column that may be NULL is none of the primary key
get_within : (C : List Column) (n : ℕ) (c : Column) → slice_get C n ≡ Some c → n < length C
get_within [] n c e = absurd cc
get_within (d ∷ C) zero c e = omega arith
get_within (d ∷ C) (suc n) c e = let later = get_within C n c e in omega arith

some_same : {A : Type 0} (x y : A) (o : Option A) → o ≡ Some x → o ≡ Some y → x ≡ y
some_same x y o e f = cc

other_part : (C : List Column) → Apart (names_of C) → (n : ℕ) (c : Column) → slice_get C n ≡ Some c → c.nullable ≡ true → (m : ℕ) → IsNotNull C m → same c.name (name_at C m) ≡ false
other_part C apart n c e null m h =
    let name : name_at C n ≡ c.name = ap name_of e in
    elim (cases_Bool (nat_eq m n)) [
      | inl f ↦
          let one : h.0 ≡ c = some_same h.0 c (slice_get C n) (ap (slice_get C) (sym (eqb-true m n f)) ∙ h.1) e in
          let null_too : h.0.nullable ≡ true = ap (λ d. d.nullable) one ∙ null in
          let never = h.2 in
          absurd cc
      | inr f ↦ ap (λ x. same x (name_at C m)) (sym name) ∙ places_apart C m n apart (get_within C m h.0 h.1) (get_within C n c e) f
    ]

no_part : (C : List Column) → Apart (names_of C) → (n : ℕ) (c : Column) → slice_get C n ≡ Some c → c.nullable ≡ true → (parts : List Part) → AllByRecursion (IsNotNull C) (map (λ p. p.column) parts) → is_among (map (λ p. p.column) (map (part_definition C) parts)) c.name ≡ false
no_part C apart n c e null [] h = refl
no_part C apart n c e null (p ∷ parts) h =
    rw (other_part C apart n c e null p.column h.0) (no_part C apart n c e null parts h.1)

and_false : (a b : Bool) → b ≡ false → (a && b) ≡ false
and_false true b e = e
and_false false b e = refl

key_without : (C : List Column) → Apart (names_of C) → (n : ℕ) (c : Column) → slice_get C n ≡ Some c → c.nullable ≡ true → (i : Index) → FitsIndex C i → (is_primary (key_definition C i) && is_among (part_names (key_definition C i)) c.name) ≡ false
unfolding key_definition
key_without C apart n c e null i fits =
    elim (cases_Bool i.primary) [
      | inl f ↦ and_false (is_primary (key_definition C i)) _ (no_part C apart n c e null i.parts (from_all _ _ (fits.not_null f)))
      | inr f ↦ ap (λ b. b && is_among (part_names (key_definition C i)) c.name) (key_primary C i ∙ f)
    ]

not_in_primary : (s : Schema) → IsDeclarable s → (n : ℕ) (c : Column) → slice_get s.columns n ≡ Some c → c.nullable ≡ true → is_in_primary (definitions_of s) c.name ≡ false
not_in_primary s is n c e null =
    let C = s.columns in
    ap (list_any (λ key. is_primary key && is_among (part_names key) c.name)) (keys_back C C s.indexes)
    ∙ pass_none (λ key. is_primary key && is_among (part_names key) c.name) (own_keys s) (every_of (λ k. (is_primary k && is_among (part_names k) c.name) ≡ false) (key_definition C) s.indexes
    (every_map (FitsIndex C) (λ i. (is_primary (key_definition C i) && is_among (part_names (key_definition C i)) c.name) ≡ false) (key_without C (columns_apart s is) n c e null) s.indexes (from_all (FitsIndex C) s.indexes is.shape.indexes)))

columns_restored : (s : Schema) → IsDeclarable s → declared_columns (definitions_of s) ≡ s.columns
columns_restored s is =
    let C = s.columns in
    let Free : Column → Type 0 = λ c. c.nullable ≡ true → is_in_primary (definitions_of s) c.name ≡ false in
    ap (map (declared_column (definitions_of s))) (columns_back C C s.indexes)
    ∙ map_back column_definition (declared_column (definitions_of s)) C (every_both IsTypedColumn Free (λ c. declared_column (definitions_of s) (column_definition c) ≡ c) (column_back (definitions_of s)) C (typed_columns s is) (by_places Free C (not_in_primary s is)))

-- a part and an index are read back
part_restored : (C : List Column) → Apart (names_of C) → (p : Part) → p.column < length C → FitsPrefix C p → declared_part C (part_definition C p) ≡ p
part_restored C apart p within fits =
    ap (λ (n : ℕ). numbered_part C n (part_definition C p)) (number_back C p.column apart within) ∙ ap (λ v. record { column = p.column; descending = p.descending; chars = v }) (prefix_kept C p.column p.chars fits)

parts_restored : (C : List Column) → Apart (names_of C) → (parts : List Part) → AllByRecursion (FitsPrefix C) parts → AllByRecursion (λ n. n < length C) (map (λ p. p.column) parts) → map (declared_part C) (map (part_definition C) parts) ≡ parts
parts_restored C apart [] fits there = refl
parts_restored C apart (p ∷ parts) fits there =
    ap (λ q. q ∷ map (declared_part C) (map (part_definition C) parts)) (part_restored C apart p there.0 fits.0) ∙ ap (λ ps. p ∷ ps) (parts_restored C apart parts fits.1 there.1)

unique_by : (primary unique : Bool) → (primary ≡ true → unique ≡ true) → is_unique_kind (key_kind primary unique) ≡ unique
unique_by true unique h = sym (h refl)
unique_by false true h = refl
unique_by false false h = refl

index_same : (i j : Index) → j.name ≡ i.name → j.primary ≡ i.primary → j.unique ≡ i.unique → j.parts ≡ i.parts → j ≡ i
index_same i j e f g h =
    ap (λ v. record { name = v; primary = j.primary; unique = j.unique; parts = j.parts }) e ∙ ap (λ v. record { name = i.name; primary = v; unique = j.unique; parts = j.parts }) f
    ∙ ap (λ v. record { name = i.name; primary = i.primary; unique = v; parts = j.parts }) g ∙ ap (λ v. record { name = i.name; primary = i.primary; unique = i.unique; parts = v }) h

primary_index_name : (C : List Column) (i : Index) → i.primary ≡ true → i.name ≡ primary_name → index_name (key_definition C i) ≡ i.name
unfolding index_name key_definition
primary_index_name C i e f = rw (primary_by i.primary i.unique, e) (sym f)

index_name_back : (C : List Column) (i : Index) → IsNamedIndex i → (not i.primary ≡ true → same i.name primary_name ≡ false) → index_name (key_definition C i) ≡ i.name
index_name_back C i is apart =
    elim (cases_Bool i.primary) [
      | inl e ↦ primary_index_name C i e (is.primary e)
      | inr e ↦ other_name C i e (apart (not_from_false i.primary e))
    ]

index_back : (C : List Column) → Apart (names_of C) → (i : Index) → FitsIndex C i → IsNamedIndex i → (not i.primary ≡ true → same i.name primary_name ≡ false) → declared_index C (key_definition C i) ≡ i
unfolding declared_index key_definition
index_back C apart i fits is other =
    index_same i (declared_index C (key_definition C i)) (index_name_back C i is other) (key_primary C i) (unique_by i.primary i.unique fits.unique) (parts_restored C apart i.parts (from_all _ _ fits.prefixes) (from_all _ _ fits.there))

-- the keys stand in the order of their indexes
in_order : (C : List Column) (i : Index) (indexes : List Index) → AllByRecursion (λ j. j.primary ≡ false) indexes → filter (is_of true) (key_definition C i ∷ map (key_definition C) indexes) ++ filter (is_of false) (key_definition C i ∷ map (key_definition C) indexes) ≡ key_definition C i ∷ map (key_definition C) indexes
in_order C i indexes h =
    let keys = map (key_definition C) indexes in
    let later = keys_secondary C indexes h in
    let none : filter (is_of true) keys ≡ [] = filter_none (is_of true) keys later in
    let all : filter (is_of false) keys ≡ keys = filter_all (is_of false) keys (every_map (λ k. is_primary k ≡ false) (λ k. is_of false k ≡ true) (λ k e. not_from_false (is_primary k) e) keys later) in
    placed (is_primary (key_definition C i)) (key_definition C i) keys (filter (is_of true) keys) (filter (is_of false) keys) none all where
      placed : (b : Bool) (k : KeyDefinition) (keys firsts others : List KeyDefinition) → firsts ≡ [] → others ≡ keys → cond b (k ∷ firsts) firsts ++ cond (not b) (k ∷ others) others ≡ k ∷ keys
      placed true k keys firsts others e f = rw (e, f) refl
      placed false k keys firsts others e f = rw (e, f) refl

all_in_order : (C : List Column) (indexes : List Index) → AllByRecursion (λ i. i.primary ≡ false) (drop 1 indexes) → filter (is_of true) (map (key_definition C) indexes) ++ filter (is_of false) (map (key_definition C) indexes) ≡ map (key_definition C) indexes
all_in_order C [] h = refl
all_in_order C (i ∷ indexes) h = in_order C i indexes h

indexes_restored : (s : Schema) → IsDeclarable s → declared_indexes (definitions_of s) ≡ s.indexes
indexes_restored s is =
    let C = s.columns in
    let Other : Index → Type 0 = λ i. not i.primary ≡ true → same i.name primary_name ≡ false in
    let Named : Index → Type 0 = λ i. Other i → declared_index C (key_definition C i) ≡ i in
    ap (λ cs. map (declared_index cs) (keys_by_number (definitions_of s))) (columns_restored s is)
    ∙ ap (λ ks. map (declared_index C) (filter (is_of true) ks ++ filter (is_of false) ks)) (keys_back C C s.indexes)
    ∙ ap (map (declared_index C)) (all_in_order C s.indexes (from_all _ _ is.shape.primary_first))
    ∙ map_back (key_definition C) (declared_index C) s.indexes (every_both Named Other (λ i. declared_index C (key_definition C i) ≡ i) (λ i f o. f o) s.indexes
    (every_both (FitsIndex C) IsNamedIndex Named (λ i f n o. index_back C (columns_apart s is) i f n o) s.indexes (from_all (FitsIndex C) s.indexes is.shape.indexes) (from_all IsNamedIndex s.indexes is.indexes)) (names_apart s is))

schema_same : (s t : Schema) → t.table ≡ s.table → t.columns ≡ s.columns → t.indexes ≡ s.indexes → t ≡ s
schema_same s t e f g =
    ap (λ v. record { table = v; columns = t.columns; indexes = t.indexes }) e ∙ ap (λ v. record { table = s.table; columns = v; indexes = t.indexes }) f ∙ ap (λ v. record { table = s.table; columns = s.columns; indexes = v }) g

restored : (s : Schema) → IsDeclarable s → declared (statement_of s) ≡ s
unfolding declared statement_of
restored s is = schema_same s (declared (statement_of s)) refl (columns_restored s is) (indexes_restored s is)

-- the statement of a schema declares it
pub declared_again : (s : Schema) → IsDeclarable s → schema_of (statement_of s) ≡ Ok s
unfolding schema_of
declared_again s is = rw (unrefused s is, restored s is) refl

pub read_again : (s : Schema) → IsDeclarable s → read_of (text_of s) ≡ Ok s
unfolding read_of text_of
read_again s is = ap outcome_of (statement_law (statement_of s) (statement_canonical s is)) ∙ declared_again s is

-- what is read from a text is read again from the text that is written of it
pub law : (text : List ℕ) (s : Schema) → read_of text ≡ Ok s → read_of (text_of s) ≡ Ok s
law text s e = read_again s (read_given text s e)
