-- The statement of a schema has its columns and its indexes, and its text says all of it.
use Rattle.std.proofs.Common.{◌≡◌, ℕ, zero, suc, ◌<◌, ◌≤◌, ◌^◌, Bool, true, false, List, [], ◌∷◌, ◌++◌, length, map, Option, Some, None, refl, ap, subst, arith}
use Rattle.std.specs.Prelude.{slice_get, IfSome}
use Rattle.std.specs.List.{AllByRecursion, list_any}
use Rattle.std.proofs.lemmas.List.{length-map}
use Rattle.rx_value.specs.declared.shapes.ColType.{ColType}
use Rattle.rx_value.specs.declared.shapes.ColType.TheVariants.{Whole, VarChar}
use Rattle.rx_value.specs.declared.shapes.Column.{Column}
use Rattle.rx_value.specs.declared.shapes.Part.{Part}
use Rattle.rx_value.specs.declared.shapes.Index.{Index}
use Rattle.rx_value.specs.declared.shapes.Schema.{Schema}
use Rattle.rx_value.specs.Shape.{HasWidth, IsColType, IsTextOver, FitsPrefix, FitsIndex}
use Rattle.rx_ddl.specs.declared.statements.CreateDefinition.{CreateDefinition}
use Rattle.rx_ddl.specs.declared.statements.CreateDefinition.TheVariants as of
use Rattle.rx_ddl.specs.Canonical.{IsName, IsTypeWord, is_tinyint, is_smallint, is_mediumint, is_int, is_bigint, is_varchar, IsWidth, IsMarks, IsCanonicalColumn, IsKeyName, IsCanonicalPart, IsCanonicalKey, IsCanonicalDefinition, IsCanonical}
use Rattle.rx_ddl.specs.Create.{is_column}
use Rattle.rx_schema.specs.Given.{columns_in, keys_in}
use Rattle.rx_schema.specs.Names.{primary_name}
use Rattle.rx_schema.specs.Tables.{IsNamedIndex, IsDeclarable}
use Rattle.rx_schema.specs.Writing.{size_word, kind_word, kind_arguments, sign_marks, null_marks, column_definition, name_of, part_definition, key_kind, key_definition, statement_of}
use Rattle.rx_schema.proofs.Every.{every_map, every_both, every_of, every_append, to_all, from_all}
use Rattle.rx_schema.proofs.Prefixes.{over_of}
use Rattle.rx_schema.proofs.Typing.{by_width, IsTypedColumn, typed_columns}

-- the columns and the keys of a statement of columns and then keys
no_columns : (C : List Column) (indexes : List Index) → columns_in (map (λ i. of.Key (key_definition C i)) indexes) ≡ []
no_columns C [] = refl
no_columns C (i ∷ indexes) = no_columns C indexes

pub columns_back : (C columns : List Column) (indexes : List Index) → columns_in (map (λ c. of.Column (column_definition c)) columns ++ map (λ i. of.Key (key_definition C i)) indexes) ≡ map column_definition columns
columns_back C [] indexes = no_columns C indexes
columns_back C (c ∷ columns) indexes = ap (λ cs. column_definition c ∷ cs) (columns_back C columns indexes)

all_keys : (C : List Column) (indexes : List Index) → keys_in (map (λ i. of.Key (key_definition C i)) indexes) ≡ map (key_definition C) indexes
all_keys C [] = refl
all_keys C (i ∷ indexes) = ap (λ ks. key_definition C i ∷ ks) (all_keys C indexes)

pub keys_back : (C columns : List Column) (indexes : List Index) → keys_in (map (λ c. of.Column (column_definition c)) columns ++ map (λ i. of.Key (key_definition C i)) indexes) ≡ map (key_definition C) indexes
keys_back C [] indexes = all_keys C indexes
keys_back C (c ∷ columns) indexes = keys_back C columns indexes

-- a type's word, argument and marks
word_written : (bits : ℕ) → HasWidth bits → IsTypeWord (size_word bits)
unfolding size_word
word_written bits h = by_width (λ b. IsTypeWord (size_word b)) is_tinyint is_smallint is_mediumint is_int is_bigint bits h

kind_written : (kind : ColType) → IsColType kind → IsTypeWord (kind_word kind)
kind_written (Whole bits signed) h = word_written bits h
kind_written (VarChar count) h = is_varchar

width_written : (kind : ColType) → IsColType kind → IsWidth (kind_arguments kind)
width_written (Whole bits signed) h = tt
width_written (VarChar count) h = omega arith

marks_written : (kind : ColType) (nullable : Bool) → IsMarks (sign_marks kind ++ null_marks nullable)
marks_written (Whole bits true) true = tt
marks_written (Whole bits true) false = tt
marks_written (Whole bits false) true = tt
marks_written (Whole bits false) false = tt
marks_written (VarChar count) true = tt
marks_written (VarChar count) false = tt

column_written : (c : Column) → IsTypedColumn c → IsCanonicalColumn (column_definition c)
unfolding column_definition
column_written c is = record { name = is.name; kind = kind_written c.kind is.kind; arguments = width_written c.kind is.kind; attributes = marks_written c.kind c.nullable }

-- a name of a column that is there
column_named : (columns : List Column) (n : ℕ) → AllByRecursion (λ c. IsName c.name) columns → n < length columns → IsName (name_of (slice_get columns n))
column_named [] n h within = absurd (omega arith)
column_named (c ∷ columns) zero h within = h.0
column_named (c ∷ columns) (suc n) h within = column_named columns n h.1 (omega arith)

-- a prefix length is a number that a token can be
type_at : (columns : List Column) (k : ℕ) (c : Column) → AllByRecursion (λ d. IsColType d.kind) columns → slice_get columns k ≡ Some c → IsColType c.kind
type_at [] k c h e = absurd cc
type_at (d ∷ columns) zero c h e = let same : d ≡ c = cc in subst (λ (x : Column). IsColType x.kind) same h.0
type_at (d ∷ columns) (suc k) c h e = type_at columns k c h.1 e

prefix_written : (columns : List Column) (k : ℕ) (prefix : Option ℕ) → AllByRecursion (λ c. IsColType c.kind) columns → IfSome prefix (IsTextOver columns k) → IfSome prefix (λ n. n < 2 ^ 127)
prefix_written columns k None h fits = tt
prefix_written columns k (Some n) h fits =
    let over = over_of columns k n fits in
    let few : over.count ≤ 255 = subst IsColType over.kind (type_at columns k over.column h over.there) in
    let less = over.less in
    let limit : 256 ≤ 2 ^ 127 = omega arith in
    omega arith

parts_written : (columns : List Column) → AllByRecursion (λ c. IsName c.name) columns → AllByRecursion (λ c. IsColType c.kind) columns → (parts : List Part) → AllByRecursion (λ n. n < length columns) (map (λ p. p.column) parts) → AllByRecursion (FitsPrefix columns) parts → AllByRecursion IsCanonicalPart (map (part_definition columns) parts)
parts_written columns h types [] there fits = tt
parts_written columns h types (p ∷ parts) there fits =
    (record { column = column_named columns p.column h there.0; prefix = prefix_written columns p.column p.chars types fits.0 }, parts_written columns h types parts there.1 fits.1)

key_name_written : (primary unique : Bool) (name : List ℕ) → IsName name → (primary ≡ true → name ≡ primary_name) → IsKeyName (key_kind primary unique) name
key_name_written true unique name h e = e refl
key_name_written false true name h e = h
key_name_written false false name h e = h

key_written : (columns : List Column) → AllByRecursion (λ c. IsName c.name) columns → AllByRecursion (λ c. IsColType c.kind) columns → (i : Index) → FitsIndex columns i → IsNamedIndex i → IsCanonicalKey (key_definition columns i)
unfolding key_definition
key_written columns h types i fits is =
    let some = fits.some in
    record {
      name = key_name_written i.primary i.unique i.name is.name is.primary;
      some = rw (length-map i.parts (part_definition columns)) (omega arith);
      parts = to_all _ _ (parts_written columns h types i.parts (from_all _ _ fits.there) (from_all _ _ fits.prefixes));
      methods = refl;
    }

has_column : (columns : List Column) (others : List CreateDefinition) → 1 ≤ length columns → list_any is_column (map (λ c. of.Column (column_definition c)) columns ++ others) ≡ true
has_column [] others h = absurd (omega arith)
has_column (c ∷ columns) others h = refl

pub names_given : (s : Schema) → IsDeclarable s → AllByRecursion (λ c. IsName c.name) s.columns
names_given s is = from_all _ s.columns is.columns

-- the statement's text says all of it
pub statement_canonical : (s : Schema) → IsDeclarable s → IsCanonical (statement_of s)
unfolding statement_of
statement_canonical s is =
    let C = s.columns in
    record {
      table = is.table;
      column = has_column C (map (λ i. of.Key (key_definition C i)) s.indexes) is.some;
      definitions = to_all _ _ (every_append IsCanonicalDefinition (map (λ c. of.Column (column_definition c)) C) (map (λ i. of.Key (key_definition C i)) s.indexes)
          (every_of IsCanonicalDefinition (λ c. of.Column (column_definition c)) C (every_map IsTypedColumn (λ c. IsCanonicalColumn (column_definition c)) column_written C (typed_columns s is)))
          (every_of IsCanonicalDefinition (λ i. of.Key (key_definition C i)) s.indexes (every_both (FitsIndex C) IsNamedIndex (λ i. IsCanonicalKey (key_definition C i)) (λ i f n. key_written C (names_given s is) (from_all _ C is.shape.types) i f n) s.indexes (from_all (FitsIndex C) s.indexes is.shape.indexes) (from_all IsNamedIndex s.indexes is.indexes))));
      options = refl;
    }
