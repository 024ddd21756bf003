-- The statement of a schema that is read is refused nowhere.
use Rattle.std.proofs.Common.{◌≡◌, ℕ, ◌<◌, ◌≤◌, Bool, true, false, cond, not, List, [], ◌∷◌, ◌++◌, length, map, drop, codes, Option, Some, None, refl, sym, ap, ◌∙◌}
use Rattle.std.specs.Prelude.{filter, find, nat_eq, nat_lt, slice_get, IfSome}
use Rattle.std.specs.Option.{option_or, option_map}
use Rattle.std.specs.List.{AllByRecursion, list_any, IsDistinct}
use Rattle.std.proofs.lemmas.Bool.{le-leb, le-ltb, not-true}
use Rattle.std.proofs.lemmas.List.{length-map}
use Rattle.std.proofs.lemmas.Option.{slice_get-map}
use Rattle.rx_value.specs.declared.shapes.ColType.{ColType}
use Rattle.rx_value.specs.declared.shapes.ColType.TheVariants.{Whole, VarChar}
use Rattle.rx_value.specs.declared.shapes.Column.{Column}
use Rattle.rx_value.specs.declared.shapes.Part.{Part}
use Rattle.rx_value.specs.declared.shapes.Index.{Index}
use Rattle.rx_value.specs.declared.shapes.Schema.{Schema}
use Rattle.rx_value.specs.Shape.{HasWidth, IsColType, IsTextOver, FitsPrefix, FitsIndex}
use Rattle.rx_ddl.specs.declared.statements.ColumnDefinition.{ColumnDefinition}
use Rattle.rx_ddl.specs.declared.statements.KeyDefinition.{KeyDefinition}
use Rattle.rx_ddl.specs.declared.statements.Argument.TheVariants.{Number}
use Rattle.rx_ddl.specs.declared.statements.CreateDefinition.{CreateDefinition}
use Rattle.rx_ddl.specs.declared.statements.CreateDefinition.TheVariants as of
use Rattle.rx_schema.specs.declared.faults.Which.TheVariants as no
use Rattle.rx_schema.specs.declared.types.TypeWord.{TypeWord}
use Rattle.rx_schema.specs.declared.types.TypeWord.TheVariants as word
use Rattle.rx_schema.specs.Given.{first_given, columns_in, keys_in}
use Rattle.rx_schema.specs.Limits.{is_primary_kind, is_primary, is_secondary, has_many_parts, too_many}
use Rattle.rx_schema.specs.Names.{column_names, part_names, primary_name, index_name, further_keys, index_names, is_among, first_repeated, first_duplicate, is_missing, first_unknown}
use Rattle.rx_schema.specs.Profile.{type_word, characters, column_named, takes_prefix, is_refused, is_zerofill, defaults_of, text_misfit, typed_misfit, column_misfit, kind_misfit, part_misfit, key_misfit, item_misfit, first_misfit}
use Rattle.rx_schema.specs.Schema.{name_refusal, refusal}
use Rattle.rx_schema.specs.Tables.{names_of, index_names_of, IsDeclarable}
use Rattle.rx_schema.specs.Writing.{size_word, kind_word, kind_arguments, sign_marks, null_marks, column_definition, part_definition, key_kind, key_definition, definitions_of, statement_of}
use Rattle.rx_schema.proofs.Apart.{name_at, places_apart, among_at, number_back}
use Rattle.rx_schema.proofs.Every.{every_map, every_both, every_of, of_every, every_append, every_any, every_passes, from_all, given_none, pass_none, filter_all, filter_of, filter_every, map_same, map_same_on, map_both}
use Rattle.rx_schema.proofs.Prefixes.{found_by_number, over_of, within_taken}
use Rattle.rx_schema.proofs.Repeats.{same, Apart, apart_from, from_apart}
use Rattle.rx_schema.proofs.Stating.{columns_back, keys_back}
use Rattle.rx_schema.proofs.Typing.{by_width, IsTypedColumn, typed_columns}

-- the word of a type is read as the type
pub word_back : (bits : ℕ) → HasWidth bits → type_word (size_word bits) ≡ word.Whole bits
unfolding type_word size_word
word_back bits h = by_width (λ b. type_word (size_word b) ≡ word.Whole b) refl refl refl refl refl bits h

pub text_back : type_word (codes "varchar") ≡ word.VarChar
unfolding type_word
text_back = refl

no_zerofill : (kind : ColType) (nullable : Bool) → list_any is_zerofill (sign_marks kind ++ null_marks nullable) ≡ false
no_zerofill (Whole bits true) true = refl
no_zerofill (Whole bits true) false = refl
no_zerofill (Whole bits false) true = refl
no_zerofill (Whole bits false) false = refl
no_zerofill (VarChar count) true = refl
no_zerofill (VarChar count) false = refl

text_within : (count : ℕ) (nullable : Bool) (column : ColumnDefinition) → count ≤ 255 → column.arguments ≡ kind_arguments (VarChar count) → column.attributes ≡ null_marks nullable → text_misfit (defaults_of []) column ≡ None
unfolding text_misfit defaults_of
text_within count true column h e f = rw (e, f, le-leb count 255 h) refl
text_within count false column h e f = rw (e, f, le-leb count 255 h) refl

column_within_by : (kind : ColType) (nullable : Bool) (column : ColumnDefinition) → IsColType kind → column.kind ≡ kind_word kind → column.arguments ≡ kind_arguments kind → column.attributes ≡ sign_marks kind ++ null_marks nullable → column_misfit (defaults_of []) column ≡ None
column_within_by (Whole bits signed) nullable column h e f g = rw (e, word_back bits h, g, no_zerofill (Whole bits signed) nullable) refl
column_within_by (VarChar count) nullable column h e f g = ap (λ w. typed_misfit w (defaults_of []) column) (ap type_word e ∙ text_back) ∙ text_within count nullable column h f g

column_within : (c : Column) → IsTypedColumn c → column_misfit (defaults_of []) (column_definition c) ≡ None
unfolding column_definition
column_within c is = column_within_by c.kind c.nullable (column_definition c) is.kind refl refl refl

kind_within : (primary unique : Bool) → kind_misfit (key_kind primary unique) ≡ None
kind_within true unique = refl
kind_within false true = refl
kind_within false false = refl

-- the names of the statement are the schema's
column_name_back : (c : Column) → (column_definition c).name ≡ c.name
unfolding column_definition
column_name_back c = refl

pub column_names_back : (s : Schema) → column_names (definitions_of s) ≡ names_of s.columns
column_names_back s =
    ap (map (λ c. c.name)) (columns_back s.columns s.columns s.indexes) ∙ map_both column_definition (λ c. c.name) s.columns ∙ map_same (λ c. (column_definition c).name) (λ c. c.name) column_name_back s.columns

pub columns_apart : (s : Schema) → IsDeclarable s → Apart (names_of s.columns)
columns_apart s is = (apart_from [] (names_of s.columns) is.columns_differ).1

-- a column takes a prefix length that is shorter than its texts
prefix_taken : (c : Column) (count n : ℕ) → c.kind ≡ VarChar count → 1 ≤ n → n < count → is_refused (Some (column_definition c)) (Some n) ≡ false
unfolding column_definition
prefix_taken c count n kind some less =
    ap (λ (k : ColType). not (takes_prefix (type_word (kind_word k)) (characters (kind_arguments k)) n)) kind ∙ ap (λ (w : TypeWord). not (takes_prefix w (characters (Number count ∷ [])) n)) text_back ∙ within_taken count n some less

prefix_within : (C : List Column) (k : ℕ) (prefix : Option ℕ) → IfSome prefix (IsTextOver C k) → is_refused (option_map column_definition (slice_get C k)) prefix ≡ false
prefix_within C k None h = refl
prefix_within C k (Some n) h =
    let over = over_of C k n h in
    ap (λ (o : Option Column). is_refused (option_map column_definition o) (Some n)) over.there ∙ prefix_taken over.column over.count n over.kind over.some over.less

part_within : (C : List Column) (columns : List ColumnDefinition) → columns ≡ map column_definition C → map (λ c. c.name) columns ≡ names_of C → Apart (names_of C) → (p : Part) → p.column < length C → FitsPrefix C p → part_misfit columns (part_definition C p) ≡ None
part_within C columns e names apart p within fits =
    let found : column_named columns (name_at C p.column) ≡ option_map column_definition (slice_get C p.column) =
    found_by_number columns (names_of C) (name_at C p.column) names (among_at C p.column within) ∙ ap (slice_get columns) (number_back C p.column apart within) ∙ ap (λ (cs : List ColumnDefinition). slice_get cs p.column) e ∙ slice_get-map column_definition C p.column in
    ap (λ (b : Bool). cond b (Some no.Prefix) None) (ap (λ (o : Option ColumnDefinition). is_refused o p.chars) found ∙ prefix_within C p.column p.chars fits)

parts_within : (C : List Column) (columns : List ColumnDefinition) → columns ≡ map column_definition C → map (λ c. c.name) columns ≡ names_of C → Apart (names_of C) → (parts : List Part) → AllByRecursion (λ n. n < length C) (map (λ p. p.column) parts) → AllByRecursion (FitsPrefix C) parts → AllByRecursion (λ p. part_misfit columns p ≡ None) (map (part_definition C) parts)
parts_within C columns e names apart [] there fits = tt
parts_within C columns e names apart (p ∷ parts) there fits = (part_within C columns e names apart p there.0 fits.0, parts_within C columns e names apart parts there.1 fits.1)

key_within : (C : List Column) (columns : List ColumnDefinition) → columns ≡ map column_definition C → map (λ c. c.name) columns ≡ names_of C → Apart (names_of C) → (i : Index) → FitsIndex C i → key_misfit columns (key_definition C i) ≡ None
unfolding key_misfit key_definition
key_within C columns e names apart i fits =
    rw (kind_within i.primary i.unique, given_none (part_misfit columns) (map (part_definition C) i.parts) (parts_within C columns e names apart i.parts (from_all _ _ fits.there) (from_all _ _ fits.prefixes))) refl

pub in_profile : (s : Schema) → IsDeclarable s → first_misfit (statement_of s) ≡ None
unfolding first_misfit statement_of
in_profile s is =
    let C = s.columns in
    let D = columns_in (definitions_of s) in
    let Fits : CreateDefinition → Type 0 = λ x. item_misfit (defaults_of []) D x ≡ None in
    given_none (item_misfit (defaults_of []) D) (definitions_of s) (every_append Fits (map (λ c. of.Column (column_definition c)) C) (map (λ i. of.Key (key_definition C i)) s.indexes)
    (every_of Fits (λ c. of.Column (column_definition c)) C (every_map IsTypedColumn (λ c. column_misfit (defaults_of []) (column_definition c) ≡ None) column_within C (typed_columns s is)))
    (every_of Fits (λ i. of.Key (key_definition C i)) s.indexes (every_map (FitsIndex C) (λ i. key_misfit D (key_definition C i) ≡ None) (key_within C D (columns_back C C s.indexes) (column_names_back s) (columns_apart s is)) s.indexes (from_all (FitsIndex C) s.indexes is.shape.indexes))))

-- a key is primary where its index is
pub primary_by : (primary unique : Bool) → is_primary_kind (key_kind primary unique) ≡ primary
primary_by true unique = refl
primary_by false true = refl
primary_by false false = refl

pub key_primary : (C : List Column) (i : Index) → is_primary (key_definition C i) ≡ i.primary
unfolding key_definition
key_primary C i = primary_by i.primary i.unique

abbrev pub own_keys : Schema → List KeyDefinition
own_keys s = map (key_definition s.columns) s.indexes

abbrev others : Schema → List Index
others s = filter (λ i. not i.primary) s.indexes

secondary_keys : (s : Schema) → filter is_secondary (own_keys s) ≡ map (key_definition s.columns) (others s)
secondary_keys s = filter_of (key_definition s.columns) is_secondary (λ i. not i.primary) (λ i. ap not (key_primary s.columns i)) s.indexes

few_parts : (C : List Column) (i : Index) → FitsIndex C i → has_many_parts (key_definition C i) ≡ false
unfolding key_definition
few_parts C i fits = ap (nat_lt 16) (length-map i.parts (part_definition C)) ∙ le-ltb 16 _ fits.few

pub in_limits : (s : Schema) → IsDeclarable s → too_many (definitions_of s) ≡ None
unfolding too_many
in_limits s is =
    let C = s.columns in
    let columns : nat_lt 256 (length (columns_in (definitions_of s))) ≡ false = ap (nat_lt 256) (ap length (columns_back C C s.indexes) ∙ length-map C column_definition) ∙ le-ltb 256 _ is.shape.few_columns in
    let indexes : nat_lt 64 (length (filter is_secondary (keys_in (definitions_of s)))) ≡ false = ap (λ ks. nat_lt 64 (length (filter is_secondary ks))) (keys_back C C s.indexes) ∙ ap (λ ks. nat_lt 64 (length ks)) (secondary_keys s) ∙ ap (nat_lt 64) (length-map (others s) (key_definition C)) ∙ le-ltb 64 _ is.shape.few_indexes in
    let parts : list_any has_many_parts (keys_in (definitions_of s)) ≡ false = ap (list_any has_many_parts) (keys_back C C s.indexes) ∙ pass_none has_many_parts (own_keys s) (every_of (λ k. has_many_parts k ≡ false) (key_definition C) s.indexes (every_map (FitsIndex C) (λ i. has_many_parts (key_definition C i) ≡ false) (few_parts C) s.indexes (from_all (FitsIndex C) s.indexes is.shape.indexes))) in
    rw (columns, indexes, parts) refl

none_further : (keys : List KeyDefinition) → AllByRecursion (λ k. is_primary k ≡ false) keys → further_keys keys ≡ keys
none_further [] h = refl
none_further (k ∷ keys) h = rw h.0 (ap (λ ks. k ∷ ks) (none_further keys h.1))

pub keys_secondary : (C : List Column) (indexes : List Index) → AllByRecursion (λ i. i.primary ≡ false) indexes → AllByRecursion (λ k. is_primary k ≡ false) (map (key_definition C) indexes)
keys_secondary C indexes h = every_of (λ k. is_primary k ≡ false) (key_definition C) indexes (every_map (λ i. i.primary ≡ false) (λ i. is_primary (key_definition C i) ≡ false) (λ i e. key_primary C i ∙ e) indexes h)

all_others : (indexes : List Index) → AllByRecursion (λ i. i.primary ≡ false) indexes → filter (λ i. not i.primary) indexes ≡ indexes
all_others indexes h = filter_all (λ i. not i.primary) indexes (every_map (λ i. i.primary ≡ false) (λ i. not i.primary ≡ true) (λ i e. ap not e) indexes h)

further_first : (C : List Column) (i : Index) (indexes : List Index) (b : Bool) → i.primary ≡ b → AllByRecursion (λ j. j.primary ≡ false) indexes → cond b (map (key_definition C) indexes) (key_definition C i ∷ further_keys (map (key_definition C) indexes)) ≡ map (key_definition C) (cond (not b) (i ∷ filter (λ j. not j.primary) indexes) (filter (λ j. not j.primary) indexes))
further_first C i indexes true e h = ap (map (key_definition C)) (sym (all_others indexes h))
further_first C i indexes false e h = ap (λ ks. key_definition C i ∷ ks) (none_further _ (keys_secondary C indexes h) ∙ ap (map (key_definition C)) (sym (all_others indexes h)))

further_back : (C : List Column) (indexes : List Index) → AllByRecursion (λ i. i.primary ≡ false) (drop 1 indexes) → further_keys (map (key_definition C) indexes) ≡ map (key_definition C) (filter (λ i. not i.primary) indexes)
further_back C [] h = refl
further_back C (i ∷ indexes) h =
    ap (λ b. cond b (map (key_definition C) indexes) (key_definition C i ∷ further_keys (map (key_definition C) indexes))) (key_primary C i) ∙ further_first C i indexes i.primary refl h

-- the name of an index that is another than the primary key
pub other_name : (C : List Column) (i : Index) → i.primary ≡ false → same i.name primary_name ≡ false → index_name (key_definition C i) ≡ i.name
unfolding index_name key_definition
other_name C i e f = rw (primary_by i.primary i.unique, e, f) refl

pub names_apart : (s : Schema) → IsDeclarable s → AllByRecursion (λ i. not i.primary ≡ true → same i.name primary_name ≡ false) s.indexes
names_apart s is = filter_every (λ i. same i.name primary_name ≡ false) (λ i. not i.primary) s.indexes (of_every (λ n. same n primary_name ≡ false) (λ i. i.name) (others s) ((apart_from [] (index_names_of s.indexes) is.indexes_differ).1.0))

-- the names of the indexes
pub index_names_back : (s : Schema) → IsDeclarable s → index_names (definitions_of s) ≡ index_names_of s.indexes
index_names_back s is =
    let C = s.columns in
    let keys : map index_name (further_keys (keys_in (definitions_of s))) ≡ map index_name (map (key_definition C) (others s)) = ap (λ ks. map index_name (further_keys ks)) (keys_back C C s.indexes) ∙ ap (map index_name) (further_back C s.indexes (from_all (λ i. i.primary ≡ false) (drop 1 s.indexes) is.shape.primary_first)) in
    let apart : AllByRecursion (λ i. same i.name primary_name ≡ false) (others s) = of_every (λ n. same n primary_name ≡ false) (λ i. i.name) (others s) ((apart_from [] (index_names_of s.indexes) is.indexes_differ).1.0) in
    let names : AllByRecursion (λ i. index_name (key_definition C i) ≡ i.name) (others s) = every_both (λ i. not i.primary ≡ true) (λ i. same i.name primary_name ≡ false) (λ i. index_name (key_definition C i) ≡ i.name) (λ i e f. other_name C i (not-true i.primary e) f) (others s) (every_passes (λ i. not i.primary) s.indexes) apart in
    ap (λ ns. primary_name ∷ ns) (keys ∙ map_both (key_definition C) index_name (others s) ∙ map_same_on (λ i. index_name (key_definition C i)) (λ i. i.name) (others s) names)

-- the parts of a key name columns apart
abbrev Within : List Column → List Part → Type 0
Within C parts = AllByRecursion (λ n. n < length C) (map (λ p. p.column) parts)

later_apart : (C : List Column) (n : ℕ) (parts : List Part) → Apart (names_of C) → n < length C → Within C parts → AllByRecursion (λ m. nat_eq n m ≡ false) (map (λ p. p.column) parts) → AllByRecursion (λ m. same m (name_at C n) ≡ false) (map (λ p. p.column) (map (part_definition C) parts))
later_apart C n [] apart within there e = tt
later_apart C n (p ∷ parts) apart within there e = (places_apart C n p.column apart within there.0 e.0, later_apart C n parts apart within there.1 e.1)

parts_apart : (C : List Column) (parts : List Part) → Apart (names_of C) → Within C parts → IsDistinct nat_eq (map (λ p. p.column) parts) → Apart (map (λ p. p.column) (map (part_definition C) parts))
unfolding IsDistinct
parts_apart C [] apart there e = tt
parts_apart C (p ∷ parts) apart there e = (later_apart C p.column parts apart there.0 there.1 e.0, parts_apart C parts apart there.1 e.1)

part_names_back : (C : List Column) (i : Index) → part_names (key_definition C i) ≡ map (λ p. p.column) (map (part_definition C) i.parts)
unfolding key_definition
part_names_back C i = refl

key_apart : (C : List Column) → Apart (names_of C) → (i : Index) → FitsIndex C i → first_repeated (part_names (key_definition C i)) ≡ None
key_apart C apart i fits =
    ap first_repeated (part_names_back C i) ∙ from_apart [] _ (every_any (λ m. is_among [] m ≡ false) (λ m. refl) _) (parts_apart C i.parts apart (from_all _ _ fits.there) fits.distinct)

parts_known : (C : List Column) (parts : List Part) → Within C parts → find (is_missing (names_of C)) (map (λ p. p.column) (map (part_definition C) parts)) ≡ None
parts_known C [] there = refl
parts_known C (p ∷ parts) there = rw (among_at C p.column there.0) (parts_known C parts there.1)

key_known : (C : List Column) (i : Index) → FitsIndex C i → find (is_missing (names_of C)) (part_names (key_definition C i)) ≡ None
key_known C i fits = ap (find (is_missing (names_of C))) (part_names_back C i) ∙ parts_known C i.parts (from_all _ _ fits.there)

no_duplicate : (s : Schema) → IsDeclarable s → first_duplicate (definitions_of s) ≡ None
unfolding first_duplicate
no_duplicate s is =
    let C = s.columns in
    let columns : first_repeated (column_names (definitions_of s)) ≡ None = ap first_repeated (column_names_back s) ∙ is.columns_differ in
    let indexes : first_repeated (index_names (definitions_of s)) ≡ None = ap first_repeated (index_names_back s is) ∙ is.indexes_differ in
    let parts : first_given (λ key. first_repeated (part_names key)) (keys_in (definitions_of s)) ≡ None = ap (first_given (λ key. first_repeated (part_names key))) (keys_back C C s.indexes) ∙ given_none (λ key. first_repeated (part_names key)) (own_keys s) (every_of (λ k. first_repeated (part_names k) ≡ None) (key_definition C) s.indexes (every_map (FitsIndex C) (λ i. first_repeated (part_names (key_definition C i)) ≡ None) (key_apart C (columns_apart s is)) s.indexes (from_all (FitsIndex C) s.indexes is.shape.indexes))) in
    three_none (first_repeated (column_names (definitions_of s))) (first_repeated (index_names (definitions_of s))) _ columns indexes parts where
      three_none : {A : Type 0} (o p q : Option A) → o ≡ None → p ≡ None → q ≡ None → option_or o (option_or p q) ≡ None
      three_none None None None e f g = refl
      three_none (Some x) p q e f g = absurd cc
      three_none None (Some x) q e f g = absurd cc
      three_none None None (Some x) e f g = absurd cc

none_unknown : (s : Schema) → IsDeclarable s → first_unknown (definitions_of s) ≡ None
unfolding first_unknown
none_unknown s is =
    let C = s.columns in
    ap (λ ns. first_given (λ key. find (is_missing ns) (part_names key)) (keys_in (definitions_of s))) (column_names_back s) ∙ ap (first_given (λ key. find (is_missing (names_of C)) (part_names key))) (keys_back C C s.indexes)
    ∙ given_none (λ key. find (is_missing (names_of C)) (part_names key)) (own_keys s) (every_of (λ k. find (is_missing (names_of C)) (part_names k) ≡ None) (key_definition C) s.indexes (every_map (FitsIndex C) (λ i. find (is_missing (names_of C)) (part_names (key_definition C i)) ≡ None) (key_known C) s.indexes (from_all (FitsIndex C) s.indexes is.shape.indexes)))

definitions_back : (s : Schema) → (statement_of s).definitions ≡ definitions_of s
unfolding statement_of
definitions_back s = refl

pub unrefused : (s : Schema) → IsDeclarable s → refusal (statement_of s) ≡ None
unfolding refusal name_refusal
unrefused s is = rw (in_profile s is, definitions_back s, in_limits s is, no_duplicate s is, none_unknown s is) refl
