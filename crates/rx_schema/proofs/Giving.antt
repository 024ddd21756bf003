-- What is read is a schema within the limits.
use Rattle.std.proofs.Common.{◌≡◌, ℕ, ◌≤◌, Bool, true, false, cond, not, ◌&&◌, List, [], ◌∷◌, ◌++◌, length, map, drop, Option, Some, None, refl, sym, ap, subst, ◌∙◌, inl, inr, arith}
use Rattle.std.specs.Prelude.{filter, find, IfSome, IfOk, Result, Ok, Err}
use Rattle.std.specs.List.{AllByRecursion, list_any}
use Rattle.std.proofs.lemmas.Bool.{cond_both, cases_Bool, not-false, not-true}
use Rattle.std.proofs.lemmas.List.{length-map}
use Rattle.std.proofs.lemmas.List.Elements.{filter-append}
use Rattle.rx_value.specs.declared.shapes.Column.{Column as TheColumn}
use Rattle.rx_value.specs.declared.shapes.Schema.{Schema}
use Rattle.rx_value.specs.Shape.{IsColType, FitsIndex, IsSchema}
use Rattle.rx_ddl.specs.declared.statements.ColumnDefinition.{ColumnDefinition}
use Rattle.rx_ddl.specs.declared.statements.KeyDefinition.{KeyDefinition}
use Rattle.rx_ddl.specs.declared.statements.CreateDefinition.{CreateDefinition}
use Rattle.rx_ddl.specs.declared.statements.CreateDefinition.TheVariants.{Column, Key}
use Rattle.rx_ddl.specs.declared.statements.CreateTable.{CreateTable}
use Rattle.rx_ddl.specs.Canonical.{IsName}
use Rattle.rx_ddl.specs.Create.{is_column, create_form}
use Rattle.rx_schema.specs.declared.faults.SchemaFault.{SchemaFault}
use Rattle.rx_schema.specs.Given.{first_given, columns_in, keys_in}
use Rattle.rx_schema.specs.Limits.{is_primary, has_many_parts}
use Rattle.rx_schema.specs.Names.{column_names, part_names, primary_name, index_name, further_keys, index_names, is_among, first_repeated, first_duplicate, is_missing, first_unknown}
use Rattle.rx_schema.specs.Profile.{defaults_of, column_named, is_refused, part_misfit, key_misfit, item_misfit, first_misfit}
use Rattle.rx_schema.specs.Columns.{declared_column, declared_columns}
use Rattle.rx_schema.specs.Indexes.{declared_index, is_of, keys_by_number, declared_indexes}
use Rattle.rx_schema.specs.Outcomes.{Answers}
use Rattle.rx_schema.specs.Schema.{declared, name_refusal, refusal, unless_refused, schema_of, outcome_of, read_of}
use Rattle.rx_schema.specs.Tables.{IsNamedIndex, index_names_of, IsDeclarable}
use Rattle.rx_schema.proofs.Every.{every_map, every_both, every_of, of_every, every_append, every_filter, every_passes, to_all, none_given, or_none, map_none, every_column, every_key, none_pass, every_any, filter_all, filter_none, filter_of, map_same, map_both}
use Rattle.rx_schema.proofs.Fitting.{IsTaken, IsSoundKey, fits}
use Rattle.rx_schema.proofs.Grammar.{IsNamedKey, IsNamedItem, IsNamedTable, primary_named, named_table}
use Rattle.rx_schema.proofs.Typing.{column_kind}
use Rattle.rx_schema.proofs.Places.{members}
use Rattle.rx_schema.proofs.Prefixes.{columns_named, column_name_of}
use Rattle.rx_schema.proofs.Repeats.{same, apart_from}
use Rattle.rx_schema.proofs.Within.{neither, IsWithin, within}

-- nothing refuses a statement
record IsAccepted (items : List CreateDefinition) : Type 0 where
  pub limits : IsWithin items
  pub columns : first_repeated (column_names items) ≡ None
  pub indexes : first_repeated (index_names items) ≡ None
  pub parts : first_given (λ key. first_repeated (part_names key)) (keys_in items) ≡ None
  pub known : first_given (λ key. find (is_missing (column_names items)) (part_names key)) (keys_in items) ≡ None
  pub profile : AllByRecursion (λ k. key_misfit (columns_in items) k ≡ None) (keys_in items)

accepted : (create : CreateTable) → refusal create ≡ None → IsAccepted create.definitions
unfolding refusal name_refusal first_duplicate first_unknown first_misfit
accepted create e =
    let items = create.definitions in
    let C = columns_in items in
    let D = defaults_of create.options in
    let first = or_none _ _ e in
    let second = or_none _ _ first.1 in
    let third = or_none _ _ second.1 in
    let names = or_none _ _ (map_none _ _ third.0) in
    let others = or_none _ _ names.1 in
    record {
      limits = within create.definitions (map_none _ _ second.0);
      columns = names.0;
      indexes = others.0;
      parts = others.1;
      known = map_none _ _ third.1;
      profile = every_key (λ x. item_misfit D C x ≡ None) (λ k. key_misfit C k ≡ None) (λ k h. h) items (none_given (item_misfit D C) items (map_none _ _ first.0));
    }

-- the columns of a key's parts take their prefix lengths
parts_taken : (C : List ColumnDefinition) (key : KeyDefinition) → key_misfit C key ≡ None → AllByRecursion (IsTaken C) key.parts
unfolding key_misfit
parts_taken C key e =
    let first = or_none _ _ e in
    let second = or_none _ _ first.1 in
    every_map (λ p. part_misfit C p ≡ None) (IsTaken C) (λ p h. (neither (is_refused (column_named C p.column) p.prefix) _ None h).0) key.parts (none_given (part_misfit C) key.parts second.0)

none_missing : (names ns : List (List ℕ)) → find (is_missing names) ns ≡ None → AllByRecursion (λ n. is_among names n ≡ true) ns
none_missing names [] e = tt
none_missing names (n ∷ ns) e =
    let first = neither (is_missing names n) n (find (is_missing names) ns) e in
    (not-false (is_among names n) first.0, none_missing names ns first.1)

sound : (items : List CreateDefinition) (key : KeyDefinition) → IsNamedKey key → has_many_parts key ≡ false → first_repeated (part_names key) ≡ None → find (is_missing (column_names items)) (part_names key) ≡ None → key_misfit (columns_in items) key ≡ None → ((test : KeyDefinition → Bool) → test key ≡ true → list_any test (keys_in items) ≡ true) → IsSoundKey items key
sound items key named few apart known profile member = record {
  some = named.some;
  few = few;
  apart = (apart_from [] (part_names key) apart).1;
  known = none_missing (column_names items) (part_names key) known;
  member = λ n e. member (λ k. is_primary k && is_among (part_names k) n) e;
  taken = parts_taken (columns_in items) key profile;
}

all_sound : (items : List CreateDefinition) → IsAccepted items → AllByRecursion IsNamedKey (keys_in items) → AllByRecursion (IsSoundKey items) (keys_in items)
all_sound items is named =
    let Few : KeyDefinition → Type 0 = λ k. has_many_parts k ≡ false in
    let Once : KeyDefinition → Type 0 = λ k. first_repeated (part_names k) ≡ None in
    let Known : KeyDefinition → Type 0 = λ k. find (is_missing (column_names items)) (part_names k) ≡ None in
    let Fits : KeyDefinition → Type 0 = λ k. key_misfit (columns_in items) k ≡ None in
    let Member : KeyDefinition → Type 0 = λ k. (test : KeyDefinition → Bool) → test k ≡ true → list_any test (keys_in items) ≡ true in
    let start = every_both IsNamedKey Few (λ k. Once k → Known k → Fits k → Member k → IsSoundKey items k) (λ k n f o u t m. sound items k n f o u t m) (keys_in items) named (none_pass has_many_parts (keys_in items) is.limits.parts) in
    let next = every_both (λ k. Once k → Known k → Fits k → Member k → IsSoundKey items k) Once (λ k. Known k → Fits k → Member k → IsSoundKey items k) (λ k g. g) (keys_in items) start (none_given (λ key. first_repeated (part_names key)) (keys_in items) is.parts) in
    let later = every_both (λ k. Known k → Fits k → Member k → IsSoundKey items k) Known (λ k. Fits k → Member k → IsSoundKey items k) (λ k g. g) (keys_in items) next (none_given (λ key. find (is_missing (column_names items)) (part_names key)) (keys_in items) is.known) in
    let last = every_both (λ k. Fits k → Member k → IsSoundKey items k) Fits (λ k. Member k → IsSoundKey items k) (λ k g. g) (keys_in items) later is.profile in
    every_both (λ k. Member k → IsSoundKey items k) Member (IsSoundKey items) (λ k g. g) (keys_in items) last (members (keys_in items))

-- at most one key is primary
record IsSplit (keys : List KeyDefinition) : Type 0 where
  pub further : further_keys keys ≡ filter (is_of false) keys
  pub one : length (filter (is_of true) keys) ≤ 1

split_primary : (k : KeyDefinition) (keys : List KeyDefinition) → is_primary k ≡ true → AllByRecursion (λ j. is_primary j ≡ false) keys → IsSplit (k ∷ keys)
split_primary k keys e h = record {
  further = rw e (sym (filter_all (is_of false) keys (every_map (λ j. is_primary j ≡ false) (λ j. is_of false j ≡ true) (λ j f. rw f refl) keys h)));
  one = rw e (rw (filter_none (is_of true) keys h) (omega arith));
}

split_secondary : (k : KeyDefinition) (keys : List KeyDefinition) → is_primary k ≡ false → IsSplit keys → IsSplit (k ∷ keys)
split_secondary k keys e is = record { further = rw e (ap (λ ks. k ∷ ks) is.further); one = rw e is.one }

split : (keys : List KeyDefinition) → AllByRecursion (λ k. is_primary k ≡ false) (further_keys keys) → IsSplit keys
split [] h = record { further = refl; one = omega arith }
split (k ∷ keys) h =
    let P : List KeyDefinition → Type 0 = λ ks. AllByRecursion (λ j. is_primary j ≡ false) ks in
    elim (cases_Bool (is_primary k)) [
      | inl e ↦ let behind : cond (is_primary k) keys (k ∷ further_keys keys) ≡ keys = rw e refl in split_primary k keys e (subst P behind h)
      | inr e ↦
          let behind : cond (is_primary k) keys (k ∷ further_keys keys) ≡ k ∷ further_keys keys = rw e refl in
          let others : P (k ∷ further_keys keys) = subst P behind h in
          split_secondary k keys e (split keys others.1)
    ]

-- the key of an index that has its name apart from the primary key's is another key
index_primary : (k : KeyDefinition) → is_primary k ≡ true → index_name k ≡ primary_name
unfolding index_name
index_primary k e = rw e refl

not_primary : (k : KeyDefinition) → same (index_name k) primary_name ≡ false → is_primary k ≡ false
not_primary k e =
    elim (cases_Bool (is_primary k)) [
      | inl f ↦ let equal : same (index_name k) primary_name ≡ true = ap (λ n. same n primary_name) (index_primary k f) in absurd cc
      | inr f ↦ f
    ]

all_further : (items : List CreateDefinition) → first_repeated (index_names items) ≡ None → AllByRecursion (λ k. is_primary k ≡ false) (further_keys (keys_in items))
all_further items e =
    let apart = (apart_from [] (index_names items) e).1 in
    every_map (λ k. same (index_name k) primary_name ≡ false) (λ k. is_primary k ≡ false) not_primary (further_keys (keys_in items)) (of_every (λ n. same n primary_name ≡ false) index_name (further_keys (keys_in items)) apart.0)

-- the indexes that are not primary
declared_primary : (C : List TheColumn) (k : KeyDefinition) → (declared_index C k).primary ≡ is_primary k
unfolding declared_index
declared_primary C k = refl

declared_name : (C : List TheColumn) (k : KeyDefinition) → (declared_index C k).name ≡ index_name k
unfolding declared_index
declared_name C k = refl

others_of : (C : List TheColumn) (keys : List KeyDefinition) → filter (λ i. not i.primary) (map (declared_index C) keys) ≡ map (declared_index C) (filter (is_of false) keys)
others_of C keys = filter_of (declared_index C) (λ i. not i.primary) (is_of false) (λ k. ap not (declared_primary C k)) keys

abbrev first_keys : List CreateDefinition → List KeyDefinition
first_keys items = filter (is_of true) (keys_in items)

abbrev other_keys : List CreateDefinition → List KeyDefinition
other_keys items = filter (is_of false) (keys_in items)

others : (items : List CreateDefinition) → filter (λ i. not i.primary) (declared_indexes items) ≡ map (declared_index (declared_columns items)) (other_keys items)
others items =
    others_of (declared_columns items) (first_keys items ++ other_keys items)
    ∙ ap (map (declared_index (declared_columns items))) (filter-append (is_of false) (first_keys items) (other_keys items)
    ∙ rw (filter_none (is_of false) (first_keys items) (every_map (λ k. is_of true k ≡ true) (λ k. is_of false k ≡ false) (λ k e. rw e refl) (first_keys items) (every_passes (is_of true) (keys_in items))))
    (filter_all (is_of false) (other_keys items) (every_passes (is_of false) (keys_in items))))

all_others : (C : List TheColumn) (keys : List KeyDefinition) → AllByRecursion (λ k. is_of false k ≡ true) keys → AllByRecursion (λ i. i.primary ≡ false) (map (declared_index C) keys)
all_others C keys h =
    every_of (λ i. i.primary ≡ false) (declared_index C) keys (every_map (λ k. is_of false k ≡ true) (λ k. (declared_index C k).primary ≡ false) (λ k e. declared_primary C k ∙ not-true (is_primary k) e) keys h)

every_drop : {A : Type 0} (P : A → Type 0) (xs : List A) → AllByRecursion P xs → AllByRecursion P (drop 1 xs)
every_drop P [] h = tt
every_drop P (x ∷ xs) h = h.1

primary_first : (C : List TheColumn) (firsts others : List KeyDefinition) → length firsts ≤ 1 → AllByRecursion (λ k. is_of false k ≡ true) others → AllByRecursion (λ i. i.primary ≡ false) (drop 1 (map (declared_index C) (firsts ++ others)))
primary_first C [] others one h = every_drop _ _ (all_others C others h)
primary_first C (k ∷ []) others one h = all_others C others h
primary_first C (k ∷ j ∷ ks) others one h = absurd (omega arith)

typed_column : (items : List CreateDefinition) (c : ColumnDefinition) → IsColType (declared_column items c).kind
unfolding declared_column
typed_column items c = column_kind c

-- the indexes within the limits
shape : (create : CreateTable) → IsAccepted create.definitions → IsNamedTable create → IsSchema (declared create)
unfolding declared
shape create is named =
    let items = create.definitions in
    let cut = split (keys_in items) (all_further items is.indexes) in
    let keys = all_sound items is (every_key IsNamedItem IsNamedKey (λ k h. h) items named.items) in
    let numbered = every_append (IsSoundKey items) (first_keys items) (other_keys items) (every_filter (IsSoundKey items) (is_of true) (keys_in items) keys) (every_filter (IsSoundKey items) (is_of false) (keys_in items) keys) in
    record {
      few_columns = rw (length-map (columns_in items) (declared_column items)) is.limits.columns;
      types = to_all _ _ (every_of (λ c. IsColType c.kind) (declared_column items) (columns_in items) (every_any _ (typed_column items) (columns_in items)));
      few_indexes = rw (others items, length-map (other_keys items) (declared_index (declared_columns items))) is.limits.indexes;
      indexes = to_all _ _ (every_of (FitsIndex (declared_columns items)) (declared_index (declared_columns items)) (keys_by_number items) (every_map (IsSoundKey items) (λ k. FitsIndex (declared_columns items) (declared_index (declared_columns items) k)) (fits items) (keys_by_number items) numbered));
      primary_first = to_all _ _ (primary_first (declared_columns items) (first_keys items) (other_keys items) cut.one (every_passes (is_of false) (keys_in items)));
    }

index_named : (k : KeyDefinition) → IsName k.name → IsName (index_name k)
unfolding index_name
index_named k named =
    cond_both (is_primary k) primary_name (cond (same k.name primary_name) primary_name k.name) IsName (λ e. primary_named)
    (λ e. cond_both (same k.name primary_name) primary_name k.name IsName (λ f. primary_named) (λ f. named))

named_index : (C : List TheColumn) (k : KeyDefinition) → IsNamedKey k → IsNamedIndex (declared_index C k)
unfolding declared_index
named_index C k named = record { name = index_named k named.name; primary = λ e. index_primary k e }

has_column : (items : List CreateDefinition) → list_any is_column items ≡ true → 1 ≤ length (columns_in items)
has_column [] e = absurd cc
has_column (Column c ∷ items) e = omega arith
has_column (Key k ∷ items) e = has_column items e

-- the names of the indexes are those of the statement
indexes_named : (items : List CreateDefinition) → further_keys (keys_in items) ≡ other_keys items → index_names_of (declared_indexes items) ≡ index_names items
indexes_named items e =
    ap (λ ns. primary_name ∷ ns) (ap (map (λ i. i.name)) (others items) ∙ map_both (declared_index (declared_columns items)) (λ i. i.name) (other_keys items)
    ∙ map_same (λ k. (declared_index (declared_columns items) k).name) index_name (declared_name (declared_columns items)) (other_keys items) ∙ ap (map index_name) (sym e))

given : (create : CreateTable) → IsAccepted create.definitions → IsNamedTable create → IsDeclarable (declared create)
unfolding declared
given create is named =
    let items = create.definitions in
    let cut = split (keys_in items) (all_further items is.indexes) in
    let keys = every_key IsNamedItem IsNamedKey (λ k h. h) items named.items in
    let numbered = every_append IsNamedKey (first_keys items) (other_keys items) (every_filter IsNamedKey (is_of true) (keys_in items) keys) (every_filter IsNamedKey (is_of false) (keys_in items) keys) in
    record {
      shape = shape create is named;
      table = named.table;
      some = rw (length-map (columns_in items) (declared_column items)) (has_column items named.column);
      columns = to_all _ _ (every_of (λ c. IsName c.name) (declared_column items) (columns_in items) (every_map (λ c. IsName c.name) (λ c. IsName (declared_column items c).name) (λ c h. subst IsName (sym (column_name_of items c)) h) (columns_in items) (every_column IsNamedItem (λ c. IsName c.name) (λ c h. h) items named.items)));
      indexes = to_all _ _ (every_of IsNamedIndex (declared_index (declared_columns items)) (keys_by_number items) (every_map IsNamedKey (λ k. IsNamedIndex (declared_index (declared_columns items) k)) (named_index (declared_columns items)) (keys_by_number items) numbered));
      columns_differ = ap first_repeated (columns_named items) ∙ is.columns;
      indexes_differ = ap first_repeated (indexes_named items cut.further) ∙ is.indexes;
    }

-- what a statement gives
pub unrefused : (o : Option SchemaFault) (d s : Schema) → unless_refused o d ≡ Ok s → (o ≡ None) × (d ≡ s)
unrefused None d s e = (refl, cc)
unrefused (Some fault) d s e = absurd cc

by_statement : (o : Option CreateTable) (s : Schema) → IfSome o IsNamedTable → outcome_of o ≡ Ok s → IsDeclarable s
unfolding schema_of
by_statement None s named e = absurd cc
by_statement (Some create) s named e =
    let done = unrefused (refusal create) (declared create) s e in
    subst IsDeclarable done.1 (given create (accepted create done.0) named)

pub read_given : (text : List ℕ) (s : Schema) → read_of text ≡ Ok s → IsDeclarable s
unfolding read_of
read_given text s e = by_statement (create_form text) s (named_table text) e

-- the same of a result
pub answer_given : (text : List ℕ) (r : Result Schema SchemaFault) → Answers (read_of text) r → IfOk r IsDeclarable
answer_given text (Ok s) h = read_given text s h
answer_given text (Err fault) h = tt
