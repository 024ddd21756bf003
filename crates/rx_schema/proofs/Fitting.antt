-- The index of a key fits the columns of its table.
use Rattle.std.proofs.Common.{◌≡◌, ℕ, ◌<◌, ◌≤◌, Bool, true, false, ◌&&◌, List, [], ◌∷◌, length, map, Option, Some, None, refl, sym, ap, subst, ◌∙◌, arith}
use Rattle.std.specs.Prelude.{slice_get, nat_eq}
use Rattle.std.specs.Option.{option_map}
use Rattle.std.specs.List.{AllByRecursion, list_any, IsDistinct}
use Rattle.std.proofs.lemmas.Bool.{ltb-false}
use Rattle.std.proofs.lemmas.List.{length-map}
use Rattle.std.proofs.lemmas.Option.{slice_get-map}
use Rattle.rx_value.specs.declared.shapes.Column.{Column}
use Rattle.rx_value.specs.Shape.{IsNotNull, FitsPrefix, FitsIndex}
use Rattle.rx_ddl.specs.declared.statements.ColumnDefinition.{ColumnDefinition}
use Rattle.rx_ddl.specs.declared.statements.KeyKind.{KeyKind}
use Rattle.rx_ddl.specs.declared.statements.KeyKind.TheVariants.{Primary, Unique, Plain, Fulltext, Spatial}
use Rattle.rx_ddl.specs.declared.statements.KeyPart.{KeyPart}
use Rattle.rx_ddl.specs.declared.statements.KeyDefinition.{KeyDefinition}
use Rattle.rx_ddl.specs.declared.statements.CreateDefinition.{CreateDefinition}
use Rattle.rx_schema.specs.Given.{columns_in}
use Rattle.rx_schema.specs.Limits.{is_primary_kind, is_primary, has_many_parts}
use Rattle.rx_schema.specs.Names.{column_names, part_names, is_among}
use Rattle.rx_schema.specs.Profile.{column_named, is_refused}
use Rattle.rx_schema.specs.Tables.{names_of}
use Rattle.rx_schema.specs.Columns.{may_be_null, is_in_primary, declared_column, declared_columns}
use Rattle.rx_schema.specs.Indexes.{is_unique_kind, column_number, declared_part, declared_index}
use Rattle.rx_schema.proofs.Every.{every_map, every_both, every_of, of_every, to_all}
use Rattle.rx_schema.proofs.Places.{numbered, numbers_differ, members}
use Rattle.rx_schema.proofs.Prefixes.{columns_named, part_fits}
use Rattle.rx_schema.proofs.Repeats.{same, same_turned, Apart}

-- a part's column takes its prefix length
abbrev pub IsTaken : List ColumnDefinition → KeyPart → Type 0
IsTaken columns part = is_refused (column_named columns part.column) part.prefix ≡ false

-- what is known of a key of a table that is read
pub record IsSoundKey (items : List CreateDefinition) (key : KeyDefinition) : Type 0 where
  pub some : 1 ≤ length key.parts
  pub few : has_many_parts key ≡ false
  pub apart : Apart (part_names key)
  pub known : AllByRecursion (λ n. is_among (column_names items) n ≡ true) (part_names key)
  pub member : (n : List ℕ) → (is_primary key && is_among (part_names key) n) ≡ true → is_in_primary items n ≡ true
  pub taken : AllByRecursion (IsTaken (columns_in items)) key.parts

abbrev IsKnown : List Column → KeyPart → Type 0
IsKnown C part = is_among (names_of C) part.column ≡ true

differ_from : (C : List Column) (n : List ℕ) (parts : List KeyPart) → is_among (names_of C) n ≡ true → AllByRecursion (IsKnown C) parts → AllByRecursion (λ m. same m n ≡ false) (map (λ p. p.column) parts) → AllByRecursion (λ c. nat_eq (column_number (names_of C) n) c ≡ false) (map (λ p. p.column) (map (declared_part C) parts))
differ_from C n [] e known apart = tt
differ_from C n (p ∷ parts) e known apart = (numbers_differ (names_of C) n p.column e known.0 apart.0, differ_from C n parts e known.1 apart.1)

distinct : (C : List Column) (parts : List KeyPart) → AllByRecursion (IsKnown C) parts → Apart (map (λ p. p.column) parts) → IsDistinct nat_eq (map (λ p. p.column) (map (declared_part C) parts))
unfolding IsDistinct
distinct C [] known apart = tt
distinct C (p ∷ parts) known apart = (differ_from C p.column parts known.0 known.1 apart.0, distinct C parts known.1 apart.1)

primary_unique : (kind : KeyKind) → is_primary_kind kind ≡ true → is_unique_kind kind ≡ true
primary_unique Primary e = refl
primary_unique Unique e = refl
primary_unique Plain e = absurd cc
primary_unique Fulltext e = absurd cc
primary_unique Spatial e = absurd cc

-- an option that a function took to a value
pub mapped : {A B : Type 0} (f : A → B) (o : Option A) (y : B) → option_map f o ≡ Some y → (x : A) × (o ≡ Some x) × (f x ≡ y)
mapped f None y e = absurd cc
mapped f (Some x) y e = (x, refl, cc)

not_null_by : (items : List CreateDefinition) (c : ColumnDefinition) → is_in_primary items c.name ≡ true → (declared_column items c).nullable ≡ false
unfolding declared_column
not_null_by items c e = rw e (and_not (may_be_null c.attributes)) where
  and_not : (b : Bool) → (b && false) ≡ false
  and_not true = refl
  and_not false = refl

named_null : (items : List CreateDefinition) (key : KeyDefinition) → ((n : List ℕ) → (is_primary key && is_among (part_names key) n) ≡ true → is_in_primary items n ≡ true) → is_primary key ≡ true → (n : List ℕ) → is_among (column_names items) n ≡ true → ((test : List ℕ → Bool) → test n ≡ true → list_any test (part_names key) ≡ true) → IsNotNull (declared_columns items) (column_number (column_names items) n)
named_null items key member primary n known inside =
    let here = numbered (column_names items) n known in
    let column = mapped (λ c. c.name) (slice_get (columns_in items) (column_number (column_names items) n)) here.name (sym (slice_get-map (λ c. c.name) (columns_in items) (column_number (column_names items) n)) ∙ here.there) in
    let among : is_among (part_names key) here.name ≡ true = inside (λ other. same here.name other) (same_turned here.name n ∙ here.equal) in
    let in_primary : is_in_primary items here.name ≡ true = member here.name (rw (primary, among) refl) in (
      declared_column items column.0,
      slice_get-map (declared_column items) (columns_in items) (column_number (column_names items) n) ∙ ap (option_map (declared_column items)) column.1,
      not_null_by items column.0 (ap (is_in_primary items) column.2 ∙ in_primary),
    )

-- the same by the names of the declared columns
abbrev IsMember : KeyDefinition → List ℕ → Type 0
IsMember key n = (test : List ℕ → Bool) → test n ≡ true → list_any test (part_names key) ≡ true

never_null : (items : List CreateDefinition) (key : KeyDefinition) → ((n : List ℕ) → (is_primary key && is_among (part_names key) n) ≡ true → is_in_primary items n ≡ true) → is_primary key ≡ true → (n : List ℕ) → is_among (names_of (declared_columns items)) n ≡ true → IsMember key n → IsNotNull (declared_columns items) (column_number (names_of (declared_columns items)) n)
never_null items key member primary n known inside =
    let among : is_among (column_names items) n ≡ true = subst (λ (ns : List (List ℕ)). is_among ns n ≡ true) (columns_named items) known in
    subst (λ (ns : List (List ℕ)). IsNotNull (declared_columns items) (column_number ns n)) (sym (columns_named items)) (named_null items key member primary n among inside)

pub fits : (items : List CreateDefinition) (key : KeyDefinition) → IsSoundKey items key → FitsIndex (declared_columns items) (declared_index (declared_columns items) key)
unfolding declared_index
fits items key is =
    let C = declared_columns items in
    let names : AllByRecursion (λ n. is_among (names_of C) n ≡ true) (part_names key) = subst (λ (ns : List (List ℕ)). AllByRecursion (λ n. is_among ns n ≡ true) (part_names key)) (sym (columns_named items)) is.known in
    let known : AllByRecursion (IsKnown C) key.parts = of_every (λ n. is_among (names_of C) n ≡ true) (λ p. p.column) key.parts names in
    let count : length (names_of C) ≡ length C = length-map C (λ c. c.name) in
    let some = is.some in
    record {
      some = rw (length-map key.parts (declared_part C)) (omega arith);
      few = rw (length-map key.parts (declared_part C)) (ltb-false 16 (length key.parts) is.few);
      there = to_all _ _ (every_of (λ c. c < length C) (λ p. p.column) _ (every_of (λ p. p.column < length C) (declared_part C) key.parts
          (every_map (IsKnown C) (λ p. column_number (names_of C) p.column < length C) (λ p e. subst (λ (k : ℕ). column_number (names_of C) p.column < k) count ((numbered (names_of C) p.column e).within)) key.parts known)));
      distinct = distinct C key.parts known is.apart;
      unique = λ e. primary_unique key.kind e;
      not_null = λ e. to_all _ _ (every_of (IsNotNull C) (λ p. p.column) _ (every_of (λ p. IsNotNull C p.column) (declared_part C) key.parts
          (every_both (IsKnown C) (λ p. IsMember key p.column) (λ p. IsNotNull C (column_number (names_of C) p.column)) (λ p k inside. never_null items key is.member e p.column k inside) key.parts known (of_every (IsMember key) (λ p. p.column) key.parts (members (part_names key))))));
      prefixes = to_all _ _ (every_of (FitsPrefix C) (declared_part C) key.parts (every_both (IsKnown C) (IsTaken (columns_in items)) (λ p. FitsPrefix C (declared_part C p)) (λ p k t. part_fits items p k t) key.parts known is.taken));
    }
