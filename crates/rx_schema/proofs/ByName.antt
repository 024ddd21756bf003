-- Columns by their names in a map.
use Rattle.std.proofs.Common.{◌≡◌, ℕ, zero, suc, ◌+◌, ◌<◌, Bool, true, false, cond, List, [], ◌∷◌, ◌++◌, length, drop, Option, Some, None, refl, sym, ap, ◌∙◌, arith}
use lib.ListN.{get_or}
use Rattle.std.specs.Option.{option_or, option_map}
use Rattle.std.specs.List.{flat_map}
use Rattle.std.specs.Map.{lookup}
use Rattle.std.specs.Str.{str_to_ascii_lowercase}
use Rattle.std.specs.Char.{to_ascii_lowercase}
use Rattle.std.specs.Hash as fed
use Rattle.std.proofs.lemmas.List.{length-map}
use Rattle.indexmap.specs.IndexMap.{IndexMap}
use Rattle.rx_ddl.specs.declared.statements.ColumnDefinition.{ColumnDefinition}
use Rattle.rx_ddl.specs.declared.statements.KeyDefinition.{KeyDefinition}
use Rattle.rx_ddl.specs.declared.statements.CreateDefinition.{CreateDefinition}
use Rattle.rx_ddl.specs.declared.statements.CreateDefinition.TheVariants.{Column, Key}
use Rattle.rx_schema.specs.Given.{columns_in}
use Rattle.rx_schema.specs.declared.lookup.NameKey.{NameKey}
use Rattle.rx_schema.specs.declared.lookup.Texts.{Texts}
use Rattle.rx_schema.specs.Profile.{column_named}
use Rattle.rx_schema.specs.Lookup.{name_input, texts_of, by_name}
use Rattle.rx_schema.proofs.Repeats.{same, same_turned, same_along}

lowered : (name : List ℕ) → name_input name ≡ flat_map fed.u8 (str_to_ascii_lowercase name)
lowered [] = refl
lowered (b ∷ bs) = ap (λ w. fed.u8 (to_ascii_lowercase b) ++ w) (lowered bs)

-- the length of a name and then its bytes are the input of the name in lower case
pub input_is : (name : List ℕ) → fed.usize (length name) ++ name_input name ≡ fed.slice fed.u8 (str_to_ascii_lowercase name)
input_is name = ap (λ (n : ℕ). fed.usize n ++ name_input name) (sym (length-map name to_ascii_lowercase)) ∙ ap (λ w. fed.usize (length (str_to_ascii_lowercase name)) ++ w) (lowered name)

-- a map has the same at names that are the same
alike : {X : Type 0} (entries : List (NameKey × X)) (m n : List ℕ) → same m n ≡ true → lookup (λ key. same m key.name.now) entries ≡ lookup (λ key. same n key.name.now) entries
alike [] m n e = refl
alike (entry ∷ entries) m n e = rw (same_along m n entry.0.name.now e) (ap (λ o. cond (same n entry.0.name.now) (Some entry.1) o) (alike entries m n e))

or_nothing : {X : Type 0} (o : Option X) → o ≡ option_or o None
or_nothing None = refl
or_nothing (Some x) = refl

-- a value that is put at a name that had none
put_by : {X : Type 0} (b : Bool) (x : X) (o : Option X) → (b ≡ true → o ≡ None) → cond b (Some x) o ≡ option_or o (cond b (Some x) None)
put_by true x o h = rw (h refl) refl
put_by false x o h = or_nothing o

abbrev key_of : NameKey → List ℕ → NameKey
key_of key name = record key { name = record key.name { now = name } }

pub put : {X S : Type 0} (old new : IndexMap NameKey X S) (key : NameKey) (own : List ℕ) (x : X) → key.name.now ≡ own → ((q : NameKey) → by_name new q.name.now ≡ cond (same key.name.now q.name.now) (Some x) (by_name old q.name.now)) → by_name old key.name.now ≡ None → (name : List ℕ) → by_name new name ≡ option_or (by_name old name) (cond (same own name) (Some x) None)
put old new key own x is updates none name =
    updates (key_of key name) ∙ put_by (same key.name.now name) x (by_name old name) (λ e. sym (alike old.entries key.name.now name e) ∙ none)
    ∙ ap (λ (m : List ℕ). option_or (by_name old name) (cond (same m name) (Some x) None)) is

-- what is noted of a column, and what those behind it say
noted : (o : Option Texts) (c : ColumnDefinition) (columns : List ColumnDefinition) (name : List ℕ) → option_or (option_or o (cond (same c.name name) (Some (texts_of c)) None)) (option_map texts_of (column_named columns name)) ≡ option_or o (option_map texts_of (column_named (c ∷ columns) name))
noted o c columns name = by_test o (same c.name name) (same name c.name) (same_turned c.name name) where
  by_test : (o : Option Texts) (a b : Bool) → a ≡ b → option_or (option_or o (cond a (Some (texts_of c)) None)) (option_map texts_of (column_named columns name)) ≡ option_or o (option_map texts_of (cond b (Some c) (column_named columns name)))
  by_test (Some x) a b e = refl
  by_test None true true e = refl
  by_test None false false e = refl
  by_test None true false e = absurd cc
  by_test None false true e = absurd cc

-- the items from a place on are the one there and those behind it
cut_at : {X : Type 0} (xs : List X) (i : ℕ) (x : X) → i < length xs → x ≡ get_or xs i x → drop i xs ≡ x ∷ drop (i + 1) xs
cut_at [] i x within is = absurd (omega arith)
cut_at (y ∷ ys) zero x within is = ap (λ z. z ∷ ys) (sym is)
cut_at (y ∷ ys) (suc i) x within is = let later : suc i + 1 ≡ suc (i + 1) = omega arith in cut_at ys i x (omega arith) is ∙ ap (λ k. x ∷ drop k (y ∷ ys)) (sym later)

-- the turn of a loop at a column
pub turn : {S : Type 0} (old new : IndexMap NameKey Texts S) (items : List CreateDefinition) (i : ℕ) (x : CreateDefinition) (c : ColumnDefinition) → i < length items → x ≡ get_or items i x → x ≡ Column c → ((n : List ℕ) → by_name new n ≡ option_or (by_name old n) (cond (same c.name n) (Some (texts_of c)) None)) → ((n : List ℕ) → option_or (by_name old n) (option_map texts_of (column_named (columns_in (drop i items)) n)) ≡ option_map texts_of (column_named (columns_in items) n)) → (n : List ℕ) → option_or (by_name new n) (option_map texts_of (column_named (columns_in (drop (i + 1) items)) n)) ≡ option_map texts_of (column_named (columns_in items) n)
turn old new items i x c within there is note so_far n =
    let rest = drop (i + 1) items in
    let cut : drop i items ≡ Column c ∷ rest = cut_at items i x within there ∙ ap (λ y. y ∷ rest) is in
    ap (λ o. option_or o (option_map texts_of (column_named (columns_in rest) n))) (note n) ∙ noted (by_name old n) c (columns_in rest) n
    ∙ ap (λ xs. option_or (by_name old n) (option_map texts_of (column_named (columns_in xs) n))) (sym cut) ∙ so_far n

-- the same at a key
pub turn_past : {S : Type 0} (old : IndexMap NameKey Texts S) (items : List CreateDefinition) (i : ℕ) (x : CreateDefinition) (k : KeyDefinition) → i < length items → x ≡ get_or items i x → x ≡ Key k → ((n : List ℕ) → option_or (by_name old n) (option_map texts_of (column_named (columns_in (drop i items)) n)) ≡ option_map texts_of (column_named (columns_in items) n)) → (n : List ℕ) → option_or (by_name old n) (option_map texts_of (column_named (columns_in (drop (i + 1) items)) n)) ≡ option_map texts_of (column_named (columns_in items) n)
turn_past old items i x k within there is so_far n =
    let cut : drop i items ≡ Key k ∷ drop (i + 1) items = cut_at items i x within there ∙ ap (λ y. y ∷ drop (i + 1) items) is in
    ap (λ xs. option_or (by_name old n) (option_map texts_of (column_named (columns_in xs) n))) (sym cut) ∙ so_far n
