-- The names of a statement that a text is are names, and its keys have parts.
use Rattle.std.proofs.Common.{◌≡◌, ℕ, ◌≤◌, true, false, not, List, [], ◌∷◌, ◌++◌, length, codes, Option, Some, None, refl, subst, arith}
use Rattle.std.specs.Prelude.{IfSome}
use Rattle.std.specs.List.{AllByRecursion, list_any}
use Rattle.rx_token.specs.declared.kinds.Token.{Token}
use Rattle.rx_token.specs.declared.kinds.TokenKind.{TokenKind}
use Rattle.rx_token.specs.declared.kinds.TokenKind.TheVariants.{Word, Quoted, Number, Str, Sign}
use Rattle.rx_token.specs.declared.signs.TheConstants.{COMMA}
use Rattle.rx_token.specs.Reserved.{is_reserved}
use Rattle.rx_token.specs.Scan.{token_list}
use Rattle.rx_reading.specs.Forms.{One, Name, Listed, last, before, values, SpellsListed, IndexWord, key, index, SpellsIndexWord}
use Rattle.rx_reading.specs.Forms as form
use Rattle.rx_ddl.specs.declared.statements.KeyDefinition.{KeyDefinition}
use Rattle.rx_ddl.specs.declared.statements.CreateDefinition.{CreateDefinition}
use Rattle.rx_ddl.specs.declared.statements.CreateDefinition.TheVariants.{Column, Key}
use Rattle.rx_ddl.specs.declared.statements.CreateTable.{CreateTable}
use Rattle.rx_ddl.specs.Canonical.{IsName}
use Rattle.rx_ddl.specs.ColumnForms.{ColumnName}
use Rattle.rx_ddl.specs.KeyForms.{PartForm, part_value, FrontForm, primary, unique, fulltext, spatial, plain, SpellsFront, front_name, KeyForm, SpellsKey, key_value}
use Rattle.rx_ddl.specs.StatementForms.{DefinitionForm, SpellsDefinition, definition_value, IsCreate}
use Rattle.rx_ddl.specs.StatementForms as item
use Rattle.rx_ddl.specs.Create.{is_column, create_form}
use Rattle.rx_reading.proofs.Each.{Tail, tail_of}
use Rattle.rx_ddl.proofs.StatementLaws.{definition_shrinks, form_spelled}
use Rattle.rx_schema.proofs.Tokens.{IsToken, IsNamed, tokens_named}

-- the names among the tokens are names
abbrev Named : List Token → Type 0
Named ts = AllByRecursion IsNamed ts

end_named : (front rest : List Token) → Named (front ++ rest) → Named rest
end_named [] rest h = h
end_named (t ∷ front) rest h = end_named front rest h.1

tail_named : (ts rest : List Token) → Tail ts rest → Named ts → Named rest
tail_named ts rest tail h = end_named tail.front rest (subst Named tail.is h)

one_named : (fits : Token → Type 0) (ts rest : List Token) → One fits ts rest → Named ts → Named rest
one_named fits [] rest s h = absurd s
one_named fits (t ∷ ts) rest s h = subst Named s.1 h.1

name_by : (kind : TokenKind) (text : List ℕ) → IsToken kind text → elim kind [ Word ↦ not (is_reserved text) | Quoted ↦ true | _ ↦ false ] ≡ true → IsName text
name_by Word text h e = h
name_by Quoted text h e = h
name_by (Number n) text h e = absurd cc
name_by Str text h e = absurd cc
name_by (Sign n) text h e = absurd cc

name_named : (name : List ℕ) (ts rest : List Token) → Name name ts rest → Named ts → IsName name
name_named name [] rest s h = absurd s
name_named name (t ∷ ts) rest s h = subst IsName s.0.1 (name_by t.kind t.text h.0 s.0.0)

column_named : (name : List ℕ) (ts rest : List Token) → ColumnName name ts rest → Named ts → IsName name
column_named name [] rest s h = absurd s
column_named name (t ∷ ts) rest s h = subst IsName s.0.2 (name_by t.kind t.text h.0 s.0.1)

-- the name of a key
index_word_named : (w : IndexWord) (ts rest : List Token) → SpellsIndexWord w ts rest → Named ts → Named rest
index_word_named key ts rest s h = one_named _ ts rest s h
index_word_named index ts rest s h = one_named _ ts rest s h

pub primary_named : IsName (codes "PRIMARY")
primary_named = record { some = omega arith; short = omega arith; bytes = refl }

front_named : (f : FrontForm) (ts rest : List Token) → SpellsFront f ts rest → Named ts → IsName (front_name f)
front_named primary ts rest s h = primary_named
front_named (unique w name) ts rest (a, s, (b, t, u)) h = name_named name b rest u (index_word_named w a b t (one_named _ ts a s h))
front_named (fulltext w name) ts rest (a, s, (b, t, u)) h = name_named name b rest u (index_word_named w a b t (one_named _ ts a s h))
front_named (spatial w name) ts rest (a, s, (b, t, u)) h = name_named name b rest u (index_word_named w a b t (one_named _ ts a s h))
front_named (plain w name) ts rest (a, s, u) h = name_named name a rest u (index_word_named w ts a s h)

-- a key has a name and parts
pub record IsNamedKey (k : KeyDefinition) : Type 0 where
  pub name : IsName k.name
  pub some : 1 ≤ length k.parts

some_parts : (list : Listed PartForm) → 1 ≤ length (values part_value list)
some_parts (last p) = omega arith
some_parts (before p others) = omega arith

key_named : (k : KeyForm) (ts rest : List Token) → SpellsKey k ts rest → Named ts → IsNamedKey (key_value k)
key_named k ts rest (mid, s, more) h = record { name = front_named k.front ts mid s h; some = some_parts k.parts }

-- the same of a column or a key
abbrev pub IsNamedItem : CreateDefinition → Type 0
IsNamedItem (Column c) = IsName c.name
IsNamedItem (Key k) = IsNamedKey k

item_named : (d : DefinitionForm) (ts rest : List Token) → SpellsDefinition d ts rest → Named ts → IsNamedItem (definition_value d)
item_named (item.column c) ts rest (mid, s, more) h = column_named c.name ts mid s h
item_named (item.key k) ts rest s h = key_named k ts rest s h

items_named : (list : Listed DefinitionForm) (ts rest : List Token) → SpellsListed (form.Sign COMMA) SpellsDefinition list ts rest → Named ts → AllByRecursion IsNamedItem (values definition_value list)
items_named (last d) ts rest s h = (item_named d ts rest s h, tt)
items_named (before d others) ts rest (end, s, (next, comma, more)) h =
    (item_named d ts end s h, items_named others next rest more (one_named _ end next comma (tail_named ts end (tail_of ts end (definition_shrinks d ts end s)) h)))

-- What a text says is named by names, its keys have parts, and it has a column.
pub record IsNamedTable (create : CreateTable) : Type 0 where
  pub table : IsName create.table
  pub items : AllByRecursion IsNamedItem create.definitions
  pub column : list_any is_column create.definitions ≡ true

spelled_named : (text : List ℕ) (c : CreateTable) → IsCreate text c → IsNamedTable c
spelled_named text c (good, (s, has, (create, a, (table, b, (name, named, (closed, (behind, opened, (end, items, close)), more)))), stands)) =
    let at_create = one_named _ (token_list text) create a (tokens_named text) in
    let at_table = one_named _ create table b at_create in
    let at_name = one_named _ table name named at_table in
    let at_items = one_named _ name behind opened at_name in
    subst IsNamedTable stands (record { table = name_named s.table table name named at_table; items = items_named s.definitions behind end items at_items; column = has })

named_by : (text : List ℕ) (o : Option CreateTable) → create_form text ≡ o → IfSome o IsNamedTable
named_by text None e = tt
named_by text (Some c) e = spelled_named text c (form_spelled text c e)

pub named_table : (text : List ℕ) → IfSome (create_form text) IsNamedTable
named_table text = named_by text (create_form text) refl
