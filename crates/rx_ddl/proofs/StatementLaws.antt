-- Statements: what is read is spelled, what is spelled is read, and so two derivations of one text stand for one statement.
use Rattle.std.proofs.Common.{◌≡◌, ℕ, Bool, true, false, ◌&&◌, ◌||◌, cond, List, [], ◌∷◌, length, map, Option, Some, None, refl, sym, ap, subst, ◌∙◌, codes, arith}
use Rattle.std.specs.Prelude.{Result, Ok, Err, IfOk}
use Rattle.std.specs.Result.{IsErrOf}
use Rattle.std.specs.List.{list_any}
use Rattle.std.specs.Option.{option_and_then, option_or}
use Rattle.std.proofs.lemmas.List.{map-id}
use Rattle.std.proofs.lemmas.Option.{cond_some}
use Rattle.rx_token.specs.declared.kinds.Token.{Token}
use Rattle.rx_token.specs.declared.signs.TheConstants.{COMMA, EQUAL, SEMICOLON}
use Rattle.rx_token.specs.Reserved.{is_word_of}
use Rattle.rx_token.specs.Scan.{token_list, bad_place}
use Rattle.rx_reading.specs.Reading.{after_key, after_word, after_sign, word_at, name_at, is_end, past, more_at, gathered, items_at, enclosed_at, of_whole}
use Rattle.rx_reading.specs.declared.items.Separator.TheVariants.{Nothing, MaybeComma}
use Rattle.rx_reading.specs.Forms.{◌>>◌, Sign, Name, values, SpellsEach, AnyWord}
use Rattle.rx_reading.proofs.Steps.{stepped, then_gives, then_none, second_gives, same_value}
use Rattle.rx_reading.proofs.Spelled.{word_spelled, word_read, sign_spelled, sign_read, name_spelled, name_read, Read}
use Rattle.rx_ddl.specs.declared.statements.KeyKind.{KeyKind}
use Rattle.rx_ddl.specs.declared.statements.KeyKind.TheVariants.{Primary, Unique, Plain, Fulltext, Spatial}
use Rattle.rx_ddl.specs.declared.statements.ColumnDefinition.{ColumnDefinition}
use Rattle.rx_ddl.specs.declared.statements.KeyDefinition.{KeyDefinition}
use Rattle.rx_ddl.specs.declared.statements.CreateDefinition.{CreateDefinition}
use Rattle.rx_ddl.specs.declared.statements.CreateDefinition.TheVariants.{Column, Key}
use Rattle.rx_ddl.specs.declared.statements.TableOption.{TableOption}
use Rattle.rx_ddl.specs.declared.statements.CreateTable.{CreateTable}
use Rattle.rx_ddl.specs.declared.faults.CreateFault.{CreateFault}
use Rattle.rx_ddl.specs.declared.faults.CreateFault.TheVariants.{NotInGrammar}
use Rattle.rx_ddl.specs.Columns.{column_at}
use Rattle.rx_ddl.specs.Keys.{kind_mark_at, key_kind_at, key_at}
use Rattle.rx_ddl.specs.Options.{is_value_kind, value_at, option_at, options_at}
use Rattle.rx_ddl.specs.Create.{definition_of, definition_at, is_column, after_create, create_at, create_form}
use Rattle.rx_ddl.specs.ColumnForms.{begins_key, ColumnName, ColumnForm, SpellsColumn}
use Rattle.rx_ddl.specs.StatementForms.{DefinitionForm, column, key, SpellsDefinition, definition_value, OptionValue, Lead, bare, behind_comma, SpellsLead, OptionForm, SpellsOption, option_value, Ending, open_end, semicolon, SpellsEnding, StatementForm, SpellsStatement, statement_value, HasColumn, IsStatement, IsCreate, IsNoCreate}
use Rattle.rx_reading.proofs.Each.{Shrinks, Within, one_shrinks, shrinks_within, then_shrinks, then_within, within_then, no_token_within, each_within, each_spelled, each_read}
use Rattle.rx_ddl.proofs.Enclosed.{enclosed_spelled, enclosed_read}
use Rattle.rx_reading.proofs.FirstTokens.{sign_shrinks, any_word_shrinks, no_word_here, sign_no_any_word, sign_no_sign, any_word_no_sign, Ends, pair, any_word_spelled, any_word_read}
use Rattle.rx_ddl.proofs.ColumnLaws.{column_spelled, column_read, column_shrinks}
use Rattle.rx_ddl.proofs.KeyLaws.{key_spelled, key_read, key_shrinks}

-- where no key begins
none_of : {A : Type 0} (a b : Option A) → option_or a b ≡ None → (a ≡ None) × (b ≡ None)
none_of None b e = (refl, e)
none_of (Some x) b e = absurd cc

no_test : {A : Type 0} (b : Bool) (x : A) → cond b (Some x) None ≡ None → b ≡ false
no_test true x e = absurd cc
no_test false x e = refl

nothing_then : {A B : Type 0} (f : A → B) (o : Option A) → option_and_then (λ x. Some (f x)) o ≡ None → o ≡ None
nothing_then f None e = refl
nothing_then f (Some x) e = absurd cc

unmarked : (word : List ℕ) (kind : KeyKind) (t : Token) (ts : List Token) → kind_mark_at word kind (t ∷ ts) ≡ None → is_word_of word t ≡ false
unmarked word kind t ts e = no_test (is_word_of word t) ts (nothing_then (λ (rest : List Token). pair kind rest) (after_word word (t ∷ ts)) e)

no_key_word : (t : Token) (ts : List Token) → key_kind_at (t ∷ ts) ≡ None → begins_key t ≡ false
unfolding key_kind_at
no_key_word t ts e =
    let a = none_of (kind_mark_at (codes "PRIMARY") Primary (t ∷ ts)) _ e in
    let b = none_of (kind_mark_at (codes "UNIQUE") Unique (t ∷ ts)) _ a.1 in
    let c = none_of (kind_mark_at (codes "FULLTEXT") Fulltext (t ∷ ts)) _ b.1 in
    let d = none_of (kind_mark_at (codes "SPATIAL") Spatial (t ∷ ts)) _ c.1 in
    let k = none_of (after_word (codes "KEY") (t ∷ ts)) (after_word (codes "INDEX") (t ∷ ts)) (nothing_then (λ (rest : List Token). pair Plain (t ∷ ts)) (after_key (t ∷ ts)) d.1) in
    rw (unmarked (codes "PRIMARY") Primary t ts a.0, unmarked (codes "UNIQUE") Unique t ts b.0, unmarked (codes "FULLTEXT") Fulltext t ts c.0, unmarked (codes "SPATIAL") Spatial t ts d.0, no_test (is_word_of (codes "KEY") t) ts k.0, no_test (is_word_of (codes "INDEX") t) ts k.1) refl

neither : (a b : Bool) → (a || b) ≡ false → (a ≡ false) × (b ≡ false)
neither true b e = absurd cc
neither false b e = (refl, e)

no_kind : (word : List ℕ) (kind : KeyKind) (t : Token) (ts : List Token) → is_word_of word t ≡ false → kind_mark_at word kind (t ∷ ts) ≡ None
no_kind word kind t ts e = then_none (λ (rest : List Token). Some (pair kind rest)) (no_word_here word t ts e)

no_key_here : (t : Token) (ts : List Token) → begins_key t ≡ false → key_kind_at (t ∷ ts) ≡ None
unfolding key_kind_at
no_key_here t ts e =
    let a = neither (is_word_of (codes "PRIMARY") t) _ e in
    let b = neither (is_word_of (codes "UNIQUE") t) _ a.1 in
    let c = neither (is_word_of (codes "FULLTEXT") t) _ b.1 in
    let d = neither (is_word_of (codes "SPATIAL") t) _ c.1 in
    let k = neither (is_word_of (codes "KEY") t) _ d.1 in
    let i = neither (is_word_of (codes "INDEX") t) _ k.1 in
    second_gives (no_kind (codes "PRIMARY") Primary t ts a.0) (second_gives (no_kind (codes "UNIQUE") Unique t ts b.0) (second_gives (no_kind (codes "FULLTEXT") Fulltext t ts c.0) (second_gives (no_kind (codes "SPATIAL") Spatial t ts d.0)
    (then_none (λ (rest : List Token). Some (pair Plain (t ∷ ts))) (second_gives (no_word_here (codes "KEY") t ts k.0) (no_word_here (codes "INDEX") t ts i.0))))))

column_named : (ts : List Token) → key_kind_at ts ≡ None → (name : List ℕ) (mid : List Token) → Name name ts mid → ColumnName name ts mid
column_named [] none name mid s = s
column_named (t ∷ ts) none name mid s = ((no_key_word t ts none, s.0.0, s.0.1), s.1)

no_column_key : (c : ColumnForm) (ts rest : List Token) → SpellsColumn c ts rest → key_kind_at ts ≡ None
no_column_key c [] rest (mid, s, more) = absurd s
no_column_key c (t ∷ ts) rest (mid, s, more) = no_key_here t ts s.0.0

-- a column or a key
abbrev column_step : ColumnDefinition × List Token → Option (CreateDefinition × List Token)
column_step c = Some (Column c.0, c.1)

abbrev key_step : KeyDefinition × List Token → Option (CreateDefinition × List Token)
key_step k = Some (Key k.0, k.1)

abbrev DefinitionRead : List Token → CreateDefinition × List Token → Type 0
DefinitionRead ts x = Read SpellsDefinition definition_value ts x

definition_by : (ts : List Token) (o : Option (KeyKind × List Token)) → key_kind_at ts ≡ o → (x : CreateDefinition × List Token) → definition_of ts o ≡ Some x → DefinitionRead ts x
definition_by ts None is x e =
    let (c, read, same) = stepped column_step (column_at ts) x e in
    let r = column_spelled ts c (column_named ts is) read in
    subst (DefinitionRead ts) (same_value (pair (Column c.0) c.1) x same) (record { form = column r.form; spelled = r.spelled; stands = ap Column r.stands })
definition_by ts (Some front) is x e =
    let (k, read, same) = stepped key_step (key_at front.0 front.1) x e in
    let r = key_spelled ts front is k read in
    subst (DefinitionRead ts) (same_value (pair (Key k.0) k.1) x same) (record { form = key r.form; spelled = r.spelled; stands = ap Key r.stands })

definition_spelled : (ts : List Token) (x : CreateDefinition × List Token) → definition_at ts ≡ Some x → DefinitionRead ts x
unfolding definition_at
definition_spelled ts x e = definition_by ts (key_kind_at ts) refl x e

definition_read : (d : DefinitionForm) (ts rest : List Token) → SpellsDefinition d ts rest → Ends rest → definition_at ts ≡ Some (pair (definition_value d) rest)
unfolding definition_at
definition_read (column c) ts rest s end = ap (definition_of ts) (no_column_key c ts rest s) ∙ then_gives column_step (column_read c ts rest s end) refl
definition_read (key k) ts rest s end =
    let r = key_read k ts rest s end in
    ap (definition_of ts) r.kind ∙ then_gives key_step r.read refl

pub definition_shrinks : (d : DefinitionForm) → Shrinks (SpellsDefinition d)
definition_shrinks (column c) = column_shrinks c
definition_shrinks (key k) = key_shrinks k

-- an option
value_spelled : (ts : List Token) (x : List ℕ × List Token) → value_at ts ≡ Some x → OptionValue x.0 ts x.1
value_spelled [] x e = absurd cc
value_spelled (t ∷ ts) x e =
    let (b, same) = cond_some (is_value_kind t.kind) (pair t.text ts) x e in
    ((b, ap (λ (y : List ℕ × List Token). y.0) same), ap (λ (y : List ℕ × List Token). y.1) same)

value_read : (text : List ℕ) (ts rest : List Token) → OptionValue text ts rest → value_at ts ≡ Some (pair text rest)
value_read text [] rest s = absurd s
value_read text (t ∷ ts) rest s = ap (λ (b : Bool). cond b (Some (pair t.text ts)) None) s.0.0 ∙ ap (λ (n : List ℕ). Some (pair n ts)) s.0.1 ∙ ap (λ (us : List Token). Some (pair text us)) s.1

-- words behind the first one
abbrev itself : List ℕ → List ℕ
itself word = word

abbrev words_behind : List ℕ × List Token → Option (List (List ℕ) × List Token)
words_behind x = Some (x.0 ∷ (more_at (past Nothing) word_at (length x.1) x.1).0, (more_at (past Nothing) word_at (length x.1) x.1).1)

record WordsRead (ts : List Token) (x : List (List ℕ) × List Token) : Type 0 where
  pub word : List ℕ
  pub words : List (List ℕ)
  pub mid : List Token
  pub first : AnyWord word ts mid
  pub others : SpellsEach AnyWord words mid x.1
  pub stands : word ∷ words ≡ x.0

word_behind : (ts : List Token) (x : List ℕ × List Token) → option_and_then word_at (past Nothing ts) ≡ Some x → Read AnyWord itself ts x
word_behind ts x e = record { form = x.0; spelled = any_word_spelled ts x e; stands = refl }

words_spelled : (ts : List Token) (x : List (List ℕ) × List Token) → items_at (past Nothing) word_at ts ≡ Some x → WordsRead ts x
unfolding items_at
words_spelled ts x e =
    let (y, is, same) = stepped words_behind (word_at ts) x e in
    let all = each_spelled (past Nothing) word_at AnyWord itself word_behind (length y.1) y.1 in
    let m = more_at (past Nothing) word_at (length y.1) y.1 in
    subst (WordsRead ts) (same_value (y.0 ∷ m.0, m.1) x same) (record {
      word = y.0;
      words = all.form;
      mid = y.1;
      first = any_word_spelled ts y is;
      others = all.spelled;
      stands = ap (λ (ws : List (List ℕ)). y.0 ∷ ws) (sym (map-id all.form) ∙ all.stands);
    })

words_read : (word : List ℕ) (words : List (List ℕ)) (ts mid rest : List Token) → AnyWord word ts mid → SpellsEach AnyWord words mid rest → word_at rest ≡ None → items_at (past Nothing) word_at ts ≡ Some (word ∷ words, rest)
unfolding items_at
words_read word words ts mid rest first others none =
    then_gives words_behind (any_word_read word ts mid first)
    (ap (λ (m : List (List ℕ) × List Token). Some (word ∷ m.0, m.1)) (each_read (past Nothing) word_at AnyWord itself any_word_shrinks any_word_read words (length mid) mid rest others (omega arith) none)
    ∙ ap (λ (ws : List (List ℕ)). Some (pair (word ∷ ws) rest)) (map-id words))

abbrev value_step : List (List ℕ) → List ℕ × List Token → Option (TableOption × List Token)
value_step words value = Some (record { words = words; value = value.0 }, value.1)

abbrev equal_step : List (List ℕ) → List Token → Option (TableOption × List Token)
equal_step words behind = option_and_then (value_step words) (value_at behind)

abbrev words_step : List (List ℕ) × List Token → Option (TableOption × List Token)
words_step words = option_and_then (equal_step words.0) (after_sign EQUAL words.1)

abbrev LeadRead : List Token → List Token → Type 0
LeadRead ts mid = (l : Lead) × SpellsLead l ts mid

lead_by : (ts mid : List Token) (o : Option (List Token)) → after_sign COMMA ts ≡ o → option_or o (Some ts) ≡ Some mid → LeadRead ts mid
lead_by ts mid None is e = (bare, cc)
lead_by ts mid (Some behind) is e = (behind_comma, sign_spelled COMMA ts mid (is ∙ e))

abbrev OptionRead : List Token → TableOption × List Token → Type 0
OptionRead ts x = Read SpellsOption option_value ts x

option_spelled : (ts : List Token) (x : TableOption × List Token) → option_and_then option_at (past MaybeComma ts) ≡ Some x → OptionRead ts x
unfolding option_at
option_spelled ts x e =
    let (front, front_is, e0) = stepped option_at (past MaybeComma ts) x e in
    let (lead, led) = lead_by ts front (after_sign COMMA ts) refl front_is in
    let (words, words_are, e1) = stepped words_step (items_at (past Nothing) word_at front) x e0 in
    let (behind, equal, e2) = stepped (equal_step words.0) (after_sign EQUAL words.1) x e1 in
    let (value, value_is, same) = stepped (value_step words.0) (value_at behind) x e2 in
    let w = words_spelled front words words_are in
    let form : OptionForm = record { lead = lead; word = w.word; words = w.words; value = value.0 } in
    subst (OptionRead ts) (same_value (pair (record { words = words.0; value = value.0 }) value.1) x same) (record {
      form = form;
      spelled = (front, led, (w.mid, w.first, (words.1, w.others, (behind, sign_spelled EQUAL words.1 behind equal, value_spelled behind value value_is))));
      stands = ap (λ (ws : List (List ℕ)). record { words = ws; value = value.0 }) w.stands;
    })

lead_read : (l : Lead) (ts mid rest : List Token) (word : List ℕ) → SpellsLead l ts mid → AnyWord word mid rest → past MaybeComma ts ≡ Some mid
lead_read bare ts mid rest word s first =
    subst (λ (us : List Token). past MaybeComma us ≡ Some mid) (sym s) (second_gives (any_word_no_sign word COMMA mid rest first) refl)
lead_read behind_comma ts mid rest word s first = ap (λ (o : Option (List Token)). option_or o (Some ts)) (sign_read COMMA ts mid s)

option_read : (o : OptionForm) (ts rest : List Token) → SpellsOption o ts rest → option_and_then option_at (past MaybeComma ts) ≡ Some (pair (option_value o) rest)
unfolding option_at
option_read o ts rest (front, led, (mid, first, (end, others, (behind, equal, value_is)))) =
    then_gives option_at (lead_read o.lead ts front mid o.word led first)
    (then_gives words_step (words_read o.word o.words front mid end first others (sign_no_any_word EQUAL end behind equal))
    (then_gives (equal_step (o.word ∷ o.words)) (sign_read EQUAL end behind equal)
    (then_gives (value_step (o.word ∷ o.words)) (value_read o.value behind rest value_is) refl)))

lead_within : (l : Lead) → Within (SpellsLead l)
lead_within bare = no_token_within
lead_within behind_comma = shrinks_within (Sign COMMA) (sign_shrinks COMMA)

option_shrinks : (o : OptionForm) → Shrinks (SpellsOption o)
option_shrinks o =
    within_then (SpellsLead o.lead) (AnyWord o.word >> SpellsEach AnyWord o.words >> Sign EQUAL >> OptionValue o.value) (lead_within o.lead)
    (then_shrinks (AnyWord o.word) (SpellsEach AnyWord o.words >> Sign EQUAL >> OptionValue o.value) (any_word_shrinks o.word)
    (then_within (SpellsEach AnyWord o.words) (Sign EQUAL >> OptionValue o.value) (each_within AnyWord (λ w. shrinks_within (AnyWord w) (any_word_shrinks w)) o.words)
    (then_within (Sign EQUAL) (OptionValue o.value) (shrinks_within (Sign EQUAL) (sign_shrinks EQUAL)) (shrinks_within (OptionValue o.value) (one_shrinks _)))))

-- the end of all
ending_spelled : (ts : List Token) → is_end ts ≡ true → (e : Ending) × SpellsEnding e ts []
ending_spelled [] is = (open_end, refl)
ending_spelled (t ∷ []) is = (semicolon, (is, refl))
ending_spelled (t ∷ u ∷ ts) is = absurd cc

ending_read : (e : Ending) (ts : List Token) → SpellsEnding e ts [] → is_end ts ≡ true
ending_read open_end ts s = ap is_end s
ending_read semicolon [] s = absurd s
ending_read semicolon (t ∷ []) s = s.0
ending_read semicolon (t ∷ u ∷ ts) s = absurd cc

no_option : (e : Ending) (ts : List Token) → SpellsEnding e ts [] → option_and_then option_at (past MaybeComma ts) ≡ None
unfolding option_at items_at
no_option open_end ts s = ap (λ (us : List Token). option_and_then option_at (past MaybeComma us)) s
no_option semicolon ts s =
    ap (λ (o : Option (List Token)). option_and_then option_at (option_or o (Some ts))) (sign_no_sign SEMICOLON COMMA refl ts [] s)
    ∙ then_none words_step (then_none words_behind (sign_no_any_word SEMICOLON ts [] s))

-- a statement
abbrev made_statement : List ℕ → List CreateDefinition → List TableOption → CreateTable
made_statement table definitions options = record { table = table; definitions = definitions; options = options }

abbrev options_step : List ℕ → List CreateDefinition → List TableOption × List Token → Option CreateTable
options_step name items options = cond (is_end options.1 && list_any is_column items) (Some (made_statement name items options.0)) None

abbrev items_step : List ℕ → List CreateDefinition × List Token → Option CreateTable
items_step name items = option_and_then (options_step name items.0) (options_at items.1)

abbrev name_step : List ℕ × List Token → Option CreateTable
name_step name = option_and_then (items_step name.0) (enclosed_at definition_at name.1)

abbrev table_step : List Token → Option CreateTable
table_step table = option_and_then name_step (name_at table)

both : (a b : Bool) → (a && b) ≡ true → (a ≡ true) × (b ≡ true)
both true b e = (refl, e)
both false b e = absurd cc

statement_same : (f : StatementForm) (n : List ℕ) (g : List CreateDefinition) (h : List TableOption) → f.table ≡ n → values definition_value f.definitions ≡ g → map option_value f.options ≡ h → statement_value f ≡ made_statement n g h
statement_same f n g h a b c =
    ap (λ (v : List ℕ). made_statement v (values definition_value f.definitions) (map option_value f.options)) a
    ∙ ap (λ (v : List CreateDefinition). made_statement n v (map option_value f.options)) b
    ∙ ap (λ (v : List TableOption). made_statement n g v) c

-- what is read is a statement
pub statement_spelled : (ts : List Token) (c : CreateTable) → create_at ts ≡ Some c → IsStatement ts c
unfolding create_at
statement_spelled ts c e =
    let (table, created, e1) = stepped table_step (after_create ts) c e in
    let (create, create_is, table_is) = stepped (after_word (codes "TABLE")) (after_word (codes "CREATE") ts) table created in
    let (name, name_is, e2) = stepped name_step (name_at table) c e1 in
    let (items, items_are, e3) = stepped (items_step name.0) (enclosed_at definition_at name.1) c e2 in
    let (options, options_are, e6) = stepped (options_step name.0 items.0) (options_at items.1) c e3 in
    let (holds, same) = cond_some (is_end options.1 && list_any is_column items.0) (made_statement name.0 items.0 options.0) c e6 in
    let (ended, has) = both (is_end options.1) (list_any is_column items.0) holds in
    let g = enclosed_spelled definition_at SpellsDefinition definition_value definition_spelled name.1 items items_are in
    let h = each_spelled (past MaybeComma) option_at SpellsOption option_value option_spelled (length items.1) items.1 in
    let here : gathered [] (more_at (past MaybeComma) option_at (length items.1) items.1) ≡ options = same_value (gathered [] (more_at (past MaybeComma) option_at (length items.1) items.1)) options options_are in
    let (ending, end) = ending_spelled options.1 ended in
    let form : StatementForm = record { table = name.0; definitions = g.form; options = h.form; ending = ending } in (
      form,
      ap (list_any is_column) g.stands ∙ has,
      (
        create,
        word_spelled (codes "CREATE") ts create create_is,
        (
          table,
          word_spelled (codes "TABLE") create table table_is,
          (
            name.1,
            name_spelled table name name_is,
            (items.1, g.spelled, (options.1, subst (λ (m : List TableOption × List Token). SpellsEach SpellsOption h.form items.1 m.1) here h.spelled, end)),
          ),
        ),
      ),
      statement_same form name.0 items.0 options.0 refl g.stands (h.stands ∙ ap (λ (m : List TableOption × List Token). m.0) here) ∙ same,
    )

-- a statement is read
pub statement_read : (s : StatementForm) (ts : List Token) → HasColumn s → SpellsStatement s ts [] → create_at ts ≡ Some (statement_value s)
unfolding create_at
statement_read s ts has (create, create_is, (table, table_is, (name, name_is, (closed, items_are, (rest, options_are, ending))))) =
    then_gives table_step (then_gives (after_word (codes "TABLE")) (word_read (codes "CREATE") ts create create_is) (word_read (codes "TABLE") create table table_is))
    (then_gives name_step (name_read s.table table name name_is)
    (then_gives (items_step s.table) (enclosed_read definition_at SpellsDefinition definition_value definition_shrinks definition_read s.definitions name closed items_are)
    (then_gives (options_step s.table (values definition_value s.definitions)) (ap (λ (m : List TableOption × List Token). Some (gathered [] m)) (each_read (past MaybeComma) option_at SpellsOption option_value option_shrinks option_read s.options (length closed) closed rest options_are (omega arith) (no_option s.ending rest ending)))
    (ap (λ (b : Bool). cond (b && list_any is_column (values definition_value s.definitions)) (Some (statement_value s)) None) (ending_read s.ending rest ending)
    ∙ ap (λ (b : Bool). cond b (Some (statement_value s)) None) has))))

-- the same of a whole text
whole_by : (bad : Option ℕ) (ts : List Token) (c : CreateTable) → of_whole create_at ts bad ≡ Some c → (bad ≡ None) × (create_at ts ≡ Some c)
whole_by None ts c e = (refl, e)
whole_by (Some place) ts c e = absurd cc

pub form_spelled : (text : List ℕ) (c : CreateTable) → create_form text ≡ Some c → IsCreate text c
unfolding create_form
form_spelled text c e =
    let w = whole_by (bad_place text) (token_list text) c e in
    (w.0, statement_spelled (token_list text) c w.1)

pub form_read : (text : List ℕ) (c : CreateTable) → IsCreate text c → create_form text ≡ Some c
unfolding create_form
form_read text c (good, (s, has, spelled, stands)) =
    ap (of_whole create_at (token_list text)) good ∙ statement_read s (token_list text) has spelled ∙ ap (λ (d : CreateTable). Some d) stands

none_is_some : (c : CreateTable) → None ≡ Some c → ⊥
none_is_some c e = cc

pub none_spelled : (text : List ℕ) → create_form text ≡ None → IsNoCreate text
none_spelled text e c is = none_is_some c (sym e ∙ form_read text c is)

pub only : (text : List ℕ) (a b : CreateTable) → IsCreate text a → IsCreate text b → a ≡ b
only text a b is other = same_value a b (sym (form_read text a is) ∙ form_read text b other)

-- the same of a result
pub answer_found : (text : List ℕ) (r : Result CreateTable CreateFault) → IfOk r (λ c. create_form text ≡ Some c) → IfOk r (IsCreate text)
answer_found text (Ok c) e = form_spelled text c e
answer_found text (Err fault) e = tt

pub answer_none : (text : List ℕ) (r : Result CreateTable CreateFault) → (IsErrOf r NotInGrammar → create_form text ≡ None) → IsErrOf r NotInGrammar → IsNoCreate text
answer_none text r e is = none_spelled text (e is)
