-- The condition of a SELECT that tokens with texts in UTF-8 are compares texts in UTF-8.
use Rattle.std.proofs.Common.{◌≡◌, ℕ, List, [], Option, Some, None, subst, codes}
use Rattle.rx_token.specs.declared.kinds.Token.{Token}
use Rattle.rx_token.specs.declared.signs.TheConstants.{OPEN, CLOSE, COMMA, STAR}
use Rattle.rx_reading.specs.Forms.{Form, ◌>>◌, Word, Sign, Name, Listed, SpellsEnclosed, SpellsEach, IndexWord, key, index, SpellsIndexWord}
use Rattle.rx_reading.proofs.Enclosed.{enclosed_forward}
use Rattle.rx_reading.proofs.Spelled.{Forward, listed_forward, then_forward}
use Rattle.rx_cond.specs.declared.conds.Tri.TheVariants.{T}
use Rattle.rx_where.specs.Grammar.{Cond}
use Rattle.rx_where.specs.Raw.{truth}
use Rattle.rx_where.proofs.OperandLaws.{word_forward, sign_forward, name_forward}
use Rattle.rx_script.specs.Statements.{WrittenSelect, select}
use Rattle.rx_script.specs.Reading.{statement_at}
use Rattle.rx_script.specs.Grammar.{SpellsNames, CountForm, rows, of_column, different, SpellsCount, FoldWord, fold_word, ItemForm, column, counted, folded, SpellsItem, ItemsForm, every, listed, SpellsItems, QuantityForm, unsaid, all, distinct, SpellsQuantity, HintForm, use_none, use_some, ignore, SpellsHint, SpellsWhere, SpellsClauses, ClausesForm, SelectForm, SpellsHead, SpellsSource, SpellsSelect, select_value}
use Rattle.rx_script.specs.Grammar as grammar
use Rattle.rx_script.proofs.StatementLaws.{statement_spelled}
use Rattle.rx_spelled.specs.Utf8.{RawComparesUtf8}
use Rattle.rx_spelled.proofs.Conditions.{spelled_utf8}
use Rattle.rx_spelled.proofs.Keeping.{Texts, Keeps, forward_keeps, word_keeps, sign_keeps, nothing_keeps, then_keeps, each_keeps}

names_forward : (names : Listed (List ℕ)) → Forward (SpellsNames names)
names_forward names = listed_forward (Sign COMMA) Name (sign_forward COMMA) name_forward names

count_forward : (c : CountForm) → Forward (SpellsCount c)
count_forward rows = sign_forward STAR
count_forward (of_column name) = name_forward name
count_forward (different names) = then_forward (Word (codes "DISTINCT")) (SpellsNames names) (word_forward (codes "DISTINCT")) (names_forward names)

called_forward : (word : List ℕ) (form : Form) → Forward form → Forward (grammar.Called word form)
called_forward word form inner =
    then_forward (Word word) (Sign OPEN >> form >> Sign CLOSE) (word_forward word)
    (then_forward (Sign OPEN) (form >> Sign CLOSE) (sign_forward OPEN) (then_forward form (Sign CLOSE) inner (sign_forward CLOSE)))

item_forward : (i : ItemForm) → Forward (SpellsItem i)
item_forward (column name) = name_forward name
item_forward (counted c) = called_forward (codes "COUNT") (SpellsCount c) (count_forward c)
item_forward (folded f name) = called_forward (fold_word f) (Name name) (name_forward name)

items_keep : (list : ItemsForm) → Keeps (SpellsItems list)
items_keep every = sign_keeps STAR
items_keep (listed list) = forward_keeps (SpellsItems (listed list)) (listed_forward (Sign COMMA) SpellsItem (sign_forward COMMA) item_forward list)

quantity_keeps : (q : QuantityForm) → Keeps (SpellsQuantity q)
quantity_keeps unsaid = nothing_keeps
quantity_keeps all = word_keeps (codes "ALL")
quantity_keeps distinct = word_keeps (codes "DISTINCT")

head_keeps : (quantity : QuantityForm) (list : ItemsForm) → Keeps (SpellsHead quantity list)
head_keeps quantity list =
    then_keeps (Word (codes "SELECT")) (SpellsQuantity quantity >> SpellsItems list) (word_keeps (codes "SELECT"))
    (then_keeps (SpellsQuantity quantity) (SpellsItems list) (quantity_keeps quantity) (items_keep list))

index_keeps : (word : IndexWord) → Keeps (SpellsIndexWord word)
index_keeps key = word_keeps (codes "KEY")
index_keeps index = word_keeps (codes "INDEX")

enclosed_keeps : (names : Listed (List ℕ)) → Keeps (SpellsEnclosed Name names)
enclosed_keeps names = forward_keeps (SpellsEnclosed Name names) (enclosed_forward Name name_forward names)

hint_keeps : (hint : HintForm) → Keeps (SpellsHint hint)
hint_keeps (use_none word) =
    then_keeps (Word (codes "USE")) (SpellsIndexWord word >> Sign OPEN >> Sign CLOSE) (word_keeps (codes "USE"))
    (then_keeps (SpellsIndexWord word) (Sign OPEN >> Sign CLOSE) (index_keeps word) (then_keeps (Sign OPEN) (Sign CLOSE) (sign_keeps OPEN) (sign_keeps CLOSE)))
hint_keeps (use_some word names) =
    then_keeps (Word (codes "USE")) (SpellsIndexWord word >> SpellsEnclosed Name names) (word_keeps (codes "USE"))
    (then_keeps (SpellsIndexWord word) (SpellsEnclosed Name names) (index_keeps word) (enclosed_keeps names))
hint_keeps (ignore word names) =
    then_keeps (Word (codes "IGNORE")) (SpellsIndexWord word >> SpellsEnclosed Name names) (word_keeps (codes "IGNORE"))
    (then_keeps (SpellsIndexWord word) (SpellsEnclosed Name names) (index_keeps word) (enclosed_keeps names))

source_keeps : (table : List ℕ) (hints : List HintForm) → Keeps (SpellsSource table hints)
source_keeps table hints =
    then_keeps (Word (codes "FROM")) (Name table >> SpellsEach SpellsHint hints) (word_keeps (codes "FROM"))
    (then_keeps (Name table) (SpellsEach SpellsHint hints) (forward_keeps (Name table) (name_forward table)) (each_keeps SpellsHint hint_keeps hints))

where_utf8 : (c : Option Cond) (ts rest : List Token) → Texts ts → grammar.SpellsOptional (codes "WHERE") SpellsWhere c ts rest → RawComparesUtf8 (grammar.optional_value (truth T) grammar.where_value c)
where_utf8 None ts rest h s = tt
where_utf8 (Some c) ts rest h (mid, word, (depth, s)) = spelled_utf8 c mid rest (word_keeps (codes "WHERE") ts mid h word) s

clauses_utf8 : (s : SelectForm) (ts rest : List Token) → Texts ts → SpellsClauses s.clauses ts rest → RawComparesUtf8 (select_value s).cond
clauses_utf8 s ts rest h (mid, found, more) = where_utf8 s.clauses.where_is ts mid h found

select_utf8 : (s : SelectForm) (ts rest : List Token) → Texts ts → SpellsSelect s ts rest → RawComparesUtf8 (select_value s).cond
select_utf8 s ts rest h (mid, head, (next, source, clauses)) =
    clauses_utf8 s next rest (source_keeps s.table s.hints mid next (head_keeps s.quantity s.list ts mid h head) source) clauses

pub written_utf8 : (ts : List Token) (w : WrittenSelect) → Texts ts → statement_at ts ≡ Some (select w) → RawComparesUtf8 w.cond
written_utf8 ts w h e =
    let (s, spelled, same) = statement_spelled ts (select w) e in
    subst (λ (v : WrittenSelect). RawComparesUtf8 v.cond) same (select_utf8 s ts [] h spelled)
