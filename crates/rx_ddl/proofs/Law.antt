-- The canonical text of a statement is read as the statement.
use Rattle.std.proofs.Common.{◌≡◌, ℕ, ◌<◌, ◌≤◌, ◌^◌, Bool, true, false, List, [], ◌∷◌, ◌++◌, length, Option, Some, None, refl, sym, ap, subst, ◌∙◌, arith, codes, append_assoc}
use Rattle.std.specs.Prelude.{IfSome}
use Rattle.std.specs.List.{All, list_any, flat_map}
use Rattle.std.specs.Fmt.{decimal}
use Rattle.std.proofs.lemmas.List.{append-nil}
use Rattle.std.proofs.lemmas.List.Elements.{All-head, All-tail}
use Rattle.rx_token.specs.declared.kinds.Token.{Token}
use Rattle.rx_token.specs.declared.kinds.TokenKind.TheVariants.{Word, Quoted, Number, Sign}
use Rattle.rx_token.specs.declared.signs.TheConstants.{OPEN, CLOSE, COMMA}
use Rattle.rx_token.specs.Blank.{blank_at}
use Rattle.rx_token.proofs.Whole.{whole}
use Rattle.rx_reading.specs.Reading.{Reader, after_sign, items_at, enclosed_at}
use Rattle.rx_reading.proofs.Whole.{good_text}
use Rattle.rx_ddl.specs.declared.statements.Argument.{Argument}
use Rattle.rx_ddl.specs.declared.statements.Argument.TheVariants.{Number as Count, Text}
use Rattle.rx_ddl.specs.declared.statements.Attribute.{Attribute}
use Rattle.rx_ddl.specs.declared.statements.Attribute.TheVariants.{Unsigned, Zerofill, NotNull, Null, CharacterSet, Collate, Other}
use Rattle.rx_ddl.specs.declared.statements.ColumnDefinition.{ColumnDefinition}
use Rattle.rx_ddl.specs.declared.statements.KeyKind.{KeyKind}
use Rattle.rx_ddl.specs.declared.statements.KeyKind.TheVariants.{Primary, Unique, Plain, Fulltext, Spatial}
use Rattle.rx_ddl.specs.declared.statements.KeyPart.{KeyPart}
use Rattle.rx_ddl.specs.declared.statements.Method.{Method}
use Rattle.rx_ddl.specs.declared.statements.KeyDefinition.{KeyDefinition}
use Rattle.rx_ddl.specs.declared.statements.CreateDefinition.{CreateDefinition}
use Rattle.rx_ddl.specs.declared.statements.CreateDefinition.TheVariants.{Column, Key}
use Rattle.rx_ddl.specs.declared.statements.CreateTable.{CreateTable}
use Rattle.rx_ddl.specs.declared.statements.TableOption.{TableOption}
use Rattle.rx_ddl.specs.Keys.{part_at}
use Rattle.rx_ddl.specs.Create.{definition_at, is_column, create_at, create_form}
use Rattle.rx_ddl.specs.Canonical.{quoted, parted, arguments_text, attribute_text, column_text, key_front, prefix_text, direction_text, part_text, key_text, definition_text, canonical, IsName, IsTypeWord, is_tinyint, is_smallint, is_mediumint, is_int, is_bigint, is_varchar, IsWidth, IsMarks, IsCanonicalColumn, IsKeyName, IsCanonicalPart, IsCanonicalKey, IsCanonicalDefinition, IsCanonical}
use Rattle.rx_ddl.proofs.Scanning.{Reads, Front, Edge, IsWordText, reads_so, space, line, no_bytes, sign, is_open, is_close, is_comma, word, name, number}
use Rattle.rx_ddl.proofs.Grammar.{Gives, Before, More, no_more, one_more, listed, Marks, no_marks, unsigned_mark, not_null_mark, both_marks, Widths, no_width, one_width, column_given, Directed, rising, falling, Prefixed, no_prefix, some_prefix, part_given, parts_given, key_of, primary_given, unique_given, plain_given, is_empty_list, statement_given}

-- the words of the grammar and of the types
word_unsigned : IsWordText (codes "unsigned")
unfolding blank_at
word_unsigned = (refl, refl, omega arith, λ rest. refl)

word_not : IsWordText (codes "NOT")
unfolding blank_at
word_not = (refl, refl, omega arith, λ rest. refl)

word_null : IsWordText (codes "NULL")
unfolding blank_at
word_null = (refl, refl, omega arith, λ rest. refl)

word_desc : IsWordText (codes "DESC")
unfolding blank_at
word_desc = (refl, refl, omega arith, λ rest. refl)

word_primary : IsWordText (codes "PRIMARY")
unfolding blank_at
word_primary = (refl, refl, omega arith, λ rest. refl)

word_unique : IsWordText (codes "UNIQUE")
unfolding blank_at
word_unique = (refl, refl, omega arith, λ rest. refl)

word_key : IsWordText (codes "KEY")
unfolding blank_at
word_key = (refl, refl, omega arith, λ rest. refl)

word_create : IsWordText (codes "CREATE")
unfolding blank_at
word_create = (refl, refl, omega arith, λ rest. refl)

word_table : IsWordText (codes "TABLE")
unfolding blank_at
word_table = (refl, refl, omega arith, λ rest. refl)

word_type : (kind : List ℕ) → IsTypeWord kind → IsWordText kind
unfolding blank_at
word_type _ is_tinyint = (refl, refl, omega arith, λ rest. refl)
word_type _ is_smallint = (refl, refl, omega arith, λ rest. refl)
word_type _ is_mediumint = (refl, refl, omega arith, λ rest. refl)
word_type _ is_int = (refl, refl, omega arith, λ rest. refl)
word_type _ is_bigint = (refl, refl, omega arith, λ rest. refl)
word_type _ is_varchar = (refl, refl, omega arith, λ rest. refl)

-- edges of words
at_space : (rest : List ℕ) → Edge (32 ∷ rest)
at_space rest = record { byte = 32; others = rest; is = refl; ends = refl; plain = refl }

at_line : (rest : List ℕ) → Edge (10 ∷ rest)
at_line rest = record { byte = 10; others = rest; is = refl; ends = refl; plain = refl }

at_open : (rest : List ℕ) → Edge (40 ∷ rest)
at_open rest = record { byte = 40; others = rest; is = refl; ends = refl; plain = refl }

at_close : (rest : List ℕ) → Edge (41 ∷ rest)
at_close rest = record { byte = 41; others = rest; is = refl; ends = refl; plain = refl }

at_comma : (rest : List ℕ) → Edge (44 ∷ rest)
at_comma rest = record { byte = 44; others = rest; is = refl; ends = refl; plain = refl }

-- what is read of attributes, and the edge that they begin with
record ReadMarks (marks : List Attribute) (P : List Token → Type 0) (bytes : List ℕ) : Type 0 where
  edge : Edge bytes
  reads : Reads bytes (Marks marks (Before P))

marks_read : (marks : List Attribute) (rest : List ℕ) (P : List Token → Type 0) → IsMarks marks → Edge rest → Reads rest (Before P) → ReadMarks marks P (flat_map attribute_text marks ++ rest)
marks_read [] rest P is edge read = record { edge = edge; reads = reads_so rest (Before P) (Marks [] (Before P)) (no_marks P) read }
marks_read (Unsigned ∷ []) rest P is edge read = record {
  edge = at_space _;
  reads = space _ _ (reads_so _ (Front Word (codes "unsigned") (Before P)) (Marks (Unsigned ∷ []) (Before P)) (unsigned_mark P) (word (codes "unsigned") rest (Before P) word_unsigned edge read));
}
marks_read (NotNull ∷ []) rest P is edge read =
    let null : Reads (codes "NULL" ++ rest) (Front Word (codes "NULL") (Before P)) = word (codes "NULL") rest (Before P) word_null edge read in
    let never : Reads (codes "NOT" ++ 32 ∷ codes "NULL" ++ rest) (Front Word (codes "NOT") (Front Word (codes "NULL") (Before P))) = word (codes "NOT") (32 ∷ codes "NULL" ++ rest) (Front Word (codes "NULL") (Before P)) word_not (at_space _) (space _ _ null) in
    record { edge = at_space _; reads = space _ _ (reads_so _ _ (Marks (NotNull ∷ []) (Before P)) (not_null_mark P) never) }
marks_read (Unsigned ∷ NotNull ∷ []) rest P is edge read =
    let null : Reads (codes "NULL" ++ rest) (Front Word (codes "NULL") (Before P)) = word (codes "NULL") rest (Before P) word_null edge read in
    let never : Reads (codes "NOT" ++ 32 ∷ codes "NULL" ++ rest) (Front Word (codes "NOT") (Front Word (codes "NULL") (Before P))) = word (codes "NOT") (32 ∷ codes "NULL" ++ rest) (Front Word (codes "NULL") (Before P)) word_not (at_space _) (space _ _ null) in
    let both : Reads (codes "unsigned" ++ 32 ∷ codes "NOT" ++ 32 ∷ codes "NULL" ++ rest) (Front Word (codes "unsigned") (Front Word (codes "NOT") (Front Word (codes "NULL") (Before P)))) = word (codes "unsigned") (32 ∷ codes "NOT" ++ 32 ∷ codes "NULL" ++ rest) (Front Word (codes "NOT") (Front Word (codes "NULL") (Before P))) word_unsigned (at_space _) (space _ _ never) in
    record { edge = at_space _; reads = space _ _ (reads_so _ _ (Marks (Unsigned ∷ NotNull ∷ []) (Before P)) (both_marks P) both) }
marks_read (Zerofill ∷ marks) rest P is edge read = absurd is
marks_read (Null ∷ marks) rest P is edge read = absurd is
marks_read (CharacterSet w ∷ marks) rest P is edge read = absurd is
marks_read (Collate w ∷ marks) rest P is edge read = absurd is
marks_read (Other ∷ marks) rest P is edge read = absurd is
marks_read (NotNull ∷ mark ∷ marks) rest P is edge read = absurd is
marks_read (Unsigned ∷ Unsigned ∷ marks) rest P is edge read = absurd is
marks_read (Unsigned ∷ Zerofill ∷ marks) rest P is edge read = absurd is
marks_read (Unsigned ∷ Null ∷ marks) rest P is edge read = absurd is
marks_read (Unsigned ∷ CharacterSet w ∷ marks) rest P is edge read = absurd is
marks_read (Unsigned ∷ Collate w ∷ marks) rest P is edge read = absurd is
marks_read (Unsigned ∷ Other ∷ marks) rest P is edge read = absurd is
marks_read (Unsigned ∷ NotNull ∷ mark ∷ marks) rest P is edge read = absurd is

-- what is read of arguments and attributes, and the edge that they begin with
record ReadWidths (arguments : List Argument) (marks : List Attribute) (P : List Token → Type 0) (bytes : List ℕ) : Type 0 where
  edge : Edge bytes
  reads : Reads bytes (Widths arguments marks (Before P))

width_text : (n : ℕ) (rest : List ℕ) → arguments_text (Count n ∷ []) ++ rest ≡ 40 ∷ decimal n ++ 41 ∷ rest
width_text n rest = ap (λ (xs : List ℕ). 40 ∷ xs ++ 41 ∷ [] ++ rest) (append-nil (decimal n)) ∙ ap (λ (xs : List ℕ). 40 ∷ xs) (append_assoc (decimal n) (41 ∷ []) rest)

widths_read : (arguments : List Argument) (marks : List Attribute) (rest : List ℕ) (P : List Token → Type 0) → IsWidth arguments → ReadMarks marks P rest → ReadWidths arguments marks P (arguments_text arguments ++ rest)
widths_read [] marks rest P is read = record { edge = read.edge; reads = reads_so rest _ (Widths [] marks (Before P)) (no_width marks (Before P)) read.reads }
widths_read (Count n ∷ []) marks rest P is read =
    let closed : Reads (41 ∷ rest) (Front (Sign CLOSE) (41 ∷ []) (Marks marks (Before P))) = sign 1 41 rest _ is_close read.reads in
    let counted : Reads (decimal n ++ 41 ∷ rest) (Front (Number n) (decimal n) (Front (Sign CLOSE) (41 ∷ []) (Marks marks (Before P)))) = number n rest _ is closed in
    let opened : Reads (40 ∷ decimal n ++ 41 ∷ rest) (Front (Sign OPEN) (40 ∷ []) (Front (Number n) (decimal n) (Front (Sign CLOSE) (41 ∷ []) (Marks marks (Before P))))) = sign 0 40 (decimal n ++ 41 ∷ rest) _ is_open counted in
    subst (ReadWidths (Count n ∷ []) marks P) (sym (width_text n rest)) (record { edge = at_open _; reads = reads_so _ _ (Widths (Count n ∷ []) marks (Before P)) (one_width n (decimal n) marks (Before P)) opened })
widths_read (Count n ∷ argument ∷ arguments) marks rest P is read = absurd is
widths_read (Text text ∷ arguments) marks rest P is read = absurd is

-- a column, before an edge
behind_five : (a b c d e rest : List ℕ) → a ++ b ++ c ++ d ++ e ++ rest ≡ a ++ (b ++ (c ++ (d ++ (e ++ rest))))
behind_five a b c d e rest = rw (append_assoc a b c, append_assoc a (b ++ c) d, append_assoc a (b ++ c ++ d) e, append_assoc a (b ++ c ++ d ++ e) rest, append_assoc b c d, append_assoc b (c ++ d) e, append_assoc b (c ++ d ++ e) rest, append_assoc c d e, append_assoc c (d ++ e) rest, append_assoc d e rest) refl

column_reads : (column : ColumnDefinition) (rest : List ℕ) (P : List Token → Type 0) → IsCanonicalColumn column → Edge rest → Reads rest (Before P) → Reads (column_text column ++ rest) (Gives definition_at (Column column) (Before P))
column_reads column rest P is edge read =
    let marks = marks_read column.attributes rest P is.attributes edge read in
    let widths = widths_read column.arguments column.attributes (flat_map attribute_text column.attributes ++ rest) P is.arguments marks in
    let behind : List ℕ = arguments_text column.arguments ++ (flat_map attribute_text column.attributes ++ rest) in
    let kinds : Reads (column.kind ++ behind) (Front Word column.kind (Widths column.arguments column.attributes (Before P))) = word column.kind behind _ (word_type column.kind is.kind) widths.edge widths.reads in
    let named : Reads (quoted column.name ++ (32 ∷ column.kind ++ behind)) (Front Quoted column.name (Front Word column.kind (Widths column.arguments column.attributes (Before P)))) = name column.name (32 ∷ column.kind ++ behind) _ is.name (at_space _) (space _ _ kinds) in
    subst (λ (xs : List ℕ). Reads xs (Gives definition_at (Column column) (Before P))) (sym (behind_five (quoted column.name) (codes " ") column.kind (arguments_text column.arguments) (flat_map attribute_text column.attributes) rest))
    (reads_so _ _ _ (column_given column.name column.kind column.arguments column.attributes (Before P)) named)

-- items of a list behind a comma, and then a closing parenthesis
abbrev behind_items : {A : Type 0} → (A → List ℕ) → List ℕ → List A → List ℕ → List ℕ
behind_items text between items tail = flat_map (λ other. between ++ text other) items ++ tail

-- how an item is read before an edge
abbrev ReadsItem : {A : Type 0} → Reader A → (A → List ℕ) → (A → Type 0) → Type 1
ReadsItem {A} reader text fits = (item : A) (rest : List ℕ) (P : List Token → Type 0) → fits item → Edge rest → Reads rest (Before P) → Reads (text item ++ rest) (Gives reader item (Before P))

-- what stands between two items is a comma
abbrev ReadsComma : List ℕ → Type 1
ReadsComma between = (rest : List ℕ) (P : List Token → Type 0) → Reads rest P → Edge (between ++ rest) × Reads (between ++ rest) (Front (Sign COMMA) (44 ∷ []) P)

-- what is read behind an item, and the edge that it begins with
record ReadMore {A : Type 0} (reader : Reader A) (items : List A) (P : List Token → Type 0) (bytes : List ℕ) : Type 0 where
  edge : Edge bytes
  reads : Reads bytes (Before (More reader items P))

more_text : {A : Type 0} (text : A → List ℕ) (between : List ℕ) (item : A) (items : List A) (tail : List ℕ) → behind_items text between (item ∷ items) tail ≡ between ++ (text item ++ behind_items text between items tail)
more_text text between item items tail = rw (append_assoc (between ++ text item) (flat_map (λ other. between ++ text other) items) tail, append_assoc between (text item) (flat_map (λ other. between ++ text other) items ++ tail)) refl

more_reads : {A : Type 0} (reader : Reader A) (text : A → List ℕ) (fits : A → Type 0) (between tail : List ℕ) (P : List Token → Type 0) → ReadsItem reader text fits → ReadsComma between → Edge tail → Reads tail (Front (Sign CLOSE) (41 ∷ []) P) → (items : List A) → All fits items → ReadMore reader items P (behind_items text between items tail)
more_reads reader text fits between tail P item comma edge closed [] all = record {
  edge = edge;
  reads = reads_so tail (Front (Sign CLOSE) (41 ∷ []) P) (Before (More reader [] P)) (no_more reader P) closed;
}
more_reads reader text fits between tail P item comma edge closed (x ∷ xs) all =
    let later = more_reads reader text fits between tail P item comma edge closed xs (All-tail fits x xs all) in
    let given = item x (behind_items text between xs tail) (More reader xs P) (All-head fits x xs all) later.edge later.reads in
    let parted_off = comma (text x ++ behind_items text between xs tail) (Gives reader x (Before (More reader xs P))) given in
    subst (ReadMore reader (x ∷ xs) P) (sym (more_text text between x xs tail)) (record { edge = parted_off.0; reads = reads_so _ _ _ (one_more reader x xs P) parted_off.1 })

list_text : {A : Type 0} (text : A → List ℕ) (between : List ℕ) (item : A) (items : List A) (tail : List ℕ) → parted text between (item ∷ items) ++ tail ≡ text item ++ behind_items text between items tail
list_text text between item items tail = append_assoc (text item) (flat_map (λ other. between ++ text other) items) tail

-- a list of items, before a closing parenthesis
list_reads : {A : Type 0} (reader : Reader A) (text : A → List ℕ) (fits : A → Type 0) (between tail : List ℕ) (P : List Token → Type 0) → ReadsItem reader text fits → ReadsComma between → Edge tail → Reads tail (Front (Sign CLOSE) (41 ∷ []) P) → (items : List A) → 1 ≤ length items → All fits items → Reads (parted text between items ++ tail) (Gives (items_at (after_sign COMMA) reader) items (Front (Sign CLOSE) (41 ∷ []) P))
list_reads reader text fits between tail P item comma edge closed [] some all = absurd (omega arith)
list_reads reader text fits between tail P item comma edge closed (x ∷ xs) some all =
    let later = more_reads reader text fits between tail P item comma edge closed xs (All-tail fits x xs all) in
    let given = item x (behind_items text between xs tail) (More reader xs P) (All-head fits x xs all) later.edge later.reads in
    subst (λ (bytes : List ℕ). Reads bytes (Gives (items_at (after_sign COMMA) reader) (x ∷ xs) (Front (Sign CLOSE) (41 ∷ []) P))) (sym (list_text text between x xs tail))
    (reads_so _ _ _ (listed reader x xs P) given)

-- a comma alone
comma_alone : ReadsComma (codes ",")
comma_alone rest P read = (at_comma rest, sign 2 44 rest P is_comma read)

-- a comma at the end of a line
comma_line : ReadsComma (codes ",\n")
comma_line rest P read = (at_comma (10 ∷ rest), sign 2 44 (10 ∷ rest) P is_comma (line rest P read))

-- what is read of a direction, and the edge that it begins with
record ReadDirection (descending : Bool) (P : List Token → Type 0) (bytes : List ℕ) : Type 0 where
  edge : Edge bytes
  reads : Reads bytes (Directed descending (Before P))

direction_reads : (descending : Bool) (rest : List ℕ) (P : List Token → Type 0) → Edge rest → Reads rest (Before P) → ReadDirection descending P (direction_text descending ++ rest)
direction_reads false rest P edge read = record { edge = edge; reads = reads_so rest _ (Directed false (Before P)) (rising P) read }
direction_reads true rest P edge read = record {
  edge = at_space _;
  reads = space _ _ (reads_so _ (Front Word (codes "DESC") (Before P)) (Directed true (Before P)) (falling (Before P)) (word (codes "DESC") rest (Before P) word_desc edge read));
}

-- what is read of a prefix length and a direction, and the edge that they begin with
record ReadPrefix (prefix : Option ℕ) (descending : Bool) (P : List Token → Type 0) (bytes : List ℕ) : Type 0 where
  edge : Edge bytes
  reads : Reads bytes (Prefixed prefix descending (Before P))

prefix_behind : (n : ℕ) (rest : List ℕ) → prefix_text (Some n) ++ rest ≡ 40 ∷ decimal n ++ 41 ∷ rest
prefix_behind n rest = ap (λ (xs : List ℕ). 40 ∷ xs) (append_assoc (decimal n) (41 ∷ []) rest)

prefix_reads : (prefix : Option ℕ) (descending : Bool) (rest : List ℕ) (P : List Token → Type 0) → IfSome prefix (λ n. n < 2 ^ 127) → ReadDirection descending P rest → ReadPrefix prefix descending P (prefix_text prefix ++ rest)
prefix_reads None descending rest P is read = record { edge = read.edge; reads = reads_so rest _ (Prefixed None descending (Before P)) (no_prefix descending (Before P)) read.reads }
prefix_reads (Some n) descending rest P is read =
    let closed : Reads (41 ∷ rest) (Front (Sign CLOSE) (41 ∷ []) (Directed descending (Before P))) = sign 1 41 rest _ is_close read.reads in
    let counted : Reads (decimal n ++ 41 ∷ rest) (Front (Number n) (decimal n) (Front (Sign CLOSE) (41 ∷ []) (Directed descending (Before P)))) = number n rest _ is closed in
    let opened : Reads (40 ∷ decimal n ++ 41 ∷ rest) (Front (Sign OPEN) (40 ∷ []) (Front (Number n) (decimal n) (Front (Sign CLOSE) (41 ∷ []) (Directed descending (Before P))))) = sign 0 40 (decimal n ++ 41 ∷ rest) _ is_open counted in
    subst (ReadPrefix (Some n) descending P) (sym (prefix_behind n rest)) (record { edge = at_open _; reads = reads_so _ _ (Prefixed (Some n) descending (Before P)) (some_prefix n (decimal n) descending (Before P)) opened })

-- a part of a key, before an edge
part_behind : (a b c rest : List ℕ) → a ++ b ++ c ++ rest ≡ a ++ (b ++ (c ++ rest))
part_behind a b c rest = rw (append_assoc a b c, append_assoc a (b ++ c) rest, append_assoc b c rest) refl

part_reads : ReadsItem part_at part_text IsCanonicalPart
part_reads part rest P is edge read =
    let direction = direction_reads part.descending rest P edge read in
    let prefix = prefix_reads part.prefix part.descending (direction_text part.descending ++ rest) P is.prefix direction in
    let behind : List ℕ = prefix_text part.prefix ++ (direction_text part.descending ++ rest) in
    let named : Reads (quoted part.column ++ behind) (Front Quoted part.column (Prefixed part.prefix part.descending (Before P))) = name part.column behind _ is.column prefix.edge prefix.reads in
    subst (λ (xs : List ℕ). Reads xs (Gives part_at part (Before P))) (sym (part_behind (quoted part.column) (prefix_text part.prefix) (direction_text part.descending) rest))
    (reads_so _ _ _ (part_given part (Before P)) named)

-- the parts of a key between parentheses
parts_read : (parts : List KeyPart) (rest : List ℕ) (P : List Token → Type 0) → 1 ≤ length parts → All IsCanonicalPart parts → Reads rest P → Reads (40 ∷ (parted part_text (codes ",") parts ++ 41 ∷ rest)) (Gives (enclosed_at part_at) parts P)
parts_read parts rest P some all read =
    let closed : Reads (41 ∷ rest) (Front (Sign CLOSE) (41 ∷ []) P) = sign 1 41 rest P is_close read in
    let list = list_reads part_at part_text IsCanonicalPart (codes ",") (41 ∷ rest) P part_reads comma_alone (at_close rest) closed parts some all in
    reads_so _ _ _ (parts_given parts P) (sign 0 40 (parted part_text (codes ",") parts ++ 41 ∷ rest) _ is_open list)

-- a key of a kind, before an edge
key_text_of : (front between parts close rest : List ℕ) → front ++ between ++ parts ++ close ++ rest ≡ front ++ (between ++ (parts ++ (close ++ rest)))
key_text_of a b c d rest = rw (append_assoc a b c, append_assoc a (b ++ c) d, append_assoc a (b ++ c ++ d) rest, append_assoc b c d, append_assoc b (c ++ d) rest, append_assoc c d rest) refl

-- the bytes from the space before the parts of a key on
abbrev behind_name : List KeyPart → List ℕ → List ℕ
behind_name parts rest = 32 ∷ 40 ∷ (parted part_text (codes ",") parts ++ 41 ∷ rest)

named_parts : (text : List ℕ) (parts : List KeyPart) (rest : List ℕ) (P : List Token → Type 0) → IsName text → Reads (behind_name parts rest) (Gives (enclosed_at part_at) parts (Before P)) → Reads (codes "KEY" ++ (32 ∷ (quoted text ++ behind_name parts rest))) (Front Word (codes "KEY") (Front Quoted text (Gives (enclosed_at part_at) parts (Before P))))
named_parts text parts rest P is read =
    let named = name text (behind_name parts rest) _ is (at_space _) read in
    word (codes "KEY") (32 ∷ (quoted text ++ behind_name parts rest)) _ word_key (at_space _) (space _ _ named)

key_kind_reads : (kind : KeyKind) (text : List ℕ) (parts : List KeyPart) (rest : List ℕ) (P : List Token → Type 0) → IsKeyName kind text → Reads (behind_name parts rest) (Gives (enclosed_at part_at) parts (Before P)) → Reads (key_front kind text ++ behind_name parts rest) (Gives definition_at (Key (key_of kind text parts)) (Before P))
key_kind_reads Primary text parts rest P is read =
    let key : Reads (codes "KEY" ++ behind_name parts rest) (Front Word (codes "KEY") (Gives (enclosed_at part_at) parts (Before P))) = word (codes "KEY") (behind_name parts rest) _ word_key (at_space _) read in
    let front : Reads (codes "PRIMARY" ++ (32 ∷ (codes "KEY" ++ behind_name parts rest))) (Front Word (codes "PRIMARY") (Front Word (codes "KEY") (Gives (enclosed_at part_at) parts (Before P)))) = word (codes "PRIMARY") (32 ∷ (codes "KEY" ++ behind_name parts rest)) _ word_primary (at_space _) (space _ _ key) in
    subst (λ (t : List ℕ). Reads (codes "PRIMARY KEY" ++ behind_name parts rest) (Gives definition_at (Key (key_of Primary t parts)) (Before P))) (sym is)
    (reads_so _ _ _ (primary_given parts P) front)
key_kind_reads Unique text parts rest P is read =
    let key = named_parts text parts rest P is read in
    let front : Reads (codes "UNIQUE" ++ (32 ∷ (codes "KEY" ++ (32 ∷ (quoted text ++ behind_name parts rest))))) (Front Word (codes "UNIQUE") (Front Word (codes "KEY") (Front Quoted text (Gives (enclosed_at part_at) parts (Before P))))) = word (codes "UNIQUE") (32 ∷ (codes "KEY" ++ (32 ∷ (quoted text ++ behind_name parts rest)))) _ word_unique (at_space _) (space _ _ key) in
    reads_so _ _ _ (unique_given text parts P) front
key_kind_reads Plain text parts rest P is read = reads_so _ _ _ (plain_given text parts P) (named_parts text parts rest P is read)
key_kind_reads Fulltext text parts rest P is read = absurd is
key_kind_reads Spatial text parts rest P is read = absurd is

same_key : (kind : KeyKind) (text : List ℕ) (parts : List KeyPart) (methods : List Method) → methods ≡ [] → ◌≡◌ {A = KeyDefinition} (key_of kind text parts) (record { kind = kind; name = text; parts = parts; methods = methods })
same_key kind text parts methods none = rw none refl

key_reads : (key : KeyDefinition) (rest : List ℕ) (P : List Token → Type 0) → IsCanonicalKey key → Edge rest → Reads rest (Before P) → Reads (key_text key ++ rest) (Gives definition_at (Key key) (Before P))
key_reads key rest P is edge read =
    let list = parts_read key.parts rest (Before P) is.some is.parts read in
    let given = key_kind_reads key.kind key.name key.parts rest P is.name (space _ _ list) in
    let same : key_text key ++ rest ≡ key_front key.kind key.name ++ behind_name key.parts rest = key_text_of (key_front key.kind key.name) (codes " (") (parted part_text (codes ",") key.parts) (codes ")") rest in
    subst (λ (xs : List ℕ). Reads xs (Gives definition_at (Key key) (Before P))) (sym same)
    (subst (λ (k : KeyDefinition). Reads (key_front key.kind key.name ++ behind_name key.parts rest) (Gives definition_at (Key k) (Before P))) (same_key key.kind key.name key.parts key.methods is.methods) given)

-- a column or a key on its line, before an edge
definition_reads : ReadsItem definition_at definition_text IsCanonicalDefinition
definition_reads (Column column) rest P is edge read = space _ _ (space _ _ (column_reads column rest P is edge read))
definition_reads (Key key) rest P is edge read = space _ _ (space _ _ (key_reads key rest P is edge read))

-- the end of the text
ending : Reads (codes "\n)\n") (Front (Sign CLOSE) (41 ∷ []) is_empty_list)
ending = line _ _ (sign 1 41 (10 ∷ []) is_empty_list is_close (line [] is_empty_list no_bytes))

some_column : (definitions : List CreateDefinition) → list_any is_column definitions ≡ true → 1 ≤ length definitions
some_column [] column = absurd cc
some_column (d ∷ ds) column = omega arith

canonical_text : (front table between definitions close : List ℕ) → front ++ table ++ between ++ definitions ++ close ≡ front ++ (table ++ (between ++ (definitions ++ close)))
canonical_text a b c d e = rw (append_assoc a b c, append_assoc a (b ++ c) d, append_assoc a (b ++ c ++ d) e, append_assoc b c d, append_assoc b (c ++ d) e, append_assoc c d e) refl

text_reads : (statement : CreateTable) → IsCanonical statement → Reads (canonical statement) (λ ts. create_at ts ≡ Some (record { table = statement.table; definitions = statement.definitions; options = [] }))
unfolding canonical
text_reads statement is =
    let list = list_reads definition_at definition_text IsCanonicalDefinition (codes ",\n") (codes "\n)\n") is_empty_list definition_reads comma_line (at_line (41 ∷ 10 ∷ [])) ending statement.definitions (some_column statement.definitions is.column) is.definitions in
    let items : List ℕ = parted definition_text (codes ",\n") statement.definitions ++ codes "\n)\n" in
    let opened = sign 0 40 (10 ∷ items) _ is_open (line _ _ list) in
    let named = name statement.table (32 ∷ 40 ∷ 10 ∷ items) _ is.table (at_space _) (space _ _ opened) in
    let table = word (codes "TABLE") (32 ∷ (quoted statement.table ++ (32 ∷ 40 ∷ 10 ∷ items))) _ word_table (at_space _) (space _ _ named) in
    let create = word (codes "CREATE") (32 ∷ (codes "TABLE" ++ (32 ∷ (quoted statement.table ++ (32 ∷ 40 ∷ 10 ∷ items))))) _ word_create (at_space _) (space _ _ table) in
    subst (λ (xs : List ℕ). Reads xs (λ ts. create_at ts ≡ Some (record { table = statement.table; definitions = statement.definitions; options = [] })))
    (sym (canonical_text (codes "CREATE TABLE ") (quoted statement.table) (codes " (\n") (parted definition_text (codes ",\n") statement.definitions) (codes "\n)\n")))
    (reads_so _ _ _ (λ ts. statement_given statement.table statement.definitions ts is.column) create)

same_statement : (table : List ℕ) (definitions : List CreateDefinition) (options : List TableOption) → options ≡ [] → ◌≡◌ {A = CreateTable} (record { table = table; definitions = definitions; options = [] }) (record { table = table; definitions = definitions; options = options })
same_statement table definitions options none = rw none refl

pub law : (statement : CreateTable) → IsCanonical statement → create_form (canonical statement) ≡ Some statement
unfolding create_form
law statement is =
    let read = text_reads statement is 0 in
    good_text create_at (canonical statement) read.0 None (whole (canonical statement) read.0 None read.1).value refl ∙ read.2
    ∙ ap (λ (s : CreateTable). Some s) (same_statement statement.table statement.definitions statement.options is.options)
