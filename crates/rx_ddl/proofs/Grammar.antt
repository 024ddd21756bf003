-- What the grammar reads of tokens of some forms.
use Rattle.std.proofs.Common.{◌≡◌, ℕ, zero, suc, ◌<◌, ◌≤◌, Bool, true, false, ◌==◌, List, [], ◌∷◌, length, Option, Some, None, refl, ap, ◌∙◌, arith, codes}
use Rattle.std.specs.List.{list_any}
use Rattle.std.specs.Option.{option_and_then}
use Rattle.rx_token.specs.declared.kinds.Token.{Token}
use Rattle.rx_token.specs.declared.kinds.TokenKind.{TokenKind}
use Rattle.rx_token.specs.declared.kinds.TokenKind.TheVariants.{Word, Quoted, Number, Sign}
use Rattle.rx_token.specs.declared.signs.TheConstants.{OPEN, CLOSE, COMMA}
use Rattle.rx_token.specs.Reserved.{is_word_of}
use Rattle.rx_reading.specs.Reading.{Reader, after_sign, direction_at, more_at, items_at, enclosed_at}
use Rattle.rx_ddl.specs.declared.statements.Argument.{Argument}
use Rattle.rx_ddl.specs.declared.statements.Argument.TheVariants.{Number as Count}
use Rattle.rx_ddl.specs.declared.statements.Attribute.{Attribute}
use Rattle.rx_ddl.specs.declared.statements.Attribute.TheVariants.{Unsigned, NotNull}
use Rattle.rx_ddl.specs.declared.statements.ColumnDefinition.{ColumnDefinition}
use Rattle.rx_ddl.specs.declared.statements.KeyKind.{KeyKind}
use Rattle.rx_ddl.specs.declared.statements.KeyKind.TheVariants.{Primary, Unique, Plain}
use Rattle.rx_ddl.specs.declared.statements.KeyPart.{KeyPart}
use Rattle.rx_ddl.specs.declared.statements.Method.{Method}
use Rattle.rx_ddl.specs.declared.statements.KeyDefinition.{KeyDefinition}
use Rattle.rx_ddl.specs.declared.statements.CreateDefinition.{CreateDefinition}
use Rattle.rx_ddl.specs.declared.statements.CreateDefinition.TheVariants.{Column, Key}
use Rattle.rx_ddl.specs.Columns.{arguments_at, marked_at, attribute_at, attributes_at, column_at}
use Rattle.rx_ddl.specs.Keys.{prefix_at, part_at, methods_at, key_kind_at, key_name_at, key_at}
use Rattle.rx_ddl.specs.Create.{definition_at, is_column, create_at}
use Rattle.rx_ddl.proofs.Scanning.{Front}

-- an item is read at the front, and this is true of the tokens behind it
pub record Gives {A : Type 0} (reader : Reader A) (item : A) (P : List Token → Type 0) (ts : List Token) : Type 0 where
  pub others : List Token
  pub read : reader ts ≡ Some (item, others)
  pub shorter : length others < length ts
  pub behind : P others

-- the tokens begin with a sign that isn't `(`, and this is true of them
pub record Before (P : List Token → Type 0) (ts : List Token) : Type 0 where
  pub sign : ℕ
  pub start : ℕ
  pub stop : ℕ
  pub text : List ℕ
  pub others : List Token
  pub is : ts ≡ record { kind = Sign sign; start = start; end = stop; text = text } ∷ others
  pub closed : (sign == OPEN) ≡ false
  pub true_of : P ts

-- items behind commas, and behind them a closing parenthesis
pub record More {A : Type 0} (reader : Reader A) (items : List A) (P : List Token → Type 0) (ts : List Token) : Type 0 where
  pub others : List Token
  pub read : (fuel : ℕ) → length ts ≤ fuel → more_at (after_sign COMMA) reader fuel ts ≡ (items, others)
  pub behind : Front (Sign CLOSE) (41 ∷ []) P others
  pub within : length others ≤ length ts

-- no more items
none_at : {A : Type 0} (reader : Reader A) (start stop : ℕ) (others : List Token) (fuel : ℕ) → more_at (after_sign COMMA) reader fuel (record { kind = Sign CLOSE; start = start; end = stop; text = 41 ∷ [] } ∷ others) ≡ ([], record { kind = Sign CLOSE; start = start; end = stop; text = 41 ∷ [] } ∷ others)
unfolding more_at
none_at reader start stop others zero = refl
none_at reader start stop others (suc fuel) = refl

pub no_more : {A : Type 0} (reader : Reader A) (P : List Token → Type 0) (ts : List Token) → Front (Sign CLOSE) (41 ∷ []) P ts → Before (More reader [] P) ts
no_more reader P ts front = record {
  sign = CLOSE;
  start = front.start;
  stop = front.stop;
  text = 41 ∷ [];
  others = front.others;
  is = front.is;
  closed = refl;
  true_of = record {
    others = ts;
    read = λ fuel enough. rw front.is (none_at reader front.start front.stop front.others fuel);
    behind = front;
    within = omega arith;
  };
}

-- an item more
one_at : {A : Type 0} (reader : Reader A) (item : A) (items : List A) (start stop : ℕ) (here behind rest : List Token) (fuel : ℕ) → reader here ≡ Some (item, behind) → ((k : ℕ) → length behind ≤ k → more_at (after_sign COMMA) reader k behind ≡ (items, rest)) → length behind < length here → suc (length here) ≤ fuel → more_at (after_sign COMMA) reader fuel (record { kind = Sign COMMA; start = start; end = stop; text = 44 ∷ [] } ∷ here) ≡ (item ∷ items, rest)
unfolding more_at
one_at reader item items start stop here behind rest zero read others shorter enough = absurd (omega arith)
one_at reader item items start stop here behind rest (suc fuel) read others shorter enough = rw (read, others fuel (omega arith)) refl

pub one_more : {A : Type 0} (reader : Reader A) (item : A) (items : List A) (P : List Token → Type 0) (ts : List Token) → Front (Sign COMMA) (44 ∷ []) (Gives reader item (Before (More reader items P))) ts → Before (More reader (item ∷ items) P) ts
one_more reader item items P ts front =
    let given = front.behind in
    let more = given.behind.true_of in
    let first : length ts ≡ suc (length front.others) = ap length front.is in
    let shorter = given.shorter in
    let within = more.within in
    record {
      sign = COMMA;
      start = front.start;
      stop = front.stop;
      text = 44 ∷ [];
      others = front.others;
      is = front.is;
      closed = refl;
      true_of = record {
        others = more.others;
        read = λ fuel enough. rw front.is (one_at reader item items front.start front.stop front.others given.others more.others fuel given.read more.read shorter (omega arith));
        behind = more.behind;
        within = omega arith;
      };
    }

-- all items of a list
pub listed : {A : Type 0} (reader : Reader A) (item : A) (items : List A) (P : List Token → Type 0) (ts : List Token) → Gives reader item (Before (More reader items P)) ts → Gives (items_at (after_sign COMMA) reader) (item ∷ items) (Front (Sign CLOSE) (41 ∷ []) P) ts
unfolding items_at
listed reader item items P ts given =
    let more = given.behind.true_of in
    let shorter = given.shorter in
    let within = more.within in
    record { others = more.others; read = rw (given.read, more.read (length given.others) (omega arith)) refl; shorter = omega arith; behind = more.behind }

abbrev pub tok : TokenKind → List ℕ → ℕ → ℕ → Token
tok kind text start stop = record { kind = kind; start = start; end = stop; text = text }

-- attributes are read at the front, where no parenthesis opens
pub record Marks (marks : List Attribute) (P : List Token → Type 0) (ts : List Token) : Type 0 where
  pub others : List Token
  pub unopened : after_sign OPEN ts ≡ None
  pub read : attributes_at ts ≡ Some (marks, others)
  pub within : length others ≤ length ts
  pub behind : P others

unopened_at : (n a b : ℕ) (text : List ℕ) (ts : List Token) → (n == OPEN) ≡ false → after_sign OPEN (tok (Sign n) text a b ∷ ts) ≡ None
unopened_at n a b text ts closed = rw closed refl

-- no attribute stands before a sign
none_read : (n a b : ℕ) (text : List ℕ) (ts : List Token) → attributes_at (tok (Sign n) text a b ∷ ts) ≡ Some ([], tok (Sign n) text a b ∷ ts)
unfolding more_at attribute_at marked_at is_word_of
none_read n a b text ts = refl

unsigned_read : (n a b c d : ℕ) (text : List ℕ) (ts : List Token) → attributes_at (tok Word (codes "unsigned") a b ∷ tok (Sign n) text c d ∷ ts) ≡ Some (Unsigned ∷ [], tok (Sign n) text c d ∷ ts)
unfolding more_at attribute_at marked_at is_word_of
unsigned_read n a b c d text ts = refl

not_null_read : (n a b c d e f : ℕ) (text : List ℕ) (ts : List Token) → attributes_at (tok Word (codes "NOT") a b ∷ tok Word (codes "NULL") c d ∷ tok (Sign n) text e f ∷ ts) ≡ Some (NotNull ∷ [], tok (Sign n) text e f ∷ ts)
unfolding more_at attribute_at marked_at is_word_of
not_null_read n a b c d e f text ts = refl

both_read : (n a b c d e f g h : ℕ) (text : List ℕ) (ts : List Token) → attributes_at (tok Word (codes "unsigned") a b ∷ tok Word (codes "NOT") c d ∷ tok Word (codes "NULL") e f ∷ tok (Sign n) text g h ∷ ts) ≡ Some (Unsigned ∷ NotNull ∷ [], tok (Sign n) text g h ∷ ts)
unfolding more_at attribute_at marked_at is_word_of
both_read n a b c d e f g h text ts = refl

pub no_marks : (P : List Token → Type 0) (ts : List Token) → Before P ts → Marks [] (Before P) ts
no_marks P ts end = record {
  others = ts;
  unopened = rw end.is (unopened_at end.sign end.start end.stop end.text end.others end.closed);
  read = rw end.is (none_read end.sign end.start end.stop end.text end.others);
  within = omega arith;
  behind = end;
}

pub unsigned_mark : (P : List Token → Type 0) (ts : List Token) → Front Word (codes "unsigned") (Before P) ts → Marks (Unsigned ∷ []) (Before P) ts
unsigned_mark P ts front =
    let end = front.behind in
    let count : length ts ≡ suc (length front.others) = ap length front.is in
    record {
      others = front.others;
      unopened = rw front.is refl;
      read = rw (front.is, end.is) (unsigned_read end.sign front.start front.stop end.start end.stop end.text end.others);
      within = omega arith;
      behind = end;
    }

pub not_null_mark : (P : List Token → Type 0) (ts : List Token) → Front Word (codes "NOT") (Front Word (codes "NULL") (Before P)) ts → Marks (NotNull ∷ []) (Before P) ts
not_null_mark P ts front =
    let null = front.behind in
    let end = null.behind in
    let count : length ts ≡ suc (length front.others) = ap length front.is in
    let fewer : length front.others ≡ suc (length null.others) = ap length null.is in
    record {
      others = null.others;
      unopened = rw front.is refl;
      read = rw (front.is, null.is, end.is) (not_null_read end.sign front.start front.stop null.start null.stop end.start end.stop end.text end.others);
      within = omega arith;
      behind = end;
    }

pub both_marks : (P : List Token → Type 0) (ts : List Token) → Front Word (codes "unsigned") (Front Word (codes "NOT") (Front Word (codes "NULL") (Before P))) ts → Marks (Unsigned ∷ NotNull ∷ []) (Before P) ts
both_marks P ts front =
    let never = front.behind in
    let null = never.behind in
    let end = null.behind in
    let count : length ts ≡ suc (length front.others) = ap length front.is in
    let fewer : length front.others ≡ suc (length never.others) = ap length never.is in
    let least : length never.others ≡ suc (length null.others) = ap length null.is in
    record {
      others = null.others;
      unopened = rw front.is refl;
      read = rw (front.is, never.is, null.is, end.is) (both_read end.sign front.start front.stop never.start never.stop null.start null.stop end.start end.stop end.text end.others);
      within = omega arith;
      behind = end;
    }

-- arguments are read at the front, and attributes behind them
pub record Widths (arguments : List Argument) (marks : List Attribute) (P : List Token → Type 0) (ts : List Token) : Type 0 where
  pub others : List Token
  pub read : arguments_at ts ≡ Some (arguments, others)
  pub within : length others ≤ length ts
  pub behind : Marks marks P others

pub no_width : (marks : List Attribute) (P : List Token → Type 0) (ts : List Token) → Marks marks P ts → Widths [] marks P ts
unfolding arguments_at
no_width marks P ts given = record { others = ts; read = rw given.unopened refl; within = omega arith; behind = given }

width_read : (n a b c d e f : ℕ) (digits : List ℕ) (ts : List Token) → arguments_at (tok (Sign OPEN) (40 ∷ []) a b ∷ tok (Number n) digits c d ∷ tok (Sign CLOSE) (41 ∷ []) e f ∷ ts) ≡ Some (Count n ∷ [], ts)
unfolding arguments_at items_at more_at
width_read n a b c d e f digits ts = refl

pub one_width : (n : ℕ) (digits : List ℕ) (marks : List Attribute) (P : List Token → Type 0) (ts : List Token) → Front (Sign OPEN) (40 ∷ []) (Front (Number n) digits (Front (Sign CLOSE) (41 ∷ []) (Marks marks P))) ts → Widths (Count n ∷ []) marks P ts
one_width n digits marks P ts front =
    let count = front.behind in
    let close = count.behind in
    let first : length ts ≡ suc (length front.others) = ap length front.is in
    let second : length front.others ≡ suc (length count.others) = ap length count.is in
    let third : length count.others ≡ suc (length close.others) = ap length close.is in
    record {
      others = close.others;
      read = rw (front.is, count.is, close.is) (width_read n front.start front.stop count.start count.stop close.start close.stop digits close.others);
      within = omega arith;
      behind = close.behind;
    }

-- a column
abbrev pub column_of : List ℕ → List ℕ → List Argument → List Attribute → ColumnDefinition
column_of name kind arguments marks = record { name = name; kind = kind; arguments = arguments; attributes = marks }

column_read : (name kind : List ℕ) (arguments : List Argument) (marks : List Attribute) (a b c d : ℕ) (ts us vs : List Token) → arguments_at ts ≡ Some (arguments, us) → attributes_at us ≡ Some (marks, vs) → column_at (tok Quoted name a b ∷ tok Word kind c d ∷ ts) ≡ Some (column_of name kind arguments marks, vs)
unfolding column_at
column_read name kind arguments marks a b c d ts us vs first second =
    rw first (ap (option_and_then (λ (m : List Attribute × List Token). Some (column_of name kind arguments m.0, m.1))) second)

no_key : (name : List ℕ) (a b : ℕ) (ts : List Token) → key_kind_at (tok Quoted name a b ∷ ts) ≡ None
unfolding key_kind_at is_word_of
no_key name a b ts = refl

column_item : (ts others : List Token) (column : ColumnDefinition) → key_kind_at ts ≡ None → column_at ts ≡ Some (column, others) → definition_at ts ≡ Some (Column column, others)
unfolding definition_at
column_item ts others column none read = rw (none, read) refl

pub column_given : (name kind : List ℕ) (arguments : List Argument) (marks : List Attribute) (P : List Token → Type 0) (ts : List Token) → Front Quoted name (Front Word kind (Widths arguments marks P)) ts → Gives definition_at (Column (column_of name kind arguments marks)) P ts
column_given name kind arguments marks P ts front =
    let type_word = front.behind in
    let width = type_word.behind in
    let mark = width.behind in
    let first : length ts ≡ suc (length front.others) = ap length front.is in
    let second : length front.others ≡ suc (length type_word.others) = ap length type_word.is in
    let third = width.within in
    let fourth = mark.within in
    let read = column_read name kind arguments marks front.start front.stop type_word.start type_word.stop type_word.others width.others mark.others width.read mark.read in
    record {
      others = mark.others;
      read = rw (front.is, type_word.is) (column_item _ mark.others (column_of name kind arguments marks) (no_key name front.start front.stop _) read);
      shorter = omega arith;
      behind = mark.behind;
    }

-- a direction is read at the front, where no parenthesis opens
pub record Directed (descending : Bool) (P : List Token → Type 0) (ts : List Token) : Type 0 where
  pub others : List Token
  pub unopened : after_sign OPEN ts ≡ None
  pub read : direction_at ts ≡ (descending, others)
  pub within : length others ≤ length ts
  pub behind : P others

rising_read : (n a b : ℕ) (text : List ℕ) (ts : List Token) → direction_at (tok (Sign n) text a b ∷ ts) ≡ (false, tok (Sign n) text a b ∷ ts)
unfolding is_word_of
rising_read n a b text ts = refl

falling_read : (a b : ℕ) (ts : List Token) → direction_at (tok Word (codes "DESC") a b ∷ ts) ≡ (true, ts)
unfolding is_word_of
falling_read a b ts = refl

pub rising : (P : List Token → Type 0) (ts : List Token) → Before P ts → Directed false (Before P) ts
rising P ts end = record {
  others = ts;
  unopened = rw end.is (unopened_at end.sign end.start end.stop end.text end.others end.closed);
  read = rw end.is (rising_read end.sign end.start end.stop end.text end.others);
  within = omega arith;
  behind = end;
}

pub falling : (P : List Token → Type 0) (ts : List Token) → Front Word (codes "DESC") P ts → Directed true P ts
falling P ts front =
    let count : length ts ≡ suc (length front.others) = ap length front.is in
    record {
      others = front.others;
      unopened = rw front.is refl;
      read = rw front.is (falling_read front.start front.stop front.others);
      within = omega arith;
      behind = front.behind;
    }

-- a prefix length is read at the front, and a direction behind it
pub record Prefixed (prefix : Option ℕ) (descending : Bool) (P : List Token → Type 0) (ts : List Token) : Type 0 where
  pub others : List Token
  pub read : prefix_at ts ≡ Some (prefix, others)
  pub within : length others ≤ length ts
  pub behind : Directed descending P others

pub no_prefix : (descending : Bool) (P : List Token → Type 0) (ts : List Token) → Directed descending P ts → Prefixed None descending P ts
no_prefix descending P ts given = record { others = ts; read = rw given.unopened refl; within = omega arith; behind = given }

prefix_read : (n a b c d e f : ℕ) (digits : List ℕ) (ts : List Token) → prefix_at (tok (Sign OPEN) (40 ∷ []) a b ∷ tok (Number n) digits c d ∷ tok (Sign CLOSE) (41 ∷ []) e f ∷ ts) ≡ Some (Some n, ts)
prefix_read n a b c d e f digits ts = refl

pub some_prefix : (n : ℕ) (digits : List ℕ) (descending : Bool) (P : List Token → Type 0) (ts : List Token) → Front (Sign OPEN) (40 ∷ []) (Front (Number n) digits (Front (Sign CLOSE) (41 ∷ []) (Directed descending P))) ts → Prefixed (Some n) descending P ts
some_prefix n digits descending P ts front =
    let count = front.behind in
    let close = count.behind in
    let first : length ts ≡ suc (length front.others) = ap length front.is in
    let second : length front.others ≡ suc (length count.others) = ap length count.is in
    let third : length count.others ≡ suc (length close.others) = ap length close.is in
    record {
      others = close.others;
      read = rw (front.is, count.is, close.is) (prefix_read n front.start front.stop count.start count.stop close.start close.stop digits close.others);
      within = omega arith;
      behind = close.behind;
    }

-- a part of a key
abbrev part_of : List ℕ → Option ℕ → Bool → KeyPart
part_of name prefix descending = record { column = name; prefix = prefix; descending = descending }

part_read : (name : List ℕ) (prefix : Option ℕ) (descending : Bool) (a b : ℕ) (ts us vs : List Token) → prefix_at ts ≡ Some (prefix, us) → direction_at us ≡ (descending, vs) → part_at (tok Quoted name a b ∷ ts) ≡ Some (part_of name prefix descending, vs)
unfolding part_at
part_read name prefix descending a b ts us vs first second = rw (first, second) refl

pub part_given : (part : KeyPart) (P : List Token → Type 0) (ts : List Token) → Front Quoted part.column (Prefixed part.prefix part.descending P) ts → Gives part_at part P ts
part_given part P ts front =
    let prefix = front.behind in
    let direction = prefix.behind in
    let first : length ts ≡ suc (length front.others) = ap length front.is in
    let second = prefix.within in
    let third = direction.within in
    record {
      others = direction.others;
      read = rw front.is (part_read part.column part.prefix part.descending front.start front.stop front.others prefix.others direction.others prefix.read direction.read);
      shorter = omega arith;
      behind = direction.behind;
    }

parts_read : (parts : List KeyPart) (a b c d : ℕ) (ts us vs : List Token) → items_at (after_sign COMMA) part_at ts ≡ Some (parts, us) → us ≡ tok (Sign CLOSE) (41 ∷ []) c d ∷ vs → enclosed_at part_at (tok (Sign OPEN) (40 ∷ []) a b ∷ ts) ≡ Some (parts, vs)
parts_read parts a b c d ts us vs read is = rw (read, is) refl

pub parts_given : (parts : List KeyPart) (P : List Token → Type 0) (ts : List Token) → Front (Sign OPEN) (40 ∷ []) (Gives (items_at (after_sign COMMA) part_at) parts (Front (Sign CLOSE) (41 ∷ []) P)) ts → Gives (enclosed_at part_at) parts P ts
parts_given parts P ts front =
    let list = front.behind in
    let close = list.behind in
    let first : length ts ≡ suc (length front.others) = ap length front.is in
    let second = list.shorter in
    let third : length list.others ≡ suc (length close.others) = ap length close.is in
    record {
      others = close.others;
      read = rw front.is (parts_read parts front.start front.stop close.start close.stop front.others list.others close.others list.read close.is);
      shorter = omega arith;
      behind = close.behind;
    }

-- a key without methods
abbrev pub key_of : KeyKind → List ℕ → List KeyPart → KeyDefinition
key_of kind name parts = record { kind = kind; name = name; parts = parts; methods = [] }

no_methods : (n a b : ℕ) (text : List ℕ) (ts : List Token) → methods_at (tok (Sign n) text a b ∷ ts) ≡ Some ([], tok (Sign n) text a b ∷ ts)
unfolding more_at is_word_of
no_methods n a b text ts = refl

key_read : (kind : KeyKind) (name : List ℕ) (parts : List KeyPart) (ts us vs : List Token) → key_name_at kind ts ≡ Some (name, us) → enclosed_at part_at us ≡ Some (parts, vs) → methods_at vs ≡ Some ([], vs) → key_at kind ts ≡ Some (key_of kind name parts, vs)
unfolding key_at
key_read kind name parts ts us vs first second third =
    rw (first, second) (ap (option_and_then (λ (m : List Method × List Token). Some (record { kind = kind; name = name; parts = parts; methods = m.0 }, m.1))) third)

key_item : (kind : KeyKind) (ts us others : List Token) (key : KeyDefinition) → key_kind_at ts ≡ Some (kind, us) → key_at kind us ≡ Some (key, others) → definition_at ts ≡ Some (Key key, others)
unfolding definition_at
key_item kind ts us others key front read = rw (front, read) refl

-- a key of a kind, where its name is read, and then its parts
key_given : (kind : KeyKind) (name : List ℕ) (parts : List KeyPart) (P : List Token → Type 0) (ts us vs : List Token) → key_kind_at ts ≡ Some (kind, us) → key_name_at kind us ≡ Some (name, vs) → length vs ≤ length ts → Gives (enclosed_at part_at) parts (Before P) vs → Gives definition_at (Key (key_of kind name parts)) (Before P) ts
key_given kind name parts P ts us vs front named within list =
    let end = list.behind in
    let shorter = list.shorter in
    let methods : methods_at list.others ≡ Some ([], list.others) = rw end.is (no_methods end.sign end.start end.stop end.text end.others) in
    record {
      others = list.others;
      read = key_item kind ts us list.others (key_of kind name parts) front (key_read kind name parts us vs list.others named list.read methods);
      shorter = omega arith;
      behind = end;
    }

primary_kind : (a b : ℕ) (ts : List Token) → key_kind_at (tok Word (codes "PRIMARY") a b ∷ ts) ≡ Some (Primary, ts)
unfolding key_kind_at is_word_of
primary_kind a b ts = refl

primary_name : (a b : ℕ) (ts : List Token) → key_name_at Primary (tok Word (codes "KEY") a b ∷ ts) ≡ Some (codes "PRIMARY", ts)
unfolding is_word_of
primary_name a b ts = refl

pub primary_given : (parts : List KeyPart) (P : List Token → Type 0) (ts : List Token) → Front Word (codes "PRIMARY") (Front Word (codes "KEY") (Gives (enclosed_at part_at) parts (Before P))) ts → Gives definition_at (Key (key_of Primary (codes "PRIMARY") parts)) (Before P) ts
primary_given parts P ts front =
    let key = front.behind in
    let first : length ts ≡ suc (length front.others) = ap length front.is in
    let second : length front.others ≡ suc (length key.others) = ap length key.is in
    key_given Primary (codes "PRIMARY") parts P ts front.others key.others (rw front.is (primary_kind front.start front.stop front.others)) (rw key.is (primary_name key.start key.stop key.others)) (omega arith) key.behind

unique_kind : (a b : ℕ) (ts : List Token) → key_kind_at (tok Word (codes "UNIQUE") a b ∷ ts) ≡ Some (Unique, ts)
unfolding key_kind_at is_word_of
unique_kind a b ts = refl

unique_name : (name : List ℕ) (a b c d : ℕ) (ts : List Token) → key_name_at Unique (tok Word (codes "KEY") a b ∷ tok Quoted name c d ∷ ts) ≡ Some (name, ts)
unfolding is_word_of
unique_name name a b c d ts = refl

pub unique_given : (name : List ℕ) (parts : List KeyPart) (P : List Token → Type 0) (ts : List Token) → Front Word (codes "UNIQUE") (Front Word (codes "KEY") (Front Quoted name (Gives (enclosed_at part_at) parts (Before P)))) ts → Gives definition_at (Key (key_of Unique name parts)) (Before P) ts
unique_given name parts P ts front =
    let key = front.behind in
    let named = key.behind in
    let first : length ts ≡ suc (length front.others) = ap length front.is in
    let second : length front.others ≡ suc (length key.others) = ap length key.is in
    let third : length key.others ≡ suc (length named.others) = ap length named.is in
    key_given Unique name parts P ts front.others named.others (rw front.is (unique_kind front.start front.stop front.others)) (rw (key.is, named.is) (unique_name name key.start key.stop named.start named.stop named.others)) (omega arith) named.behind

plain_kind : (a b : ℕ) (ts : List Token) → key_kind_at (tok Word (codes "KEY") a b ∷ ts) ≡ Some (Plain, tok Word (codes "KEY") a b ∷ ts)
unfolding key_kind_at is_word_of
plain_kind a b ts = refl

plain_name : (name : List ℕ) (a b c d : ℕ) (ts : List Token) → key_name_at Plain (tok Word (codes "KEY") a b ∷ tok Quoted name c d ∷ ts) ≡ Some (name, ts)
unfolding is_word_of
plain_name name a b c d ts = refl

pub plain_given : (name : List ℕ) (parts : List KeyPart) (P : List Token → Type 0) (ts : List Token) → Front Word (codes "KEY") (Front Quoted name (Gives (enclosed_at part_at) parts (Before P))) ts → Gives definition_at (Key (key_of Plain name parts)) (Before P) ts
plain_given name parts P ts key =
    let named = key.behind in
    let first : length ts ≡ suc (length key.others) = ap length key.is in
    let second : length key.others ≡ suc (length named.others) = ap length named.is in
    key_given Plain name parts P ts ts named.others (rw key.is (plain_kind key.start key.stop key.others)) (rw (key.is, named.is) (plain_name name key.start key.stop named.start named.stop named.others)) (omega arith) named.behind

-- the whole statement, without options
statement_read : (table : List ℕ) (definitions : List CreateDefinition) (a b c d e f g h i j : ℕ) (ts us : List Token) → items_at (after_sign COMMA) definition_at ts ≡ Some (definitions, us) → us ≡ tok (Sign CLOSE) (41 ∷ []) i j ∷ [] → list_any is_column definitions ≡ true → create_at (tok Word (codes "CREATE") a b ∷ tok Word (codes "TABLE") c d ∷ tok Quoted table e f ∷ tok (Sign OPEN) (40 ∷ []) g h ∷ ts) ≡ Some (record { table = table; definitions = definitions; options = [] })
unfolding create_at is_word_of more_at
statement_read table definitions a b c d e f g h i j ts us read is column = rw (read, is, column) refl

abbrev pub is_empty_list : List Token → Type 0
is_empty_list ts = ts ≡ []

pub statement_given : (table : List ℕ) (definitions : List CreateDefinition) (ts : List Token) → list_any is_column definitions ≡ true → Front Word (codes "CREATE") (Front Word (codes "TABLE") (Front Quoted table (Front (Sign OPEN) (40 ∷ []) (Gives (items_at (after_sign COMMA) definition_at) definitions (Front (Sign CLOSE) (41 ∷ []) is_empty_list))))) ts → create_at ts ≡ Some (record { table = table; definitions = definitions; options = [] })
statement_given table definitions ts column create =
    let word = create.behind in
    let named = word.behind in
    let opened = named.behind in
    let list = opened.behind in
    let close = list.behind in
    let end : list.others ≡ tok (Sign CLOSE) (41 ∷ []) close.start close.stop ∷ [] = close.is ∙ ap (λ (us : List Token). tok (Sign CLOSE) (41 ∷ []) close.start close.stop ∷ us) close.behind in
    rw (create.is, word.is, named.is, opened.is) (statement_read table definitions create.start create.stop word.start word.stop named.start named.stop opened.start opened.stop close.start close.stop opened.others list.others list.read end column)
