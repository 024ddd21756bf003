-- Forms of a grammar: which tokens spell them, and which come behind.
use Rattle.std.specs.Prelude.{◌≡◌, ℕ, Bool, true, false, List, [], ◌∷◌, codes, Some}
use Rattle.rx_token.specs.declared.kinds.Token.{Token}
use Rattle.rx_token.specs.declared.signs.TheConstants.{OPEN, CLOSE, COMMA}
use Rattle.rx_token.specs.Reserved.{is_word_kind, is_word_of}
use Rattle.rx_reading.specs.Reading.{is_sign_kind, is_name, is_text_kind, number_in}

-- the tokens that begin with a form, and those behind it
abbrev pub Form : Type 1
Form = List Token → List Token → Type 0

-- one token that fits
abbrev pub One : (Token → Type 0) → Form
One fits [] rest = ⊥
One fits (t ∷ ts) rest = fits t × (ts ≡ rest)

-- no token
abbrev pub NoToken : Form
NoToken = λ ts rest. ts ≡ rest

-- a form, and another behind it
infixr 10 ◌>>◌
abbrev pub ◌>>◌ : Form → Form → Form
f >> g = λ ts rest. (mid : List Token) × f ts mid × g mid rest

-- this word without quotes, in any ASCII case
abbrev pub Word : List ℕ → Form
Word word = One (λ t. is_word_of word t ≡ true)

-- this word as it is written, a reserved one too
abbrev pub AnyWord : List ℕ → Form
AnyWord word = One (λ t. (is_word_kind t.kind ≡ true) × (t.text ≡ word))

-- this number
abbrev pub Number : ℕ → Form
Number n = One (λ t. number_in t.kind ≡ Some n)

-- the sign of this number
abbrev pub Sign : ℕ → Form
Sign sign = One (λ t. is_sign_kind sign t.kind ≡ true)

-- this name, between backquotes or a word that isn't reserved
abbrev pub Name : List ℕ → Form
Name name = One (λ t. (is_name t ≡ true) × (t.text ≡ name))

-- this text between quotes
abbrev pub Text : List ℕ → Form
Text text = One (λ t. (is_text_kind t.kind ≡ true) × (t.text ≡ text))

-- one form for each item, in order, with nothing between
abbrev pub SpellsEach : {A : Type 0} → (A → Form) → List A → Form
SpellsEach item [] = NoToken
SpellsEach item (a ∷ others) = item a >> SpellsEach item others

-- item {separator item}
pub data Listed (A : Type 0) : Type 0 where
  last : A → Listed A
  before : A → Listed A → Listed A

-- what the items stand for, in order
abbrev pub values : {A B : Type 0} → (A → B) → Listed A → List B
values f (last a) = f a ∷ []
values f (before a others) = f a ∷ values f others

-- the items, and a separator between any two
abbrev pub SpellsListed : {A : Type 0} → Form → (A → Form) → Listed A → Form
SpellsListed separator item (last a) = item a
SpellsListed separator item (before a others) = item a >> separator >> SpellsListed separator item others

-- "(" item {"," item} ")"
abbrev pub SpellsEnclosed : {A : Type 0} → (A → Form) → Listed A → Form
SpellsEnclosed item list = Sign OPEN >> SpellsListed (Sign COMMA) item list >> Sign CLOSE

-- KEY|INDEX
pub data IndexWord : Type 0 where
  key : IndexWord
  index : IndexWord

-- the tokens of such a word
abbrev pub SpellsIndexWord : IndexWord → Form
SpellsIndexWord key = Word (codes "KEY")
SpellsIndexWord index = Word (codes "INDEX")

-- [ASC|DESC]
pub data DirectionForm : Type 0 where
  unsaid : DirectionForm
  ascending : DirectionForm
  descending : DirectionForm

-- the tokens of a direction
abbrev pub SpellsDirection : DirectionForm → Form
SpellsDirection unsaid = NoToken
SpellsDirection ascending = Word (codes "ASC")
SpellsDirection descending = Word (codes "DESC")

-- whether DESC stands
abbrev pub is_descending : DirectionForm → Bool
is_descending unsaid = false
is_descending ascending = false
is_descending descending = true
