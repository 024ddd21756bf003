-- Reading tokens from left to right.
use Rattle.std.specs.Prelude.{◌≡◌, ◌<◌, ◌≤◌, ℕ, zero, suc, Bool, true, false, not, List, [], ◌∷◌, ◌++◌, length, codes, Option, Some, None, IfSome, ◌==◌, if◌then◌else◌}
use Rattle.std.specs.Option.{option_and_then, option_map, option_or}
use Rattle.std.specs.Borrow.{Bor}
use Rattle.rx_token.specs.declared.kinds.Token.{Token}
use Rattle.rx_token.specs.declared.kinds.TokenKind.{TokenKind}
use Rattle.rx_token.specs.declared.kinds.TokenKind.TheVariants.{Word, Quoted, Number, Str, Sign}
use Rattle.rx_token.specs.declared.signs.TheConstants.{OPEN, CLOSE, COMMA, SEMICOLON}
use Rattle.rx_token.specs.Reserved.{is_word_kind, is_word_of, is_reserved}
use Rattle.rx_reading.specs.declared.read.Read.{Read}
use Rattle.rx_reading.specs.declared.items.Separator.{Separator}
use Rattle.rx_reading.specs.declared.items.Separator.TheVariants.{Nothing, Comma, MaybeComma}

-- what is read at the front, and the tokens behind it
abbrev pub Reader : Type 0 → Type 0
Reader A = List Token → Option (A × List Token)

-- What is found, taken for what it means, is what the reader gives for these tokens.
abbrev pub Gives : {A B : Type 0} → (A → B) → Reader B → List Token → Option (Read A) → Type 0
Gives meaning reader ts found = option_map (λ x. (meaning x.value, x.rest.now)) found ≡ reader ts

-- What is found is what the reader gives for these tokens, and fewer tokens are left.
abbrev pub ReadsAs : {A B : Type 0} → (A → B) → Reader B → List Token → Option (Read A) → Type 0
ReadsAs meaning reader ts found = Gives meaning reader ts found × IfSome found (λ x. length x.rest.now < length ts)

-- the same, where what is found means itself
abbrev pub Reads : {A : Type 0} → Reader A → List Token → Option (Read A) → Type 0
Reads reader ts found = ReadsAs (λ x. x) reader ts found

-- What is found is what the reader gives for these tokens, which may take none of them.
abbrev pub ReadsMaybe : {A : Type 0} → Reader A → List Token → Option (Read A) → Type 0
ReadsMaybe reader ts found = Gives (λ x. x) reader ts found × IfSome found (λ x. length x.rest.now ≤ length ts)

-- The tokens that are left are those that a step leaves of these, and fewer.
abbrev pub Passes : (List Token → Option (List Token)) → List Token → Option (Bor (List Token)) → Type 0
Passes step ts left = (option_map (λ rest. rest.now) left ≡ step ts) × IfSome left (λ rest. length rest.now < length ts)

-- a step, and where it gives something the next
infixl 10 ◌>>=◌
abbrev pub ◌>>=◌ : {A B : Type 0} → Option A → (A → Option B) → Option B
o >>= f = option_and_then f o

-- the tokens behind a word
abbrev pub after_word : List ℕ → List Token → Option (List Token)
after_word word [] = None
after_word word (t ∷ ts) = if is_word_of word t then Some ts else None

-- a sign's number
abbrev pub is_sign_kind : ℕ → TokenKind → Bool
is_sign_kind sign Word = false
is_sign_kind sign Quoted = false
is_sign_kind sign (Number n) = false
is_sign_kind sign Str = false
is_sign_kind sign (Sign n) = n == sign

-- the tokens behind a sign
abbrev pub after_sign : ℕ → List Token → Option (List Token)
after_sign sign [] = None
after_sign sign (t ∷ ts) = if is_sign_kind sign t.kind then Some ts else None

-- the tokens behind what stands between two items
abbrev pub past : Separator → List Token → Option (List Token)
past Nothing ts = Some ts
past Comma ts = after_sign COMMA ts
past MaybeComma ts = option_or (after_sign COMMA ts) (Some ts)

-- any word, a reserved one too
abbrev pub word_at : Reader (List ℕ)
word_at [] = None
word_at (t ∷ ts) = if is_word_kind t.kind then Some (t.text, ts) else None

-- a name between backquotes, or a word that isn't reserved
abbrev pub is_name : Token → Bool
is_name t = elim t.kind [ Word ↦ not (is_reserved t.text) | Quoted ↦ true | _ ↦ false ]

-- a name
abbrev pub name_at : Reader (List ℕ)
name_at [] = None
name_at (t ∷ ts) = if is_name t then Some (t.text, ts) else None

-- a text between quotes
abbrev pub is_text_kind : TokenKind → Bool
is_text_kind Word = false
is_text_kind Quoted = false
is_text_kind (Number n) = false
is_text_kind Str = true
is_text_kind (Sign n) = false

-- a text
abbrev pub text_at : Reader (List ℕ)
text_at [] = None
text_at (t ∷ ts) = if is_text_kind t.kind then Some (t.text, ts) else None

-- the number that a token is
abbrev pub number_in : TokenKind → Option ℕ
number_in Word = None
number_in Quoted = None
number_in (Number n) = Some n
number_in Str = None
number_in (Sign n) = None

-- a number
abbrev pub number_at : Reader ℕ
number_at [] = None
number_at (t ∷ ts) = number_in t.kind >>= λ n. Some (n, ts)

-- KEY | INDEX
abbrev pub after_key : List Token → Option (List Token)
after_key ts = option_or (after_word (codes "KEY") ts) (after_word (codes "INDEX") ts)

-- whether DESC stands there, by what follows ASC and DESC
abbrev pub direction_of : List Token → Option (List Token) → Option (List Token) → Bool × List Token
direction_of ts None None = (false, ts)
direction_of ts (Some rest) descending = (false, rest)
direction_of ts None (Some rest) = (true, rest)

-- [ASC|DESC]
abbrev pub direction_at : List Token → Bool × List Token
direction_at ts = direction_of ts (after_word (codes "ASC") ts) (after_word (codes "DESC") ts)

-- nothing comes any more, or one semicolon
abbrev pub is_end : List Token → Bool
is_end [] = true
is_end (t ∷ []) = is_sign_kind SEMICOLON t.kind
is_end _ = false

-- an item behind what stands before it
abbrev pub next_at : {A : Type 0} → (List Token → Option (List Token)) → Reader A → Reader A
next_at after item ts = after ts >>= item

-- one item more, or none
abbrev pub next_of : {A : Type 0} → List Token → (List Token → List A × List Token) → Option (A × List Token) → List A × List Token
next_of here others None = ([], here)
next_of here others (Some x) = (x.0 ∷ (others x.1).0, (others x.1).1)

-- items behind what stands before each, as often as they come, at most so many times
unfoldable pub more_at : {A : Type 0} → (List Token → Option (List Token)) → Reader A → ℕ → List Token → List A × List Token
more_at after item zero ts = ([], ts)
more_at after item (suc most) ts = next_of ts (more_at after item most) (next_at after item ts)

-- some items before those that are read
abbrev pub gathered : {A : Type 0} → List A → List A × List Token → List A × List Token
gathered front x = (front ++ x.0, x.1)

-- Some items, and behind them as many as follow: more often than there are tokens they can't.
abbrev pub all_at : {A : Type 0} → (List Token → Option (List Token)) → Reader A → List A → Reader (List A)
all_at after item front ts = Some (gathered front (more_at after item (length ts) ts))

-- item {separator item}
unfoldable pub items_at : {A : Type 0} → (List Token → Option (List Token)) → Reader A → Reader (List A)
items_at after item ts = item ts >>= λ x. all_at after item (x.0 ∷ []) x.1

-- {separator item}
abbrev pub many_at : {A : Type 0} → (List Token → Option (List Token)) → Reader A → Reader (List A)
many_at after item ts = all_at after item [] ts

-- "(" item {"," item} ")"
abbrev pub enclosed_at : {A : Type 0} → Reader A → Reader (List A)
enclosed_at item ts =
    after_sign OPEN ts >>= λ behind. items_at (after_sign COMMA) item behind >>= λ list. after_sign CLOSE list.1 >>= λ rest.
    Some (list.0, rest)

-- what tokens give, where they are all of the text
abbrev pub of_whole : {A : Type 0} → (List Token → Option A) → List Token → Option ℕ → Option A
of_whole read ts None = read ts
of_whole read ts (Some place) = None
