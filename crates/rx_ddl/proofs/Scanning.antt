-- Bytes as tokens of which something is true, from the end to the beginning.
use Rattle.std.proofs.Common.{◌≡◌, ℕ, zero, suc, ◌+◌, ◌-◌, ◌<◌, ◌≤◌, ◌^◌, Bool, true, false, ◌==◌, List, [], ◌∷◌, ◌++◌, length, drop, Some, None, refl, sym, ap, subst, ◌∙◌, arith, append_assoc}
use Rattle.std.specs.List.{list_all, prefix_len}
use Rattle.std.specs.Fmt.{decimal}
use Rattle.std.specs.Char.{is_ascii_digit, digit_value}
use Rattle.std.specs.Str.Parse.{AllDigits, IsNumeral, digits_value}
use Rattle.std.proofs.Math.Seq.{drop-append_seam, take-append_seam}
use Rattle.std.proofs.lemmas.List.{drop-drop}
use Rattle.std.proofs.lemmas.Bool.{and_parts, le-leb, lt-ltb}
use Rattle.std.proofs.lemmas.Fmt.{decimal_is_IsNumeral_wide}
use Rattle.std.proofs.lemmas.Str.Parse.{digit_from_value}
use Rattle.rx_token.specs.declared.kinds.Token.{Token}
use Rattle.rx_token.specs.declared.kinds.TokenKind.{TokenKind}
use Rattle.rx_token.specs.declared.kinds.TokenKind.TheVariants.{Word, Quoted, Number, Sign}
use Rattle.rx_token.specs.declared.lexemes.Lexeme.{Lexeme}
use Rattle.rx_token.specs.Blank.{blank_at, Blanks, none, more}
use Rattle.rx_token.specs.Lexeme.{lexeme_at, begins_word, goes_on_word, word_of, number_of}
use Rattle.rx_token.specs.Quotes.{quoted_of, doubled, begins_without}
use Rattle.rx_token.specs.Sign.{sign_found}
use Rattle.rx_token.specs.Scan.{Scans, Stops, token}
use Rattle.rx_token.proofs.Names.{reads}
use Rattle.rx_ddl.specs.Canonical.{quoted, IsName}

-- wherever they stand, the bytes are tokens, and this is true of them
abbrev pub Reads : List ℕ → (List Token → Type 0) → Type 0
Reads bytes P = (at : ℕ) → (ts : List Token) × Scans at bytes ts None × P ts

pub reads_so : (bytes : List ℕ) (P Q : List Token → Type 0) → ((ts : List Token) → P ts → Q ts) → Reads bytes P → Reads bytes Q
reads_so bytes P Q f read at = let r = read at in (r.0, r.1, f r.0 r.2)

-- the tokens begin with one of this kind and text, and this is true of the others
pub record Front (kind : TokenKind) (text : List ℕ) (P : List Token → Type 0) (ts : List Token) : Type 0 where
  pub start : ℕ
  pub stop : ℕ
  pub others : List Token
  pub is : ts ≡ record { kind = kind; start = start; end = stop; text = text } ∷ others
  pub behind : P others

-- a token at the front
pub reads_token : (bytes after : List ℕ) (found : Lexeme) (P : List Token → Type 0) → blank_at bytes ≡ 0 → lexeme_at bytes ≡ Some found → drop found.width bytes ≡ after → Reads after P → Reads bytes (Front found.kind found.text P)
reads_token bytes after found P no_blank is cut tail at =
    let others = tail (at + 0 + found.width) in (
      token (at + 0) found ∷ others.0,
      (0, found, none no_blank, is, refl, subst (λ (xs : List ℕ). Scans (at + 0 + found.width) xs others.0 None) (sym cut) others.1),
      record { start = at + 0; stop = at + 0 + found.width; others = others.0; is = refl; behind = others.2 },
    )

behind_blank : (at : ℕ) (bytes : List ℕ) (ts : List Token) → 0 < blank_at bytes → Scans (at + blank_at bytes) (drop (blank_at bytes) bytes) ts None → Scans at bytes ts None
behind_blank at bytes [] some s =
    let place : (at + blank_at bytes) + s.0 ≡ at + (blank_at bytes + s.0) = omega arith in
    let cut : drop s.0 (drop (blank_at bytes) bytes) ≡ drop (blank_at bytes + s.0) bytes = drop-drop s.0 (blank_at bytes) bytes in
    (blank_at bytes + s.0, more some s.1, subst (λ (k : ℕ). Stops k (drop (blank_at bytes + s.0) bytes) None) place (subst (λ (xs : List ℕ). Stops (at + blank_at bytes + s.0) xs None) cut s.2))
behind_blank at bytes (t ∷ ts) some s =
    let place : (at + blank_at bytes) + s.0 ≡ at + (blank_at bytes + s.0) = omega arith in
    let cut : drop s.0 (drop (blank_at bytes) bytes) ≡ drop (blank_at bytes + s.0) bytes = drop-drop s.0 (blank_at bytes) bytes in (
      blank_at bytes + s.0,
      s.1,
      more some s.2,
      ap lexeme_at (sym cut) ∙ s.3,
      s.4 ∙ ap (λ (k : ℕ). token k s.1) place,
      subst (λ (k : ℕ). Scans (k + s.1.width) (drop s.1.width (drop (blank_at bytes + s.0) bytes)) ts None) place (subst (λ (xs : List ℕ). Scans (at + blank_at bytes + s.0 + s.1.width) (drop s.1.width xs) ts None) cut s.5),
    )

-- one byte of white space before
blank_before : (b : ℕ) (bytes : List ℕ) (P : List Token → Type 0) → blank_at (b ∷ bytes) ≡ 1 → Reads bytes P → Reads (b ∷ bytes) P
blank_before b bytes P is read at =
    let r = read (at + 1) in
    let some : 0 < blank_at (b ∷ bytes) = omega arith in
    let scans : Scans (at + blank_at (b ∷ bytes)) (drop (blank_at (b ∷ bytes)) (b ∷ bytes)) r.0 None = subst (λ (k : ℕ). Scans (at + k) (drop k (b ∷ bytes)) r.0 None) (sym is) r.1 in
    (r.0, behind_blank at (b ∷ bytes) r.0 some scans, r.2)

-- a space before
pub space : (bytes : List ℕ) (P : List Token → Type 0) → Reads bytes P → Reads (32 ∷ bytes) P
unfolding blank_at
space bytes P read = blank_before 32 bytes P refl read

-- a line feed before
pub line : (bytes : List ℕ) (P : List Token → Type 0) → Reads bytes P → Reads (10 ∷ bytes) P
unfolding blank_at
line bytes P read = blank_before 10 bytes P refl read

no_blanks : Blanks [] 0
unfolding blank_at
no_blanks = none refl

-- no bytes are no tokens
pub no_bytes : Reads [] (λ ts. ts ≡ [])
no_bytes at = ([], (0, no_blanks, refl), refl)

-- the bytes begin with one that ends a word and is no backquote
pub record Edge (bytes : List ℕ) : Type 0 where
  pub byte : ℕ
  pub others : List ℕ
  pub is : bytes ≡ byte ∷ others
  pub ends : goes_on_word byte ≡ false
  pub plain : (byte == 96) ≡ false

-- a sign of one byte
abbrev pub IsSign : ℕ → ℕ → Type 0
IsSign n b = (rest : List ℕ) → (blank_at (b ∷ rest) ≡ 0) × (lexeme_at (b ∷ rest) ≡ Some (record { kind = Sign n; text = b ∷ []; width = 1 }))

pub sign : (n b : ℕ) (rest : List ℕ) (P : List Token → Type 0) → IsSign n b → Reads rest P → Reads (b ∷ rest) (Front (Sign n) (b ∷ []) P)
sign n b rest P is read = reads_token (b ∷ rest) rest (record { kind = Sign n; text = b ∷ []; width = 1 }) P (is rest).0 (is rest).1 refl read

pub is_open : IsSign 0 40
unfolding blank_at lexeme_at sign_found
is_open rest = (refl, refl)

pub is_close : IsSign 1 41
unfolding blank_at lexeme_at sign_found
is_close rest = (refl, refl)

pub is_comma : IsSign 2 44
unfolding blank_at lexeme_at sign_found
is_comma rest = (refl, refl)

-- the bytes of a word go on up to an edge
run_of : (test : ℕ → Bool) (word : List ℕ) (b : ℕ) (bs : List ℕ) → list_all test word ≡ true → test b ≡ false → prefix_len test (word ++ b ∷ bs) ≡ length word
run_of test [] b bs all ends = rw ends refl
run_of test (w ∷ ws) b bs all ends =
    let parts = and_parts (test w) (list_all test ws) all in
    let e : 1 + length ws ≡ length (w ∷ ws) = omega arith in
    rw (parts.0, run_of test ws b bs parts.1 ends) e

-- a word that no other byte is in
abbrev pub IsWordText : List ℕ → Type 0
IsWordText [] = ⊥
IsWordText (w ∷ ws) =
    (begins_word w ≡ true) × (list_all goes_on_word (w ∷ ws) ≡ true) × (length (w ∷ ws) ≤ 64) × ((rest : List ℕ) → blank_at (w ∷ rest) ≡ 0)

word_first : (w : ℕ) (bs : List ℕ) → begins_word w ≡ true → lexeme_at (w ∷ bs) ≡ word_of (prefix_len goes_on_word (w ∷ bs)) (w ∷ bs)
unfolding lexeme_at
word_first w bs is = rw is refl

word_kept : (text rest : List ℕ) → length text ≤ 64 → word_of (length text) (text ++ rest) ≡ Some (record { kind = Word; text = text; width = length text })
word_kept text rest short = rw (le-leb (length text) 64 short, take-append_seam text rest) refl

word_lexeme : (w : ℕ) (ws rest : List ℕ) → IsWordText (w ∷ ws) → Edge rest → lexeme_at (w ∷ ws ++ rest) ≡ Some (record { kind = Word; text = w ∷ ws; width = length (w ∷ ws) })
word_lexeme w ws rest is edge =
    let run : prefix_len goes_on_word (w ∷ ws ++ rest) ≡ length (w ∷ ws) = ap (λ (xs : List ℕ). prefix_len goes_on_word (w ∷ ws ++ xs)) edge.is ∙ run_of goes_on_word (w ∷ ws) edge.byte edge.others is.1 edge.ends in
    word_first w (ws ++ rest) is.0 ∙ ap (λ (n : ℕ). word_of n (w ∷ ws ++ rest)) run ∙ word_kept (w ∷ ws) rest is.2

-- a word
pub word : (text rest : List ℕ) (P : List Token → Type 0) → IsWordText text → Edge rest → Reads rest P → Reads (text ++ rest) (Front Word text P)
word [] rest P is edge read = absurd is
word (w ∷ ws) rest P is edge read =
    reads_token (w ∷ ws ++ rest) rest (record { kind = Word; text = w ∷ ws; width = length (w ∷ ws) }) P (is.3 (ws ++ rest)) (word_lexeme w ws rest is edge) (drop-append_seam (w ∷ ws) rest) read

-- a name in backquotes
drop_past : (front : List ℕ) (b : ℕ) (rest : List ℕ) → drop (suc (length front)) (front ++ b ∷ rest) ≡ rest
drop_past [] b rest = refl
drop_past (f ∷ fs) b rest = drop_past fs b rest

behind_name : (name rest : List ℕ) → drop (1 + (length (doubled name) + 1)) (96 ∷ doubled name ++ 96 ∷ rest) ≡ rest
behind_name name rest =
    let e : 1 + (length (doubled name) + 1) ≡ suc (suc (length (doubled name))) = omega arith in
    ap (λ (k : ℕ). drop k (96 ∷ doubled name ++ 96 ∷ rest)) e ∙ drop_past (doubled name) 96 rest

unquoted : (rest : List ℕ) → Edge rest → begins_without 96 rest ≡ true
unquoted rest edge = rw edge.is (rw edge.plain refl)

no_blank_quote : (rest : List ℕ) → blank_at (96 ∷ rest) ≡ 0
unfolding blank_at
no_blank_quote rest = refl

abbrev name_lexeme : List ℕ → Lexeme
name_lexeme name = record { kind = Quoted; text = name; width = 1 + (length (doubled name) + 1) }

name_found : (name rest : List ℕ) → IsName name → Edge rest → lexeme_at (96 ∷ doubled name ++ 96 ∷ rest) ≡ Some (name_lexeme name)
unfolding lexeme_at
name_found name rest is edge =
    ap quoted_of (reads name rest (unquoted rest edge) is.bytes) ∙ rw (le-leb 1 (length name) is.some, le-leb (length name) 64 is.short) refl

pub name : (text rest : List ℕ) (P : List Token → Type 0) → IsName text → Edge rest → Reads rest P → Reads (quoted text ++ rest) (Front Quoted text P)
name text rest P is edge read =
    let same : 96 ∷ doubled text ++ 96 ∷ rest ≡ quoted text ++ rest = ap (λ (xs : List ℕ). 96 ∷ xs) (sym (append_assoc (doubled text) (96 ∷ []) rest)) in
    subst (λ (xs : List ℕ). Reads xs (Front Quoted text P)) same
    (reads_token (96 ∷ doubled text ++ 96 ∷ rest) rest (name_lexeme text) P (no_blank_quote _) (name_found text rest is edge) (behind_name text rest) read)

-- the bytes of digits
abbrev DigitByte : ℕ → Type 0
DigitByte b = (is_ascii_digit b ≡ true) × (begins_word b ≡ false) × ((rest : List ℕ) → blank_at (b ∷ rest) ≡ 0)

digit_bytes : (k : ℕ) → k < 10 → DigitByte (48 + k)
unfolding blank_at
digit_bytes zero few = (refl, refl, λ rest. refl)
digit_bytes (suc zero) few = (refl, refl, λ rest. refl)
digit_bytes (suc (suc zero)) few = (refl, refl, λ rest. refl)
digit_bytes (suc (suc (suc zero))) few = (refl, refl, λ rest. refl)
digit_bytes (suc (suc (suc (suc zero)))) few = (refl, refl, λ rest. refl)
digit_bytes (suc (suc (suc (suc (suc zero))))) few = (refl, refl, λ rest. refl)
digit_bytes (suc (suc (suc (suc (suc (suc zero)))))) few = (refl, refl, λ rest. refl)
digit_bytes (suc (suc (suc (suc (suc (suc (suc zero))))))) few = (refl, refl, λ rest. refl)
digit_bytes (suc (suc (suc (suc (suc (suc (suc (suc zero)))))))) few = (refl, refl, λ rest. refl)
digit_bytes (suc (suc (suc (suc (suc (suc (suc (suc (suc zero))))))))) few = (refl, refl, λ rest. refl)
digit_bytes (suc (suc (suc (suc (suc (suc (suc (suc (suc (suc k)))))))))) few = absurd (omega arith)

digit_byte : (d : ℕ) → digit_value d < 10 → DigitByte d
digit_byte d below =
    let range = digit_from_value d below in
    let low : 48 ≤ d = omega (arith, range) in
    let high : d ≤ 57 = omega (arith, range) in
    let e : 48 + (d - 48) ≡ d = omega arith in
    subst DigitByte e (digit_bytes (d - 48) (omega arith))

all_digits : (ds : List ℕ) → AllDigits 10 ds → list_all is_ascii_digit ds ≡ true
all_digits [] all = refl
all_digits (d ∷ ds) all = rw ((digit_byte d all.0).0, all_digits ds all.1) refl

number_first : (d : ℕ) (bs : List ℕ) → begins_word d ≡ false → is_ascii_digit d ≡ true → lexeme_at (d ∷ bs) ≡ number_of (prefix_len is_ascii_digit (d ∷ bs)) (d ∷ bs)
unfolding lexeme_at
number_first d bs no_word is = rw (no_word, is) refl

number_kept : (digits rest : List ℕ) (n : ℕ) → digits_value 10 digits ≡ n → n < 2 ^ 127 → number_of (length digits) (digits ++ 41 ∷ rest) ≡ Some (record { kind = Number n; text = digits; width = length digits })
number_kept digits rest n value small =
    rw (drop-append_seam digits (41 ∷ rest), take-append_seam digits (41 ∷ rest), value, lt-ltb n (2 ^ 127) small) refl

-- digits of a number below 2^127, before a closing parenthesis
digits_found : (d : ℕ) (ds rest : List ℕ) (n : ℕ) → AllDigits 10 (d ∷ ds) → digits_value 10 (d ∷ ds) ≡ n → n < 2 ^ 127 → lexeme_at (d ∷ ds ++ 41 ∷ rest) ≡ Some (record { kind = Number n; text = d ∷ ds; width = length (d ∷ ds) })
digits_found d ds rest n all value small =
    let first = digit_byte d all.0 in
    let run : prefix_len is_ascii_digit (d ∷ ds ++ 41 ∷ rest) ≡ length (d ∷ ds) = run_of is_ascii_digit (d ∷ ds) 41 rest (all_digits (d ∷ ds) all) refl in
    number_first d (ds ++ 41 ∷ rest) first.1 first.0 ∙ ap (λ (k : ℕ). number_of k (d ∷ ds ++ 41 ∷ rest)) run ∙ number_kept (d ∷ ds) rest n value small

number_in : (digits rest : List ℕ) (n : ℕ) (P : List Token → Type 0) → IsNumeral 10 digits → digits_value 10 digits ≡ n → n < 2 ^ 127 → Reads (41 ∷ rest) P → Reads (digits ++ 41 ∷ rest) (Front (Number n) digits P)
number_in [] rest n P numeral value small read = absurd (omega (arith, numeral.0))
number_in (d ∷ ds) rest n P numeral value small read =
    reads_token (d ∷ ds ++ 41 ∷ rest) (41 ∷ rest) (record { kind = Number n; text = d ∷ ds; width = length (d ∷ ds) }) P ((digit_byte d numeral.1.0).2 _) (digits_found d ds rest n numeral.1 value small) (drop-append_seam (d ∷ ds) (41 ∷ rest)) read

-- a number in decimal digits, before a closing parenthesis
pub number : (n : ℕ) (rest : List ℕ) (P : List Token → Type 0) → n < 2 ^ 127 → Reads (41 ∷ rest) P → Reads (decimal n ++ 41 ∷ rest) (Front (Number n) (decimal n) P)
number n rest P small read =
    let limit : 2 ^ 127 ≤ 10 ^ 64 = omega arith in
    let is = decimal_is_IsNumeral_wide n (omega arith) in
    number_in (decimal n) rest n P is.0 is.1 small read
