-- Each text between quotes among the tokens of a text is UTF-8.
use Rattle.std.proofs.Common.{◌≡◌, ℕ, ◌+◌, ◌==◌, ◌||◌, Bool, true, false, List, [], ◌∷◌, length, drop, Option, Some, None, refl, sym, ap, subst, ◌∙◌, nat_le, ◌&&◌, arith}
use Rattle.std.specs.Prelude.{IfSome}
use Rattle.std.specs.List.{prefix_len}
use Rattle.std.specs.Char.{is_ascii_digit}
use Rattle.std.specs.Str.{IsUtf8, is_utf8}
use Rattle.std.proofs.lemmas.Bool.{cond_both, eqb-true, false_from_ne_true}
use Rattle.std.proofs.lemmas.Str.{IsUtf8-from_is_utf8}
use Rattle.rx_token.specs.declared.kinds.Token.{Token}
use Rattle.rx_token.specs.declared.lexemes.Lexeme.{Lexeme}
use Rattle.rx_token.specs.Lexeme.{begins_word, goes_on_word, word_of, ends_number, number_lexeme, number_of, sign_lexeme, lexeme_at}
use Rattle.rx_token.specs.Quotes.{name_in, quoted_of, text_in, str_of, IsTextIn}
use Rattle.rx_token.specs.Scan.{Scans, token_list, bad_place}
use Rattle.rx_token.specs.Sign.{sign_found}
use Rattle.rx_token.proofs.Readings.{reads_whole}
use Rattle.rx_token.proofs.Texts.{text_all}
use Rattle.rx_reading.specs.Reading.{is_text_kind}
use Rattle.rx_spelled.specs.Utf8.{IsUtf8Token}
use Rattle.rx_spelled.proofs.Keeping.{Texts}

-- a token by itself that is a text between quotes is UTF-8
abbrev IsUtf8Lexeme : Lexeme → Type 0
IsUtf8Lexeme found = is_text_kind found.kind ≡ true → IsUtf8 found.text

abbrev IfUtf8 : Option Lexeme → Type 0
IfUtf8 o = IfSome o IsUtf8Lexeme

word_utf8 : (width : ℕ) (bytes : List ℕ) → IfUtf8 (word_of width bytes)
word_utf8 width bytes = cond_both (nat_le width 64) _ None IfUtf8 (λ _ e. absurd cc) (λ _. tt)

digits_utf8 : (width : ℕ) (digits : List ℕ) (o : Option ℕ) → IfUtf8 (number_lexeme width digits o)
digits_utf8 width digits None = tt
digits_utf8 width digits (Some n) = λ e. absurd cc

number_utf8 : (width : ℕ) (bytes : List ℕ) → IfUtf8 (number_of width bytes)
number_utf8 width bytes = cond_both (ends_number (drop width bytes)) _ None IfUtf8 (λ _. digits_utf8 width _ _) (λ _. tt)

quoted_utf8 : (o : Option (List ℕ × ℕ)) → IfUtf8 (quoted_of o)
quoted_utf8 None = tt
quoted_utf8 (Some x) = cond_both (nat_le 1 (length x.0) && nat_le (length x.0) 64) _ None IfUtf8 (λ _ e. absurd cc) (λ _. tt)

str_utf8 : (o : Option (List ℕ × ℕ)) → IfUtf8 (str_of o)
str_utf8 None = tt
str_utf8 (Some x) = cond_both (is_utf8 x.0) _ None IfUtf8 (λ is _. IsUtf8-from_is_utf8 x.0 is) (λ _. tt)

signed_utf8 : (bytes : List ℕ) (o : Option (ℕ × ℕ)) → IfUtf8 (sign_lexeme bytes o)
signed_utf8 bytes None = tt
signed_utf8 bytes (Some sign) = λ e. absurd cc

lexeme_utf8 : (bytes : List ℕ) → IfUtf8 (lexeme_at bytes)
unfolding lexeme_at
lexeme_utf8 [] = tt
lexeme_utf8 (b ∷ bs) =
    cond_both (begins_word b) _ _ IfUtf8 (λ _. word_utf8 (prefix_len goes_on_word (b ∷ bs)) (b ∷ bs))
    (λ _. cond_both (is_ascii_digit b) _ _ IfUtf8 (λ _. number_utf8 (prefix_len is_ascii_digit (b ∷ bs)) (b ∷ bs))
    (λ _. cond_both (b == 96) _ _ IfUtf8 (λ _. quoted_utf8 (name_in bs))
    (λ _. cond_both (b == 39 || b == 34) _ _ IfUtf8 (λ _. str_utf8 (text_in b bs))
    (λ _. signed_utf8 (b ∷ bs) (sign_found (b ∷ bs))))))

pub scanned_utf8 : (at : ℕ) (bytes : List ℕ) (ts : List Token) (bad : Option ℕ) → Scans at bytes ts bad → Texts ts
scanned_utf8 at bytes [] bad s = tt
scanned_utf8 at bytes (t ∷ ts) bad (gap, found, blanks, is, same, more) =
    let first : IsUtf8Lexeme found = subst IfUtf8 is (lexeme_utf8 (drop gap bytes)) in
    (subst IsUtf8Token (sym same) first, scanned_utf8 (at + gap + found.width) (drop found.width (drop gap bytes)) ts bad more)

pub tokens_utf8 : (text : List ℕ) → Texts (token_list text)
tokens_utf8 text = scanned_utf8 0 text (token_list text) (bad_place text) (reads_whole text)

-- a text that isn't UTF-8 is no token
refused_text : (x : List ℕ × ℕ) → (IsUtf8 x.0 → ⊥) → str_of (Some x) ≡ None
refused_text x other = rw (false_from_ne_true (is_utf8 x.0) (λ e. other (IsUtf8-from_is_utf8 x.0 e))) refl

single_refused : (bytes : List ℕ) (x : List ℕ × ℕ) → IsTextIn 39 bytes x → (IsUtf8 x.0 → ⊥) → lexeme_at (39 ∷ bytes) ≡ None
unfolding lexeme_at
single_refused bytes x s other = ap str_of (text_all 39 bytes x (λ e. absurd (omega arith)) s) ∙ refused_text x other

double_refused : (bytes : List ℕ) (x : List ℕ × ℕ) → IsTextIn 34 bytes x → (IsUtf8 x.0 → ⊥) → lexeme_at (34 ∷ bytes) ≡ None
unfolding lexeme_at
double_refused bytes x s other = ap str_of (text_all 34 bytes x (λ e. absurd (omega arith)) s) ∙ refused_text x other

refused_by : (quote : ℕ) (bytes : List ℕ) (x : List ℕ × ℕ) (a : Bool) → (quote == 39) ≡ a → (a || quote == 34) ≡ true → IsTextIn quote bytes x → (IsUtf8 x.0 → ⊥) → lexeme_at (quote ∷ bytes) ≡ None
refused_by quote bytes x true is e s other =
    let same : quote ≡ 39 = eqb-true quote 39 is in
    subst (λ (q : ℕ). lexeme_at (q ∷ bytes) ≡ None) (sym same) (single_refused bytes x (subst (λ (q : ℕ). IsTextIn q bytes x) same s) other)
refused_by quote bytes x false is e s other =
    let same : quote ≡ 34 = eqb-true quote 34 e in
    subst (λ (q : ℕ). lexeme_at (q ∷ bytes) ≡ None) (sym same) (double_refused bytes x (subst (λ (q : ℕ). IsTextIn q bytes x) same s) other)

pub text_refused : (quote : ℕ) (bytes : List ℕ) (x : List ℕ × ℕ) → (quote == 39 || quote == 34) ≡ true → IsTextIn quote bytes x → (IsUtf8 x.0 → ⊥) → lexeme_at (quote ∷ bytes) ≡ None
text_refused quote bytes x e s other = refused_by quote bytes x (quote == 39) refl e s other
