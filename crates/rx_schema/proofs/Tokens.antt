-- The words and the quoted names of a text have 1 to 64 bytes from 32 to 126.
use Rattle.std.proofs.Common.{◌≡◌, ℕ, suc, ◌+◌, ◌<◌, true, ◌==◌, ◌&&◌, ◌||◌, List, [], ◌∷◌, length, take, drop, Option, Some, None, refl, sym, subst, arith}
use Rattle.std.specs.Prelude.{IfSome, nat_le}
use Rattle.std.specs.List.{list_all, prefix_len, AllByRecursion}
use Rattle.std.specs.Char.{is_ascii_digit}
use Rattle.std.specs.Str.{is_utf8}
use Rattle.std.proofs.lemmas.Bool.{cond_both, leb-true, and_parts, and_from}
use Rattle.std.proofs.lemmas.List.Folds.{length-prefix_len}
use Rattle.rx_token.specs.declared.kinds.Token.{Token}
use Rattle.rx_token.specs.declared.kinds.TokenKind.{TokenKind}
use Rattle.rx_token.specs.declared.kinds.TokenKind.TheVariants.{Word, Quoted, Number, Str, Sign}
use Rattle.rx_token.specs.declared.lexemes.Lexeme.{Lexeme}
use Rattle.rx_token.specs.Lexeme.{begins_word, goes_on_word, word_of, number_below, number_lexeme, number_of, ends_number, sign_lexeme, lexeme_at}
use Rattle.rx_token.specs.Quotes.{is_name_byte, name_in, quoted_of, str_of}
use Rattle.rx_token.specs.Scan.{Scans, token_list, bad_place}
use Rattle.rx_token.specs.Sign.{sign_found}
use Rattle.rx_token.proofs.Names.{name_only}
use Rattle.rx_token.proofs.Readings.{reads_whole}
use Rattle.rx_token.proofs.Runs.{word_some}
use Rattle.rx_ddl.specs.Canonical.{IsName}

-- a word and a quoted name are names
abbrev pub IsToken : TokenKind → List ℕ → Type 0
IsToken Word text = IsName text
IsToken Quoted text = IsName text
IsToken (Number n) text = Unit {0}
IsToken Str text = Unit {0}
IsToken (Sign n) text = Unit {0}

abbrev pub IsNamed : Token → Type 0
IsNamed t = IsToken t.kind t.text

abbrev IsFound : Option Lexeme → Type 0
IsFound o = IfSome o (λ found. IsToken found.kind found.text)

word_byte : (b : ℕ) → goes_on_word b ≡ true → is_name_byte b ≡ true
word_byte b e = grind arith

-- the run at the front has bytes of the test alone
run_bytes : (bytes : List ℕ) → list_all is_name_byte (take (prefix_len goes_on_word bytes) bytes) ≡ true
run_bytes [] = refl
run_bytes (b ∷ bs) = cond_both (goes_on_word b) (1 + prefix_len goes_on_word bs) 0 (λ n. list_all is_name_byte (take n (b ∷ bs)) ≡ true) (λ e. let count : 1 + prefix_len goes_on_word bs ≡ suc (prefix_len goes_on_word bs) = omega arith in rw count (and_from _ _ (word_byte b e) (run_bytes bs))) (λ e. refl)

word_named : (bytes : List ℕ) → 0 < prefix_len goes_on_word bytes → IsFound (word_of (prefix_len goes_on_word bytes) bytes)
word_named bytes some =
    cond_both (nat_le (prefix_len goes_on_word bytes) 64) (Some (record { kind = Word; text = take (prefix_len goes_on_word bytes) bytes; width = prefix_len goes_on_word bytes })) None IsFound
    (λ e. let count = length-prefix_len goes_on_word bytes in let short = leb-true _ _ e in record { some = omega arith; short = omega arith; bytes = run_bytes bytes })
    (λ e. tt)

name_named : (bytes : List ℕ) (o : Option (List ℕ × ℕ)) → name_in bytes ≡ o → IsFound (quoted_of o)
name_named bytes None e = tt
name_named bytes (Some x) e =
    cond_both (nat_le 1 (length x.0) && nat_le (length x.0) 64) (Some (record { kind = Quoted; text = x.0; width = 1 + x.1 })) None IsFound
    (λ f. let parts = and_parts (nat_le 1 (length x.0)) (nat_le (length x.0) 64) f in record { some = leb-true _ _ parts.0; short = leb-true _ _ parts.1; bytes = (name_only bytes x e).3 })
    (λ f. tt)

number_named : (width : ℕ) (digits : List ℕ) (o : Option ℕ) → IsFound (number_lexeme width digits o)
number_named width digits None = tt
number_named width digits (Some n) = tt

run_named : (width : ℕ) (bytes : List ℕ) → IsFound (number_of width bytes)
run_named width bytes = cond_both (ends_number (drop width bytes)) (number_lexeme width (take width bytes) (number_below (take width bytes))) None IsFound (λ e. number_named width (take width bytes) _) (λ e. tt)

text_named : (o : Option (List ℕ × ℕ)) → IsFound (str_of o)
text_named None = tt
text_named (Some x) = cond_both (is_utf8 x.0) (Some (record { kind = Str; text = x.0; width = 1 + x.1 })) None IsFound (λ e. tt) (λ e. tt)

sign_named : (bytes : List ℕ) (o : Option (ℕ × ℕ)) → IsFound (sign_lexeme bytes o)
sign_named bytes None = tt
sign_named bytes (Some sign) = tt

-- the token at the front
lexeme_named : (bytes : List ℕ) → IsFound (lexeme_at bytes)
unfolding lexeme_at
lexeme_named [] = tt
lexeme_named (b ∷ bs) =
    cond_both (begins_word b) _ _ IsFound (λ e. word_named (b ∷ bs) (word_some (b ∷ bs) (omega arith) e))
    (λ e. cond_both (is_ascii_digit b) _ _ IsFound (λ f. run_named _ (b ∷ bs))
    (λ f. cond_both (b == 96) _ _ IsFound (λ g. name_named bs _ refl)
    (λ g. cond_both (b == 39 || b == 34) _ _ IsFound (λ h. text_named _) (λ h. sign_named (b ∷ bs) (sign_found (b ∷ bs))))))

found_named : (bytes : List ℕ) (found : Lexeme) → lexeme_at bytes ≡ Some found → IsToken found.kind found.text
found_named bytes found e = subst IsFound e (lexeme_named bytes)

scan_named : (at : ℕ) (bytes : List ℕ) (ts : List Token) (bad : Option ℕ) → Scans at bytes ts bad → AllByRecursion IsNamed ts
scan_named at bytes [] bad scan = tt
scan_named at bytes (t ∷ ts) bad scan = (subst IsNamed (sym scan.4) (found_named (drop scan.0 bytes) scan.1 scan.3), scan_named (at + scan.0 + scan.1.width) (drop scan.1.width (drop scan.0 bytes)) ts bad scan.5)

-- every token of a text
pub tokens_named : (text : List ℕ) → AllByRecursion IsNamed (token_list text)
tokens_named text = scan_named 0 text (token_list text) (bad_place text) (reads_whole text)
