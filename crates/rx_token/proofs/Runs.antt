-- A run of digits is a numeral, and a numeral is a text.
use Rattle.std.proofs.Common.{◌≡◌, ℕ, suc, ◌+◌, ◌<◌, ◌≤◌, Bool, true, cond, List, [], ◌∷◌, length, get_or, take, refl, sym, subst, arith}
use Rattle.std.specs.List.{prefix_len}
use Rattle.std.specs.Char.{is_ascii_digit, digit_value}
use Rattle.std.specs.Str.{IsAscii, IsUtf8}
use Rattle.std.specs.Str.Parse.{AllDigits, IsNumeral}
use Rattle.std.proofs.lemmas.Bool.{cond_both}
use Rattle.std.proofs.lemmas.Str.{IsUtf8-from_ascii}
use Rattle.std.proofs.lemmas.Str.Ascii.{IsAscii-nil, IsAscii-cons}
use Rattle.std.proofs.lemmas.Str.Parse.{digit_from_value}
use Rattle.rx_token.specs.Lexeme.{begins_word, goes_on_word}
use Rattle.std.proofs.lemmas.Grind.{common_steps}

digit_below : (b : ℕ) → is_ascii_digit b ≡ true → digit_value b < 10
digit_below b is = grind (arith, common_steps)

pub digits_all : (bytes : List ℕ) → AllDigits 10 (take (prefix_len is_ascii_digit bytes) bytes)
digits_all [] = tt
digits_all (b ∷ bs) =
    cond_both (is_ascii_digit b) (1 + prefix_len is_ascii_digit bs) 0 (λ n. AllDigits 10 (take n (b ∷ bs)))
    (λ e. let one : suc (prefix_len is_ascii_digit bs) ≡ 1 + prefix_len is_ascii_digit bs = omega arith in
    subst (λ (n : ℕ). AllDigits 10 (take n (b ∷ bs))) one (digit_below b e, digits_all bs))
    (λ e. tt)

ascii_digits : (ds : List ℕ) → AllDigits 10 ds → IsAscii ds
ascii_digits [] h = IsAscii-nil
ascii_digits (d ∷ ds) h = let range = digit_from_value d h.0 in IsAscii-cons d ds (omega arith) (ascii_digits ds h.1)

pub utf8_numeral : (ds : List ℕ) → IsNumeral 10 ds → IsUtf8 ds
utf8_numeral ds h = IsUtf8-from_ascii ds (ascii_digits ds h.1)

-- a run at whose front the test passes isn't empty
pub run_some : (test : ℕ → Bool) (bytes : List ℕ) → 1 ≤ length bytes → test (get_or bytes 0 0) ≡ true → 0 < prefix_len test bytes
run_some test [] some is = absurd (omega arith)
run_some test (b ∷ bs) some is = subst (λ (t : Bool). 0 < cond t (1 + prefix_len test bs) 0) (sym is) (omega arith)

pub word_some : (bytes : List ℕ) → 1 ≤ length bytes → begins_word (get_or bytes 0 0) ≡ true → 0 < prefix_len goes_on_word bytes
word_some bytes some is = run_some goes_on_word bytes some (rw is refl)
