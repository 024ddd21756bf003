-- A token takes at least one byte, and none behind the end.
use Rattle.std.proofs.Common.{◌≡◌, ℕ, suc, ◌+◌, ◌<◌, ◌≤◌, Bool, true, false, cond, nat_eq, nat_lt, filter, ◌==◌, ◌||◌, nat_le, ◌&&◌, List, [], ◌∷◌, length, take, drop, Option, Some, None, arith}
use Rattle.std.specs.Prelude.{IfSome}
use Rattle.std.specs.List.{starts_with, prefix_len}
use Rattle.std.specs.Char.{is_ascii_digit}
use Rattle.std.specs.Str.{is_utf8}
use Rattle.std.proofs.lemmas.Bool.{cond_both, and_parts}
use Rattle.std.proofs.lemmas.List.Sums.{prefix_len-le-length}
use Rattle.rx_token.specs.Quotes.{with_front, is_name_byte, name_in, escaped, text_in, quoted_of, str_of}
use Rattle.rx_token.proofs.Runs.{run_some, word_some}
use Rattle.rx_token.specs.Sign.{signs, longer, longest, sign_found}
use Rattle.rx_token.specs.Lexeme.{Takes, begins_word, goes_on_word, word_of, number_below, ends_number, number_lexeme, number_of, sign_lexeme, sign_at, lexeme_at}

either : {A : Type 0} (c : Bool) (x y : Option A) (P : A → Type 0) → IfSome x P → IfSome y P → IfSome (cond c x y) P
either true x y P p q = p
either false x y P p q = q

either_test : {A : Type 0} (c : Bool) (x y : Option A) (P : A → Type 0) → (c ≡ true → IfSome x P) → IfSome y P → IfSome (cond c x y) P
either_test c x y P p q = cond_both c x y (λ o. IfSome o P) p (λ e. q)

-- a text and its width, within a limit
abbrev Within : ℕ → Option (List ℕ × ℕ) → Type 0
Within limit o = IfSome o (λ x. x.1 ≤ limit)

front_fits : (limit small n : ℕ) (text : List ℕ) (o : Option (List ℕ × ℕ)) → n + small ≤ limit → Within small o → Within limit (with_front text n o)
front_fits limit small n text None room h = tt
front_fits limit small n text (Some x) room h = omega arith

name_fits : (bytes : List ℕ) → Within (length bytes) (name_in bytes)
unfolding name_in
name_fits [] = tt
name_fits (b ∷ []) = either (b == 96) (Some ([], 1)) None (λ x. x.1 ≤ length (b ∷ [])) (omega arith) tt
name_fits (b ∷ c ∷ bs) =
    let doubled = front_fits (length (b ∷ c ∷ bs)) (length bs) 2 (96 ∷ []) (name_in bs) (omega arith) (name_fits bs) in
    let other = front_fits (length (b ∷ c ∷ bs)) (length (c ∷ bs)) 1 (b ∷ []) (name_in (c ∷ bs)) (omega arith) (name_fits (c ∷ bs)) in
    either (b == 96) _ _ _ (either (c == 96) _ _ _ doubled (omega arith)) (either (is_name_byte b) _ _ _ other tt)

text_fits : (quote : ℕ) (bytes : List ℕ) → Within (length bytes) (text_in quote bytes)
unfolding text_in
text_fits quote [] = tt
text_fits quote (b ∷ []) = either (b == quote) (Some ([], 1)) None (λ x. x.1 ≤ length (b ∷ [])) (omega arith) tt
text_fits quote (b ∷ c ∷ bs) =
    let doubled = front_fits (length (b ∷ c ∷ bs)) (length bs) 2 (quote ∷ []) (text_in quote bs) (omega arith) (text_fits quote bs) in
    let slashed = front_fits (length (b ∷ c ∷ bs)) (length bs) 2 (escaped c) (text_in quote bs) (omega arith) (text_fits quote bs) in
    let other = front_fits (length (b ∷ c ∷ bs)) (length (c ∷ bs)) 1 (b ∷ []) (text_in quote (c ∷ bs)) (omega arith) (text_fits quote (c ∷ bs)) in
    either (b == quote) _ _ _ (either (c == quote) _ _ _ doubled (omega arith)) (either (b == 92) _ _ _ slashed other)

quoted_fits : (limit : ℕ) (o : Option (List ℕ × ℕ)) → Within limit o → IfSome (quoted_of o) (Takes (suc limit))
quoted_fits limit None h = tt
quoted_fits limit (Some x) h = either (nat_le 1 (length x.0) && nat_le (length x.0) 64) _ None (Takes (suc limit)) (omega arith, omega arith) tt

str_fits : (limit : ℕ) (o : Option (List ℕ × ℕ)) → Within limit o → IfSome (str_of o) (Takes (suc limit))
str_fits limit None h = tt
str_fits limit (Some x) h = either (is_utf8 x.0) _ None (Takes (suc limit)) (omega arith, omega arith) tt

word_fits : (width : ℕ) (bytes : List ℕ) → 0 < width → width ≤ length bytes → IfSome (word_of width bytes) (Takes (length bytes))
word_fits width bytes some within = either (nat_le width 64) _ None (Takes (length bytes)) (some, within) tt

digits_fit : (limit width : ℕ) (digits : List ℕ) (o : Option ℕ) → 0 < width → width ≤ limit → IfSome (number_lexeme width digits o) (Takes limit)
digits_fit limit width digits None some within = tt
digits_fit limit width digits (Some n) some within = (some, within)

number_fits : (width : ℕ) (bytes : List ℕ) → 0 < width → width ≤ length bytes → IfSome (number_of width bytes) (Takes (length bytes))
number_fits width bytes some within =
    either (ends_number (drop width bytes)) _ None (Takes (length bytes)) (digits_fit (length bytes) width (take width bytes) (number_below (take width bytes)) some within) tt

front_within : (bytes front : List ℕ) → starts_with nat_eq bytes front ≡ true → length front ≤ length bytes
front_within bytes [] is = omega arith
front_within [] (f ∷ fs) is = cc
front_within (b ∷ bs) (f ∷ fs) is = let more = front_within bs fs (and_parts (nat_eq f b) (starts_with nat_eq bs fs) is).1 in omega arith

-- a sign, by its length, of some of so many bytes
abbrev pub TakesSign : ℕ → ℕ × ℕ → Type 0
TakesSign limit sign = (0 < sign.1) × (sign.1 ≤ limit)

longer_fits : (limit : ℕ) (sign : ℕ × ℕ) (o : Option (ℕ × ℕ)) → TakesSign limit sign → IfSome o (TakesSign limit) → IfSome (longer sign o) (TakesSign limit)
longer_fits limit sign None h k = h
longer_fits limit sign (Some other) h k = either (nat_lt sign.1 other.1) (Some other) (Some sign) (TakesSign limit) k h

-- signs that have bytes
abbrev AllSome : List (ℕ × List ℕ) → Type 0
AllSome [] = Unit {0}
AllSome (sign ∷ others) = (0 < length sign.1) × AllSome others

longest_fits : (ss : List (ℕ × List ℕ)) (bytes : List ℕ) → AllSome ss → IfSome (longest (filter (λ sign. starts_with nat_eq bytes sign.1) ss)) (TakesSign (length bytes))
longest_fits [] bytes h = tt
longest_fits (sign ∷ others) bytes h =
    let rest = filter (λ (s : ℕ × List ℕ). starts_with nat_eq bytes s.1) others in
    cond_both (starts_with nat_eq bytes sign.1) (sign ∷ rest) rest (λ o. IfSome (longest o) (TakesSign (length bytes)))
    (λ e. longer_fits (length bytes) (sign.0, length sign.1) (longest rest) (h.0, front_within bytes sign.1 e) (longest_fits others bytes h.1))
    (λ e. longest_fits others bytes h.1)

signs_some : AllSome signs
signs_some = (omega arith, (omega arith, (omega arith, (omega arith, (omega arith, (omega arith, (omega arith, (omega arith, (omega arith, (omega arith, (omega arith, (omega arith, (omega arith, (omega arith, (omega arith, tt)))))))))))))))

pub found_fits : (bytes : List ℕ) → IfSome (sign_found bytes) (TakesSign (length bytes))
unfolding sign_found
found_fits bytes = longest_fits signs bytes signs_some

sign_lexeme_fits : (bytes : List ℕ) (o : Option (ℕ × ℕ)) → IfSome o (TakesSign (length bytes)) → IfSome (sign_lexeme bytes o) (Takes (length bytes))
sign_lexeme_fits bytes None h = tt
sign_lexeme_fits bytes (Some s) h = h

sign_fits : (bytes : List ℕ) → IfSome (sign_at bytes) (Takes (length bytes))
sign_fits bytes = sign_lexeme_fits bytes (sign_found bytes) (found_fits bytes)

pub lexeme_fits : (bytes : List ℕ) → IfSome (lexeme_at bytes) (Takes (length bytes))
unfolding lexeme_at
lexeme_fits [] = tt
lexeme_fits (b ∷ bs) =
    either_test (begins_word b) _ _ _ (λ e. word_fits (prefix_len goes_on_word (b ∷ bs)) (b ∷ bs) (word_some (b ∷ bs) (omega arith) e) (prefix_len-le-length goes_on_word (b ∷ bs)))
    (either_test (is_ascii_digit b) _ _ _ (λ e. number_fits (prefix_len is_ascii_digit (b ∷ bs)) (b ∷ bs) (run_some is_ascii_digit (b ∷ bs) (omega arith) e) (prefix_len-le-length is_ascii_digit (b ∷ bs)))
    (either (b == 96) _ _ _ (quoted_fits (length bs) (name_in bs) (name_fits bs))
    (either (b == 39 || b == 34) _ _ _ (str_fits (length bs) (text_in b bs) (text_fits b bs))
    (sign_fits (b ∷ bs)))))
