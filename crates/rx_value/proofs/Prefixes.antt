-- The first characters of a text, byte by byte.
use Rattle.std.proofs.Common.{◌≡◌, ℕ, ◌+◌, ◌-◌, ◌<◌, Bool, true, false, cond, List, [], ◌∷◌, ◌++◌, length, take, drop, get_or, refl, arith}
use Rattle.std.proofs.Math.Seq.{drop-cons, take-suc}
use Rattle.std.proofs.lemmas.List.{append-nil, append_assoc}
use native.Mathlib.Numerals.{add-one}
use lib.Dec.{eqb}
use borrow.Author.Tests.{ne_eqb}
use Rattle.std.specs.Fmt.{take_chars, is_char_start}

pub take_chars-nil : (n : ℕ) → take_chars n [] ≡ []
unfolding take_chars
take_chars-nil n = refl

pub take_chars-cons : (n b : ℕ) (text : List ℕ)
    → take_chars n (b ∷ text) ≡ cond (is_char_start b) (cond (eqb n 0) [] (b ∷ take_chars (n - 1) text)) (b ∷ take_chars n text)
unfolding take_chars
take_chars-cons n b text = refl

module _ (text : List ℕ) (i : ℕ) where
  -- the byte at i begins the first character that is cut off
  pub stops : i < length text → is_char_start (get_or text i 0) ≡ true → take i text ++ take_chars 0 (drop i text) ≡ take i text
  stops within starts = rw (drop-cons text i 0 within, take_chars-cons, starts) (append-nil _)

  -- or it is kept, and counts if it begins a character
  pub keeps : (n m : ℕ) (starts : Bool) → i < length text → is_char_start (get_or text i 0) ≡ starts → n ≡ cond starts 1 0 + m
      → take (i + 1) text ++ take_chars m (drop (i + 1) text) ≡ take i text ++ take_chars n (drop i text)
  keeps n m true within is count =
      let left : n - 1 ≡ m = omega arith in
      let some = ne_eqb n 0 (omega arith) in
      rw (add-one, take-suc text i 0 within, append_assoc, drop-cons text i 0 within, take_chars-cons, is, some, left)
  keeps n m false within is count =
      let left : n ≡ m = omega arith in
      rw (add-one, take-suc text i 0 within, append_assoc, drop-cons text i 0 within, take_chars-cons, is, left)
