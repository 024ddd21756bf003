-- The first characters of a text are a text of no more characters.
use Rattle.std.proofs.Common.{◌≡◌, ℕ, zero, suc, ◌+◌, ◌-◌, ◌/◌, ◌%◌, ◌≤◌, Bool, true, false, cond, List, [], ◌∷◌, ◌++◌, length, take, IsUtf8, refl, sym, ap, ◌∙◌, arith}
use Rattle.std.proofs.lemmas.Bool.{and_parts}
use Rattle.std.proofs.lemmas.Str.{encodes-chars, scalars-chars, chars-encodes}
use lib.Utf8.{scalar, scalars, encode, encodes}
use lib.Dec.{eqb, ltb}
use borrow.Author.Tests.{ne_eqb}
use Rattle.std.specs.Str.{chars}
use Rattle.std.specs.Fmt.{take_chars, is_char_start}
use Rattle.rx_value.proofs.Prefixes.{take_chars-nil, take_chars-cons}

starts_low : (b : ℕ) → ltb b 128 ≡ true → is_char_start b ≡ true
starts_low b low = rw low refl

starts_high : (b : ℕ) → 192 ≤ b → is_char_start b ≡ true
starts_high b high = grind (arith, high)

goes_on : (x : ℕ) → is_char_start (128 + x % 64) ≡ false
goes_on x = grind arith

-- a byte that begins a character, and one that goes on with it
begins : (n b : ℕ) (text : List ℕ) → is_char_start b ≡ true → take_chars n (b ∷ text) ≡ cond (eqb n 0) [] (b ∷ take_chars (n - 1) text)
begins n b text starts = rw (take_chars-cons n b text, starts) refl

continues : (n x : ℕ) (text : List ℕ) → take_chars n ((128 + x % 64) ∷ text) ≡ (128 + x % 64) ∷ take_chars n text
continues n x text = rw (take_chars-cons n (128 + x % 64) text, goes_on x) refl

-- a character stays whole, and counts as one
one : (n c : ℕ) (rest : List ℕ) → take_chars n (encode c ++ rest) ≡ cond (eqb n 0) [] (encode c ++ take_chars (n - 1) rest)
unfolding encode
one n c rest = by (ltb c 128) (ltb c 2048) (ltb c 65536) refl
  where
    by : (a b d : Bool) → ltb c 128 ≡ a
        → take_chars n (cond a (c ∷ []) (cond b ((192 + c / 64) ∷ (128 + c % 64) ∷ []) (cond d ((224 + c / 4096) ∷ (128 + c / 64 % 64) ∷ (128 + c % 64) ∷ []) ((240 + c / 262144) ∷ (128 + c / 4096 % 64) ∷ (128 + c / 64 % 64) ∷ (128 + c % 64) ∷ []))) ++ rest)
        ≡ cond (eqb n 0) [] (cond a (c ∷ []) (cond b ((192 + c / 64) ∷ (128 + c % 64) ∷ []) (cond d ((224 + c / 4096) ∷ (128 + c / 64 % 64) ∷ (128 + c % 64) ∷ []) ((240 + c / 262144) ∷ (128 + c / 4096 % 64) ∷ (128 + c / 64 % 64) ∷ (128 + c % 64) ∷ []))) ++ take_chars (n - 1) rest)
    by true b d low = begins n c rest (starts_low c low)
    by false true d low = rw (begins n (192 + c / 64) _ (starts_high (192 + c / 64) (omega arith)), continues) refl
    by false false true low = rw (begins n (224 + c / 4096) _ (starts_high (224 + c / 4096) (omega arith)), continues, continues) refl
    by false false false low = rw (begins n (240 + c / 262144) _ (starts_high (240 + c / 262144) (omega arith)), continues, continues, continues) refl

cut_encodes : (n : ℕ) (cs : List ℕ) → take_chars n (encodes cs) ≡ encodes (take n cs)
cut_encodes zero [] = take_chars-nil 0
cut_encodes (suc n) [] = take_chars-nil (suc n)
cut_encodes zero (c ∷ cs) = one 0 c (encodes cs)
cut_encodes (suc n) (c ∷ cs) =
    let less : suc n - 1 ≡ n = omega arith in
    let some = ne_eqb (suc n) 0 (omega arith) in
    one (suc n) c (encodes cs) ∙ rw (some, less) (ap (λ l. encode c ++ l) (cut_encodes n cs))

scalars-take : (n : ℕ) (cs : List ℕ) → scalars cs ≡ true → scalars (take n cs) ≡ true
scalars-take zero cs h = refl
scalars-take (suc n) [] h = refl
scalars-take (suc n) (c ∷ cs) h = let p = and_parts (scalar c) (scalars cs) h in rw p.0 (scalars-take n cs p.1)

shorter : (n : ℕ) (cs : List ℕ) → (length (take n cs) ≤ n) × (length (take n cs) ≤ length cs)
shorter zero cs = (omega arith, omega arith)
shorter (suc n) [] = (omega arith, omega arith)
shorter (suc n) (c ∷ cs) = let p = shorter n cs in (omega (arith, p.0), omega (arith, p.1))

module _ (n : ℕ) (text : List ℕ) (u : IsUtf8 text) where
  cut_is : take_chars n text ≡ encodes (take n (chars text))
  cut_is = ap (take_chars n) (sym (encodes-chars text u)) ∙ cut_encodes n (chars text)

  left : scalars (take n (chars text)) ≡ true
  left = scalars-take n (chars text) (scalars-chars text u)

  pub IsUtf8-cut : IsUtf8 (take_chars n text)
  IsUtf8-cut = (take n (chars text), (left, sym cut_is))

  chars-cut : chars (take_chars n text) ≡ take n (chars text)
  chars-cut = ap chars cut_is ∙ chars-encodes (take n (chars text)) left

  pub no_more : length (chars (take_chars n text)) ≤ n
  no_more = omega (arith, ap length chars-cut, (shorter n (chars text)).0)

  pub no_longer : length (chars (take_chars n text)) ≤ length (chars text)
  no_longer = omega (arith, ap length chars-cut, (shorter n (chars text)).1)
