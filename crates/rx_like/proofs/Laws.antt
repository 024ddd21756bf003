-- What the literal prefix of a pattern says of the texts that match it.
use Rattle.std.proofs.Common.{◌≡◌, ℕ, true, List, [], ◌∷◌, ◌++◌, refl, ap, sym, ◌∙◌, arith}
use Rattle.std.specs.Prelude.{encode_utf8_all}
use Rattle.std.specs.Str.{chars, is_utf8, all_scalars}
use Rattle.std.proofs.lemmas.Str.{IsUtf8-from_is_utf8, is_utf8-from_IsUtf8, encodes-chars, encodes-append, chars-encodes, scalars-chars}
use Rattle.rx_like.specs.declared.tokens.Token.{Token}
use Rattle.rx_like.specs.declared.tokens.Token.TheVariants.{AnyRun, AnyChar, Char}
use Rattle.rx_like.specs.Pattern.{tokens, tokens_of, escaped, literal_front, has_no_wildcard, literal_prefix, is_plain}
use Rattle.rx_like.specs.Walk.{matches, is_like}

-- characters that match begin with those before the first wildcard
front_begins : (ts : List Token) (cs : List ℕ) → matches ts cs ≡ true → (rest : List ℕ) × (cs ≡ literal_front ts ++ rest)
front_begins [] cs found = (cs, refl)
front_begins (AnyRun ∷ ts) cs found = (cs, refl)
front_begins (AnyChar ∷ ts) cs found = (cs, refl)
front_begins (Char c ∷ ts) [] found = grind arith
front_begins (Char c ∷ ts) (d ∷ cs) found =
    let later : matches ts cs ≡ true = grind arith in
    let same : d ≡ c = grind arith in
    let (rest, whole) = front_begins ts cs later in
    (rest, rw same (ap (λ r. c ∷ r) whole))

-- without a wildcard they are these
front_is : (ts : List Token) (cs : List ℕ) → has_no_wildcard ts ≡ true → matches ts cs ≡ true → cs ≡ literal_front ts
front_is [] [] plain found = refl
front_is [] (c ∷ cs) plain found = grind arith
front_is (AnyRun ∷ ts) cs plain found = grind arith
front_is (AnyChar ∷ ts) cs plain found = grind arith
front_is (Char c ∷ ts) [] plain found = grind arith
front_is (Char c ∷ ts) (d ∷ cs) plain found =
    let later : matches ts cs ≡ true = grind arith in
    let same : d ≡ c = grind arith in
    rw same (ap (λ r. c ∷ r) (front_is ts cs plain later))

-- the bytes of a text that matches, by its characters
text_of : (pattern text : List ℕ) → is_like pattern text ≡ true → encode_utf8_all (chars text) ≡ text
text_of pattern text like = let t : is_utf8 text ≡ true = grind arith in encodes-chars text (IsUtf8-from_is_utf8 text t)

-- A text that matches begins with the pattern's literal prefix.
pub prefix_begins : (pattern text : List ℕ) → is_like pattern text ≡ true → (rest : List ℕ) × (text ≡ literal_prefix pattern ++ rest)
prefix_begins pattern text like =
    let p : is_utf8 pattern ≡ true = grind arith in
    let found : matches (tokens pattern) (chars text) ≡ true = grind arith in
    let (rest, whole) = front_begins (tokens pattern) (chars text) found in
    (encode_utf8_all rest, rw p (sym (text_of pattern text like) ∙ (ap encode_utf8_all whole ∙ encodes-append (literal_front (tokens pattern)) rest)))

-- A text that matches a pattern without a wildcard is its literal prefix.
pub plain_is : (pattern text : List ℕ) → is_plain pattern ≡ true → is_like pattern text ≡ true → text ≡ literal_prefix pattern
plain_is pattern text plain like =
    let p : is_utf8 pattern ≡ true = grind arith in
    let none : has_no_wildcard (tokens pattern) ≡ true = grind arith in
    let found : matches (tokens pattern) (chars text) ≡ true = grind arith in
    rw p (sym (text_of pattern text like) ∙ ap encode_utf8_all (front_is (tokens pattern) (chars text) none found))

-- without a wildcard those characters match
front_has : (ts : List Token) → has_no_wildcard ts ≡ true → matches ts (literal_front ts) ≡ true
front_has [] plain = refl
front_has (AnyRun ∷ ts) plain = grind arith
front_has (AnyChar ∷ ts) plain = grind arith
front_has (Char c ∷ ts) plain = let later : matches ts (literal_front ts) ≡ true = front_has ts plain in grind arith

-- they are characters, as those of the pattern are
mutual
  front_scalars : (cs : List ℕ) → all_scalars cs ≡ true → all_scalars (literal_front (tokens_of cs)) ≡ true
  front_scalars [] fit = refl
  front_scalars (c ∷ cs) fit = grind (arith, front_scalars cs, escaped_scalars cs)

  escaped_scalars : (cs : List ℕ) → all_scalars cs ≡ true → all_scalars (literal_front (escaped cs)) ≡ true
  escaped_scalars [] fit = refl
  escaped_scalars (c ∷ cs) fit = grind (arith, front_scalars cs)

-- A pattern without a wildcard matches its literal prefix.
pub plain_has : (pattern : List ℕ) → is_plain pattern ≡ true → is_like pattern (literal_prefix pattern) ≡ true
plain_has pattern plain =
    let p : is_utf8 pattern ≡ true = grind arith in
    let none : has_no_wildcard (tokens pattern) ≡ true = grind arith in
    let front : List ℕ = literal_front (tokens pattern) in
    let fit : all_scalars front ≡ true = front_scalars (chars pattern) (scalars-chars pattern (IsUtf8-from_is_utf8 pattern p)) in
    let text : is_utf8 (encode_utf8_all front) ≡ true = is_utf8-from_IsUtf8 (encode_utf8_all front) (front, (fit, refl)) in
    let found : matches (tokens pattern) (chars (encode_utf8_all front)) ≡ true = rw (chars-encodes front fit) (front_has (tokens pattern) none) in
    rw p (rw text found)
