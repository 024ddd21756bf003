-- The forms of words: plain, `--stats`, `--stats=F`, and those that say nothing.
use Rattle.std.proofs.Common.{◌≡◌, ◌∙◌, ◌⊎◌, ℕ, suc, Bool, true, false, not, cond, ◌==◌, ◌+◌, ◌&&◌, ◌||◌, [], ◌∷◌, ◌++◌, take, drop, codes, refl, ap, ap₂, sym, inl, inr, true≢false, arith}
use Rattle.std.specs.List.{before_first, position_or_len}
use Rattle.std.specs.Str.{bytes_eq}
use Rattle.std.proofs.lemmas.Bool.{eqb-true}
use Rattle.std.proofs.lemmas.List.{take-append-drop}
use Rattle.std.proofs.lemmas.Slice.Eq.{bytes_eq-Decides}
use Rattle.rx_words.specs.Words.{Word}
use Rattle.rx_words.specs.Reading.{is_usual}

pub off : (b : Bool) → not b ≡ true → b ≡ false
off true e = sym e
off false e = refl

pub both : (a b : Bool) → (a && b) ≡ true → (a ≡ true) × (b ≡ true)
both true b e = (refl, e)
both false b e = absurd (true≢false (sym e))

-- equal bytes are one text
pub same : (xs ys : Word) → bytes_eq xs ys ≡ true → xs ≡ ys
same xs ys e = (bytes_eq-Decides xs ys).0 e

pub equal : (xs ys : Word) → xs ≡ ys → bytes_eq xs ys ≡ true
equal xs ys e = (bytes_eq-Decides xs ys).1 e

pub clash : (b : Bool) → b ≡ true → b ≡ false → ⊥
clash b e f = true≢false (sym e ∙ f)

-- the word begins with no `-`
abbrev pub IsPlainWord : Word → Type 0
IsPlainWord word = (a : ℕ) × (u : Word) × (word ≡ a ∷ u) × ((a == 45) ≡ false)

-- the word is `--` and more, and not `--stats=`
abbrev pub IsLongWord : Word → Type 0
IsLongWord word = (c : ℕ) × (cs : Word) × (word ≡ 45 ∷ 45 ∷ c ∷ cs) × (bytes_eq (45 ∷ 45 ∷ c ∷ cs) (codes "--stats=") ≡ false)

abbrev pub IsEither : Word → Type 0
IsEither word = IsPlainWord word ⊎ IsLongWord word

long_or_plain : (a b c : ℕ) (cs : Word) (x y z : Bool) → (a == 45) ≡ x → (b == 45) ≡ y → bytes_eq (a ∷ b ∷ c ∷ cs) (codes "--stats=") ≡ z
    → (not x || (y && not z)) ≡ true → IsEither (a ∷ b ∷ c ∷ cs)
long_or_plain a b c cs false y z p q r e = inl (a, b ∷ c ∷ cs, refl, p)
long_or_plain a b c cs true true false p q r e =
    let is : ◌≡◌ {A = Word} (a ∷ b ∷ c ∷ cs) (45 ∷ 45 ∷ c ∷ cs) = ap₂ (λ x y. x ∷ y ∷ c ∷ cs) (eqb-true a 45 p) (eqb-true b 45 q) in
    inr (c, cs, is, sym (ap (λ w. bytes_eq w (codes "--stats=")) is) ∙ r)
long_or_plain a b c cs true true true p q r e = absurd (true≢false (sym e))
long_or_plain a b c cs true false z p q r e = absurd (true≢false (sym e))

-- a usual word has one of the two forms
pub usual_form : (word : Word) → is_usual word ≡ true → IsEither word
usual_form [] e = absurd (true≢false (sym e))
usual_form (a ∷ []) e = inl (a, [], refl, off (a == 45) e)
usual_form (a ∷ b ∷ []) e = inl (a, b ∷ [], refl, off (a == 45) e)
usual_form (a ∷ b ∷ c ∷ cs) e = long_or_plain a b c cs _ _ _ refl refl refl e

-- what begins with `--stats=` is that and the rest
pub begins_so : (word : Word) → bytes_eq (take 8 word) (codes "--stats=") ≡ true → word ≡ codes "--stats=" ++ drop 8 word
begins_so word e = sym (take-append-drop 8 word) ∙ ap (λ t. t ++ drop 8 word) (same (take 8 word) (codes "--stats=") e)

abbrev pub is_equals : ℕ → Bool
is_equals x = x == 61

-- a text is what stands before its first `=`, alone or with `=` and more behind it
abbrev pub IsCut : Word → Type 0
IsCut t = (t ≡ before_first is_equals t) ⊎ ((f : Word) × (t ≡ before_first is_equals t ++ (61 ∷ f)))

one_more : (n : ℕ) (c : ℕ) (cs : Word) → take (1 + n) (c ∷ cs) ≡ c ∷ take n cs
one_more n c cs = let e : 1 + n ≡ suc n = omega arith in rw e refl

before_more : (c : ℕ) (cs : Word) → (c == 61) ≡ false → before_first is_equals (c ∷ cs) ≡ c ∷ before_first is_equals cs
before_more c cs e = ap (λ b. take (cond (not b) (1 + position_or_len is_equals cs) 0) (c ∷ cs)) e ∙ one_more (position_or_len is_equals cs) c cs

before_none : (c : ℕ) (cs : Word) → (c == 61) ≡ true → before_first is_equals (c ∷ cs) ≡ []
before_none c cs e = ap (λ b. take (cond (not b) (1 + position_or_len is_equals cs) 0) (c ∷ cs)) e

pub cut : (t : Word) → IsCut t
cut [] = inl refl
cut (c ∷ cs) = go (c == 61) refl (cut cs)
  where
    go : (b : Bool) → (c == 61) ≡ b → IsCut cs → IsCut (c ∷ cs)
    go true e h = inr (cs, ap (λ x. x ∷ cs) (eqb-true c 61 e) ∙ sym (ap (λ t. t ++ (61 ∷ cs)) (before_none c cs e)))
    go false e h = elim h [
      | inl whole ↦ inl (ap (λ t. c ∷ t) whole ∙ sym (before_more c cs e))
      | inr part ↦ inr (part.0, ap (λ t. c ∷ t) part.1 ∙ sym (ap (λ t. t ++ (61 ∷ part.0)) (before_more c cs e)))
    ]

-- of a word that is neither `--stats` nor begins with `--stats=` the name isn't `stats`
pub other_name : (c : ℕ) (cs : Word) → bytes_eq (45 ∷ 45 ∷ c ∷ cs) (codes "--stats") ≡ false
    → bytes_eq (take 8 (45 ∷ 45 ∷ c ∷ cs)) (codes "--stats=") ≡ false → bytes_eq (codes "stats") (before_first is_equals (c ∷ cs)) ≡ false
other_name c cs whole part = go (bytes_eq (codes "stats") (before_first is_equals (c ∷ cs))) refl
  where
    go : (b : Bool) → bytes_eq (codes "stats") (before_first is_equals (c ∷ cs)) ≡ b → b ≡ false
    go false e = refl
    go true e =
        let name = same (codes "stats") (before_first is_equals (c ∷ cs)) e in
        elim (cut (c ∷ cs)) [
          | inl is ↦ absurd (clash _ (ap (λ t. bytes_eq (45 ∷ 45 ∷ t) (codes "--stats")) (is ∙ sym name)) whole)
          | inr f ↦ absurd (clash _ (ap (λ t. bytes_eq (take 8 (45 ∷ 45 ∷ t)) (codes "--stats=")) (f.1 ∙ ap (λ t. t ++ (61 ∷ f.0)) (sym name))) part)
        ]
