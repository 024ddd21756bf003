-- The order of texts by their bytes is kept where both are cut to as many characters.
use Rattle.std.proofs.Common.{◌≡◌, ℕ, zero, suc, ◌+◌, ◌-◌, ◌/◌, ◌%◌, ◌<◌, ◌≤◌, Bool, true, false, cond, ltb, List, [], ◌∷◌, ◌++◌, length, refl, ap, ap₂, sym, ◌∙◌, subst, arith, append_assoc, append-nil, eqb, ne_eqb}
use Rattle.std.specs.Prelude.{encode_utf8_all}
use lib.Utf8.{encode, next}
use Rattle.std.specs.Fmt.{take_chars, is_char_start}
use Rattle.std.specs.declared.cmp.Ordering.{Ordering}
use Rattle.std.specs.declared.cmp.Ordering.TheVariants.{Less, Equal, Greater}
use Rattle.std.specs.Ordering.{ordering_then, nat_cmp, is_eq, is_le, is_ge, MatchOrdering}
use Rattle.std.specs.Cmp.Lexicographic.{slice_cmp}
use Rattle.std.proofs.lemmas.Cmp.{nat_cmp_total, tied_itself, ranked}
use Rattle.std.proofs.lemmas.Bool.Decides.{nat_tests}
use Rattle.std.proofs.lemmas.Str.{encode_same}
use Rattle.rx_value.proofs.Prefixes.{take_chars-nil, take_chars-cons}

-- the order of bytes
abbrev pub bytes : List ℕ → List ℕ → Ordering
bytes = slice_cmp nat_cmp

-- the second answer is the first, or both are equal in what is left
abbrev pub keeps : Ordering → Ordering → Bool
keeps Less p = is_le p
keeps Equal p = is_eq p
keeps Greater p = is_ge p

pub keeps_same : (o : Ordering) → keeps o o ≡ true
keeps_same Less = refl
keeps_same Equal = refl
keeps_same Greater = refl

keeps_equal : (o : Ordering) → keeps o Equal ≡ true
keeps_equal Less = refl
keeps_equal Equal = refl
keeps_equal Greater = refl

-- none of these bytes begins a character
abbrev Continue : List ℕ → Type 0
Continue [] = Unit {0}
Continue (b ∷ bs) = (is_char_start b ≡ false) × Continue bs

-- the bytes of a character: one that begins it, and others
record IsSpelling (bs : List ℕ) : Type 0 where
  first : ℕ
  rest : List ℕ
  all : bs ≡ first ∷ rest
  begins : is_char_start first ≡ true
  goes_on : Continue rest

low_begins : (c : ℕ) → ltb c 128 ≡ true → is_char_start c ≡ true
low_begins c e = grind (arith, nat_tests)

lead_begins : (b : ℕ) → 192 ≤ b → is_char_start b ≡ true
lead_begins b e = grind (arith, nat_tests)

next_continues : (bits : ℕ) → is_char_start (next bits) ≡ false
next_continues bits = let h : bits % 64 < 64 = omega arith in grind (arith, nat_tests)

spelled : (b : ℕ) (more : List ℕ) → is_char_start b ≡ true → Continue more → IsSpelling (b ∷ more)
spelled b more e h = record { first = b; rest = more; all = refl; begins = e; goes_on = h }

one_of : (x : Bool) (a b : List ℕ) → (x ≡ true → IsSpelling a) → IsSpelling b → IsSpelling (cond x a b)
one_of true a b f g = f refl
one_of false a b f g = g

spelling : (c : ℕ) → IsSpelling (encode c)
unfolding encode
spelling c =
    one_of (ltb c 128) _ _ (λ e. spelled c [] (low_begins c e) tt)
    (one_of (ltb c 2048) _ _ (λ _. spelled (192 + c / 64) (next c ∷ []) (lead_begins (192 + c / 64) (omega arith)) (next_continues c, tt))
    (one_of (ltb c 65536) _ _
    (λ _. spelled (224 + c / 4096) (next (c / 64) ∷ next c ∷ []) (lead_begins (224 + c / 4096) (omega arith)) (next_continues (c / 64), (next_continues c, tt)))
    (spelled (240 + c / 262144) (next (c / 4096) ∷ next (c / 64) ∷ next c ∷ []) (lead_begins (240 + c / 262144) (omega arith))
    (next_continues (c / 4096), (next_continues (c / 64), (next_continues c, tt))))))

take_over : (m : ℕ) (bs more : List ℕ) → Continue bs → take_chars m (bs ++ more) ≡ bs ++ take_chars m more
take_over m [] more h = refl
take_over m (b ∷ bs) more h =
    take_chars-cons m b (bs ++ more) ∙ ap (λ t. cond t (cond (eqb m 0) [] (b ∷ take_chars (m - 1) (bs ++ more))) (b ∷ take_chars m (bs ++ more))) h.0
    ∙ ap (λ r. b ∷ r) (take_over m bs more h.1)

take_none_by : (bs more : List ℕ) → IsSpelling bs → take_chars 0 (bs ++ more) ≡ []
take_none_by bs more s =
    ap (λ x. take_chars 0 (x ++ more)) s.all ∙ take_chars-cons 0 s.first (s.rest ++ more)
    ∙ ap (λ t. cond t [] (s.first ∷ take_chars 0 (s.rest ++ more))) s.begins

take_one_by : (m : ℕ) (bs more : List ℕ) → IsSpelling bs → take_chars (suc m) (bs ++ more) ≡ bs ++ take_chars m more
take_one_by m bs more s =
    let left : suc m - 1 ≡ m = omega arith in
    let some : eqb (suc m) 0 ≡ false = ne_eqb (suc m) 0 (λ e. absurd (omega arith)) in
    ap (λ x. take_chars (suc m) (x ++ more)) s.all ∙ take_chars-cons (suc m) s.first (s.rest ++ more)
    ∙ ap (λ t. cond t (cond (eqb (suc m) 0) [] (s.first ∷ take_chars (suc m - 1) (s.rest ++ more))) (s.first ∷ take_chars (suc m) (s.rest ++ more))) s.begins
    ∙ ap₂ (λ t k. cond t [] (s.first ∷ take_chars k (s.rest ++ more))) some left
    ∙ ap (λ r. s.first ∷ r) (take_over m s.rest more s.goes_on)
    ∙ ap (λ x. x ++ take_chars m more) (sym s.all)

-- no characters of a text
pub take_none : (cs : List ℕ) → take_chars 0 (encode_utf8_all cs) ≡ []
take_none [] = take_chars-nil 0
take_none (c ∷ cs) = take_none_by (encode c) (encode_utf8_all cs) (spelling c)

-- one more character
pub take_one : (m c : ℕ) (more : List ℕ) → take_chars (suc m) (encode c ++ more) ≡ encode c ++ take_chars m more
take_one m c more = take_one_by m (encode c) more (spelling c)

nat_same : (b : ℕ) → nat_cmp b b ≡ Equal
nat_same b = tied_itself nat_cmp_total b

-- what texts have in common at their front doesn't tell them apart
pub common_front : (front x y : List ℕ) → bytes (front ++ x) (front ++ y) ≡ bytes x y
common_front [] x y = refl
common_front (b ∷ front) x y = ap (λ o. ordering_then o (bytes (front ++ x) (front ++ y))) (nat_same b) ∙ common_front front x y

-- one begins with the other, or what follows doesn't matter
data Apart (a b : List ℕ) : Type 0 where
  longer : (rest : List ℕ) → a ≡ b ++ rest → Apart a b
  shorter : (rest : List ℕ) → b ≡ a ++ rest → Apart a b
  apart : ((x y : List ℕ) → bytes (a ++ x) (b ++ y) ≡ bytes a b) → Apart a b

decided : (o p q : Ordering) → (o ≡ Equal → ⊥) → ordering_then o p ≡ ordering_then o q
decided Less p q h = refl
decided Equal p q h = absurd (h refl)
decided Greater p q h = refl

same_first : (x y : ℕ) (a b : List ℕ) → x ≡ y → Apart a b → Apart (x ∷ a) (y ∷ b)
same_first x y a b e (longer rest is) = longer rest (ap₂ (λ z zs. z ∷ zs) e is)
same_first x y a b e (shorter rest is) = shorter rest (ap₂ (λ z zs. z ∷ zs) (sym e) is)
same_first x y a b e (apart f) = apart (λ p q. ap (ordering_then (nat_cmp x y)) (f p q))

first_apart : (x y : ℕ) (a b : List ℕ) (o : Ordering) → nat_cmp x y ≡ o → MatchOrdering o (x < y) (x ≡ y) (y < x) → Apart a b → Apart (x ∷ a) (y ∷ b)
first_apart x y a b Less e m h = apart (λ p q. decided (nat_cmp x y) (bytes (a ++ p) (b ++ q)) (bytes a b) (λ f. absurd (cc (e, f))))
first_apart x y a b Equal e m h = same_first x y a b m h
first_apart x y a b Greater e m h = apart (λ p q. decided (nat_cmp x y) (bytes (a ++ p) (b ++ q)) (bytes a b) (λ f. absurd (cc (e, f))))

how_apart : (a b : List ℕ) → Apart a b
how_apart [] b = shorter b refl
how_apart (x ∷ a) [] = longer (x ∷ a) refl
how_apart (x ∷ a) (y ∷ b) = first_apart x y a b (nat_cmp x y) refl (ranked x y (nat_cmp x y) refl) (how_apart a b)

-- the texts of characters, and what they are cut to
abbrev pub Kept : ℕ → List ℕ → List ℕ → Type 0
Kept n s t = keeps (bytes s t) (bytes (take_chars n s) (take_chars n t)) ≡ true

nothing_first : (bs x y : List ℕ) → IsSpelling bs → keeps (bytes [] (bs ++ x)) (bytes [] (bs ++ y)) ≡ true
nothing_first bs x y s = subst (λ r. keeps (bytes [] (r ++ x)) (bytes [] (r ++ y)) ≡ true) (sym s.all) refl

nothing_second : (bs x y : List ℕ) → IsSpelling bs → keeps (bytes (bs ++ x) []) (bytes (bs ++ y) []) ≡ true
nothing_second bs x y s = subst (λ r. keeps (bytes (r ++ x) []) (bytes (r ++ y) []) ≡ true) (sym s.all) refl

same_front_kept : (n : ℕ) (c : ℕ) (x y : List ℕ) → Kept n x y → Kept (suc n) (encode c ++ x) (encode c ++ y)
same_front_kept n c x y h =
    rw (take_one n c x, take_one n c y, common_front (encode c) x y, common_front (encode c) (take_chars n x) (take_chars n y)) h

same_character : (c d : ℕ) (n : ℕ) (x y : List ℕ) → c ≡ d → Kept n x y → Kept (suc n) (encode c ++ x) (encode d ++ y)
same_character c d n x y e h = subst (λ z. Kept (suc n) (encode c ++ x) (encode z ++ y)) e (same_front_kept n c x y h)

front_kept : (c d n : ℕ) (x y : List ℕ) → Apart (encode c) (encode d) → Kept n x y → Kept (suc n) (encode c ++ x) (encode d ++ y)
front_kept c d n x y (longer rest is) h = same_character c d n x y (encode_same c d [] rest (append-nil (encode c) ∙ is)).0 h
front_kept c d n x y (shorter rest is) h = same_character c d n x y (sym (encode_same d c [] rest (append-nil (encode d) ∙ is)).0) h
front_kept c d n x y (apart f) h =
    rw (take_one n c x, take_one n d y, f x y, f (take_chars n x) (take_chars n y)) (keeps_same (bytes (encode c) (encode d)))

pub texts_kept : (n : ℕ) (cs ds : List ℕ) → Kept n (encode_utf8_all cs) (encode_utf8_all ds)
texts_kept zero cs ds = rw (take_none cs, take_none ds) (keeps_equal (bytes (encode_utf8_all cs) (encode_utf8_all ds)))
texts_kept (suc n) [] [] = rw (take_chars-nil (suc n)) refl
texts_kept (suc n) [] (d ∷ ds) = rw (take_chars-nil (suc n), take_one n d (encode_utf8_all ds)) (nothing_first (encode d) (encode_utf8_all ds) (take_chars n (encode_utf8_all ds)) (spelling d))
texts_kept (suc n) (c ∷ cs) [] = rw (take_chars-nil (suc n), take_one n c (encode_utf8_all cs)) (nothing_second (encode c) (encode_utf8_all cs) (take_chars n (encode_utf8_all cs)) (spelling c))
texts_kept (suc n) (c ∷ cs) (d ∷ ds) = front_kept c d n (encode_utf8_all cs) (encode_utf8_all ds) (how_apart (encode c) (encode d)) (texts_kept n cs ds)

-- a text cut to no more characters than its front has is the front cut
pub cut_front : (n : ℕ) (front rest : List ℕ) → n ≤ length front → take_chars n (encode_utf8_all (front ++ rest)) ≡ take_chars n (encode_utf8_all front)
cut_front zero front rest h = take_none (front ++ rest) ∙ sym (take_none front)
cut_front (suc n) [] rest h = absurd (omega arith)
cut_front (suc n) (c ∷ front) rest h =
    take_one n c (encode_utf8_all (front ++ rest)) ∙ ap (λ r. encode c ++ r) (cut_front n front rest (omega arith)) ∙ sym (take_one n c (encode_utf8_all front))

-- a text cut to at least as many characters as its front has begins with the front
pub front_left : (n : ℕ) (front more : List ℕ) → length front ≤ n → (rest : List ℕ) × (take_chars n (encode_utf8_all front ++ more) ≡ encode_utf8_all front ++ rest)
front_left n [] more h = (take_chars n more, refl)
front_left zero (c ∷ front) more h = absurd (omega arith)
front_left (suc n) (c ∷ front) more h =
    let (rest, is) = front_left n front more (omega arith) in (
      rest,
      ap (take_chars (suc n)) (append_assoc (encode c) (encode_utf8_all front) more) ∙ take_one n c (encode_utf8_all front ++ more)
          ∙ ap (λ r. encode c ++ r) is ∙ sym (append_assoc (encode c) (encode_utf8_all front) rest),
    )

-- a text of at most so many characters is all left
pub take_all : (n : ℕ) (cs : List ℕ) → length cs ≤ n → take_chars n (encode_utf8_all cs) ≡ encode_utf8_all cs
take_all n [] h = take_chars-nil n
take_all zero (c ∷ cs) h = absurd (omega arith)
take_all (suc n) (c ∷ cs) h = take_one n c (encode_utf8_all cs) ∙ ap (λ r. encode c ++ r) (take_all n cs (omega arith))
