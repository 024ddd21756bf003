-- What one token is, and what it then is not.
use Rattle.std.proofs.Common.{◌≡◌, ◌⊎◌, ℕ, Bool, true, false, cond, ◌==◌, ◌&&◌, List, [], ◌∷◌, Some, None, refl, ap, ◌∙◌, inl, inr, ⊎_elim}
use Rattle.std.specs.Option.{option_and_then}
use Rattle.std.specs.Str.{str_eq_ignore_ascii_case, bytes_eq, str_to_ascii_lowercase}
use Rattle.std.proofs.lemmas.Bool.{eqb-true}
use Rattle.std.proofs.lemmas.Option.{cond_some}
use Rattle.std.proofs.lemmas.Slice.Eq.{bytes_eq-Decides}
use Rattle.rx_token.specs.declared.kinds.Token.{Token}
use Rattle.rx_token.specs.declared.kinds.TokenKind.{TokenKind}
use Rattle.rx_token.specs.declared.kinds.TokenKind.TheVariants as k
use Rattle.rx_token.specs.declared.signs.TheConstants.{OPEN, CLOSE, COMMA}
use Rattle.rx_token.specs.Reserved.{is_word_kind, is_word_of}
use Rattle.rx_reading.specs.Reading.{is_sign_kind, is_text_kind, after_word, after_sign, word_at, text_at, number_in, number_at}
use Rattle.rx_reading.specs.Forms.{Word, AnyWord, Number, Sign, Text}
use Rattle.rx_reading.proofs.Each.{Shrinks, one_shrinks}
use Rattle.rx_reading.proofs.Steps.{stepped, then_gives, same_value}

-- how many tokens the forms take
pub word_shrinks : (w : List ℕ) → Shrinks (Word w)
word_shrinks w = one_shrinks (λ t. is_word_of w t ≡ true)

pub any_word_shrinks : (w : List ℕ) → Shrinks (AnyWord w)
any_word_shrinks w = one_shrinks (λ t. (is_word_kind t.kind ≡ true) × (t.text ≡ w))

pub text_shrinks : (text : List ℕ) → Shrinks (Text text)
text_shrinks text = one_shrinks (λ t. (is_text_kind t.kind ≡ true) × (t.text ≡ text))

pub number_shrinks : (n : ℕ) → Shrinks (Number n)
number_shrinks n = one_shrinks (λ t. number_in t.kind ≡ Some n)

pub sign_shrinks : (n : ℕ) → Shrinks (Sign n)
sign_shrinks n = one_shrinks (λ t. is_sign_kind n t.kind ≡ true)

-- words that are one without case
same_word : (x v w : List ℕ) → str_eq_ignore_ascii_case x v ≡ true → str_eq_ignore_ascii_case x w ≡ str_eq_ignore_ascii_case v w
same_word x v w e = ap (λ (y : List ℕ). bytes_eq y (str_to_ascii_lowercase w)) ((bytes_eq-Decides (str_to_ascii_lowercase x) (str_to_ascii_lowercase v)).0 e)

both_parts : (a b : Bool) → (a && b) ≡ true → (a ≡ true) × (b ≡ true)
both_parts true b e = (refl, e)
both_parts false b e = absurd cc

and_false : (a b : Bool) → b ≡ false → (a && b) ≡ false
and_false true b e = e
and_false false b e = refl

-- a token that is a word is no other
pub other_word : (v w : List ℕ) (t : Token) → str_eq_ignore_ascii_case v w ≡ false → is_word_of v t ≡ true → is_word_of w t ≡ false
unfolding is_word_of
other_word v w t d h =
    let parts = both_parts (is_word_kind t.kind) (str_eq_ignore_ascii_case t.text v) h in
    and_false (is_word_kind t.kind) (str_eq_ignore_ascii_case t.text w) (same_word t.text v w parts.1 ∙ d)

no_kind : (w : List ℕ) (t : Token) → is_word_kind t.kind ≡ false → is_word_of w t ≡ false
unfolding is_word_of
no_kind w t e = rw e refl

word_kind : (w : List ℕ) (t : Token) → is_word_of w t ≡ true → is_word_kind t.kind ≡ true
unfolding is_word_of
word_kind w t e = (both_parts (is_word_kind t.kind) (str_eq_ignore_ascii_case t.text w) e).0

word_signless : (n : ℕ) (kind : TokenKind) → is_word_kind kind ≡ true → is_sign_kind n kind ≡ false
word_signless n k.Word e = refl
word_signless n k.Quoted e = absurd cc
word_signless n (k.Number m) e = absurd cc
word_signless n k.Str e = absurd cc
word_signless n (k.Sign m) e = absurd cc

word_textless : (kind : TokenKind) → is_word_kind kind ≡ true → is_text_kind kind ≡ false
word_textless k.Word e = refl
word_textless k.Quoted e = absurd cc
word_textless (k.Number m) e = absurd cc
word_textless k.Str e = absurd cc
word_textless (k.Sign m) e = absurd cc

sign_wordless : (n : ℕ) (kind : TokenKind) → is_sign_kind n kind ≡ true → is_word_kind kind ≡ false
sign_wordless n k.Word e = absurd cc
sign_wordless n k.Quoted e = absurd cc
sign_wordless n (k.Number m) e = absurd cc
sign_wordless n k.Str e = absurd cc
sign_wordless n (k.Sign m) e = refl

sign_textless : (n : ℕ) (kind : TokenKind) → is_sign_kind n kind ≡ true → is_text_kind kind ≡ false
sign_textless n k.Word e = absurd cc
sign_textless n k.Quoted e = absurd cc
sign_textless n (k.Number m) e = absurd cc
sign_textless n k.Str e = absurd cc
sign_textless n (k.Sign m) e = refl

sign_numberless : (n : ℕ) (kind : TokenKind) → is_sign_kind n kind ≡ true → number_in kind ≡ None
sign_numberless n k.Word e = absurd cc
sign_numberless n k.Quoted e = absurd cc
sign_numberless n (k.Number m) e = absurd cc
sign_numberless n k.Str e = absurd cc
sign_numberless n (k.Sign m) e = refl

other_sign : (n m : ℕ) → (n == m) ≡ false → (kind : TokenKind) → is_sign_kind n kind ≡ true → is_sign_kind m kind ≡ false
other_sign n m d k.Word e = absurd cc
other_sign n m d k.Quoted e = absurd cc
other_sign n m d (k.Number i) e = absurd cc
other_sign n m d k.Str e = absurd cc
other_sign n m d (k.Sign i) e = ap (λ (j : ℕ). j == m) (eqb-true i n e) ∙ d

number_wordless : (n : ℕ) (kind : TokenKind) → number_in kind ≡ Some n → is_word_kind kind ≡ false
number_wordless n k.Word e = absurd cc
number_wordless n k.Quoted e = absurd cc
number_wordless n (k.Number m) e = refl
number_wordless n k.Str e = absurd cc
number_wordless n (k.Sign m) e = absurd cc

number_textless : (n : ℕ) (kind : TokenKind) → number_in kind ≡ Some n → is_text_kind kind ≡ false
number_textless n k.Word e = absurd cc
number_textless n k.Quoted e = absurd cc
number_textless n (k.Number m) e = refl
number_textless n k.Str e = absurd cc
number_textless n (k.Sign m) e = absurd cc

text_numberless : (kind : TokenKind) → is_text_kind kind ≡ true → number_in kind ≡ None
text_numberless k.Word e = absurd cc
text_numberless k.Quoted e = absurd cc
text_numberless (k.Number m) e = absurd cc
text_numberless k.Str e = refl
text_numberless (k.Sign m) e = absurd cc

-- what a token is not is not read
pub no_word_here : (w : List ℕ) (t : Token) (ts : List Token) → is_word_of w t ≡ false → after_word w (t ∷ ts) ≡ None
no_word_here w t ts e = ap (λ (b : Bool). cond b (Some ts) None) e

no_sign_here : (n : ℕ) (t : Token) (ts : List Token) → is_sign_kind n t.kind ≡ false → after_sign n (t ∷ ts) ≡ None
no_sign_here n t ts e = ap (λ (b : Bool). cond b (Some ts) None) e

no_any_word : (t : Token) (ts : List Token) → is_word_kind t.kind ≡ false → word_at (t ∷ ts) ≡ None
no_any_word t ts e = ap (λ (b : Bool). cond b (Some (t.text, ts)) None) e

no_text_here : (t : Token) (ts : List Token) → is_text_kind t.kind ≡ false → text_at (t ∷ ts) ≡ None
no_text_here t ts e = ap (λ (b : Bool). cond b (Some (t.text, ts)) None) e

pub no_number_here : (t : Token) (ts : List Token) → number_in t.kind ≡ None → number_at (t ∷ ts) ≡ None
no_number_here t ts e = ap (option_and_then (λ (n : ℕ). Some (n, ts))) e

-- the same of spelled forms
pub word_no_word : (v w : List ℕ) → str_eq_ignore_ascii_case v w ≡ false → (ts rest : List Token) → Word v ts rest → after_word w ts ≡ None
word_no_word v w d [] rest s = absurd s
word_no_word v w d (t ∷ ts) rest s = no_word_here w t ts (other_word v w t d s.0)

pub word_no_sign : (v : List ℕ) (n : ℕ) (ts rest : List Token) → Word v ts rest → after_sign n ts ≡ None
word_no_sign v n [] rest s = absurd s
word_no_sign v n (t ∷ ts) rest s = no_sign_here n t ts (word_signless n t.kind (word_kind v t s.0))

pub sign_no_word : (n : ℕ) (w : List ℕ) (ts rest : List Token) → Sign n ts rest → after_word w ts ≡ None
sign_no_word n w [] rest s = absurd s
sign_no_word n w (t ∷ ts) rest s = no_word_here w t ts (no_kind w t (sign_wordless n t.kind s.0))

pub sign_no_sign : (n m : ℕ) → (n == m) ≡ false → (ts rest : List Token) → Sign n ts rest → after_sign m ts ≡ None
sign_no_sign n m d [] rest s = absurd s
sign_no_sign n m d (t ∷ ts) rest s = no_sign_here m t ts (other_sign n m d t.kind s.0)

pub sign_no_any_word : (n : ℕ) (ts rest : List Token) → Sign n ts rest → word_at ts ≡ None
sign_no_any_word n [] rest s = absurd s
sign_no_any_word n (t ∷ ts) rest s = no_any_word t ts (sign_wordless n t.kind s.0)

pub sign_no_text : (n : ℕ) (ts rest : List Token) → Sign n ts rest → text_at ts ≡ None
sign_no_text n [] rest s = absurd s
sign_no_text n (t ∷ ts) rest s = no_text_here t ts (sign_textless n t.kind s.0)

pub sign_no_number : (n : ℕ) (ts rest : List Token) → Sign n ts rest → number_at ts ≡ None
sign_no_number n [] rest s = absurd s
sign_no_number n (t ∷ ts) rest s = no_number_here t ts (sign_numberless n t.kind s.0)

pub any_word_no_text : (w : List ℕ) (ts rest : List Token) → AnyWord w ts rest → text_at ts ≡ None
any_word_no_text w [] rest s = absurd s
any_word_no_text w (t ∷ ts) rest s = no_text_here t ts (word_textless t.kind s.0.0)

pub any_word_no_sign : (w : List ℕ) (n : ℕ) (ts rest : List Token) → AnyWord w ts rest → after_sign n ts ≡ None
any_word_no_sign w n [] rest s = absurd s
any_word_no_sign w n (t ∷ ts) rest s = no_sign_here n t ts (word_signless n t.kind s.0.0)

pub number_no_text : (n : ℕ) (ts rest : List Token) → Number n ts rest → text_at ts ≡ None
number_no_text n [] rest s = absurd s
number_no_text n (t ∷ ts) rest s = no_text_here t ts (number_textless n t.kind s.0)

pub number_no_any_word : (n : ℕ) (ts rest : List Token) → Number n ts rest → word_at ts ≡ None
number_no_any_word n [] rest s = absurd s
number_no_any_word n (t ∷ ts) rest s = no_any_word t ts (number_wordless n t.kind s.0)

pub text_no_number : (text : List ℕ) (ts rest : List Token) → Text text ts rest → number_at ts ≡ None
text_no_number text [] rest s = absurd s
text_no_number text (t ∷ ts) rest s = no_number_here t ts (text_numberless t.kind s.0.0)

-- what stands behind an item: a comma or a closing parenthesis
abbrev pub Ends : List Token → Type 0
Ends ts = ((mid : List Token) × Sign COMMA ts mid) ⊎ ((mid : List Token) × Sign CLOSE ts mid)

pub comma_ends : (ts mid : List Token) → Sign COMMA ts mid → Ends ts
comma_ends ts mid s = inl (mid, s)

pub close_ends : (ts mid : List Token) → Sign CLOSE ts mid → Ends ts
close_ends ts mid s = inr (mid, s)

pub close_no_comma : (ts rest : List Token) → Sign CLOSE ts rest → after_sign COMMA ts ≡ None
close_no_comma ts rest s = sign_no_sign CLOSE COMMA refl ts rest s

pub end_no_word : (w : List ℕ) (ts : List Token) → Ends ts → after_word w ts ≡ None
end_no_word w ts e = ⊎_elim (λ (mid, s). sign_no_word COMMA w ts mid s) (λ (mid, s). sign_no_word CLOSE w ts mid s) e

pub end_no_open : (ts : List Token) → Ends ts → after_sign OPEN ts ≡ None
end_no_open ts e = ⊎_elim (λ (mid, s). sign_no_sign COMMA OPEN refl ts mid s) (λ (mid, s). sign_no_sign CLOSE OPEN refl ts mid s) e

-- any word and any number: what is read is spelled, and what is spelled is read
abbrev pub pair : {A : Type 0} → A → List Token → A × List Token
pair a rest = (a, rest)

pub any_word_spelled : (ts : List Token) (x : List ℕ × List Token) → word_at ts ≡ Some x → AnyWord x.0 ts x.1
any_word_spelled [] x e = absurd cc
any_word_spelled (t ∷ ts) x e =
    let (b, same) = cond_some (is_word_kind t.kind) (pair t.text ts) x e in
    ((b, ap (λ (y : List ℕ × List Token). y.0) same), ap (λ (y : List ℕ × List Token). y.1) same)

pub any_word_read : (word : List ℕ) (ts rest : List Token) → AnyWord word ts rest → word_at ts ≡ Some (pair word rest)
any_word_read word [] rest s = absurd s
any_word_read word (t ∷ ts) rest s = ap (λ (b : Bool). cond b (Some (pair t.text ts)) None) s.0.0 ∙ ap (λ (n : List ℕ). Some (pair n ts)) s.0.1 ∙ ap (λ (us : List Token). Some (pair word us)) s.1

pub number_spelled : (ts : List Token) (x : ℕ × List Token) → number_at ts ≡ Some x → Number x.0 ts x.1
number_spelled [] x e = absurd cc
number_spelled (t ∷ ts) x e =
    let (n, is, same) = stepped (λ (n : ℕ). Some (pair n ts)) (number_in t.kind) x e in
    let p = same_value (pair n ts) x same in
    (is ∙ ap (λ (y : ℕ × List Token). Some y.0) p, ap (λ (y : ℕ × List Token). y.1) p)

pub number_read : (n : ℕ) (ts rest : List Token) → Number n ts rest → number_at ts ≡ Some (pair n rest)
number_read n [] rest s = absurd s
number_read n (t ∷ ts) rest s = then_gives (λ (m : ℕ). Some (pair m ts)) s.0 (ap (λ (us : List Token). Some (pair n us)) s.1)
