-- What a token is, and what it then is not.
use Rattle.std.proofs.Common.{◌≡◌, ℕ, Bool, true, false, not, cond, ◌&&◌, ◌||◌, List, [], ◌∷◌, Option, Some, None, is_some, is_none, refl, ap, ◌∙◌, ◌==◌}
use Rattle.std.specs.List.{list_any}
use Rattle.std.specs.Str.{str_eq_ignore_ascii_case, bytes_eq, str_to_ascii_lowercase}
use Rattle.std.proofs.lemmas.Bool.{eqb-true}
use Rattle.std.proofs.lemmas.Slice.Eq.{bytes_eq-Decides}
use Rattle.rx_token.specs.declared.kinds.Token.{Token}
use Rattle.rx_token.specs.declared.kinds.TokenKind.{TokenKind}
use Rattle.rx_token.specs.declared.kinds.TokenKind.TheVariants as k
use Rattle.rx_token.specs.Reserved.{reserved, is_reserved, is_word_kind, is_word_of}
use Rattle.rx_reading.specs.Reading.{is_sign_kind, is_text_kind, after_word, after_sign, name_at, text_at}
use Rattle.rx_where.specs.Operands.{whole_of, whole_at}
use Rattle.rx_where.specs.Tests.{op_of_sign, op_of, op_at}

-- what a reader looks for in one token
pub data What : Type 0 where
  word : List ℕ → What
  sign : ℕ → What
  name : What
  text : What
  number : What
  comparison : What

abbrev pub is_kind : What → TokenKind → List ℕ → Bool
is_kind (word w) kind x = is_word_kind kind && str_eq_ignore_ascii_case x w
is_kind (sign n) kind x = is_sign_kind n kind
is_kind name kind x = elim kind [ k.Word ↦ not (is_reserved x) | k.Quoted ↦ true | _ ↦ false ]
is_kind text kind x = is_text_kind kind
is_kind number kind x = is_some (whole_of kind)
is_kind comparison kind x = is_some (op_of kind)

abbrev pub starts : What → List Token → Bool
starts a [] = false
starts a (t ∷ ts) = is_kind a t.kind t.text

abbrev pub starts_any : List What → List Token → Bool
starts_any [] ts = false
starts_any (a ∷ others) ts = starts a ts || starts_any others ts

-- nothing is both
abbrev pub apart : What → What → Bool
apart (word v) (word w) = not (str_eq_ignore_ascii_case v w)
apart (word v) name = is_reserved v
apart name (word w) = is_reserved w
apart (sign m) (sign n) = not (m == n)
apart (sign n) comparison = is_none (op_of_sign n)
apart comparison (sign n) = is_none (op_of_sign n)
apart name name = false
apart text text = false
apart number number = false
apart comparison comparison = false
apart _ _ = true

abbrev pub apart_all : What → List What → Bool
apart_all a [] = true
apart_all a (b ∷ others) = apart a b && apart_all a others

-- words that are one without case
same_word : (x v w : List ℕ) → str_eq_ignore_ascii_case x v ≡ true → str_eq_ignore_ascii_case x w ≡ str_eq_ignore_ascii_case v w
same_word x v w e = ap (λ (y : List ℕ). bytes_eq y (str_to_ascii_lowercase w)) ((bytes_eq-Decides (str_to_ascii_lowercase x) (str_to_ascii_lowercase v)).0 e)

any_same : (x v : List ℕ) → str_eq_ignore_ascii_case x v ≡ true → (words : List (List ℕ)) → list_any (str_eq_ignore_ascii_case x) words ≡ list_any (str_eq_ignore_ascii_case v) words
any_same x v e [] = refl
any_same x v e (w ∷ words) = rw (same_word x v w e, any_same x v e words) refl

reserved_too : (x v : List ℕ) → str_eq_ignore_ascii_case x v ≡ true → is_reserved x ≡ is_reserved v
unfolding is_reserved
reserved_too x v e = any_same x v e reserved

not_true : (b : Bool) → not b ≡ true → b ≡ false
not_true true e = absurd cc
not_true false e = refl

-- another word
word_word : (x v w : List ℕ) → not (str_eq_ignore_ascii_case v w) ≡ true → str_eq_ignore_ascii_case x v ≡ true → str_eq_ignore_ascii_case x w ≡ false
word_word x v w d h = same_word x v w h ∙ not_true _ d

word_name : (x v : List ℕ) → is_reserved v ≡ true → str_eq_ignore_ascii_case x v ≡ true → not (is_reserved x) ≡ false
word_name x v d h = ap not (reserved_too x v h ∙ d)

both_ways : (a b : Bool) → (a ≡ true → b ≡ true) → not b ≡ true → a ≡ false
both_ways true b f e = let t = f refl in absurd cc
both_ways false b f e = refl

name_word : (x w : List ℕ) → is_reserved w ≡ true → not (is_reserved x) ≡ true → str_eq_ignore_ascii_case x w ≡ false
name_word x w d h = both_ways (str_eq_ignore_ascii_case x w) (is_reserved x) (λ e. reserved_too x w e ∙ d) h

sign_sign : (n a b : ℕ) → not (a == b) ≡ true → (n == a) ≡ true → (n == b) ≡ false
sign_sign n a b d h = ap (λ (m : ℕ). m == b) (eqb-true n a h) ∙ not_true _ d

none_some : {A : Type 0} (o : Option A) → is_none o ≡ true → is_some o ≡ false
none_some None e = refl
none_some (Some x) e = absurd cc

sign_comparison : (n a : ℕ) → is_none (op_of_sign a) ≡ true → (n == a) ≡ true → is_some (op_of_sign n) ≡ false
sign_comparison n a d h = ap (λ (m : ℕ). is_some (op_of_sign m)) (eqb-true n a h) ∙ none_some (op_of_sign a) d

comparison_sign : (n b : ℕ) → is_none (op_of_sign b) ≡ true → is_some (op_of_sign n) ≡ true → (n == b) ≡ false
comparison_sign n b d h = both_ways (n == b) (not (is_some (op_of_sign n))) (λ e. ap not (sign_comparison n b d e)) (rw h refl)

pub only_one : (kind : TokenKind) (x : List ℕ) (a b : What) → apart a b ≡ true → is_kind a kind x ≡ true → is_kind b kind x ≡ false
only_one k.Word x (word v) (word w) d h = word_word x v w d h
only_one k.Word x (word v) name d h = word_name x v d h
only_one k.Word x (word v) _ d h = refl
only_one k.Word x name (word w) d h = name_word x w d h
only_one k.Word x name name d h = absurd cc
only_one k.Word x name _ d h = refl
only_one k.Word x _ b d h = absurd cc
only_one k.Quoted x name name d h = absurd cc
only_one k.Quoted x name _ d h = refl
only_one k.Quoted x _ b d h = absurd cc
only_one (k.Number n) x number number d h = absurd cc
only_one (k.Number n) x number _ d h = refl
only_one (k.Number n) x _ b d h = absurd cc
only_one k.Str x text text d h = absurd cc
only_one k.Str x text _ d h = refl
only_one k.Str x _ b d h = absurd cc
only_one (k.Sign n) x (sign a) (sign b) d h = sign_sign n a b d h
only_one (k.Sign n) x (sign a) comparison d h = sign_comparison n a d h
only_one (k.Sign n) x (sign a) _ d h = refl
only_one (k.Sign n) x comparison (sign b) d h = comparison_sign n b d h
only_one (k.Sign n) x comparison comparison d h = absurd cc
only_one (k.Sign n) x comparison _ d h = refl
only_one (k.Sign n) x _ b d h = absurd cc

starts_one : (a b : What) (ts : List Token) → apart a b ≡ true → starts a ts ≡ true → starts b ts ≡ false
starts_one a b [] d h = refl
starts_one a b (t ∷ ts) d h = only_one t.kind t.text a b d h

and_first : (a b : Bool) → (a && b) ≡ true → a ≡ true
and_first true b e = refl
and_first false b e = absurd cc

and_second : (a b : Bool) → (a && b) ≡ true → b ≡ true
and_second true b e = e
and_second false b e = absurd cc

nor : (a b : Bool) → a ≡ false → b ≡ false → (a || b) ≡ false
nor true b e f = absurd cc
nor false b e f = f

-- tokens that begin with one thing begin with none of others that it is not
pub free : (a : What) (others : List What) (ts : List Token) → apart_all a others ≡ true → starts a ts ≡ true → starts_any others ts ≡ false
free a [] ts d h = refl
free a (b ∷ others) ts d h = nor _ _ (starts_one a b ts (and_first _ _ d) h) (free a others ts (and_second (apart a b) _ d) h)

pub first_free : (b : What) (others : List What) (ts : List Token) → starts_any (b ∷ others) ts ≡ false → starts b ts ≡ false
first_free b others ts e = or_false (starts b ts) (starts_any others ts) e
  where
    or_false : (x y : Bool) → (x || y) ≡ false → x ≡ false
    or_false true y e = absurd cc
    or_false false y e = refl

pub others_free : (b : What) (others : List What) (ts : List Token) → starts_any (b ∷ others) ts ≡ false → starts_any others ts ≡ false
others_free b others ts e = or_false (starts b ts) (starts_any others ts) e
  where
    or_false : (x y : Bool) → (x || y) ≡ false → y ≡ false
    or_false true y e = absurd cc
    or_false false y e = e

pub no_word : (w : List ℕ) (ts : List Token) → starts (word w) ts ≡ false → after_word w ts ≡ None
unfolding is_word_of
no_word w [] e = refl
no_word w (t ∷ ts) e = ap (λ (b : Bool). cond b (Some ts) None) e

pub no_sign : (n : ℕ) (ts : List Token) → starts (sign n) ts ≡ false → after_sign n ts ≡ None
no_sign n [] e = refl
no_sign n (t ∷ ts) e = ap (λ (b : Bool). cond b (Some ts) None) e

pub no_name : (ts : List Token) → starts name ts ≡ false → name_at ts ≡ None
no_name [] e = refl
no_name (t ∷ ts) e = ap (λ (b : Bool). cond b (Some (t.text, ts)) None) e

pub no_text : (ts : List Token) → starts text ts ≡ false → text_at ts ≡ None
no_text [] e = refl
no_text (t ∷ ts) e = ap (λ (b : Bool). cond b (Some (t.text, ts)) None) e

is_nothing : {A : Type 0} (o : Option A) → is_some o ≡ false → o ≡ None
is_nothing None e = refl
is_nothing (Some x) e = absurd cc

pub no_whole : (ts : List Token) → starts number ts ≡ false → whole_at ts ≡ None
no_whole [] e = refl
no_whole (t ∷ ts) e = rw (is_nothing (whole_of t.kind) e) refl

pub no_comparison : (ts : List Token) → starts comparison ts ≡ false → op_at ts ≡ None
no_comparison [] e = refl
no_comparison (t ∷ ts) e = rw (is_nothing (op_of t.kind) e) refl
