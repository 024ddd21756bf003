-- What is read at the front is spelled there, and what is spelled there is read.
use Rattle.std.proofs.Common.{◌≡◌, ℕ, zero, suc, ◌+◌, ◌<◌, Bool, false, cond, List, [], ◌∷◌, ◌++◌, length, Option, Some, None, is_some, refl, sym, ap, subst, ◌∙◌, inl, ⊎_elim, arith, append_assoc, length-append}
use Rattle.std.specs.Option.{option_and_then}
use Rattle.std.proofs.lemmas.Option.{cond_some}
use Rattle.rx_token.specs.declared.kinds.Token.{Token}
use Rattle.rx_token.specs.Reserved.{is_word_of}
use Rattle.rx_reading.specs.Reading.{Reader, after_word, after_sign, is_sign_kind, name_at, is_name, text_at, is_text_kind, more_at, next_of, items_at}
use Rattle.rx_reading.specs.Forms.{Form, One, ◌>>◌, Word, Sign, Name, Text, Listed, last, before, values, SpellsListed}
use Rattle.rx_reading.proofs.Farther.{Reaches, last_reaches, next_reaches}
use Rattle.rx_reading.proofs.Steps.{stepped, same_value}

-- The rest is what comes behind a front of at least one token, and that front spells the same before any other rest.
pub record Behind (f : Form) (ts rest : List Token) : Type 0 where
  pub first : Token
  pub front : List Token
  pub is : ts ≡ first ∷ (front ++ rest)
  pub again : (other : List Token) → f (first ∷ (front ++ other)) other

abbrev pub Forward : Form → Type 0
Forward f = (ts rest : List Token) → f ts rest → Behind f ts rest

pub one_forward : (fits : Token → Type 0) → Forward (One fits)
one_forward fits [] rest s = absurd s
one_forward fits (t ∷ ts) rest s = record { first = t; front = []; is = ap (λ (us : List Token). t ∷ us) s.1; again = λ other. (s.0, refl) }

pub then_forward : (f g : Form) → Forward f → Forward g → Forward (f >> g)
then_forward f g a b ts rest (mid, x, y) =
    let one = a ts mid x in
    let two = b mid rest y in
    record {
      first = one.first;
      front = one.front ++ two.first ∷ two.front;
      is = one.is ∙ ap (λ (us : List Token). one.first ∷ (one.front ++ us)) two.is ∙ ap (λ (us : List Token). one.first ∷ us) (sym (append_assoc one.front (two.first ∷ two.front) rest));
      again = λ other. subst (λ (us : List Token). (f >> g) (one.first ∷ us) other) (sym (append_assoc one.front (two.first ∷ two.front) other)) (two.first ∷ (two.front ++ other), one.again (two.first ∷ (two.front ++ other)), two.again other);
    }

pub listed_forward : {A : Type 0} (separator : Form) (item : A → Form) → Forward separator → ((a : A) → Forward (item a)) → (list : Listed A) → Forward (SpellsListed separator item list)
listed_forward separator item f g (last a) = g a
listed_forward separator item f g (before a others) =
    then_forward (item a) (separator >> SpellsListed separator item others) (g a) (then_forward separator (SpellsListed separator item others) f (listed_forward separator item f g others))

pub behind_short : (f : Form) (ts rest : List Token) → Behind f ts rest → length rest < length ts
behind_short f ts rest b =
    let e : length ts ≡ suc (length (b.front ++ rest)) = ap length b.is in
    let k : length (b.front ++ rest) ≡ length b.front + length rest = length-append b.front rest in
    omega arith

pub word_spelled : (word : List ℕ) (ts rest : List Token) → after_word word ts ≡ Some rest → Word word ts rest
word_spelled word [] rest e = absurd cc
word_spelled word (t ∷ ts) rest e = cond_some (is_word_of word t) ts rest e

pub word_read : (word : List ℕ) (ts rest : List Token) → Word word ts rest → after_word word ts ≡ Some rest
word_read word [] rest s = absurd s
word_read word (t ∷ ts) rest s = ap (λ (b : Bool). cond b (Some ts) None) s.0 ∙ ap Some s.1

pub sign_spelled : (sign : ℕ) (ts rest : List Token) → after_sign sign ts ≡ Some rest → Sign sign ts rest
sign_spelled sign [] rest e = absurd cc
sign_spelled sign (t ∷ ts) rest e = cond_some (is_sign_kind sign t.kind) ts rest e

pub sign_read : (sign : ℕ) (ts rest : List Token) → Sign sign ts rest → after_sign sign ts ≡ Some rest
sign_read sign [] rest s = absurd s
sign_read sign (t ∷ ts) rest s = ap (λ (b : Bool). cond b (Some ts) None) s.0 ∙ ap Some s.1

abbrev pub found : {A : Type 0} → A → List Token → A × List Token
found a rest = (a, rest)

pub name_spelled : (ts : List Token) (x : List ℕ × List Token) → name_at ts ≡ Some x → Name x.0 ts x.1
name_spelled [] x e = absurd cc
name_spelled (t ∷ ts) x e =
    let (b, same) = cond_some (is_name t) (found t.text ts) x e in
    ((b, ap (λ (y : List ℕ × List Token). y.0) same), ap (λ (y : List ℕ × List Token). y.1) same)

pub name_read : (name : List ℕ) (ts rest : List Token) → Name name ts rest → name_at ts ≡ Some (found name rest)
name_read name [] rest s = absurd s
name_read name (t ∷ ts) rest s = ap (λ (b : Bool). cond b (Some (found t.text ts)) None) s.0.0 ∙ ap (λ (n : List ℕ). Some (found n ts)) s.0.1 ∙ ap (λ (us : List Token). Some (found name us)) s.1

pub text_spelled : (ts : List Token) (x : List ℕ × List Token) → text_at ts ≡ Some x → Text x.0 ts x.1
text_spelled [] x e = absurd cc
text_spelled (t ∷ ts) x e =
    let (b, same) = cond_some (is_text_kind t.kind) (found t.text ts) x e in
    ((b, ap (λ (y : List ℕ × List Token). y.0) same), ap (λ (y : List ℕ × List Token). y.1) same)

pub text_read : (text : List ℕ) (ts rest : List Token) → Text text ts rest → text_at ts ≡ Some (found text rest)
text_read text [] rest s = absurd s
text_read text (t ∷ ts) rest s = ap (λ (b : Bool). cond b (Some (found t.text ts)) None) s.0.0 ∙ ap (λ (n : List ℕ). Some (found n ts)) s.0.1 ∙ ap (λ (us : List Token). Some (found text us)) s.1

-- a derivation of what was read
pub record Read {D A : Type 0} (spells : D → Form) (value : D → A) (ts : List Token) (x : A × List Token) : Type 0 where
  pub form : D
  pub spelled : spells form ts x.1
  pub stands : value form ≡ x.0

module _ {D A : Type 0} (after : List Token → Option (List Token)) (separator : Form) (p : Reader A) (item : D → Form) (value : D → A) where
  module _
      (after_is : (ts mid : List Token) → after ts ≡ Some mid → separator ts mid)
      (read : (ts : List Token) (x : A × List Token) → p ts ≡ Some x → Read item value ts x) where
    abbrev ListRead : List Token → List A × List Token → Type 0
    ListRead ts x = Read (SpellsListed separator item) (values value) ts x

    -- what is read behind an item
    abbrev MoreRead : ℕ → Type 0
    MoreRead f = (d : D) (ts here : List Token) → item d ts here → ListRead ts (value d ∷ (more_at after p f here).0, (more_at after p f here).1)

    ended_here : (d : D) (ts here : List Token) → item d ts here → ListRead ts (value d ∷ [], here)
    ended_here d ts here s = record { form = last d; spelled = s; stands = refl }

    more_by : (f : ℕ) → MoreRead f → (d : D) (ts here : List Token) → item d ts here → (o : Option (List Token)) → after here ≡ o → (q : Option (A × List Token)) → option_and_then p o ≡ q → ListRead ts (value d ∷ (next_of here (more_at after p f) q).0, (next_of here (more_at after p f) q).1)
    more_by f later d ts here s o is None e = ended_here d ts here s
    more_by f later d ts here s None is (Some x) e = absurd cc
    more_by f later d ts here s (Some mid) is (Some x) e =
        let first = read mid x e in
        let others = later first.form mid x.1 first.spelled in
        record {
          form = before d others.form;
          spelled = (here, s, (mid, after_is here mid is, others.spelled));
          stands = ap (λ (vs : List A). value d ∷ vs) (others.stands ∙ ap (λ (v : A). v ∷ (more_at after p f x.1).0) first.stands);
        }

    more_read : (f : ℕ) → MoreRead f
    unfolding more_at
    more_read zero d ts here s = ended_here d ts here s
    more_read (suc f) d ts here s = more_by f (more_read f) d ts here s (after here) refl (option_and_then p (after here)) refl

    rest_of : A × List Token → Option (List A × List Token)
    rest_of x = Some (x.0 ∷ (more_at after p (length x.1) x.1).0, (more_at after p (length x.1) x.1).1)

    pub items_spelled : (ts : List Token) (x : List A × List Token) → items_at after p ts ≡ Some x → ListRead ts x
    unfolding items_at rest_of
    items_spelled ts x e =
        let (y, is, same) = stepped rest_of (p ts) x e in
        let first = read ts y is in
        let all = more_read (length y.1) first.form ts y.1 first.spelled in
        let made : List A × List Token = (y.0 ∷ (more_at after p (length y.1) y.1).0, (more_at after p (length y.1) y.1).1) in
        subst (ListRead ts) (same_value made x same) (record {
          form = all.form;
          spelled = all.spelled;
          stands = all.stands ∙ ap (λ (v : A). v ∷ (more_at after p (length y.1) y.1).0) first.stands;
        })

  module _
      (after_short : (ts mid : List Token) → after ts ≡ Some mid → length mid < length ts)
      (p_short : (ts : List Token) (x : A × List Token) → p ts ≡ Some x → length x.1 < length ts)
      (after_back : (ts mid : List Token) → separator ts mid → after ts ≡ Some mid)
      (back : (d : D) (ts rest : List Token) → item d ts rest → p ts ≡ Some (value d, rest)) where
    -- no item goes on
    abbrev never : List Token → Bool
    never ts = false

    abbrev comes : List Token → Bool
    comes ts = is_some (after ts)

    listed_reaches : (list : Listed D) (ts rest : List Token) → SpellsListed separator item list ts rest → Reaches comes (items_at after p ts) (values value list) rest
    listed_reaches (last d) ts rest s = last_reaches after p after_short p_short never comes (λ us e. absurd cc) (λ us e. e) (value d) ts rest (inl (back d ts rest s))
    listed_reaches (before d others) ts rest (here, s, (mid, comma, more)) =
        next_reaches after p after_short p_short never comes (λ us e. absurd cc) (λ us e. e) (value d) (values value others) ts here mid rest refl (after_back here mid comma) (inl (back d ts here s)) (listed_reaches others mid rest more)

    -- items that no separator follows are read as they are spelled
    pub listed_read : (list : Listed D) (ts rest : List Token) → SpellsListed separator item list ts rest → after rest ≡ None → items_at after p ts ≡ Some (values value list, rest)
    listed_read list ts rest s none = ⊎_elim (λ e. e) (λ b. let f = b.follows in let e : false ≡ is_some (after rest) = ap is_some (sym none) in absurd cc) (listed_reaches list ts rest s)
