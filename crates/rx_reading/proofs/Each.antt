-- Items in a row: what is read is spelled, and what is spelled is read.
use Rattle.std.proofs.Common.{◌≡◌, ℕ, zero, suc, ◌+◌, ◌<◌, ◌≤◌, List, [], ◌∷◌, ◌++◌, length, map, Option, Some, None, refl, sym, ap, subst, ◌∙◌, arith, append_assoc, length-append}
use Rattle.std.specs.Option.{option_and_then}
use Rattle.rx_token.specs.declared.kinds.Token.{Token}
use Rattle.rx_reading.specs.Reading.{Reader, more_at, next_of, items_at}
use Rattle.rx_reading.specs.Forms.{Form, One, NoToken, ◌>>◌, Listed, last, before, values, SpellsEach, SpellsListed}
use Rattle.rx_reading.proofs.Spelled.{Read}

-- what is left is the end of the tokens, and all of them or less
pub record Tail (ts rest : List Token) : Type 0 where
  pub front : List Token
  pub is : ts ≡ front ++ rest

-- the same, where a token at least is taken
pub record Shorter (ts rest : List Token) : Type 0 where
  pub first : Token
  pub front : List Token
  pub is : ts ≡ first ∷ (front ++ rest)

pub tail_of : (ts rest : List Token) → Shorter ts rest → Tail ts rest
tail_of ts rest s = record { front = s.first ∷ s.front; is = s.is }

pub shorter_less : (ts rest : List Token) → Shorter ts rest → length rest < length ts
shorter_less ts rest s =
    let e : length ts ≡ suc (length (s.front ++ rest)) = ap length s.is in
    let k : length (s.front ++ rest) ≡ length s.front + length rest = length-append s.front rest in
    omega arith

tail_less : (ts rest : List Token) → Tail ts rest → length rest ≤ length ts
tail_less ts rest s =
    let e : length ts ≡ length (s.front ++ rest) = ap length s.is in
    let k : length (s.front ++ rest) ≡ length s.front + length rest = length-append s.front rest in
    omega arith

tail_tail : (ts mid rest : List Token) → Tail ts mid → Tail mid rest → Tail ts rest
tail_tail ts mid rest a b = record { front = a.front ++ b.front; is = a.is ∙ ap (λ (us : List Token). a.front ++ us) b.is ∙ sym (append_assoc a.front b.front rest) }

shorter_tail : (ts mid rest : List Token) → Shorter ts mid → Tail mid rest → Shorter ts rest
shorter_tail ts mid rest a b = record {
  first = a.first;
  front = a.front ++ b.front;
  is = a.is ∙ ap (λ (us : List Token). a.first ∷ (a.front ++ us)) b.is ∙ ap (λ (us : List Token). a.first ∷ us) (sym (append_assoc a.front b.front rest));
}

front_shorter : (front ts mid rest : List Token) → ts ≡ front ++ mid → Shorter mid rest → Shorter ts rest
front_shorter [] ts mid rest e b = record { first = b.first; front = b.front; is = e ∙ b.is }
front_shorter (t ∷ front) ts mid rest e b = shorter_tail ts mid rest (record { first = t; front = front; is = e }) (tail_of mid rest b)

-- what a form leaves of tokens
abbrev pub Shrinks : Form → Type 0
Shrinks f = (ts rest : List Token) → f ts rest → Shorter ts rest

abbrev pub Within : Form → Type 0
Within f = (ts rest : List Token) → f ts rest → Tail ts rest

pub one_shrinks : (fits : Token → Type 0) → Shrinks (One fits)
one_shrinks fits [] rest s = absurd s
one_shrinks fits (t ∷ ts) rest s = record { first = t; front = []; is = ap (λ (us : List Token). t ∷ us) s.1 }

pub shrinks_within : (f : Form) → Shrinks f → Within f
shrinks_within f a ts rest s = tail_of ts rest (a ts rest s)

pub then_shrinks : (f g : Form) → Shrinks f → Within g → Shrinks (f >> g)
then_shrinks f g a b ts rest (mid, x, y) = shorter_tail ts mid rest (a ts mid x) (b mid rest y)

pub then_within : (f g : Form) → Within f → Within g → Within (f >> g)
then_within f g a b ts rest (mid, x, y) = tail_tail ts mid rest (a ts mid x) (b mid rest y)

pub within_then : (f g : Form) → Within f → Shrinks g → Shrinks (f >> g)
within_then f g a b ts rest (mid, x, y) = let c = a ts mid x in front_shorter c.front ts mid rest c.is (b mid rest y)

pub no_token_within : Within NoToken
no_token_within ts rest s = record { front = []; is = s }

pub each_within : {D : Type 0} (item : D → Form) → ((d : D) → Within (item d)) → (list : List D) → Within (SpellsEach item list)
each_within item a [] = no_token_within
each_within item a (d ∷ list) = then_within (item d) (SpellsEach item list) (a d) (each_within item a list)

pub listed_shrinks : {D : Type 0} (separator : Form) (item : D → Form) → Within separator → ((d : D) → Shrinks (item d)) → (list : Listed D) → Shrinks (SpellsListed separator item list)
listed_shrinks separator item w a (last d) = a d
listed_shrinks separator item w a (before d others) =
    then_shrinks (item d) (separator >> SpellsListed separator item others) (a d)
    (then_within separator (SpellsListed separator item others) w (shrinks_within (SpellsListed separator item others) (listed_shrinks separator item w a others)))

-- no item more
stays : {A : Type 0} (after : List Token → Option (List Token)) (p : Reader A) (rest : List Token) → option_and_then p (after rest) ≡ None → (fuel : ℕ) → more_at after p fuel rest ≡ ([], rest)
unfolding more_at
stays after p rest none zero = refl
stays {A} after p rest none (suc fuel) = ap (λ (o : Option (A × List Token)). next_of rest (more_at after p fuel) o) none

-- one item more
comes : {A : Type 0} (after : List Token → Option (List Token)) (p : Reader A) (fuel : ℕ) (ts : List Token) (x : A × List Token) (xs : List A) (rest : List Token) → option_and_then p (after ts) ≡ Some x → more_at after p fuel x.1 ≡ (xs, rest) → more_at after p (suc fuel) ts ≡ (x.0 ∷ xs, rest)
unfolding more_at
comes {A} after p fuel ts x xs rest read more =
    ap (λ (o : Option (A × List Token)). next_of ts (more_at after p fuel) o) read ∙ ap (λ (m : List A × List Token). (x.0 ∷ m.0, m.1)) more

module _ {D A : Type 0} (after : List Token → Option (List Token)) (p : Reader A) (item : D → Form) (value : D → A) where
  module _ (read : (ts : List Token) (x : A × List Token) → option_and_then p (after ts) ≡ Some x → Read item value ts x) where
    abbrev EachRead : List Token → List A × List Token → Type 0
    EachRead ts x = Read (SpellsEach item) (map value) ts x

    more_by : (f : ℕ) → ((ts : List Token) → EachRead ts (more_at after p f ts)) → (ts : List Token) (q : Option (A × List Token)) → option_and_then p (after ts) ≡ q → EachRead ts (next_of ts (more_at after p f) q)
    more_by f later ts None is = record { form = []; spelled = refl; stands = refl }
    more_by f later ts (Some x) is =
        let first = read ts x is in
        let others = later x.1 in
        record {
          form = first.form ∷ others.form;
          spelled = (x.1, first.spelled, others.spelled);
          stands = ap (λ (vs : List A). value first.form ∷ vs) others.stands ∙ ap (λ (v : A). v ∷ (more_at after p f x.1).0) first.stands;
        }

    pub each_spelled : (f : ℕ) (ts : List Token) → EachRead ts (more_at after p f ts)
    unfolding more_at
    each_spelled zero ts = record { form = []; spelled = refl; stands = refl }
    each_spelled (suc f) ts = more_by f (each_spelled f) ts (option_and_then p (after ts)) refl

  module _
      (shrinks : (d : D) → Shrinks (item d))
      (back : (d : D) (ts rest : List Token) → item d ts rest → option_and_then p (after ts) ≡ Some (value d, rest)) where
    pub each_read : (list : List D) (f : ℕ) (ts rest : List Token) → SpellsEach item list ts rest → length ts ≤ f → option_and_then p (after rest) ≡ None → more_at after p f ts ≡ (map value list, rest)
    each_read [] f ts rest s enough none = subst (λ (us : List Token). more_at after p f us ≡ ([], rest)) (sym s) (stays after p rest none f)
    each_read (d ∷ list) zero ts rest (mid, s, more) enough none = let a = shorter_less ts mid (shrinks d ts mid s) in absurd (omega arith)
    each_read (d ∷ list) (suc f) ts rest (mid, s, more) enough none =
        let a = shorter_less ts mid (shrinks d ts mid s) in
        comes after p f ts (value d, mid) (map value list) rest (back d ts mid s) (each_read list f mid rest more (omega arith) none)

-- items with separators, where each is read as it is spelled before what stops it
module _ {D A : Type 0} (after : List Token → Option (List Token)) (separator : Form) (p : Reader A) (item : D → Form) (value : D → A) (Stops : List Token → Type 0)
    (after_back : (ts mid : List Token) → separator ts mid → after ts ≡ Some mid)
    (after_within : Within separator)
    (after_stops : (ts mid : List Token) → separator ts mid → Stops ts)
    (shrinks : (d : D) → Shrinks (item d))
    (back : (d : D) (ts rest : List Token) → item d ts rest → Stops rest → p ts ≡ Some (value d, rest)) where
  step : (d : D) (here mid rest : List Token) → separator here mid → item d mid rest → Stops rest → option_and_then p (after here) ≡ Some (value d, rest)
  step d here mid rest comma s stops = ap (option_and_then p) (after_back here mid comma) ∙ back d mid rest s stops

  more_listed : (list : Listed D) (f : ℕ) (here mid rest : List Token) → separator here mid → SpellsListed separator item list mid rest → length here ≤ f → Stops rest → after rest ≡ None → more_at after p f here ≡ (values value list, rest)
  more_listed (last d) zero here mid rest comma s enough stops none =
      let a = tail_less here mid (after_within here mid comma) in let b = shorter_less mid rest (shrinks d mid rest s) in absurd (omega arith)
  more_listed (last d) (suc f) here mid rest comma s enough stops none =
      comes after p f here (value d, rest) [] rest (step d here mid rest comma s stops) (stays after p rest (ap (option_and_then p) none) f)
  more_listed (before d list) zero here mid rest comma (end, s, (next, later, more)) enough stops none =
      let a = tail_less here mid (after_within here mid comma) in let b = shorter_less mid end (shrinks d mid end s) in absurd (omega arith)
  more_listed (before d list) (suc f) here mid rest comma (end, s, (next, later, more)) enough stops none =
      let a = tail_less here mid (after_within here mid comma) in
      let b = shorter_less mid end (shrinks d mid end s) in
      comes after p f here (value d, end) (values value list) rest (step d here mid end comma s (after_stops end next later)) (more_listed list f end next rest later more (omega arith) stops none)

  abbrev rest_of : A × List Token → Option (List A × List Token)
  rest_of x = Some (x.0 ∷ (more_at after p (length x.1) x.1).0, (more_at after p (length x.1) x.1).1)

  pub list_read : (list : Listed D) (ts rest : List Token) → SpellsListed separator item list ts rest → Stops rest → after rest ≡ None → items_at after p ts ≡ Some (values value list, rest)
  unfolding items_at
  list_read (last d) ts rest s stops none =
      ap (option_and_then rest_of) (back d ts rest s stops) ∙ ap (λ (m : List A × List Token). Some (value d ∷ m.0, m.1)) (stays after p rest (ap (option_and_then p) none) (length rest))
  list_read (before d list) ts rest (end, s, (next, later, more)) stops none =
      ap (option_and_then rest_of) (back d ts end s (after_stops end next later))
      ∙ ap (λ (m : List A × List Token). Some (value d ∷ m.0, m.1)) (more_listed list (length end) end next rest later more (omega arith) stops none)
