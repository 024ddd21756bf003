-- The tokens behind a form are among those before it.
use Rattle.std.proofs.Common.{List, [], ◌∷◌, ◌++◌, subst}
use Rattle.std.specs.Prelude.{All, ℕ}
use Rattle.std.specs.List.{AllByRecursion}
use Rattle.std.proofs.lemmas.List.Elements.{All-nil, All-cons, All-head, All-tail}
use Rattle.rx_token.specs.declared.kinds.Token.{Token}
use Rattle.rx_reading.specs.Forms.{Form, One, NoToken, ◌>>◌, Word, Sign, SpellsEach}
use Rattle.rx_reading.proofs.Spelled.{Forward}
use Rattle.rx_spelled.specs.Utf8.{IsUtf8Token}

-- each text between quotes among tokens is UTF-8
abbrev pub Texts : List Token → Type 0
Texts ts = AllByRecursion IsUtf8Token ts

-- a fact of each element, and the same by recursion
pub each_of : {A : Type 0} (P : A → Type 0) (xs : List A) → All P xs → AllByRecursion P xs
each_of P [] h = tt
each_of P (x ∷ xs) h = (All-head P x xs h, each_of P xs (All-tail P x xs h))

pub all_of : {A : Type 0} (P : A → Type 0) (xs : List A) → AllByRecursion P xs → All P xs
all_of P [] h = All-nil P
all_of P (x ∷ xs) h = All-cons P x xs h.0 (all_of P xs h.1)

-- behind a form texts are UTF-8 where they were before it
abbrev pub Keeps : Form → Type 0
Keeps f = (ts rest : List Token) → Texts ts → f ts rest → Texts rest

behind_front : (front rest : List Token) → Texts (front ++ rest) → Texts rest
behind_front [] rest h = h
behind_front (t ∷ front) rest h = behind_front front rest h.1

pub forward_keeps : (f : Form) → Forward f → Keeps f
forward_keeps f forward ts rest h s =
    let b = forward ts rest s in
    behind_front (b.first ∷ b.front) rest (subst Texts b.is h)

pub one_keeps : (fits : Token → Type 0) → Keeps (One fits)
one_keeps fits [] rest h s = absurd s
one_keeps fits (t ∷ ts) rest h s = subst Texts s.1 h.1

pub word_keeps : (word : List ℕ) → Keeps (Word word)
word_keeps word = one_keeps _

pub sign_keeps : (sign : ℕ) → Keeps (Sign sign)
sign_keeps sign = one_keeps _

pub nothing_keeps : Keeps NoToken
nothing_keeps ts rest h s = subst Texts s h

pub then_keeps : (f g : Form) → Keeps f → Keeps g → Keeps (f >> g)
then_keeps f g a b ts rest h (mid, x, y) = b mid rest (a ts mid h x) y

pub each_keeps : {A : Type 0} (item : A → Form) → ((a : A) → Keeps (item a)) → (list : List A) → Keeps (SpellsEach item list)
each_keeps item keeps [] = nothing_keeps
each_keeps item keeps (a ∷ others) = then_keeps (item a) (SpellsEach item others) (keeps a) (each_keeps item keeps others)
