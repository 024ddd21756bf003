-- Constants and operands: what is read is spelled, and what is spelled is read.
use Rattle.std.proofs.Common.{◌≡◌, ℕ, ◌<◌, true, false, pos, neg_ℤ, ℤ, List, [], ◌∷◌, length, Option, Some, None, refl, ap, subst, ⊎_elim, codes}
use Rattle.std.specs.Option.{option_and_then, option_or}
use Rattle.rx_value.specs.declared.values.Value.{Value}
use Rattle.rx_value.specs.declared.values.Value.TheVariants as value
use Rattle.rx_token.specs.declared.kinds.Token.{Token}
use Rattle.rx_token.specs.declared.signs.TheConstants.{PLUS, MINUS, CLOSE, COMMA}
use Rattle.rx_token.specs.Reserved.{is_word_of, is_reserved}
use Rattle.rx_reading.specs.Reading.{after_word, after_sign, name_at, text_at, is_sign_kind, is_name, is_text_kind}
use Rattle.rx_reading.specs.Forms.{One, Word, Sign, Name, Text, Listed, values}
use Rattle.rx_reading.proofs.Steps.{stepped, then_gives, then_none, one_of, first_gives, second_gives, same_value}
use Rattle.rx_reading.proofs.Enclosed.{enclosed_forward, enclosed_spelled, enclosed_read}
use Rattle.rx_reading.proofs.Spelled.{Forward, one_forward, then_forward, behind_short, word_spelled, word_read, sign_spelled, sign_read, name_spelled, name_read, text_spelled, text_read, Read}
use Rattle.rx_where.specs.declared.raw.RawOperand.{RawOperand}
use Rattle.rx_where.specs.declared.raw.RawOperand.TheVariants as of
use Rattle.rx_where.specs.Operands.{whole_of, whole_at, plus_at, minus_at, number_at, null_at, constant_at, operand_at, constants_at}
use Rattle.rx_where.specs.Grammar.{Number, Constant, number, plus, minus, string, null, SpellsConstant, constant_value, Operand, name, constant, SpellsOperand, operand_side, SpellsConstants}
use Rattle.rx_where.proofs.Leads.{What, starts, starts_any, free, first_free, others_free, no_word, no_sign, no_name, no_text, no_whole}
use Rattle.rx_where.proofs.Leads as lead

abbrev pub found : {A : Type 0} → A → List Token → A × List Token
found a rest = (a, rest)

-- numbers
pub whole_spelled : (ts : List Token) (x : ℤ × List Token) → whole_at ts ≡ Some x → (n : ℕ) × Number n ts x.1 × (pos n ≡ x.0)
whole_spelled [] x e = absurd cc
whole_spelled (t ∷ ts) x e =
    let (n, is, same) = stepped (λ (n : ℕ). Some (found (pos n) ts)) (whole_of t.kind) x e in
    let p = same_value (found (pos n) ts) x same in
    (n, (is, ap (λ (y : ℤ × List Token). y.1) p), ap (λ (y : ℤ × List Token). y.0) p)

pub whole_read : (n : ℕ) (ts rest : List Token) → Number n ts rest → whole_at ts ≡ Some (found (pos n) rest)
whole_read n [] rest s = absurd s
whole_read n (t ∷ ts) rest s = then_gives (λ (m : ℕ). Some (found (pos m) ts)) s.0 (ap (λ (us : List Token). Some (found (pos n) us)) s.1)

-- the forms of a number
abbrev pub ConstantRead : List Token → Value × List Token → Type 0
ConstantRead ts x = Read SpellsConstant constant_value ts x

plus_spelled : (ts : List Token) (x : ℤ × List Token) → plus_at ts ≡ Some x → ConstantRead ts (value.Int x.0, x.1)
plus_spelled ts x e =
    let (mid, is, next) = stepped whole_at (after_sign PLUS ts) x e in
    let (n, s, v) = whole_spelled mid x next in
    record { form = plus n; spelled = (mid, sign_spelled PLUS ts mid is, s); stands = ap value.Int v }

minus_spelled : (ts : List Token) (x : ℤ × List Token) → minus_at ts ≡ Some x → ConstantRead ts (value.Int x.0, x.1)
minus_spelled ts x e =
    let (mid, is, next) = stepped (λ (behind : List Token). option_and_then (λ (n : ℤ × List Token). Some (found (neg_ℤ n.0) n.1)) (whole_at behind)) (after_sign MINUS ts) x e in
    let (y, read, same) = stepped (λ (n : ℤ × List Token). Some (found (neg_ℤ n.0) n.1)) (whole_at mid) x next in
    let (n, s, v) = whole_spelled mid y read in
    let p = same_value (found (neg_ℤ y.0) y.1) x same in
    subst (λ (z : ℤ × List Token). ConstantRead ts (value.Int z.0, z.1)) p (record { form = minus n; spelled = (mid, sign_spelled MINUS ts mid is, s); stands = ap (λ (z : ℤ). value.Int (neg_ℤ z)) v })

number_spelled : (ts : List Token) (x : ℤ × List Token) → number_at ts ≡ Some x → ConstantRead ts (value.Int x.0, x.1)
number_spelled ts x e =
    ⊎_elim (plus_spelled ts x)
    (λ f. ⊎_elim (minus_spelled ts x)
    (λ g. let (n, s, v) = whole_spelled ts x g in record { form = number n; spelled = s; stands = ap value.Int v })
    (one_of (minus_at ts) (whole_at ts) x f))
    (one_of (plus_at ts) (option_or (minus_at ts) (whole_at ts)) x e)

abbrev text_value : List ℕ × List Token → Option (Value × List Token)
text_value text = Some (value.Text text.0, text.1)

abbrev number_value : ℤ × List Token → Option (Value × List Token)
number_value n = Some (value.Int n.0, n.1)

abbrev null_value : List Token → Option (Value × List Token)
null_value rest = Some (value.Null, rest)

pub constant_spelled : (ts : List Token) (x : Value × List Token) → constant_at ts ≡ Some x → ConstantRead ts x
unfolding constant_at
constant_spelled ts x e =
    ⊎_elim
    (λ f.
    let (rest, is, same) = stepped null_value (after_word (codes "NULL") ts) x f in
    subst (ConstantRead ts) (same_value (found value.Null rest) x same) (record { form = null; spelled = word_spelled (codes "NULL") ts rest is; stands = refl }))
    (λ f. ⊎_elim
    (λ g.
    let (y, is, same) = stepped text_value (text_at ts) x g in
    subst (ConstantRead ts) (same_value (found (value.Text y.0) y.1) x same) (record { form = string y.0; spelled = text_spelled ts y is; stands = refl }))
    (λ g.
    let (y, is, same) = stepped number_value (number_at ts) x g in
    subst (ConstantRead ts) (same_value (found (value.Int y.0) y.1) x same) (number_spelled ts y is))
    (one_of (option_and_then text_value (text_at ts)) (option_and_then number_value (number_at ts)) x f))
    (one_of (null_at ts) (option_or (option_and_then text_value (text_at ts)) (option_and_then number_value (number_at ts))) x e)

-- what a spelled form begins with
pub begins_one : (a : What) (fits : Token → Type 0) → ((t : Token) → fits t → lead.is_kind a t.kind t.text ≡ true) → (ts rest : List Token) → One fits ts rest → starts a ts ≡ true
begins_one a fits f [] rest s = absurd s
begins_one a fits f (t ∷ ts) rest s = f t s.0

pub begins_word : (w : List ℕ) (ts rest : List Token) → Word w ts rest → starts (lead.word w) ts ≡ true
unfolding is_word_of
begins_word w [] rest s = absurd s
begins_word w (t ∷ ts) rest s = s.0

pub begins_sign : (n : ℕ) (ts rest : List Token) → Sign n ts rest → starts (lead.sign n) ts ≡ true
begins_sign n [] rest s = absurd s
begins_sign n (t ∷ ts) rest s = s.0

pub begins_name : (n : List ℕ) (ts rest : List Token) → Name n ts rest → starts lead.name ts ≡ true
begins_name n [] rest s = absurd s
begins_name n (t ∷ ts) rest s = s.0.0

pub begins_text : (n : List ℕ) (ts rest : List Token) → Text n ts rest → starts lead.text ts ≡ true
begins_text n [] rest s = absurd s
begins_text n (t ∷ ts) rest s = s.0.0

pub begins_number : (n : ℕ) (ts rest : List Token) → Number n ts rest → starts lead.number ts ≡ true
begins_number n [] rest s = absurd s
begins_number n (t ∷ ts) rest s = rw s.0 refl

-- what begins a number, a constant and an operand
abbrev pub numbers : List What
numbers = lead.sign PLUS ∷ lead.sign MINUS ∷ lead.number ∷ []

abbrev pub constants : List What
constants = lead.word (codes "NULL") ∷ lead.text ∷ numbers

abbrev pub operands : List What
operands = lead.name ∷ constants

no_null : (ts : List Token) → starts (lead.word (codes "NULL")) ts ≡ false → null_at ts ≡ None
no_null ts e = then_none null_value (no_word (codes "NULL") ts e)

no_plus : (ts : List Token) → starts (lead.sign PLUS) ts ≡ false → plus_at ts ≡ None
no_plus ts e = then_none whole_at (no_sign PLUS ts e)

no_minus : (ts : List Token) → starts (lead.sign MINUS) ts ≡ false → minus_at ts ≡ None
no_minus ts e = then_none (λ (behind : List Token). option_and_then (λ (n : ℤ × List Token). Some (found (neg_ℤ n.0) n.1)) (whole_at behind)) (no_sign MINUS ts e)

no_number : (ts : List Token) → starts_any numbers ts ≡ false → number_at ts ≡ None
no_number ts e =
    let more = others_free (lead.sign PLUS) (lead.sign MINUS ∷ lead.number ∷ []) ts e in
    let rest = others_free (lead.sign MINUS) (lead.number ∷ []) ts more in
    second_gives (no_plus ts (first_free (lead.sign PLUS) (lead.sign MINUS ∷ lead.number ∷ []) ts e))
    (second_gives (no_minus ts (first_free (lead.sign MINUS) (lead.number ∷ []) ts more)) (no_whole ts (first_free lead.number [] ts rest)))

pub no_constant : (ts : List Token) → starts_any constants ts ≡ false → constant_at ts ≡ None
unfolding constant_at
no_constant ts e =
    let more = others_free (lead.word (codes "NULL")) (lead.text ∷ numbers) ts e in
    second_gives (no_null ts (first_free (lead.word (codes "NULL")) (lead.text ∷ numbers) ts e))
    (second_gives (then_none text_value (no_text ts (first_free lead.text numbers ts more))) (then_none number_value (no_number ts (others_free lead.text numbers ts more))))

pub no_operand : (ts : List Token) → starts_any operands ts ≡ false → operand_at ts ≡ None
unfolding operand_at
no_operand ts e =
    second_gives (then_none (λ (text : List ℕ × List Token). Some (found (of.Column text.0) text.1)) (no_name ts (first_free lead.name constants ts e)))
    (then_none (λ (v : Value × List Token). Some (found (of.Constant v.0) v.1)) (no_constant ts (others_free lead.name constants ts e)))

-- a number is read as it is spelled, where it begins with one of its signs or without
number_again : (a : What) (ts rest : List Token) (z : ℤ) → starts a ts ≡ true → lead.apart_all a (lead.word (codes "NULL") ∷ lead.text ∷ []) ≡ true → number_at ts ≡ Some (found z rest) → constant_at ts ≡ Some (found (value.Int z) rest)
unfolding constant_at
number_again a ts rest z s d e =
    let none = free a (lead.word (codes "NULL") ∷ lead.text ∷ []) ts d s in
    second_gives (no_null ts (first_free (lead.word (codes "NULL")) (lead.text ∷ []) ts none))
    (second_gives (then_none text_value (no_text ts (first_free lead.text [] ts (others_free (lead.word (codes "NULL")) (lead.text ∷ []) ts none))))
    (then_gives number_value e refl))

pub constant_read : (c : Constant) (ts rest : List Token) → SpellsConstant c ts rest → constant_at ts ≡ Some (found (constant_value c) rest)
unfolding constant_at
constant_read (number n) ts rest s =
    let b = begins_number n ts rest s in
    let none = free lead.number (lead.sign PLUS ∷ lead.sign MINUS ∷ []) ts refl b in
    number_again lead.number ts rest (pos n) b refl
    (second_gives (no_plus ts (first_free (lead.sign PLUS) (lead.sign MINUS ∷ []) ts none))
    (second_gives (no_minus ts (first_free (lead.sign MINUS) [] ts (others_free (lead.sign PLUS) (lead.sign MINUS ∷ []) ts none))) (whole_read n ts rest s)))
constant_read (plus n) ts rest (mid, s, m) =
    number_again (lead.sign PLUS) ts rest (pos n) (begins_sign PLUS ts mid s) refl
    (first_gives (option_or (minus_at ts) (whole_at ts)) (then_gives whole_at (sign_read PLUS ts mid s) (whole_read n mid rest m)))
constant_read (minus n) ts rest (mid, s, m) =
    let b = begins_sign MINUS ts mid s in
    let none = free (lead.sign MINUS) (lead.sign PLUS ∷ []) ts refl b in
    number_again (lead.sign MINUS) ts rest (neg_ℤ (pos n)) b refl
    (second_gives (no_plus ts (first_free (lead.sign PLUS) [] ts none))
    (first_gives (whole_at ts) (then_gives (λ (behind : List Token). option_and_then (λ (n : ℤ × List Token). Some (found (neg_ℤ n.0) n.1)) (whole_at behind)) (sign_read MINUS ts mid s)
    (then_gives (λ (n : ℤ × List Token). Some (found (neg_ℤ n.0) n.1)) (whole_read n mid rest m) refl))))
constant_read (string text) ts rest s =
    let none = free lead.text (lead.word (codes "NULL") ∷ []) ts refl (begins_text text ts rest s) in
    second_gives (no_null ts (first_free (lead.word (codes "NULL")) [] ts none)) (first_gives (option_and_then number_value (number_at ts)) (then_gives text_value (text_read text ts rest s) refl))
constant_read null ts rest s =
    first_gives (option_or (option_and_then text_value (text_at ts)) (option_and_then number_value (number_at ts))) (then_gives null_value (word_read (codes "NULL") ts rest s) refl)

null_reserved : lead.apart_all (lead.word (codes "NULL")) (lead.name ∷ []) ≡ true
unfolding is_reserved
null_reserved = refl

-- what a constant begins with, where that is no name
begins_constant : (c : Constant) (ts rest : List Token) → SpellsConstant c ts rest → starts lead.name ts ≡ false
begins_constant (number n) ts rest s = first_free lead.name [] ts (free lead.number (lead.name ∷ []) ts refl (begins_number n ts rest s))
begins_constant (plus n) ts rest (mid, s, m) = first_free lead.name [] ts (free (lead.sign PLUS) (lead.name ∷ []) ts refl (begins_sign PLUS ts mid s))
begins_constant (minus n) ts rest (mid, s, m) = first_free lead.name [] ts (free (lead.sign MINUS) (lead.name ∷ []) ts refl (begins_sign MINUS ts mid s))
begins_constant (string text) ts rest s = first_free lead.name [] ts (free lead.text (lead.name ∷ []) ts refl (begins_text text ts rest s))
begins_constant null ts rest s = first_free lead.name [] ts (free (lead.word (codes "NULL")) (lead.name ∷ []) ts null_reserved (begins_word (codes "NULL") ts rest s))

abbrev name_side : List ℕ × List Token → Option (RawOperand × List Token)
name_side text = Some (of.Column text.0, text.1)

abbrev constant_side : Value × List Token → Option (RawOperand × List Token)
constant_side v = Some (of.Constant v.0, v.1)

abbrev pub OperandRead : List Token → RawOperand × List Token → Type 0
OperandRead ts x = Read SpellsOperand operand_side ts x

pub operand_spelled : (ts : List Token) (x : RawOperand × List Token) → operand_at ts ≡ Some x → OperandRead ts x
unfolding operand_at
operand_spelled ts x e =
    ⊎_elim
    (λ f.
    let (y, is, same) = stepped name_side (name_at ts) x f in
    subst (OperandRead ts) (same_value (found (of.Column y.0) y.1) x same) (record { form = name y.0; spelled = name_spelled ts y is; stands = refl }))
    (λ f.
    let (y, is, same) = stepped constant_side (constant_at ts) x f in
    let c = constant_spelled ts y is in
    subst (OperandRead ts) (same_value (found (of.Constant y.0) y.1) x same) (record { form = constant c.form; spelled = c.spelled; stands = ap of.Constant c.stands }))
    (one_of (option_and_then name_side (name_at ts)) (option_and_then constant_side (constant_at ts)) x e)

pub operand_read : (o : Operand) (ts rest : List Token) → SpellsOperand o ts rest → operand_at ts ≡ Some (found (operand_side o) rest)
unfolding operand_at
operand_read (name text) ts rest s = first_gives (option_and_then constant_side (constant_at ts)) (then_gives name_side (name_read text ts rest s) refl)
operand_read (constant c) ts rest s =
    second_gives (then_none name_side (no_name ts (begins_constant c ts rest s))) (then_gives constant_side (constant_read c ts rest s) refl)

-- each spelled form has tokens of its own
pub word_forward : (w : List ℕ) → Forward (Word w)
word_forward w = one_forward (λ t. is_word_of w t ≡ true)

pub sign_forward : (n : ℕ) → Forward (Sign n)
sign_forward n = one_forward (λ t. is_sign_kind n t.kind ≡ true)

pub name_forward : (text : List ℕ) → Forward (Name text)
name_forward text = one_forward (λ t. (is_name t ≡ true) × (t.text ≡ text))

pub text_forward : (text : List ℕ) → Forward (Text text)
text_forward text = one_forward (λ t. (is_text_kind t.kind ≡ true) × (t.text ≡ text))

constant_forward : (c : Constant) → Forward (SpellsConstant c)
constant_forward (number n) = one_forward (λ t. whole_of t.kind ≡ Some n)
constant_forward (plus n) = then_forward (Sign PLUS) (Number n) (sign_forward PLUS) (one_forward (λ t. whole_of t.kind ≡ Some n))
constant_forward (minus n) = then_forward (Sign MINUS) (Number n) (sign_forward MINUS) (one_forward (λ t. whole_of t.kind ≡ Some n))
constant_forward (string text) = text_forward text
constant_forward null = word_forward (codes "NULL")

pub operand_forward : (o : Operand) → Forward (SpellsOperand o)
operand_forward (name text) = name_forward text
operand_forward (constant c) = constant_forward c

pub constants_forward : (list : Listed Constant) → Forward (SpellsConstants list)
constants_forward list = enclosed_forward SpellsConstant constant_forward list

pub word_short : (w : List ℕ) (ts mid : List Token) → after_word w ts ≡ Some mid → length mid < length ts
word_short w ts mid e = behind_short (Word w) ts mid (word_forward w ts mid (word_spelled w ts mid e))

pub sign_short : (n : ℕ) (ts mid : List Token) → after_sign n ts ≡ Some mid → length mid < length ts
sign_short n ts mid e = behind_short (Sign n) ts mid (sign_forward n ts mid (sign_spelled n ts mid e))

constant_short : (ts : List Token) (x : Value × List Token) → constant_at ts ≡ Some x → length x.1 < length ts
constant_short ts x e = let r = constant_spelled ts x e in behind_short (SpellsConstant r.form) ts x.1 (constant_forward r.form ts x.1 r.spelled)

-- where a list ends no comma comes
pub close_no_comma : (ts rest : List Token) → Sign CLOSE ts rest → after_sign COMMA ts ≡ None
close_no_comma ts rest s = no_sign COMMA ts (first_free (lead.sign COMMA) [] ts (free (lead.sign CLOSE) (lead.sign COMMA ∷ []) ts refl (begins_sign CLOSE ts rest s)))

abbrev pub ConstantsRead : List Token → List Value × List Token → Type 0
ConstantsRead ts x = Read SpellsConstants (values constant_value) ts x

pub constants_spelled : (ts : List Token) (x : List Value × List Token) → constants_at ts ≡ Some x → ConstantsRead ts x
unfolding constants_at
constants_spelled ts x e = enclosed_spelled constant_at SpellsConstant constant_value constant_spelled ts x e

pub constants_read : (list : Listed Constant) (ts rest : List Token) → SpellsConstants list ts rest → constants_at ts ≡ Some (found (values constant_value list) rest)
unfolding constants_at
constants_read list ts rest s = enclosed_read constant_at SpellsConstant constant_value (sign_short COMMA) constant_short constant_read close_no_comma list ts rest s
