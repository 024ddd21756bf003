-- Steps of the number of a text's first bytes.
use Rattle.std.proofs.Common.{◌≡◌, ℕ, suc, ◌+◌, ◌*◌, ◌^◌, ◌<◌, ◌≤◌, List, [], ◌∷◌, length, refl, sym, ap, ◌∙◌, subst, arith}
use Rattle.std.proofs.Math.Nat.{mul-le-mul_right, mul-le-mul_left, mul_assoc, add-mul, one-le-pow, pow-succ', pow-le-pow_left, pow-le-pow_right}
use Rattle.rx_index.specs.Heads.{HasRoom, IsFront, IsShort}

pub no_length : (text : List ℕ) → length text ≡ 0 → text ≡ []
no_length [] e = refl
no_length (b ∷ text) e = absurd (omega (arith, e))

-- where there is room for more digits, the number itself has room
pub room_below : (base before digits : ℕ) → 0 < base → HasRoom base before digits → before < 2 ^ 128
room_below base before digits lt h =
    let one : (before + 1) * 1 ≤ (before + 1) * base ^ digits = mul-le-mul_left (before + 1) (one-le-pow digits base lt) in omega (arith, one, h)

-- one digit more takes the room of one
pub room_on : (base before bytes left digit : ℕ) → bytes ≡ left + 1 → digit < base → HasRoom base before bytes → HasRoom base (before * base + digit) left
room_on base before bytes left digit e lt h =
    let next : bytes ≡ suc left = omega (arith, e) in
    let wide : (before + 1) * base ≡ before * base + 1 * base = add-mul before 1 base in
    let less : before * base + digit + 1 ≤ (before + 1) * base = omega (arith, wide, lt) in
    let all : (before * base + digit + 1) * base ^ left ≤ (before + 1) * base * base ^ left = mul-le-mul_right (base ^ left) less in
    let is : (before + 1) * base ^ bytes ≡ (before + 1) * base * base ^ left =
    ap (λ k. (before + 1) * base ^ k) next ∙ ap (λ p. (before + 1) * p) (pow-succ' base left) ∙ sym (mul_assoc (before + 1) base (base ^ left)) in
    omega (arith, all, is, h)

-- and so does the digit 0
pub room_past : (base before bytes left : ℕ) → bytes ≡ left + 1 → 0 < base → HasRoom base before bytes → HasRoom base (before * base) left
room_past base before bytes left e lt h =
    let same : before * base + 0 ≡ before * base = omega arith in subst (λ n. HasRoom base n left) same (room_on base before bytes left 0 e lt h)

-- a digit more fits in the number
pub digit_fits : (base before bytes left digit : ℕ) → bytes ≡ left + 1 → digit < base → HasRoom base before bytes → before * base + digit < 2 ^ 128
digit_fits base before bytes left digit e lt h = room_below base (before * base + digit) left (omega (arith, lt)) (room_on base before bytes left digit e lt h)

-- fifteen bytes have room
pub room_first : (base digits : ℕ) → 0 < base → base ≤ 257 → digits ≤ 15 → HasRoom base 0 digits
room_first base digits lt few h =
    let up : base ^ digits ≤ base ^ 15 = pow-le-pow_right lt h in
    let wide : base ^ 15 ≤ 257 ^ 15 = pow-le-pow_left few 15 in
    omega (arith, up, wide)

pub front_past : (before bytes left n : ℕ) (text : List ℕ) → bytes ≡ left + 1 → text ≡ [] → IsFront (before * 256) left text n → IsFront before bytes text n
front_past before bytes left n text e f h =
    let k : bytes ≡ suc left = omega (arith, e) in
    subst (λ t. IsFront before bytes t n) (sym f) (subst (λ b. IsFront before b [] n) (sym k) (subst (λ t. IsFront (before * 256) left t n) f h))

pub front_on : (before bytes left b n : ℕ) (text rest : List ℕ) → bytes ≡ left + 1 → text ≡ b ∷ rest → b < 256 → IsFront (before * 256 + b) left rest n → IsFront before bytes text n
front_on before bytes left b n text rest e f lt h =
    let k : bytes ≡ suc left = omega (arith, e) in
    subst (λ t. IsFront before bytes t n) (sym f) (subst (λ c. IsFront before c (b ∷ rest) n) (sym k) (lt, h))

pub short_past : (before bytes left n : ℕ) (text : List ℕ) → bytes ≡ left + 1 → length text ≡ 0 → IsShort (before * 257) left text n → IsShort before bytes text n
short_past before bytes left n text e f h =
    let k : bytes ≡ suc left = omega (arith, e) in
    let none = no_length text f in
    subst (λ t. IsShort before bytes t n) (sym none) (subst (λ b. IsShort before b [] n) (sym k) (subst (λ t. IsShort (before * 257) left t n) none h))

pub short_on : (before bytes left b n : ℕ) (text rest : List ℕ) → bytes ≡ left + 1 → text ≡ b ∷ rest → b < 256 → IsShort (before * 257 + (b + 1)) left rest n → IsShort before bytes text n
short_on before bytes left b n text rest e f lt h =
    let k : bytes ≡ suc left = omega (arith, e) in
    subst (λ t. IsShort before bytes t n) (sym f) (subst (λ c. IsShort before c (b ∷ rest) n) (sym k) (lt, h))

pub short_end : (before bytes : ℕ) (text : List ℕ) → bytes ≡ 0 → length text ≤ bytes → IsShort before bytes text before
short_end before bytes text e f = subst (λ t. IsShort before bytes t before) (sym (no_length text (omega (arith, e, f)))) (subst (λ b. IsShort before b [] before) (sym e) refl)
