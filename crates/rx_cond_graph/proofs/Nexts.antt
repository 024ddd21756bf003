-- The element that a loop has come to, and the list from there on.
use Rattle.std.proofs.Common.{arith, ◌≡◌, ◌<◌, ◌+◌, ℕ, zero, suc, List, [], ◌∷◌, length, drop, map, get_or, ap, sym, ◌∙◌, add-one}

pub next_of : {A : Type 0} (l : List A) (i : ℕ) (x : A) → i < length l → x ≡ get_or l i x → drop i l ≡ x ∷ drop (suc i) l
next_of [] i x within is = absurd (omega (arith, within))
next_of (y ∷ l) zero x within is = ap (λ z. z ∷ l) (sym is)
next_of (y ∷ l) (suc i) x within is = next_of l i x (omega (arith, within)) is

pub next_at : {A : Type 0} (l : List A) (i : ℕ) (x : A) → i < length l → x ≡ get_or l i x → drop i l ≡ x ∷ drop (i + 1) l
next_at l i x within is = next_of l i x within is ∙ ap (λ j. x ∷ drop j l) (sym (add-one i))

-- the same of what is made of each element
pub next_mapped : {A B : Type 0} (f : A → B) (l : List A) (i : ℕ) (x : A) → i < length l → x ≡ get_or l i x → drop i (map f l) ≡ f x ∷ drop (suc i) (map f l)
next_mapped f [] i x within is = absurd (omega (arith, within))
next_mapped f (y ∷ l) zero x within is = ap (λ z. f z ∷ map f l) (sym is)
next_mapped f (y ∷ l) (suc i) x within is = next_mapped f l i x (omega (arith, within)) is
