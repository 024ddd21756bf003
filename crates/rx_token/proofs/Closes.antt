-- A comment ends behind the first `*/`.
use Rattle.std.proofs.Common.{◌≡◌, ℕ, zero, suc, ◌<◌, false, List, [], ◌∷◌, drop, Option, Some, None, refl, sym, subst, arith}
use Rattle.std.proofs.Math.Seq.{drop-nil}
use Rattle.std.proofs.lemmas.Bool.{cond_both}
use Rattle.rx_token.specs.Blank.{closes, close_in, further, IsFirstClose}

none_before : (b : ℕ) (bs : List ℕ) (place : ℕ) → closes (b ∷ bs) ≡ false → ((k : ℕ) → k < place → closes (drop k bs) ≡ false) → (k : ℕ) → k < suc place → closes (drop k (b ∷ bs)) ≡ false
none_before b bs place here behind zero below = here
none_before b bs place here behind (suc k) below = behind k (omega arith)

none_at_all : (b : ℕ) (bs : List ℕ) → closes (b ∷ bs) ≡ false → ((k : ℕ) → closes (drop k bs) ≡ false) → (k : ℕ) → closes (drop k (b ∷ bs)) ≡ false
none_at_all b bs here behind zero = here
none_at_all b bs here behind (suc k) = behind k

one_further : (b : ℕ) (bs : List ℕ) (o : Option ℕ) → closes (b ∷ bs) ≡ false → IsFirstClose bs o → IsFirstClose (b ∷ bs) (further 1 o)
one_further b bs None here h = none_at_all b bs here h
one_further b bs (Some n) here h = (suc h.0, omega arith, h.2, none_before b bs h.0 here h.3)

pub first_close : (bytes : List ℕ) → IsFirstClose bytes (close_in bytes)
first_close [] = λ k. subst (λ (xs : List ℕ). closes xs ≡ false) (sym (drop-nil k)) refl
first_close (b ∷ bs) =
    cond_both (closes (b ∷ bs)) (Some 2) (further 1 (close_in bs)) (IsFirstClose (b ∷ bs))
    (λ e. (0, omega arith, e, λ k below. absurd (omega arith)))
    (λ e. one_further b bs (close_in bs) e (first_close bs))
