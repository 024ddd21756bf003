-- The first sign that fits, of a list where each stands before those that it begins with, is the longest one.
use Rattle.std.proofs.Common.{◌≡◌, ℕ, Bool, true, false, cond, nat_eq, List, [], ◌∷◌, length, Option, Some, None, refl, subst, inl, inr}
use Rattle.std.specs.List.{starts_with}
use Rattle.std.proofs.lemmas.Bool.{cases_Bool, eqb-true}
use Rattle.rx_token.specs.Sign.{sign_found}

-- the first sign that fits
abbrev pub first_sign : List (List ℕ × ℕ) → List ℕ → Option (ℕ × ℕ)
first_sign [] bytes = None
first_sign (sign ∷ others) bytes = cond (starts_with nat_eq bytes sign.0) (Some (sign.1, length sign.0)) (first_sign others bytes)

-- each sign before those that it begins with
abbrev pub ordered : List (List ℕ × ℕ)
ordered =
    (60 ∷ 61 ∷ 62 ∷ [], 6) ∷ (60 ∷ 61 ∷ [], 8) ∷ (60 ∷ 62 ∷ [], 11) ∷ (60 ∷ [], 7)
    ∷ (62 ∷ 61 ∷ [], 10) ∷ (62 ∷ [], 9) ∷ (33 ∷ 61 ∷ [], 12) ∷ (40 ∷ [], 0) ∷ (41 ∷ [], 1) ∷ (44 ∷ [], 2) ∷ (59 ∷ [], 3)
    ∷ (42 ∷ [], 4) ∷ (61 ∷ [], 5) ∷ (43 ∷ [], 13) ∷ (45 ∷ [], 14) ∷ []

-- a test is true or false
by_test : {P : Type 0} (t : Bool) → (t ≡ true → P) → (t ≡ false → P) → P
by_test t when_true when_false = elim (cases_Bool t) [ inl e ↦ when_true e | inr e ↦ when_false e ]

-- the first sign that fits is the longest
abbrev Agrees : List ℕ → Type 0
Agrees bytes = sign_found bytes ≡ first_sign ordered bytes

agrees_at : (n b : ℕ) (bs : List ℕ) → nat_eq n b ≡ true → Agrees (n ∷ bs) → Agrees (b ∷ bs)
agrees_at n b bs e same = subst (λ (x : ℕ). Agrees (x ∷ bs)) (eqb-true n b e) same

agrees_behind : (n c d : ℕ) (ds : List ℕ) → nat_eq n d ≡ true → Agrees (c ∷ n ∷ ds) → Agrees (c ∷ d ∷ ds)
agrees_behind n c d ds e same = subst (λ (x : ℕ). Agrees (c ∷ x ∷ ds)) (eqb-true n d e) same

less_equal : (bs : List ℕ) → Agrees (60 ∷ 61 ∷ bs)
unfolding sign_found
less_equal [] = refl
less_equal (d ∷ ds) = by_test (nat_eq 62 d) (λ e. rw e refl) (λ e. rw e refl)

less : (bs : List ℕ) → Agrees (60 ∷ bs)
unfolding sign_found
less [] = refl
less (c ∷ cs) =
    by_test (nat_eq 61 c) (λ e. agrees_behind 61 60 c cs e (less_equal cs))
    (λ no_equal. by_test (nat_eq 62 c) (λ e. agrees_behind 62 60 c cs e refl)
    (λ no_more. rw (no_equal, no_more) refl))

more : (bs : List ℕ) → Agrees (62 ∷ bs)
unfolding sign_found
more [] = refl
more (c ∷ cs) = by_test (nat_eq 61 c) (λ e. rw e refl) (λ e. rw e refl)

mark : (bs : List ℕ) → Agrees (33 ∷ bs)
unfolding sign_found
mark [] = refl
mark (c ∷ cs) = by_test (nat_eq 61 c) (λ e. rw e refl) (λ e. rw e refl)

pub sign_is : (bytes : List ℕ) → sign_found bytes ≡ first_sign ordered bytes
unfolding sign_found
sign_is [] = refl
sign_is (b ∷ bs) =
    by_test (nat_eq 60 b) (λ e. agrees_at 60 b bs e (less bs))
    (λ no_less. by_test (nat_eq 62 b) (λ e. agrees_at 62 b bs e (more bs))
    (λ no_more. by_test (nat_eq 33 b) (λ e. agrees_at 33 b bs e (mark bs))
    (λ no_mark. by_test (nat_eq 40 b) (λ e. agrees_at 40 b bs e refl)
    (λ no_open. by_test (nat_eq 41 b) (λ e. agrees_at 41 b bs e refl)
    (λ no_close. by_test (nat_eq 44 b) (λ e. agrees_at 44 b bs e refl)
    (λ no_comma. by_test (nat_eq 59 b) (λ e. agrees_at 59 b bs e refl)
    (λ no_semicolon. by_test (nat_eq 42 b) (λ e. agrees_at 42 b bs e refl)
    (λ no_star. by_test (nat_eq 61 b) (λ e. agrees_at 61 b bs e refl)
    (λ no_equal. by_test (nat_eq 43 b) (λ e. agrees_at 43 b bs e refl)
    (λ no_plus. by_test (nat_eq 45 b) (λ e. agrees_at 45 b bs e refl)
    (λ no_minus. rw (no_less, no_more, no_mark, no_open, no_close, no_comma, no_semicolon, no_star, no_equal, no_plus, no_minus) refl)))))))))))
