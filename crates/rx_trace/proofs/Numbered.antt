-- What is listed of numbered items, one item more.
use Rattle.std.proofs.Common.{◌≡◌, ℕ, ◌+◌, ◌<◌, Bool, true, false, List, [], ◌∷◌, ◌++◌, map, filter, take, length, get_or, cond, ap, append-nil, ◌∙◌}
use Rattle.std.specs.List.{enumerate_from}
use Rattle.std.proofs.lemmas.List.{map-append}
use Rattle.std.proofs.lemmas.List.Elements.{filter-append}
use Rattle.rx_trace.proofs.Places.{numbered_more}

-- what is made of the numbered items that pass a test
abbrev pub made_of : {A B : Type 0} → (ℕ × A → B) → (ℕ × A → Bool) → ℕ → List A → List B
made_of f test from xs = map f (filter test (enumerate_from from xs))

-- each of them
abbrev pub each_of : {A B : Type 0} → (ℕ × A → B) → ℕ → List A → List B
each_of f from xs = map f (enumerate_from from xs)

pub each_more : {A B : Type 0} (f : ℕ × A → B) (from : ℕ) (xs : List A) (i : ℕ) (d : A) → i < length xs
    → each_of f from (take (i + 1) xs) ≡ each_of f from (take i xs) ++ f (from + i, get_or xs i d) ∷ []
each_more f from xs i d within = ap (map f) (numbered_more xs from i d within) ∙ map-append f (enumerate_from from (take i xs)) ((from + i, get_or xs i d) ∷ [])

more_if : {A B : Type 0} (f : ℕ × A → B) (test : ℕ × A → Bool) (from : ℕ) (xs : List A) (i : ℕ) (d : A) → i < length xs
    → made_of f test from (take (i + 1) xs) ≡ made_of f test from (take i xs) ++ map f (filter test ((from + i, get_or xs i d) ∷ []))
more_if f test from xs i d within =
    ap (λ ps. map f (filter test ps)) (numbered_more xs from i d within)
    ∙ ap (map f) (filter-append test (enumerate_from from (take i xs)) ((from + i, get_or xs i d) ∷ []))
    ∙ map-append f (filter test (enumerate_from from (take i xs))) (filter test ((from + i, get_or xs i d) ∷ []))

-- an item that passes
pub passed_more : {A B : Type 0} (f : ℕ × A → B) (test : ℕ × A → Bool) (from : ℕ) (xs : List A) (i : ℕ) (d : A) → i < length xs → test (from + i, get_or xs i d) ≡ true
    → made_of f test from (take (i + 1) xs) ≡ made_of f test from (take i xs) ++ f (from + i, get_or xs i d) ∷ []
passed_more f test from xs i d within t =
    more_if f test from xs i d within ∙ ap (λ b. made_of f test from (take i xs) ++ map f (cond b ((from + i, get_or xs i d) ∷ []) [])) t

-- an item that doesn't
pub failed_more : {A B : Type 0} (f : ℕ × A → B) (test : ℕ × A → Bool) (from : ℕ) (xs : List A) (i : ℕ) (d : A) → i < length xs → test (from + i, get_or xs i d) ≡ false
    → made_of f test from (take (i + 1) xs) ≡ made_of f test from (take i xs)
failed_more f test from xs i d within t =
    more_if f test from xs i d within ∙ ap (λ b. made_of f test from (take i xs) ++ map f (cond b ((from + i, get_or xs i d) ∷ []) [])) t ∙ append-nil (made_of f test from (take i xs))
