-- What numbers that pass a test give, one number more at a time.
use Rattle.std.proofs.Common.{◌≡◌, ◌+◌, ℕ, Bool, true, false, [], ◌∷◌, ◌++◌, map, ap, ◌∙◌}
use Rattle.std.specs.List.{filter, range_with_len}
use Rattle.std.proofs.lemmas.List.{map-append}
use Rattle.rx_plan.proofs.Named.{filter_yes, filter_no}

-- one number more gives what it does, where it passes
pub front_more : {A : Type 0} (f : ℕ → A) (p : ℕ → Bool) (n : ℕ) → p n ≡ true → map f (filter p (range_with_len 0 (n + 1))) ≡ map f (filter p (range_with_len 0 n)) ++ f n ∷ []
front_more f p n e = ap (map f) (filter_yes p n e) ∙ map-append f (filter p (range_with_len 0 n)) (n ∷ [])

pub front_same : {A : Type 0} (f : ℕ → A) (p : ℕ → Bool) (n : ℕ) → p n ≡ false → map f (filter p (range_with_len 0 (n + 1))) ≡ map f (filter p (range_with_len 0 n))
front_same f p n e = ap (map f) (filter_no p n e)
