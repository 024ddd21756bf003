-- Names of which none equals an earlier one, without case.
use Rattle.std.proofs.Common.{◌≡◌, ℕ, Bool, true, false, ◌||◌, List, [], ◌∷◌, ◌++◌, None, refl, sym, ◌∙◌}
use Rattle.std.specs.List.{AllByRecursion}
use Rattle.std.specs.Str.{str_eq_ignore_ascii_case, str_to_ascii_lowercase}
use Rattle.std.proofs.lemmas.Cmp.{nat_list_eq_equiv}
use Rattle.std.proofs.lemmas.List.Folds.{list_any-append}
use Rattle.rx_schema.specs.Names.{is_among, repeated_after}
use Rattle.rx_schema.proofs.Every.{every_map, every_both, or_false}
use Rattle.rx_schema.proofs.Within.{neither}

abbrev pub same : List ℕ → List ℕ → Bool
same a b = str_eq_ignore_ascii_case a b

pub same_self : (a : List ℕ) → same a a ≡ true
same_self a = nat_list_eq_equiv.refl (str_to_ascii_lowercase a)

pub same_turned : (a b : List ℕ) → same a b ≡ same b a
same_turned a b = nat_list_eq_equiv.symm (str_to_ascii_lowercase a) (str_to_ascii_lowercase b)

pub same_along : (a b c : List ℕ) → same a b ≡ true → same a c ≡ same b c
same_along a b c e = nat_list_eq_equiv.congr (str_to_ascii_lowercase a) (str_to_ascii_lowercase b) (str_to_ascii_lowercase c) e

-- no later name equals an earlier one
abbrev pub Apart : List (List ℕ) → Type 0
Apart [] = Unit {0}
Apart (n ∷ ns) = AllByRecursion (λ m. same m n ≡ false) ns × Apart ns

-- a name is none of some and of one more
among_more : (before : List (List ℕ)) (n m : List ℕ) → is_among (before ++ n ∷ []) m ≡ false → (is_among before m ≡ false) × (same m n ≡ false)
among_more before n m e =
    let parts = or_false (is_among before m) (same m n || false) (sym (list_any-append (λ other. same m other) before (n ∷ [])) ∙ e) in
    (parts.0, (or_false (same m n) false parts.1).0)

among_both : (before : List (List ℕ)) (n m : List ℕ) → is_among before m ≡ false → same m n ≡ false → is_among (before ++ n ∷ []) m ≡ false
among_both before n m e f = list_any-append (λ other. same m other) before (n ∷ []) ∙ rw (e, f) refl

pub apart_from : (before names : List (List ℕ)) → repeated_after before names ≡ None → AllByRecursion (λ m. is_among before m ≡ false) names × Apart names
apart_from before [] e = (tt, tt)
apart_from before (n ∷ names) e =
    let first = neither (is_among before n) n (repeated_after (before ++ n ∷ []) names) e in
    let later = apart_from (before ++ n ∷ []) names first.1 in (
      (first.0, every_map (λ m. is_among (before ++ n ∷ []) m ≡ false) (λ m. is_among before m ≡ false) (λ m h. (among_more before n m h).0) names later.0),
      (every_map (λ m. is_among (before ++ n ∷ []) m ≡ false) (λ m. same m n ≡ false) (λ m h. (among_more before n m h).1) names later.0, later.1),
    )

pub from_apart : (before names : List (List ℕ)) → AllByRecursion (λ m. is_among before m ≡ false) names → Apart names → repeated_after before names ≡ None
from_apart before [] h a = refl
from_apart before (n ∷ names) h a =
    rw h.0 (from_apart (before ++ n ∷ []) names (every_both (λ m. is_among before m ≡ false) (λ m. same m n ≡ false) (λ m. is_among (before ++ n ∷ []) m ≡ false) (λ m e f. among_both before n m e f) names h.1 a.0) a.1)
