-- What a memory's list tells of its entries.
use Rattle.std.proofs.Common.{◌≡◌, ◌⊎◌, inl, inr, ◌+◌, ◌≤◌, ◌&&◌, arith, nat_eq, ℕ, Bool, true, false, cond, List, [], ◌∷◌, ◌++◌, Option, Some, None, refl, ap, ap₂, sym, ◌∙◌}
use Rattle.std.proofs.lemmas.Bool.{eqb-true, eq-eqb}
use Rattle.std.specs.Map.{lookup}
use Rattle.rx_level.specs.Store.{owed}
use Rattle.rx_pairs.specs.Pairs.{Pair, is_same_pair, Made, Among, Lacks, handles_of}

both_true : (a b : Bool) → (a && b) ≡ true → (a ≡ true) × (b ≡ true)
both_true true b e = (refl, e)
both_true false b e = absurd (cc e)

same_pair : (p q : Pair) → is_same_pair p q ≡ true → p ≡ q
same_pair p q e =
    let h = both_true (nat_eq p.0 q.0) (nat_eq p.1 q.1) e in
    let first : p.0 ≡ q.0 = eqb-true p.0 q.0 h.0 in
    let second : p.1 ≡ q.1 = eqb-true p.1 q.1 h.1 in
    λ i. (first i, second i)

found_here : (x : Made) (rest : List Made) (p : Pair) (v : Option ℕ) (b : Bool) → is_same_pair p x.0 ≡ b → cond b (Some x.1) (lookup (is_same_pair p) rest) ≡ Some v → (lookup (is_same_pair p) rest ≡ Some v → Among rest (p, v)) → Among (x ∷ rest) (p, v)
found_here x rest p v true same e behind =
    let pair : x.0 ≡ p = sym (same_pair p x.0 same) in
    let made : x.1 ≡ v = cc e in
    inl (λ i. (pair i, made i))
found_here x rest p v false same e behind = inr (behind e)

pub found_among : (es : List Made) (p : Pair) (v : Option ℕ) → lookup (is_same_pair p) es ≡ Some v → Among es (p, v)
found_among [] p v e = absurd (cc e)
found_among (x ∷ rest) p v e = found_here x rest p v (is_same_pair p x.0) refl e (found_among rest p v)

pub among_either : (xs ys : List Made) (e : Made) → Among (xs ++ ys) e → Among xs e ⊎ Among ys e
among_either [] ys e h = inr h
among_either (x ∷ xs) ys e (inl is) = inl (inl is)
among_either (x ∷ xs) ys e (inr h) = elim (among_either xs ys e h) [ inl a ↦ inl (inr a) | inr b ↦ inr b ]

handles-append : (xs ys : List Made) → handles_of (xs ++ ys) ≡ handles_of xs ++ handles_of ys
handles-append [] ys = refl
handles-append (x ∷ xs) ys = ap (λ l. Some x.0.0 ∷ Some x.0.1 ∷ x.1 ∷ l) (handles-append xs ys)

pub owed-append : (m : ℕ) (xs ys : List (Option ℕ)) → owed m (xs ++ ys) ≡ owed m xs + owed m ys
owed-append m [] ys = omega arith
owed-append m (x ∷ xs) ys = let e = owed-append m xs ys in omega (arith, e)

pub owed_handles : (m : ℕ) (xs ys : List Made) → owed m (handles_of (xs ++ ys)) ≡ owed m (handles_of xs) + owed m (handles_of ys)
owed_handles m xs ys = ap (owed m) (handles-append xs ys) ∙ owed-append m (handles_of xs) (handles_of ys)

-- the handles of an entry are among the handles
pub leads_among : (es : List Made) (e : Made) → Among es e → (m : ℕ) → owed m (handles_of (e ∷ [])) ≤ owed m (handles_of es)
leads_among [] e h m = absurd h
leads_among (x ∷ rest) e (inl is) m = let same : owed m (handles_of (x ∷ [])) ≡ owed m (handles_of (e ∷ [])) = ap (λ y. owed m (handles_of (y ∷ []))) is in omega (arith, same)
leads_among (x ∷ rest) e (inr h) m = let low = leads_among rest e h m in omega (arith, low)

pub append_none : (xs : List Made) → xs ++ [] ≡ xs
append_none [] = refl
append_none (x ∷ xs) = ap (λ l. x ∷ l) (append_none xs)

nat_same : (a b : ℕ) → a ≡ b → nat_eq a b ≡ true
nat_same a b e = eq-eqb a b e

is_same : (p q : Pair) → q ≡ p → is_same_pair p q ≡ true
is_same p q e = ap₂ (λ x y. x && y) (nat_same p.0 q.0 (sym (ap (λ (r : Pair). r.0) e))) (nat_same p.1 q.1 (sym (ap (λ (r : Pair). r.1) e)))

passed : (b : Bool) (v : Option ℕ) (l : Option (Option ℕ)) → b ≡ false → l ≡ None → cond b (Some v) l ≡ None
passed true v l e none = absurd (cc e)
passed false v l e none = none

not_true : (b : Bool) → (b ≡ true → ⊥) → b ≡ false
not_true true refuted = absurd (refuted refl)
not_true false refuted = refl

-- a list lacks a pair that none of its entries has
pub lacks_from : (es : List Made) (p : Pair) → ((e : Made) → Among es e → e.0 ≡ p → ⊥) → Lacks es p
lacks_from [] p other = refl
lacks_from (x ∷ rest) p other =
    passed (is_same_pair p x.0) x.1 (lookup (is_same_pair p) rest)
    (not_true (is_same_pair p x.0) (λ e. other x (inl refl) (sym (same_pair p x.0 e))))
    (lacks_from rest p (λ e h. other e (inr h)))

taken : (b : Bool) (v : Option ℕ) (l : Option (Option ℕ)) → cond b (Some v) l ≡ None → (b ≡ false) × (l ≡ None)
taken true v l e = absurd (cc e)
taken false v l e = (refl, e)

pub lacks_each : (es : List Made) (p : Pair) → Lacks es p → (e : Made) → Among es e → e.0 ≡ p → ⊥
lacks_each [] p lacks e h is = absurd h
lacks_each (x ∷ rest) p lacks e (inl this) is =
    let t = taken (is_same_pair p x.0) x.1 (lookup (is_same_pair p) rest) lacks in
    let pair : x.0 ≡ p = ap (λ (m : Made). m.0) this ∙ is in
    let no : false ≡ true = sym t.0 ∙ is_same p x.0 pair in
    cc no
lacks_each (x ∷ rest) p lacks e (inr h) is = lacks_each rest p (taken (is_same_pair p x.0) x.1 (lookup (is_same_pair p) rest) lacks).1 e h is
