-- How many marks there are, against lists of numbers.
use Rattle.std.proofs.Common.{◌≡◌, ◌⊎◌, inl, inr, ◌+◌, ◌<◌, ◌≤◌, arith, ℕ, zero, suc, Bool, true, false, cond, List, [], ◌∷◌, length, set, Some, None, refl, ap, sym, ◌∙◌, subst}
use Rattle.std.specs.List.{count_by, IsDistinct, AllByRecursion}
use Rattle.std.specs.Map.{keys_of}
use Rattle.std.proofs.lemmas.List.Sums.{sum_by-cons}
use Rattle.rx_level.specs.Store.{owed}
use Rattle.rx_level.specs.Under.{IsMarked}
use Rattle.rx_level.proofs.Counts.{leads_unlike}
use Rattle.rx_graft.specs.Made.{Place, is_same_place, Made, Among, AreDifferent, handles_of}
use Rattle.rx_graft.proofs.ListedLinks.{is_same}

-- how many marks a list has
abbrev pub marks_in : List Bool → ℕ
marks_in marks = count_by (λ marked. marked) marks

pub count-cons : (b : Bool) (bs : List Bool) → marks_in (b ∷ bs) ≡ cond b 1 0 + marks_in bs
count-cons b bs = sum_by-cons (λ x. cond x 1 0) b bs

one_mark : (b : Bool) → cond b 1 0 ≤ 1
one_mark true = omega arith
one_mark false = omega arith

-- one mark less, at most
less_one : (marks : List Bool) (k : ℕ) → marks_in marks ≤ marks_in (set marks k false) + 1
less_one [] k = omega arith
less_one (b ∷ bs) zero = omega (arith, count-cons b bs, count-cons false bs, one_mark b)
less_one (b ∷ bs) (suc k) = omega (arith, count-cons b bs, count-cons b (set bs k false), less_one bs k)

mark_one : (b : Bool) → b ≡ true → cond {A = ℕ} b 1 0 ≡ 1
mark_one true e = refl
mark_one false e = absurd (cc e)

-- and just one where there was one
taken_one : (marks : List Bool) (k : ℕ) → IsMarked marks k → marks_in (set marks k false) + 1 ≡ marks_in marks
taken_one [] k marked = let no : false ≡ true = marked in absurd (cc no)
taken_one (b ∷ bs) zero marked = omega (arith, count-cons b bs, count-cons false bs, mark_one b marked)
taken_one (b ∷ bs) (suc k) marked = omega (arith, count-cons b bs, count-cons b (set bs k false), taken_one bs k marked)

kept_mark : (marks : List Bool) (k m : ℕ) → (m ≡ k → ⊥) → IsMarked marks m → IsMarked (set marks k false) m
kept_mark [] k m other marked = marked
kept_mark (b ∷ bs) zero zero other marked = absurd (other refl)
kept_mark (b ∷ bs) zero (suc m) other marked = marked
kept_mark (b ∷ bs) (suc k) zero other marked = marked
kept_mark (b ∷ bs) (suc k) (suc m) other marked = kept_mark bs k m (λ e. other (ap suc e)) marked

was_mark : (marks : List Bool) (k m : ℕ) → IsMarked (set marks k false) m → (m ≡ k → ⊥) × IsMarked marks m
was_mark [] k m marked = let no : false ≡ true = marked in absurd (cc no)
was_mark (b ∷ bs) zero zero marked = let no : false ≡ true = marked in absurd (cc no)
was_mark (b ∷ bs) zero (suc m) marked = ((λ e. absurd (cc e)), marked)
was_mark (b ∷ bs) (suc k) zero marked = ((λ e. absurd (cc e)), marked)
was_mark (b ∷ bs) (suc k) (suc m) marked = let w = was_mark bs k m marked in ((λ e. w.0 (cc e)), w.1)

-- no entry has the number of an earlier one
abbrev pub Apart : List Made → Type 0
Apart [] = Unit {0}
Apart (x ∷ rest) = ((e : Made) → Among rest e → e.0.0 ≡ x.0.0 → ⊥) × Apart rest

-- numbers with marks that are all different are no more than the marks
pub few_numbers : (es : List Made) (marks : List Bool) → Apart es → ((e : Made) → Among es e → IsMarked marks e.0.0) → length es ≤ marks_in marks
few_numbers [] marks apart marked = omega arith
few_numbers (x ∷ rest) marks apart marked =
    let less = few_numbers rest (set marks x.0.0 false) apart.1 (λ e h. kept_mark marks x.0.0 e.0.0 (apart.0 e h) (marked e (inr h))) in
    let one = taken_one marks x.0.0 (marked x (inl refl)) in
    omega (arith, less, one)

-- where a number tells its place, entries of different places have different numbers
later_differ : (p : Place) (rest : List Made) → AllByRecursion (λ q. is_same_place p q ≡ false) (keys_of rest) → (e : Made) → Among rest e → is_same_place p e.0 ≡ false
later_differ p [] all e h = absurd h
later_differ p (x ∷ rest) all e (inl is) = subst (λ (m : Made). is_same_place p m.0 ≡ false) is all.0
later_differ p (x ∷ rest) all e (inr h) = later_differ p rest all.1 e h

pub numbers_apart : (es : List Made) → AreDifferent es → ((e f : Made) → Among es e → Among es f → e.0.0 ≡ f.0.0 → e.0 ≡ f.0) → Apart es
unfolding IsDistinct
numbers_apart [] different tells = tt
numbers_apart (x ∷ rest) different tells = (
  (λ e h same.
      let place : e.0 ≡ x.0 = tells e x (inr h) (inl refl) same in
      let no : false ≡ true = sym (later_differ x.0 rest different.0 e h) ∙ is_same x.0 e.0 place in
      cc no),
  numbers_apart rest different.1 (λ e f h k. tells e f (inr h) (inr k)),
)

no_marks : (xs : List Bool) → ((m : ℕ) → IsMarked xs m → ⊥) → marks_in xs ≡ 0
no_marks [] none = refl
no_marks (true ∷ xs) none = absurd (none 0 refl)
no_marks (false ∷ xs) none = omega (arith, count-cons false xs, no_marks xs (λ m h. none (suc m) h))

mark_low : (a b : Bool) → (a ≡ true → b ≡ true) → cond a 1 0 ≤ cond b 1 0
mark_low true b sub = let e = mark_one b (sub refl) in omega (arith, e)
mark_low false b sub = omega arith

fewer_marks : (xs bs : List Bool) → ((m : ℕ) → IsMarked xs m → IsMarked bs m) → marks_in xs ≤ marks_in bs
fewer_marks [] bs sub = omega arith
fewer_marks (a ∷ xs) [] sub = omega (arith, no_marks (a ∷ xs) (λ m h. let no : false ≡ true = sub m h in cc no))
fewer_marks (a ∷ xs) (b ∷ bs) sub = omega (arith, count-cons a xs, count-cons b bs, mark_low a b (sub 0), fewer_marks xs bs (λ m h. sub (suc m) h))

-- marks of handles of a list, or of another list of marks, are no more than both
pub few_marks : (es : List Made) (xs bs : List Bool) → ((m : ℕ) → IsMarked xs m → (0 < owed m (handles_of es)) ⊎ IsMarked bs m) → marks_in xs ≤ length es + marks_in bs
few_marks [] xs bs sub = omega (arith, fewer_marks xs bs (λ m h. elim (sub m h) [ inl more ↦ absurd (omega (arith, more)) | inr there ↦ there ]))
few_marks ((p, None) ∷ rest) xs bs sub = omega (arith, few_marks rest xs bs (λ m h. elim (sub m h) [ inl more ↦ inl (omega (arith, more)) | inr there ↦ inr there ]))
few_marks ((p, Some k) ∷ rest) xs bs sub =
    let less = few_marks rest (set xs k false) bs (λ m h.
    let w = was_mark xs k m h in
    elim (sub m w.1) [ inl more ↦ inl (omega (arith, more, leads_unlike m k w.0)) | inr there ↦ inr there ]) in
    omega (arith, less, less_one xs k)
