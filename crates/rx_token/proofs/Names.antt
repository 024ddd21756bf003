-- A quoted name is its bytes with each backquote doubled, up to the next single backquote.
use Rattle.std.proofs.Common.{◌≡◌, ℕ, ◌+◌, true, false, cond, ◌==◌, List, [], ◌∷◌, ◌++◌, length, Option, Some, None, refl, sym, ap, subst, ◌∙◌, arith, inl, inr}
use Rattle.std.specs.Prelude.{IfSome}
use Rattle.std.specs.List.{list_all}
use Rattle.std.proofs.lemmas.Bool.{cond_both, and_parts, and_from, cases_Bool, eqb-true, not-true}
use Rattle.rx_token.specs.Quotes.{with_front, is_name_byte, name_in, doubled, begins_without, IsNameIn}
use Rattle.rx_token.proofs.Steps.{name_step}

end_alone : (b : ℕ) → (b == 96) ≡ true → IsNameIn (b ∷ []) ([], 1)
end_alone b e = ([], rw (eqb-true b 96 e) refl, refl, refl, omega arith)

end_before : (b c : ℕ) (bs : List ℕ) → (b == 96) ≡ true → (c == 96) ≡ false → IsNameIn (b ∷ c ∷ bs) ([], 1)
end_before b c bs e f = (c ∷ bs, rw (eqb-true b 96 e) refl, rw f refl, refl, omega arith)

with_doubled : (b c : ℕ) (bs : List ℕ) (x : List ℕ × ℕ) → (b == 96) ≡ true → (c == 96) ≡ true → IsNameIn bs x → IsNameIn (b ∷ c ∷ bs) (96 ∷ x.0, 2 + x.1)
with_doubled b c bs x e f h =
    let first : b ≡ 96 = eqb-true b 96 e in
    let second : c ≡ 96 = eqb-true c 96 f in
    let same = h.1 in
    let width = h.4 in
    (h.0, cc, h.2, h.3, omega arith)

with_plain : (b c : ℕ) (bs : List ℕ) (x : List ℕ × ℕ) → (b == 96) ≡ false → is_name_byte b ≡ true → IsNameIn (c ∷ bs) x → IsNameIn (b ∷ c ∷ bs) (b ∷ x.0, 1 + x.1)
with_plain b c bs x e f h =
    let width = h.4 in
    (h.0, rw e (ap (λ (t : List ℕ). b ∷ t) h.1), h.2, and_from _ _ f h.3, rw e (omega arith))

front_name : (bytes small text : List ℕ) (n : ℕ) (o : Option (List ℕ × ℕ)) → ((x : List ℕ × ℕ) → IsNameIn small x → IsNameIn bytes (text ++ x.0, n + x.1)) → IfSome o (IsNameIn small) → IfSome (with_front text n o) (IsNameIn bytes)
front_name bytes small text n None step h = tt
front_name bytes small text n (Some x) step h = step x h

names : (bytes : List ℕ) → IfSome (name_in bytes) (IsNameIn bytes)
unfolding name_in
names [] = tt
names (b ∷ []) = cond_both (b == 96) (Some ([], 1)) None (λ o. IfSome o (IsNameIn (b ∷ []))) (end_alone b) (λ e. tt)
names (b ∷ c ∷ bs) =
    cond_both (b == 96) (cond (c == 96) (with_front (96 ∷ []) 2 (name_in bs)) (Some ([], 1))) (cond (is_name_byte b) (with_front (b ∷ []) 1 (name_in (c ∷ bs))) None) (λ o. IfSome o (IsNameIn (b ∷ c ∷ bs)))
    (λ e. cond_both (c == 96) (with_front (96 ∷ []) 2 (name_in bs)) (Some ([], 1)) (λ o. IfSome o (IsNameIn (b ∷ c ∷ bs)))
    (λ f. front_name (b ∷ c ∷ bs) bs (96 ∷ []) 2 (name_in bs) (λ x h. with_doubled b c bs x e f h) (names bs))
    (λ f. end_before b c bs e f))
    (λ e. cond_both (is_name_byte b) (with_front (b ∷ []) 1 (name_in (c ∷ bs))) None (λ o. IfSome o (IsNameIn (b ∷ c ∷ bs)))
    (λ f. front_name (b ∷ c ∷ bs) (c ∷ bs) (b ∷ []) 1 (name_in (c ∷ bs)) (λ x h. with_plain b c bs x e f h) (names (c ∷ bs)))
    (λ f. tt))

pub name_only : (bytes : List ℕ) (x : List ℕ × ℕ) → name_in bytes ≡ Some x → IsNameIn bytes x
name_only bytes x e = subst (λ (o : Option (List ℕ × ℕ)). IfSome o (IsNameIn bytes)) e (names bytes)

ends : (rest : List ℕ) → begins_without 96 rest ≡ true → name_in (96 ∷ rest) ≡ Some ([], 1)
unfolding name_in
ends [] h = refl
ends (r ∷ rs) h = rw (not-true (r == 96) h) refl

found_same : (a b : List ℕ) (m n : ℕ) → a ≡ b → m ≡ n → ◌≡◌ {A = Option (List ℕ × ℕ)} (Some (a, m)) (Some (b, n))
found_same a b m n e f = cc

-- a name, doubled, is read up to the backquote behind it
pub reads : (name rest : List ℕ) → begins_without 96 rest ≡ true → list_all is_name_byte name ≡ true → name_in (doubled name ++ 96 ∷ rest) ≡ Some (name, length (doubled name) + 1)
unfolding name_in
reads [] rest h all = ends rest h
reads (n ∷ ns) rest h all =
    let parts = and_parts (is_name_byte n) (list_all is_name_byte ns) all in
    let behind = reads ns rest h parts.1 in
    elim (cases_Bool (n == 96)) [
      | inl e ↦ rw (e, behind) (found_same (96 ∷ ns) (n ∷ ns) (2 + (length (doubled ns) + 1)) (length (96 ∷ 96 ∷ doubled ns) + 1) (ap (λ (b : ℕ). b ∷ ns) (sym (eqb-true n 96 e))) (omega arith))
      | inr e ↦ rw e (name_step n (doubled ns ++ 96 ∷ rest) e parts.0 ∙ ap (with_front (n ∷ []) 1) behind ∙ found_same (n ∷ ns) (n ∷ ns) (1 + (length (doubled ns) + 1)) (length (n ∷ doubled ns) + 1) refl (omega arith))
    ]

pub name_all : (bytes : List ℕ) (x : List ℕ × ℕ) → IsNameIn bytes x → name_in bytes ≡ Some x
name_all bytes x h = ap name_in h.1 ∙ reads x.0 h.0 h.2 h.3 ∙ found_same x.0 x.0 (length (doubled x.0) + 1) x.1 refl (sym h.4)
