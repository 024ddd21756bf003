-- What a read takes from the records that are left.
use Rattle.std.proofs.Common.{◌≡◌, inl, inr, ◌<◌, ℕ, zero, suc, ◌+◌, Bool, true, false, List, [], ◌∷◌, length, Option, Some, None, IsSome, arith, refl, ap, subst, sym, ◌∙◌}
use Rattle.std.specs.Borrow.{Bor}
use Rattle.csv.specs.Machine.{Read, next_record}
use Rattle.csv.specs.Reading.{records_from, records_next, default_config, NextIs, ReadsNext, ReadRecord, pending_of}
use Rattle.csv.specs.declared.parser.State.{State}
use Rattle.csv.specs.declared.parser.State.TheVariants as st
use Rattle.csv.specs.declared.reader.Reader.{Reader}
use Rattle.rx_data.specs.Records.{unread, records_after, records_in, records_left, IsPlain, Takes}
use Rattle.rx_data.proofs.Function.{next-shorter, none_at_end}

abbrev Records : Type 0
Records = List (List (List ℕ))

-- at the end there are no records, however many are asked for
ended_left : (n : ℕ) → records_from default_config n st.StartRecord [] ≡ []
unfolding records_from
ended_left zero = refl
ended_left (suc n) = rw (none_at_end default_config) refl

ended_same : (n m : ℕ) (p : Read) → (p.1 ≡ st.StartRecord) × (p.2 ≡ []) → records_from default_config n p.1 p.2 ≡ records_from default_config m p.1 p.2
ended_same n m p e =
    let P : State → List ℕ → Type 0 = λ s x. records_from default_config n s x ≡ records_from default_config m s x in
    subst (λ s. P s p.2) (sym e.0) (subst (λ x. P st.StartRecord x) (sym e.1) (ended_left n ∙ sym (ended_left m)))

-- one record and the same ones after it
step_same : (n m : ℕ) (o : Option Read) → ((p : Read) → o ≡ Some p → records_from default_config n p.1 p.2 ≡ records_from default_config m p.1 p.2) → records_next (records_from default_config n) o ≡ records_next (records_from default_config m) o
step_same n m None h = refl
step_same n m (Some p) h = ap (λ (rs : Records). p.0 ∷ rs) (h p refl)

-- more turns than bytes read no more records
enough : (n m : ℕ) (s : State) (xs : List ℕ) → length xs < n → length xs < m → records_from default_config n s xs ≡ records_from default_config m s xs
unfolding records_from
enough zero m s xs a b = absurd (omega (arith, a))
enough (suc n) zero s xs a b = absurd (omega (arith, b))
enough (suc n) (suc m) s xs a b =
    step_same n m (next_record default_config s [] [] xs)
    (λ p is. elim (next-shorter default_config s [] [] xs p is) [
      | inl l ↦ enough n m p.1 p.2 (omega (arith, l, a)) (omega (arith, l, b))
      | inr e ↦ ended_same n m p e
    ])

first_left : (n : ℕ) (s : State) (xs : List ℕ) (o : Option Read) → next_record default_config s [] [] xs ≡ o → records_from default_config (suc n) s xs ≡ records_next (records_from default_config n) o
unfolding records_from
first_left n s xs o e = ap (records_next (records_from default_config n)) e

taken : (n : ℕ) (s : State) (xs : List ℕ) (p : Read) → length xs ≡ n → next_record default_config s [] [] xs ≡ Some p → records_from default_config (suc n) s xs ≡ p.0 ∷ records_after p.1 p.2
taken n s xs p same is =
    first_left n s xs (Some p) is
    ∙ ap (λ (rs : Records). p.0 ∷ rs) (elim (next-shorter default_config s [] [] xs p is) [
      | inl l ↦ enough n (length p.2 + 1) p.1 p.2 (omega (arith, l, same)) (omega arith)
      | inr e ↦ ended_same n (length p.2 + 1) p e
    ])

turns : (s : State) (xs : List ℕ) → records_after s xs ≡ records_from default_config (suc (length xs)) s xs
turns s xs = enough (length xs + 1) (suc (length xs)) s xs (omega arith) (omega arith)

next_taken : (s s2 : State) (xs ys fields0 : List ℕ) (found : Bool) (fields : List (List ℕ)) (o : Option Read) → next_record default_config s [] [] xs ≡ o → NextIs o found fields s2 ys → Takes found fields (records_after s xs) (records_after s2 ys)
next_taken s s2 xs ys fields0 true fields None is h = absurd (cc h)
next_taken s s2 xs ys fields0 false fields None is h = turns s xs ∙ first_left (length xs) s xs None is
next_taken s s2 xs ys fields0 false fields (Some p) is (h, _, _, _) = absurd (cc h)
next_taken s s2 xs ys fields0 true fields (Some p) is (h, f, state, rest) =
    turns s xs ∙ taken (length xs) s xs p refl is ∙ rw (f, state, rest) refl

record Took (s2 : State) (after : Option (List ℕ)) (found : Bool) (fields : List (List ℕ)) (before : Records) : Type 0 where
  known : IsSome after
  takes : Takes found fields before (records_in s2 after)

read_taken : (s s2 : State) (left after : Option (List ℕ)) (found : Bool) (fields : List (List ℕ)) → IsSome left → ReadsNext default_config s left after found fields s2 → Took s2 after found fields (records_in s left)
read_taken s s2 None after found fields known h = absurd (cc known)
read_taken s s2 (Some xs) None found fields known h = absurd h
read_taken s s2 (Some xs) (Some ys) found fields known h =
    record { known = cc; takes = next_taken s s2 xs ys [] found fields (next_record default_config s [] [] xs) refl h }

-- what a read of a plain reader takes
pub taken_by : (a b : Reader (Bor (List ℕ))) (found : Bool) (fields : List (List ℕ)) → IsPlain a → ReadRecord (λ (s : Bor (List ℕ)). Some s.now) a b found fields → Takes found fields (records_left a) (records_left b)
taken_by a b found fields p r =
    let after : Option (List ℕ) = pending_of (Some b.rdr.now) b in
    let read : ReadsNext default_config a.state (unread a) after found fields b.state = rw p.config at r.0 in
    let took : Took b.state after found fields (records_left a) = read_taken a.state b.state (unread a) after found fields p.known read in
    rw r.1 took.takes
