-- One item more, and the end of the items: what a loop over items keeps.
use Rattle.std.proofs.Common.{◌≡◌, ℕ, zero, suc, ◌<◌, ◌≤◌, List, [], ◌∷◌, ◌++◌, length, Option, Some, None, refl, sym, ap, ◌∙◌, append_assoc, arith}
use Rattle.std.proofs.lemmas.List.{append-nil}
use Rattle.std.specs.Option.{option_and_then}
use Rattle.rx_token.specs.declared.kinds.Token.{Token}
use Rattle.rx_reading.specs.Reading.{Reader, next_at, more_at, next_of, all_at, items_at, gathered}

abbrev pub whole : {A : Type 0} → List A × List Token → Option (List A × List Token)
whole m = Some m

-- What is read so far and what is still to be read are the target.
pub record Going {A : Type 0} (after : List Token → Option (List Token)) (p : Reader A) (target : Option (List A × List Token)) (items : List A) (rest : List Token) : Type 0 where
  pub fuel : ℕ
  pub enough : length rest ≤ fuel
  pub same : whole (gathered items (more_at after p fuel rest)) ≡ target

-- whatever is read before the first separator
pub started : {A : Type 0} (after : List Token → Option (List Token)) (p : Reader A) (items : List A) (tokens : List Token) → Going after p (all_at after p items tokens) items tokens
started after p items tokens = record { fuel = length tokens; enough = omega arith; same = refl }

-- the first item is read
pub begins : {A : Type 0} (after : List Token → Option (List Token)) (p : Reader A) (tokens start : List Token) (x : A) → Some (x, start) ≡ p tokens → Going after p (items_at after p tokens) (x ∷ []) start
unfolding items_at
begins after p tokens start x read = record {
  fuel = length start;
  enough = omega arith;
  same = ap (option_and_then (λ y. all_at after p (y.0 ∷ []) y.1)) read;
}

-- the first item is read, and then all others
pub first_read : {A : Type 0} (after : List Token → Option (List Token)) (p : Reader A) (tokens start : List Token) (x : A) (read : List A × List Token) → Some (x, start) ≡ p tokens → Some read ≡ all_at after p (x ∷ []) start → Some read ≡ items_at after p tokens
unfolding items_at
first_read after p tokens start x read first all = all ∙ ap (option_and_then (λ y. all_at after p (y.0 ∷ []) y.1)) first

-- nothing is read at the front
pub nothing : {A : Type 0} (after : List Token → Option (List Token)) (p : Reader A) (tokens : List Token) → None ≡ p tokens → None ≡ items_at after p tokens
unfolding items_at
nothing after p tokens read = ap (option_and_then (λ y. all_at after p (y.0 ∷ []) y.1)) read

-- an item more
more_on : {A : Type 0} (after : List Token → Option (List Token)) (p : Reader A) (items : List A) (fuel : ℕ) (here rest : List Token) (x : A) → Some (x, rest) ≡ next_at after p here → gathered items (more_at after p (suc fuel) here) ≡ gathered (items ++ x ∷ []) (more_at after p fuel rest)
unfolding more_at
more_on {A} after p items fuel here rest x read =
    ap (λ (o : Option (A × List Token)). gathered items (next_of here (more_at after p fuel) o)) (sym read)
    ∙ ap (λ (xs : List A). (xs, (more_at after p fuel rest).1)) (sym (append_assoc items (x ∷ []) (more_at after p fuel rest).0))

on_at : {A : Type 0} (after : List Token → Option (List Token)) (p : Reader A) (target : Option (List A × List Token)) (items : List A) (here rest : List Token) (x : A) (fuel : ℕ) → length here ≤ fuel → whole (gathered items (more_at after p fuel here)) ≡ target → Some (x, rest) ≡ next_at after p here → length rest < length here → Going after p target (items ++ x ∷ []) rest
on_at after p target items here rest x zero enough same read shorter = absurd (omega arith)
on_at after p target items here rest x (suc fuel) enough same read shorter = record {
  fuel = fuel;
  enough = omega arith;
  same = ap whole (sym (more_on after p items fuel here rest x read)) ∙ same;
}

-- an item more behind what stands before it
pub goes_on : {A : Type 0} (after : List Token → Option (List Token)) (p : Reader A) (target : Option (List A × List Token)) (items : List A) (here rest : List Token) (x : A) → Going after p target items here → Some (x, rest) ≡ next_at after p here → length rest < length here → Going after p target (items ++ x ∷ []) rest
goes_on after p target items here rest x so_far read shorter =
    on_at after p target items here rest x so_far.fuel so_far.enough so_far.same read shorter

-- no item more
ends_at : {A : Type 0} (after : List Token → Option (List Token)) (p : Reader A) (items : List A) (here : List Token) (fuel : ℕ) → None ≡ next_at after p here → gathered items (more_at after p fuel here) ≡ gathered items ([], here)
unfolding more_at
ends_at after p items here zero is = refl
ends_at {A} after p items here (suc fuel) is = ap (λ (o : Option (A × List Token)). gathered items (next_of here (more_at after p fuel) o)) (sym is)

-- no item follows any more
pub ends : {A : Type 0} (after : List Token → Option (List Token)) (p : Reader A) (target : Option (List A × List Token)) (items : List A) (here : List Token) → Going after p target items here → None ≡ next_at after p here → whole (items, here) ≡ target
ends {A} after p target items here so_far is =
    ap (λ (xs : List A). whole (xs, here)) (sym (append-nil items))
    ∙ ap whole (sym (ends_at after p items here so_far.fuel is)) ∙ so_far.same

-- what is made of the items
abbrev pub made : {A B : Type 0} → (List A → B) → List A × List Token → Option (B × List Token)
made f x = Some (f x.0, x.1)

pub chained : {A B : Type 0} (f : List A → B) (items : List A) (here : List Token) (read : Option (List A × List Token)) → whole (items, here) ≡ read → made f (items, here) ≡ option_and_then (made f) read
chained f items here read is = ap (option_and_then (made f)) is

pub chained_none : {A B : Type 0} (f : List A → B) (read : Option (List A × List Token)) → None ≡ read → None ≡ option_and_then (made f) read
chained_none f read is = ap (option_and_then (made f)) is
