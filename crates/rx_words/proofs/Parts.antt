-- The files that parts name, and words that say nothing.
use Rattle.std.proofs.Common.{◌≡◌, ◌∙◌, Bool, true, false, not, ◌==◌, ◌&&◌, ◌||◌, List, [], ◌∷◌, codes, Option, Some, None, refl, ap, sym, true≢false}
use Rattle.std.specs.Prelude.{if◌then◌else◌, option_and_then}
use Rattle.std.specs.List.{list_all}
use Rattle.std.specs.Str.{bytes_eq}
use Rattle.clap.proofs.OnLiterals.{clap_on_literals}
use Rattle.rx_words.specs.Words.{Word, Part, at_most_one, files, operands, parts_of, part_alone, part_behind, with_part}
use Rattle.rx_words.specs.Words.Part.{operand, statistics}
use Rattle.rx_words.specs.Reading.{Slots, is_usual}
use Rattle.rx_words.proofs.Forms.{clash, same}
use Rattle.rx_words.proofs.Walk.{first, goes}

-- the operands, of which there are at most three, and the file
abbrev pub slots : List Word → Option Word → Option Slots
slots [] file = Some (record { first = None; second = None; third = None; statistics = file })
slots (a ∷ []) file = Some (record { first = Some a; second = None; third = None; statistics = file })
slots (a ∷ b ∷ []) file = Some (record { first = Some a; second = Some b; third = None; statistics = file })
slots (a ∷ b ∷ c ∷ []) file = Some (record { first = Some a; second = Some b; third = Some c; statistics = file })
slots (a ∷ b ∷ c ∷ d ∷ words) file = None

-- four operands are too many
over : (o : Option (Option Word)) → None ≡ option_and_then {T = Option Word} {U = Slots} (λ file. None) o
over None = refl
over (Some file) = refl

pub given : (ps : List Part) → goes ps first [] ≡ option_and_then (slots (operands ps)) (at_most_one (files ps))
unfolding clap_on_literals
given [] = refl
given (operand a ∷ []) = refl
given (operand a ∷ operand b ∷ []) = refl
given (operand a ∷ operand b ∷ operand c ∷ []) = refl
given (operand a ∷ operand b ∷ operand c ∷ operand d ∷ ps) = over (at_most_one (files ps))
given (operand a ∷ operand b ∷ operand c ∷ statistics f ∷ []) = refl
given (operand a ∷ operand b ∷ operand c ∷ statistics f ∷ operand d ∷ ps) = over (at_most_one (f ∷ files ps))
given (operand a ∷ operand b ∷ operand c ∷ statistics f ∷ statistics g ∷ ps) = refl
given (operand a ∷ operand b ∷ statistics f ∷ []) = refl
given (operand a ∷ operand b ∷ statistics f ∷ operand c ∷ []) = refl
given (operand a ∷ operand b ∷ statistics f ∷ operand c ∷ operand d ∷ ps) = over (at_most_one (f ∷ files ps))
given (operand a ∷ operand b ∷ statistics f ∷ operand c ∷ statistics g ∷ ps) = refl
given (operand a ∷ operand b ∷ statistics f ∷ statistics g ∷ ps) = refl
given (operand a ∷ statistics f ∷ []) = refl
given (operand a ∷ statistics f ∷ operand b ∷ []) = refl
given (operand a ∷ statistics f ∷ operand b ∷ operand c ∷ []) = refl
given (operand a ∷ statistics f ∷ operand b ∷ operand c ∷ operand d ∷ ps) = over (at_most_one (f ∷ files ps))
given (operand a ∷ statistics f ∷ operand b ∷ operand c ∷ statistics g ∷ ps) = refl
given (operand a ∷ statistics f ∷ operand b ∷ statistics g ∷ ps) = refl
given (operand a ∷ statistics f ∷ statistics g ∷ ps) = refl
given (statistics f ∷ []) = refl
given (statistics f ∷ operand a ∷ []) = refl
given (statistics f ∷ operand a ∷ operand b ∷ []) = refl
given (statistics f ∷ operand a ∷ operand b ∷ operand c ∷ []) = refl
given (statistics f ∷ operand a ∷ operand b ∷ operand c ∷ operand d ∷ ps) = over (at_most_one (f ∷ files ps))
given (statistics f ∷ operand a ∷ operand b ∷ operand c ∷ statistics g ∷ ps) = refl
given (statistics f ∷ operand a ∷ operand b ∷ statistics g ∷ ps) = refl
given (statistics f ∷ operand a ∷ statistics g ∷ ps) = refl
given (statistics f ∷ statistics g ∷ ps) = refl

-- ---- words that are not usual

nothing_alone : (word : Word) → is_usual word ≡ false → part_alone word ≡ None
nothing_alone [] e = refl
nothing_alone (a ∷ []) e = go (a == 45) refl e
  where
    go : (x : Bool) → (a == 45) ≡ x → not x ≡ false → part_alone (a ∷ []) ≡ None
    go true p e = rw p refl
    go false p e = absurd (true≢false e)
nothing_alone (a ∷ b ∷ []) e = go (a == 45) refl (b == 45) refl e
  where
    go : (x : Bool) → (a == 45) ≡ x → (y : Bool) → (b == 45) ≡ y → not x ≡ false → part_alone (a ∷ b ∷ []) ≡ None
    go true p true q e = rw (p, q) refl
    go true p false q e = rw (p, q) refl
    go false p y q e = absurd (true≢false e)
nothing_alone (a ∷ b ∷ c ∷ cs) e = go (a == 45) refl (b == 45) refl (bytes_eq (a ∷ b ∷ c ∷ cs) (codes "--stats=")) refl e
  where
    go : (x : Bool) → (a == 45) ≡ x → (y : Bool) → (b == 45) ≡ y → (z : Bool) → bytes_eq (a ∷ b ∷ c ∷ cs) (codes "--stats=") ≡ z
        → (not x || (y && not z)) ≡ false → part_alone (a ∷ b ∷ c ∷ cs) ≡ None
    go x p y q true r e = ap part_alone (same (a ∷ b ∷ c ∷ cs) (codes "--stats=") r)
    go true p true q false r e = absurd (true≢false e)
    go true p false q false r e = rw (p, q) refl
    go false p y q false r e = absurd (true≢false e)

-- a plain word is usual
nothing_behind : (word : Word) → is_usual word ≡ false → part_behind word ≡ None
nothing_behind [] e = refl
nothing_behind (a ∷ []) e = ap (λ b. if b then Some (statistics (a ∷ [])) else None) e
nothing_behind (a ∷ b ∷ []) e = ap (λ x. if x then Some (statistics (a ∷ b ∷ [])) else None) e
nothing_behind (a ∷ b ∷ c ∷ cs) e = go (not (a == 45)) e
  where
    go : (x : Bool) → (x || (b == 45 && not (bytes_eq (a ∷ b ∷ c ∷ cs) (codes "--stats=")))) ≡ false → (if x then Some (statistics (a ∷ b ∷ c ∷ cs)) else None) ≡ None
    go true e = absurd (true≢false e)
    go false e = refl

part_of_none : (part : Option Part) → with_part part None ≡ None
part_of_none None = refl
part_of_none (Some part) = refl

first_off : (b : Bool) → (b && true) ≡ false → b ≡ false
first_off true e = e
first_off false e = refl

-- where a word isn't usual, the words say nothing
pub not_usual : (words : List Word) → list_all is_usual words ≡ false → parts_of words ≡ None
unfolding parts_of
not_usual [] e = absurd (true≢false e)
not_usual (word ∷ []) e = ap (λ part. with_part part (Some [])) (nothing_alone word (first_off (is_usual word) e))
not_usual (word ∷ next ∷ rest) e =
    go (bytes_eq word (codes "--stats")) refl (is_usual word) refl (is_usual next) refl e (not_usual rest) (not_usual (next ∷ rest))
  where
    go : (b : Bool) → bytes_eq word (codes "--stats") ≡ b → (x : Bool) → is_usual word ≡ x → (y : Bool) → is_usual next ≡ y
        → (x && (is_usual next && list_all is_usual rest)) ≡ false → (list_all is_usual rest ≡ false → parts_of rest ≡ None)
        → ((is_usual next && list_all is_usual rest) ≡ false → parts_of (next ∷ rest) ≡ None)
        → (if b then with_part (part_behind next) (parts_of rest) else with_part (part_alone word) (parts_of (next ∷ rest))) ≡ None
    go true p false q y r e later more = absurd (clash _ (ap is_usual (same word (codes "--stats") p)) q)
    go true p true q false r e later more = ap (λ part. with_part part (parts_of rest)) (nothing_behind next r)
    go true p true q true r e later more =
        let none_left : list_all is_usual rest ≡ false = sym (ap (λ b. b && list_all is_usual rest) r) ∙ e in
        ap (with_part (part_behind next)) (later none_left) ∙ part_of_none (part_behind next)
    go false p false q y r e later more = ap (λ part. with_part part (parts_of (next ∷ rest))) (nothing_alone word q)
    go false p true q y r e later more = ap (with_part (part_alone word)) (more e) ∙ part_of_none (part_alone word)
