-- What `clap` makes of usual words, by what they say.
use Rattle.std.proofs.Common.{◌≡◌, ◌∙◌, ℕ, Bool, true, false, not, cond, ◌==◌, ◌&&◌, List, [], ◌∷◌, ◌++◌, take, drop, codes, Option, Some, None, refl, ap, ap₂, sym, subst, inl, inr, unwrap_or}
use Rattle.std.specs.Prelude.{fold, if◌then◌else◌}
use Rattle.std.specs.List.{before_first, list_all}
use Rattle.std.specs.Str.{bytes_eq}
use Rattle.clap.specs.Words.{Row, Rule, Kinds, built, new_rule}
use Rattle.clap.specs.Walk.{Held, Walk, arg_by_index, arg_by_long, finished, is_pending, pushed, reacted, settled, to_positional, used, walked, with_default}
use Rattle.clap.specs.Walk.Waiting.{idle, option}
use Rattle.clap.specs.Walk.Step.{value}
use Rattle.clap.specs.Simple.{Shape}
use Rattle.clap.specs.Kinds.{or_else}
use Rattle.clap.specs.Faults.{check_fault, defaults_fault, long_fault, settle_fault, step_fault, turn_fault, use_fault, walk_fault}
use Rattle.rx_words.specs.Words.{Word, Part, attached, part_alone, part_behind, parts_of, with_part}
use Rattle.rx_words.specs.Words.Part.{operand, statistics}
use Rattle.rx_words.specs.Reading.{Slots, is_usual, words_app, taken}
use Rattle.rx_words.proofs.Forms.{begins_so, both, clash, is_equals, IsEither, other_name, same, usual_form}

abbrev pub shape : Shape
shape = (built words_app).top

abbrev pub rules : List Rule
rules = shape.rules

abbrev pub at_index : ℕ → Rule
at_index i = unwrap_or (arg_by_index rules i) (new_rule [])

abbrev pub stats_built : Rule
stats_built = unwrap_or (arg_by_long rules (codes "stats")) (new_rule [])

-- ---- the answer from a place in the words on

-- how many operands were met
pub data Place : Type 0 where
  first : Place
  second : Place
  third : Place
  full : Place

abbrev number : Place → ℕ
number first = 1
number second = 2
number third = 3
number full = 4

abbrev pub at : Held → Place → Walk
at h p = record { held = h; waiting = idle; position = number p; is_trailing = false; stopped = None }

-- the answer, where no kind stands before it
abbrev pub pass : Kinds → Option Slots → Option Slots
pass [] o = o
pass (k ∷ ks) o = None

-- the answer by the rows at the end
abbrev pub finish : List Row → Option Slots
finish rows = let all = fold with_default rows rules in taken (or_else (defaults_fault rows rules) (check_fault shape all false)) all

-- the answer by what the words say, with these rows before them
abbrev pub goes : List Part → Place → List Row → Option Slots
goes [] p rows = finish rows
goes (operand w ∷ ps) first rows = pass (use_fault false (at_index 1) (w ∷ []) rows) (goes ps second (used (at_index 1) (w ∷ []) rows))
goes (operand w ∷ ps) second rows = pass (use_fault false (at_index 2) (w ∷ []) rows) (goes ps third (used (at_index 2) (w ∷ []) rows))
goes (operand w ∷ ps) third rows = pass (use_fault false (at_index 3) (w ∷ []) rows) (goes ps full (used (at_index 3) (w ∷ []) rows))
goes (operand w ∷ ps) full rows = None
goes (statistics f ∷ ps) p rows = pass (use_fault false stats_built (f ∷ []) rows) (goes ps p (used stats_built (f ∷ []) rows))

abbrev pub said : Place → List Row → Option (List Part) → Option Slots
said p rows None = None
said p rows (Some ps) = goes ps p rows

abbrev pub fault_from : Walk → List Word → Kinds
fault_from w words =
    let end = (fold (walked rules []) w words).held in
    or_else (walk_fault shape [] w words) (or_else [] (or_else (settle_fault rules false end)
    (or_else (defaults_fault (settled rules end).rows rules) (check_fault shape (finished rules end) false))))

-- the answer of `clap` from here on
abbrev pub answer : Walk → List Word → Option Slots
answer w words = taken (fault_from w words) (finished rules (fold (walked rules []) w words).held)

-- ---- kinds

passed : (a b c : Kinds) (rows : List Row) → taken (or_else (or_else a b) c) rows ≡ pass a (taken (or_else b c) rows)
passed [] b c rows = refl
passed (k ∷ ks) b c rows = refl

settled_first : (a c : Kinds) (rows : List Row) → taken (or_else a c) rows ≡ pass a (taken c rows)
settled_first [] c rows = refl
settled_first (k ∷ ks) c rows = refl

pass_none : (a : Kinds) → pass a None ≡ None
pass_none [] = refl
pass_none (k ∷ ks) = refl

pass_then_none : (a : Kinds) (o : Option Slots) → pass (or_else a []) o ≡ pass a o
pass_then_none [] o = refl
pass_then_none (k ∷ ks) o = refl

pass_two : (a b : Kinds) (o : Option Slots) → pass (or_else (or_else a b) []) o ≡ pass a (pass b o)
pass_two [] b o = pass_then_none b o
pass_two (k ∷ ks) b o = refl

step : (w : Walk) (word : Word) (rest : List Word) → answer w (word ∷ rest) ≡ pass (turn_fault shape [] w word) (answer (walked rules [] w word) rest)
unfolding walk_fault
step w word rest = passed (turn_fault shape [] w word) (walk_fault shape [] (walked rules [] w word) rest) _ _

-- the claim, of the words from here on
abbrev pub Goes : List Word → Type 0
Goes words = (h : Held) (p : Place) → answer (at h p) words ≡ pass (settle_fault rules false h) (said p (settled rules h).rows (parts_of words))

pub at_end : Goes []
unfolding walk_fault parts_of
at_end h p = settled_first (settle_fault rules false h) _ _

-- the parts of a word and of the rest
abbrev GoesBy : Option Part → List Word → Word → Type 0
GoesBy part rest word = (h : Held) (p : Place)
    → answer (at h p) (word ∷ rest) ≡ pass (settle_fault rules false h) (said p (settled rules h).rows (with_part part (parts_of rest)))

-- a word that says nothing, and that `clap` refuses
nothing : (w : Walk) (word : Word) (rest : List Word) (a : Kinds) → pass (turn_fault shape [] w word) (answer (walked rules [] w word) rest) ≡ None
    → answer w (word ∷ rest) ≡ pass a None
nothing w word rest a e = step w word rest ∙ e ∙ sym (pass_none a)

-- ---- operands

choose : (b : Bool) (h k : Held) → (if b && false then h else k) ≡ k
choose true h k = refl
choose false h k = refl

choose_kinds : (b : Bool) (x y : Kinds) → (if b && false then x else y) ≡ y
choose_kinds true x y = refl
choose_kinds false x y = refl

-- the argument waits to be used with the word
abbrev put_off : Rule → Word → Held → Held
put_off r word h = record { rows = (settled rules h).rows; pending = Some (r.id, word ∷ []); skip = h.skip }

plain_step : (h : Held) (p : Place) (a : ℕ) (u : Word) → (a == 45) ≡ false
    → walked rules [] (at h p) (a ∷ u) ≡ to_positional rules (arg_by_index rules (number p)) (a ∷ u) (at h p) h
unfolding walked
plain_step h p a u e = rw e (rw e refl)

plain_turn : (h : Held) (p : Place) (a : ℕ) (u : Word) → (a == 45) ≡ false → turn_fault shape [] (at h p) (a ∷ u) ≡ step_fault shape (number p) h value
plain_turn h p a u e = rw e (rw e refl)

join_operand : (p q : Place) (r : Rule) (w : Word) (rows : List Row)
    → ((ps : List Part) → goes (operand w ∷ ps) p rows ≡ pass (use_fault false r (w ∷ []) rows) (goes ps q (used r (w ∷ []) rows)))
    → (o : Option (List Part)) → pass (use_fault false r (w ∷ []) rows) (said q (used r (w ∷ []) rows) o) ≡ said p rows (with_part (Some (operand w)) o)
join_operand p q r w rows h None = pass_none (use_fault false r (w ∷ []) rows)
join_operand p q r w rows h (Some ps) = sym (h ps)

join_statistics : (p : Place) (f : Word) (rows : List Row) (o : Option (List Part))
    → pass (use_fault false stats_built (f ∷ []) rows) (said p (used stats_built (f ∷ []) rows) o) ≡ said p rows (with_part (Some (statistics f)) o)
join_statistics p f rows None = pass_none (use_fault false stats_built (f ∷ []) rows)
join_statistics p f rows (Some ps) = refl

no_place : (w : Word) (rows : List Row) (o : Option (List Part)) → said full rows (with_part (Some (operand w)) o) ≡ None
no_place w rows None = refl
no_place w rows (Some ps) = refl

module _ (a : ℕ) (u : Word) (e : (a == 45) ≡ false) (rest : List Word) (later : Goes rest) where
  abbrev spoken : Word
  spoken = a ∷ u

  placed : (h : Held) (p q : Place) (r : Rule) → turn_fault shape [] (at h p) spoken ≡ settle_fault rules false h
      → walked rules [] (at h p) spoken ≡ at (put_off r spoken h) q
      → settle_fault rules false (put_off r spoken h) ≡ use_fault false r (spoken ∷ []) (settled rules h).rows
      → (settled rules (put_off r spoken h)).rows ≡ used r (spoken ∷ []) (settled rules h).rows
      → ((ps : List Part) → goes (operand spoken ∷ ps) p (settled rules h).rows
      ≡ pass (use_fault false r (spoken ∷ []) (settled rules h).rows) (goes ps q (used r (spoken ∷ []) (settled rules h).rows)))
      → answer (at h p) (spoken ∷ rest) ≡ pass (settle_fault rules false h) (said p (settled rules h).rows (with_part (Some (operand spoken)) (parts_of rest)))
  placed h p q r turn next fault rows joins =
      step (at h p) spoken rest ∙ ap₂ (λ k w. pass k (answer w rest)) turn next
      ∙ ap (pass (settle_fault rules false h)) (later (put_off r spoken h) q
      ∙ ap₂ (λ k rs. pass k (said q rs (parts_of rest))) fault rows
      ∙ join_operand p q r spoken (settled rules h).rows joins (parts_of rest))

  operand_goes : GoesBy (Some (operand spoken)) rest spoken
  operand_goes h first = placed h first second (at_index 1)
      (plain_turn h first a u e ∙ choose_kinds (is_pending (at_index 1) h.pending) [] (settle_fault rules false h))
      (plain_step h first a u e ∙ ap (λ k. at (pushed (at_index 1).id spoken k) second) (choose (is_pending (at_index 1) h.pending) h (settled rules h)))
      refl refl (λ ps. refl)
  operand_goes h second = placed h second third (at_index 2)
      (plain_turn h second a u e ∙ choose_kinds (is_pending (at_index 2) h.pending) [] (settle_fault rules false h))
      (plain_step h second a u e ∙ ap (λ k. at (pushed (at_index 2).id spoken k) third) (choose (is_pending (at_index 2) h.pending) h (settled rules h)))
      refl refl (λ ps. refl)
  operand_goes h third = placed h third full (at_index 3)
      (plain_turn h third a u e ∙ choose_kinds (is_pending (at_index 3) h.pending) [] (settle_fault rules false h))
      (plain_step h third a u e ∙ ap (λ k. at (pushed (at_index 3).id spoken k) full) (choose (is_pending (at_index 3) h.pending) h (settled rules h)))
      refl refl (λ ps. refl)
  operand_goes h full =
      nothing (at h full) spoken rest (settle_fault rules false h) (ap (λ k. pass k (answer (walked rules [] (at h full) spoken) rest)) (plain_turn h full a u e))
      ∙ ap (pass (settle_fault rules false h)) (sym (no_place spoken (settled rules h).rows (parts_of rest)))

-- ---- `--stats` and a word

abbrev waiting : Held → Place → Walk
waiting h p = record {
  held = record (settled rules h) { pending = Some (codes "stats", []) };
  waiting = option (codes "stats");
  position = number p;
  is_trailing = false;
  stopped = None;
}

stats_step : (h : Held) (p : Place) → walked rules [] (at h p) (codes "--stats") ≡ waiting h p
unfolding walked
stats_step h p = refl

stats_turn : (h : Held) (p : Place) → turn_fault shape [] (at h p) (codes "--stats") ≡ or_else (settle_fault rules false h) []
stats_turn h p = refl

stats_goes : (h : Held) (p : Place) (rest : List Word) → answer (at h p) (codes "--stats" ∷ rest) ≡ pass (settle_fault rules false h) (answer (waiting h p) rest)
stats_goes h p rest =
    step (at h p) (codes "--stats") rest ∙ ap₂ (λ k w. pass k (answer w rest)) (stats_turn h p) (stats_step h p)
    ∙ pass_then_none (settle_fault rules false h) (answer (waiting h p) rest)

pub stats_last : (h : Held) (p : Place) → answer (at h p) (codes "--stats" ∷ []) ≡ pass (settle_fault rules false h) None
unfolding walk_fault
stats_last h p = stats_goes h p []

value_step : (h : Held) (p : Place) (a : ℕ) (u : Word) → (a == 45) ≡ false → walked rules [] (waiting h p) (a ∷ u) ≡ at (put_off stats_built (a ∷ u) h) p
unfolding walked
value_step h p a u e = rw e (rw e refl)

value_turn : (h : Held) (p : Place) (a : ℕ) (u : Word) → (a == 45) ≡ false → turn_fault shape [] (waiting h p) (a ∷ u) ≡ []
value_turn h p a u e = rw e (rw e refl)

-- a further option while `--stats` waits for its word
long_waits : (h : Held) (p : Place) (b : Bool) (v : Option Word) (more : Kinds) (o : Option Slots)
    → pass (or_else (long_fault rules false (cond b (Some stats_built) None) v (waiting h p).held) more) o ≡ None
long_waits h p true (Some v) more o = refl
long_waits h p true None more o = refl
long_waits h p false v more o = refl

abbrev Behind : List Word → Word → Type 0
Behind rest next = (h : Held) (p : Place) → answer (waiting h p) (next ∷ rest) ≡ said p (settled rules h).rows (with_part (part_behind next) (parts_of rest))

behind_plain : (a : ℕ) (u : Word) → (a == 45) ≡ false → (rest : List Word) → Goes rest → Behind rest (a ∷ u)
behind_plain a u e rest later h p =
    step (waiting h p) (a ∷ u) rest ∙ ap₂ (λ k w. pass k (answer w rest)) (value_turn h p a u e) (value_step h p a u e)
    ∙ later (put_off stats_built (a ∷ u) h) p ∙ join_statistics p (a ∷ u) (settled rules h).rows (parts_of rest)
    ∙ ap (λ b. said p (settled rules h).rows (with_part (if not b then Some (statistics (a ∷ u)) else None) (parts_of rest))) (sym e)

behind_long : (c : ℕ) (cs : Word) (rest : List Word) → Behind rest (45 ∷ 45 ∷ c ∷ cs)
behind_long c cs rest h p = step (waiting h p) (45 ∷ 45 ∷ c ∷ cs) rest ∙ long_waits h p _ _ _ _

pub behind : (next : Word) (rest : List Word) → is_usual next ≡ true → Goes rest → (h : Held) (p : Place)
    → answer (at h p) (codes "--stats" ∷ next ∷ rest) ≡ pass (settle_fault rules false h) (said p (settled rules h).rows (with_part (part_behind next) (parts_of rest)))
behind next rest usual later h p = stats_goes h p (next ∷ rest) ∙ ap (pass (settle_fault rules false h)) (go (usual_form next usual) h p)
  where
    go : IsEither next → Behind rest next
    go (inl f) = subst (Behind rest) (sym f.2) (behind_plain f.0 f.1 f.3 rest later)
    go (inr f) = subst (Behind rest) (sym f.2) (behind_long f.0 f.1 rest)

-- ---- `--stats=F`, and other options

given_step : (h : Held) (p : Place) (f : Word) → walked rules [] (at h p) (codes "--stats=" ++ f) ≡ at (reacted rules stats_built (f ∷ []) h) p
unfolding walked
given_step h p f = refl

given_turn : (h : Held) (p : Place) (f : Word) → turn_fault shape [] (at h p) (codes "--stats=" ++ f)
    ≡ or_else (or_else (settle_fault rules false h) (use_fault false stats_built (f ∷ []) (settled rules h).rows)) []
given_turn h p f = refl

given_goes : (b : ℕ) (bs : Word) (rest : List Word) → Goes rest → GoesBy (part_alone (codes "--stats=" ++ b ∷ bs)) rest (codes "--stats=" ++ b ∷ bs)
given_goes b bs rest later h p =
    let f = b ∷ bs in
    step (at h p) (codes "--stats=" ++ f) rest ∙ ap₂ (λ k w. pass k (answer w rest)) (given_turn h p f) (given_step h p f)
    ∙ pass_two (settle_fault rules false h) (use_fault false stats_built (f ∷ []) (settled rules h).rows) _
    ∙ ap (pass (settle_fault rules false h)) (ap (pass (use_fault false stats_built (f ∷ []) (settled rules h).rows)) (later (reacted rules stats_built (f ∷ []) h) p)
    ∙ join_statistics p f (settled rules h).rows (parts_of rest))

unknown_turn : (h : Held) (p : Place) (c : ℕ) (cs : Word) (o : Option Slots) → bytes_eq (codes "stats") (before_first is_equals (c ∷ cs)) ≡ false
    → pass (turn_fault shape [] (at h p) (45 ∷ 45 ∷ c ∷ cs)) o ≡ None
unknown_turn h p c cs o e = rw e refl

unknown_goes : (c : ℕ) (cs : Word) (rest : List Word) → bytes_eq (45 ∷ 45 ∷ c ∷ cs) (codes "--stats") ≡ false
    → bytes_eq (take 8 (45 ∷ 45 ∷ c ∷ cs)) (codes "--stats=") ≡ false → GoesBy (part_alone (45 ∷ 45 ∷ c ∷ cs)) rest (45 ∷ 45 ∷ c ∷ cs)
unknown_goes c cs rest whole part h p =
    nothing (at h p) (45 ∷ 45 ∷ c ∷ cs) rest (settle_fault rules false h) (unknown_turn h p c cs _ (other_name c cs whole part))
    ∙ rw part refl

long_goes : (c : ℕ) (cs : Word) (rest : List Word) → Goes rest → bytes_eq (45 ∷ 45 ∷ c ∷ cs) (codes "--stats=") ≡ false
    → bytes_eq (45 ∷ 45 ∷ c ∷ cs) (codes "--stats") ≡ false → GoesBy (part_alone (45 ∷ 45 ∷ c ∷ cs)) rest (45 ∷ 45 ∷ c ∷ cs)
long_goes c cs rest later bare whole = go (bytes_eq (take 8 (45 ∷ 45 ∷ c ∷ cs)) (codes "--stats=")) refl
  where
    given : (word f : Word) → bytes_eq word (codes "--stats=") ≡ false → word ≡ codes "--stats=" ++ f → GoesBy (part_alone word) rest word
    given word [] bare is = absurd (clash _ (ap (λ t. bytes_eq t (codes "--stats=")) is) bare)
    given word (b ∷ bs) bare is = subst (λ t. GoesBy (part_alone t) rest t) (sym is) (given_goes b bs rest later)

    go : (b : Bool) → bytes_eq (take 8 (45 ∷ 45 ∷ c ∷ cs)) (codes "--stats=") ≡ b → GoesBy (part_alone (45 ∷ 45 ∷ c ∷ cs)) rest (45 ∷ 45 ∷ c ∷ cs)
    go true e = given (45 ∷ 45 ∷ c ∷ cs) (drop 8 (45 ∷ 45 ∷ c ∷ cs)) bare (begins_so (45 ∷ 45 ∷ c ∷ cs) e)
    go false e = unknown_goes c cs rest whole e

plain_goes : (a : ℕ) (u : Word) (rest : List Word) → Goes rest → (a == 45) ≡ false → GoesBy (part_alone (a ∷ u)) rest (a ∷ u)
plain_goes a u rest later e h p = operand_goes a u e rest later h p
    ∙ ap (λ b. pass (settle_fault rules false h) (said p (settled rules h).rows (with_part (if not b then Some (operand (a ∷ u)) else Rattle.std.specs.Option.option_map statistics (attached (a ∷ u))) (parts_of rest)))) (sym e)

pub alone : (word : Word) (rest : List Word) → is_usual word ≡ true → bytes_eq word (codes "--stats") ≡ false → Goes rest → GoesBy (part_alone word) rest word
alone word rest usual other later = go (usual_form word usual) other
  where
    go : IsEither word → bytes_eq word (codes "--stats") ≡ false → GoesBy (part_alone word) rest word
    go (inl f) other = subst (λ t. GoesBy (part_alone t) rest t) (sym f.2) (plain_goes f.0 f.1 rest later f.3)
    go (inr f) other = subst (λ t. GoesBy (part_alone t) rest t) (sym f.2)
        (long_goes f.0 f.1 rest later f.3 (sym (ap (λ t. bytes_eq t (codes "--stats")) f.2) ∙ other))

-- ---- all the words

pub walks : (words : List Word) → list_all is_usual words ≡ true → Goes words
unfolding parts_of
walks [] usual = at_end
walks (word ∷ []) usual = go (bytes_eq word (codes "--stats")) refl
  where
    go : (b : Bool) → bytes_eq word (codes "--stats") ≡ b → Goes (word ∷ [])
    go true e = subst (λ t. Goes (t ∷ [])) (sym (same word (codes "--stats") e)) stats_last
    go false e = alone word [] (both _ _ usual).0 e at_end
walks (word ∷ next ∷ rest) usual =
    let us = both _ _ usual in
    let more = both _ _ us.1 in
    go (bytes_eq word (codes "--stats")) refl us.0 more.0 (walks rest more.1) (walks (next ∷ rest) us.1)
  where
    go : (b : Bool) → bytes_eq word (codes "--stats") ≡ b → is_usual word ≡ true → is_usual next ≡ true → Goes rest → Goes (next ∷ rest) → Goes (word ∷ next ∷ rest)
    go true e w n past later = subst (λ t. Goes (t ∷ next ∷ rest)) (sym (same word (codes "--stats") e)) (behind next rest n past)
    go false e w n past later = λ h p. alone word (next ∷ rest) w e later h p
        ∙ ap (λ b. pass (settle_fault rules false h) (said p (settled rules h).rows (if b then with_part (part_behind next) (parts_of rest) else with_part (part_alone word) (parts_of (next ∷ rest))))) (sym e)
