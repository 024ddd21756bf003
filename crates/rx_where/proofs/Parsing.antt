-- What `parse` answers: the longest condition of the grammar, and that there is none.
use Rattle.std.proofs.Common.{◌≡◌, ℕ, ◌+◌, ◌-◌, ◌<◌, ◌≤◌, List, [], ◌∷◌, ◌++◌, length, drop, Some, None, sym, ap, subst, ◌∙◌, ⊎_elim, arith, length-append, length-drop}
use Rattle.std.proofs.Math.Seq.{drop-append_seam}
use Rattle.std.proofs.lemmas.List.{drop-drop, append_cancel_right}
use Rattle.rx_token.specs.declared.kinds.Token.{Token}
use Rattle.rx_where.specs.Conditions.{longest_at}
use Rattle.rx_where.specs.Raw.{RawTree}
use Rattle.rx_where.specs.Grammar.{Cond, SpellsCond, cond_depth, IsCond, IsLongest, IsUnambiguous, IsNone}
use Rattle.rx_where.proofs.CondSpelled.{cond_tree, cond_forward, whole_spelled}
use Rattle.rx_where.proofs.CondReaches.{whole_reaches}

abbrev pub pair : RawTree → List Token → RawTree × List Token
pair tree rest = (tree, rest)

same_pair : (x y : RawTree × List Token) → Some x ≡ Some y → x ≡ y
same_pair x y e = cc

-- what is read is a condition
pub found_of : (ts : List Token) (x : RawTree × List Token) → longest_at ts ≡ Some x → IsCond ts x.0 x.1
found_of ts x e =
    let r = whole_spelled 65 ts x e in
    let a = r.spelled.0 in
    (r.form, omega arith, r.spelled.1, r.stands)

-- a condition is read, and none goes farther
record Farthest (ts rest : List Token) : Type 0 where
  x : RawTree × List Token
  is : longest_at ts ≡ Some x
  farther : length x.1 ≤ length rest

farthest : (ts : List Token) (tree : RawTree) (rest : List Token) → IsCond ts tree rest → Farthest ts rest
farthest ts tree rest (c, depth, s, stands) =
    ⊎_elim
    (λ e. record { x = pair (cond_tree c) rest; is = e; farther = omega arith })
    (λ b. let shorter = b.shorter in record { x = b.x; is = b.is; farther = omega arith })
    (whole_reaches c 65 (omega arith) ts rest s)

pub longest_of : (ts : List Token) (x : RawTree × List Token) → longest_at ts ≡ Some x → IsLongest ts x.1
longest_of ts x e tree end is =
    let far = farthest ts tree end is in
    let same = same_pair far.x x (sym far.is ∙ e) in
    let count : length far.x.1 ≡ length x.1 = ap (λ (y : RawTree × List Token). length y.1) same in
    let shorter = far.farther in
    omega arith

none_is_some : (x : RawTree × List Token) → None ≡ Some x → ⊥
none_is_some x e = cc

pub none_of : (ts : List Token) → longest_at ts ≡ None → IsNone ts
none_of ts e tree end is = let far = farthest ts tree end is in none_is_some far.x (sym e ∙ far.is)

-- a condition with nothing behind it is read as it is spelled
alone : (c : Cond) (ts : List Token) → cond_depth c ≤ 64 → SpellsCond c ts [] → longest_at ts ≡ Some (pair (cond_tree c) [])
alone c ts depth s = ⊎_elim (λ e. e) (λ b. let f = b.follows in absurd cc) (whole_reaches c 65 (omega arith) ts [] s)

-- two conditions that end at one place
pub only_of : (ts : List Token) → IsUnambiguous ts
only_of ts tree other rest (c, depth, s, stands) (d, depth_d, t, stands_d) =
    let a = cond_forward c ts rest s in
    let b = cond_forward d ts rest t in
    let front : List Token = a.first ∷ (a.front ++ []) in
    let same : a.first ∷ a.front ≡ b.first ∷ b.front = append_cancel_right (a.first ∷ a.front) (b.first ∷ b.front) rest (sym a.is ∙ b.is) in
    let fronts : a.first ∷ (a.front ++ []) ≡ b.first ∷ (b.front ++ []) = ap (λ (us : List Token). us ++ []) same in
    let one = alone c front depth (a.again []) in
    let two = alone d (b.first ∷ (b.front ++ [])) depth_d (b.again []) in
    let trees = same_pair (pair (cond_tree c) []) (pair (cond_tree d) []) (sym one ∙ ap longest_at fronts ∙ two) in
    sym stands ∙ ap (λ (y : RawTree × List Token). y.0) trees ∙ stands_d

-- where the rest begins
record Place (tokens rest : List Token) (at : ℕ) : Type 0 where
  pub is : rest ≡ drop (length tokens - length rest) tokens
  pub later : at < length tokens - length rest

place_of : (tokens : List Token) (at : ℕ) (tree : RawTree) (rest : List Token) → IsCond (drop at tokens) tree rest → Place tokens rest at
place_of tokens at tree rest (c, depth, s, stands) =
    let b = cond_forward c (drop at tokens) rest s in
    let whole : List Token = b.first ∷ b.front in
    let counted : length tokens - at ≡ length whole + length rest = sym (length-drop at tokens) ∙ ap length b.is ∙ length-append whole rest in
    let place : at + length whole ≡ length tokens - length rest = omega arith in
    record {
      is = sym (drop-append_seam whole rest) ∙ ap (drop (length whole)) (sym b.is) ∙ drop-drop (length whole) at tokens ∙ ap (λ (k : ℕ). drop k tokens) place;
      later = omega arith;
    }

-- the same of all the tokens, by numbers of tokens
module _ (tokens here : List Token) (at : ℕ) (tree : RawTree) (rest : List Token) (cut : here ≡ drop at tokens) (read : Some (pair tree rest) ≡ longest_at here) where
  read_at : longest_at (drop at tokens) ≡ Some (pair tree rest)
  read_at = ap longest_at (sym cut) ∙ sym read

  place : Place tokens rest at
  place = place_of tokens at tree rest (found_of (drop at tokens) (pair tree rest) read_at)

  pub parse_ends : (at < length tokens - length rest) × (length tokens - length rest ≤ length tokens)
  parse_ends = let p = place in (p.later, omega arith)

  pub parse_found : IsCond (drop at tokens) tree (drop (length tokens - length rest) tokens)
  parse_found = let p = place in subst (IsCond (drop at tokens) tree) p.is (found_of (drop at tokens) (pair tree rest) read_at)

  pub parse_longest : IsLongest (drop at tokens) (drop (length tokens - length rest) tokens)
  parse_longest = let p = place in subst (IsLongest (drop at tokens)) p.is (longest_of (drop at tokens) (pair tree rest) read_at)

pub parse_none : (tokens here : List Token) (at : ℕ) → here ≡ drop at tokens → None ≡ longest_at here → IsNone (drop at tokens)
parse_none tokens here at cut read = none_of (drop at tokens) (ap longest_at (sym cut) ∙ sym read)
