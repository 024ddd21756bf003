-- What is parsed as a condition is read as one.
use Rattle.std.proofs.Common.{◌≡◌, ℕ, ◌+◌, ◌-◌, ◌<◌, List, ◌∷◌, ◌++◌, length, drop, Option, Some, None, refl, sym, ap, ◌∙◌, arith, length-append}
use Rattle.std.specs.Prelude.{Ok}
use Rattle.std.proofs.Math.Seq.{drop-append_seam}
use Rattle.rx_token.specs.declared.kinds.Token.{Token}
use Rattle.rx_where.specs.declared.raw.RawCond.{RawCond}
use Rattle.rx_where.specs.Raw.{RawTree, raw_tree_of}
use Rattle.rx_where.specs.Conditions.{longest_at, Finds}
use Rattle.rx_where.proofs.Parsing.{pair, found_of}
use Rattle.rx_where.proofs.CondSpelled.{cond_forward}

-- a condition and the tokens behind it are what is read
abbrev pub CondRead : List Token → RawCond → List Token → Type 0
CondRead ts cond rest = (Some (pair (raw_tree_of cond) rest) ≡ longest_at ts) × (length rest < length ts)

read_by : (ts : List Token) (cond : RawCond) (end : ℕ) (o : Option (RawTree × List Token)) → longest_at ts ≡ o → Finds (length ts) o (Ok (cond, end)) → CondRead ts cond (drop end ts)
read_by ts cond end None is finds = absurd finds
read_by ts cond end (Some x) is (tree, place) =
    let (c, depth, s, stands) = found_of ts x is in
    let b = cond_forward c ts x.1 s in
    let whole : List Token = b.first ∷ b.front in
    let counted : length ts ≡ length whole + length x.1 = ap length b.is ∙ length-append whole x.1 in
    let at : end ≡ length whole = omega arith in
    let rest : drop end ts ≡ x.1 = ap (λ (k : ℕ). drop k ts) at ∙ ap (drop (length whole)) b.is ∙ drop-append_seam whole x.1 in
    let left : length (drop end ts) ≡ length x.1 = ap length rest in
    let some : length whole ≡ length b.front + 1 = omega arith in
    (ap (λ (t : RawTree). Some (pair t (drop end ts))) tree ∙ ap (λ (us : List Token). Some (pair x.0 us)) rest ∙ sym is, omega arith)

pub parsed : (ts : List Token) (cond : RawCond) (end : ℕ) → Finds (length ts) (longest_at ts) (Ok (cond, end)) → CondRead ts cond (drop end ts)
parsed ts cond end finds = read_by ts cond end (longest_at ts) refl finds
