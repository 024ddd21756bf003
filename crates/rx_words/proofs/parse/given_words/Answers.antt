use Rattle.std.proofs.Common.{rules, ◌≡◌, ◌∙◌, [], Some, ap, map, string_bytes, subst, sym}
use Rattle.clap.specs.Words.{app_of, fault_of, found_of, is_simple, is_simple_and_free, kind_of, matches_of, rows_of}
use Rattle.clap.specs.Kinds.{HasKind}
use Rattle.clap.specs.declared.error.kind.ErrorKind.TheVariants.{OutOfMemory}
use Rattle.rx_words.specs.Reading.{slots_in, taken, words_app}
use Rattle.rx_words.proofs.Meaning.{refused}
use Rattle.rx_words.proofs.parse.given_words.Goals as goal

pub returns-in-Ok : goal.returns-in-Ok
returns-in-Ok c =
    let words = map string_bytes c.args.words.now in
    let is : app_of c.in_ok-command.command ≡ words_app = c.in_ok-command.ensures in
    let none : fault_of words_app words ≡ [] = subst (λ app. fault_of app words ≡ []) is (c.in-Ok.ensures.kinds (ap is_simple_and_free is)) in
    let rows : rows_of (found_of c.in-Ok.matches) ≡ matches_of words_app words =
    subst (λ app. rows_of (found_of c.in-Ok.matches) ≡ matches_of app words) is (c.in-Ok.ensures.matches (ap is_simple is)).0 in
    ap Some (c.given_in.ensures ∙ ap slots_in rows) ∙ ap (λ kinds. taken kinds (matches_of words_app words)) (sym none)

pub returns : goal.returns
returns c =
    let words = map string_bytes c.args.words.now in
    let is : app_of c.in_ok-command.command ≡ words_app = c.in_ok-command.ensures in
    let kinds : HasKind (fault_of words_app words) c.in-Err.error =
    subst (λ app. HasKind (fault_of app words) c.in-Err.error) is (c.in-Err.ensures.kinds (ap is_simple_and_free is)) in
    let other : kind_of c.in-Err.error ≡ OutOfMemory → ⊥ = search rules in
    refused (fault_of words_app words) c.in-Err.error kinds other (matches_of words_app words)
