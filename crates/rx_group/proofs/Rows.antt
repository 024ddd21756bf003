-- One more row that is lent.
use Rattle.std.proofs.Common.{◌≡◌, ℕ, ◌+◌, ◌<◌, List, [], ◌∷◌, ◌++◌, length, take, get_or, sym, ap, ◌∙◌}
use Rattle.std.proofs.lemmas.List.{map-append, take_more}
use denote.Ref.{Bor}
use Rattle.rx_value.specs.declared.values.Value.{Value}
use Rattle.rx_group.specs.Classes.{rows_of}

pub rows_more : (rows : List (Bor (List Value))) (i : ℕ) (row : Bor (List Value)) → i < length rows → row ≡ get_or rows i row → rows_of (take (i + 1) rows) ≡ rows_of (take i rows) ++ row.now ∷ []
rows_more rows i row within is =
    ap rows_of (take_more rows i row within ∙ ap (λ r. take i rows ++ r ∷ []) (sym is))
    ∙ map-append (λ (r : Bor (List Value)). r.now) (take i rows) (row ∷ [])
