use Rattle.std.proofs.Common.{◌≡◌, ◌<◌, ℕ, ◌++◌, ◌∷◌, [], None, rules}
use Rattle.std.proofs.lemmas.List.Elements.{All-push, All-rest, All-same}
use Rattle.rx_store.proofs.Chains.{Keeps-chain}
use Rattle.rx_merge.proofs.Gathered.{told_more, many_more, counts_more}
use Rattle.rx_merge.proofs.gathering.read_ids.Goals as goal

pub loop-place-preserved : goal.loop-place-preserved
loop-place-preserved g c =
    let table = g.T.Table.means c.args.table.now in
    let before = c.loop-place.invariant in
    let means = before.keeps.means_stays in
    let below : ℕ → Type 0 = λ id. id < table.count in
    let pushed : c.push.new.self ≡ c.loop-place.ids ++ c.in-Ok.id ∷ [] = search rules in
    let split : c.loop-place.places ≡ c.in-Some.place ∷ c.next.new.self = search rules in
    record {
      told = told_more table.told c.args.index c.loop-place.ids _ c.loop-place.places _ _ c.in-Some.place c.in-Ok.id split pushed before.told (rw means at c.in-Ok.ensures.told);
      within = All-same below _ _ pushed (All-push below c.loop-place.ids c.in-Ok.id before.within (rw means at c.in-Ok.ensures.fits));
      left = All-rest below c.in-Some.place _ c.loop-place.places split before.left;
      many = many_more c.loop-place.ids _ c.loop-place.places _ _ c.in-Some.place c.in-Ok.id split pushed before.many;
      counts = counts_more c.loop-place.ids _ c.in-Ok.id _ _ _ pushed before.counts c.in-Ok.ensures.counts;
      keeps = Keeps-chain g.met.T.Table.kept_chained g.met.T.Table.spent_chained None _ _ _ before.keeps c.in-Ok.ensures.keeps;
    }
