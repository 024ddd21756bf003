use Rattle.std.proofs.Common.{rules}
use Rattle.rx_cond.specs.Tree.{tree_of}
use Rattle.rx_ranges.specs.Answers.{IsUsed}
use Rattle.rx_ranges.proofs.Keeping.{ranges_rise, ranges_keep}
use Rattle.rx_build.proofs.Few.{used_few}
use Rattle.rx_build.proofs.building.ranges_of.Goals as goal

pub returns-clause-rise : goal.returns-clause-rise
returns-clause-rise c =
    let columns = c.args.schema.now.columns in
    let parts = c.args.parts.now in
    let limit = c.args.items in
    let t = tree_of c.args.cond.now in
    let used : IsUsed columns parts limit t c.in-Some.count c.in-Some.list = search rules in
    ranges_rise columns parts limit t c.in-Some.count c.in-Some.list used

pub returns-clause-few : goal.returns-clause-few
returns-clause-few c =
    let columns = c.args.schema.now.columns in
    let parts = c.args.parts.now in
    let limit = c.args.items in
    let t = tree_of c.args.cond.now in
    let used : IsUsed columns parts limit t c.in-Some.count c.in-Some.list = search rules in
    used_few columns parts limit t c.in-Some.count c.in-Some.list used

pub returns-clause-keep : goal.returns-clause-keep
returns-clause-keep c =
    let schema = c.args.schema.now in
    let parts = c.args.parts.now in
    let limit = c.args.items in
    let t = tree_of c.args.cond.now in
    let used : IsUsed schema.columns parts limit t c.in-Some.count c.in-Some.list = search rules in
    λ row compares fits holds. ranges_keep schema parts limit t c.in-Some.count c.in-Some.list row compares used fits holds
