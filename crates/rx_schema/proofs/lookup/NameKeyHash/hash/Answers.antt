use Rattle.std.proofs.Common.{rules, length}
use Rattle.std.specs.Hash as fed
use Rattle.rx_schema.specs.Lookup.{name_input}
use Rattle.rx_schema.proofs.ByName.{input_is}
use Rattle.rx_schema.proofs.lookup.NameKeyHash.hash.Goals as goal

pub returns : goal.returns
returns g c =
    let name = c.args.self.now.name.now in
    fed.fed_along g.H.Hasher.write c.args.state.now c.hash_lowered.new.state (input_is name)
    (fed.fed_then g.H.Hasher.write c.args.state.now c.write_usize.new.self c.hash_lowered.new.state (fed.usize (length name)) (name_input name) (search rules) (search rules))
