use Rattle.rx_where.specs.Raw.{raw_tree_of}
use Rattle.rx_where.proofs.Parsing.{parse_ends, parse_found, parse_longest, parse_none}
use Rattle.rx_where.proofs.conditions.parse.Goals as goal

pub returns-in-Ok-Some-clause-ends : goal.returns-in-Ok-Some-clause-ends
returns-in-Ok-Some-clause-ends c =
    let read = rw c.in-Ok-Some.field-0-is at c.in-Ok-Some.ensures.0 in
    parse_ends c.args.tokens.now c.from_on.result.now c.args.at (raw_tree_of c.in-Ok-Some.found.value) c.in-Ok-Some.found.rest.now c.from_on.ensures read

pub returns-in-Ok-Some-clause-found : goal.returns-in-Ok-Some-clause-found
returns-in-Ok-Some-clause-found c =
    let read = rw c.in-Ok-Some.field-0-is at c.in-Ok-Some.ensures.0 in
    parse_found c.args.tokens.now c.from_on.result.now c.args.at (raw_tree_of c.in-Ok-Some.found.value) c.in-Ok-Some.found.rest.now c.from_on.ensures read

pub returns-in-Ok-Some-clause-longest : goal.returns-in-Ok-Some-clause-longest
returns-in-Ok-Some-clause-longest c =
    let read = rw c.in-Ok-Some.field-0-is at c.in-Ok-Some.ensures.0 in
    parse_longest c.args.tokens.now c.from_on.result.now c.args.at (raw_tree_of c.in-Ok-Some.found.value) c.in-Ok-Some.found.rest.now c.from_on.ensures read

pub returns-in-Ok-None-clause-none : goal.returns-in-Ok-None-clause-none
returns-in-Ok-None-clause-none c =
    let read = rw c.in-Ok-None.field-0-is at c.in-Ok-None.ensures.0 in
    parse_none c.args.tokens.now c.from_on.result.now c.args.at c.from_on.ensures read
