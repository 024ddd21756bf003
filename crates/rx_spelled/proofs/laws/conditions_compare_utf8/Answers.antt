use Rattle.rx_spelled.specs.Utf8.{IsUtf8Token}
use Rattle.rx_spelled.proofs.Conditions.{test_utf8, condition_utf8}
use Rattle.rx_spelled.proofs.Keeping.{each_of}
use Rattle.rx_spelled.proofs.Resolved.{resolved_utf8}
use Rattle.rx_spelled.proofs.laws.conditions_compare_utf8.Goals as goal

pub returns : goal.returns
returns c = record {
  tests = λ t ts rest h s. test_utf8 t ts rest (each_of IsUtf8Token ts h) s;
  spelled = λ ts rest tree h s. condition_utf8 ts rest tree (each_of IsUtf8Token ts h) s;
  resolved = resolved_utf8;
}
