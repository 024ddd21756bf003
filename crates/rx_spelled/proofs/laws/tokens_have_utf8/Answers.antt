use Rattle.rx_spelled.specs.Utf8.{IsUtf8Token}
use Rattle.rx_token.specs.Scan.{token_list}
use Rattle.rx_spelled.proofs.Keeping.{all_of}
use Rattle.rx_spelled.proofs.Tokens.{scanned_utf8, text_refused, tokens_utf8}
use Rattle.rx_spelled.proofs.laws.tokens_have_utf8.Goals as goal

pub returns : goal.returns
returns c = record {
  all = λ text. all_of IsUtf8Token (token_list text) (tokens_utf8 text);
  scanned = λ at bytes ts bad s. all_of IsUtf8Token ts (scanned_utf8 at bytes ts bad s);
  refused = text_refused;
}
