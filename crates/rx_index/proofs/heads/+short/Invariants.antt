use Rattle.rx_index.proofs.heads.+short.Given as goal

abbrev pub decreases-short : goal.decreases-short
decreases-short l = l.bytes
