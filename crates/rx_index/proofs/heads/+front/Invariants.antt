use Rattle.rx_index.proofs.heads.+front.Given as goal

abbrev pub decreases-front : goal.decreases-front
decreases-front l = l.bytes
