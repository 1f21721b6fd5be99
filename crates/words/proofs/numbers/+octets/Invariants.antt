use Rattle.words.proofs.numbers.+octets.Given as goal

abbrev pub decreases-octets : goal.decreases-octets
decreases-octets l = l.left
