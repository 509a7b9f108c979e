use Rattle.key_block.proofs.single.+behind_plain.Given as goal

abbrev pub decreases-behind_plain : goal.decreases-behind_plain
decreases-behind_plain l = l.count
