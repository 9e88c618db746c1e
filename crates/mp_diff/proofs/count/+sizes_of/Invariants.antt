use Rattle.mp_diff.proofs.count.+sizes_of.Given as goal

abbrev pub decreases-sizes_of : goal.decreases-sizes_of
decreases-sizes_of l = l.id
