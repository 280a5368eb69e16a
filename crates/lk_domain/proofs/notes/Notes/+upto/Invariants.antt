use Rattle.lk_domain.proofs.notes.Notes.+upto.Given as goal

abbrev pub decreases-upto : goal.decreases-upto
decreases-upto l = l.depth
