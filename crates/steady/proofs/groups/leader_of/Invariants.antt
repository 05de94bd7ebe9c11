use Rattle.steady.proofs.groups.leader_of.Given as goal

abbrev pub decreases-loop-next : goal.decreases-loop-next
decreases-loop-next l = l.at
