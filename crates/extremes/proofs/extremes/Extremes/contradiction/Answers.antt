use Rattle.std.proofs.Common.{◌∙◌, sym, subst}
use Rattle.chains.specs.Named.{IsRefuting}
use Rattle.extremes.specs.Found.{IsContradictionFound}
use Rattle.extremes.specs.Ready.{IsMarkedOrGuessed}
use Rattle.extremes.proofs.Finding.{refuting_found}
use Rattle.extremes.proofs.extremes.Extremes.contradiction.Goals as goal

pub returns-in_ok-from_slice-in-None-clause-set : goal.returns-in_ok-from_slice-in-None-clause-set
returns-in_ok-from_slice-in-None-clause-set c =
    let self = c.args.self.now in
    let net = c.args.net.now in
    let given = c.requires.contradicted in
    let refutes : IsRefuting net self.marking = subst (IsMarkedOrGuessed net self.marking) c.in-None.is given.shown in
    subst (IsContradictionFound net self.budget) (sym (c.in_ok-from_slice-in-None.ensures.items ∙ c.marks.ensures))
    (refuting_found net self.budget self.marking given.made.marks refutes)
