use Rattle.std.proofs.Common.{◌∙◌, sym, subst}
use Rattle.extremes.specs.Found.{IsContradictionFound}
use Rattle.extremes.proofs.Finding.{refuting_found}
use Rattle.extremes.proofs.extremes.Extremes.marked.Goals as goal

pub returns : goal.returns
returns c = record {
  set =
      subst (IsContradictionFound c.args.net.now c.args.self.now.budget) (sym (c.in_ok-from_slice.ensures.items ∙ c.marks.ensures))
      (refuting_found c.args.net.now c.args.self.now.budget c.args.self.now.marking c.requires.count c.requires.marks);
}
