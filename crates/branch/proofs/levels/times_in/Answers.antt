use Rattle.std.proofs.Common.{List, subst, arith}
use Rattle.itv_base.specs.declared.names.EdgeName.{EdgeName}
use Rattle.diff_bounds.specs.Current.{MeetsCurrent}
use Rattle.branch.proofs.UsableEdges.{meets_usable}
use Rattle.branch.proofs.levels.times_in.Goals as goal

pub returns : goal.returns
returns c =
    let net = c.args.net.now in
    let stands = c.requires.stands in
    let out = c.times_into.new.out in
    let written = c.times_into.ensures in
    record {
      meets = meets_usable net c.args.search.now.cases.chosen out
          (subst (λ (edges : List EdgeName). MeetsCurrent net edges out) stands.edges (written.meets net stands.stands));
      near = written.range;
      attained = λ from to value source within upper.
          written.attained net from to value stands.stands source (omega (arith, within, stands.stands.made.events)) upper;
    }
