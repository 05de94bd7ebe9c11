use Rattle.std.proofs.Common.{◌≡◌, ◌<◌, ◌∙◌, List, Option, Some, true, is_some, ap, sym, subst, arith}
use Rattle.std.proofs.Common.{ℤ}
use Rattle.itv_base.specs.declared.names.EdgeName.{EdgeName}
use Rattle.event_graph.specs.Times.{raised}
use Rattle.diff_bounds.specs.Current.{MeetsCurrent}
use Rattle.diff_bounds.specs.Standing.{upper_of}
use Rattle.branch.proofs.Results.{is_none-some, unreached}
use Rattle.branch.proofs.UsableEdges.{meets_usable, source_bounded}
use Rattle.branch.proofs.levels.ray_in.Goals as goal

pub prove-unreachable-requires : goal.prove-unreachable-requires
prove-unreachable-requires c =
    let stands = c.requires.stands in
    source_bounded c.args.net.now _ c.args.from c.upper.result (c.upper.ensures.greatest c.args.net.now c.args.from stands.stands c.requires.source) (sym c.is_some.ensures ∙ c.if-prove.true)

pub returns : goal.returns
returns c =
    let net = c.args.net.now in
    let bounds = c.args.search.now.bounds in
    let stands = c.requires.stands in
    let times = c.times_into.new.out in
    let ray = c.ray_into.new.out in
    let set = c.ray_into.ensures.set in
    let from_within : c.args.from.0 < bounds.events = omega (arith, c.requires.from, stands.stands.made.events) in
    let to_within : c.args.to.0 < bounds.events = omega (arith, c.requires.to, stands.stands.made.events) in
    let some : is_some (upper_of bounds c.args.from.0) ≡ true = ap (λ (o : Option ℤ). is_some o) (sym c.upper.ensures.value) ∙ sym c.is_some.ensures ∙ c.if-prove.false in
    record {
      meets = λ by. meets_usable net c.args.search.now.cases.chosen (raised ray by times)
          (subst (λ (edges : List EdgeName). MeetsCurrent net edges (raised ray by times)) stands.edges (c.ray_into.ensures.raised net times by stands.stands c.times_into.ensures.times));
      near = c.times_into.ensures.range;
      count = set.count ∙ stands.stands.made.events;
      lacks = set.each c.args.from from_within ∙ ap Some (is_none-some (upper_of bounds c.args.from.0) some);
      holds = set.each c.args.to to_within ∙ ap Some (unreached (upper_of bounds c.args.to.0) c.requires.none);
    }
