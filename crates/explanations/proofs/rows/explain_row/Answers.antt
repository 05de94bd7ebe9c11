use Rattle.std.proofs.Common.{◌≡◌, ℕ, subst}
use Rattle.event_graph.specs.Network.{Net}
use Rattle.drawn_networks.specs.Drawn.{IsRowOf}
use Rattle.requirements.specs.declared.bound.BothBounds.{BothBounds}
use Rattle.requirements.specs.declared.bound.Bound.{Bound}
use Rattle.requirements.specs.Separations.{bound_of}
use Rattle.requirements.specs.declared.consistency.Consistency.{Consistency}
use Rattle.explanations.specs.Answers.{BoundFound}
use Rattle.event_graph.specs.declared.pair.Pair.{Pair}
use Rattle.explanations.specs.Step.Standing.{net_in, word_apart}
use Rattle.explanations.specs.Step.Bounding.{IsExplained}
use Rattle.explanations.proofs.Lanes.{row_found, row_kept}
use Rattle.explanations.proofs.Standing.{in_memory}
use Rattle.explanations.proofs.rows.explain_row.Goals as goal

same_both : (least least' greatest greatest' : Bound) → least ≡ least' → greatest ≡ greatest' → ◌≡◌ {A = BothBounds} (record { least = least; greatest = greatest }) (record { least = least'; greatest = greatest' })
same_both least least' greatest greatest' l g = cc (l, g)

pub bounds_apart-requires-clause-row : goal.bounds_apart-requires-clause-row
bounds_apart-requires-clause-row c = in_memory (λ (n : Net). IsRowOf n c.args.row.now) c.args.drawn.now c.args.desk.now.apart c.requires.ready.apart c.requires.row

pub returns-clause-found : goal.returns-clause-found
returns-clause-found c =
    let drawn = c.args.drawn.now in
    let desk = c.args.desk.now in
    let net : Net = c.network-net.result.now in
    let kept = c.in_ok-greatest.ensures.kept in
    let both : BothBounds = record { least = c.bound.result; greatest = c.bound-2.result } in
    let turned : Pair = c.reversed-searched.result in
    let searched : BoundFound = c.in_ok-explain_greatest.field-0 in
    let later : IsExplained net c.explain_greatest.new.searches.extremes.budget c.explain_greatest.new.searches.word turned searched = c.in_ok-explain_greatest.ensures.found in
    let second : IsExplained net desk.searches.extremes.budget desk.searches.word turned searched =
    subst (λ (b : ℕ). IsExplained net b desk.searches.word turned searched) kept.budget
    (subst (λ (w : Consistency). IsExplained net c.explain_greatest.new.searches.extremes.budget w turned searched) kept.word later) in
    row_found drawn net (net_in drawn.net desk.apart) desk.searches.extremes.budget desk.searches.word (word_apart desk) c.args.row.now turned
    c.in_ok-greatest.greatest searched c.reversed-least.result both c.in_ok-apart.apart c.network-net.ensures.network c.requires.ready.apart
    c.reversed-searched.ensures.pair c.reversed-least.ensures.found
    (same_both c.bound.result (bound_of c.reversed-least.result) c.bound-2.result (bound_of c.in_ok-greatest.greatest) c.bound.ensures.bound c.bound-2.ensures.bound)
    c.in_ok-greatest.ensures.found second
    (λ bounds. c.in_ok-apart.ensures.rests drawn.net desk.searches.extremes.budget desk.searches.word c.requires.ready.budget bounds)

pub returns-clause-kept : goal.returns-clause-kept
returns-clause-kept c = row_kept c.args.desk.now _ c.explain_greatest.new.searches c.in_ok-greatest.ensures.kept c.in_ok-explain_greatest.ensures.kept c.bounds_apart.ensures.word
