use Rattle.std.proofs.Common.{◌∙◌, ◌<◌, ap, length, subst, sym, take}
use Rattle.diff_bounds.specs.Standing.{BoundsView, Stands, standing_in}
use Rattle.diff_bounds.specs.Step.Chosen.{ChosenEdgesView}
use Rattle.diff_bounds.proofs.Descending.{retreat_stands}
use Rattle.diff_bounds.proofs.bounds.Bounds.retreat.Goals as goal

pub returns-clause-stands : goal.returns-clause-stands
returns-clause-stands c =
    λ net stands.
    let P : BoundsView → Type 0 = λ b. Stands net b in
    let L : BoundsView → Type 0 = λ b. 0 < length b.trail.below in
    retreat_stands net (standing_in c.self.inside) c.pop_level.new.self c.truncate.new.self.arcs (subst P (sym c.self.view_is) stands) (subst L (sym c.self.view_is) c.requires.level) c.pop_level.ensures.below
    (ap (λ (x : ChosenEdgesView). x.arcs) c.truncate.ensures ∙ ap (λ n. take n c.self.inside.chosen.arcs) c.edge_count-count.ensures.count)
