use Rattle.std.proofs.Common.{rules, subst, sym}
use Rattle.diff_bounds.specs.Standing.{AreTimesOf, BoundsView, Stands, standing_in}
use Rattle.diff_bounds.proofs.Standings.{stands_reach, times_attain, times_met, times_origin}
use Rattle.diff_bounds.proofs.bounds.Bounds.times_into.Goals as goal

pub least_lift-lift-requires-clause-labels : goal.least_lift-lift-requires-clause-labels
least_lift-lift-requires-clause-labels c =
    let P : BoundsView → Type 0 = λ b. Stands c.requires.stands.0 b in
    stands_reach c.requires.stands.0 (standing_in c.self.inside) (subst P (sym c.self.view_is) c.requires.stands.1)

pub write_times-requires-clause-labels : goal.write_times-requires-clause-labels
write_times-requires-clause-labels c =
    let P : BoundsView → Type 0 = λ b. Stands c.requires.stands.0 b in
    stands_reach c.requires.stands.0 (standing_in c.self.inside) (subst P (sym c.self.view_is) c.requires.stands.1)

pub returns-clause-meets : goal.returns-clause-meets
returns-clause-meets c =
    let are : AreTimesOf c.args.self.now c.write_times.new.out = search rules in
    λ net stands. times_met net c.args.self.now c.write_times.new.out stands are

pub returns-clause-attained : goal.returns-clause-attained
returns-clause-attained c =
    let are : AreTimesOf c.args.self.now c.write_times.new.out = search rules in
    λ net source event value stands from below at. times_attain net c.args.self.now c.write_times.new.out source event value stands are from below at

pub returns-clause-origin : goal.returns-clause-origin
returns-clause-origin c =
    let are : AreTimesOf c.args.self.now c.write_times.new.out = search rules in
    λ net source stands from. times_origin net c.args.self.now c.write_times.new.out source stands are from
