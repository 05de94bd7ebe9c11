use Rattle.std.proofs.Common.{rules}
use Rattle.diff_bounds.specs.Standing.{IsRayOf}
use Rattle.diff_bounds.proofs.Standings.{ray_raised}
use Rattle.diff_bounds.proofs.bounds.Bounds.ray_into.Goals as goal

pub returns-clause-raised : goal.returns-clause-raised
returns-clause-raised c =
    let ray : IsRayOf c.args.self.now c.write_ray.new.out = search rules in
    λ net times by stands are. ray_raised net c.args.self.now c.write_ray.new.out times by ray stands are
