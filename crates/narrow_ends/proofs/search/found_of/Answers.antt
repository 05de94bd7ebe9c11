use Rattle.std.proofs.Common.{w64, refl}
use Rattle.std.proofs.lemmas.Int.{to_z-of_z}
use Rattle.narrow_ends.proofs.Seeking.{closed_found, unbounded_found}
use Rattle.narrow_ends.proofs.search.found_of.Goals as goal

pub returns-in-Closed-clause-found : goal.returns-in-Closed-clause-found
returns-in-Closed-clause-found c = λ net e found.
    closed_found net e c.args.weight _ c.in-Closed.value c.args.so_far c.args.greatest.now c.in-Closed.shown c.found_by.result c.found_by.result (to_z-of_z w64 c.args.weight c.ranges.weight)
    c.in-Closed.is (c.found_by.ensures.found net e) refl found

pub returns-in-Unbounded-clause-found : goal.returns-in-Unbounded-clause-found
returns-in-Unbounded-clause-found c = λ net e found.
    unbounded_found net e c.args.weight c.args.so_far c.args.greatest.now c.in-Unbounded.shown _ c.in-Unbounded.is refl found
