use Rattle.std.proofs.Common.{◌∙◌, ℤ, List, [], sym, arith}
use Rattle.std.proofs.lemmas.Int.{ints}
use Rattle.std.specs.Prelude.{unwrap_or}
use Rattle.whatif.specs.Step.Bounds.{IsBetterStart}
use Rattle.whatif.proofs.Bounds.{known_satisfies}
use Rattle.whatif.proofs.bound.search_pair.Goals as goal
use Rattle.whatif.proofs.bound.search_pair.Goals.{in-Some, in-None}

pub returns-clause-searched : goal.returns-clause-searched
returns-clause-searched c =
    let pair = c.args.pair in
    let known : List ℤ = unwrap_or c.args.work.now.known [] in
    elim c.match-start.branch [
      | in-Some w ↦
          (let better : IsBetterStart c.args.net.now pair known w.in-Some.times.now = rw w.in-Some.is at c.requires.start in
          let is = sym w.searched-is ∙ c.in-Ok.is in
          let lines = rw is at w.greatest_from-searched.ensures.lines in
          let satisfies = rw is at w.greatest_from-searched.ensures.times in
          let close = rw is at w.greatest_from-searched.ensures.close in
          let least = rw is at w.greatest_from-searched.ensures.least in
          rw (w.work-is, w.keeper-is) (
            lines.0,
            lines.1,
            record {
              start = w.in-Some.times.now;
              started = better.satisfies;
              answers = lines.2;
              needed = lines.3;
              satisfies = satisfies;
              close = close;
              least = omega (arith, ints, better.least, least);
            },
          ))
      | in-None w ↦
          (let is = sym w.searched-is ∙ c.in-Ok.is in
          let lines = rw is at w.greatest-searched.ensures.lines in
          let satisfies = rw is at w.greatest-searched.ensures.times in
          let close = rw is at w.greatest-searched.ensures.close in
          let least = rw is at w.greatest-searched.ensures.least in
          rw (w.work-is, w.keeper-is) (
            lines.0,
            lines.1,
            record {
              start = known;
              started = known_satisfies c.args.net.now c.args.work.now.known c.requires.known;
              answers = lines.2;
              needed = lines.3;
              satisfies = satisfies;
              close = close;
              least = least;
            },
          ))
    ]
