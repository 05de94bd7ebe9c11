use Rattle.std.proofs.Common.{◌≡◌, IfOk, sym, subst}
use Rattle.falling.specs.declared.view.View.{View}
use Rattle.settle.specs.declared.prover.SearchState.{SearchState}
use Rattle.settle.specs.declared.prover.SearchState.TheVariants.{Over}
use Rattle.settle.specs.Step.Racing.{IsOverAs}
use Rattle.settle.proofs.race.Race.proceed.Goals as goal

pub returns-in-Negated-clause-over : goal.returns-in-Negated-clause-over
returns-in-Negated-clause-over c =
    subst
    (λ (v : View). IfOk c.step-in-Negated.result
    (λ (next : SearchState). next ≡ Over
    → IsOverAs v
    (record {
      from = c.args.self.now.from;
      to = c.args.self.now.to;
      limits = c.args.self.now.limits;
      plain = c.args.self.now.plain;
      turned = c.step-in-Negated.new.self;
      best = c.args.self.now.best;
      view = c.args.self.now.view;
      blocks = c.args.self.now.blocks;
    })))
    (sym c.in-Negated.is)
    c.step-in-Negated.ensures.over
