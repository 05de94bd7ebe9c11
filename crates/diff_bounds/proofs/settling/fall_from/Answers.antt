use Rattle.std.proofs.Common.{◌≡◌, ◌∙◌, ◌<◌, Bool, List, ap, arith, false, length, refl, true}
use Rattle.std.proofs.lemmas.Grind.{get_or-set_at}
use Rattle.diff_bounds.specs.Step.Falling.{scope_of}
use Rattle.diff_bounds.specs.Step.Waiting.{is_waiting}
use Rattle.diff_bounds.proofs.Poising.{all_done}
use Rattle.diff_bounds.proofs.settling.fall_from.Goals as goal

pub fall-requires-clause-waits : goal.fall-requires-clause-waits
fall-requires-clause-waits c =
    let long : length c.clear.new.self.marks ≡ c.args.net.now.events = c.clear.ensures.marks ∙ c.requires.placed.marks in
    let within : c.args.from.0 < length c.clear.new.self.marks = omega (arith, c.requires.from) in
    let waits : is_waiting c.push.new.self.marks c.args.from.0 ≡ true =
    ap (λ (marks : List Bool). is_waiting marks c.args.from.0) c.push.ensures.marks ∙ get_or-set_at c.clear.new.self.marks c.args.from.0 c.args.from.0 true false refl within in
    all_done (scope_of c.args.net.now c.args.trail.now c.args.run) c.args.run c.args.from c.args.trail.now.current.stamps c.push.new.self.marks c.requires.others waits
