use Rattle.std.proofs.Common.{◌≡◌, ℕ, List, ◌++◌, subst, arith, ◌∙◌}
use Rattle.std.specs.Prelude.{codes, decimal}
use Rattle.itv_base.specs.Outside.{Puts}
use Rattle.itv_base.proofs.Printed.{number_text-decimal}
use Rattle.job_check.proofs.answer.put_refused.Goals as goal

pub returns : goal.returns
returns g c =
    let digits : c.as_bytes-number.result.now ≡ decimal c.args.line = c.as_bytes-number.ensures.value ∙ (c.number_text.ensures.text ∙ number_text-decimal c.args.line (omega (arith, c.ranges.line.fits))) in
    record {
      puts =
          subst (λ (text : List ℕ). Puts (g.K.Sink.state c.args.sink.now) (g.K.Sink.state c.put_all.new.sink) (codes "report refused at line " ++ (text ++ codes "\n")) c.put_all.result) digits c.put_all.ensures.puts;
    }
