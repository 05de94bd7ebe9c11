use Rattle.std.proofs.Common.{List, ℕ, Ok, refl}
use Rattle.itv_base.specs.declared.limits.TheConstants.{REPORT_LIMIT}
use Rattle.drawn_networks.specs.Drawn.{Drawn}
use Rattle.design_reading.specs.declared.refusal_place.RefusalPlace.TheVariants.{Report}
use Rattle.design_reading.specs.FileReading.{FileReading, gives, ◌>>=◌, file_at}
use Rattle.design_reading.proofs.Opens.{opens_then, opens_up}
use Rattle.command_words.specs.declared.job.CheckJob.{CheckJob}
use Rattle.itv_cli.specs.declared.ready.Ready.{Ready}
use Rattle.itv_cli.specs.declared.ready.Ready.TheVariants.{Checked}
use Rattle.itv_cli.proofs.Steps.{design_up, design_then}
use Rattle.itv_cli.proofs.opening.open_checked.Goals as goal

-- the report is read after the design
abbrev with_report : CheckJob → List ℕ → Drawn → FileReading Ready
with_report job report drawn = file_at Report report REPORT_LIMIT >>= (λ bytes. gives (Checked drawn job bytes))

pub returns-in_err-drawn-clause-opens : goal.returns-in_err-drawn-clause-opens
returns-in_err-drawn-clause-opens g c =
    design_up c.args.design.now (with_report c.args.job c.args.report.now) (g.H.Shelf.state c.args.shelf.now) (g.H.Shelf.state c.open_design.new.shelf) c.in_err-drawn.field-0.0 c.from_residual.result
    c.from_residual.ensures.1 c.in_err-drawn.ensures.opens

pub returns-in_err-report-clause-opens : goal.returns-in_err-report-clause-opens
returns-in_err-report-clause-opens g c =
    design_then c.args.design.now (with_report c.args.job c.args.report.now) (g.H.Shelf.state c.args.shelf.now) (g.H.Shelf.state c.open_design.new.shelf) (g.H.Shelf.state c.fetch_file.new.shelf) c.in_ok-drawn.drawn c.from_residual-in_err-report.result
    c.in_ok-drawn.ensures.opens
    (opens_up (λ (bytes : List ℕ). bytes) (λ (given : Ready). given) (file_at Report c.args.report.now REPORT_LIMIT) (λ bytes. gives (Checked c.in_ok-drawn.drawn c.args.job bytes)) (g.H.Shelf.state c.open_design.new.shelf) (g.H.Shelf.state c.fetch_file.new.shelf)
    c.in_err-report.field-0.0 c.from_residual-in_err-report.result c.from_residual-in_err-report.ensures.1 c.in_err-report.ensures.opens)

pub returns-clause-opens : goal.returns-clause-opens
returns-clause-opens g c =
    design_then c.args.design.now (with_report c.args.job c.args.report.now) (g.H.Shelf.state c.args.shelf.now) (g.H.Shelf.state c.open_design.new.shelf) (g.H.Shelf.state c.fetch_file.new.shelf) c.in_ok-drawn.drawn
    (Ok (Checked c.in_ok-drawn.drawn c.args.job c.in_ok-report.report)) c.in_ok-drawn.ensures.opens
    (opens_then (λ (bytes : List ℕ). bytes) (λ (given : Ready). given) (file_at Report c.args.report.now REPORT_LIMIT) (λ bytes. gives (Checked c.in_ok-drawn.drawn c.args.job bytes)) (g.H.Shelf.state c.open_design.new.shelf) (g.H.Shelf.state c.fetch_file.new.shelf)
    (g.H.Shelf.state c.fetch_file.new.shelf) c.in_ok-report.report (Ok (Checked c.in_ok-drawn.drawn c.args.job c.in_ok-report.report)) c.in_ok-report.ensures.opens (refl, refl))
