-- What job bounds writes is accepted.
use Rattle.job_bounds.proofs.WrittenLaws.{written_is_accepted}
use Rattle.drawn_laws.proofs.Designs.{drawn_names_have_form, drawn_ranges_have_form}
use Rattle.conformance.specs.Laws.{OwnReportIsAccepted}

pub own_report_is_accepted : OwnReportIsAccepted
own_report_is_accepted shelf design drawn most lines comes written =
    written_is_accepted drawn most lines written (drawn_names_have_form shelf design drawn comes) (drawn_ranges_have_form shelf design drawn comes)
