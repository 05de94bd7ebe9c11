-- The lines of events from a number on.
use Rattle.std.proofs.Common.{◌≡◌, ◌+◌, ◌<◌, ℕ, ◌∷◌, ◌++◌, length, get_or, drop, refl, ap, add-one, drop-cons, unwrap_or}
use Rattle.std.proofs.lemmas.Option.{slice_get-get_or}
use Rattle.slack_report.specs.Entry.{event}
use Rattle.slack_report.specs.Text.{entry_text, report_text}
use Rattle.drawn_networks.specs.Drawn.{Drawn, name_of, nameless}
use Rattle.job_base.specs.Events.{event_of, events_from}

pub events_more : (drawn : Drawn) (i : ℕ) → i < length drawn.names
    → report_text (events_from i (drop i drawn.names)) ≡ entry_text (event i (name_of drawn (event_of i))) ++ report_text (events_from (i + 1) (drop (i + 1) drawn.names))
events_more drawn i h =
    let more : drop i drawn.names ≡ get_or drawn.names i nameless ∷ drop (i + 1) drawn.names = rw (add-one, drop-cons drawn.names i nameless h) refl in
    let name : name_of drawn (event_of i) ≡ get_or drawn.names i nameless = ap (λ o. unwrap_or o nameless) (slice_get-get_or drawn.names i nameless h) in
    rw (more, name) refl
