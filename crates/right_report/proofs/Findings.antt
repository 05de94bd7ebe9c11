-- What the finding of a right report says.
use Rattle.std.proofs.Common.{◌≡◌, ℤ, List, [], ◌∷◌, Some, inl, inr, sym, subst, ap, ◌∙◌}
use Rattle.std.proofs.lemmas.Option.{same_Some}
use Rattle.event_graph.specs.Satisfying.{Satisfies}
use Rattle.event_graph.specs.Proof.{ProofLine}
use Rattle.requirements.specs.declared.consistency.Consistency.{Consistency}
use Rattle.requirements.specs.declared.consistency.Consistency.TheVariants.{Consistent, Inconsistent}
use Rattle.slack_report.specs.Entry.{Entry, finding}
use Rattle.drawn_networks.specs.Drawn.{Drawn}
use Rattle.right_report.specs.Right.ReportState.{ReportState, at_heading, at_budget, at_events, at_event, at_finding, at_known, at_rows, at_row, at_bound, at_times, at_raise, at_verdict, at_past, at_slack, at_end, at_last, behind_finding}
use Rattle.right_report.specs.Right.LineClaims.{IsFinding, right}
use Rattle.right_report.specs.Right.Following.{LineClaims, MayFind, MayFollow, LinesLead}
use Rattle.right_report.specs.Laws.{ConsistentIsSo, InconsistentIsSo}
use Rattle.right_report.specs.ReportContents.{finding_in}

-- the line of a finding follows, with the lines of a proof before it
pub record Finds (claims : LineClaims) (word : Consistency) (next : ReportState) : Type 0 where
  pub lines : List ProofLine
  pub holds : claims.finding lines word
  pub leads : next ≡ behind_finding word

pub same_finding : (a b : Consistency) → finding a ≡ finding b → a ≡ b
same_finding a b e = cc

module _ (claims : LineClaims) (drawn : Drawn) (word : Consistency) (next : ReportState) where
  find_finds : (lines : List ProofLine) → MayFind claims lines (finding word) next → Finds claims word next
  find_finds lines (inl h) = absurd (cc h.1)
  find_finds lines (inr h) =
      let same : h.0 ≡ word = sym (same_finding word h.0 h.1) in
      record { lines = lines; holds = subst (claims.finding lines) same h.2; leads = h.3 ∙ ap behind_finding same }

  finds : (here : ReportState) → MayFollow claims drawn here (finding word) next → Finds claims word next
  finds at_heading h = absurd (cc h.0)
  finds at_budget h = absurd (cc h.1)
  finds at_events h = absurd (cc h.0)
  finds (at_event number (name ∷ names)) h = absurd (cc h.0)
  finds (at_event number []) h = find_finds [] h
  finds (at_finding lines) h = find_finds lines h
  finds at_known h = absurd (cc h.1)
  finds (at_rows other) h = absurd (cc h.0)
  finds (at_row tally number []) h = absurd (cc h.0)
  finds (at_row tally number (r ∷ later)) h = absurd (cc h.0)
  finds (at_bound current coming lines) (inl h) = absurd (cc h.1)
  finds (at_bound current coming lines) (inr h) = absurd (cc h.1)
  finds (at_times current coming value) h = absurd (cc h.1)
  finds (at_raise current coming list) h = absurd (cc h.1)
  finds (at_verdict current range least most) h = absurd (cc h.0)
  finds (at_past current range least most) h = absurd (cc h.1)
  finds (at_slack tally number later range least most) h = absurd (cc h.0)
  finds (at_end other) h = absurd (cc h.0)
  finds at_last h = absurd h

-- the finding in the lines is right, and the lines after it lead on
pub record Tells (drawn : Drawn) (word : Consistency) (last : ReportState) : Type 0 where
  pub holds : IsFinding drawn.net word
  pub lines : List Entry
  pub reads : LinesLead (right drawn.net) drawn (behind_finding word) lines last

tells : (drawn : Drawn) (word : Consistency) (lines : List Entry) (here last : ReportState) → LinesLead (right drawn.net) drawn here lines last → finding_in lines ≡ Some word → Tells drawn word last
tells drawn word [] here last h is = absurd (cc)
tells drawn word (finding other ∷ lines) here last h is =
    let same : other ≡ word = same_Some other word is in
    let f : Finds (right drawn.net) word h.0 = finds (right drawn.net) drawn word h.0 here (subst (λ w. MayFollow (right drawn.net) drawn here (finding w) h.0) same h.1) in
    record { holds = f.holds; lines = lines; reads = subst (λ x. LinesLead (right drawn.net) drawn x lines last) f.leads h.2 }
tells drawn word (line ∷ lines) here last h is = tells drawn word lines h.0 last h.2 is

pub inconsistent_is_so : InconsistentIsSo
inconsistent_is_so drawn lines h is = (tells drawn Inconsistent lines at_heading h.0 h.1 is).holds

known_times : (drawn : Drawn) (lines : List Entry) → LinesLead (right drawn.net) drawn at_known lines at_last → (list : List ℤ) × Satisfies list drawn.net
known_times drawn [] h = absurd (cc)
known_times drawn (line ∷ lines) h = let m = h.1 in (m.0, m.2.0)

pub consistent_is_so : ConsistentIsSo
consistent_is_so drawn lines h is = let t = tells drawn Consistent lines at_heading at_last h is in known_times drawn t.lines t.reads
