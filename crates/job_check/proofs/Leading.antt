-- Steps of a walk one after another.
use Rattle.std.proofs.Common.{◌≡◌, ◌+◌, ◌≤◌, ◌<◌, ℕ, false, List, [], ◌∷◌, length, drop, Some, None, slice_get, inl, inr, refl, sym, ◌∙◌, subst, arith}
use Rattle.std.proofs.Math.ListN.{drop_of_length-le}
use Rattle.std.proofs.lemmas.Option.{slice_get_within}
use Rattle.event_graph.specs.Network.{Net}
use Rattle.itv_base.proofs.Lists.{drop-read}
use Rattle.slack_report.specs.Entry.{Entry, proof}
use Rattle.right_report.specs.Right.ReportState.{ReportState, at_heading, at_last}
use Rattle.drawn_networks.specs.Drawn.{Drawn}
use Rattle.right_report.specs.Right.Following.{LinesLead}
use Rattle.right_report.specs.Checked.{checked}
use Rattle.right_report.specs.Wrong.{IsFirstWrong, IsLineRefused}
use Rattle.branch.specs.Work.{IsMadeFor, WorkView}
use Rattle.cert_checker.specs.Checking.{CheckerView}
use Rattle.job_check.specs.declared.stage.Stage.{Stage}
use Rattle.job_check.specs.Step.Stages.{Decides, Fits, at_of, is_proof}
use Rattle.job_check.specs.Step.CheckWalks.{IsWrongFrom, CheckLeads, StepsOn}

-- a line that is no proof line is not refused as one
pub not_refused : (net : Net) (here : ReportState) (line : Entry) (rest : List Entry) → is_proof line ≡ false → IsLineRefused net here line rest → ⊥
not_refused net here (proof line) rest other refused = absurd (cc other)
not_refused net here line rest other refused = refused

module _ (drawn : Drawn) (lines : List Entry) where
  pub leads_none : (here : ReportState) (start : ℕ) → CheckLeads drawn lines here start here start
  leads_none here start = record { reads = λ r. r; wrong = λ number w. w }

  pub leads_then : (here mid next : ReportState) (start now behind : ℕ) → CheckLeads drawn lines here start mid now → CheckLeads drawn lines mid now next behind → CheckLeads drawn lines here start next behind
  leads_then here mid next start now behind a b = record { reads = λ r. a.reads (b.reads r); wrong = λ number w. a.wrong number (b.wrong number w) }

  module _ (here : ReportState) (start : ℕ) (line : Entry) (is : slice_get lines start ≡ Some line) where
    -- a line leads on
    pub line_leads : (stage : Stage) → Decides drawn here line (Some stage) → CheckLeads drawn lines here start (at_of drawn stage) (start + 1)
    line_leads stage fine =
        let parts : drop start lines ≡ line ∷ drop (start + 1) lines = drop-read lines start line is in
        record {
          reads = λ r. subst (λ xs. LinesLead (checked drawn.net) drawn here xs at_last) (sym parts) (at_of drawn stage, fine.0, r);
          wrong = λ number w. (
            w.0 + 1,
            subst (λ xs. IsFirstWrong drawn here xs (w.0 + 1)) (sym parts)
                (inr (at_of drawn stage, w.0, (fine.0, not_refused drawn.net here line (drop (start + 1) lines) fine.1), w.1, refl)),
            (let sum : number ≡ (start + 1) + w.0 = w.2 in omega arith),
          );
        }

    -- or it is the first wrong line
    pub line_wrong : Decides drawn here line None → IsWrongFrom drawn lines here start start
    line_wrong bars =
        let parts : drop start lines ≡ line ∷ drop (start + 1) lines = drop-read lines start line is in
        (0, subst (λ xs. IsFirstWrong drawn here xs 0) (sym parts) (inl (inl bars, refl)), omega arith)

    pub line_steps : (stage : Stage) → Decides drawn here line (Some stage) → StepsOn drawn lines here start stage (start + 1)
    line_steps stage fine = record {
      leads = line_leads stage fine;
      fits = fine.2;
      more = omega arith;
      within = (let there : start < length lines = slice_get_within lines start line is in omega arith);
    }

  -- ---- the ends of a walk

  pub walk_wrong : (here : ReportState) (number : ℕ) → IsWrongFrom drawn lines here 0 number → IsFirstWrong drawn here lines number
  walk_wrong here number w = let sum : number ≡ 0 + w.0 = w.2 in let same : w.0 ≡ number = omega arith in subst (IsFirstWrong drawn here lines) same w.1

  -- if the lines end too early, the line that is missing is wrong
  pub end_wrong : (here : ReportState) (start : ℕ) → length lines ≤ start → (here ≡ at_last → ⊥) → IsWrongFrom drawn lines here start start
  end_wrong here start past other =
      let none : drop start lines ≡ [] = drop_of_length-le lines past in
      (0, subst (λ xs. IsFirstWrong drawn here xs 0) (sym none) (other, refl), omega arith)

  pub end_reads : (here last : ReportState) (start : ℕ) → length lines ≤ start → last ≡ at_last → CheckLeads drawn lines here 0 last start → LinesLead (checked drawn.net) drawn here lines at_last
  end_reads here last start past is leads =
      let none : drop start lines ≡ [] = drop_of_length-le lines past in
      leads.reads (subst (λ xs. LinesLead (checked drawn.net) drawn last xs at_last) (sym none) is)

-- the first wrong line is one of the lines, or the missing line after them
pub wrong_within : (drawn : Drawn) (here : ReportState) (lines : List Entry) (number : ℕ) → IsFirstWrong drawn here lines number → number ≤ length lines
wrong_within drawn here [] number w = let e : number ≡ 0 = w.1 in omega arith
wrong_within drawn here (line ∷ lines) number (inl w) = let e : number ≡ 0 = w.1 in omega arith
wrong_within drawn here (line ∷ lines) number (inr w) =
    let rest : w.1 ≤ length lines = wrong_within drawn w.0 lines w.1 w.3 in
    let e : number ≡ w.1 + 1 = w.4 in
    omega arith

-- ---- a whole walk

-- the lines so far lead from the heading to a stage
pub record IsWalking (drawn : Drawn) (lines : List Entry) (stage : Stage) (start : ℕ) (checker : CheckerView) (work : WorkView) : Type 0 where
  pub leads : CheckLeads drawn lines at_heading 0 (at_of drawn stage) start
  pub fits : Fits drawn stage
  pub within : start ≤ length lines
  pub room : checker.room ≡ length drawn.net.constraints
  pub made : IsMadeFor drawn.net work

pub walking_more : (drawn : Drawn) (lines : List Entry) (stage next : Stage) (start behind : ℕ) (checker now : CheckerView) (work later : WorkView)
    → IsWalking drawn lines stage start checker work → StepsOn drawn lines (at_of drawn stage) start next behind → now.room ≡ checker.room → IsMadeFor drawn.net later
    → IsWalking drawn lines next behind now later
walking_more drawn lines stage next start behind checker now work later w step room made = record {
  leads = leads_then drawn lines at_heading (at_of drawn stage) (at_of drawn next) 0 start behind w.leads step.leads;
  fits = step.fits;
  within = step.within;
  room = room ∙ w.room;
  made = made;
}
