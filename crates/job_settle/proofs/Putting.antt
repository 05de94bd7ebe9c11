-- Texts of several pieces.
use Rattle.std.proofs.Common.{◌≡◌, ℤ, Bool, List, [], ◌++◌, refl}
use Rattle.std.specs.Prelude.{if◌then◌else◌}
use Rattle.itv_base.specs.Range.{Ends}
use Rattle.itv_base.specs.declared.row_kind.RowKind.TheVariants as kinds
use Rattle.requirements.specs.Slacks.{slack_of}
use Rattle.requirements.specs.Verdicts.{verdict_of}
use Rattle.requirements.specs.declared.bound.Bound.{Bound}
use Rattle.requirements.specs.declared.bound.Slack.{Slack}
use Rattle.requirements.specs.declared.verdict.Verdict.{Verdict}
use Rattle.right_report.specs.Right.ReportState.{is_fail}
use Rattle.slack_report.specs.Entry as line
use Rattle.slack_report.specs.Text.{entry_text}
use Rattle.slack_report.specs.declared.words.EndWord.{EndWord}
use Rattle.drawn_networks.specs.Drawn.{Drawn}
use Rattle.job_settle.specs.declared.finding.Finding.{Finding}
use Rattle.job_settle.specs.declared.row.RowFound.{RowFound}
use Rattle.job_settle.specs.Answers.{bound_of}
use Rattle.job_settle.specs.Text.{behind_text, ending_of, finding_text, front_text, judged_text, settle_text}

-- ---- a piece fails

-- ---- all are put, or the last one fails

-- ---- the texts

pub verdict_is : (range : Ends) (found : RowFound) (least most : Bound) (word : Verdict) (past : List ℤ) (value : Slack) → least ≡ bound_of found.least → most ≡ bound_of found.greatest
    → word ≡ verdict_of range least most → past ≡ found.past.items → value ≡ slack_of range least most
    → entry_text (line.verdict word) ++ ((if is_fail word then entry_text (line.times past) else []) ++ entry_text (line.slack value)) ≡ judged_text (kinds.Req range) found
verdict_is range found least most word past value is_least is_most is_word is_past is_value = rw (is_word, is_past, is_value, is_least, is_most) refl

pub settle_is : (drawn : Drawn) (cert : Bool) (finding : Finding) (rows found : List RowFound) (word : EndWord) → rows ≡ found → word ≡ ending_of drawn.rows finding found
    → front_text drawn ++ (finding_text cert finding ++ (behind_text drawn cert finding rows ++ entry_text (line.ending word))) ≡ settle_text drawn cert finding found
settle_is drawn cert finding rows found word is_rows is_word = rw (is_rows, is_word) refl
