-- The lines of a summary, and a summary that was cut short.
use Rattle.std.proofs.Common.{◌≡◌, ◌+◌, ◌<◌, ℕ, List, ◌++◌, length, get_or, drop, Err, refl, add-one, drop-cons}
use Rattle.std.specs.List.{flat_map}
use Rattle.itv_base.specs.Outside.{CutShort, SinkState}
use Rattle.job_base.specs.JobWrote.{Answered, JobWrote}
use Rattle.job_base.specs.declared.unanswered.Unanswered.TheVariants.{PutFailed}
use Rattle.drawn_networks.specs.Drawn.{Drawn}
use Rattle.job_base.specs.Ending.{answer_of}
use Rattle.job_bounds.specs.declared.summary.Summary.{Summary}
use Rattle.job_self.specs.Summary.{AnswersSummary, ComesTo, summary_text}
use Rattle.job_self.specs.Step.{count_text}
use Rattle.job_self.specs.declared.write.Count.{Count}

-- the lines from a number on
pub counts_more : (counts : List Count) (i : ℕ) (d : Count) → i < length counts
    → flat_map count_text (drop i counts) ≡ count_text (get_or counts i d) ++ flat_map count_text (drop (i + 1) counts)
counts_more counts i d h = rw (add-one, drop-cons counts i d h) refl

-- a front of the text of a summary is a text that the job may have begun to write
pub summary_cut : (drawn : Drawn) (size most : ℕ) (summary : Summary) (old new : SinkState) → ComesTo drawn most summary
    → CutShort old new (summary_text drawn size summary) → JobWrote (AnswersSummary drawn size most) (Answered (AnswersSummary drawn size most)) old new (Err PutFailed)
summary_cut drawn size most summary old new comes cut = (
  summary_text drawn size summary,
  (answer_of summary.end, record { summary = summary; comes = comes; is_answer = refl; is_text = refl }),
  cut,
)
