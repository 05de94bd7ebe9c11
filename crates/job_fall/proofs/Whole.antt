-- The whole text of the job, and a front of it if a put failed.
use Rattle.std.proofs.Common.{◌≡◌, ℕ, Bool, List, [], ◌++◌, refl, sym, ap, ◌∙◌, append-nil}
use Rattle.std.specs.List.{concat}
use Rattle.itv_base.specs.Outside.{CutShort, SinkState, grown}
use Rattle.itv_base.proofs.Written.{cut_then, grown-append}
use Rattle.job_fall.specs.FallText.{fall_text}
use Rattle.job_base.specs.declared.answer.Answer.{Answer}
use Rattle.slack_report.specs.declared.words.EndWord.{EndWord}
use Rattle.drawn_networks.specs.Drawn.{Drawn}
use Rattle.falling.specs.declared.view.View.{View}
use Rattle.job_base.specs.Ending.{answer_of}
use Rattle.job_fall.specs.Fall.{AnswersFall, BeginsFall, Job, at_finding, at_last}
use Rattle.job_fall.specs.Step.{WrotePieceFront, WrotePieces}
use Rattle.job_fall.specs.Text.{front_text}
use Rattle.falling.specs.View.{IsViewOf}
use Rattle.job_fall.proofs.Going.{none_begun}

abbrev job_of : Drawn → View → ℕ → Bool → Job
job_of drawn view turns cert = record { drawn = drawn; view = view; turns = turns; cert = cert }

module _ (drawn : Drawn) (view : View) (turns : ℕ) (cert : Bool) (v : IsViewOf drawn.net view) where
  -- the put of the front was cut short
  pub begins_front : (old new : SinkState) → CutShort old new (front_text drawn view) → (text : List ℕ) × BeginsFall drawn turns cert text × CutShort old new text
  begins_front old new cut = (
    front_text drawn view,
    record {
      view = view;
      is_view = v;
      pieces = [];
      last = at_finding;
      reads = refl;
      begun = [];
      are_begun = none_begun (job_of drawn view turns cert) at_finding;
      is_text = sym (append-nil (front_text drawn view));
    },
    cut,
  )

  -- a later put was cut short
  pub begins_rest : (old now new : SinkState) → now ≡ grown old (front_text drawn view) → WrotePieceFront (job_of drawn view turns cert) at_finding now new
      → (text : List ℕ) × BeginsFall drawn turns cert text × CutShort old new text
  begins_rest old now new put s = (
    front_text drawn view ++ (concat s.pieces ++ fall_text s.begun),
    record { view = view; is_view = v; pieces = s.pieces; last = s.last; reads = s.reads; begun = s.begun; are_begun = s.are_begun; is_text = refl },
    cut_then old now new (front_text drawn view) (concat s.pieces ++ fall_text s.begun) put s.cut,
  )

  -- all was put
  pub answers_fall : (old now new : SinkState) (word : EndWord) (answer : Answer) → now ≡ grown old (front_text drawn view) → WrotePieces (job_of drawn view turns cert) at_finding (at_last word) now new
      → answer ≡ answer_of word → (text : List ℕ) × AnswersFall drawn turns cert answer text × (new ≡ grown old text)
  answers_fall old now new word answer put t is = (
    front_text drawn view ++ concat t.pieces,
    record { view = view; is_view = v; pieces = t.pieces; word = word; reads = t.reads; is_text = refl; is_answer = is },
    t.grew ∙ ap (λ current. grown current (concat t.pieces)) put ∙ grown-append old (front_text drawn view) (concat t.pieces),
  )

-- ---- clauses
