-- How a run ends, and what its end says.
use Rattle.std.proofs.Common.{◌≡◌, ◌<◌, ◌∙◌, inl, inr, List, ℕ, Option, Some, None, Result, Ok, Err, refl, sym, ap, subst, arith}
use Rattle.std.specs.Bool.{⊤}
use Rattle.itv_base.specs.Outside.{Files, ShelfState, SinkState, Puts, FaultCounted}
use Rattle.itv_base.proofs.Options.{if_some}
use Rattle.job_base.specs.JobWrote.{JobWrote}
use Rattle.job_base.specs.declared.answer.Answer.{Answer}
use Rattle.job_base.specs.declared.answer.Answer.TheVariants as answers
use Rattle.job_base.specs.declared.unanswered.Unanswered.{Unanswered}
use Rattle.job_base.specs.declared.unanswered.Unanswered.TheVariants as unanswered
use Rattle.design_reading.specs.declared.refusal_place.RefusalPlace.{RefusalPlace}
use Rattle.design_reading.specs.declared.refusal.Refusal.{Refusal}
use Rattle.design_reading.specs.declared.stop.Stop.{Stop}
use Rattle.design_reading.specs.declared.stop.Stop.TheVariants as stops
use Rattle.design_reading.specs.FileReading.{End, ready, refused, unread, end_over}
use Rattle.design_reading.specs.Refusal.{refusal_text, unread_text}
use Rattle.design_reading.proofs.Opens.{told_ready, told_refused}
use Rattle.command_words.specs.Task.{Task, taken, task, help, bad_words}
use Rattle.itv_cli.specs.declared.outcome.Outcome.{Outcome}
use Rattle.itv_cli.specs.declared.outcome.Outcome.TheVariants.{AllPass, Help, SomeFail, Inconsistent, Undecided, Refused, ReadFault, WriteFault, NoMemory, BadWords, CheckRefused}
use Rattle.itv_cli.specs.declared.ready.Ready.{Ready}
use Rattle.itv_cli.specs.Job.{Answers, MayHaveWritten, made_for, opening}
use Rattle.itv_cli.specs.Run.{Call, HasRead, ReadsOver, OutcomeBy, FilesDecide, HasAnswered, IsShelfUnchanged, OutcomeMeans, IntendedText, Wrote, Completes, RefusesWords, ShowsFaults, outcome_of}
use Rattle.itv_cli.specs.Run.IntendedText.{at_end}
use Rattle.itv_cli.specs.Step.{OpensFor, Stops, EndsWithText, answered, end_after}

-- ---- what each end says

-- how a run ends after a put of a text
pub tells : {E : Type 0} (old new : SinkState) (text : List ℕ) (end result : Outcome) (put : Result ⊤ E)
    → Puts old new text put → result ≡ end_after put end → EndsWithText old new text end result
tells old new text end result (Ok x) puts is = inl (is, puts)
tells old new text end result (Err e) puts is = inr (is, puts)

-- what the end of a run that put a text says
pub standing : (call : Call) (text : List ℕ) (end result : Outcome) → EndsWithText call.sink_before call.sink_after text end result
    → IntendedText call text → (Wrote call text → OutcomeMeans call end) → OutcomeMeans call result
standing call text end result (inl p) wanted means = rw p.0 (means p.1)
standing call text end result (inr p) wanted means = rw p.0 (record { text = text; wanted = wanted; cut = p.1 })

means_answer : (call : Call) (answer : Answer) → HasAnswered call answer → OutcomeMeans call (outcome_of answer)
means_answer call answers.AllPass h = h
means_answer call answers.SomeFail h = h
means_answer call answers.Inconsistent h = h
means_answer call answers.Undecided h = h
means_answer call answers.CheckRefused h = h
means_answer call answers.DesignRefused h = inr h

-- a reading that gave something leaves the shelf unchanged
kept_by : (made : Option Files) (old new : ShelfState) (asked : Task) (given : Ready) → ReadsOver made old new asked (ready given) → new ≡ old
kept_by None old new asked given h = h.1
kept_by (Some files) old new asked given h = h.1

kept_refused : (made : Option Files) (old new : ShelfState) (asked : Task) (place : RefusalPlace) (why : Refusal) → ReadsOver made old new asked (refused place why) → new ≡ old
kept_refused None old new asked place why h = h.1
kept_refused (Some files) old new asked place why h = h.1

kept_ready : (call : Call) (given : Ready) → HasRead call (ready given) → IsShelfUnchanged call
kept_ready call given c = kept_by (made_for c.asked) call.shelf_before call.shelf_after c.asked given c.ends

-- all was read, and the job has done its work
pub worked : (call : Call) (given : Ready) (r : Result Answer Unanswered) → HasRead call (ready given) → JobWrote (Answers given) (MayHaveWritten given) call.sink_before call.sink_after r → OutcomeMeans call (answered r)
worked call given (Ok answer) came w = means_answer call answer (record { given = given; came = came; text = w.0; answers = w.1; wrote = w.2 })
worked call given (Err unanswered.PutFailed) came w = record { text = w.0; wanted = at_end (ready given) came w.1; cut = w.2 }
worked call given (Err unanswered.NoMemory) came w = record { sink = w; shelf = kept_ready call given came }

-- the reading gave nothing
pub unworked : (call : Call) (asked : Task) (stop : Stop) (result : Outcome) → taken call.words ≡ task asked → OpensFor call.shelf_before call.shelf_after asked (Err stop)
    → Stops call.sink_before call.sink_after stop result → OutcomeMeans call result
unworked call asked (stops.Refused place why) result is o s =
    standing call (refusal_text place why) Refused result s (at_end (refused place why) (record { asked = asked; words = is; ends = o }) refl)
    (λ wrote. inl (record { place = place; why = why; came = record { asked = asked; words = is; ends = o }; wrote = wrote }))
unworked call asked (stops.ReadFault place) result is o s =
    standing call (unread_text place) ReadFault result s (at_end (unread place o.0) (record { asked = asked; words = is; ends = o.1 }) refl)
    (λ wrote. record { place = place; name = o.0; came = record { asked = asked; words = is; ends = o.1 }; wrote = wrote })
unworked call asked stops.NoMemory result is o s = rw s.0 (record { sink = s.1; shelf = o })

-- ---- which end comes, from what the ends say

pub task_is : (a b : Task) → task a ≡ task b → a ≡ b
task_is a b e = cc

same_task : (call : Call) (asked other : Task) → taken call.words ≡ task asked → taken call.words ≡ task other → other ≡ asked
same_task call asked other is also = task_is other asked (sym also ∙ is)

-- the files decide the end where the reading gave something
decide_ready : (made : Option Files) (old new : ShelfState) (asked : Task) (given : Ready) (outcome : Outcome) → ReadsOver made old new asked (ready given) → OutcomeBy (ready given) outcome
    → FilesDecide made old.files asked outcome
decide_ready None old new asked given outcome h by =
    if_some old.files (λ files. OutcomeBy (end_over files (opening asked)) outcome) (λ files e. subst (λ end. OutcomeBy end outcome) (sym (told_ready old files (opening asked) given e h.0)) by)
decide_ready (Some files) old new asked given outcome h by = subst (λ end. OutcomeBy end outcome) h.0 by

decide_refused : (made : Option Files) (old new : ShelfState) (asked : Task) (place : RefusalPlace) (why : Refusal) → ReadsOver made old new asked (refused place why) → FilesDecide made old.files asked Refused
decide_refused None old new asked place why h =
    if_some old.files (λ files. OutcomeBy (end_over files (opening asked)) Refused) (λ files e. subst (λ end. OutcomeBy end Refused) (sym (told_refused old files (opening asked) place why e h.0)) refl)
decide_refused (Some files) old new asked place why h = subst (λ end. OutcomeBy end Refused) h.0 refl

decide_unread : (made : Option Files) (old new : ShelfState) (asked : Task) (place : RefusalPlace) (name : List ℕ) → ¬ (FaultCounted old.faults new.faults) → ReadsOver made old new asked (unread place name)
    → FilesDecide made old.files asked ReadFault
decide_unread None old new asked place name quiet h = absurd (quiet h.1.rose)
decide_unread (Some files) old new asked place name quiet h = subst (λ end. OutcomeBy end ReadFault) h.0 refl

abbrev Decides : Call → Task → Outcome → Type 0
Decides call asked outcome = FilesDecide (made_for asked) call.shelf_before.files asked outcome

by_answer : (call : Call) (asked : Task) (answer : Answer) → taken call.words ≡ task asked → HasAnswered call answer → Decides call asked (outcome_of answer)
by_answer call asked answer is h =
    subst (λ t. Decides call t (outcome_of answer)) (same_task call asked h.came.asked is h.came.words)
    (decide_ready (made_for h.came.asked) call.shelf_before call.shelf_after h.came.asked h.given (outcome_of answer) h.came.ends (answer, h.text, h.answers, refl))

pub completes : (call : Call) (result : Outcome) → OutcomeMeans call result → Completes call result
completes call AllPass m asked is quiet = inr (by_answer call asked answers.AllPass is m)
completes call Help m asked is quiet = absurd (cc (m.words, is))
completes call SomeFail m asked is quiet = inr (by_answer call asked answers.SomeFail is m)
completes call Inconsistent m asked is quiet = inr (by_answer call asked answers.Inconsistent is m)
completes call Undecided m asked is quiet = inr (by_answer call asked answers.Undecided is m)
completes call Refused (inr m) asked is quiet = inr (by_answer call asked answers.DesignRefused is m)
completes call Refused (inl m) asked is quiet =
    inr (subst (λ t. Decides call t Refused) (same_task call asked m.came.asked is m.came.words)
    (decide_refused (made_for m.came.asked) call.shelf_before call.shelf_after m.came.asked m.place m.why m.came.ends))
completes call ReadFault m asked is quiet =
    inr (subst (λ t. Decides call t ReadFault) (same_task call asked m.came.asked is m.came.words)
    (decide_unread (made_for m.came.asked) call.shelf_before call.shelf_after m.came.asked m.place m.name quiet.shelf m.came.ends))
completes call WriteFault m asked is quiet = absurd (quiet.sink m.cut.rose)
completes call NoMemory m asked is quiet = inl refl
completes call BadWords m asked is quiet = absurd (cc (m.words, is))
completes call CheckRefused m asked is quiet = inr (by_answer call asked answers.CheckRefused is m)

-- words that ask for a task are not refused and do not ask for help
came_no_bad : (call : Call) (end : End Ready) → HasRead call end → taken call.words ≡ bad_words → ⊥
came_no_bad call end c is = cc (c.words, is)

came_no_help : (call : Call) (end : End Ready) → HasRead call end → taken call.words ≡ help → ⊥
came_no_help call end c is = cc (c.words, is)

refuses_none : (call : Call) (end : End Ready) (result : Outcome) → HasRead call end → RefusesWords call result
refuses_none call end result c quiet = (λ is. absurd (came_no_bad call end c is), λ is. absurd (came_no_help call end c is))

pub refuses_words : (call : Call) (result : Outcome) → OutcomeMeans call result → RefusesWords call result
refuses_words call AllPass m = refuses_none call (ready m.given) AllPass m.came
refuses_words call Help m = λ quiet. (λ is. absurd (cc (m.words, is)), λ is. inr refl)
refuses_words call SomeFail m = refuses_none call (ready m.given) SomeFail m.came
refuses_words call Inconsistent m = refuses_none call (ready m.given) Inconsistent m.came
refuses_words call Undecided m = refuses_none call (ready m.given) Undecided m.came
refuses_words call Refused (inl m) = refuses_none call (refused m.place m.why) Refused m.came
refuses_words call Refused (inr m) = refuses_none call (ready m.given) Refused m.came
refuses_words call ReadFault m = refuses_none call (unread m.place m.name) ReadFault m.came
refuses_words call WriteFault m = λ quiet. absurd (quiet m.cut.rose)
refuses_words call NoMemory m = λ quiet. (λ is. inl refl, λ is. inl refl)
refuses_words call BadWords m = λ quiet. (λ is. inr refl, λ is. absurd (cc (m.words, is)))
refuses_words call CheckRefused m = refuses_none call (ready m.given) CheckRefused m.came

-- a count that is unchanged did not grow
still : (before now : ℕ) → now ≡ before → before < now → ⊥
still before now e h = omega (arith, e, h)

quiet_sink : (call : Call) (text : List ℕ) → Wrote call text → call.sink_before.faults < call.sink_after.faults → ⊥
quiet_sink call text wrote h = still _ _ (ap (λ (t : SinkState). t.faults) wrote) h

quiet_shelf : (call : Call) → IsShelfUnchanged call → call.shelf_before.faults < call.shelf_after.faults → ⊥
quiet_shelf call kept h = still _ _ (ap (λ (t : ShelfState). t.faults) kept) h

shows_none : (call : Call) (text : List ℕ) (result : Outcome) → Wrote call text → IsShelfUnchanged call → ShowsFaults call result
shows_none call text result wrote kept = (λ h. absurd (quiet_sink call text wrote h), λ h. absurd (quiet_shelf call kept h))

shows_answer : (call : Call) (answer : Answer) (result : Outcome) → HasAnswered call answer → ShowsFaults call result
shows_answer call answer result m = shows_none call m.text result m.wrote (kept_ready call m.given m.came)

pub shows_faults : (call : Call) (result : Outcome) → OutcomeMeans call result → ShowsFaults call result
shows_faults call AllPass m = shows_answer call answers.AllPass AllPass m
shows_faults call Help m = shows_none call m.text Help m.wrote m.shelf
shows_faults call SomeFail m = shows_answer call answers.SomeFail SomeFail m
shows_faults call Inconsistent m = shows_answer call answers.Inconsistent Inconsistent m
shows_faults call Undecided m = shows_answer call answers.Undecided Undecided m
shows_faults call Refused (inr m) = shows_answer call answers.DesignRefused Refused m
shows_faults call Refused (inl m) =
    shows_none call (refusal_text m.place m.why) Refused m.wrote (kept_refused (made_for m.came.asked) call.shelf_before call.shelf_after m.came.asked m.place m.why m.came.ends)
shows_faults call ReadFault m = (λ h. absurd (quiet_sink call (unread_text m.place) m.wrote h), λ h. inl refl)
shows_faults call WriteFault m = (λ h. refl, λ h. inr refl)
shows_faults call NoMemory m = (λ h. absurd (still _ _ (ap (λ (t : SinkState). t.faults) m.sink) h), λ h. absurd (quiet_shelf call m.shelf h))
shows_faults call BadWords m = shows_none call _ BadWords m.wrote m.shelf
shows_faults call CheckRefused m = shows_answer call answers.CheckRefused CheckRefused m
