-- What the ends of runs say when the output, the files or memory failed.
use Rattle.std.proofs.Common.{◌≡◌, ◌∙◌, ℕ, Bool, List, [], ◌++◌, take, drop, Option, Some, None, sym, ap, subst}
use Rattle.std.proofs.lemmas.List.{take-append-drop}
use Rattle.std.proofs.lemmas.Option.{same_Some}
use Rattle.std.specs.Option.{option_map_or}
use Rattle.itv_base.specs.Memory.{SinkMemView, sink_state}
use Rattle.itv_base.specs.Outside.{CutShort, Files, FaultCounted, file_of}
use Rattle.drawn_networks.specs.Drawn.{Drawn}
use Rattle.design_reading.specs.declared.refusal_place.RefusalPlace.{RefusalPlace}
use Rattle.design_reading.specs.Design.{design_at}
use Rattle.design_reading.specs.FileReading.{FileReading, gives, refuses, fetches, ◌>>=◌, End, ready, refused, unread, end_over}
use Rattle.design_reading.specs.Refusal.{unread_text}
use Rattle.job_bounds.specs.Reports.{MayHaveBegun}
use Rattle.job_bounds.proofs.WrittenLaws.{begun_is_right}
use Rattle.command_words.specs.declared.job.SearchJob.TheVariants.{Bounds}
use Rattle.command_words.specs.Task.{Task, searched}
use Rattle.itv_cli.specs.Job.{opening}
use Rattle.itv_cli.specs.Run.{Call, HasRead, HasReadFault, IsUntouched, OutcomeMeans, ToWrite, IntendedText, for_help, for_bad_words, at_end}
use Rattle.itv_cli.specs.declared.outcome.Outcome.{Outcome}
use Rattle.itv_cli.specs.declared.outcome.Outcome.TheVariants as ends
use Rattle.itv_cli.specs.declared.ready.Ready.{Ready}
use Rattle.itv_cli.specs.declared.ready.Ready.TheVariants as given
use Rattle.conformance.specs.Clients.{Asks, Draws, IsFrontOf, IsFrontOfRight, IsUnreadOf}
use Rattle.conformance.proofs.KnownFiles.{came_over, ready_over, refused_over, same_ready}

-- ---- an output that failed

-- a reading that goes on after another comes to what it goes on to
on_by : {A B : Type 0} (files : Files) (next : List ℕ → FileReading A) (k : A → FileReading B) (most : ℕ) (place : RefusalPlace) (name : List ℕ) (x : A) (file : Option (List ℕ))
    → ((bytes : List ℕ) → end_over files (next bytes) ≡ ready x → end_over files (next bytes >>= k) ≡ end_over files (k x))
    → option_map_or (λ bytes. end_over files (next (take most bytes))) file (unread place name) ≡ ready x
    → option_map_or (λ bytes. end_over files (next (take most bytes) >>= k)) file (unread place name) ≡ end_over files (k x)
on_by files next k most place name x None more e = absurd (cc e)
on_by files next k most place name x (Some bytes) more e = more (take most bytes) e

told_on : {A B : Type 0} (files : Files) (o : FileReading A) (k : A → FileReading B) (x : A) → end_over files o ≡ ready x → end_over files (o >>= k) ≡ end_over files (k x)
told_on files (gives y) k x e = ap (λ z. end_over files (k z)) (same_ready y x e)
told_on files (refuses place why) k x e = absurd (cc e)
told_on files (fetches place name most next) k x e = on_by files next k most place name x (file_of files name) (λ bytes h. told_on files (next bytes) k x h) e

-- if the files of job bounds draw a network, they are all there
bounds_ready : (files : Files) (design : List ℕ) (budget : ℕ) (cert : Bool) (drawn : Drawn) → Draws files design drawn → end_over files (opening (searched design (Bounds cert) budget)) ≡ ready (given.Searched drawn (Bounds cert) budget)
bounds_ready files design budget cert drawn draws = told_on files (design_at design) (λ d. gives (given.Searched d (Bounds cert) budget)) drawn draws

module _ (call : Call) (files : Files) (asked : Task) (known : call.shelf_before.files ≡ Some files) (asks : Asks call.words asked) (quiet : ¬ (FaultCounted call.shelf_before.faults call.shelf_after.faults)) where
  -- if no fetch failed, the reading came to the end that the files say
  told_is : (end : End Ready) → HasRead call end → end_over files (opening asked) ≡ end
  told_is (ready given) came = ready_over call files asked given known asks came
  told_is (refused place why) came = refused_over call files asked place why known asks came
  told_is (unread place name) came = absurd (quiet (came_over call asked (unread place name) asks came).1.rose)

  wanted_over : (text : List ℕ) → IntendedText call text → ToWrite (end_over files (opening asked)) text
  wanted_over text (for_help is kept) = absurd (cc (is, asks.words))
  wanted_over text (for_bad_words is kept same) = absurd (cc (is, asks.words))
  wanted_over text (at_end end came wants) = subst (λ e. ToWrite e text) (sym (told_is end came)) wants

  pub front_over : (text bytes : List ℕ) (n : ℕ) → IntendedText call text → take n text ≡ bytes → IsFrontOf files asked bytes
  front_over text bytes n wanted is = record { text = text; wanted = wanted_over text wanted; rest = drop n text; front = sym (take-append-drop n text) ∙ ap (λ front. front ++ drop n text) is }

-- for job bounds it is a front of a right report
pub front_right : (files : Files) (design : List ℕ) (budget : ℕ) (cert : Bool) (drawn : Drawn) (bytes : List ℕ) → Draws files design drawn → IsFrontOf files (searched design (Bounds cert) budget) bytes → IsFrontOfRight drawn bytes
front_right files design budget cert drawn bytes draws f =
    let begins : MayHaveBegun drawn budget cert f.text = subst (λ e. ToWrite e f.text) (bounds_ready files design budget cert drawn draws) f.wanted in
    let (lines, right, same) = begun_is_right drawn budget cert f.text begins in
    record { lines = lines; begins_right = right; rest = f.rest; text = sym same ∙ f.front }

-- what a sink in memory holds that was empty before a text was cut short
pub sink_cut : (old new : SinkMemView) (text : List ℕ) (cut : CutShort (sink_state old) (sink_state new) text) → old.bytes ≡ [] → take cut.front.0 text ≡ new.bytes
sink_cut old new text cut fresh = sym (same_Some new.bytes (old.bytes ++ take cut.front.0 text) cut.front.2 ∙ ap (λ before. before ++ take cut.front.0 text) fresh)

-- ---- a file that could not be read

pub unread_so : (call : Call) (bytes : List ℕ) (m : HasReadFault call) → unread_text m.place ≡ bytes → (asked : Task) → Asks call.words asked → IsUnreadOf call.shelf_before call.shelf_after asked bytes
unread_so call bytes m is asked asks =
    let came = came_over call asked (unread m.place m.name) asks m.came in
    record { place = m.place; name = m.name; reads = came.0; failed = came.1; text = sym is }

-- ---- memory that was not found

pub untouched : (call : Call) (result : Outcome) → OutcomeMeans call result → result ≡ ends.NoMemory → IsUntouched call
untouched call result means e = subst (λ end. OutcomeMeans call end) e means
