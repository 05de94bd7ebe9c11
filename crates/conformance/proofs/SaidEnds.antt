-- What a run of `itv FILE` says.
use Rattle.std.proofs.Common.{◌≡◌, ◌∙◌, ◌⊎◌, ℕ, false, List, Some, Result, Ok, Err, inl, inr, refl, sym, ap}
use Rattle.serde_json.specs.Data.{Data}
use Rattle.event_graph.specs.Bounds.{IsInconsistent}
use Rattle.itv_base.specs.Outside.{Files, grown}
use Rattle.itv_base.specs.declared.limits.TheConstants.{DEFAULT_BUDGET}
use Rattle.compose.specs.Compose.{composed_on}
use Rattle.compose.specs.Design.{DesignView}
use Rattle.compose.specs.declared.fault.JoinFault.{JoinFault}
use Rattle.design_plan.specs.Plan.{PlanView, sheets_on}
use Rattle.drawn_networks.specs.Drawn.{Drawn}
use Rattle.right_report.specs.Laws.{AllMet, SomeBroken, SomeSatisfy}
use Rattle.unroll.specs.Drawn.{drawn_of}
use Rattle.unroll.specs.Limits.{counts_of, first_passed, unrolled}
use Rattle.design_reading.specs.Design.{design_at, drawn_at, plan_at}
use Rattle.design_reading.specs.FileReading.{at, end_over, ready, ◌>>=◌}
use Rattle.design_reading.specs.declared.refusal_place.RefusalPlace.TheVariants.{Design}
use Rattle.design_reading.specs.declared.refusal.Refusal.TheVariants.{Joins, Limits}
use Rattle.drawn_laws.proofs.Designs.{within_holds}
use Rattle.claim_laws.specs.Lone.{DrawsLone, IsLoneFile}
use Rattle.claim_laws.specs.Said.{IsSoText}
use Rattle.claim_laws.proofs.Lone.{lone_is_read}
use Rattle.claim_laws.proofs.Words.{plain_word}
use Rattle.job_base.specs.declared.answer.Answer.{Answer}
use Rattle.job_base.specs.declared.answer.Answer.TheVariants as answers
use Rattle.command_words.specs.declared.job.SearchJob.TheVariants.{Bounds}
use Rattle.command_words.specs.Task.{searched, taken, task}
use Rattle.itv_cli.specs.Run.{Call, HasAnswered, OutcomeMeans}
use Rattle.itv_cli.specs.declared.outcome.Outcome.{Outcome}
use Rattle.itv_cli.specs.declared.outcome.Outcome.TheVariants as ends
use Rattle.conformance.specs.Clients.{AsksBounds, AsksFile, DrawnFrom, Draws}
use Rattle.conformance.proofs.JobEnds.{answered_by, bounds_broken, bounds_met, bounds_none, bounds_printed, told_comes, told_knows, told_shelf}
use Rattle.conformance.proofs.KnownFiles.{answer_over, reported_over, told_behind}
use Rattle.conformance.proofs.LongerEnds.{limited}

-- ---- what files draw

made_from : (files : Files) (composed : Result DesignView JoinFault) (drawn : Drawn) → end_over files (at Design Joins composed >>= (λ made. at Design Limits (unrolled made))) ≡ ready drawn
    → (design : DesignView) × (composed ≡ Ok design) × (drawn ≡ drawn_of design)
unfolding unrolled
made_from files (Err fault) drawn comes = absurd (cc comes)
made_from files (Ok made) drawn comes =
    let inside : unrolled made ≡ Ok drawn = limited files (unrolled made) drawn comes in
    (made, refl, sym (within_holds (drawn_of made) (first_passed (counts_of (drawn_of made))) drawn inside).0)

pub drawn_from : (files : Files) (name : List ℕ) (drawn : Drawn) → Draws files name drawn → DrawnFrom files name drawn
unfolding drawn_at
drawn_from files name drawn draws =
    let (plan, plans, rest) = told_behind files (plan_at name) (λ (plan : PlanView). drawn_at plan.netlist plan.sheets) drawn draws in
    let (design, composes, is) = made_from files (composed_on plan.netlist (sheets_on plan.sheets plan.netlist.parts)) drawn rest in
    record { design = design; makes = record { plan = plan; plans = plans; composes = composes }; draws = is }

-- a lone sheet draws what its tree draws
pub draws_lone : (files : Files) (name : List ℕ) (tree : Data) (drawn : Drawn) → IsLoneFile files name tree → Draws files name drawn → DrawsLone tree drawn
draws_lone files name tree drawn lone draws = lone_is_read (told_shelf files) files name tree drawn (told_knows files) lone (told_comes files (design_at name) drawn draws)

-- ---- the ends

module _ (call : Call) (files : Files) (name : List ℕ) (known : call.shelf_before.files ≡ Some files) (asks : AsksFile call.words name) where
  words_are : taken call.words ≡ task (searched name (Bounds false) DEFAULT_BUDGET)
  words_are = ap taken asks.one ∙ plain_word name asks.is_plain

  asked : (answer : Answer) → HasAnswered call answer → (drawn : Drawn) × Draws files name drawn × AsksBounds call.words files DEFAULT_BUDGET false drawn
  asked answer m =
      let h = reported_over files name DEFAULT_BUDGET false answer m.text (answer_over call files (searched name (Bounds false) DEFAULT_BUDGET) answer m.text known m refl (record { words = words_are; own = refl })) in
      (h.drawn, h.draws, record { design = name; words = words_are; draws = h.draws })

  pub file_met : (result : Outcome) → OutcomeMeans call result → result ≡ ends.AllPass → (drawn : Drawn) × Draws files name drawn × (SomeSatisfy drawn.net × AllMet drawn)
  file_met result means e =
      let (drawn, draws, asks_it) = asked answers.AllPass (answered_by call result answers.AllPass (λ same. cc same) means e) in
      (drawn, draws, bounds_met call files DEFAULT_BUDGET false drawn known asks_it result means e)

  pub file_broken : (result : Outcome) → OutcomeMeans call result → result ≡ ends.SomeFail → (drawn : Drawn) × Draws files name drawn × SomeBroken drawn
  file_broken result means e =
      let (drawn, draws, asks_it) = asked answers.SomeFail (answered_by call result answers.SomeFail (λ same. cc same) means e) in
      (drawn, draws, bounds_broken call files DEFAULT_BUDGET false drawn known asks_it result means e)

  pub file_none : (result : Outcome) → OutcomeMeans call result → result ≡ ends.Inconsistent → (drawn : Drawn) × Draws files name drawn × IsInconsistent drawn.net
  file_none result means e =
      let (drawn, draws, asks_it) = asked answers.Inconsistent (answered_by call result answers.Inconsistent (λ same. cc same) means e) in
      (drawn, draws, bounds_none call files DEFAULT_BUDGET false drawn known asks_it result means e)

  -- the network that the files draw, and the text on its rows
  pub record HasPrinted : Type 0 where
    pub drawn : Drawn
    pub draws : Draws files name drawn
    pub text : List ℕ
    pub is_so : IsSoText drawn text
    pub wrote : call.sink_after ≡ grown call.sink_before text

  printed_by : (answer : Answer) → (answer ≡ answers.Inconsistent → ⊥) → HasAnswered call answer → HasPrinted
  printed_by answer other m =
      let (drawn, draws, asks_it) = asked answer m in
      record { drawn = drawn; draws = draws; text = m.text; is_so = bounds_printed call files DEFAULT_BUDGET false drawn known asks_it answer other m; wrote = m.wrote }

  pub file_printed : (result : Outcome) → OutcomeMeans call result → (result ≡ ends.AllPass) ⊎ ((result ≡ ends.SomeFail) ⊎ (result ≡ ends.Undecided)) → HasPrinted
  file_printed result means (inl e) = printed_by answers.AllPass (λ same. cc same) (answered_by call result answers.AllPass (λ same. cc same) means e)
  file_printed result means (inr (inl e)) = printed_by answers.SomeFail (λ same. cc same) (answered_by call result answers.SomeFail (λ same. cc same) means e)
  file_printed result means (inr (inr e)) = printed_by answers.Undecided (λ same. cc same) (answered_by call result answers.Undecided (λ same. cc same) means e)
