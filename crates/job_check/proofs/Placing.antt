-- Names and rows in their places.
use Rattle.std.proofs.Common.{◌≡◌, ◌+◌, ◌<◌, ℕ, List, [], ◌∷◌, length, ◌^◌, drop, Bool, true, false, IsTrue, ◌↔◌, Option, Some, None, unwrap_or, slice_get, refl, sym, ap, subst, ◌∙◌, arith}
use Rattle.std.proofs.lemmas.Option.{slice_get_within}
use Rattle.itv_base.proofs.Lists.{drop-read, found_below as there}
use Rattle.itv_base.specs.Names.{Name}
use Rattle.drawn_networks.specs.Drawn.{Drawn, IsRowOf, name_of, nameless}
use Rattle.drawn_networks.specs.declared.row.Row.{Row}
use Rattle.slack_report.specs.Entry as lines
use Rattle.slack_report.specs.Entry.{Entry}
use Rattle.right_report.specs.Right.ReportState.{at_end, at_row, end_word}
use Rattle.right_report.specs.declared.tally.ReportTally.{ReportTally}
use Rattle.job_check.specs.declared.stage.NextBound.TheVariants.{Greatest}
use Rattle.job_check.specs.declared.stage.Stage.{Stage}
use Rattle.job_check.specs.declared.stage.Stage.TheVariants as stages
use Rattle.job_check.specs.Step.Stages.{Decides, at_of, is_proof}

-- the name of an event that is there
unwrapped : (o : Option Name) (name : Name) → (n : Name) × (o ≡ Some n) → unwrap_or o nameless ≡ name → o ≡ Some name
unwrapped None name is same = absurd (cc is.1)
unwrapped (Some n) name is same = ap (λ x. Some x) same

pub names_from : (names : List Name) (number : ℕ) (name : Name) → number < length names → name ≡ unwrap_or (slice_get names number) nameless
    → drop number names ≡ name ∷ drop (number + 1) names
names_from names number name within is = drop-read names number name (unwrapped (slice_get names number) name (there names number within) (sym is))

-- ---- what lines decide

proof_not : (line other : Entry) → line ≡ other → is_proof other ≡ false → is_proof line ≡ false
proof_not line other same is = ap is_proof same ∙ is

module _ (drawn : Drawn) (number : ℕ) (name : Name) (line : Entry) (test : Bool) (there : number < length drawn.names)
    (is : name ≡ unwrap_or (slice_get drawn.names number) nameless) (tells : IsTrue test ↔ (line ≡ lines.event number name)) where
  pub event_some : test ≡ true → Decides drawn (at_of drawn (stages.Event number)) line (Some (stages.Event (number + 1)))
  event_some holds =
      let same : line ≡ lines.event number name = tells.0 holds in
      rw (names_from drawn.names number name there is) ((same, refl), proof_not line (lines.event number name) same refl, omega arith)

  pub event_none : test ≡ false → Decides drawn (at_of drawn (stages.Event number)) line None
  event_none fails = rw (names_from drawn.names number name there is) (λ next h. let clash : true ≡ false = sym (tells.1 h.0) ∙ fails in absurd (cc clash))

-- after all rows the end comes
pub end_decides : (drawn : Drawn) (tally : ReportTally) (number : ℕ) (left : List Row) (line : Entry) (o : Option Stage) → left ≡ []
    → Decides drawn (at_end (end_word tally)) line o → Decides drawn (at_row tally number left) line o
end_decides drawn tally number left line None none d = subst (λ xs. Decides drawn (at_row tally number xs) line None) (sym none) d
end_decides drawn tally number left line (Some stage) none d = subst (λ xs. Decides drawn (at_row tally number xs) line (Some stage)) (sym none) d

-- ---- rows

module _ (drawn : Drawn) (tally : ReportTally) (number : ℕ) (row : Row) (line : Entry) (test : Bool) (there : slice_get drawn.rows number ≡ Some row)
    (tells : IsTrue test ↔ (line ≡ lines.row number row.kind (name_of drawn row.from) (name_of drawn row.to))) where
  pub row_some : test ≡ true → IsRowOf drawn.net row → number < 2 ^ 32
      → Decides drawn (at_of drawn (stages.Row tally number)) line (Some (stages.Bound (record { tally = tally; number = number; row = row }) Greatest))
  row_some holds between small =
      let same : line ≡ lines.row number row.kind (name_of drawn row.from) (name_of drawn row.to) = tells.0 holds in
      let within : number < length drawn.rows = slice_get_within drawn.rows number row there in
      rw (drop-read drawn.rows number row there) (
        (same, refl),
        proof_not line (lines.row number row.kind (name_of drawn row.from) (name_of drawn row.to)) same refl,
        (record { from = between.0; to = between.1; number = within; small = small }, tt),
      )

  pub row_none : test ≡ false → Decides drawn (at_of drawn (stages.Row tally number)) line None
  row_none fails = rw (drop-read drawn.rows number row there) (λ next h. let clash : true ≡ false = sym (tells.1 h.0) ∙ fails in absurd (cc clash))
