-- Reading lines one after another, each at its place. The proofs use only three laws of lines.
use Rattle.std.proofs.Common.{◌≡◌, ◌<◌, ◌≤◌, ℕ, suc, Bool, true, false, cond, eqb, ◌&&◌, List, [], ◌∷◌, ◌++◌, length, take, Option, Some, None, Ok, Err, refl, sym, ap, subst, ◌∙◌, arith, append_assoc, append-nil}
use Rattle.std.specs.List.{AllByRecursion, flat_map, join_with_byte, onto_first, slice_split}
use Rattle.std.proofs.lemmas.Bool.{and_parts, eqb-true}
use Rattle.std.proofs.lemmas.List.{nil_from_length}
use Rattle.std.proofs.lemmas.Option.{none-some, same_Some}
use Rattle.line_words.specs.Lines.{ended, is_feed}
use Rattle.line_words.specs.Words.{split_words}
use Rattle.line_words.proofs.Cutting.{IsLine, cut_same, split_line}
use Rattle.slack_report.specs.declared.place.Place.{Place}
use Rattle.slack_report.specs.declared.place.Place.TheVariants as at
use Rattle.slack_report.specs.Entry.{Entry}
use Rattle.slack_report.specs.Order.{OrderLeads, OrderStep}
use Rattle.slack_report.specs.Reading.{Read, behind_line, is_nothing, lines_in, step_at, with_line}
use Rattle.slack_report.specs.Text.{entry_line, entry_text, report_text}

-- The three laws: a line that is read is the text of its entry, which may stand there; an entry that may stand there is read from its text; and its
-- text is one line.
pub record LineLaws : Type 0 where
  pub takes : (place : Place) (line : List ℕ) (step : Entry × Place) → step_at place (split_words line) ≡ Some step → (line ≡ entry_line step.0) × OrderStep place step.0 step.1
  pub again : (place : Place) (entry : Entry) (behind : Place) → OrderStep place entry behind → step_at place (split_words (entry_line entry)) ≡ Some (entry, behind)
  pub is_line : (place : Place) (entry : Entry) (behind : Place) → OrderStep place entry behind → IsLine (entry_line entry)

-- ---- steps

with_line_ok : (entry : Entry) (r : Read) (es : List Entry) → with_line entry r ≡ Ok es → (rest : List Entry) × (r ≡ Ok rest) × (entry ∷ rest ≡ es)
with_line_ok entry (Ok rest) es e = (rest, refl, (cc))
with_line_ok entry (Err before) es e = absurd (cc)

with_line_err : (entry : Entry) (r : Read) (k : ℕ) → with_line entry r ≡ Err k → (before : ℕ) × (r ≡ Err before) × (suc before ≡ k)
with_line_err entry (Ok rest) k e = absurd (cc)
with_line_err entry (Err before) k e = (before, refl, (cc))

behind_ok : (o : Option (Entry × Place)) (lines : Place → Read) (es : List Entry) → behind_line o lines ≡ Ok es
    → (step : Entry × Place) × (o ≡ Some step) × (with_line step.0 (lines step.1) ≡ Ok es)
behind_ok None lines es e = absurd (cc)
behind_ok (Some step) lines es e = (step, refl, e)

behind_err : (o : Option (Entry × Place)) (lines : Place → Read) (before : ℕ) (P : Type 0) → behind_line o lines ≡ Err before
    → (o ≡ None → 0 ≡ before → P) → ((step : Entry × Place) → o ≡ Some step → with_line step.0 (lines step.1) ≡ Err before → P) → P
behind_err None lines before P e none some = none refl (cc)
behind_err (Some step) lines before P e none some = some step refl e

nothing_is : (place : Place) → is_nothing place ≡ true → place ≡ at.Nothing
nothing_is at.Nothing h = refl
nothing_is at.Heading h = absurd (cc)
nothing_is at.Budget h = absurd (cc)
nothing_is at.Events h = absurd (cc)
nothing_is (at.Event count number more) h = absurd (cc)
nothing_is (at.Finding count) h = absurd (cc)
nothing_is (at.FoundTimes count) h = absurd (cc)
nothing_is (at.Rows count) h = absurd (cc)
nothing_is (at.Row count number more) h = absurd (cc)
nothing_is (at.Bound spot which) h = absurd (cc)
nothing_is (at.Times spot which raises) h = absurd (cc)
nothing_is (at.Raise spot which) h = absurd (cc)
nothing_is (at.Verdict spot) h = absurd (cc)
nothing_is (at.FailTimes spot) h = absurd (cc)
nothing_is (at.Slack spot) h = absurd (cc)
nothing_is at.End h = absurd (cc)

last_ok : (test : Bool) (es : List Entry) → ◌≡◌ {A = Read} (cond test (Ok []) (Err 0)) (Ok es) → (test ≡ true) × ([] ≡ es)
last_ok true es e = (refl, (cc))
last_ok false es e = absurd (cc)

last_err : (test : Bool) (k : ℕ) → ◌≡◌ {A = Read} (cond test (Ok []) (Err 0)) (Err k) → 0 ≡ k
last_err true k e = absurd (cc)
last_err false k e = (cc)

-- ---- parts

-- a text has a part
abbrev pub IsSome : List (List ℕ) → Type 0
IsSome [] = ⊥
IsSome (part ∷ parts) = Unit {0}

onto_some : (b : ℕ) (parts : List (List ℕ)) → IsSome (onto_first b parts)
onto_some b [] = tt
onto_some b (part ∷ parts) = tt

cons_some : (test : Bool) (b : ℕ) (parts : List (List ℕ)) → IsSome (cond test ([] ∷ parts) (onto_first b parts))
cons_some true b parts = tt
cons_some false b parts = onto_some b parts

pub split_some : (bytes : List ℕ) → IsSome (slice_split is_feed bytes)
split_some [] = tt
split_some (b ∷ bytes) = cons_some (is_feed b) b (slice_split is_feed bytes)

pub lines_more : (place : Place) (line : List ℕ) (parts : List (List ℕ)) → IsSome parts
    → lines_in place (line ∷ parts) ≡ behind_line (step_at place (split_words line)) (λ behind. lines_in behind parts)
unfolding lines_in
lines_more place line [] some = absurd some
lines_more place line (part ∷ parts) some = refl

not_empty : (line more : List ℕ) → ended line ++ more ≡ [] → ⊥
not_empty [] more e = cc
not_empty (b ∷ line) more e = cc

last_again : lines_in at.Nothing ([] ∷ []) ≡ Ok []
unfolding lines_in
last_again = refl

-- ---- what is read is the report

module _ (laws : LineLaws) where
  pub lines_ok : (parts : List (List ℕ)) (place : Place) (es : List Entry) → lines_in place parts ≡ Ok es → OrderLeads place es at.Nothing × (join_with_byte 10 parts ≡ report_text es)
  unfolding lines_in
  lines_ok [] place es e = absurd (cc)
  lines_ok (last ∷ []) place es e =
      let l = last_ok (is_nothing place && eqb (length last) 0) es e in
      let p = and_parts (is_nothing place) (eqb (length last) 0) l.0 in
      let empty : last ≡ [] = nil_from_length last (eqb-true (length last) 0 p.1) in
      subst (λ (xs : List Entry). OrderLeads place xs at.Nothing × (last ≡ report_text xs)) l.1 (nothing_is place p.0, empty)
  lines_ok (line ∷ more ∷ lines) place es e =
      let b = behind_ok (step_at place (split_words line)) (λ behind. lines_in behind (more ∷ lines)) es e in
      let w = with_line_ok b.0.0 (lines_in b.0.1 (more ∷ lines)) es b.2 in
      let rest = lines_ok (more ∷ lines) b.0.1 w.0 w.1 in
      let t = laws.takes place line b.0 b.1 in
      let text : line ++ (10 ∷ join_with_byte 10 (more ∷ lines)) ≡ entry_text b.0.0 ++ report_text w.0 =
      ap (λ x. x ++ (10 ∷ join_with_byte 10 (more ∷ lines))) t.0 ∙ ap (λ x. entry_line b.0.0 ++ (10 ∷ x)) rest.1 ∙ sym (append_assoc (entry_line b.0.0) (10 ∷ []) (report_text w.0)) in
      subst (λ (xs : List Entry). OrderLeads place xs at.Nothing × (line ++ (10 ∷ join_with_byte 10 (more ∷ lines)) ≡ report_text xs)) w.2 ((b.0.1, t.1, rest.0), text)

  pub lines_again : (es : List Entry) (place : Place) → OrderLeads place es at.Nothing → lines_in place (slice_split is_feed (report_text es)) ≡ Ok es
  lines_again [] place leads = rw leads last_again
  lines_again (entry ∷ es) place leads =
      let rest = report_text es in
      let cut = split_line (entry_line entry) rest (laws.is_line place entry leads.0 leads.1) in
      ap (lines_in place) cut ∙ lines_more place (entry_line entry) (slice_split is_feed rest) (split_some rest)
      ∙ ap (λ o. behind_line o (λ behind. lines_in behind (slice_split is_feed rest))) (laws.again place entry leads.0 leads.1)
      ∙ ap (with_line entry) (lines_again es leads.0 leads.2)

  -- Some lines were read, and the next one is wrong or not whole.
  pub record Wrong (place : Place) (parts : List (List ℕ)) (before : ℕ) : Type 0 where
    pub entries : List Entry
    pub behind : Place
    pub leads : OrderLeads place entries behind
    pub text : flat_map ended (take before parts) ≡ report_text entries
    pub is_there : suc before ≤ length parts
    pub wrong : suc before < length parts → (es : List Entry) → OrderLeads place es at.Nothing → (more : List ℕ) → flat_map ended (take (suc before) parts) ++ more ≡ report_text es → ⊥

  -- a line that is not read begins no report from its place on
  none_wrong : (place : Place) (line : List ℕ) (rest : List (List ℕ)) → IsLine line → step_at place (split_words line) ≡ None
      → (es : List Entry) → OrderLeads place es at.Nothing → (more : List ℕ) → flat_map ended (take 1 (line ∷ rest)) ++ more ≡ report_text es → ⊥
  none_wrong place line rest is none [] leads more e = not_empty line more (ap (λ x. x ++ more) (sym (append-nil (ended line))) ∙ e)
  none_wrong place line rest is none (entry ∷ es) leads more e =
      let whole : ended line ++ more ≡ entry_text entry ++ report_text es = ap (λ x. x ++ more) (sym (append-nil (ended line))) ∙ e in
      let same = cut_same line (entry_line entry) more (report_text es) is (laws.is_line place entry leads.0 leads.1) whole in
      let read : step_at place (split_words line) ≡ Some (entry, leads.0) = ap (λ l. step_at place (split_words l)) same.0 ∙ laws.again place entry leads.0 leads.1 in
      none-some (entry, leads.0) (sym none ∙ read)

  -- if the lines after a line begin no report from the place after it, then with it in front they begin none from its place
  later_wrong : (place : Place) (line : List ℕ) (text : List ℕ) (step : Entry × Place) → IsLine line → step_at place (split_words line) ≡ Some step
      → ((es : List Entry) → OrderLeads step.1 es at.Nothing → (more : List ℕ) → text ++ more ≡ report_text es → ⊥)
      → (es : List Entry) → OrderLeads place es at.Nothing → (more : List ℕ) → (ended line ++ text) ++ more ≡ report_text es → ⊥
  later_wrong place line text step is reads behind [] leads more e = not_empty line (text ++ more) (sym (append_assoc (ended line) text more) ∙ e)
  later_wrong place line text step is reads behind (entry ∷ es) leads more e =
      let whole : ended line ++ (text ++ more) ≡ entry_text entry ++ report_text es = sym (append_assoc (ended line) text more) ∙ e in
      let same = cut_same line (entry_line entry) (text ++ more) (report_text es) is (laws.is_line place entry leads.0 leads.1) whole in
      let read : step_at place (split_words line) ≡ Some (entry, leads.0) = ap (λ l. step_at place (split_words l)) same.0 ∙ laws.again place entry leads.0 leads.1 in
      let step_is : (entry, leads.0) ≡ step = same_Some (entry, leads.0) step (sym read ∙ reads) in
      behind es (subst (λ (p : Entry × Place). OrderLeads p.1 es at.Nothing) step_is leads.2) more same.1

  pub lines_err : (parts : List (List ℕ)) (place : Place) (before : ℕ) → IsSome parts → AllByRecursion IsLine parts → lines_in place parts ≡ Err before → Wrong place parts before
  unfolding lines_in
  lines_err [] place before some are e = absurd some
  lines_err (last ∷ []) place before some are e =
      let first : 0 ≡ before = last_err (is_nothing place && eqb (length last) 0) before e in
      subst (Wrong place (last ∷ [])) first (record { entries = []; behind = place; leads = refl; text = refl; is_there = omega arith; wrong = λ h. absurd (omega arith) })
  lines_err (line ∷ more ∷ lines) place before some are e =
      behind_err (step_at place (split_words line)) (λ behind. lines_in behind (more ∷ lines)) before (Wrong place (line ∷ more ∷ lines) before) e
      (λ none first. subst (Wrong place (line ∷ more ∷ lines)) first (record {
        entries = [];
        behind = place;
        leads = refl;
        text = refl;
        is_there = omega arith;
        wrong = λ h es leads rest eq. none_wrong place line (more ∷ lines) are.0 none es leads rest eq;
      }))
      (λ step reads err.
      let w = with_line_err step.0 (lines_in step.1 (more ∷ lines)) before err in
      let rest = lines_err (more ∷ lines) step.1 w.0 tt are.1 w.1 in
      let t = laws.takes place line step reads in
      subst (Wrong place (line ∷ more ∷ lines)) w.2 (record {
        entries = step.0 ∷ rest.entries;
        behind = rest.behind;
        leads = (step.1, t.1, rest.leads);
        text = ap (λ l. ended l ++ flat_map ended (take w.0 (more ∷ lines))) t.0 ∙ ap (λ x. entry_text step.0 ++ x) rest.text;
        is_there = (let there = rest.is_there in omega arith);
        wrong = λ h es leads after eq. later_wrong place line (flat_map ended (take (suc w.0) (more ∷ lines))) step are.0 reads (rest.wrong (omega arith)) es leads after eq;
      }))
