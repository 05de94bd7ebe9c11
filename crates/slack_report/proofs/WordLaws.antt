-- Words of one line: each is spelled in one way.
use Rattle.std.proofs.Common.{◌≡◌, ◌-◌, ◌<◌, ◌≤◌, ℕ, true, ◌&&◌, leb, List, [], ◌∷◌, ◌++◌, codes, Some, refl, ap, subst, ◌∙◌, arith}
use Rattle.std.specs.List.{list_all, take_while}
use Rattle.std.specs.Prelude.{length}
use Rattle.std.proofs.lemmas.Bool.{and_parts, le-leb, leb-true}
use Rattle.std.proofs.lemmas.Option.{same_Some}
use Rattle.itv_base.specs.Characters.{is_mark, is_name, is_name_byte}
use Rattle.itv_base.specs.Cuts.{after_while, stripped}
use Rattle.itv_base.specs.Names.{Name}
use Rattle.itv_base.specs.Numerals.{number_text}
use Rattle.itv_base.specs.declared.limits.TheConstants.{MAX_BUDGET, MAX_CYCLES, MAX_NAME_LEN}
use Rattle.itv_base.proofs.Cuts.{stripped_some}
use Rattle.itv_base.proofs.Runs.{front_of_run, rest_of_run, run_whole}
use Rattle.line_words.specs.Numbers.{number_in}
use Rattle.line_words.specs.Words.{◌>>=◌, Word}
use Rattle.line_words.proofs.Inverts.{Inverts, bind_some, last_some, pick_some, when_some}
use Rattle.line_words.proofs.NumberLaws.{number_inverts}
use Rattle.slack_report.specs.declared.words.EndWord.{EndWord}
use Rattle.slack_report.specs.declared.words.EndWord.TheVariants as endings
use Rattle.requirements.specs.declared.consistency.Consistency.{Consistency}
use Rattle.requirements.specs.declared.consistency.Consistency.TheVariants as findings
use Rattle.slack_report.specs.Entry.{IsName}
use Rattle.slack_report.specs.Reading.{budget_from, budget_in, ending_in, finding_in, mark_in, name_in}
use Rattle.slack_report.specs.Text.{ending_word, finding_word, name_word}

-- ---- numbers

abbrev pub IsBudget : ℕ → Type 0
IsBudget n = (1 ≤ n) × (n ≤ MAX_BUDGET)

budget_takes : (word : Word) (n : ℕ) → budget_in word ≡ Some n → (word ≡ number_text n) × IsBudget n
budget_takes word n e =
    let b = bind_some (number_in MAX_BUDGET word) budget_from n e in
    let t = (number_inverts MAX_BUDGET).takes word b.0 b.1 in
    let w = when_some (leb 1 b.0) (Some b.0) n b.2 in
    subst (λ m. (word ≡ number_text m) × IsBudget m) (same_Some b.0 n w.1) (t.0, (leb-true 1 b.0 w.0, t.1))

budget_again : (n : ℕ) → IsBudget n → budget_in (number_text n) ≡ Some n
budget_again n h = rw ((number_inverts MAX_BUDGET).again n h.1, le-leb 1 n h.0) refl

pub budget_inverts : Inverts budget_in number_text IsBudget
budget_inverts = record { takes = budget_takes; again = budget_again }

-- ---- names

mark_takes : (part : List ℕ) (rest : List ℕ) (name : Name) → is_name part ≡ true → mark_in part rest ≡ Some name → (part ++ (46 ∷ rest) ≡ name_word name) × IsName name
mark_takes part [] name is e = absurd (cc)
mark_takes part (mark ∷ rest) name is e =
    let w = when_some (is_mark mark) (stripped (codes "@") rest >>= λ digits. number_in (MAX_CYCLES - 1) digits >>= λ cycle. Some (record { part = part; mark = mark; cycle = cycle })) name e in
    let a = bind_some (stripped (codes "@") rest) (λ digits. number_in (MAX_CYCLES - 1) digits >>= λ cycle. Some (record { part = part; mark = mark; cycle = cycle })) name w.1 in
    let b = bind_some (number_in (MAX_CYCLES - 1) a.0) (λ cycle. Some (record { part = part; mark = mark; cycle = cycle })) name a.2 in
    let t = (number_inverts (MAX_CYCLES - 1)).takes a.0 b.0 b.1 in
    let rest_is : rest ≡ 64 ∷ number_text b.0 = stripped_some (codes "@") rest a.0 a.1 ∙ ap (λ x. 64 ∷ x) t.0 in
    let whole : part ++ (46 ∷ mark ∷ rest) ≡ part ++ (46 ∷ mark ∷ 64 ∷ number_text b.0) = ap (λ x. part ++ (46 ∷ mark ∷ x)) rest_is in
    let small : b.0 < MAX_CYCLES = let most : b.0 ≤ MAX_CYCLES - 1 = t.1 in omega arith in
    let form : IsName (record { part = part; mark = mark; cycle = b.0 }) = record { part = is; mark = w.0; cycle = small } in
    subst (λ (x : Name). (part ++ (46 ∷ mark ∷ rest) ≡ name_word x) × IsName x) (same_Some (record { part = part; mark = mark; cycle = b.0 }) name b.2) (whole, form)

name_takes : (word : Word) (name : Name) → name_in word ≡ Some name → (word ≡ name_word name) × IsName name
unfolding name_in
name_takes word name e =
    let part = take_while is_name_byte word in
    let rest = after_while is_name_byte word in
    let w = when_some (is_name part) (stripped (codes ".") rest >>= mark_in part) name e in
    let a = bind_some (stripped (codes ".") rest) (mark_in part) name w.1 in
    let t = mark_takes part a.0 name w.0 a.2 in
    (run_whole is_name_byte word ∙ ap (λ x. part ++ x) (stripped_some (codes ".") rest a.0 a.1) ∙ t.0, t.1)

mark_again : (name : Name) → IsName name → mark_in name.part (name.mark ∷ 64 ∷ number_text name.cycle) ≡ Some name
mark_again name form =
    let most : name.cycle ≤ MAX_CYCLES - 1 = let small = form.cycle in omega arith in
    rw (form.mark, (number_inverts (MAX_CYCLES - 1)).again name.cycle most) refl

name_again : (name : Name) → IsName name → name_in (name_word name) ≡ Some name
unfolding name_in
name_again name form =
    let rest : List ℕ = 46 ∷ name.mark ∷ 64 ∷ number_text name.cycle in
    let bytes : list_all is_name_byte name.part ≡ true = (and_parts (leb 1 (length name.part) && leb (length name.part) MAX_NAME_LEN) (list_all is_name_byte name.part) form.part).1 in
    let front = front_of_run is_name_byte name.part rest bytes refl in
    let behind = rest_of_run is_name_byte name.part rest bytes refl in
    rw (front, behind, form.part) (mark_again name form)

pub name_inverts : Inverts name_in name_word IsName
name_inverts = record { takes = name_takes; again = name_again }

-- ---- words of a list of words

finding_takes : (word : Word) (found : Consistency) → finding_in word ≡ Some found → word ≡ finding_word found
finding_takes word found e =
    pick_some word (codes "consistent") findings.Consistent found _ (λ f. word ≡ finding_word f) e (λ is. is)
    (λ other. pick_some word (codes "inconsistent") findings.Inconsistent found _ (λ f. word ≡ finding_word f) other (λ is. is)
    (λ last. last_some word (codes "unsettled") findings.Open found (λ f. word ≡ finding_word f) last (λ is. is)))

finding_again : (found : Consistency) → finding_in (finding_word found) ≡ Some found
finding_again findings.Consistent = refl
finding_again findings.Inconsistent = refl
finding_again findings.Open = refl

pub finding_inverts : Inverts finding_in finding_word (λ found. Unit {0})
finding_inverts = record { takes = λ word found e. (finding_takes word found e, tt); again = λ found form. finding_again found }

ending_takes : (word : Word) (end : EndWord) → ending_in word ≡ Some end → word ≡ ending_word end
ending_takes word end e =
    pick_some word (codes "pass") endings.Pass end _ (λ f. word ≡ ending_word f) e (λ is. is)
    (λ other. pick_some word (codes "fail") endings.Fail end _ (λ f. word ≡ ending_word f) other (λ is. is)
    (λ more. pick_some word (codes "inconsistent") endings.Inconsistent end _ (λ f. word ≡ ending_word f) more (λ is. is)
    (λ last. last_some word (codes "undecided") endings.Undecided end (λ f. word ≡ ending_word f) last (λ is. is))))

ending_again : (end : EndWord) → ending_in (ending_word end) ≡ Some end
ending_again endings.Pass = refl
ending_again endings.Fail = refl
ending_again endings.Inconsistent = refl
ending_again endings.Undecided = refl

pub ending_inverts : Inverts ending_in ending_word (λ end. Unit {0})
ending_inverts = record { takes = λ word end e. (ending_takes word end e, tt); again = λ end form. ending_again end }
