-- The words of a line are read as that line at the place where it stands, and no other words are.
use Rattle.std.proofs.Common.{◌≡◌, ◌+◌, ◌<◌, ◌≤◌, ℕ, zero, suc, ℤ, Bool, true, false, cond, eqb, ◌&&◌, List, [], ◌∷◌, map, length, codes, Option, Some, None, option_map, refl, sym, ap, subst, ◌∙◌, arith}
use Rattle.std.specs.Prelude.{All}
use Rattle.std.proofs.lemmas.Bool.{and_parts, eq-eqb, eqb-true, false_from_ne_true}
use Rattle.std.proofs.lemmas.List.{length-map}
use Rattle.std.proofs.lemmas.Option.{same_Some}
use Rattle.itv_base.specs.Names.{Name}
use Rattle.itv_base.specs.Numerals.{end_text, number_text, signed_text, value_of}
use Rattle.itv_base.specs.Range.{IsRange}
use Rattle.itv_base.specs.declared.limits.TheConstants.{MAX_EVENTS, MAX_ROWS}
use Rattle.itv_base.proofs.Numerals.{value-text}
use Rattle.certificate.specs.Reading.{proof_in}
use Rattle.certificate.proofs.LineLaws.{proof_inverts}
use Rattle.line_words.specs.Numbers.{IsLong, IsLongOrOpen, long_in, number_in, open_in}
use Rattle.line_words.specs.Words.{◌>>=◌, Word, is_word, keyed, many, one, two, when}
use Rattle.line_words.proofs.Inverts.{Inverts, bind_some, either_takes, keyed_inverts, keyed_takes, last_some, many_inverts, one_inverts, one_takes, or_cases_some, pick_some, two_inverts, when_some, word_is, word_same}
use Rattle.line_words.proofs.NumberLaws.{long_inverts, number_inverts, open_inverts}
use Rattle.requirements.specs.declared.bound.Bound.{Bound}
use Rattle.requirements.specs.declared.bound.Bound.TheVariants as bounds
use Rattle.requirements.specs.declared.verdict.Verdict.{Verdict}
use Rattle.requirements.specs.declared.verdict.Verdict.TheVariants as verdicts
use Rattle.itv_base.specs.declared.row_kind.RowKind.{RowKind}
use Rattle.itv_base.specs.declared.row_kind.RowKind.TheVariants as kinds
use Rattle.itv_base.proofs.Options.{mapped_some}
use Rattle.slack_report.specs.declared.words.Which.{Which}
use Rattle.slack_report.specs.declared.place.Place.{Place}
use Rattle.slack_report.specs.declared.place.Place.TheVariants as at
use Rattle.slack_report.specs.Entry.{Entry, HasBoundForm, IsReportEntry, IsKind, IsName, heading, budget, events, event, proof, finding, times, rows, row, bound, raise, verdict, slack, ending}
use Rattle.slack_report.specs.Order.{events_at}
use Rattle.slack_report.specs.Reading.{ask_in, bound_in, budget_in, demand_in, ending_in, entry_at, finding_in, flags_in, heading_in, name_in, range_in, row_in, times_in, verdict_in}
use Rattle.slack_report.specs.Text.{bound_words, ending_word, finding_word, members_from, name_word, range_word, row_words, verdict_words, which_word, words_of}
use Rattle.slack_report.proofs.RangeWord.{range_inverts}
use Rattle.slack_report.proofs.WordLaws.{IsBudget, budget_inverts, ending_inverts, finding_inverts, name_inverts}

-- ---- bounds and verdicts

abbrev BoundTaken : List Word → Bound → Type 0
BoundTaken words value = (words ≡ bound_words value) × HasBoundForm value

bound_takes : (words : List Word) (value : Bound) → bound_in words ≡ Some value → BoundTaken words value
unfolding bound_in
bound_takes [] value e = absurd (cc)
bound_takes (word ∷ []) value e =
    or_cases_some (option_map bounds.Closed (long_in word)) (when (is_word word (codes "unbounded")) (Some bounds.Unbounded)) value (BoundTaken (word ∷ []) value) e
    (λ h. let m = mapped_some bounds.Closed (long_in word) value h in let t = long_inverts.takes word m.0 m.1 in
    subst (BoundTaken (word ∷ [])) m.2 (ap (λ w. w ∷ []) t.0, t.1))
    (λ h. last_some word (codes "unbounded") bounds.Unbounded value (BoundTaken (word ∷ [])) h (λ is. (ap (λ w. w ∷ []) is, tt)))
bound_takes (word ∷ limit ∷ []) value e =
    let w = when_some (is_word word (codes "within")) (option_map (λ most. bounds.Within most None) (open_in limit)) value e in
    let m = mapped_some (λ most. bounds.Within most None) (open_in limit) value w.1 in
    let t = open_inverts.takes limit m.0 m.1 in
    let first : word ≡ codes "within" = word_is word (codes "within") w.0 in
    subst (BoundTaken (word ∷ limit ∷ [])) m.2 (ap (λ x. x ∷ limit ∷ []) first ∙ ap (λ x. codes "within" ∷ x ∷ []) t.0, (t.1, tt))
bound_takes (word ∷ limit ∷ mid ∷ []) value e = absurd (cc)
bound_takes (word ∷ limit ∷ mid ∷ last ∷ []) value e =
    let w = when_some (is_word word (codes "within") && is_word mid (codes "found")) (open_in limit >>= λ most. long_in last >>= λ found. Some (bounds.Within most (Some found))) value e in
    let p = and_parts (is_word word (codes "within")) (is_word mid (codes "found")) w.0 in
    let a = bind_some (open_in limit) (λ most. long_in last >>= λ found. Some (bounds.Within most (Some found))) value w.1 in
    let b = bind_some (long_in last) (λ found. Some (bounds.Within a.0 (Some found))) value a.2 in
    let most = open_inverts.takes limit a.0 a.1 in
    let found = long_inverts.takes last b.0 b.1 in
    let first : word ≡ codes "within" = word_is word (codes "within") p.0 in
    let third : mid ≡ codes "found" = word_is mid (codes "found") p.1 in
    let whole : word ∷ limit ∷ mid ∷ last ∷ [] ≡ codes "within" ∷ end_text a.0 ∷ codes "found" ∷ signed_text b.0 ∷ [] =
    ap (λ x. x ∷ limit ∷ mid ∷ last ∷ []) first ∙ ap (λ x. codes "within" ∷ x ∷ mid ∷ last ∷ []) most.0 ∙ ap (λ x. codes "within" ∷ end_text a.0 ∷ x ∷ last ∷ []) third ∙ ap (λ x. codes "within" ∷ end_text a.0 ∷ codes "found" ∷ x ∷ []) found.0 in
    subst (BoundTaken (word ∷ limit ∷ mid ∷ last ∷ [])) (same_Some (bounds.Within a.0 (Some b.0)) value b.2) (whole, (most.1, found.1))
bound_takes (word ∷ limit ∷ mid ∷ last ∷ other ∷ words) value e = absurd (cc)

unbounded_is_no_number : long_in (codes "unbounded") ≡ None
unfolding long_in
unbounded_is_no_number = refl

bound_again : (value : Bound) → HasBoundForm value → bound_in (bound_words value) ≡ Some value
unfolding bound_in
bound_again (bounds.Closed value) form = rw (long_inverts.again value form) refl
bound_again bounds.Unbounded form = rw unbounded_is_no_number refl
bound_again (bounds.Within limit None) form = rw (open_inverts.again limit form.0) refl
bound_again (bounds.Within limit (Some found)) form = rw (open_inverts.again limit form.0, long_inverts.again found form.1) refl

pub bound_inverts : Inverts bound_in bound_words HasBoundForm
bound_inverts = record { takes = bound_takes; again = bound_again }

verdict_takes : (words : List Word) (word : Verdict) → verdict_in words ≡ Some word → words ≡ verdict_words word
unfolding verdict_in
verdict_takes [] found e = absurd (cc)
verdict_takes (word ∷ []) found e =
    pick_some word (codes "pass") verdicts.Pass found (when (is_word word (codes "undecided")) (Some verdicts.Undecided)) (λ v. word ∷ [] ≡ verdict_words v) e (λ is. ap (λ w. w ∷ []) is)
    (λ other. last_some word (codes "undecided") verdicts.Undecided found (λ v. word ∷ [] ≡ verdict_words v) other (λ is. ap (λ w. w ∷ []) is))
verdict_takes (word ∷ side ∷ []) found e =
    let w = when_some (is_word word (codes "fail")) (cond (is_word side (codes "high")) (Some verdicts.FailHigh) (when (is_word side (codes "low")) (Some verdicts.FailLow))) found e in
    let first : word ≡ codes "fail" = word_is word (codes "fail") w.0 in
    ap (λ x. x ∷ side ∷ []) first ∙ pick_some side (codes "high") verdicts.FailHigh found (when (is_word side (codes "low")) (Some verdicts.FailLow)) (λ v. codes "fail" ∷ side ∷ [] ≡ verdict_words v) w.1 (λ is. ap (λ x. codes "fail" ∷ x ∷ []) is)
    (λ other. last_some side (codes "low") verdicts.FailLow found (λ v. codes "fail" ∷ side ∷ [] ≡ verdict_words v) other (λ is. ap (λ x. codes "fail" ∷ x ∷ []) is))
verdict_takes (word ∷ side ∷ other ∷ words) found e = absurd (cc)

verdict_again : (word : Verdict) → verdict_in (verdict_words word) ≡ Some word
unfolding verdict_in
verdict_again verdicts.Pass = refl
verdict_again verdicts.FailHigh = refl
verdict_again verdicts.FailLow = refl
verdict_again verdicts.Undecided = refl

pub verdict_inverts : Inverts verdict_in verdict_words (λ word. Unit {0})
verdict_inverts = record { takes = λ words word e. (verdict_takes words word e, tt); again = λ word form. verdict_again word }

-- ---- times and sets

abbrev AreTimes : ℕ → List ℤ → Type 0
AreTimes count list = (length list ≡ count) × All IsLong list

longs_invert : Inverts (many long_in) (map signed_text) (All IsLong)
longs_invert = many_inverts long_in signed_text IsLong long_inverts

pub times_inverts : (count : ℕ) → Inverts (times_in count) (map signed_text) (AreTimes count)
times_inverts count = record {
  takes = λ words list e.
      let w = when_some (eqb (length words) count) (many long_in words) list e in
      let t = longs_invert.takes words list w.1 in
      let many_words : length words ≡ count = eqb-true (length words) count w.0 in
      (t.0, (sym (length-map list signed_text) ∙ sym (ap length t.0) ∙ many_words, t.1));
  again = λ list form.
      let whole : eqb (length (map signed_text list)) count ≡ true = eq-eqb (length (map signed_text list)) count (length-map list signed_text ∙ form.0) in
      rw whole (longs_invert.again list form.1);
}

abbrev SetTaken : ℕ → ℕ → List Word → List Bool → Type 0
SetTaken number left words set = (words ≡ members_from number set) × (length set ≡ left)

flag_in_front : (flag : Bool) (number left : ℕ) (words behind : List Word) (o : Option (List Bool)) (set : List Bool) → option_map (λ rest. flag ∷ rest) o ≡ Some set
    → ((rest : List Bool) → o ≡ Some rest → SetTaken (number + 1) left behind rest) → words ≡ cond flag (number_text number ∷ behind) behind
    → SetTaken number (suc left) words set
flag_in_front flag number left words behind o set e taken is =
    let m = mapped_some (λ rest. flag ∷ rest) o set e in
    let t = taken m.0 m.1 in
    subst (SetTaken number (suc left) words) m.2 (is ∙ placed flag m.0 t.0, ap suc t.1)
  where
    placed : (flag : Bool) (rest : List Bool) → behind ≡ members_from (number + 1) rest → cond flag (number_text number ∷ behind) behind ≡ members_from number (flag ∷ rest)
    placed true rest h = ap (λ ws. number_text number ∷ ws) h
    placed false rest h = h

flags_takes : (left number : ℕ) (words : List Word) (set : List Bool) → flags_in left number words ≡ Some set → SetTaken number left words set
flags_takes zero number [] set e = subst (SetTaken number 0 []) (same_Some [] set e) (refl, refl)
flags_takes zero number (word ∷ words) set e = absurd (cc)
flags_takes (suc left) number [] set e = flag_in_front false number left [] [] (flags_in left (number + 1) []) set e (λ rest h. flags_takes left (number + 1) [] rest h) refl
flags_takes (suc left) number (word ∷ words) set e =
    flag_at (is_word word (number_text number)) refl e (λ rest h. flags_takes left (number + 1) words rest h) (λ rest h. flags_takes left (number + 1) (word ∷ words) rest h)
  where
    flag_at : (test : Bool) → is_word word (number_text number) ≡ test
        → cond test (option_map (λ rest. true ∷ rest) (flags_in left (number + 1) words)) (option_map (λ rest. false ∷ rest) (flags_in left (number + 1) (word ∷ words))) ≡ Some set
        → ((rest : List Bool) → flags_in left (number + 1) words ≡ Some rest → SetTaken (number + 1) left words rest)
        → ((rest : List Bool) → flags_in left (number + 1) (word ∷ words) ≡ Some rest → SetTaken (number + 1) left (word ∷ words) rest)
        → SetTaken number (suc left) (word ∷ words) set
    flag_at true h e here there = flag_in_front true number left (word ∷ words) words (flags_in left (number + 1) words) set e here (ap (λ w. w ∷ words) (word_is word (number_text number) h))
    flag_at false h e here there = flag_in_front false number left (word ∷ words) (word ∷ words) (flags_in left (number + 1) (word ∷ words)) set e there refl

-- the first word, if there is one, is not the text of this number
abbrev FirstIsAbove : ℕ → List Word → Type 0
FirstIsAbove number [] = Unit {0}
FirstIsAbove number (word ∷ words) = is_word word (number_text number) ≡ false

other_number : (n m : ℕ) → n < m → is_word (number_text m) (number_text n) ≡ false
other_number n m h =
    false_from_ne_true (is_word (number_text m) (number_text n)) (λ e.
    let same : m ≡ n = sym (value-text m) ∙ ap value_of (word_is (number_text m) (number_text n) e) ∙ value-text n in
    omega arith)

first_above : (number first : ℕ) (set : List Bool) → number < first → FirstIsAbove number (members_from first set)
first_above number first [] h = tt
first_above number first (true ∷ set) h = other_number number first h
first_above number first (false ∷ set) h = first_above number (first + 1) set (omega arith)

passed_over : (left number : ℕ) (words : List Word) → FirstIsAbove number words → flags_in (suc left) number words ≡ option_map (λ set. false ∷ set) (flags_in left (number + 1) words)
passed_over left number [] h = refl
passed_over left number (word ∷ words) h = rw h refl

flags_again : (set : List Bool) (number : ℕ) → flags_in (length set) number (members_from number set) ≡ Some set
flags_again [] number = refl
flags_again (true ∷ set) number = rw (word_same (number_text number)) (ap (option_map (λ rest. true ∷ rest)) (flags_again set (number + 1)))
flags_again (false ∷ set) number =
    passed_over (length set) number (members_from (number + 1) set) (first_above number (number + 1) set (omega arith)) ∙ ap (option_map (λ rest. false ∷ rest)) (flags_again set (number + 1))

pub flags_invert : (count : ℕ) → Inverts (flags_in count 0) (members_from 0) (λ set. length set ≡ count)
flags_invert count = record {
  takes = λ words set e. flags_takes count 0 words set e;
  again = λ set h. subst (λ n. flags_in n 0 (members_from 0 set) ≡ Some set) h (flags_again set 0);
}

-- ---- rows

names_invert : Inverts (two name_in name_in) (λ p. name_word p.0 ∷ name_word p.1 ∷ []) (λ p. IsName p.0 × IsName p.1)
names_invert = two_inverts name_in name_word IsName name_in name_word IsName name_inverts name_inverts

ends_invert : Inverts (two name_in range_in) (λ p. name_word p.0 ∷ range_word p.1 ∷ []) (λ p. IsName p.0 × IsRange p.1)
ends_invert = two_inverts name_in name_word IsName range_in range_word IsRange name_inverts range_inverts

-- the form of what a row says
abbrev pub IsAsked : RowKind × Name × Name → Type 0
IsAsked x = IsKind x.0 × IsName x.1 × IsName x.2

abbrev pub asked_words : RowKind × Name × Name → List Word
asked_words x = row_words x.0 x.1 x.2

abbrev RowTaken : List Word → RowKind × Name × Name → Type 0
RowTaken words x = (words ≡ asked_words x) × IsAsked x

demand_takes : (words : List Word) (x : RowKind × Name × Name) → demand_in words ≡ Some x → RowTaken (codes "req" ∷ words) x
demand_takes [] x e = absurd (cc)
demand_takes (word ∷ words) x e =
    let a = bind_some (name_in word) (λ from. two name_in range_in words >>= λ y. Some (kinds.Req y.1, from, y.0)) x e in
    let b = bind_some (two name_in range_in words) (λ y. Some (kinds.Req y.1, a.0, y.0)) x a.2 in
    let from = name_inverts.takes word a.0 a.1 in
    let t = ends_invert.takes words b.0 b.1 in
    let whole : codes "req" ∷ word ∷ words ≡ codes "req" ∷ name_word a.0 ∷ name_word b.0.0 ∷ range_word b.0.1 ∷ [] = ap (λ w. codes "req" ∷ w ∷ words) from.0 ∙ ap (λ ws. codes "req" ∷ name_word a.0 ∷ ws) t.0 in
    subst (RowTaken (codes "req" ∷ word ∷ words)) (same_Some (kinds.Req b.0.1, a.0, b.0.0) x b.2) (whole, (t.1.1, from.1, t.1.0))

ask_takes : (words : List Word) (x : RowKind × Name × Name) → ask_in words ≡ Some x → RowTaken (codes "ask" ∷ words) x
ask_takes words x e =
    let m = mapped_some (λ (p : Name × Name). (kinds.Ask, p.0, p.1)) (two name_in name_in words) x e in
    let t = names_invert.takes words m.0 m.1 in
    subst (RowTaken (codes "ask" ∷ words)) m.2 (ap (λ ws. codes "ask" ∷ ws) t.0, (tt, t.1.0, t.1.1))

row_takes : (words : List Word) (x : RowKind × Name × Name) → row_in words ≡ Some x → RowTaken words x
unfolding row_in
row_takes words x e =
    or_cases_some (keyed (codes "ask") ask_in words) (keyed (codes "req") demand_in words) x (RowTaken words x) e
    (λ h. let k = keyed_takes (codes "ask") ask_in words x h in subst (λ ws. RowTaken ws x) (sym k.1) (ask_takes k.0 x k.2))
    (λ h. let k = keyed_takes (codes "req") demand_in words x h in subst (λ ws. RowTaken ws x) (sym k.1) (demand_takes k.0 x k.2))

row_again : (x : RowKind × Name × Name) → IsAsked x → row_in (asked_words x) ≡ Some x
unfolding row_in
row_again (kinds.Ask, from, to) form = rw (names_invert.again (from, to) (form.1, form.2)) refl
row_again (kinds.Req ends, from, to) form = rw (name_inverts.again from form.1) (rw (ends_invert.again (to, ends) (form.2, form.0)) refl)

pub row_inverts : Inverts row_in asked_words IsAsked
row_inverts = record { takes = row_takes; again = row_again }

-- ---- each place

abbrev EntryTaken : ℕ → List Word → Entry → Type 0
EntryTaken count words entry = (words ≡ words_of entry) × IsReportEntry count entry

mapped : {A : Type 0} (f : A → Entry) (read : List Word → Option A) (spell : A → List Word) (Form : A → Type 0) (words : List Word) (entry : Entry) (count : ℕ) → Inverts read spell Form
    → ((x : A) → spell x ≡ words_of (f x)) → ((x : A) → Form x → IsReportEntry count (f x)) → option_map f (read words) ≡ Some entry → EntryTaken count words entry
mapped f read spell Form words entry count i spells forms e =
    let m = mapped_some f (read words) entry e in
    let t = i.takes words m.0 m.1 in
    subst (EntryTaken count words) m.2 (t.0 ∙ spells m.0, forms m.0 t.1)

number_invert : (key : Word) (limit : ℕ) → Inverts (keyed key (one (number_in limit))) (λ n. key ∷ number_text n ∷ []) (λ n. n ≤ limit)
number_invert key limit = keyed_inverts key (one (number_in limit)) (λ n. number_text n ∷ []) (λ n. n ≤ limit) (one_inverts (number_in limit) number_text (λ n. n ≤ limit) (number_inverts limit))

pub budget_line : Inverts (keyed (codes "budget") (one budget_in)) (λ n. codes "budget" ∷ number_text n ∷ []) IsBudget
budget_line = keyed_inverts (codes "budget") (one budget_in) (λ n. number_text n ∷ []) IsBudget (one_inverts budget_in number_text IsBudget budget_inverts)

pub events_line : Inverts (keyed (codes "events") (one (number_in MAX_EVENTS))) (λ n. codes "events" ∷ number_text n ∷ []) (λ n. n ≤ MAX_EVENTS)
events_line = number_invert (codes "events") MAX_EVENTS

pub rows_line : Inverts (keyed (codes "rows") (one (number_in MAX_ROWS))) (λ n. codes "rows" ∷ number_text n ∷ []) (λ n. n ≤ MAX_ROWS)
rows_line = number_invert (codes "rows") MAX_ROWS

pub event_line : (number : ℕ) → Inverts (keyed (codes "event") (keyed (number_text number) (one name_in))) (λ name. codes "event" ∷ number_text number ∷ name_word name ∷ []) IsName
event_line number =
    keyed_inverts (codes "event") (keyed (number_text number) (one name_in)) (λ name. number_text number ∷ name_word name ∷ []) IsName
    (keyed_inverts (number_text number) (one name_in) (λ name. name_word name ∷ []) IsName (one_inverts name_in name_word IsName name_inverts))

pub row_line : (number : ℕ) → Inverts (keyed (codes "row") (keyed (number_text number) row_in)) (λ x. codes "row" ∷ number_text number ∷ asked_words x) IsAsked
row_line number =
    keyed_inverts (codes "row") (keyed (number_text number) row_in) (λ x. number_text number ∷ asked_words x) IsAsked (keyed_inverts (number_text number) row_in asked_words IsAsked row_inverts)

pub finding_line : Inverts (keyed (codes "finding") (one finding_in)) (λ word. codes "finding" ∷ finding_word word ∷ []) (λ word. Unit {0})
finding_line = keyed_inverts (codes "finding") (one finding_in) (λ word. finding_word word ∷ []) (λ word. Unit {0}) (one_inverts finding_in finding_word (λ word. Unit {0}) finding_inverts)

pub ending_line : Inverts (keyed (codes "end") (one ending_in)) (λ word. codes "end" ∷ ending_word word ∷ []) (λ word. Unit {0})
ending_line = keyed_inverts (codes "end") (one ending_in) (λ word. ending_word word ∷ []) (λ word. Unit {0}) (one_inverts ending_in ending_word (λ word. Unit {0}) ending_inverts)

pub times_line : (count : ℕ) → Inverts (keyed (codes "times") (times_in count)) (λ list. codes "times" ∷ map signed_text list) (AreTimes count)
times_line count = keyed_inverts (codes "times") (times_in count) (map signed_text) (AreTimes count) (times_inverts count)

pub raise_line : (count : ℕ) → Inverts (keyed (codes "raise") (flags_in count 0)) (λ set. codes "raise" ∷ members_from 0 set) (λ set. length set ≡ count)
raise_line count = keyed_inverts (codes "raise") (flags_in count 0) (members_from 0) (λ set. length set ≡ count) (flags_invert count)

pub verdict_line : Inverts (keyed (codes "verdict") verdict_in) (λ word. codes "verdict" ∷ verdict_words word) (λ word. Unit {0})
verdict_line = keyed_inverts (codes "verdict") verdict_in verdict_words (λ word. Unit {0}) verdict_inverts

pub slack_line : Inverts (keyed (codes "slack") (two open_in open_in)) (λ x. codes "slack" ∷ end_text x.0 ∷ end_text x.1 ∷ []) (λ x. IsLongOrOpen x.0 × IsLongOrOpen x.1)
slack_line =
    keyed_inverts (codes "slack") (two open_in open_in) (λ x. end_text x.0 ∷ end_text x.1 ∷ []) (λ x. IsLongOrOpen x.0 × IsLongOrOpen x.1)
    (two_inverts open_in end_text IsLongOrOpen open_in end_text IsLongOrOpen open_inverts open_inverts)

pub bound_line : (which : Which) → Inverts (keyed (which_word which) bound_in) (λ value. which_word which ∷ bound_words value) HasBoundForm
bound_line which = keyed_inverts (which_word which) bound_in bound_words HasBoundForm bound_inverts

heading_takes : (words : List Word) (entry : Entry) → keyed (codes "itv") (keyed (codes "report") (one heading_in)) words ≡ Some entry → EntryTaken 0 words entry
unfolding words_of
heading_takes words entry e =
    let a = keyed_takes (codes "itv") (keyed (codes "report") (one heading_in)) words entry e in
    let b = keyed_takes (codes "report") (one heading_in) a.0 entry a.2 in
    let c = one_takes heading_in b.0 entry b.2 in
    let whole : words ≡ codes "itv" ∷ codes "report" ∷ c.0 ∷ [] = a.1 ∙ ap (λ ws. codes "itv" ∷ ws) b.1 ∙ ap (λ ws. codes "itv" ∷ codes "report" ∷ ws) c.1 in
    last_some c.0 (codes "1") heading entry (EntryTaken 0 words) c.2 (λ is. (whole ∙ ap (λ w. codes "itv" ∷ codes "report" ∷ w ∷ []) is, tt))

pub entry_takes : (place : Place) (words : List Word) (entry : Entry) → entry_at place words ≡ Some entry → EntryTaken (events_at place) words entry
unfolding entry_at words_of
entry_takes at.Heading words entry e = heading_takes words entry e
entry_takes at.Budget words entry e = mapped budget _ _ _ words entry 0 budget_line (λ x. refl) (λ x h. h) e
entry_takes at.Events words entry e = mapped events _ _ _ words entry 0 events_line (λ x. refl) (λ x h. h) e
entry_takes (at.Event count number more) words entry e = mapped (event number) _ _ _ words entry count (event_line number) (λ x. refl) (λ x h. h) e
entry_takes (at.Finding count) words entry e =
    either_takes proof proof_in (option_map finding (keyed (codes "finding") (one finding_in) words)) words entry (EntryTaken count words) e
    (λ line h. proof_inverts.takes words line h)
    (λ other. mapped finding _ _ _ words entry count finding_line (λ x. refl) (λ x h. h) other)
entry_takes (at.FoundTimes count) words entry e = mapped times _ _ _ words entry count (times_line count) (λ x. refl) (λ x h. h) e
entry_takes (at.Rows count) words entry e = mapped rows _ _ _ words entry count rows_line (λ x. refl) (λ x h. h) e
entry_takes (at.Row count number more) words entry e = mapped (λ x. row number x.0 x.1 x.2) _ _ _ words entry count (row_line number) (λ x. refl) (λ x h. h) e
entry_takes (at.Bound spot which) words entry e =
    either_takes proof proof_in (option_map (bound which) (keyed (which_word which) bound_in words)) words entry (EntryTaken spot.events words) e
    (λ line h. proof_inverts.takes words line h)
    (λ other. mapped (bound which) _ _ _ words entry spot.events (bound_line which) (λ x. refl) (λ x h. h) other)
entry_takes (at.Times spot which raises) words entry e = mapped times _ _ _ words entry spot.events (times_line spot.events) (λ x. refl) (λ x h. h) e
entry_takes (at.Raise spot which) words entry e = mapped raise _ _ _ words entry spot.events (raise_line spot.events) (λ x. refl) (λ x h. h) e
entry_takes (at.Verdict spot) words entry e = mapped verdict _ _ _ words entry spot.events verdict_line (λ x. refl) (λ x h. h) e
entry_takes (at.FailTimes spot) words entry e = mapped times _ _ _ words entry spot.events (times_line spot.events) (λ x. refl) (λ x h. h) e
entry_takes (at.Slack spot) words entry e = mapped (λ x. slack (record { low = x.0; high = x.1 })) _ _ _ words entry spot.events slack_line (λ x. refl) (λ x h. h) e
entry_takes at.End words entry e = mapped ending _ _ _ words entry 0 ending_line (λ x. refl) (λ x h. h) e
entry_takes at.Nothing words entry e = absurd (cc)
