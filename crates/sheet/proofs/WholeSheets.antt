-- Every sheet that is read is whole.
use Rattle.std.proofs.Common.{◌≡◌, ℕ, ◌+◌, ◌-◌, ◌<◌, ◌≤◌, ◌≢◌, Bool, true, false, cond, nat_eq, ◌==◌, List, [], ◌∷◌, ◌++◌, length, map, ltb, take, All, Option, Some, None, IfSome, position, Result, Ok, Err, IfOk, refl, sym, ◌∙◌, ap, append_assoc, append-nil, length-append, unwrap_or, arith}
use Rattle.std.specs.Prelude.{ok_or, option_and_then, option_map}
use Rattle.std.specs.Str.{bytes_eq}
use Rattle.std.proofs.lemmas.Int.{ints}
use Rattle.std.specs.Cmp.{IsEquivalence}
use Rattle.std.specs.List.{IsDistinct, cons_option, enumerate_from, filter, filter_map, flat_map, list_any, position_or_len, range_with_len}
use Rattle.std.proofs.lemmas.Bool.{cond_both, eqb-false, leb-false, ltb-true}
use Rattle.std.proofs.lemmas.Cmp.{nat_eq_equiv}
use Rattle.std.proofs.lemmas.List.{length-map, length_push, take_at}
use Rattle.std.proofs.lemmas.List.Elements.{filter-append, All-append, All-cons, All-filter, All-head, All-map, All-nil, All-push, All-tail}
use Rattle.std.proofs.lemmas.List.FromFn.{get_or-range_with_len, length-range_with_len}
use Rattle.std.proofs.lemmas.Map.Keys.{IsDistinct-push}
use Rattle.std.proofs.lemmas.Result.{IfOk-at_ok}
use Rattle.itv_base.specs.declared.names.RuleKind.TheVariants as rules
use Rattle.wavejson.specs.Drawing.{DiagramView}
use Rattle.wavejson.specs.declared.lane_text.LaneText.{LaneText}
use Rattle.label_grammar.specs.declared.label.Kind.{Kind}
use Rattle.label_grammar.specs.declared.label.Kind.TheVariants.{Lin, Late, Early, Req, Ask}
use Rattle.label_grammar.specs.declared.label.LabelFault.{LabelFault}
use Rattle.label_grammar.specs.Answer.{judged_label}
use Rattle.itv_base.specs.Characters.{is_mark}
use Rattle.label_grammar.specs.Edge.{EdgeSeen, comment, timing, malformed, edge_of}
use Rattle.label_grammar.specs.Label.{LooseLabel, Span, fixed, named, fixed_ends, version_1, version_2}
use Rattle.label_grammar.specs.Reading.{ends_of, span_of, label_of}
use Rattle.origin.specs.declared.origin.Origin.{Origin}
use Rattle.origin.specs.declared.origin.Origin.TheVariants.{Lane}
use Rattle.grades.specs.declared.grade.Grade.{Grade}
use Rattle.grades.specs.Grades.{AreRanges, HasRanges, grade_called, range_in}
use Rattle.grades.proofs.WholeGrades.{grade_called_whole, range_in_whole}
use Rattle.sheet.specs.declared.fault.SheetFault.{SheetFault}
use Rattle.sheet.specs.declared.fault.SheetFault.TheVariants.{BadNode, DoubleMark, DoublePin, NoGrade, NoParam, TooManyCauses}
use Rattle.sheet.specs.declared.mark.Mark.{Mark}
use Rattle.sheet.specs.declared.pin.Pin.{Pin}
use Rattle.sheet.specs.SheetContents.{SheetView}
use Rattle.sheet.specs.declared.mark.TheConstants.{MAX_MARKS}
use Rattle.itv_base.specs.declared.limits.TheConstants.{MAX_SHIFT}
use Rattle.itv_base.specs.declared.limits.TheConstants.{MAX_CAUSES}
use Rattle.itv_base.specs.Range.{Ends, IsRange}
use Rattle.label_grammar.specs.Label.{IsProper}
use Rattle.label_grammar.proofs.Pieces.{ends_invert, spans_invert}
use Rattle.label_grammar.proofs.Proper.{judged_is_proper, proper_range, proper_span}
use Rattle.sheet.specs.Lanes.{NumberedLane, first_repeated, follows_rule, has_bad_node, lane_marks, lane_order, order_named, mark_at, marks_of, node_of, numbered, numbered_from, order_of, order_rules, pin_named, pin_of, pins_of}
use Rattle.sheet.specs.Links.{Labels, plain, graded, at_edge, span_ends, resolved, label_in, Link, group_rule, is_full, joins, labelled, link_of, link_rows, link_rules, link_to, links_of, number_of, open_ends, row_by, rule_opened, seen_link, source_of, with_edge, with_link}
use Rattle.sheet.specs.Step.{is_cause, AreWholeLabels}
use Rattle.sheet.specs.Sheet.{grade_named, read_marks, read_pins, sheet_at, sheet_by, sheet_of}
use Rattle.sheet.specs.Whole.{IsWhole, IsWholeRow, IsWholeRule, IsWholeSource}
use Rattle.itv_base.proofs.Faults.{IfOk-bind, IfOk-unless, IfOk-walk}
use Rattle.sheet.proofs.FewMarks.{few_marks}
use Rattle.sheet.proofs.Joins.{joins-same, joins-itself}
use Rattle.sheet.proofs.Lists.{filter-same}

-- ---- lists and answers

-- what holds of each answer to an element holds of all answers
pub All-filter_map : {X Y : Type 0} (P : X → Type 0) (Q : Y → Type 0) (h : X → Option Y) → ((x : X) → P x → IfSome (h x) Q) → (xs : List X) → All P xs → All Q (filter_map h xs)
All-filter_map P Q h gives [] all = All-nil Q
All-filter_map {X} {Y} P Q h gives (x ∷ xs) all =
    let here : IfSome (h x) Q = gives x (All-head P x xs all) in
    let rest : All Q (filter_map h xs) = All-filter_map P Q h gives xs (All-tail P x xs all) in
    elim (h x) as (λ (o : Option Y). IfSome o Q → All Q (cons_option o (filter_map h xs))) [ None ↦ λ _. rest | Some y ↦ λ q. All-cons Q y (filter_map h xs) q rest ] here

-- what holds of the elements of each part holds of all elements
All-flat_map : {X Y : Type 0} (P : X → Type 0) (Q : Y → Type 0) (f : X → List Y) → ((x : X) → P x → All Q (f x)) → (xs : List X) → All P xs → All Q (flat_map f xs)
All-flat_map P Q f gives [] all = All-nil Q
All-flat_map P Q f gives (x ∷ xs) all = All-append Q (f x) (flat_map f xs) (gives x (All-head P x xs all)) (All-flat_map P Q f gives xs (All-tail P x xs all))

-- a place that is found is a place of the list
pub position_within : {X : Type 0} (p : X → Bool) (xs : List X) → IfSome (position p xs) (λ k. k < length xs)
position_within p xs =
    cond_both (ltb (position_or_len p xs) (length xs)) (Some (position_or_len p xs)) None (λ o. IfSome o (λ k. k < length xs)) (ltb-true (position_or_len p xs) (length xs)) (λ _. tt)

-- ---- the number of marks

-- a choice between a value and another answer gives none only if it takes the other answer, and the other answer is none
pub cond_none : {X : Type 0} (test : Bool) (x : X) (other : Option X) → cond test (Some x) other ≡ None → (test ≡ false) × (other ≡ None)
cond_none true x other h = absurd (cc)
cond_none false x other h = (refl, h)

-- keys are distinct if none is repeated
distinct_keys : {X K : Type 0} {same : K → K → Bool} → IsEquivalence same → (key : X → K) (before : List K) (xs : List X) → IsDistinct same before
    → first_repeated same key before xs ≡ None → IsDistinct same (before ++ map key xs)
distinct_keys laws key before [] distinct none = rw append-nil distinct
distinct_keys {same = same} laws key before (x ∷ xs) distinct none =
    let apart = cond_none (list_any (same (key x)) before) x (first_repeated same key (before ++ key x ∷ []) xs) none in
    rw (← append_assoc before (key x ∷ []) (map key xs)) (distinct_keys laws key (before ++ key x ∷ []) xs (IsDistinct-push laws before (key x) distinct apart.0) apart.1)

-- the name of a mark is a character that may be a mark
abbrev IsNamed : Mark → Type 0
IsNamed mark = is_mark mark.name ≡ true

-- so is the name of a mark at a place
mark_at_named : (number : ℕ) (lane : LaneText) (at : ℕ × ℕ) → IfSome (mark_at number lane at) IsNamed
mark_at_named number lane at = cond_both (is_mark at.1) _ None (λ o. IfSome o IsNamed) (λ is. is) (λ _. tt)

-- so are the names of the marks on a lane
lane_marks_named : (lane : ℕ × LaneText) → All IsNamed (lane_marks lane)
lane_marks_named lane =
    All-filter_map (λ _. Unit {0}) IsNamed (mark_at lane.0 lane.1) (λ at _. mark_at_named lane.0 lane.1 at) (enumerate_from 0 (node_of lane.1)) (λ _ _ _. tt)

-- and the names of the marks on all lanes
marks_of_named : (lanes : List LaneText) → All IsNamed (marks_of lanes)
marks_of_named lanes = All-flat_map (λ _. Unit {0}) IsNamed lane_marks (λ lane _. lane_marks_named lane) (enumerate_from 0 lanes) (λ _ _ _. tt)

-- marks are few if none is repeated
length-marks : (lanes : List LaneText) → first_repeated nat_eq (λ mark. mark.name) [] (marks_of lanes) ≡ None → length (marks_of lanes) ≤ MAX_MARKS
unfolding IsDistinct
length-marks lanes none =
    let distinct : IsDistinct nat_eq (map (λ (mark : Mark). mark.name) (marks_of lanes)) = distinct_keys nat_eq_equiv (λ mark. mark.name) [] (marks_of lanes) tt none in
    let named : All (λ b. is_mark b ≡ true) (map (λ (mark : Mark). mark.name) (marks_of lanes)) = All-map (λ b. is_mark b ≡ true) (λ (mark : Mark). mark.name) (marks_of lanes) (marks_of_named lanes) in
    rw (length-map (marks_of lanes) (λ (mark : Mark). mark.name)) at (few_marks _ distinct named)

-- the marks that are read are the marks of the lanes, and there are few
record IsMarksOf (lanes : List LaneText) (marks : List Mark) : Type 0 where
  whole : marks ≡ marks_of lanes
  few : length marks ≤ MAX_MARKS

-- the marks that are read are the marks of the lanes
read_marks_whole : (lanes : List LaneText) → IfOk (read_marks lanes) (IsMarksOf lanes)
unfolding read_marks
read_marks_whole lanes =
    IfOk-bind (λ lanes'. lanes' ≡ lanes) (IsMarksOf lanes) _ _
    (IfOk-unless (λ lanes'. lanes' ≡ lanes) (position has_bad_node lanes) BadNode lanes (λ _. refl))
    (λ lanes' same. IfOk-unless (IsMarksOf lanes) (first_repeated nat_eq (λ mark. mark.name) [] (marks_of lanes')) (λ mark. DoubleMark mark.name) (marks_of lanes')
    (λ none. record { whole = ap marks_of same; few = length-marks lanes' none }))

-- ---- links

-- the ends of a label, open where it has none
abbrev range_of : LooseLabel Ends → Ends
range_of label = unwrap_or label.ends open_ends

-- a link between marks below a number, whose label is whole
pub record IsWholeLink (marks : ℕ) (link : Link) : Type 0 where
  pub from : link.from < marks
  pub to : link.to < marks
  pub shift : link.label.shift ≤ MAX_SHIFT
  pub range : IsRange (range_of link.label)

-- a label that looks back no more cycles than it may, with two ends that are a range
record IsWholeLabel (label : LooseLabel Ends) : Type 0 where
  shift : label.shift ≤ MAX_SHIFT
  range : IsRange (range_of label)

pub range_whole : (ends : Option Ends) → IfSome ends IsRange → IsRange (unwrap_or ends open_ends)
range_whole None h = (tt, tt, tt)
range_whole (Some ends) h = h

-- ---- labels

told_whole : {E : Type 0} (P : LooseLabel E → Type 0) (n : ℕ) (label : Result (LooseLabel E) LabelFault) → IfOk label P → IfOk (at_edge n label) P
told_whole P n (Ok label) whole = whole
told_whole P n (Err fault) whole = tt

-- what a grade gives for the name of a parameter is a range
param_whole : (n : ℕ) (grade : Option Grade) (name : List ℕ) → IfSome grade HasRanges → IfOk (ok_or (option_and_then (λ g. range_in g name) grade) (NoParam n)) IsRange
param_whole n None name whole = tt
param_whole n (Some grade) name whole = found (range_in grade name) (range_in_whole grade name whole)
  where
    found : (range : Option Ends) → IfSome range IsRange → IfOk (ok_or range (NoParam n)) IsRange
    found None is = tt
    found (Some range) is = is

-- so are the ends of a span
span_whole : (n : ℕ) (grade : Option Grade) (span : Option Span) → IfSome grade HasRanges → IfSome span (λ s. IfSome (fixed_ends s) IsRange) → IfOk (span_ends n grade span) (λ ends. IfSome ends IsRange)
span_whole n grade None whole proper = tt
span_whole n grade (Some (fixed ends)) whole proper = proper
span_whole n grade (Some (named name)) whole proper =
    IfOk-bind IsRange (λ ends. IfSome ends IsRange) (ok_or (option_and_then (λ g. range_in g name) grade) (NoParam n)) _ (param_whole n grade name whole) (λ range is. is)

resolved_whole : (n : ℕ) (grade : Option Grade) (label : LooseLabel Span) → IfSome grade HasRanges → IsProper version_2 label → IfOk (resolved n grade label) IsWholeLabel
resolved_whole n grade label whole proper =
    IfOk-bind (λ ends. IfSome ends IsRange) IsWholeLabel (span_ends n grade label.ends) _ (span_whole n grade label.ends whole (proper_span label proper))
    (λ ends are. record { shift = proper.loose.shift; range = range_whole ends are })

-- what is read of a label is whole
label_whole : (labels : Labels) → AreWholeLabels labels → (n : ℕ) (text : List ℕ) → IfOk (label_in labels n text) IsWholeLabel
label_whole plain whole n text =
    told_whole IsWholeLabel n (judged_label (λ ends. Some ends) (label_of ends_of text)) (plain_whole (judged_label (λ ends. Some ends) (label_of ends_of text)) (judged_is_proper version_1 ends_of ends_invert text))
  where
    plain_whole : (label : Result (LooseLabel Ends) LabelFault) → IfOk label (IsProper version_1) → IfOk label IsWholeLabel
    plain_whole (Err fault) proper = tt
    plain_whole (Ok label) proper = record { shift = proper.loose.shift; range = range_whole label.ends (proper_range label proper) }
label_whole (graded grade) whole n text =
    IfOk-bind (IsProper version_2) IsWholeLabel (at_edge n (judged_label fixed_ends (label_of span_of text))) _
    (told_whole (IsProper version_2) n (judged_label fixed_ends (label_of span_of text)) (judged_is_proper version_2 span_of spans_invert text)) (λ label proper. resolved_whole n grade label whole proper)

-- ---- edges

-- a link is between the marks that were found
link_to_whole : (n marks : ℕ) (label : LooseLabel Ends) (a b : Option ℕ) (from to : ℕ) → IsWholeLabel label → IfSome a (λ k. k < marks) → IfSome b (λ k. k < marks)
    → IfOk (link_to n label a b from to) (λ link. IfSome link (IsWholeLink marks))
link_to_whole n marks label None b from to whole in_a in_b = tt
link_to_whole n marks label (Some a) None from to whole in_a in_b = tt
link_to_whole n marks label (Some a) (Some b) from to whole in_a in_b =
    record { from = in_a; to = in_b; shift = whole.shift; range = whole.range }

-- the number of a mark is below the number of marks
number_within : (marks : List Mark) (name : ℕ) → IfSome (number_of marks name) (λ k. k < length marks)
number_within marks name = position_within (λ mark. mark.name == name) marks

-- an edge with a label is between marks that are there
labelled_whole : (marks : List Mark) (n from to : ℕ) (label : Result (LooseLabel Ends) SheetFault) → IfOk label IsWholeLabel
    → IfOk (labelled marks n from to label) (λ link. IfSome link (IsWholeLink (length marks)))
labelled_whole marks n from to (Err fault) whole = tt
labelled_whole marks n from to (Ok label) whole =
    link_to_whole n (length marks) label (number_of marks from) (number_of marks to) from to whole (number_within marks from) (number_within marks to)

-- what an edge says is between marks that are there
seen_link_whole : (labels : Labels) → AreWholeLabels labels → (marks : List Mark) (n : ℕ) (seen : EdgeSeen) → IfOk (seen_link labels marks n seen) (λ link. IfSome link (IsWholeLink (length marks)))
seen_link_whole labels whole marks n comment = tt
seen_link_whole labels whole marks n malformed = tt
seen_link_whole labels whole marks n (timing from to label) = labelled_whole marks n from to (label_in labels n label) (label_whole labels whole n label)

-- what the text of an edge says is between marks that are there
link_of_whole : (labels : Labels) → AreWholeLabels labels → (marks : List Mark) (n : ℕ) (text : List ℕ) → IfOk (link_of labels marks n text) (λ link. IfSome link (IsWholeLink (length marks)))
unfolding link_of
link_of_whole labels whole marks n text = seen_link_whole labels whole marks n (edge_of text)

-- ---- how many causes

-- each link joins at most as many links as a rule may have causes
abbrev pub AreFew : List Link → Type 0
AreFew links = (o : Link) → length (filter (joins o) links) ≤ MAX_CAUSES

few_joined : (done : List Link) (link o : Link) (joined : Bool) → joins o link ≡ joined → AreFew done → is_full done link ≡ false → length (filter (joins o) done) + length (cond joined (link ∷ []) []) ≤ MAX_CAUSES
few_joined done link o true is few room =
    let same : filter (joins o) done ≡ filter (joins link) done = filter-same (joins o) (joins link) done (λ m. joins-same o link m is) in
    let less = leb-false MAX_CAUSES (length (filter (joins link) done)) room in
    omega (arith, ap length same)
few_joined done link o false is few room = omega (arith, few o)

pub few_push : (done : List Link) (link : Link) → AreFew done → is_full done link ≡ false → AreFew (done ++ link ∷ [])
few_push done link few room o =
    let both : filter (joins o) (done ++ link ∷ []) ≡ filter (joins o) done ++ cond (joins o link) (link ∷ []) [] = filter-append (joins o) done (link ∷ []) in
    rw both (omega (arith, length-append (filter (joins o) done) (cond (joins o link) (link ∷ []) []), few_joined done link o (joins o link) refl few room))

-- links between marks that are there; each link joins few of them
pub record AreWhole (marks : ℕ) (links : List Link) : Type 0 where
  pub all : All (IsWholeLink marks) links
  pub few : AreFew links

pub AreWhole-none : (marks : ℕ) → AreWhole marks []
AreWhole-none marks = record { all = All-nil (IsWholeLink marks); few = λ o. omega arith }

-- both still hold with one link more
pub with_link_whole : (marks n : ℕ) (done : List Link) (link : Option Link) → AreWhole marks done → IfSome link (IsWholeLink marks) → IfOk (with_link n done link) (AreWhole marks)
with_link_whole marks n done None whole h = whole
with_link_whole marks n done (Some link) whole h =
    cond_both (is_full done link) (Err (TooManyCauses n)) (Ok (done ++ link ∷ [])) (λ r. IfOk r (AreWhole marks)) (λ _. tt)
    (λ room. record { all = All-push (IsWholeLink marks) done link whole.all h; few = few_push done link whole.few room })

with_edge_whole : (labels : Labels) → AreWholeLabels labels → (marks : List Mark) (n : ℕ) (done : List Link) (text : List ℕ) → AreWhole (length marks) done → IfOk (with_edge labels marks n done text) (AreWhole (length marks))
with_edge_whole labels are marks n done text whole =
    IfOk-bind (λ link. IfSome link (IsWholeLink (length marks))) (AreWhole (length marks)) (link_of labels marks n text) _ (link_of_whole labels are marks n text)
    (λ link h. with_link_whole (length marks) n done link whole h)

-- the links of all edges are between marks that are there
links_of_whole : (labels : Labels) → AreWholeLabels labels → (marks : List Mark) (edges : List (List ℕ)) → IfOk (links_of labels marks edges) (AreWhole (length marks))
links_of_whole labels are marks edges = IfOk-walk (AreWhole (length marks)) (with_edge labels marks) (with_edge_whole labels are marks) 0 [] edges (AreWhole-none (length marks))

-- a cause among links joins at least one: itself
some_joined : (before rest : List Link) (link : Link) → is_cause link.label.kind ≡ true → 1 ≤ length (filter (joins link) (before ++ link ∷ rest))
some_joined before rest link cause =
    let both : filter (joins link) (before ++ link ∷ rest) ≡ filter (joins link) before ++ cond (joins link link) (link ∷ filter (joins link) rest) (filter (joins link) rest) = filter-append (joins link) before (link ∷ rest) in
    rw (both, joins-itself link cause) (omega (arith, length-append (filter (joins link) before) (link ∷ filter (joins link) rest)))

-- ---- rules and rows of links

-- a link as a cause is whole
source_whole : (marks : ℕ) (link : Link) → IsWholeLink marks link → IsWholeSource marks (source_of link)
source_whole marks link h = record { mark = h.from; shift = h.shift; range = h.range }

-- the rule of a group is whole
group_causes : (marks : ℕ) (links : List Link) (link : Link) → All (IsWholeLink marks) links → All (IsWholeSource marks) (map source_of (filter (joins link) links))
group_causes marks links link all =
    All-map (IsWholeSource marks) source_of (filter (joins link) links) (λ k d within. source_whole marks _ (All-filter (joins link) (IsWholeLink marks) links all k d within))

group_count : (before rest : List Link) (link : Link) → is_cause link.label.kind ≡ true → AreFew (before ++ link ∷ rest)
    → (1 ≤ length (map source_of (filter (joins link) (before ++ link ∷ rest)))) × (length (map source_of (filter (joins link) (before ++ link ∷ rest))) ≤ MAX_CAUSES)
group_count before rest link cause few =
    let count = length-map (filter (joins link) (before ++ link ∷ rest)) source_of in
    (omega (arith, count, some_joined before rest link cause), omega (arith, count, few link))

-- a rule that a link opens is whole
rule_opened_whole : (marks : ℕ) (before rest : List Link) (link : Link) (kind : Kind) → link.label.kind ≡ kind → AreWhole marks (before ++ link ∷ rest) → IsWholeLink marks link
    → IfSome (rule_opened (before ++ link ∷ rest) before link kind) (IsWholeRule marks)
rule_opened_whole marks before rest link Lin is whole h = record {
  target = h.to;
  causes = All-cons (IsWholeSource marks) (source_of link) [] (source_whole marks link h) (All-nil (IsWholeSource marks));
  count = refl;
}
rule_opened_whole marks before rest link Late is whole h =
    let cause : is_cause link.label.kind ≡ true = rw is refl in
    let rule : IsWholeRule marks (group_rule rules.Late (before ++ link ∷ rest) link) =
    record { target = h.to; causes = group_causes marks (before ++ link ∷ rest) link whole.all; count = group_count before rest link cause whole.few } in
    cond_both (list_any (joins link) before) None (Some (group_rule rules.Late (before ++ link ∷ rest) link)) (λ o. IfSome o (IsWholeRule marks)) (λ _. tt) (λ _. rule)
rule_opened_whole marks before rest link Early is whole h =
    let cause : is_cause link.label.kind ≡ true = rw is refl in
    let rule : IsWholeRule marks (group_rule rules.Early (before ++ link ∷ rest) link) =
    record { target = h.to; causes = group_causes marks (before ++ link ∷ rest) link whole.all; count = group_count before rest link cause whole.few } in
    cond_both (list_any (joins link) before) None (Some (group_rule rules.Early (before ++ link ∷ rest) link)) (λ o. IfSome o (IsWholeRule marks)) (λ _. tt) (λ _. rule)
rule_opened_whole marks before rest link Req is whole h = tt
rule_opened_whole marks before rest link Ask is whole h = tt

pub more_hold : {X : Type 0} (P : X → Type 0) (o : Option X) (xs : List X) → IfSome o P → All P xs → All P (cons_option o xs)
more_hold P None xs p all = all
more_hold P (Some x) xs p all = All-cons P x xs p all

-- the rules of the links from one on are whole
rules_whole_from : (marks : ℕ) (links before rest : List Link) (n : ℕ) → links ≡ before ++ rest → length before ≡ n → AreWhole marks links → All (IsWholeLink marks) rest
    → All (IsWholeRule marks) (filter_map (λ at. rule_opened links (take at.0 links) at.1 at.1.label.kind) (enumerate_from n rest))
rules_whole_from marks links before [] n is long whole here = All-nil (IsWholeRule marks)
rules_whole_from marks links before (link ∷ rest) n is long whole here =
    let front : take n links ≡ before = rw is (take_at before (link ∷ rest) n long) in
    let opened : IfSome (rule_opened (before ++ link ∷ rest) before link link.label.kind) (IsWholeRule marks) =
    rule_opened_whole marks before rest link link.label.kind refl (rw is at whole) (All-head (IsWholeLink marks) link rest here) in
    let opened' : IfSome (rule_opened links (take n links) link link.label.kind) (IsWholeRule marks) = rw (front, is) opened in
    more_hold (IsWholeRule marks) (rule_opened links (take n links) link link.label.kind) _ opened'
    (rules_whole_from marks links (before ++ link ∷ []) rest (n + 1) (is ∙ sym (append_assoc before (link ∷ []) rest)) (length_push before link ∙ ap (λ k. k + 1) long) whole (All-tail (IsWholeLink marks) link rest here))

-- the rules of links are whole
pub link_rules_whole : (marks : ℕ) (links : List Link) → AreWhole marks links → All (IsWholeRule marks) (link_rules links)
link_rules_whole marks links whole = rules_whole_from marks links [] links 0 refl refl whole whole.all

-- a row of a link is between marks that are there
row_by_whole : (marks : ℕ) (link : Link) (kind : Kind) → IsWholeLink marks link → IfSome (row_by link kind) (IsWholeRow marks)
row_by_whole marks link Lin h = tt
row_by_whole marks link Late h = tt
row_by_whole marks link Early h = tt
row_by_whole marks link Req h = record { from = h.from; to = h.to; shift = h.shift; kind = h.range }
row_by_whole marks link Ask h = record { from = h.from; to = h.to; shift = h.shift; kind = tt }

-- the rows of links are between marks that are there
pub link_rows_whole : (marks : ℕ) (links : List Link) → All (IsWholeLink marks) links → All (IsWholeRow marks) (link_rows links)
link_rows_whole marks links all =
    All-filter_map (IsWholeLink marks) (IsWholeRow marks) (λ link. row_by link link.label.kind) (λ link h. row_by_whole marks link link.label.kind h) links all

-- ---- the order on the lanes

-- each number of a range is below its end
range_below : (a n : ℕ) → All (λ k. k < a + n) (range_with_len a n)
range_below a n k d within =
    let in_range : k < n = omega (arith, length-range_with_len a n) in
    rw get_or-range_with_len (omega arith)

-- the order of two marks that are there is whole
follows_rule_whole : (marks : ℕ) (origin : Origin) (from to shift : ℕ) → from < marks → to < marks → shift ≤ 1 → IsWholeRule marks (follows_rule origin from to shift)
follows_rule_whole marks origin from to shift in_from in_to near = record {
  target = in_to;
  causes = All-cons (IsWholeSource marks) _ [] (record { mark = in_from; shift = omega arith; range = ((omega (arith, ints), omega (arith, ints)), tt, tt) }) (All-nil (IsWholeSource marks));
  count = refl;
}

-- the order of each mark of a row and the next is whole
next_rules_whole : (marks : ℕ) (origin : Origin) (first n : ℕ) → first + n < marks → All (IsWholeRule marks) (map (λ k. follows_rule origin k (k + 1) 0) (range_with_len first n))
next_rules_whole marks origin first n h =
    All-map (IsWholeRule marks) (λ k. follows_rule origin k (k + 1) 0) (range_with_len first n)
    (λ k d within. let below = range_below first n k d within in follows_rule_whole marks origin _ _ 0 (omega arith) (omega arith) (omega arith))

-- the order of the marks of a row is whole
order_of_whole : (marks : ℕ) (origin : Origin) (first count : ℕ) → first + count ≤ marks → All (IsWholeRule marks) (order_of origin first count)
order_of_whole marks origin first count h =
    cond_both (count == 0) [] _ (All (IsWholeRule marks)) (λ _. All-nil (IsWholeRule marks))
    (λ some. let not_none : count ≢ 0 = eqb-false count 0 some in
    All-push (IsWholeRule marks) _ _ (next_rules_whole marks origin first (count - 1) (omega arith)) (follows_rule_whole marks origin _ _ 1 (omega arith) (omega arith) (omega arith)))

-- the marks of the lane are there
abbrev IsNumberedWithin : ℕ → NumberedLane → Type 0
IsNumberedWithin marks l = l.first + l.count ≤ marks

-- the marks of the lanes from one on are there, if all marks before them and on them are
numbered_within : (marks number first : ℕ) (lanes : List LaneText) → first + length (flat_map lane_marks (enumerate_from number lanes)) ≤ marks
    → All (IsNumberedWithin marks) (numbered_from number first lanes)
numbered_within marks number first [] h = All-nil (IsNumberedWithin marks)
numbered_within marks number first (lane ∷ lanes) h =
    let both : length (lane_marks (number, lane) ++ flat_map lane_marks (enumerate_from (number + 1) lanes))
    ≡ length (lane_marks (number, lane)) + length (flat_map lane_marks (enumerate_from (number + 1) lanes)) = length-append _ _ in
    All-cons (IsNumberedWithin marks) _ _ (omega arith) (numbered_within marks (number + 1) (first + length (lane_marks (number, lane))) lanes (omega arith))

-- the order on a lane is whole
lane_order_whole : (marks : ℕ) (l : NumberedLane) (name wave : Option (List ℕ)) → IsNumberedWithin marks l → All (IsWholeRule marks) (order_named l name wave)
lane_order_whole marks l None wave h = All-nil (IsWholeRule marks)
lane_order_whole marks l (Some name) None h = All-nil (IsWholeRule marks)
lane_order_whole marks l (Some name) (Some wave) h = order_of_whole marks (Lane l.number) l.first l.count h

-- the order on all lanes is whole
order_rules_whole : (lanes : List LaneText) → All (IsWholeRule (length (marks_of lanes))) (order_rules lanes)
order_rules_whole lanes =
    let marks : ℕ = length (marks_of lanes) in
    All-flat_map (IsNumberedWithin marks) (IsWholeRule marks) lane_order (λ l h. lane_order_whole marks l l.lane.name l.lane.wave h)
    (numbered lanes) (numbered_within marks 0 0 lanes (omega arith))

-- ---- the sheet

-- a pin has marks, and they are there
abbrev IsWholePin : ℕ → Pin → Type 0
IsWholePin marks pin = (1 ≤ pin.count) × (pin.first + pin.count ≤ marks)

pin_within : (marks : ℕ) (l : NumberedLane) (name : Option (List ℕ)) → IsNumberedWithin marks l → IfSome (pin_named l name) (IsWholePin marks)
pin_within marks l None h = tt
pin_within marks l (Some name) h =
    cond_both (l.count == 0) None _ (λ o. IfSome o (IsWholePin marks)) (λ _. tt) (λ some. let not_none : l.count ≢ 0 = eqb-false l.count 0 some in (omega arith, h))

pins_within : (lanes : List LaneText) → All (IsWholePin (length (marks_of lanes))) (pins_of lanes)
pins_within lanes =
    let marks : ℕ = length (marks_of lanes) in
    All-filter_map (IsNumberedWithin marks) (IsWholePin marks) pin_of (λ l h. pin_within marks l l.lane.name h) (numbered lanes) (numbered_within marks 0 0 lanes (omega arith))

read_pins_whole : (lanes : List LaneText) → IfOk (read_pins lanes) (λ pins. pins ≡ pins_of lanes)
unfolding read_pins
read_pins_whole lanes = IfOk-unless (λ pins. pins ≡ pins_of lanes) (first_repeated bytes_eq (λ pin. pin.name) [] (pins_of lanes)) (λ pin. DoublePin pin.lane) (pins_of lanes) (λ _. refl)

-- few marks with whole links are a whole sheet
contents_whole : (lanes : List LaneText) (edges near : List (List ℕ)) (marks : List Mark) (pins : List Pin) (links : List Link) → IsMarksOf lanes marks → pins ≡ pins_of lanes → AreWhole (length marks) links
    → IsWhole (record { marks = marks; pins = pins; rules = order_rules lanes ++ link_rules links; rows = link_rows links; edges = edges; near = near })
contents_whole lanes edges near marks pins links read are whole = record {
  marks = read.few;
  pins = rw (are, read.whole) (pins_within lanes);
  rules = All-append (IsWholeRule (length marks)) (order_rules lanes) (link_rules links) (rw read.whole (order_rules_whole lanes)) (link_rules_whole (length marks) links whole);
  rows = link_rows_whole (length marks) links whole.all;
}

-- the sheet of a drawing is whole
sheet_of_whole : (labels : Labels) → AreWholeLabels labels → (drawing : DiagramView) → IfOk (sheet_of labels drawing) IsWhole
unfolding sheet_of
sheet_of_whole labels are drawing =
    IfOk-bind (IsMarksOf drawing.lanes) IsWhole (read_marks drawing.lanes) _ (read_marks_whole drawing.lanes)
    (λ marks read. IfOk-bind (λ pins. pins ≡ pins_of drawing.lanes) IsWhole (read_pins drawing.lanes) _ (read_pins_whole drawing.lanes)
    (λ pins named. IfOk-bind (AreWhole (length marks)) IsWhole (links_of labels marks drawing.edges) _ (links_of_whole labels are marks drawing.edges)
    (λ links whole. contents_whole drawing.lanes drawing.edges drawing.near marks pins links read named whole)))

-- every sheet that is read is whole
pub sheet_whole : (labels : Labels) → AreWholeLabels labels → (drawing : DiagramView) (sheet : SheetView) → sheet_of labels drawing ≡ Ok sheet → IsWhole sheet
sheet_whole labels are drawing sheet is = IfOk-at_ok IsWhole is (sheet_of_whole labels are drawing)

-- if each grade gives ranges, the grade with a name gives ranges
pub grade_named_whole : (grades : List Grade) (name : Option (List ℕ)) → AreRanges grades → IfOk (grade_named grades name) (λ grade. IfSome grade HasRanges)
grade_named_whole grades None whole = tt
grade_named_whole grades (Some name) whole = found (grade_called grades name) (grade_called_whole grades name whole)
  where
    found : (grade : Option Grade) → IfSome grade HasRanges → IfOk (ok_or (option_map (λ g. Some g) grade) NoGrade) (λ g. IfSome g HasRanges)
    found None is = tt
    found (Some grade) is = is

-- every sheet that is read at a grade, or at none, is whole
sheet_at_whole : (grades : List Grade) (name : Option (List ℕ)) (drawing : DiagramView) → AreRanges grades → IfOk (sheet_at grades name drawing) IsWhole
unfolding sheet_at
sheet_at_whole grades name drawing whole =
    IfOk-bind (λ grade. IfSome grade HasRanges) IsWhole (grade_named grades name) _ (grade_named_whole grades name whole) (λ grade is. sheet_of_whole (graded grade) is drawing)

pub sheet_by_whole : (grades : Option (List Grade)) (name : Option (List ℕ)) (drawing : DiagramView) → IfSome grades AreRanges → IfOk (sheet_by grades name drawing) IsWhole
sheet_by_whole None name drawing whole = sheet_of_whole plain tt drawing
sheet_by_whole (Some grades) name drawing whole = sheet_at_whole grades name drawing whole
