-- What the calls of this crate do one after another, on the way to a sheet.
use Rattle.std.specs.Prelude.{◌≡◌, ℕ, Bool, true, false, ⊤, All, List, [], ◌∷◌, ◌++◌, length, map, nat_eq, nat_le, IfSome, Result, Ok, Err}
use Rattle.std.specs.List.{IsDistinct}
use Rattle.std.specs.Option.{option_copied}
use Rattle.std.specs.Str.{bytes_eq}
use Rattle.wavejson.specs.declared.lane_text.LaneText.{LaneText}
use Rattle.itv_base.specs.Characters.{is_mark}
use Rattle.itv_base.specs.declared.limits.TheConstants.{MAX_CAUSES}
use Rattle.grades.specs.Grades.{HasRanges}
use Rattle.label_grammar.specs.declared.label.Kind.{Kind}
use Rattle.label_grammar.specs.declared.label.Kind.TheVariants.{Lin, Late, Early, Req, Ask}
use Rattle.label_grammar.specs.Label.{label_view}
use Rattle.sheet.specs.declared.edges.EdgeRules.{EdgeRules}
use Rattle.sheet.specs.declared.fault.SheetFault.{SheetFault}
use Rattle.sheet.specs.declared.groups.GroupFault.{GroupFault}
use Rattle.sheet.specs.declared.rule.RuleCause.{RuleCause}
use Rattle.sheet.specs.declared.fault.SheetFault.TheVariants.{DoubleMark, DoublePin}
use Rattle.sheet.specs.declared.lanes.LaneSpan.{LaneSpan}
use Rattle.sheet.specs.declared.labels.Labels as code_labels
use Rattle.sheet.specs.declared.labels.Labels.TheVariants.{Plain, Graded}
use Rattle.sheet.specs.declared.link.Link as code
use Rattle.sheet.specs.declared.mark.Mark.{Mark}
use Rattle.sheet.specs.declared.pin.Pin.{Pin}
use Rattle.itv_base.specs.Reading.{◌>>=◌, unless}
use Rattle.sheet.specs.Lanes.{NumberedLane, numbered, first_repeated}
use Rattle.sheet.specs.Groups.{IsFullFault}
use Rattle.sheet.specs.Links.{Labels, plain, graded, Link, link_rules, link_rows}
use Rattle.sheet.specs.Rule.{RuleView}

-- elements with more after them, or the fault of the first element whose key an earlier element has
abbrev pub with_distinct : {X K : Type 0} → (K → K → Bool) → (X → K) → (X → SheetFault) → List X → List X → Result (List X) SheetFault
with_distinct same key fault done more = unless (first_repeated same key (map key done) more) fault (done ++ more)

abbrev pub with_marks : List Mark → List Mark → Result (List Mark) SheetFault
with_marks = with_distinct nat_eq (λ mark. mark.name) (λ mark. DoubleMark mark.name)

-- no mark occurs twice, and each is a character that may be a mark
pub record AreMarks (marks : List Mark) : Type 0 where
  pub distinct : IsDistinct nat_eq (map (λ mark. mark.name) marks)
  pub named : All (λ mark. is_mark mark.name ≡ true) marks

abbrev pub with_pins : List Pin → List Pin → Result (List Pin) SheetFault
with_pins = with_distinct bytes_eq (λ pin. pin.name) (λ pin. DoublePin pin.lane)

-- the marks of a lane
abbrev pub span_of : NumberedLane → LaneSpan
span_of l = record { first = l.first; count = l.count }

-- the marks of each lane, by the lane's number
abbrev pub spans_of : List LaneText → List LaneSpan
spans_of lanes = map span_of (numbered lanes)

-- a lane by its number and the span of its marks
abbrev pub numbered_by : ℕ → LaneText → LaneSpan → NumberedLane
numbered_by number lane span = record { number = number; lane = lane; first = span.first; count = span.count }

-- a link without where its texts lie in memory
abbrev pub link_view : code.Link → Link
link_view l = record { from = l.from; to = l.to; origin = l.origin; label = label_view l.label }

-- what the edges give, after other rules
abbrev pub rules_and_rows : List RuleView → Result (List Link) SheetFault → Result EdgeRules SheetFault
rules_and_rows front read = do
  links ← read
  Ok (record { rules = front ++ link_rules links; rows = link_rows links })

-- how the labels of a sheet are read, without where the grade lies in memory
abbrev pub labels_view : code_labels.Labels → Labels
labels_view Plain = plain
labels_view (Graded grade) = graded (option_copied grade)

-- latest and earliest edges are causes; causes of one kind, one target and one tag belong to one constraint
abbrev pub is_cause : Kind → Bool
is_cause Lin = false
is_cause Late = true
is_cause Early = true
is_cause Req = false
is_cause Ask = false

-- the answer to one more cause of a rule, the cause of edge n, and the rule after it
abbrev pub AddsCause : RuleView → ℕ → RuleCause → Result ⊤ GroupFault → RuleView → Type 0
AddsCause old n cause (Ok x) new = (nat_le MAX_CAUSES (length old.causes) ≡ false) × (new ≡ record old { causes = old.causes ++ cause ∷ [] })
AddsCause old n cause (Err fault) new = IsFullFault n (nat_le MAX_CAUSES (length old.causes)) fault

-- if there is a grade, its parameters are ranges
abbrev pub AreWholeLabels : Labels → Type 0
AreWholeLabels plain = Unit {0}
AreWholeLabels (graded grade) = IfSome grade HasRanges
