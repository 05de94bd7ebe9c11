-- The rules and rows that the edges of a drawing give.
use Rattle.std.specs.Prelude.{ℕ, ◌&&◌, ◌==◌, Bool, true, false, nat_le, if◌then◌else◌, List, [], ◌∷◌, ◌++◌, length, map, filter, take, Option, Some, None, position, unwrap_or, ok_or, option_and_then, Result, Ok, Err}
use Rattle.std.specs.List.{enumerate_from, filter_map, list_any}
use Rattle.std.specs.Str.{bytes_eq}
use Rattle.itv_base.specs.Range.{Ends}
use Rattle.itv_base.specs.declared.limits.TheConstants.{MAX_CAUSES}
use Rattle.itv_base.specs.declared.names.RuleKind.{RuleKind}
use Rattle.itv_base.specs.declared.names.RuleKind.TheVariants as rules
use Rattle.label_grammar.specs.declared.label.Kind.{Kind}
use Rattle.label_grammar.specs.declared.label.Kind.TheVariants.{Lin, Late, Early, Req, Ask}
use Rattle.label_grammar.specs.declared.label.LabelFault.{LabelFault}
use Rattle.label_grammar.specs.Label.{LooseLabel, Span, fixed, named, fixed_ends}
use Rattle.label_grammar.specs.Reading.{ends_of, span_of, label_of}
use Rattle.label_grammar.specs.Answer.{judged_label}
use Rattle.label_grammar.specs.Edge.{EdgeSeen, comment, timing, malformed, edge_of}
use Rattle.grades.specs.declared.grade.Grade.{Grade}
use Rattle.origin.specs.declared.origin.Origin.{Origin}
use Rattle.origin.specs.declared.origin.Origin.TheVariants.{Edge}
use Rattle.grades.specs.Grades.{range_in}
use Rattle.sheet.specs.declared.mark.Mark.{Mark}
use Rattle.sheet.specs.declared.rule.RuleCause.{RuleCause}
use Rattle.itv_base.specs.declared.row_kind.RowKind.TheVariants as asked
use Rattle.sheet.specs.declared.row.SheetRow.{SheetRow}
use Rattle.sheet.specs.declared.fault.SheetFault.{SheetFault}
use Rattle.sheet.specs.declared.fault.SheetFault.TheVariants.{BadEdge, Label, NoMark, NoParam, TooManyCauses}
use Rattle.itv_base.specs.Reading.{◌>>=◌, walk}
use Rattle.sheet.specs.Rule.{RuleView}

-- ---- labels

-- How the labels of a sheet are read: as in version 1, or as in version 2, where a grade, if there is one, gives the ranges of parameters.
pub data Labels : Type 0 where
  plain : Labels
  graded : Option Grade → Labels

-- a label that was read, or its fault as a fault of edge n
abbrev pub at_edge : {E : Type 0} → ℕ → Result (LooseLabel E) LabelFault → Result (LooseLabel E) SheetFault
at_edge n (Ok label) = Ok label
at_edge n (Err fault) = Err (Label n fault)

-- the ends of a span of edge n; the ends of a parameter are the range that the grade gives for it
abbrev pub span_ends : ℕ → Option Grade → Option Span → Result (Option Ends) SheetFault
span_ends n grade None = Ok None
span_ends n grade (Some (fixed ends)) = Ok (Some ends)
span_ends n grade (Some (named name)) = ok_or (option_and_then (λ g. range_in g name) grade) (NoParam n) >>= λ range. Ok (Some range)

-- the label of edge n with its ends
abbrev pub resolved : ℕ → Option Grade → LooseLabel Span → Result (LooseLabel Ends) SheetFault
resolved n grade label = do
  ends ← span_ends n grade label.ends
  Ok (record { kind = label.kind; shift = label.shift; tag = label.tag; ends = ends; note = label.note })

-- what the label of edge n says
abbrev pub label_in : Labels → ℕ → List ℕ → Result (LooseLabel Ends) SheetFault
label_in plain n text = at_edge n (judged_label (λ ends. Some ends) (label_of ends_of text))
label_in (graded grade) n text = at_edge n (judged_label fixed_ends (label_of span_of text)) >>= resolved n grade

-- ---- one edge

-- a timing edge from a mark to a mark, both by number, with what draws it and what its label says
pub record Link : Type 0 where
  pub from : ℕ
  pub to : ℕ
  pub origin : Origin
  pub label : LooseLabel Ends

-- the number of the mark with a name
abbrev pub number_of : List Mark → ℕ → Option ℕ
number_of marks name = position (λ mark. mark.name == name) marks

abbrev pub link_to : ℕ → LooseLabel Ends → Option ℕ → Option ℕ → ℕ → ℕ → Result (Option Link) SheetFault
link_to n label None to from_name to_name = Err (NoMark n from_name)
link_to n label (Some a) None from_name to_name = Err (NoMark n to_name)
link_to n label (Some a) (Some b) from_name to_name = Ok (Some (record { from = a; to = b; origin = Edge n; label = label }))

abbrev pub labelled : List Mark → ℕ → ℕ → ℕ → Result (LooseLabel Ends) SheetFault → Result (Option Link) SheetFault
labelled marks n from to (Err fault) = Err fault
labelled marks n from to (Ok label) = link_to n label (number_of marks from) (number_of marks to) from to

abbrev pub seen_link : Labels → List Mark → ℕ → EdgeSeen → Result (Option Link) SheetFault
seen_link labels marks n comment = Ok None
seen_link labels marks n malformed = Err (BadEdge n)
seen_link labels marks n (timing from to label) = labelled marks n from to (label_in labels n label)

-- what the text of edge n says: nothing where it is a comment
unfoldable pub link_of : Labels → List Mark → ℕ → List ℕ → Result (Option Link) SheetFault
link_of labels marks n text = seen_link labels marks n (edge_of text)

-- ---- groups of causes

abbrev pub same_kind : Kind → Kind → Bool
same_kind Late Late = true
same_kind Early Early = true
same_kind a b = false

abbrev pub same_tag : Option (List ℕ) → Option (List ℕ) → Bool
same_tag None None = true
same_tag (Some a) (Some b) = bytes_eq a b
same_tag a b = false

-- the two are causes of one constraint
abbrev pub joins : Link → Link → Bool
joins a b = same_kind a.label.kind b.label.kind && (a.to == b.to && same_tag a.label.tag b.label.tag)

-- the constraint of the link has as many causes as it may have
abbrev pub is_full : List Link → Link → Bool
is_full links link = nat_le MAX_CAUSES (length (filter (joins link) links))

-- ---- all edges, up to the first fault

-- the links with what edge n says after them
abbrev pub with_link : ℕ → List Link → Option Link → Result (List Link) SheetFault
with_link n done None = Ok done
with_link n done (Some link) = if is_full done link then Err (TooManyCauses n) else Ok (done ++ link ∷ [])

-- the links with the text of edge n read after them
abbrev pub with_edge : Labels → List Mark → ℕ → List Link → List ℕ → Result (List Link) SheetFault
with_edge labels marks n done text = link_of labels marks n text >>= with_link n done

-- the links of all edges
abbrev pub links_of : Labels → List Mark → List (List ℕ) → Result (List Link) SheetFault
links_of labels marks edges = walk (with_edge labels marks) 0 [] edges

-- ---- rules and rows

abbrev pub open_ends : Ends
open_ends = record { low = None; high = None }

abbrev pub source_of : Link → RuleCause
source_of link = record { mark = link.from; shift = link.label.shift; range = unwrap_or link.label.ends open_ends; origin = link.origin }

abbrev pub group_rule : RuleKind → List Link → Link → RuleView
group_rule kind links link = record { kind = kind; target = link.to; causes = map source_of (filter (joins link) links) }

-- The rule that a link opens among all links, with the links before it. A linear link opens a rule of its own. A cause opens a rule if
-- no earlier link joins it; the rule has all causes that join it, in order.
abbrev pub rule_opened : List Link → List Link → Link → Kind → Option RuleView
rule_opened links before link Lin = Some (record { kind = rules.Lin; target = link.to; causes = source_of link ∷ [] })
rule_opened links before link Late = if list_any (joins link) before then None else Some (group_rule rules.Late links link)
rule_opened links before link Early = if list_any (joins link) before then None else Some (group_rule rules.Early links link)
rule_opened links before link kind = None

abbrev pub link_rules : List Link → List RuleView
link_rules links = filter_map (λ at. rule_opened links (take at.0 links) at.1 at.1.label.kind) (enumerate_from 0 links)

abbrev pub row_by : Link → Kind → Option SheetRow
row_by link Req = Some (record { kind = asked.Req (unwrap_or link.label.ends open_ends); from = link.from; to = link.to; shift = link.label.shift; origin = link.origin })
row_by link Ask = Some (record { kind = asked.Ask; from = link.from; to = link.to; shift = link.label.shift; origin = link.origin })
row_by link kind = None

-- a row for each link that asks for a separation or demands a range of it
abbrev pub link_rows : List Link → List SheetRow
link_rows links = filter_map (λ link. row_by link link.label.kind) links
