-- The links as far as they are read, as a list of rules and a table of groups.
use Rattle.std.specs.Prelude.{◌≡◌, ℕ, Bool, true, false, cond, not, ⊤, List, [], ◌∷◌, ◌++◌, length, Option, None, IfSome, Result, Ok, Err, ◌<◌, nat_le}
use Rattle.std.specs.List.{list_any, position_from}
use Rattle.std.specs.Option.{option_copied}
use Rattle.std.specs.HashMap.{get, HashMap}
use Rattle.std.specs.declared.hash.FoldHasher.{FoldHasher}
use Rattle.std.specs.declared.hash.BuildHasherDefault.{BuildHasherDefault}
use Rattle.itv_base.specs.declared.limits.TheConstants.{MAX_CAUSES}
use Rattle.itv_base.specs.declared.names.RuleKind.{RuleKind}
use Rattle.itv_base.specs.declared.names.RuleKind.TheVariants as rules
use Rattle.label_grammar.specs.declared.label.Kind.{Kind}
use Rattle.label_grammar.specs.declared.label.Kind.TheVariants.{Lin, Late, Early, Req, Ask}
use Rattle.origin.specs.declared.origin.Origin.TheVariants.{Edge}
use Rattle.sheet.specs.declared.groups.Group.{Group}
use Rattle.sheet.specs.declared.groups.GroupFault.{GroupFault}
use Rattle.sheet.specs.declared.groups.GroupFault.TheVariants.{TooManyCauses, NoMemory}
use Rattle.sheet.specs.declared.rule.RuleCause.{RuleCause}
use Rattle.sheet.specs.contracts.groups.GroupPartialEq.TheImpl as group_eq
use Rattle.sheet.specs.Links.{Link, is_full, joins, link_rules}
use Rattle.sheet.specs.Rule.{RuleView}

-- ---- the links that open a rule

abbrev pub opens_by : List Link → Link → Kind → Bool
opens_by before link Lin = true
opens_by before link Late = not (list_any (joins link) before)
opens_by before link Early = not (list_any (joins link) before)
opens_by before link Req = false
opens_by before link Ask = false

-- a link opens a rule after the links before it
abbrev pub opens : List Link → Link → Bool
opens before link = opens_by before link link.label.kind

abbrev pub openers_from : List Link → List Link → List Link
openers_from before [] = []
openers_from before (link ∷ links) = cond (opens before link) (link ∷ []) [] ++ openers_from (before ++ link ∷ []) links

-- the links that open a rule
abbrev pub openers : List Link → List Link
openers links = openers_from [] links

-- ---- the table

abbrev pub same_group : Group → Group → Bool
same_group = (group_eq.ghosts).eq

-- where the rules of groups stand
abbrev pub Places : Type 0
Places = HashMap Group ℕ (BuildHasherDefault FoldHasher)

abbrev pub place_of : Places → Group → Option ℕ
place_of places group = get same_group places group

abbrev pub kind_of : RuleKind → Kind
kind_of rules.Lin = Lin
kind_of rules.Late = Late
kind_of rules.Early = Early

-- a link that stands for a group: it has the group's kind, target and tag
abbrev pub group_link : Group → Link
group_link group = record {
  from = 0;
  to = group.target;
  origin = Edge 0;
  label = record { kind = kind_of group.kind; shift = 0; tag = option_copied group.tag; ends = None; note = None };
}

-- each place is less than the number of rules
abbrev pub ArePlaces : Places → ℕ → Type 0
ArePlaces places count = (group : Group) → IfSome (place_of places group) (λ place. place < count)

-- The rules of the links stand after other rules. The table has, for each group, the place of the rule that the group opened.
pub record RepresentsRules (front : List RuleView) (links : List Link) (all : List RuleView) (places : Places) : Type 0 where
  pub stand : all ≡ front ++ link_rules links
  pub found : (group : Group) → place_of places group ≡ position_from (joins (group_link group)) (length front) (openers links)

-- The fault of edge n is that its group is full. Memory may run out at any time.
abbrev pub IsFullFault : ℕ → Bool → GroupFault → Type 0
IsFullFault n full (TooManyCauses m) = (m ≡ n) × (full ≡ true)
IsFullFault n full NoMemory = Unit {0}

-- the answer to one more link, the link of edge n, and the rules and the table after it
abbrev pub AddsLink : List RuleView → List Link → ℕ → Link → Result ⊤ GroupFault → List RuleView → Places → Type 0
AddsLink front links n link (Ok x) all places = (is_full links link ≡ false) × RepresentsRules front (links ++ link ∷ []) all places
AddsLink front links n link (Err fault) all places = IsFullFault n (is_full links link) fault
