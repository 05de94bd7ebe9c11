-- The walk over the edges.
use Rattle.std.proofs.Common.{◌≡◌, ℕ, suc, ◌+◌, ◌<◌, Bool, true, false, cond, List, [], ◌∷◌, ◌++◌, length, drop, Option, Some, None, Ok, refl, ap, ◌∙◌, arith}
use Rattle.std.specs.Prelude.{slice_get, option_to_list, IfSome}
use Rattle.std.specs.List.{cons_option, position_from}
use Rattle.std.proofs.lemmas.List.{length-append, length-map}
use Rattle.std.proofs.lemmas.List.Elements.{filter_map-append}
use Rattle.sheet.specs.declared.fault.SheetFault.{SheetFault}
use Rattle.sheet.specs.declared.mark.Mark.{Mark}
use Rattle.sheet.specs.declared.row.SheetRow.{SheetRow}
use Rattle.itv_base.specs.Reading.{◌>>=◌, walk, IsReadingFault}
use Rattle.sheet.specs.Fault.{is_memory, sheet_fault}
use Rattle.sheet.specs.declared.groups.GroupFault.{GroupFault}
use Rattle.sheet.specs.declared.groups.GroupFault.TheVariants.{TooManyCauses, NoMemory}
use Rattle.sheet.specs.Groups.{openers, group_link, Places, ArePlaces, RepresentsRules, IsFullFault}
use Rattle.sheet.specs.Links.{Labels, Link, is_full, joins, link_of, with_link, with_edge, links_of, link_rules, link_rows, row_by}
use Rattle.sheet.specs.Rule.{RuleView}
use Rattle.itv_base.proofs.Faults.{IsReadingFault-on}
use Rattle.sheet.proofs.Openers.{rule_for, link_rules-map}
use Rattle.itv_base.proofs.Lists.{drop-read}

-- What was read of the edges before number n: their links, the rules of these after others, the table of their groups, and their rows.
pub record EdgesRead (labels : Labels) (marks : List Mark) (edges : List (List ℕ)) (front : List RuleView) (n : ℕ) (all : List RuleView) (places : Places) (rows : List SheetRow) : Type 0 where
  pub links : List Link
  pub stands : RepresentsRules front links all places
  pub asked : rows ≡ link_rows links
  pub left : walk (with_edge labels marks) n links (drop n edges) ≡ links_of labels marks edges

-- ---- places

within_by : (b : Bool) (n m : ℕ) (more : Option ℕ) → IfSome more (λ place. place < n + 1 + m) → IfSome (cond b (Some n) more) (λ place. place < n + suc m)
within_by true n m more h = omega arith
within_by false n m None h = tt
within_by false n m (Some place) h = omega (arith, h)

place_within : (p : Link → Bool) (n : ℕ) (xs : List Link) → IfSome (position_from p n xs) (λ place. place < n + length xs)
place_within p n [] = tt
place_within p n (x ∷ xs) = within_by (p x) n (length xs) (position_from p (n + 1) xs) (place_within p (n + 1) xs)

pub ArePlaces-from_StandsFor : (front : List RuleView) (links : List Link) (all : List RuleView) (places : Places) → RepresentsRules front links all places → ArePlaces places (length all)
ArePlaces-from_StandsFor front links all places stands =
    let long : length all ≡ length front + length (openers links) = ap length stands.stand ∙ length-append front (link_rules links) ∙ ap (λ k. length front + k) (ap length (link_rules-map links) ∙ length-map (openers links) (rule_for links)) in
    λ g. rw (stands.found g, long) (place_within (joins (group_link g)) (length front) (openers links))

-- ---- one edge

-- the fault of a full group
joined_full : (links : List Link) (n : ℕ) (link : Link) (fault : GroupFault) → IsFullFault n (is_full links link) fault → IsReadingFault is_memory (with_link n links (Some link)) (sheet_fault fault)
joined_full links n link (TooManyCauses m) full = rw (full.1, full.0) refl
joined_full links n link NoMemory full = tt

module _ (labels : Labels) (marks : List Mark) (edges : List (List ℕ)) (links : List Link) (n : ℕ) (text : List ℕ) (read : slice_get edges n ≡ Some text) where
  edge_step : walk (with_edge labels marks) n links (drop n edges) ≡ (with_edge labels marks n links text >>= (λ more. walk (with_edge labels marks) (n + 1) more (drop (n + 1) edges)))
  edge_step = rw (drop-read edges n text read)

  pub edge-fault : (fault : SheetFault) → IsReadingFault is_memory (link_of labels marks n text) fault → IsReadingFault is_memory (walk (with_edge labels marks) n links (drop n edges)) fault
  edge-fault fault h = IsReadingFault-on is_memory (link_of labels marks n text) (walk (with_edge labels marks) n links (drop n edges)) fault (λ d is. edge_step ∙ rw is) h

  pub edge-comment : link_of labels marks n text ≡ Ok None → walk (with_edge labels marks) n links (drop n edges) ≡ walk (with_edge labels marks) (n + 1) links (drop (n + 1) edges)
  edge-comment is = edge_step ∙ rw is

  pub edge-link : (link : Link) → link_of labels marks n text ≡ Ok (Some link) → is_full links link ≡ false
      → walk (with_edge labels marks) n links (drop n edges) ≡ walk (with_edge labels marks) (n + 1) (links ++ link ∷ []) (drop (n + 1) edges)
  edge-link link is room = edge_step ∙ rw (is, room)

  pub edge-full : (link : Link) (fault : GroupFault) → link_of labels marks n text ≡ Ok (Some link) → IsFullFault n (is_full links link) fault
      → IsReadingFault is_memory (walk (with_edge labels marks) n links (drop n edges)) (sheet_fault fault)
  edge-full link fault is full =
      IsReadingFault-on is_memory (with_link n links (Some link)) (walk (with_edge labels marks) n links (drop n edges)) (sheet_fault fault) (λ d refused. edge_step ∙ rw (is, refused)) (joined_full links n link fault full)

-- ---- rows

pub cons_one : {X : Type 0} (o : Option X) → cons_option o [] ≡ option_to_list o
cons_one None = refl
cons_one (Some x) = refl

pub link_rows-push : (links : List Link) (link : Link) → link_rows (links ++ link ∷ []) ≡ link_rows links ++ option_to_list (row_by link link.label.kind)
link_rows-push links link = filter_map-append (λ l. row_by l l.label.kind) links (link ∷ []) ∙ ap (λ more. link_rows links ++ more) (cons_one (row_by link link.label.kind))
