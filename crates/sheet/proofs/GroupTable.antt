-- The table of groups, with one link more.
use Rattle.std.proofs.Common.{◌≡◌, ℕ, ◌+◌, Bool, true, false, ◌&&◌, ◌==◌, cond, not, if◌then◌else◌, List, [], ◌∷◌, ◌++◌, length, map, set, get_or, Option, Some, None, Result, Ok, Err, refl, ap, sym, ◌∙◌, ◌⊎◌, inl, inr}
use Rattle.std.specs.Prelude.{nat_le, ⊤}
use Rattle.std.specs.List.{list_any, position_from}
use Rattle.std.specs.Option.{option_copied, option_eq}
use Rattle.std.specs.Borrow.{Bor}
use Rattle.std.specs.Str.{bytes_eq}
use Rattle.std.proofs.lemmas.List.{append-nil, append_assoc, length-append, length-map}
use Rattle.itv_base.specs.declared.names.RuleKind.{RuleKind}
use Rattle.itv_base.specs.declared.names.RuleKind.TheVariants as rules
use Rattle.label_grammar.specs.declared.label.Kind.{Kind}
use Rattle.label_grammar.specs.declared.label.Kind.TheVariants.{Lin, Req, Ask}
use Rattle.sheet.specs.declared.groups.Group.{Group}
use Rattle.sheet.specs.Rule.{RuleView}
use Rattle.sheet.specs.Links.{Link, is_full, same_tag, joins, source_of, link_rules}
use Rattle.sheet.specs.Step.{is_cause, AddsCause}
use Rattle.sheet.specs.Groups.{opens, openers, kind_of, same_group, group_link, Places, place_of, RepresentsRules, AddsLink}
use Rattle.sheet.proofs.Joins.{joins-same, joins-itself, joins-comm, joins-no_cause}
use Rattle.sheet.proofs.Openers.{linear_rule, rule_for, link_rules-map, openers-push, opens-joined, any-openers}
use Rattle.sheet.proofs.OneMore.{not_full, full-rule, rules-linear, rules-row, rules-first, rules-unopened, rules-joined, rule_for-joined, with_cause}
use Rattle.sheet.specs.declared.groups.GroupFault.{GroupFault}
use Rattle.sheet.specs.declared.groups.GroupFault.TheVariants.{TooManyCauses, NoMemory}
use Rattle.itv_base.specs.declared.limits.TheConstants.{MAX_CAUSES}
use Rattle.sheet.proofs.Lists.{list_any-same, list_any-none, position_from-none, none-from_position, position_from-other, position_from-push, position_from-same}
use Rattle.sheet.proofs.OneChange.{ChangesAt}

-- ---- groups

abbrev group : RuleKind → ℕ → Option (Bor (List ℕ)) → Group
group kind target tag = record { kind = kind; target = target; tag = tag }

same_tags : (a b : Option (Bor (List ℕ))) → option_eq (λ x y. bytes_eq x.now y.now) a b ≡ same_tag (option_copied a) (option_copied b)
same_tags None None = refl
same_tags None (Some b) = refl
same_tags (Some a) None = refl
same_tags (Some a) (Some b) = refl

same_by : (k l : RuleKind) (t u : ℕ) (a b : Option (Bor (List ℕ))) → is_cause (kind_of k) ≡ true
    → same_group (group k t a) (group l u b) ≡ joins (group_link (group k t a)) (group_link (group l u b))
same_by rules.Lin l t u a b cause = cc
same_by rules.Late rules.Late t u a b cause = ap (λ tags. (t == u) && tags) (same_tags a b)
same_by rules.Late rules.Lin t u a b cause = refl
same_by rules.Late rules.Early t u a b cause = refl
same_by rules.Early rules.Early t u a b cause = ap (λ tags. (t == u) && tags) (same_tags a b)
same_by rules.Early rules.Lin t u a b cause = refl
same_by rules.Early rules.Late t u a b cause = refl

-- groups of causes are the same where their links join
pub same_group-joins : (g h : Group) → is_cause (kind_of g.kind) ≡ true → same_group g h ≡ joins (group_link g) (group_link h)
same_group-joins g h cause = same_by g.kind h.kind g.target h.target g.tag h.tag cause

-- ---- one link more

-- a first place has an element that passes
any_from_place : (b : Bool) (o : Option ℕ) (place : ℕ) → (b ≡ false → o ≡ None) → o ≡ Some place → b ≡ true
any_from_place true o place none at = refl
any_from_place false o place none at = let no : None ≡ Some place = sym (none refl) ∙ at in cc

row_no_cause : (kind : Kind) → (kind ≡ Req) ⊎ (kind ≡ Ask) → is_cause kind ≡ false
row_no_cause kind (inl is) = rw is refl
row_no_cause kind (inr is) = rw is refl

module _ (front : List RuleView) (links : List Link) (all : List RuleView) (places : Places) (n : ℕ) (link : Link) (stands : RepresentsRules front links all places) where
  other_by : (p : Link → Bool) (opened : Bool) (xs : List Link) → p link ≡ false → position_from p (length front) (xs ++ cond opened (link ∷ []) []) ≡ position_from p (length front) xs
  other_by p true xs other = position_from-other p (length front) xs link other
  other_by p false xs other = rw append-nil

  -- a link that is no cause changes no place
  found_apart : is_cause link.label.kind ≡ false → (g : Group) → place_of places g ≡ position_from (joins (group_link g)) (length front) (openers (links ++ link ∷ []))
  found_apart no_cause g =
      stands.found g
      ∙ sym (ap (position_from (joins (group_link g)) (length front)) (openers-push links link)
      ∙ other_by (joins (group_link g)) (opens links link) (openers links) (joins-comm (group_link g) link ∙ joins-no_cause link (group_link g) no_cause))

  joins_none : is_cause link.label.kind ≡ false → list_any (joins link) links ≡ false
  joins_none no_cause = list_any-none (joins link) links (λ m. joins-no_cause link m no_cause)

  pub adds-linear : (more : List RuleView) → link.label.kind ≡ Lin → more ≡ all ++ linear_rule link ∷ [] → AddsLink front links n link (Ok tt) more places
  adds-linear more is pushed =
      let no_cause : is_cause link.label.kind ≡ false = rw is refl in (
        (not_full links link (joins_none no_cause)),
        record {
          stand = rw (pushed, stands.stand, rules-linear links link is, append_assoc);
          found = found_apart no_cause;
        },
      )

  pub adds-row : (link.label.kind ≡ Req) ⊎ (link.label.kind ≡ Ask) → AddsLink front links n link (Ok tt) all places
  adds-row is =
      let no_cause : is_cause link.label.kind ≡ false = row_no_cause link.label.kind is in (
        (not_full links link (joins_none no_cause)),
        record {
          stand = rw (stands.stand, rules-row links link is);
          found = found_apart no_cause;
        },
      )

  module _ (g : Group) (kind : kind_of g.kind ≡ link.label.kind) (cause : is_cause link.label.kind ≡ true) (target : g.target ≡ link.to) (tag : option_copied g.tag ≡ link.label.tag) where
    -- the links of the group are the links that the link joins
    joins_group : (m : Link) → joins (group_link g) m ≡ joins link m
    joins_group m = rw (kind, target, tag)

    found_link : place_of places g ≡ position_from (joins link) (length front) (openers links)
    found_link = stands.found g ∙ position_from-same (joins (group_link g)) (joins link) (length front) (openers links) joins_group

    joins_new : place_of places g ≡ None → list_any (joins link) links ≡ false
    joins_new is = sym (any-openers link links) ∙ none-from_position (joins link) (length front) (openers links) (sym found_link ∙ is)

    opens_new : opens links link ≡ not (list_any (joins link) links)
    opens_new = opens-joined link link links (joins-itself link cause)

    openers_new : list_any (joins link) links ≡ false → openers (links ++ link ∷ []) ≡ openers links ++ link ∷ []
    openers_new none = openers-push links link ∙ rw (opens_new, none)

    -- where the first link of the group opens a rule, the table has the place of that rule
    found_first : (h : Group) (b : Bool) → same_group g h ≡ b → list_any (joins link) links ≡ false
        → (if b then Some (length all) else place_of places h) ≡ position_from (joins (group_link h)) (length front) (openers (links ++ link ∷ []))
    found_first h true is none =
        let together : joins (group_link g) (group_link h) ≡ true = sym (same_group-joins g h (rw kind cause)) ∙ is in
        let same : (m : Link) → joins (group_link h) m ≡ joins link m = λ m. sym (joins-same (group_link g) (group_link h) m together) ∙ joins_group m in
        let apart : list_any (joins (group_link h)) (openers links) ≡ false = list_any-same (joins (group_link h)) (joins link) (openers links) same ∙ any-openers link links ∙ none in
        let long : length all ≡ length front + length (openers links) = ap length stands.stand ∙ length-append front (link_rules links) ∙ ap (λ k. length front + k) (ap length (link_rules-map links) ∙ length-map (openers links) (rule_for links)) in
        ap Some long
        ∙ sym (position_from-push (joins (group_link h)) (length front) (openers links) link apart (same link ∙ joins-itself link cause))
        ∙ ap (position_from (joins (group_link h)) (length front)) (sym (openers_new none))
    found_first h false is none =
        let apart : joins (group_link h) link ≡ false = joins-comm (group_link h) link ∙ sym (joins_group (group_link h)) ∙ sym (same_group-joins g h (rw kind cause)) ∙ is in
        stands.found h
        ∙ sym (position_from-other (joins (group_link h)) (length front) (openers links) link apart)
        ∙ ap (position_from (joins (group_link h)) (length front)) (sym (openers_new none))

    pub adds-first : (more : List RuleView) (table : Places) → place_of places g ≡ None → more ≡ all ++ record { kind = g.kind; target = link.to; causes = source_of link ∷ [] } ∷ []
        → ((h : Group) → place_of table h ≡ (if same_group g h then Some (length all) else place_of places h)) → AddsLink front links n link (Ok tt) more table
    adds-first more table new pushed put =
        let none = joins_new new in (
          (not_full links link none),
          record {
            stand = rw (pushed, stands.stand, rules-first links link g.kind kind cause none, append_assoc);
            found = λ h. put h ∙ found_first h (same_group g h) refl none;
          },
        )

    module _ (place : ℕ) (at : place_of places g ≡ Some place) where
      change : ChangesAt (rule_for links) (rule_for (links ++ link ∷ [])) (joins link) front (openers links) place
      change = rules-joined links link front place cause (sym found_link ∙ at)

      unopened : opens links link ≡ false
      unopened =
          let stood : list_any (joins link) links ≡ true = any_from_place (list_any (joins link) links) _ place (λ none. position_from-none (joins link) (length front) (openers links) (any-openers link links ∙ none)) (sym found_link ∙ at) in
          opens_new ∙ ap not stood

      stand_map : all ≡ front ++ map (rule_for links) (openers links)
      stand_map = stands.stand ∙ ap (λ more. front ++ more) (link_rules-map links)

      full_is : (old d : RuleView) → old ≡ get_or all place d → nat_le MAX_CAUSES (length old.causes) ≡ is_full links link
      full_is old d read =
          ap (λ rule. nat_le MAX_CAUSES (length rule.causes)) (read ∙ ap (λ xs. get_or xs place d) stand_map ∙ change.stands d)
          ∙ full-rule links link change.element change.passes

      stand_after : (old new d : RuleView) → old ≡ get_or all place d → new ≡ with_cause old link → set all place new ≡ front ++ link_rules (links ++ link ∷ [])
      stand_after old new d read is =
          let opener : old ≡ rule_for links change.element = read ∙ ap (λ xs. get_or xs place d) stand_map ∙ change.stands d in
          let grown : new ≡ rule_for (links ++ link ∷ []) change.element =
          is ∙ ap (λ rule. with_cause rule link) opener ∙ sym (rule_for-joined links link change.element (joins-comm change.element link ∙ change.passes)) in
          ap (λ rule. set all place rule) grown
          ∙ ap (λ xs. set xs place (rule_for (links ++ link ∷ []) change.element)) stand_map
          ∙ sym change.after
          ∙ ap (λ more. front ++ more) (sym (rules-unopened links link unopened))

      found_after : (h : Group) → place_of places h ≡ position_from (joins (group_link h)) (length front) (openers (links ++ link ∷ []))
      found_after h = stands.found h ∙ ap (position_from (joins (group_link h)) (length front)) (sym (openers-push links link ∙ rw unopened (append-nil _)))

      pub adds-cause : (old new d : RuleView) (result : Result ⊤ GroupFault) → old ≡ get_or all place d → AddsCause old n (source_of link) result new
          → AddsLink front links n link result (set all place new) places
      adds-cause old new d (Ok x) read gave = (sym (full_is old d read) ∙ gave.0, record { stand = stand_after old new d read gave.1; found = found_after })
      adds-cause old new d (Err (TooManyCauses m)) read gave = (gave.0, sym (full_is old d read) ∙ gave.1)
      adds-cause old new d (Err NoMemory) read gave = tt
