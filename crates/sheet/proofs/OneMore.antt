-- The rules of links with one link more: they have one rule more, or one rule has one cause more, or they stay the same.
use Rattle.std.proofs.Common.{◌≡◌, ℕ, Bool, true, false, cond, List, [], ◌∷◌, ◌++◌, length, map, filter, Some, refl, ap, sym, ◌∙◌, ◌⊎◌, inl, inr}
use Rattle.std.specs.Prelude.{nat_le}
use Rattle.std.specs.List.{list_any, position_from}
use Rattle.std.proofs.lemmas.List.{append-nil, length-map, map-append}
use Rattle.std.proofs.lemmas.List.Elements.{filter-append}
use Rattle.itv_base.specs.declared.limits.TheConstants.{MAX_CAUSES}
use Rattle.label_grammar.specs.declared.label.Kind.{Kind}
use Rattle.label_grammar.specs.declared.label.Kind.TheVariants.{Lin, Late, Early, Req, Ask}
use Rattle.itv_base.specs.declared.names.RuleKind.{RuleKind}
use Rattle.itv_base.specs.declared.names.RuleKind.TheVariants as rules
use Rattle.sheet.specs.Rule.{RuleView}
use Rattle.sheet.specs.Links.{Link, is_full, joins, source_of, group_rule, link_rules}
use Rattle.sheet.specs.Step.{is_cause}
use Rattle.sheet.specs.Groups.{opens_by, opens, openers, kind_of}
use Rattle.sheet.proofs.Joins.{joins-same, joins-itself, joins-cause, joins-comm, joins-no_cause}
use Rattle.sheet.proofs.Openers.{linear_rule, rule_by, rule_for, link_rules-map, openers-push, any-openers, at_most-openers}
use Rattle.sheet.proofs.Lists.{list_any-none, filter-none, filter-same, map_none}
use Rattle.sheet.proofs.OneChange.{ChangesAt, changes-at}

-- a link that joins none is not full
pub not_full : (links : List Link) (link : Link) → list_any (joins link) links ≡ false → is_full links link ≡ false
not_full links link none = rw (filter-none (joins link) links none)

-- ---- the rule of an opener, with one link more

more_causes : (links : List Link) (link o : Link) → map source_of (filter (joins o) (links ++ link ∷ [])) ≡ map source_of (filter (joins o) links) ++ map source_of (cond (joins o link) (link ∷ []) [])
more_causes links link o = rw (filter-append, map-append)

apart_by : (links : List Link) (link o : Link) (kind : Kind) → joins o link ≡ false → rule_by (links ++ link ∷ []) o kind ≡ rule_by links o kind
apart_by links link o Lin apart = refl
apart_by links link o Late apart = ap (λ causes. record { kind = rules.Late; target = o.to; causes = causes }) (more_causes links link o ∙ rw (apart, append-nil))
apart_by links link o Early apart = ap (λ causes. record { kind = rules.Early; target = o.to; causes = causes }) (more_causes links link o ∙ rw (apart, append-nil))
apart_by links link o Req apart = refl
apart_by links link o Ask apart = refl

pub rule_for-apart : (links : List Link) (link o : Link) → joins o link ≡ false → rule_for (links ++ link ∷ []) o ≡ rule_for links o
rule_for-apart links link o apart = apart_by links link o o.label.kind apart

-- a rule with one cause more
abbrev pub with_cause : RuleView → Link → RuleView
with_cause rule link = record rule { causes = rule.causes ++ source_of link ∷ [] }

joined_by : (links : List Link) (link o : Link) (kind : Kind) → is_cause kind ≡ true → joins o link ≡ true → rule_by (links ++ link ∷ []) o kind ≡ with_cause (rule_by links o kind) link
joined_by links link o Lin cause joined = cc
joined_by links link o Late cause joined = ap (λ causes. record { kind = rules.Late; target = o.to; causes = causes }) (more_causes links link o ∙ rw joined)
joined_by links link o Early cause joined = ap (λ causes. record { kind = rules.Early; target = o.to; causes = causes }) (more_causes links link o ∙ rw joined)
joined_by links link o Req cause joined = cc
joined_by links link o Ask cause joined = cc

pub rule_for-joined : (links : List Link) (link o : Link) → joins o link ≡ true → rule_for (links ++ link ∷ []) o ≡ with_cause (rule_for links o) link
rule_for-joined links link o joined = joined_by links link o o.label.kind (joins-cause o link joined) joined

count_by_kind : (links : List Link) (o : Link) (kind : Kind) → is_cause kind ≡ true → length (rule_by links o kind).causes ≡ length (filter (joins o) links)
count_by_kind links o Lin cause = cc
count_by_kind links o Late cause = length-map (filter (joins o) links) source_of
count_by_kind links o Early cause = length-map (filter (joins o) links) source_of
count_by_kind links o Req cause = cc
count_by_kind links o Ask cause = cc

-- the rule of an opener is full if and only if a link that joins the opener is full
pub full-rule : (links : List Link) (link o : Link) → joins link o ≡ true → nat_le MAX_CAUSES (length (rule_for links o).causes) ≡ is_full links link
full-rule links link o joined =
    ap (nat_le MAX_CAUSES) (count_by_kind links o o.label.kind (joins-cause o link (sym (joins-comm link o) ∙ joined))
    ∙ ap length (filter-same (joins o) (joins link) links (λ m. sym (joins-same link o m joined))))

-- ---- the rules

map_opening : (b : Bool) (f : Link → RuleView) (link : Link) → map f (cond b (link ∷ []) []) ≡ cond b (f link ∷ []) []
map_opening true f link = refl
map_opening false f link = refl

rules_pushed : (links : List Link) (link : Link)
    → link_rules (links ++ link ∷ []) ≡ map (rule_for (links ++ link ∷ [])) (openers links) ++ cond (opens links link) (rule_for (links ++ link ∷ []) link ∷ []) []
rules_pushed links link =
    link_rules-map (links ++ link ∷ []) ∙ ap (map (rule_for (links ++ link ∷ []))) (openers-push links link)
    ∙ map-append (rule_for (links ++ link ∷ [])) (openers links) (cond (opens links link) (link ∷ []) [])
    ∙ ap (λ more. map (rule_for (links ++ link ∷ [])) (openers links) ++ more) (map_opening (opens links link) (rule_for (links ++ link ∷ [])) link)

same_if_apart : (links : List Link) (link o : Link) → joins link o ≡ false → rule_for (links ++ link ∷ []) o ≡ rule_for links o
same_if_apart links link o apart = rule_for-apart links link o (sym (joins-comm link o) ∙ apart)

-- a link that joins none of the links before it leaves their rules unchanged, and may open a rule
rules_new : (links : List Link) (link : Link) → list_any (joins link) links ≡ false
    → link_rules (links ++ link ∷ []) ≡ link_rules links ++ cond (opens links link) (rule_for (links ++ link ∷ []) link ∷ []) []
rules_new links link none =
    rules_pushed links link
    ∙ ap (λ front. front ++ cond (opens links link) (rule_for (links ++ link ∷ []) link ∷ []) [])
    (map_none (rule_for links) (rule_for (links ++ link ∷ [])) (joins link) (openers links) (same_if_apart links link) (any-openers link links ∙ none)
    ∙ sym (link_rules-map links))

no_cause_joins_none : (links : List Link) (link : Link) → is_cause link.label.kind ≡ false → list_any (joins link) links ≡ false
no_cause_joins_none links link no_cause = list_any-none (joins link) links (λ m. joins-no_cause link m no_cause)

-- a linear link opens a rule of its own
pub rules-linear : (links : List Link) (link : Link) → link.label.kind ≡ Lin → link_rules (links ++ link ∷ []) ≡ link_rules links ++ linear_rule link ∷ []
rules-linear links link is =
    rules_new links link (no_cause_joins_none links link (rw is refl)) ∙ rw is

-- a row changes no rule
pub rules-row : (links : List Link) (link : Link) → (link.label.kind ≡ Req) ⊎ (link.label.kind ≡ Ask) → link_rules (links ++ link ∷ []) ≡ link_rules links
rules-row links link (inl is) = rules_new links link (no_cause_joins_none links link (rw is refl)) ∙ rw is (append-nil _)
rules-row links link (inr is) = rules_new links link (no_cause_joins_none links link (rw is refl)) ∙ rw is (append-nil _)

alone_group : (links : List Link) (link : Link) (kind : RuleKind) → filter (joins link) (links ++ link ∷ []) ≡ link ∷ []
    → group_rule kind (links ++ link ∷ []) link ≡ record { kind = kind; target = link.to; causes = source_of link ∷ [] }
alone_group links link kind alone = ap (λ causes. record { kind = kind; target = link.to; causes = map source_of causes }) alone

opened_first : (links : List Link) (link : Link) (kind : RuleKind) → is_cause (kind_of kind) ≡ true → list_any (joins link) links ≡ false → filter (joins link) (links ++ link ∷ []) ≡ link ∷ []
    → cond (opens_by links link (kind_of kind)) (rule_by (links ++ link ∷ []) link (kind_of kind) ∷ []) [] ≡ record { kind = kind; target = link.to; causes = source_of link ∷ [] } ∷ []
opened_first links link rules.Lin cause none alone = cc
opened_first links link rules.Late cause none alone = rw none (ap (λ rule. rule ∷ []) (alone_group links link rules.Late alone))
opened_first links link rules.Early cause none alone = rw none (ap (λ rule. rule ∷ []) (alone_group links link rules.Early alone))

-- the first link of a group opens a rule with this one cause
pub rules-first : (links : List Link) (link : Link) (kind : RuleKind) → kind_of kind ≡ link.label.kind → is_cause link.label.kind ≡ true → list_any (joins link) links ≡ false
    → link_rules (links ++ link ∷ []) ≡ link_rules links ++ record { kind = kind; target = link.to; causes = source_of link ∷ [] } ∷ []
rules-first links link kind is cause none =
    let alone : filter (joins link) (links ++ link ∷ []) ≡ link ∷ [] = rw (filter-append, filter-none (joins link) links none, joins-itself link cause) in
    rules_new links link none
    ∙ ap (λ k. link_rules links ++ cond (opens_by links link k) (rule_by (links ++ link ∷ []) link k ∷ []) []) (sym is)
    ∙ ap (λ more. link_rules links ++ more) (opened_first links link kind (rw is cause) none alone)

-- a link that opens no rule
pub rules-unopened : (links : List Link) (link : Link) → opens links link ≡ false → link_rules (links ++ link ∷ []) ≡ map (rule_for (links ++ link ∷ [])) (openers links)
rules-unopened links link none = rules_pushed links link ∙ rw none (append-nil _)

-- a link that joins one of the links before becomes one more cause at the place of its opener
pub rules-joined : (links : List Link) (link : Link) (front : List RuleView) (place : ℕ) → is_cause link.label.kind ≡ true → position_from (joins link) (length front) (openers links) ≡ Some place
    → ChangesAt (rule_for links) (rule_for (links ++ link ∷ [])) (joins link) front (openers links) place
rules-joined links link front place cause at =
    changes-at (rule_for links) (rule_for (links ++ link ∷ [])) (joins link) front (openers links) place at (at_most-openers link links) (same_if_apart links link)
