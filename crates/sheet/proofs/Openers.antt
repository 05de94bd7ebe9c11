-- The links that open a rule, and the rules as a map over them.
use Rattle.std.proofs.Common.{◌≡◌, ℕ, ◌+◌, Bool, true, false, ◌||◌, ◌&&◌, cond, not, if◌then◌else◌, List, [], ◌∷◌, ◌++◌, length, map, take, Some, None, refl, ap, sym, ◌∙◌}
use Rattle.std.specs.Prelude.{filter_map}
use Rattle.std.specs.List.{list_any, cons_option, enumerate_from}
use Rattle.std.proofs.Math.Bool.{or-false, or-true, and-false}
use Rattle.std.proofs.lemmas.List.{append-nil, append_assoc, length_push, take_at}
use Rattle.std.proofs.lemmas.List.Folds.{list_any-append}
use Rattle.label_grammar.specs.declared.label.Kind.{Kind}
use Rattle.label_grammar.specs.declared.label.Kind.TheVariants.{Lin, Late, Early, Req, Ask}
use Rattle.itv_base.specs.declared.names.RuleKind.TheVariants as rules
use Rattle.sheet.specs.Rule.{RuleView}
use Rattle.sheet.specs.Groups.{opens_by, opens, openers_from, openers}
use Rattle.sheet.specs.Links.{Link, joins, source_of, group_rule, rule_opened, link_rules}
use Rattle.sheet.specs.Step.{is_cause}
use Rattle.sheet.proofs.Joins.{joins-same, joins-cause, joins-comm}
use Rattle.sheet.proofs.Lists.{list_any-same, AtMostOne}

abbrev pub linear_rule : Link → RuleView
linear_rule link = record { kind = rules.Lin; target = link.to; causes = source_of link ∷ [] }

-- the rule that a link opens among all links
abbrev pub rule_by : List Link → Link → Kind → RuleView
rule_by links link Lin = linear_rule link
rule_by links link Late = group_rule rules.Late links link
rule_by links link Early = group_rule rules.Early links link
rule_by links link Req = linear_rule link
rule_by links link Ask = linear_rule link

abbrev pub rule_for : List Link → Link → RuleView
rule_for links link = rule_by links link link.label.kind

-- ---- the rules are a map over the openers

opened_if : (b : Bool) (rule : RuleView) (more : List RuleView) → cons_option (if b then None else Some rule) more ≡ cond (not b) (rule ∷ []) [] ++ more
opened_if true rule more = refl
opened_if false rule more = refl

pub map_if : (b : Bool) (f : Link → RuleView) (link : Link) (more : List Link) → map f (cond b (link ∷ []) [] ++ more) ≡ cond b (f link ∷ []) [] ++ map f more
map_if true f link more = refl
map_if false f link more = refl

opened_by : (all before : List Link) (link : Link) (kind : Kind) (more : List RuleView)
    → cons_option (rule_opened all before link kind) more ≡ cond (opens_by before link kind) (rule_by all link kind ∷ []) [] ++ more
opened_by all before link Lin more = refl
opened_by all before link Late more = opened_if (list_any (joins link) before) _ more
opened_by all before link Early more = opened_if (list_any (joins link) before) _ more
opened_by all before link Req more = refl
opened_by all before link Ask more = refl

rules_from : (all links before rest : List Link) (n : ℕ) → links ≡ before ++ rest → length before ≡ n
    → filter_map (λ at. rule_opened all (take at.0 links) at.1 at.1.label.kind) (enumerate_from n rest) ≡ map (rule_for all) (openers_from before rest)
rules_from all links before [] n is long = refl
rules_from all links before (link ∷ rest) n is long =
    let front : take n links ≡ before = rw is (take_at before (link ∷ rest) n long) in
    let more = rules_from all links (before ++ link ∷ []) rest (n + 1) (is ∙ sym (append_assoc before (link ∷ []) rest)) (length_push before link ∙ ap (λ k. k + 1) long) in
    rw (front, more, opened_by all before link link.label.kind, map_if (opens before link))

pub link_rules-map : (links : List Link) → link_rules links ≡ map (rule_for links) (openers links)
link_rules-map links = rules_from links links [] links 0 refl refl

-- ---- one link more

abbrev opening : List Link → Link → List Link
opening before link = cond (opens before link) (link ∷ []) []

openers_from-push : (before rest : List Link) (link : Link) → openers_from before (rest ++ link ∷ []) ≡ openers_from before rest ++ opening (before ++ rest) link
openers_from-push before [] link = append-nil (opening before link) ∙ ap (λ b. opening b link) (sym (append-nil before))
openers_from-push before (l ∷ rest) link =
    ap (λ more. opening before l ++ more) (openers_from-push (before ++ l ∷ []) rest link)
    ∙ sym (append_assoc (opening before l) (openers_from (before ++ l ∷ []) rest) (opening ((before ++ l ∷ []) ++ rest) link))
    ∙ ap (λ b. (opening before l ++ openers_from (before ++ l ∷ []) rest) ++ opening b link) (append_assoc before (l ∷ []) rest)

pub openers-push : (links : List Link) (link : Link) → openers (links ++ link ∷ []) ≡ openers links ++ cond (opens links link) (link ∷ []) []
openers-push links link = openers_from-push [] links link

-- ---- which opener a link joins

opens_by-cause : (before : List Link) (link : Link) (kind : Kind) → is_cause kind ≡ true → opens_by before link kind ≡ not (list_any (joins link) before)
opens_by-cause before link Lin e = cc
opens_by-cause before link Late e = refl
opens_by-cause before link Early e = refl
opens_by-cause before link Req e = cc
opens_by-cause before link Ask e = cc

-- a link that another link joins opens a rule if and only if the other link joins no link before it
pub opens-joined : (link l : Link) (before : List Link) → joins link l ≡ true → opens before l ≡ not (list_any (joins link) before)
opens-joined link l before e =
    opens_by-cause before l l.label.kind (joins-cause l link (sym (joins-comm link l) ∙ e))
    ∙ ap not (list_any-same (joins l) (joins link) before (λ m. sym (joins-same link l m e)))

-- a link joins what another link opens if and only if the other link opens a rule and the link joins the other link
joined_of : (opened : Bool) (link l : Link) → list_any (joins link) (cond opened (l ∷ []) []) ≡ (opened && joins link l)
joined_of true link l = or-false (joins link l)
joined_of false link l = refl

head_none : (link l : Link) (before : List Link) (b : Bool) → joins link l ≡ b → list_any (joins link) before ≡ true → (opens before l && joins link l) ≡ false
head_none link l before true e stood = rw (opens-joined link l before e, stood)
head_none link l before false e stood = rw e (and-false (opens before l))

any_push : (link l : Link) (before : List Link) → list_any (joins link) (before ++ l ∷ []) ≡ (list_any (joins link) before || joins link l)
any_push link l before = list_any-append (joins link) before (l ∷ []) ∙ ap (λ b. list_any (joins link) before || b) (or-false (joins link l))

any_openers : (link l : Link) (before rest : List Link) → list_any (joins link) (openers_from before (l ∷ rest)) ≡ ((opens before l && joins link l) || list_any (joins link) (openers_from (before ++ l ∷ []) rest))
any_openers link l before rest =
    list_any-append (joins link) (opening before l) (openers_from (before ++ l ∷ []) rest)
    ∙ ap (λ b. b || list_any (joins link) (openers_from (before ++ l ∷ []) rest)) (joined_of (opens before l) link l)

-- if the link joins one of the links before, it joins no opener among the rest
openers_from-none : (link : Link) (before rest : List Link) → list_any (joins link) before ≡ true → list_any (joins link) (openers_from before rest) ≡ false
openers_from-none link before [] stood = refl
openers_from-none link before (l ∷ rest) stood =
    let more = openers_from-none link (before ++ l ∷ []) rest (any_push link l before ∙ ap (λ b. b || joins link l) stood) in
    any_openers link l before rest ∙ rw (head_none link l before (joins link l) refl stood) more

some_step : (link l : Link) (before rest : List Link) (b : Bool) → joins link l ≡ b → list_any (joins link) before ≡ false
    → (list_any (joins link) (before ++ l ∷ []) ≡ false → list_any (joins link) (openers_from (before ++ l ∷ []) rest) ≡ list_any (joins link) rest)
    → ((opens before l && joins link l) || list_any (joins link) (openers_from (before ++ l ∷ []) rest)) ≡ (joins link l || list_any (joins link) rest)
some_step link l before rest true e new more = rw (opens-joined link l before e, new, e)
some_step link l before rest false e new more = rw (e, and-false) (more (any_push link l before ∙ rw (new, e)))

-- otherwise it joins an opener among the rest if and only if it joins one of the rest
openers_from-some : (link : Link) (before rest : List Link) → list_any (joins link) before ≡ false → list_any (joins link) (openers_from before rest) ≡ list_any (joins link) rest
openers_from-some link before [] new = refl
openers_from-some link before (l ∷ rest) new =
    any_openers link l before rest ∙ some_step link l before rest (joins link l) refl new (openers_from-some link (before ++ l ∷ []) rest)

pub any-openers : (link : Link) (links : List Link) → list_any (joins link) (openers links) ≡ list_any (joins link) links
any-openers link links = openers_from-some link [] links refl

at_most_head : (opened : Bool) (link l : Link) (more : List Link) → (joins link l ≡ true → list_any (joins link) more ≡ false) → AtMostOne (joins link) more
    → AtMostOne (joins link) (cond opened (l ∷ []) [] ++ more)
at_most_head true link l more none rest = (none, rest)
at_most_head false link l more none rest = rest

at_most_from : (link : Link) (before rest : List Link) → AtMostOne (joins link) (openers_from before rest)
at_most_from link before [] = tt
at_most_from link before (l ∷ rest) =
    at_most_head (opens before l) link l (openers_from (before ++ l ∷ []) rest)
    (λ e. openers_from-none link (before ++ l ∷ []) rest (any_push link l before ∙ ap (λ b. list_any (joins link) before || b) e ∙ or-true (list_any (joins link) before)))
    (at_most_from link (before ++ l ∷ []) rest)

-- a link joins at most one opener
pub at_most-openers : (link : Link) (links : List Link) → AtMostOne (joins link) (openers links)
at_most-openers link links = at_most_from link [] links
