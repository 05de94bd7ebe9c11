-- Lists and texts that are gathered piece by piece: what was gathered stands before what is left.
use Rattle.std.proofs.Common.{◌≡◌, ◌+◌, ◌<◌, ℕ, true, false, cond, if◌then◌else◌, List, [], ◌∷◌, ◌++◌, length, take, drop, get_or, Option, Some, None, slice_get, unwrap_or, refl, sym, ap, subst, ◌∙◌, append_assoc}
use Rattle.std.specs.List.{list_any}
use Rattle.std.specs.Option.{option_and_then, option_map_or}
use Rattle.std.proofs.lemmas.Option.{get_or_from_slice_get, slice_get-get_or, slice_get_within}
use Rattle.itv_base.proofs.Lists.{drop-read, take_get}
use Rattle.itv_base.specs.Names.{Name}
use Rattle.origin.specs.declared.origin.Origin.{Origin}
use Rattle.event_graph.specs.Network.{Constraint, IsConstraint, IsNet, Net, cause_at}
use Rattle.event_graph.specs.declared.cause.Cause.{Cause}
use Rattle.drawn_networks.specs.Drawn.{Drawn, name_of, nameless}
use Rattle.line_words.specs.Words.{is_word}
use Rattle.measured_times.specs.Runs.{MeasuredRun}
use Rattle.job_measure.specs.Headings.{rule_heading}
use Rattle.job_measure.specs.Step.{causes_at}
use Rattle.job_measure.specs.Lines.{Headed, RunLine, headed, rule_line, rule_lines}
use Rattle.job_measure.specs.Text.{unseen_count, unseen_line, unseen_text}

-- an element more
pub goes_on : {A : Type 0} (front rest others total : List A) (x : A) → front ++ rest ≡ total → rest ≡ x ∷ others → (front ++ x ∷ []) ++ others ≡ total
goes_on front rest others total x so_far is = append_assoc front (x ∷ []) others ∙ (ap (λ r. front ++ r) (sym is) ∙ so_far)

-- a piece more
pub goes_on_by : {A : Type 0} (front piece rest others total : List A) → front ++ rest ≡ total → rest ≡ piece ++ others → (front ++ piece) ++ others ≡ total
goes_on_by front piece rest others total so_far is = append_assoc front piece others ∙ (ap (λ r. front ++ r) (sym is) ∙ so_far)

-- an element that is there
pub read_at : {A : Type 0} (xs : List A) (k : ℕ) (x : A) → k < length xs → x ≡ get_or xs k x → slice_get xs k ≡ Some x
read_at xs k x h is = slice_get-get_or xs k x h ∙ ap (λ y. Some y) (sym is)

-- ---- constraints

cause_by : (o : Option Constraint) (k : ℕ) (cause : Cause) → option_and_then (λ (c : Constraint). slice_get c.causes k) o ≡ Some cause
    → slice_get (option_map_or (λ (c : Constraint). c.causes) o []) k ≡ Some cause
cause_by None k cause h = absurd (cc h)
cause_by (Some c) k cause h = h

-- a cause more
pub cause_more : (net : Net) (number k : ℕ) (cause : Cause) (old new : List Cause) → cause_at net number k ≡ Some cause → old ≡ take k (causes_at net number) → new ≡ old ++ cause ∷ []
    → new ≡ take (k + 1) (causes_at net number)
cause_more net number k cause old new at so_far grows =
    grows ∙ (ap (λ r. r ++ cause ∷ []) so_far ∙ sym (take_get (causes_at net number) k cause (cause_by (slice_get net.constraints number) k cause at)))

pub headed_more : (drawn : Drawn) (constraints : List Constraint) (origins : List (List Origin)) (k : ℕ) (c : Constraint) (drew : List Origin) → slice_get constraints k ≡ Some c
    → slice_get origins k ≡ Some drew → headed drawn (drop k constraints) (drop k origins)
    ≡ record { heading = rule_heading drawn c drew; constraint = c } ∷ headed drawn (drop (k + 1) constraints) (drop (k + 1) origins)
headed_more drawn constraints origins k c drew at drawn_by = rw (drop-read constraints k c at, drop-read origins k drew drawn_by) refl

-- the constraint of a network that is equal to another one
pub constraint_at : (net own : Net) (k : ℕ) (c : Constraint) → own ≡ net → IsNet own → slice_get own.constraints k ≡ Some c → IsConstraint net.events c
constraint_at net own k c same whole at =
    let within : k < length own.constraints = slice_get_within own.constraints k c at in
    let is : get_or own.constraints k c ≡ c = get_or_from_slice_get own.constraints k c c at in
    subst (λ (n : Net). IsConstraint n.events c) same (subst (IsConstraint own.events) is (whole.constraints k c within))

pub headed_at : (drawn : Drawn) (own : Net) (k : ℕ) (c : Constraint) (drew : List Origin) (heading : List ℕ) → own ≡ drawn.net → slice_get own.constraints k ≡ Some c
    → slice_get drawn.origins k ≡ Some drew → heading ≡ rule_heading drawn c drew → headed drawn (drop k drawn.net.constraints) (drop k drawn.origins)
    ≡ record { heading = heading; constraint = c } ∷ headed drawn (drop (k + 1) drawn.net.constraints) (drop (k + 1) drawn.origins)
headed_at drawn own k c drew heading same at drawn_by is =
    let here : slice_get drawn.net.constraints k ≡ Some c = subst (λ (n : Net). slice_get n.constraints k ≡ Some c) same at in
    headed_more drawn drawn.net.constraints drawn.origins k c drew here drawn_by
    ∙ ap (λ h. record { heading = h; constraint = c } ∷ headed drawn (drop (k + 1) drawn.net.constraints) (drop (k + 1) drawn.origins)) (sym is)

-- ---- lines

module _ (within : ℕ) (runs : List MeasuredRun) (all : List Headed) (k : ℕ) (h : Headed) (at : slice_get all k ≡ Some h) where
  pub rules_more : rule_lines within runs all (take k all) (drop k all)
      ≡ (if list_any (λ (b : Headed). is_word b.heading h.heading) (take k all) then [] else rule_line within runs all h ∷ []) ++ rule_lines within runs all (take (k + 1) all) (drop (k + 1) all)
  rules_more = rw (drop-read all k h at, take_get all k h at) refl

  pub rule_known : (old : List RunLine) → list_any (λ (b : Headed). is_word b.heading h.heading) (take k all) ≡ true
      → old ++ rule_lines within runs all (take (k + 1) all) (drop (k + 1) all) ≡ old ++ rule_lines within runs all (take k all) (drop k all)
  rule_known old is =
      ap (λ r. old ++ r) (sym (rules_more ∙ ap (λ b. cond b [] (rule_line within runs all h ∷ []) ++ rule_lines within runs all (take (k + 1) all) (drop (k + 1) all)) is))

  pub rule_new : (old new : List RunLine) → list_any (λ (b : Headed). is_word b.heading h.heading) (take k all) ≡ false → new ≡ old ++ rule_line within runs all h ∷ []
      → new ++ rule_lines within runs all (take (k + 1) all) (drop (k + 1) all) ≡ old ++ rule_lines within runs all (take k all) (drop k all)
  rule_new old new is grows =
      ap (λ r. r ++ rule_lines within runs all (take (k + 1) all) (drop (k + 1) all)) grows
      ∙ goes_on old (rule_lines within runs all (take k all) (drop k all)) (rule_lines within runs all (take (k + 1) all) (drop (k + 1) all)) _ (rule_line within runs all h) refl
      (rules_more ∙ ap (λ b. cond b [] (rule_line within runs all h ∷ []) ++ rule_lines within runs all (take (k + 1) all) (drop (k + 1) all)) is)

-- ---- events

pub unseen_more : (drawn : Drawn) (runs : List MeasuredRun) (k : ℕ) → k < length drawn.names
    → unseen_text runs k (drop k drawn.names) ≡ unseen_line (name_of drawn (record { 0 = k })) (unseen_count runs k) ++ unseen_text runs (k + 1) (drop (k + 1) drawn.names)
unseen_more drawn runs k h =
    let at : slice_get drawn.names k ≡ Some (get_or drawn.names k nameless) = slice_get-get_or drawn.names k nameless h in
    let name : name_of drawn (record { 0 = k }) ≡ get_or drawn.names k nameless = ap (λ o. unwrap_or o nameless) at in
    ap (unseen_text runs k) (drop-read drawn.names k (get_or drawn.names k nameless) at)
    ∙ ap (λ n. unseen_line n (unseen_count runs k) ++ unseen_text runs (k + 1) (drop (k + 1) drawn.names)) (sym name)

pub unseen_goes : (drawn : Drawn) (runs : List MeasuredRun) (k count : ℕ) (name : Name) (old new total : List ℕ) → k < length drawn.names
    → old ++ unseen_text runs k (drop k drawn.names) ≡ total → name ≡ name_of drawn (record { 0 = k }) → count ≡ unseen_count runs k → new ≡ old ++ unseen_line name count
    → new ++ unseen_text runs (k + 1) (drop (k + 1) drawn.names) ≡ total
unseen_goes drawn runs k count name old new total h so_far named counted grows =
    let piece : unseen_line name count ≡ unseen_line (name_of drawn (record { 0 = k })) (unseen_count runs k) = ap (λ n. unseen_line n count) named ∙ ap (unseen_line (name_of drawn (record { 0 = k }))) counted in
    ap (λ t. t ++ unseen_text runs (k + 1) (drop (k + 1) drawn.names)) (grows ∙ ap (λ p. old ++ p) piece)
    ∙ goes_on_by old (unseen_line (name_of drawn (record { 0 = k })) (unseen_count runs k)) (unseen_text runs k (drop k drawn.names)) (unseen_text runs (k + 1) (drop (k + 1) drawn.names)) total
    so_far (unseen_more drawn runs k h)
