-- Lists by event: empty at first, and then with another list for one event.
use Rattle.std.proofs.Common.{◌≡◌, ◌<◌, ℕ, inl, inr, Result, Ok, Err, List, [], length, get_or, set, replicate, sym, ◌∙◌, ap, subst, refl, arith}
use Rattle.std.specs.Global.{Vec}
use Rattle.std.specs.Result.{OnErr}
use Rattle.std.proofs.lemmas.Bool.{cases_eq, cases_lt}
use Rattle.std.proofs.lemmas.List.{get_or-map, get_or-replicate, get_or-set_other, get_or_past, length-map, length-replicate, map-set, set-get_or}
use Rattle.std.proofs.lemmas.Grind.{get_or-set_at}
use Rattle.event_graph.specs.EventLists.{at_event, lists_of}

-- at first each list is empty
pub empty_at : {T : Type 0} (events event : ℕ) → at_event {T = T} (replicate events []) event ≡ []
empty_at {T} events event = elim (cases_lt event events) [
  | inl below ↦ get_or-replicate events event [] [] below
  | inr past ↦ get_or_past (replicate events []) event [] (omega (arith, length-replicate {A = List T}))
]

-- a property that each list has at its event is kept when one event gets another list with the property
pub each_at : {T : Type 0} (P : ℕ → List T → Type 0) (lists : List (List T)) (event : ℕ) (list : List T) → event < length lists
    → ((other : ℕ) → P other (at_event lists other)) → P event list → (other : ℕ) → P other (at_event (set lists event list) other)
each_at P lists event list within each here other = elim (cases_eq other event) [
  | inl same ↦ subst (P other) (sym (get_or-set_at lists event other list [] same within)) (subst (λ (at : ℕ). P at list) (sym same) here)
  | inr apart ↦ subst (P other) (sym (get_or-set_other lists event other list [] apart)) (each other)
]

-- the event has the other list
pub set_at : {T : Type 0} (lists : List (List T)) (event : ℕ) (list : List T) → event < length lists → at_event (set lists event list) event ≡ list
set_at lists event list within = get_or-set_at lists event event list [] refl within

-- ---- the lists that are kept in vectors

list_at : {T : Type 0} (vectors : List (Vec T)) (event : ℕ) (x : Vec T) → event < length vectors → x ≡ get_or vectors event x
    → at_event (lists_of vectors) event ≡ x.items
list_at {T} vectors event x within is =
    get_or-map (λ (list : Vec T). list.items) vectors event x [] within ∙ ap (λ (list : Vec T). list.items) (sym is)

-- a vector of an event is set to one whose items are made of the old items
pub vector_set : {T : Type 0} (vectors : List (Vec T)) (lists : List (List T)) (event : ℕ) (x y : Vec T) (made : List T → List T) → lists_of vectors ≡ lists
    → event < length lists → x ≡ get_or vectors event x → y.items ≡ made x.items → lists_of (set vectors event y) ≡ set lists event (made (at_event lists event))
vector_set {T} vectors lists event x y made view within is items =
    map-set (λ (list : Vec T). list.items) vectors event y
    ∙ ap (set (lists_of vectors) event) (items ∙ ap made (sym (list_at vectors event x long is)))
    ∙ ap (λ (of : List (List T)). set of event (made (at_event of event))) view
  where
    long : event < length vectors
    long = let count : length vectors ≡ length lists = sym (length-map vectors (λ (list : Vec T). list.items)) ∙ ap (λ (of : List (List T)). length of) view in omega arith

-- a vector of an event is set to one with the same items
pub vector_kept : {T : Type 0} (vectors : List (Vec T)) (lists : List (List T)) (event : ℕ) (x y : Vec T) → lists_of vectors ≡ lists
    → event < length lists → x ≡ get_or vectors event x → y.items ≡ x.items → lists_of (set vectors event y) ≡ lists
vector_kept {T} vectors lists event x y view within is items =
    vector_set vectors lists event x y (λ (list : List T). list) view within is items ∙ set-get_or lists event []

-- what holds also holds if there is an error
pub on_err_of : {X E P : Type 0} (r : Result X E) → P → OnErr r P
on_err_of (Ok x) p = tt
on_err_of (Err e) p = p
