-- The names of events as labels, part by part and cycle by cycle.
use Rattle.std.proofs.Common.{◌≡◌, ℕ, zero, suc, ◌+◌, ◌*◌, ◌<◌, ◌≤◌, List, [], ◌∷◌, ◌++◌, length, map, All, refl, ap, sym, ◌∙◌, add-zero, append-nil, append_assoc, length-append, arith}
use Rattle.std.specs.Prelude.{slice_get, unwrap_or}
use Rattle.std.proofs.Math.Nat.{suc-mul}
use Rattle.std.proofs.Math.Seq.{get_or-append_seam}
use Rattle.std.proofs.lemmas.List.{length-map, length_push, map-append}
use Rattle.std.proofs.lemmas.List.Elements.{All-append, All-map, All-nil}
use Rattle.std.proofs.lemmas.Option.{unwrap_or-slice_get}
use Rattle.sheet.specs.declared.mark.Mark.{Mark}
use Rattle.sheet.specs.SheetContents.{SheetView}
use Rattle.compose.specs.Numbers.{mark_count}
use Rattle.compose.proofs.WholeDesigns.{mark_count_cons}
use Rattle.drawn_networks.specs.declared.event_label.EventLabel.{EventLabel}
use Rattle.unroll.specs.Cycles.{in_cycles}
use Rattle.unroll.specs.Drawn.{names_in}
use Rattle.unroll.specs.Step.Labels.{label_of, labels_from}
use Rattle.drawn_networks.specs.Kept.{name_by}

-- one more part
pub labels_push : (cycle part : ℕ) (sheets : List SheetView) (sheet : SheetView)
    → labels_from cycle part (sheets ++ sheet ∷ []) ≡ labels_from cycle part sheets ++ map (label_of (part + length sheets) cycle) sheet.marks
labels_push cycle part [] sheet = append-nil (map (label_of part cycle) sheet.marks) ∙ ap (λ n. map (label_of n cycle) sheet.marks) (sym (add-zero part))
labels_push cycle part (s ∷ sheets) sheet =
    let number : (part + 1) + length sheets ≡ part + length (s ∷ sheets) = omega arith in
    ap (λ rest. map (label_of part cycle) s.marks ++ rest)
    (labels_push cycle (part + 1) sheets sheet ∙ ap (λ n. labels_from cycle (part + 1) sheets ++ map (label_of n cycle) sheet.marks) number)
    ∙ sym (append_assoc (map (label_of part cycle) s.marks) (labels_from cycle (part + 1) sheets) (map (label_of (part + length (s ∷ sheets)) cycle) sheet.marks))

-- the labels that are kept, with the labels of one more part
pub labels_kept : (cycle part : ℕ) (sheets : List SheetView) (sheet : SheetView) (old items new : List EventLabel) (list : List Mark) → length sheets ≡ part → items ≡ old ++ labels_from cycle 0 sheets
    → list ≡ sheet.marks → new ≡ items ++ map (label_of part cycle) list → new ≡ old ++ labels_from cycle 0 (sheets ++ sheet ∷ [])
labels_kept cycle part sheets sheet old items new list is stood same more =
    let number : part ≡ 0 + length sheets = omega (arith, is) in
    rw (more, stood, same, number, labels_push cycle 0 sheets sheet) (append_assoc old (labels_from cycle 0 sheets) (map (label_of (0 + length sheets) cycle) sheet.marks))

-- ---- the names of labels

-- the labels of a part give the names of its events
marks_named : (all : List (List ℕ)) (part cycle : ℕ) (text : List ℕ) (marks : List Mark) → unwrap_or (slice_get all part) [] ≡ text
    → map (name_by all) (map (label_of part cycle) marks) ≡ map (λ mark. record { part = text; mark = mark.name; cycle = cycle }) marks
marks_named all part cycle text [] is = refl
marks_named all part cycle text (mark ∷ marks) is = rw (is, marks_named all part cycle text marks is) refl

front_get : (front : List (List ℕ)) (text : List ℕ) (rest : List (List ℕ)) → unwrap_or (slice_get (front ++ text ∷ rest) (length front)) [] ≡ text
front_get front text rest = unwrap_or-slice_get (front ++ text ∷ rest) (length front) [] ∙ get_or-append_seam front text rest []

-- the labels of parts after others give the names of their events
labels_named : (front parts : List (List ℕ)) (cycle : ℕ) (sheets : List SheetView) → length parts ≡ length sheets
    → map (name_by (front ++ parts)) (labels_from cycle (length front) sheets) ≡ names_in parts sheets cycle
labels_named front [] cycle [] same = refl
labels_named front [] cycle (sheet ∷ sheets) same = absurd (omega (arith, same))
labels_named front (text ∷ parts) cycle [] same = absurd (omega (arith, same))
labels_named front (text ∷ parts) cycle (sheet ∷ sheets) same =
    let all : List (List ℕ) = front ++ text ∷ parts in
    let behind = labels_named (front ++ text ∷ []) parts cycle sheets (omega (arith, same)) in
    let rest : map (name_by all) (labels_from cycle (length front + 1) sheets) ≡ names_in parts sheets cycle =
    rw (append_assoc front (text ∷ []) parts, length_push front text) at behind in
    map-append (name_by all) (map (label_of (length front) cycle) sheet.marks) (labels_from cycle (length front + 1) sheets)
    ∙ rw (marks_named all (length front) cycle text sheet.marks (front_get front text parts), rest) refl

map_in_cycles : {X Y : Type 0} (f : X → Y) (each : ℕ → List X) (other : ℕ → List Y) (n : ℕ) → ((cycle : ℕ) → map f (each cycle) ≡ other cycle) → map f (in_cycles each n) ≡ in_cycles other n
map_in_cycles f each other zero same = refl
map_in_cycles f each other (suc n) same = map-append f (in_cycles each n) (each n) ∙ rw (map_in_cycles f each other n same, same n) refl

-- the labels of all cycles give the names of all events
pub labels_tell : (parts : List (List ℕ)) (sheets : List SheetView) (n : ℕ) → length parts ≡ length sheets
    → map (name_by parts) (in_cycles (λ cycle. labels_from cycle 0 sheets) n) ≡ in_cycles (names_in parts sheets) n
labels_tell parts sheets n same = map_in_cycles (name_by parts) (λ cycle. labels_from cycle 0 sheets) (names_in parts sheets) n (λ cycle. labels_named [] parts cycle sheets same)

-- ---- how many labels there are

labels_count : (cycle part : ℕ) (sheets : List SheetView) → length (labels_from cycle part sheets) ≡ mark_count sheets
labels_count cycle part [] = refl
labels_count cycle part (sheet ∷ sheets) =
    omega (arith, length-append (map (label_of part cycle) sheet.marks) (labels_from cycle (part + 1) sheets), length-map sheet.marks (label_of part cycle), labels_count cycle (part + 1) sheets, mark_count_cons sheet sheets)

pub length-in_cycles : {X : Type 0} (each : ℕ → List X) (count n : ℕ) → ((cycle : ℕ) → length (each cycle) ≡ count) → length (in_cycles each n) ≡ n * count
length-in_cycles each count zero same = omega arith
length-in_cycles each count (suc n) same = omega (arith, length-append (in_cycles each n) (each n), length-in_cycles each count n same, same n, suc-mul n count)

-- there is one label for each event
pub labels_length : (sheets : List SheetView) (n : ℕ) → length (in_cycles (λ cycle. labels_from cycle 0 sheets) n) ≡ n * mark_count sheets
labels_length sheets n = length-in_cycles (λ cycle. labels_from cycle 0 sheets) (mark_count sheets) n (λ cycle. labels_count cycle 0 sheets)

labels_within : (cycle part parts : ℕ) (sheets : List SheetView) → part + length sheets ≤ parts → All (λ (label : EventLabel). label.part < parts) (labels_from cycle part sheets)
labels_within cycle part parts [] within = All-nil (λ (label : EventLabel). label.part < parts)
labels_within cycle part parts (sheet ∷ sheets) within =
    All-append (λ (label : EventLabel). label.part < parts) (map (label_of part cycle) sheet.marks) (labels_from cycle (part + 1) sheets)
    (All-map (λ (label : EventLabel). label.part < parts) (label_of part cycle) sheet.marks (λ _ _ _. omega (arith, within))) (labels_within cycle (part + 1) parts sheets (omega (arith, within)))

pub All-in_cycles : {X : Type 0} (P : X → Type 0) (each : ℕ → List X) (n : ℕ) → ((cycle : ℕ) → cycle < n → All P (each cycle)) → All P (in_cycles each n)
All-in_cycles P each zero all = All-nil P
All-in_cycles P each (suc n) all = All-append P (in_cycles each n) (each n) (All-in_cycles P each n (λ cycle less. all cycle (omega (arith, less)))) (all n (omega arith))

-- the part of each label is there
pub labels_inside : (parts : List (List ℕ)) (sheets : List SheetView) (n : ℕ) → length parts ≡ length sheets
    → All (λ (label : EventLabel). label.part < length parts) (in_cycles (λ cycle. labels_from cycle 0 sheets) n)
labels_inside parts sheets n same =
    All-in_cycles (λ (label : EventLabel). label.part < length parts) (λ cycle. labels_from cycle 0 sheets) n (λ cycle _. labels_within cycle 0 (length parts) sheets (omega (arith, same)))
