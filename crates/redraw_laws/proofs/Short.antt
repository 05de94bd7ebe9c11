-- The text of a drawing is far below the limit of a file.
use Rattle.std.proofs.Common.{◌≡◌, ◌+◌, ◌-◌, ◌*◌, ◌^◌, ◌<◌, ◌≤◌, ◌==◌, ◌||◌, ℕ, suc, inl, inr, ℤ, pos, negsuc, neg_ℤ, ◌-ℤ◌, ◌≤ℤ◌, Bool, true, false, if◌then◌else◌, List, [], ◌∷◌, ◌++◌, length, map, replicate, codes, Option, Some, None, ◌∙◌, refl, ap, arith, length-append, leb-true}
use Rattle.std.specs.Int.Digits.{digits_of}
use Rattle.std.proofs.lemmas.Bool.{and_parts, cases_eq}
use Rattle.std.proofs.lemmas.Int.{ints}
use Rattle.std.proofs.lemmas.Int.Digits.{length-digits_of-le}
use Rattle.std.proofs.lemmas.List.{length-map, length-replicate}
use Rattle.itv_base.specs.Names.{Name}
use Rattle.itv_base.specs.Numerals.{end_text, number_text}
use Rattle.itv_base.specs.Range.{Ends, IsEnd, IsRange}
use Rattle.itv_base.specs.declared.limits.TheConstants.{END_LIMIT, FILE_LIMIT}
use Rattle.itv_base.specs.declared.names.EventId.{EventId}
use Rattle.itv_base.proofs.Numerals.{above_text, zero_text}
use Rattle.label_grammar.specs.declared.label.Kind.{Kind}
use Rattle.label_grammar.specs.declared.label.Kind.TheVariants.{Lin, Late, Early, Req, Ask}
use Rattle.label_grammar.specs.Label.{ends_text, spelling, version_1}
use Rattle.slack_report.specs.Entry.{IsName}
use Rattle.slack_report.specs.Text.{name_word}
use Rattle.redraw.specs.declared.drawn_event.DrawnEvent.{DrawnEvent}
use Rattle.redraw.specs.declared.drawn_event.TheConstants.{MOST_DRAWN}
use Rattle.redraw.specs.Narrowing.{widest_gap}
use Rattle.redraw.specs.Drawing.{demand_edge, edge_text, exactly, lane_of, mark_at, number_in, range_label, sketch_of, step_edges, steps_of}
use Rattle.redraw.specs.Step.{AreNear, IsStand, StandNear}
use Rattle.redraw.specs.Text.{after_commas, escaped, escaped_byte, lane_text, quoted, sketch_text, with_commas}
use Rattle.redraw.proofs.Ordered.{Every, every_append}
use Rattle.redraw.proofs.Pieces.{kind_front, spelling_is}

-- ---- numbers

number_short : (n k : ℕ) → n < 10 ^ k → 1 ≤ k → length (number_text n) ≤ k
number_short n k small some = elim (cases_eq n 0) [
  | inl is ↦ rw (zero_text n is) some
  | inr above ↦ rw (above_text n above) (omega (arith, length-map (digits_of 10 n) (λ d. 48 + d), length-digits_of-le 10 k n (omega arith) small))
]

end_short : (end : Option ℤ) → IsEnd end → length (end_text end) ≤ 15
end_short None h = omega arith
end_short (Some (pos n)) h =
    let most : pos n ≤ℤ END_LIMIT = h.1 in
    let small : n < 10 ^ 14 = omega (arith, ints) in
    omega (arith, number_short n 14 small (omega arith))
end_short (Some (negsuc n)) h =
    let least : neg_ℤ END_LIMIT ≤ℤ negsuc n = h.0 in
    let small : suc n < 10 ^ 14 = omega (arith, ints) in
    omega (arith, number_short (suc n) 14 small (omega arith))

-- ---- labels and edges

kind_short : (kind : Kind) (rest : List ℕ) → length (kind_front kind ++ rest) ≤ 6 + length rest
kind_short Lin rest = omega arith
kind_short Late rest = omega arith
kind_short Early rest = omega arith
kind_short Req rest = omega arith
kind_short Ask rest = omega arith

ends_short : (ends : Ends) → IsEnd ends.low → IsEnd ends.high → length (ends_text ends) ≤ 34
ends_short ends low high =
    omega (arith, end_short ends.low low, end_short ends.high high, length-append (end_text ends.low) (codes "," ++ (end_text ends.high ++ codes "]")), length-append (end_text ends.high) (codes "]"))

edge_short : (from to : ℕ) (kind : Kind) (ends : Ends) → IsEnd ends.low → IsEnd ends.high → length (edge_text from to (range_label kind ends)) ≤ 45
edge_short from to kind ends low high =
    let label : length (spelling version_1 (range_label kind ends)) ≤ 40 =
    omega (arith, ap length (spelling_is kind ends), kind_short kind (ends_text ends), ends_short ends low high) in
    omega arith

-- ---- quoted

byte_short : (b : ℕ) → length (escaped_byte b) ≤ 2
byte_short b = by_test (b == 34 || b == 92) where
  by_test : (t : Bool) → length (if t then 92 ∷ b ∷ [] else b ∷ []) ≤ 2
  by_test true = omega arith
  by_test false = omega arith

escaped_short : (text : List ℕ) → length (escaped text) ≤ 2 * length text
escaped_short [] = omega arith
escaped_short (b ∷ bs) = omega (arith, byte_short b, escaped_short bs, length-append (escaped_byte b) (escaped bs))

quoted_short : (text : List ℕ) (n : ℕ) → length text ≤ n → length (quoted text) ≤ 2 * n + 2
quoted_short text n h = omega (arith, escaped_short text, length-append (escaped text) (codes "\""))

-- ---- lanes

abbrev full_stop : ℕ
full_stop = 46

abbrev stops : ℕ → List ℕ
stops n = replicate n full_stop

name_within : (name : Name) → IsName name → length name.part ≤ 16
name_within name h = leb-true (length name.part) 16 (and_parts _ _ (and_parts _ _ h.part).0).1

word_short : (name : Name) → IsName name → length (name_word name) ≤ 22
word_short name h =
    let cycle : name.cycle < 10 ^ 3 = let small = h.cycle in omega arith in
    omega (arith, name_within name h, number_short name.cycle 3 cycle (omega arith), length-append name.part (46 ∷ name.mark ∷ 64 ∷ number_text name.cycle))

stops_long : (n : ℕ) → length (stops n) ≡ n
stops_long n = length-replicate n full_stop

lane_long : (n w d : List ℕ) → length n ≤ 46 → length w ≤ 190 → length d ≤ 190
    → length (codes "{\"name\":" ++ (n ++ (codes ",\"wave\":" ++ (w ++ (codes ",\"node\":" ++ (d ++ codes "}")))))) ≤ 451
lane_long n w d h g f =
    omega (arith, length-append n (codes ",\"wave\":" ++ (w ++ (codes ",\"node\":" ++ (d ++ codes "}")))), length-append w (codes ",\"node\":" ++ (d ++ codes "}")), length-append d (codes "}"))

lane_short : (name : EventId → Name) (n : ℕ) (s : DrawnEvent) → IsName (name s.event) → IsStand n s → length (lane_text (lane_of name s)) ≤ 451
lane_short name n s named stand =
    let place : s.place ≤ 93 = stand.most in
    let wave : length (codes "0" ++ (stops (s.place - 1) ++ codes "1")) ≤ 94 = omega (arith, stops_long (s.place - 1), length-append (stops (s.place - 1)) (codes "1")) in
    let node : length (stops s.place ++ mark_at s.number ∷ []) ≤ 94 = omega (arith, stops_long s.place, length-append (stops s.place) (mark_at s.number ∷ [])) in
    lane_long (quoted (name_word (name s.event))) (quoted (codes "0" ++ (stops (s.place - 1) ++ codes "1"))) (quoted (stops s.place ++ mark_at s.number ∷ []))
    (quoted_short (name_word (name s.event)) 22 (word_short (name s.event) named)) (quoted_short (codes "0" ++ (stops (s.place - 1) ++ codes "1")) 94 wave) (quoted_short (stops s.place ++ mark_at s.number ∷ []) 94 node)

-- ---- lists of texts

after_short : (n : ℕ) (texts : List (List ℕ)) → Every (λ (text : List ℕ). length text ≤ n) texts → length (after_commas texts) ≤ length texts * (n + 1)
after_short n [] h = omega arith
after_short n (text ∷ texts) h =
    let more : suc (length texts) * (n + 1) ≡ (n + 1) + length texts * (n + 1) = grind arith in
    rw more (omega (arith, h.0, after_short n texts h.1, length-append text (after_commas texts)))

commas_short : (n : ℕ) (texts : List (List ℕ)) → Every (λ (text : List ℕ). length text ≤ n) texts → length (with_commas texts) ≤ length texts * (n + 1)
commas_short n [] h = omega arith
commas_short n (text ∷ texts) h =
    let more : suc (length texts) * (n + 1) ≡ (n + 1) + length texts * (n + 1) = grind arith in
    rw more (omega (arith, h.0, after_short n texts h.1, length-append text (after_commas texts)))

lanes_short : (name : EventId → Name) (n : ℕ) (ss : List DrawnEvent) → Every (λ (s : DrawnEvent). IsName (name s.event)) ss → Every (IsStand n) ss
    → Every (λ (text : List ℕ). length text ≤ 451) (map lane_text (map (lane_of name) ss))
lanes_short name n [] named stand = tt
lanes_short name n (s ∷ ss) named stand = (lane_short name n s named.0 stand.0, lanes_short name n ss named.1 stand.1)

exact_end : (d : ℤ) → pos 0 ≤ℤ d → d ≤ℤ pos widest_gap → IsEnd (Some d)
exact_end d low high = (omega (arith, ints), high)

steps_short : (before : DrawnEvent) (ss : List DrawnEvent) → AreNear before ss → Every (λ (text : List ℕ). length text ≤ 45) (step_edges before ss)
steps_short before [] near = tt
steps_short before (s ∷ ss) near =
    let end = exact_end (s.time -ℤ before.time) near.0 near.1 in
    (edge_short (mark_at before.number) (mark_at s.number) Lin (exactly (s.time -ℤ before.time)) end end, steps_short s ss near.2)

all_steps_short : (ss : List DrawnEvent) → StandNear ss → Every (λ (text : List ℕ). length text ≤ 45) (steps_of ss)
all_steps_short [] near = tt
all_steps_short (s ∷ ss) near = steps_short s ss near

edges_short : (ss : List DrawnEvent) (from to : EventId) (ends : Ends) → StandNear ss → IsRange ends → Every (λ (text : List ℕ). length text ≤ 45) (steps_of ss ++ demand_edge ss from to ends ∷ [])
edges_short ss from to ends near range =
    every_append (λ (text : List ℕ). length text ≤ 45) (steps_of ss) (demand_edge ss from to ends ∷ []) (all_steps_short ss near) (edge_short (mark_at (number_in ss from)) (mark_at (number_in ss to)) Req ends range.0 range.1, tt)

quoted_all : (edges : List (List ℕ)) → Every (λ (text : List ℕ). length text ≤ 45) edges → Every (λ (text : List ℕ). length text ≤ 92) (map quoted edges)
quoted_all [] h = tt
quoted_all (e ∷ es) h = (quoted_short e 45 h.0, quoted_all es h.1)

length-steps : (before : DrawnEvent) (ss : List DrawnEvent) → length (step_edges before ss) ≡ length ss
length-steps before [] = refl
length-steps before (s ∷ ss) = ap suc (length-steps s ss)

steps_few : (ss : List DrawnEvent) → length (steps_of ss) ≤ length ss
steps_few [] = omega arith
steps_few (s ∷ ss) = omega (arith, length-steps s ss)

whole_short : (lanes edges : List ℕ) → length lanes ≤ 93 * 452 → length edges ≤ 94 * 93
    → length (codes "{\"signal\":[" ++ (lanes ++ (codes "],\"edge\":[" ++ (edges ++ codes "]}\n")))) ≤ FILE_LIMIT
whole_short lanes edges h g = omega (arith, length-append lanes (codes "],\"edge\":[" ++ (edges ++ codes "]}\n")), length-append edges (codes "]}\n"))

pub sketch_short : (name : EventId → Name) (from to : EventId) (ends : Ends) (n : ℕ) (ss : List DrawnEvent) → length ss ≤ MOST_DRAWN → Every (λ (s : DrawnEvent). IsName (name s.event)) ss
    → Every (IsStand n) ss → StandNear ss → IsRange ends → length (sketch_text (sketch_of name from to ends ss)) ≤ FILE_LIMIT
sketch_short name from to ends n ss few named stand near range =
    let lanes = commas_short 451 (map lane_text (map (lane_of name) ss)) (lanes_short name n ss named stand) in
    let count : length (map lane_text (map (lane_of name) ss)) ≡ length ss = length-map (map (lane_of name) ss) lane_text ∙ length-map ss (lane_of name) in
    let edges = commas_short 92 (map quoted (steps_of ss ++ demand_edge ss from to ends ∷ [])) (quoted_all _ (edges_short ss from to ends near range)) in
    let steps : length (map quoted (steps_of ss ++ demand_edge ss from to ends ∷ [])) ≤ 94 =
    omega (arith, length-map (steps_of ss ++ demand_edge ss from to ends ∷ []) quoted, length-append (steps_of ss) (demand_edge ss from to ends ∷ []), steps_few ss) in
    whole_short (with_commas (map lane_text (map (lane_of name) ss))) (with_commas (map quoted (steps_of ss ++ demand_edge ss from to ends ∷ [])))
    (omega (arith, lanes, count)) (omega (arith, edges, steps))
