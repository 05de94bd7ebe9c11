-- The texts of a drawing have only visible characters of ASCII and spaces.
use Rattle.std.proofs.Common.{◌≡◌, ◌-◌, ◌<◌, ◌≤◌, ◌==◌, ℕ, zero, suc, ℤ, pos, negsuc, ◌-ℤ◌, inl, inr, Bool, true, false, not, ◌&&◌, ◌||◌, nat_le, if◌then◌else◌, List, [], ◌∷◌, ◌++◌, map, replicate, codes, Option, Some, None, IsUtf8, ◌∙◌, refl, ap, arith, eqb-true, le-leb, leb-true, lt-ltb}
use Rattle.std.specs.List.{list_all}
use Rattle.std.specs.Char.{is_ascii_digit, is_ascii_graphic}
use Rattle.std.proofs.lemmas.Bool.{and_from, and_parts, or_cases}
use Rattle.std.proofs.lemmas.List.Folds.{list_all-append}
use Rattle.json.proofs.Printed.Utf8.{IsUtf8-are_ascii, are_ascii}
use Rattle.itv_base.specs.Characters.{is_mark, is_name_byte}
use Rattle.itv_base.specs.Names.{Name}
use Rattle.itv_base.specs.Numerals.{end_text, number_text}
use Rattle.itv_base.specs.Range.{Ends}
use Rattle.itv_base.specs.declared.names.EventId.{EventId}
use Rattle.itv_base.proofs.Numbers.{digit_range}
use Rattle.itv_base.proofs.Numerals.{digits-text}
use Rattle.label_grammar.specs.declared.label.Kind.{Kind}
use Rattle.label_grammar.specs.declared.label.Kind.TheVariants.{Lin, Late, Early, Req, Ask}
use Rattle.label_grammar.specs.Label.{ends_text, spelling, version_1}
use Rattle.slack_report.specs.Entry.{IsName}
use Rattle.slack_report.specs.Text.{name_word}
use Rattle.redraw.specs.declared.drawn_event.DrawnEvent.{DrawnEvent}
use Rattle.redraw.specs.declared.drawn_event.TheConstants.{MOST_DRAWN}
use Rattle.redraw.specs.Drawing.{Lane, Sketch, demand_edge, edge_text, exactly, lane_of, mark_at, number_in, range_label, sketch_of, step_edges, steps_of}
use Rattle.redraw.specs.Text.{after_commas, escaped, escaped_byte, lane_text, quoted, sketch_text, with_commas}
use Rattle.redraw_laws.proofs.Json.{IsPlainLane, IsPlainSketch, is_plain}
use Rattle.redraw_laws.proofs.Marks.{IsFew, is_mark_at}
use Rattle.redraw.proofs.Ordered.{Every, every_append, every_map, every_weaker}
use Rattle.redraw.proofs.Pieces.{kind_front, spelling_is}

abbrev pub is_visible : ℕ → Bool
is_visible byte = nat_le 32 byte && nat_le byte 126

abbrev pub AreVisible : List ℕ → Type 0
AreVisible text = list_all is_visible text ≡ true

-- ---- of all bytes

pub all_joined : (p : ℕ → Bool) (xs ys : List ℕ) → list_all p xs ≡ true → list_all p ys ≡ true → list_all p (xs ++ ys) ≡ true
all_joined p xs ys h g = list_all-append p xs ys ∙ and_from (list_all p xs) (list_all p ys) h g

all_so : (p q : ℕ → Bool) (xs : List ℕ) → ((b : ℕ) → p b ≡ true → q b ≡ true) → list_all p xs ≡ true → list_all q xs ≡ true
all_so p q [] f h = refl
all_so p q (x ∷ xs) f h =
    let parts = and_parts (p x) (list_all p xs) h in
    and_from (q x) (list_all q xs) (f x parts.0) (all_so p q xs f parts.1)

within : (b : ℕ) → 32 ≤ b → b ≤ 126 → is_visible b ≡ true
within b least most = and_from (nat_le 32 b) (nat_le b 126) (le-leb 32 b least) (le-leb b 126 most)

digit_visible : (b : ℕ) → is_ascii_digit b ≡ true → is_visible b ≡ true
digit_visible b h = let range = digit_range b h in within b (omega (arith, range.0)) (omega (arith, range.1))

in_range : (low high b : ℕ) → (nat_le low b && nat_le b high) ≡ true → 32 ≤ low → high ≤ 126 → is_visible b ≡ true
in_range low high b h least most =
    let parts = and_parts (nat_le low b) (nat_le b high) h in
    within b (omega (arith, leb-true low b parts.0)) (omega (arith, leb-true b high parts.1))

name_visible : (b : ℕ) → is_name_byte b ≡ true → is_visible b ≡ true
name_visible b h = elim (or_cases _ _ h) [
  | inl letter ↦ elim (or_cases _ _ letter) [
    | inl front ↦ elim (or_cases _ _ front) [
      | inl digit ↦ in_range 48 57 b digit (omega arith) (omega arith)
      | inr upper ↦ in_range 65 90 b upper (omega arith) (omega arith)
    ]
    | inr lower ↦ in_range 97 122 b lower (omega arith) (omega arith)
  ]
  | inr line ↦ within b (omega (arith, eqb-true b 95 line)) (omega (arith, eqb-true b 95 line))
]

mark_visible : (b : ℕ) → is_mark b ≡ true → is_visible b ≡ true
mark_visible b h = in_range 33 126 b (and_parts (is_ascii_graphic b) (not (b == 46)) h).0 (omega arith) (omega arith)

number_visible : (n : ℕ) → AreVisible (number_text n)
number_visible n = all_so is_ascii_digit is_visible (number_text n) digit_visible (digits-text n)

end_visible : (end : Option ℤ) → AreVisible (end_text end)
end_visible None = refl
end_visible (Some (pos n)) = number_visible n
end_visible (Some (negsuc n)) = number_visible (suc n)

abbrev full_stop : ℕ
full_stop = 46

stops_visible : (n : ℕ) → AreVisible (replicate n full_stop)
stops_visible zero = refl
stops_visible (suc n) = stops_visible n

ends_visible : (ends : Ends) → AreVisible (ends_text ends)
ends_visible ends =
    all_joined is_visible (end_text ends.low) (codes "," ++ (end_text ends.high ++ codes "]")) (end_visible ends.low)
    (all_joined is_visible (end_text ends.high) (codes "]") (end_visible ends.high) refl)

kind_visible : (kind : Kind) (rest : List ℕ) → AreVisible rest → AreVisible (kind_front kind ++ rest)
kind_visible Lin rest h = h
kind_visible Late rest h = h
kind_visible Early rest h = h
kind_visible Req rest h = h
kind_visible Ask rest h = h

label_visible : (kind : Kind) (ends : Ends) → AreVisible (spelling version_1 (range_label kind ends))
label_visible kind ends = ap (list_all is_visible) (spelling_is kind ends) ∙ kind_visible kind (ends_text ends) (ends_visible ends)

edge_visible : (a b : ℕ) (kind : Kind) (ends : Ends) → a < MOST_DRAWN → b < MOST_DRAWN → AreVisible (edge_text (mark_at a) (mark_at b) (range_label kind ends))
edge_visible a b kind ends in_a in_b =
    and_from (is_visible (mark_at a)) _ (mark_visible (mark_at a) (is_mark_at a in_a))
    (and_from (is_visible (mark_at b)) _ (mark_visible (mark_at b) (is_mark_at b in_b)) (label_visible kind ends))

word_visible : (name : Name) → IsName name → AreVisible (name_word name)
word_visible name h =
    all_joined is_visible name.part (46 ∷ name.mark ∷ 64 ∷ number_text name.cycle)
    (all_so is_name_byte is_visible name.part name_visible (and_parts _ _ h.part).1)
    (and_from (is_visible name.mark) _ (mark_visible name.mark h.mark) (number_visible name.cycle))

-- ---- a drawing

pub record IsVisibleLane (lane : Lane) : Type 0 where
  pub name : AreVisible lane.name
  pub wave : AreVisible lane.wave
  pub node : AreVisible lane.node

pub record IsVisible (sketch : Sketch) : Type 0 where
  pub lanes : Every IsVisibleLane sketch.lanes
  pub edges : Every AreVisible sketch.edges

lane_visible : (name : EventId → Name) (s : DrawnEvent) → IsName (name s.event) → s.number < MOST_DRAWN → IsVisibleLane (lane_of name s)
lane_visible name s named few = record {
  name = word_visible (name s.event) named;
  wave = all_joined is_visible (replicate (s.place - 1) full_stop) (codes "1") (stops_visible (s.place - 1)) refl;
  node = all_joined is_visible (replicate s.place full_stop) (mark_at s.number ∷ []) (stops_visible s.place)
      (and_from (is_visible (mark_at s.number)) true (mark_visible (mark_at s.number) (is_mark_at s.number few)) refl);
}

lanes_visible : (name : EventId → Name) (ss : List DrawnEvent) → Every (λ (s : DrawnEvent). IsName (name s.event)) ss → Every IsFew ss → Every IsVisibleLane (map (lane_of name) ss)
lanes_visible name [] named few = tt
lanes_visible name (s ∷ ss) named few = (lane_visible name s named.0 few.0, lanes_visible name ss named.1 few.1)

steps_visible : (before : DrawnEvent) (ss : List DrawnEvent) → before.number < MOST_DRAWN → Every IsFew ss → Every AreVisible (step_edges before ss)
steps_visible before [] few h = tt
steps_visible before (s ∷ ss) few h = (edge_visible before.number s.number Lin (exactly (s.time -ℤ before.time)) few h.0, steps_visible s ss h.0 h.1)

all_steps_visible : (ss : List DrawnEvent) → Every IsFew ss → Every AreVisible (steps_of ss)
all_steps_visible [] h = tt
all_steps_visible (s ∷ ss) h = steps_visible s ss h.0 h.1

pub sketch_visible : (name : EventId → Name) (from to : EventId) (ends : Ends) (ss : List DrawnEvent) → Every (λ (s : DrawnEvent). IsName (name s.event)) ss → Every IsFew ss
    → number_in ss from < MOST_DRAWN → number_in ss to < MOST_DRAWN → IsVisible (sketch_of name from to ends ss)
sketch_visible name from to ends ss named few in_from in_to = record {
  lanes = lanes_visible name ss named few;
  edges = every_append AreVisible (steps_of ss) (demand_edge ss from to ends ∷ []) (all_steps_visible ss few) (edge_visible (number_in ss from) (number_in ss to) Req ends in_from in_to, tt);
}

-- ---- so it has no control characters

visible_plain : (b : ℕ) → is_visible b ≡ true → is_plain b ≡ true
visible_plain b h = (and_parts (nat_le 32 b) (nat_le b 126) h).0

text_plain : (text : List ℕ) → AreVisible text → list_all is_plain text ≡ true
text_plain text h = all_so is_visible is_plain text visible_plain h

lane_plain : (lane : Lane) → IsVisibleLane lane → IsPlainLane lane
lane_plain lane h = record { name = text_plain lane.name h.name; wave = text_plain lane.wave h.wave; node = text_plain lane.node h.node }

pub sketch_plain : (sketch : Sketch) → IsVisible sketch → IsPlainSketch sketch
sketch_plain sketch h = record {
  lanes = every_weaker IsVisibleLane IsPlainLane sketch.lanes lane_plain h.lanes;
  edges = every_weaker AreVisible (λ (edge : List ℕ). list_all is_plain edge ≡ true) sketch.edges text_plain h.edges;
}

-- ---- and is UTF-8

ascii_joined : (xs ys : List ℕ) → are_ascii xs ≡ true → are_ascii ys ≡ true → are_ascii (xs ++ ys) ≡ true
ascii_joined [] ys h g = g
ascii_joined (x ∷ xs) ys h g = let parts = and_parts _ _ h in and_from _ _ parts.0 (ascii_joined xs ys parts.1 g)

byte_ascii : (b : ℕ) → is_visible b ≡ true → are_ascii (escaped_byte b) ≡ true
byte_ascii b h = by_test (b == 34 || b == 92) where
  most : b ≤ 126
  most = leb-true b 126 (and_parts (nat_le 32 b) (nat_le b 126) h).1

  one : are_ascii (b ∷ []) ≡ true
  one = and_from _ true (lt-ltb b 128 (omega (arith, most))) refl

  by_test : (t : Bool) → are_ascii (if t then 92 ∷ b ∷ [] else b ∷ []) ≡ true
  by_test true = one
  by_test false = one

escaped_ascii : (text : List ℕ) → AreVisible text → are_ascii (escaped text) ≡ true
escaped_ascii [] h = refl
escaped_ascii (b ∷ bs) h =
    let parts = and_parts (is_visible b) (list_all is_visible bs) h in
    ascii_joined (escaped_byte b) (escaped bs) (byte_ascii b parts.0) (escaped_ascii bs parts.1)

quoted_ascii : (text : List ℕ) → AreVisible text → are_ascii (quoted text) ≡ true
quoted_ascii text h = ascii_joined (escaped text) (codes "\"") (escaped_ascii text h) refl

lane_ascii : (lane : Lane) → IsVisibleLane lane → are_ascii (lane_text lane) ≡ true
lane_ascii lane h =
    ascii_joined (quoted lane.name) (codes ",\"wave\":" ++ (quoted lane.wave ++ (codes ",\"node\":" ++ (quoted lane.node ++ codes "}")))) (quoted_ascii lane.name h.name)
    (ascii_joined (quoted lane.wave) (codes ",\"node\":" ++ (quoted lane.node ++ codes "}")) (quoted_ascii lane.wave h.wave)
    (ascii_joined (quoted lane.node) (codes "}") (quoted_ascii lane.node h.node) refl))

after_ascii : (texts : List (List ℕ)) → Every (λ (text : List ℕ). are_ascii text ≡ true) texts → are_ascii (after_commas texts) ≡ true
after_ascii [] h = refl
after_ascii (text ∷ texts) h = ascii_joined text (after_commas texts) h.0 (after_ascii texts h.1)

commas_ascii : (texts : List (List ℕ)) → Every (λ (text : List ℕ). are_ascii text ≡ true) texts → are_ascii (with_commas texts) ≡ true
commas_ascii [] h = refl
commas_ascii (text ∷ texts) h = ascii_joined text (after_commas texts) h.0 (after_ascii texts h.1)

pub sketch_utf8 : (sketch : Sketch) → IsVisible sketch → IsUtf8 (sketch_text sketch)
sketch_utf8 sketch h =
    let lanes = commas_ascii (map lane_text sketch.lanes)
    (every_map (λ (text : List ℕ). are_ascii text ≡ true) lane_text sketch.lanes (every_weaker IsVisibleLane (λ (lane : Lane). are_ascii (lane_text lane) ≡ true) sketch.lanes lane_ascii h.lanes)) in
    let edges = commas_ascii (map quoted sketch.edges)
    (every_map (λ (text : List ℕ). are_ascii text ≡ true) quoted sketch.edges (every_weaker AreVisible (λ (edge : List ℕ). are_ascii (quoted edge) ≡ true) sketch.edges quoted_ascii h.edges)) in
    IsUtf8-are_ascii (sketch_text sketch)
    (ascii_joined (with_commas (map lane_text sketch.lanes)) (codes "],\"edge\":[" ++ (with_commas (map quoted sketch.edges) ++ codes "]}\n")) lanes
    (ascii_joined (with_commas (map quoted sketch.edges)) (codes "]}\n") edges refl))
