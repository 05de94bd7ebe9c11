-- Texts of a drawing, piece by piece.
use Rattle.std.proofs.Common.{◌≡◌, ◌+◌, ◌-◌, ◌<◌, ◌≤◌, ℕ, zero, suc, ℤ, pos, negsuc, ◌-ℤ◌, ◌≤ℤ◌, Bool, true, false, not, ◌||◌, ◌==◌, if◌then◌else◌, List, [], ◌∷◌, ◌++◌, All, length, map, get_or, take, drop, replicate, codes, Option, Some, None, Result, ◌∙◌, refl, sym, ap, subst, append_assoc, append-nil, arith, ne_eqb}
use Rattle.std.specs.Bool.{⊤}
use Rattle.std.specs.Char.{is_ascii_digit}
use Rattle.std.specs.List.{list_all}
use Rattle.std.proofs.lemmas.Bool.{and_from, and_parts, or_from}
use borrow.Author.Tests.{not-true}
use Rattle.std.proofs.lemmas.List.{drop_all, drop_more, length-drop, take_all, take-replicate}
use Rattle.std.proofs.lemmas.List.Folds.{list_all-append}
use Rattle.itv_base.specs.declared.names.EventId.{EventId}
use Rattle.itv_base.specs.Names.{Name}
use Rattle.itv_base.specs.Numerals.{end_text, number_text}
use Rattle.itv_base.specs.Outside.{CutShort, Puts, SinkState, grown}
use Rattle.itv_base.specs.Range.{Ends}
use Rattle.itv_base.proofs.Numbers.{digit_range}
use Rattle.itv_base.proofs.Numerals.{digits-text}
use Rattle.itv_base.proofs.Written.{Left, cut_more, puts_same, puts_then}
use Rattle.label_grammar.specs.declared.label.Kind.{Kind}
use Rattle.label_grammar.specs.declared.label.Kind.TheVariants.{Lin, Late, Early, Req, Ask}
use Rattle.label_grammar.specs.Label.{LooseLabel, ends_text, spelling, version_1}
use Rattle.redraw.specs.declared.drawn_event.DrawnEvent.{DrawnEvent}
use Rattle.redraw.specs.declared.drawn_event.TheConstants.{MOST_DRAWN}
use Rattle.redraw.specs.Narrowing.{widest_gap}
use Rattle.redraw.specs.Drawing.{Lane, demand_edge, edge_text, exactly, lane_of, mark_at, number_in, range_label, rising_lane, sketch_of, step_edge, step_edges, steps_of}
use Rattle.redraw.specs.Text.{after_commas, escaped, escaped_byte, lane_text, quoted, sketch_text, with_commas}
use Rattle.redraw.specs.Step.{AreNear, StandNear, edge_front, lane_end, lane_front, lane_wave, mark_and_cycle, steps_text}

-- ---- two puts

pub first_cut : (old new : SinkState) (xs ys whole : List ℕ) → whole ≡ xs ++ ys → CutShort old new xs → CutShort old new whole
first_cut old new xs ys whole e c = subst (λ w. CutShort old new w) (sym e) (cut_more old new xs ys c)

pub both_put : {E : Type 0} (old mid new : SinkState) (xs ys whole : List ℕ) (r : Result ⊤ E) → whole ≡ xs ++ ys → mid ≡ grown old xs → Puts mid new ys r → Puts old new whole r
both_put old mid new xs ys whole r e g p = puts_same old new (xs ++ ys) whole r (sym e) (puts_then old mid new xs ys r g p)

-- ---- bytes that stand as they are

abbrev pub is_simple : ℕ → Bool
is_simple byte = not (byte == 34 || byte == 92)

simple_byte : (b : ℕ) → is_simple b ≡ true → escaped_byte b ≡ b ∷ []
simple_byte b h = rw (not-true (b == 34 || b == 92) h) refl

pub byte_behind : (byte : ℕ) → (byte == 34 || byte == 92) ≡ true → escaped_byte byte ≡ 92 ∷ byte ∷ []
byte_behind byte h = rw h refl

pub byte_plain : (byte : ℕ) → (byte == 34 || byte == 92) ≡ false → escaped_byte byte ≡ byte ∷ []
byte_plain byte h = rw h refl

pub escaped_simple : (text : List ℕ) → list_all is_simple text ≡ true → escaped text ≡ text
escaped_simple [] h = refl
escaped_simple (b ∷ bs) h =
    let p = and_parts (is_simple b) (list_all is_simple bs) h in
    ap (λ l. l ++ escaped bs) (simple_byte b p.0) ∙ ap (λ l. b ∷ l) (escaped_simple bs p.1)

pub escaped_append : (xs ys : List ℕ) → escaped (xs ++ ys) ≡ escaped xs ++ escaped ys
escaped_append [] ys = refl
escaped_append (x ∷ xs) ys = ap (λ l. escaped_byte x ++ l) (escaped_append xs ys) ∙ sym (append_assoc (escaped_byte x) (escaped xs) (escaped ys))

pub simple_append : (xs ys : List ℕ) → list_all is_simple xs ≡ true → list_all is_simple ys ≡ true → list_all is_simple (xs ++ ys) ≡ true
simple_append xs ys h g = list_all-append is_simple xs ys ∙ and_from (list_all is_simple xs) (list_all is_simple ys) h g

simple_digit : (b : ℕ) → is_ascii_digit b ≡ true → is_simple b ≡ true
simple_digit b h =
    let range = digit_range b h in
    rw (or_from (b == 34) (b == 92) (ne_eqb b 34 (λ e. omega (arith, range.0))) (ne_eqb b 92 (λ e. omega (arith, range.1)))) refl

simple_digits : (text : List ℕ) → list_all is_ascii_digit text ≡ true → list_all is_simple text ≡ true
simple_digits [] h = refl
simple_digits (b ∷ bs) h =
    let p = and_parts (is_ascii_digit b) (list_all is_ascii_digit bs) h in
    and_from (is_simple b) (list_all is_simple bs) (simple_digit b p.0) (simple_digits bs p.1)

pub simple_number : (n : ℕ) → list_all is_simple (number_text n) ≡ true
simple_number n = simple_digits (number_text n) (digits-text n)

pub simple_end : (end : Option ℤ) → list_all is_simple (end_text end) ≡ true
simple_end None = refl
simple_end (Some (pos n)) = simple_number n
simple_end (Some (negsuc n)) = simple_number (suc n)

-- a label without ends
abbrev bare_label : Kind → LooseLabel Ends
bare_label kind = record { kind = kind; shift = 0; tag = None; ends = None; note = None }

-- what a label begins with
abbrev pub kind_front : Kind → List ℕ
kind_front kind = spelling version_1 (bare_label kind)

simple_kind : (kind : Kind) (rest : List ℕ) → list_all is_simple rest ≡ true → list_all is_simple (kind_front kind ++ rest) ≡ true
simple_kind Lin rest h = h
simple_kind Late rest h = h
simple_kind Early rest h = h
simple_kind Req rest h = h
simple_kind Ask rest h = h

simple_ends : (ends : Ends) → list_all is_simple (ends_text ends) ≡ true
simple_ends ends =
    simple_append (end_text ends.low) (codes "," ++ (end_text ends.high ++ codes "]")) (simple_end ends.low)
    (simple_append (end_text ends.high) (codes "]") (simple_end ends.high) refl)

pub spelling_is : (kind : Kind) (ends : Ends) → spelling version_1 (range_label kind ends) ≡ kind_front kind ++ ends_text ends
spelling_is Lin ends = ap (λ l. codes "@lin" ++ l) (append-nil (ends_text ends))
spelling_is Late ends = ap (λ l. codes "@late" ++ l) (append-nil (ends_text ends))
spelling_is Early ends = ap (λ l. codes "@early" ++ l) (append-nil (ends_text ends))
spelling_is Req ends = ap (λ l. codes "@req" ++ l) (append-nil (ends_text ends))
spelling_is Ask ends = ap (λ l. codes "@ask" ++ l) (append-nil (ends_text ends))

pub simple_label : (kind : Kind) (ends : Ends) → list_all is_simple (spelling version_1 (range_label kind ends)) ≡ true
simple_label kind ends = ap (list_all is_simple) (spelling_is kind ends) ∙ simple_kind kind (ends_text ends) (simple_ends ends)

abbrev full_stop : ℕ
full_stop = 46

simple_stops : (n : ℕ) → list_all is_simple (replicate n full_stop) ≡ true
simple_stops zero = refl
simple_stops (suc n) = simple_stops n

-- ---- pieces

pub escaped_at : (text : List ℕ) (i d : ℕ) → i < length text → escaped (drop i text) ≡ escaped_byte (get_or text i d) ++ escaped (drop (i + 1) text)
escaped_at text i d within = ap escaped (drop_more text i d within)

pub dots_are : (count : ℕ) → count ≤ MOST_DRAWN → take count (replicate MOST_DRAWN full_stop) ≡ replicate count full_stop
dots_are count h = take-replicate count MOST_DRAWN full_stop h

pub name_is : (part bytes : List ℕ) (mark cycle : ℕ) → bytes ≡ part → escaped (part ++ (46 ∷ mark ∷ 64 ∷ number_text cycle)) ≡ escaped bytes ++ mark_and_cycle mark cycle
name_is part bytes mark cycle same =
    escaped_append part (46 ∷ mark ∷ 64 ∷ number_text cycle)
    ∙ ap (λ l. escaped l ++ (46 ∷ (escaped_byte mark ++ 64 ∷ escaped (number_text cycle)))) (sym same)
    ∙ ap (λ l. escaped bytes ++ (46 ∷ (escaped_byte mark ++ 64 ∷ l))) (escaped_simple (number_text cycle) (simple_number cycle))

pub wave_is : (place : ℕ) (a b : List ℕ) → a ≡ replicate (place - 1) 46 → b ≡ replicate place 46
    → codes "\",\"wave\":\"0" ++ (a ++ (codes "1\",\"node\":\"" ++ (b ++ []))) ≡ lane_wave place
wave_is place a b at_a at_b =
    ap (λ l. codes "\",\"wave\":\"0" ++ (a ++ (codes "1\",\"node\":\"" ++ l))) (append-nil b)
    ∙ ap (λ l. codes "\",\"wave\":\"0" ++ (l ++ (codes "1\",\"node\":\"" ++ b))) at_a
    ∙ ap (λ l. codes "\",\"wave\":\"0" ++ (replicate (place - 1) 46 ++ (codes "1\",\"node\":\"" ++ l))) at_b

escaped_wave : (place : ℕ) → escaped (codes "0" ++ (replicate (place - 1) 46 ++ codes "1")) ≡ codes "0" ++ (replicate (place - 1) 46 ++ codes "1")
escaped_wave place =
    escaped_simple (codes "0" ++ (replicate (place - 1) 46 ++ codes "1")) (simple_append (replicate (place - 1) full_stop) (codes "1") (simple_stops (place - 1)) refl)

escaped_node : (place mark : ℕ) → escaped (replicate place 46 ++ mark ∷ []) ≡ replicate place 46 ++ escaped_byte mark
escaped_node place mark =
    escaped_append (replicate place full_stop) (mark ∷ [])
    ∙ ap (λ l. l ++ (escaped_byte mark ++ [])) (escaped_simple (replicate place full_stop) (simple_stops place))
    ∙ ap (λ l. replicate place full_stop ++ l) (append-nil (escaped_byte mark))

abbrev lane_by : List ℕ → List ℕ → List ℕ → List ℕ
lane_by n w d = codes "{\"name\":" ++ ((codes "\"" ++ (n ++ codes "\"")) ++ (codes ",\"wave\":" ++ ((codes "\"" ++ (w ++ codes "\"")) ++ (codes ",\"node\":" ++ ((codes "\"" ++ (d ++ codes "\"")) ++ codes "}")))))

lane_parts : (n r d m : List ℕ) → lane_by n (codes "0" ++ (r ++ codes "1")) (d ++ m)
    ≡ (codes "{\"name\":\"" ++ n) ++ ((codes "\",\"wave\":\"0" ++ (r ++ (codes "1\",\"node\":\"" ++ d))) ++ (m ++ codes "\"}"))
lane_parts n r d m = simp append_assoc refl

pub lane_is : (name other : List ℕ) (place mark same : ℕ) → other ≡ name → same ≡ mark
    → lane_text (rising_lane name place mark) ≡ lane_front other ++ (lane_wave place ++ lane_end same)
lane_is name other place mark same at_name at_mark =
    ap (λ w. lane_by (escaped name) w (escaped (replicate place 46 ++ mark ∷ []))) (escaped_wave place)
    ∙ ap (λ d. lane_by (escaped name) (codes "0" ++ (replicate (place - 1) 46 ++ codes "1")) d) (escaped_node place mark)
    ∙ lane_parts (escaped name) (replicate (place - 1) 46) (replicate place 46) (escaped_byte mark)
    ∙ ap (λ l. lane_front l ++ (lane_wave place ++ lane_end mark)) (sym at_name)
    ∙ ap (λ m. lane_front other ++ (lane_wave place ++ lane_end m)) (sym at_mark)

edge_parts : (f t s : List ℕ) → codes "\"" ++ ((f ++ (45 ∷ 62 ∷ (t ++ (32 ∷ s)))) ++ codes "\"") ≡ ((codes "\"" ++ f) ++ (codes "->" ++ t)) ++ 32 ∷ (s ++ codes "\"")
edge_parts f t s = simp append_assoc refl

pub edge_is : (from to : ℕ) (kind : Kind) (ends : Ends)
    → quoted (edge_text from to (range_label kind ends)) ≡ edge_front from to ++ 32 ∷ (spelling version_1 (range_label kind ends) ++ codes "\"")
edge_is from to kind ends =
    ap (λ s. codes "\"" ++ ((escaped_byte from ++ (45 ∷ 62 ∷ (escaped_byte to ++ (32 ∷ s)))) ++ codes "\"")) (escaped_simple (spelling version_1 (range_label kind ends)) (simple_label kind ends))
    ∙ edge_parts (escaped_byte from) (escaped_byte to) (spelling version_1 (range_label kind ends))

-- ---- lists of lanes and edges

pub lanes_at : (lane : DrawnEvent → List ℕ) (stands : List DrawnEvent) (i : ℕ) (d : DrawnEvent) → i < length stands
    → after_commas (map lane (drop i stands)) ≡ (44 ∷ lane (get_or stands i d)) ++ after_commas (map lane (drop (i + 1) stands))
lanes_at lane stands i d within = ap (λ l. after_commas (map lane l)) (drop_more stands i d within)

pub rest_is : {X : Type 0} (xs : List X) → take (length xs - 1) (drop 1 xs) ≡ drop 1 xs
rest_is {X} xs = take_all (length xs - 1) (drop 1 xs) (omega (arith, length-drop 1 xs))

pub all_rest : {X : Type 0} (P : X → Type 0) (xs : List X) → All P xs → All P (take (length xs - 1) (drop 1 xs))
all_rest {X} P xs h = subst (λ l. All P l) (sym (rest_is xs)) (all_drop xs h) where
  all_drop : (xs : List X) → All P xs → All P (drop 1 xs)
  all_drop [] h i d within = absurd (omega arith)
  all_drop (x ∷ xs) h i d within = h (suc i) d (omega arith)

pub lanes_first : (lane : DrawnEvent → List ℕ) (stands : List DrawnEvent) (d : DrawnEvent) → 1 ≤ length stands
    → with_commas (map lane stands) ≡ lane (get_or stands 0 d) ++ after_commas (map lane (take (length stands - 1) (drop 1 stands)))
lanes_first lane [] d some = absurd (omega arith)
lanes_first lane (s ∷ ss) d some = ap (λ l. lane s ++ after_commas (map lane l)) (sym (rest_is (s ∷ ss)))

pub steps_at : (before : DrawnEvent) (stands : List DrawnEvent) (i : ℕ) (d : DrawnEvent) → i < length stands
    → steps_text (step_edges before (drop i stands)) ≡ (quoted (step_edge before (get_or stands i d)) ++ codes ",") ++ steps_text (step_edges (get_or stands i d) (drop (i + 1) stands))
steps_at before stands i d within = ap (λ l. steps_text (step_edges before l)) (drop_more stands i d within)

pub near_at : (before : DrawnEvent) (stands : List DrawnEvent) (i : ℕ) (d : DrawnEvent) → i < length stands → AreNear before (drop i stands)
    → (pos 0 ≤ℤ ((get_or stands i d).time -ℤ before.time)) × (((get_or stands i d).time -ℤ before.time) ≤ℤ pos widest_gap) × AreNear (get_or stands i d) (drop (i + 1) stands)
near_at before stands i d within h = subst (λ l. AreNear before l) (drop_more stands i d within) h

pub steps_first : (stands : List DrawnEvent) (d : DrawnEvent) → 1 ≤ length stands → steps_text (steps_of stands) ≡ steps_text (step_edges (get_or stands 0 d) (take (length stands - 1) (drop 1 stands)))
steps_first [] d some = absurd (omega arith)
steps_first (s ∷ ss) d some = ap (λ l. steps_text (step_edges s l)) (sym (rest_is (s ∷ ss)))

pub near_first : (stands : List DrawnEvent) (d : DrawnEvent) → 1 ≤ length stands → StandNear stands → AreNear (get_or stands 0 d) (take (length stands - 1) (drop 1 stands))
near_first [] d some h = absurd (omega arith)
near_first (s ∷ ss) d some h = subst (λ l. AreNear s l) (sym (rest_is (s ∷ ss))) h

behind_first : (edge : List ℕ) (edges : List (List ℕ)) (last : List ℕ) → after_commas (map quoted (edges ++ last ∷ [])) ≡ codes "," ++ with_commas (map quoted (edges ++ last ∷ []))
behind_first edge [] last = refl
behind_first edge (e ∷ es) last = refl

-- edges with commas between them: each edge but the last has a comma after it
pub edges_are : (edges : List (List ℕ)) (last : List ℕ) → with_commas (map quoted (edges ++ last ∷ [])) ≡ steps_text edges ++ quoted last
edges_are [] last = append-nil (quoted last)
edges_are (e ∷ es) last =
    ap (λ l. quoted e ++ l) (behind_first e es last)
    ∙ ap (λ l. quoted e ++ (codes "," ++ l)) (edges_are es last)
    ∙ regroup (quoted e) (codes ",") (steps_text es) (quoted last) where
      regroup : (a b c d : List ℕ) → a ++ (b ++ (c ++ d)) ≡ ((a ++ b) ++ c) ++ d
      regroup a b c d = simp append_assoc refl

pub step_is : (before stand : DrawnEvent) (from to : ℕ) (range : Ends) → from ≡ mark_at before.number → to ≡ mark_at stand.number → range ≡ exactly (stand.time -ℤ before.time)
    → quoted (step_edge before stand) ++ codes "," ≡ quoted (edge_text from to (range_label Lin range)) ++ codes ","
step_is before stand from to range at_from at_to at_range =
    ap (λ f. quoted (edge_text f (mark_at stand.number) (range_label Lin (exactly (stand.time -ℤ before.time)))) ++ codes ",") (sym at_from)
    ∙ ap (λ t. quoted (edge_text from t (range_label Lin (exactly (stand.time -ℤ before.time)))) ++ codes ",") (sym at_to)
    ∙ ap (λ r. quoted (edge_text from to (range_label Lin r)) ++ codes ",") (sym at_range)

pub demand_is : (stands : List DrawnEvent) (from to : EventId) (ends : Ends) (tail head from_mark to_mark : ℕ) → tail ≡ number_in stands from → head ≡ number_in stands to
    → from_mark ≡ mark_at tail → to_mark ≡ mark_at head → quoted (edge_text from_mark to_mark (range_label Req ends)) ≡ quoted (demand_edge stands from to ends)
demand_is stands from to ends tail head from_mark to_mark at_tail at_head at_from at_to =
    ap (λ m. quoted (edge_text m to_mark (range_label Req ends))) (at_from ∙ ap mark_at at_tail)
    ∙ ap (λ m. quoted (edge_text (mark_at (number_in stands from)) m (range_label Req ends))) (at_to ∙ ap mark_at at_head)

pub number_at : (stands : List DrawnEvent) (i : ℕ) (d : DrawnEvent) (event : EventId) → i < length stands
    → number_in (drop i stands) event ≡ (if (get_or stands i d).event.0 == event.0 then (get_or stands i d).number else number_in (drop (i + 1) stands) event)
number_at stands i d event within = ap (λ l. number_in l event) (drop_more stands i d within)

pub number_none : (stands : List DrawnEvent) (i : ℕ) (event : EventId) → length stands ≤ i → number_in (drop i stands) event ≡ 0
number_none stands i event h = ap (λ l. number_in l event) (drop_all i stands h)

-- some edges are put, and the other events follow the last one put
pub record AreLeft (old now : SinkState) (first before : DrawnEvent) (rest stands : List DrawnEvent) : Type 0 where
  pub left : Left old now (steps_text (step_edges before rest)) (steps_text (step_edges first stands))
  pub near : AreNear before rest
  pub number : before.number < MOST_DRAWN

pub signal_is : (lanes rest edges : List ℕ) → codes "{\"signal\":[" ++ (lanes ++ (codes "],\"edge\":[" ++ (edges ++ codes "]}\n")))
    ≡ (codes "{\"signal\":[" ++ lanes) ++ ((codes "],\"edge\":[" ++ edges) ++ codes "]}\n")
signal_is lanes rest edges = simp append_assoc refl

map_both : (lane : DrawnEvent → Lane) (stands : List DrawnEvent) → map lane_text (map lane stands) ≡ map (λ (s : DrawnEvent). lane_text (lane s)) stands
map_both lane [] = refl
map_both lane (s ∷ ss) = ap (λ l. lane_text (lane s) ∷ l) (map_both lane ss)

pub text_is : (name : EventId → Name) (from to : EventId) (ends : Ends) (stands : List DrawnEvent)
    → sketch_text (sketch_of name from to ends stands)
    ≡ (codes "{\"signal\":[" ++ with_commas (map (λ (s : DrawnEvent). lane_text (lane_of name s)) stands))
    ++ ((codes "],\"edge\":[" ++ (steps_text (steps_of stands) ++ quoted (demand_edge stands from to ends))) ++ codes "]}\n")
text_is name from to ends stands =
    ap (λ l. codes "{\"signal\":[" ++ (with_commas l ++ (codes "],\"edge\":[" ++ (with_commas (map quoted (steps_of stands ++ demand_edge stands from to ends ∷ [])) ++ codes "]}\n")))) (map_both (lane_of name) stands)
    ∙ ap (λ l. codes "{\"signal\":[" ++ (with_commas (map (λ (s : DrawnEvent). lane_text (lane_of name s)) stands) ++ (codes "],\"edge\":[" ++ (l ++ codes "]}\n")))) (edges_are (steps_of stands) (demand_edge stands from to ends))
    ∙ signal_is (with_commas (map (λ (s : DrawnEvent). lane_text (lane_of name s)) stands)) [] (steps_text (steps_of stands) ++ quoted (demand_edge stands from to ends))
