-- The text of a drawing is the text of a JSON value, and is read as this value.
use Rattle.std.proofs.Common.{◌≡◌, ◌≤◌, ℕ, inl, inr, Bool, true, false, ◌&&◌, cond, nat_le, List, [], ◌∷◌, ◌++◌, map, codes, Some, option_and_then, ◌∙◌, refl, sym, ap, append_assoc, append-nil, arith, leb-true, ne_eqb}
use Rattle.std.specs.List.{list_all}
use Rattle.std.proofs.lemmas.Bool.{and_parts, cases_eq}
use Rattle.json.specs.Json as json
use Rattle.json.specs.Lex.{between, colon, comma, in_string, lex, punctuate, fresh, string_token, token, tokens}
use Rattle.json.specs.Print.{ArePrintable, ends, escape, escape_byte, print, print_from, separator, token_text}
use Rattle.json.specs.Print as out
use Rattle.json.specs.Text.{content, plain}
use Rattle.json.specs.Token as t
use Rattle.json.specs.Tree.{depth, items_depth, items_tokens, json_tokens}
use Rattle.json.proofs.Printed.Strings.{content-escape, escape_byte_plain, lex-escape}
use Rattle.json.proofs.Printed.Tokens.{tokens-print}
use Rattle.json.proofs.Printed.Trees.{value-json_tokens}
use Rattle.serde_json.specs.Read.{max_depth, of_json, read}
use Rattle.redraw.specs.Drawing.{Lane, Sketch}
use Rattle.redraw.specs.Text.{after_commas, escaped, escaped_byte, lane_text, quoted, sketch_text, with_commas}
use Rattle.redraw.proofs.Ordered.{Every, every_append}

-- ---- as JSON

abbrev pub json_texts : List (List ℕ) → json.Items
json_texts [] = json.no_items
json_texts (text ∷ texts) = json.item (json.string text) (json_texts texts)

abbrev pub json_lane : Lane → json.Json
json_lane lane = json.object (json.member (codes "name") (json.string lane.name) (json.member (codes "wave") (json.string lane.wave) (json.member (codes "node") (json.string lane.node) json.no_members)))

abbrev pub json_lanes : List Lane → json.Items
json_lanes [] = json.no_items
json_lanes (lane ∷ lanes) = json.item (json_lane lane) (json_lanes lanes)

abbrev pub json_sketch : Sketch → json.Json
json_sketch sketch = json.object (json.member (codes "signal") (json.array (json_lanes sketch.lanes)) (json.member (codes "edge") (json.array (json_texts sketch.edges)) json.no_members))

-- ---- strings without control characters

abbrev pub is_plain : ℕ → Bool
is_plain byte = nat_le 32 byte

escape_quote : escape_byte 34 ≡ 92 ∷ 34 ∷ []
unfolding escape_byte
escape_quote = refl

escape_slash : escape_byte 92 ≡ 92 ∷ 92 ∷ []
unfolding escape_byte
escape_slash = refl

escaped_other : (byte : ℕ) → (byte ≡ 34 → ⊥) → (byte ≡ 92 → ⊥) → escaped_byte byte ≡ byte ∷ []
escaped_other byte q b = rw (ne_eqb byte 34 q, ne_eqb byte 92 b) refl

escape_same : (byte : ℕ) → is_plain byte ≡ true → escape_byte byte ≡ escaped_byte byte
escape_same byte h = elim (cases_eq byte 34) [
  | inl is ↦ rw is escape_quote
  | inr q ↦ elim (cases_eq byte 92) [
    | inl is ↦ rw is escape_slash
    | inr b ↦ escape_byte_plain byte q b (leb-true 32 byte h) ∙ sym (escaped_other byte q b)
  ]
]

pub escapes_same : (text : List ℕ) → list_all is_plain text ≡ true → escape text ≡ escaped text
escapes_same [] h = refl
escapes_same (b ∷ bs) h =
    let p = and_parts (is_plain b) (list_all is_plain bs) h in
    ap (λ l. l ++ escape bs) (escape_same b p.0) ∙ ap (λ l. escaped_byte b ++ l) (escapes_same bs p.1)

pub quoted_same : (text : List ℕ) → list_all is_plain text ≡ true → out.quoted text ≡ quoted text
quoted_same text h = ap (λ l. 34 ∷ (l ++ 34 ∷ [])) (escapes_same text h)

-- ---- printing

-- a list of strings
print_texts_after : (texts : List (List ℕ)) (rest : List t.Token)
    → print_from true (items_tokens (json_texts texts) ++ rest) ≡ after_commas (map out.quoted texts) ++ 93 ∷ print_from true rest
unfolding print_from
print_texts_after [] rest = refl
print_texts_after (text ∷ texts) rest =
    ap (λ l. 44 ∷ (out.quoted text ++ l)) (print_texts_after texts rest)
    ∙ sym (append_assoc (44 ∷ out.quoted text) (after_commas (map out.quoted texts)) (93 ∷ print_from true rest))

print_texts : (texts : List (List ℕ)) (rest : List t.Token)
    → print_from false (items_tokens (json_texts texts) ++ rest) ≡ with_commas (map out.quoted texts) ++ 93 ∷ print_from true rest
unfolding print_from
print_texts [] rest = refl
print_texts (text ∷ texts) rest =
    ap (λ l. out.quoted text ++ l) (print_texts_after texts rest)
    ∙ sym (append_assoc (out.quoted text) (after_commas (map out.quoted texts)) (93 ∷ print_from true rest))

-- a lane, as it is printed
abbrev printed_lane : Lane → List ℕ
printed_lane lane = codes "{\"name\":" ++ (out.quoted lane.name ++ (codes ",\"wave\":" ++ (out.quoted lane.wave ++ (codes ",\"node\":" ++ (out.quoted lane.node ++ codes "}")))))

lane_parts : (n w d r : List ℕ) → (codes "{\"name\":" ++ (n ++ (codes ",\"wave\":" ++ (w ++ (codes ",\"node\":" ++ (d ++ codes "}")))))) ++ r
    ≡ codes "{\"name\":" ++ (n ++ (codes ",\"wave\":" ++ (w ++ (codes ",\"node\":" ++ (d ++ (codes "}" ++ r))))))
lane_parts n w d r = simp append_assoc refl

print_lane : (lane : Lane) (c : Bool) (rest : List t.Token) → print_from c (json_tokens (json_lane lane) ++ rest) ≡ separator c t.begin_object ++ (printed_lane lane ++ print_from true rest)
unfolding print_from escape_byte
print_lane lane c rest =
    ap (λ l. separator c t.begin_object ++ l) (sym (lane_parts (out.quoted lane.name) (out.quoted lane.wave) (out.quoted lane.node) (print_from true rest)))

print_lanes_after : (lanes : List Lane) (rest : List t.Token)
    → print_from true (items_tokens (json_lanes lanes) ++ rest) ≡ after_commas (map printed_lane lanes) ++ 93 ∷ print_from true rest
unfolding print_from
print_lanes_after [] rest = refl
print_lanes_after (lane ∷ lanes) rest =
    print_lane lane true (items_tokens (json_lanes lanes) ++ rest)
    ∙ ap (λ l. 44 ∷ (printed_lane lane ++ l)) (print_lanes_after lanes rest)
    ∙ sym (append_assoc (44 ∷ printed_lane lane) (after_commas (map printed_lane lanes)) (93 ∷ print_from true rest))

print_lanes : (lanes : List Lane) (rest : List t.Token)
    → print_from false (items_tokens (json_lanes lanes) ++ rest) ≡ with_commas (map printed_lane lanes) ++ 93 ∷ print_from true rest
unfolding print_from
print_lanes [] rest = refl
print_lanes (lane ∷ lanes) rest =
    print_lane lane false (items_tokens (json_lanes lanes) ++ rest)
    ∙ ap (λ l. printed_lane lane ++ l) (print_lanes_after lanes rest)
    ∙ sym (append_assoc (printed_lane lane) (after_commas (map printed_lane lanes)) (93 ∷ print_from true rest))

-- a drawing, as it is printed
abbrev printed_sketch : Sketch → List ℕ
printed_sketch sketch =
    codes "{\"signal\":[" ++ (with_commas (map printed_lane sketch.lanes) ++ (codes "],\"edge\":[" ++ (with_commas (map out.quoted sketch.edges) ++ codes "]}")))

print_sketch : (sketch : Sketch) → print (json_tokens (json_sketch sketch)) ≡ printed_sketch sketch
unfolding print_from escape_byte
print_sketch sketch =
    ap (λ l. codes "{\"signal\":[" ++ l) (print_lanes sketch.lanes (t.key (codes "edge") ∷ (t.begin_array ∷ (items_tokens (json_texts sketch.edges) ++ t.end_object ∷ []))))
    ∙ ap (λ l. codes "{\"signal\":[" ++ (with_commas (map printed_lane sketch.lanes) ++ (codes "],\"edge\":[" ++ l))) (print_texts sketch.edges (t.end_object ∷ []))

-- ---- as it is written

pub record IsPlainLane (lane : Lane) : Type 0 where
  pub name : list_all is_plain lane.name ≡ true
  pub wave : list_all is_plain lane.wave ≡ true
  pub node : list_all is_plain lane.node ≡ true

pub record IsPlainSketch (sketch : Sketch) : Type 0 where
  pub lanes : Every IsPlainLane sketch.lanes
  pub edges : Every (λ (edge : List ℕ). list_all is_plain edge ≡ true) sketch.edges

abbrev lane_by : List ℕ → List ℕ → List ℕ → List ℕ
lane_by n w d = codes "{\"name\":" ++ (n ++ (codes ",\"wave\":" ++ (w ++ (codes ",\"node\":" ++ (d ++ codes "}")))))

lane_same : (lane : Lane) → IsPlainLane lane → printed_lane lane ≡ lane_text lane
lane_same lane h =
    ap (λ n. lane_by n (out.quoted lane.wave) (out.quoted lane.node)) (quoted_same lane.name h.name)
    ∙ ap (λ w. lane_by (quoted lane.name) w (out.quoted lane.node)) (quoted_same lane.wave h.wave)
    ∙ ap (λ d. lane_by (quoted lane.name) (quoted lane.wave) d) (quoted_same lane.node h.node)

map_same : {X Y : Type 0} (P : X → Type 0) (f g : X → Y) (xs : List X) → ((x : X) → P x → f x ≡ g x) → Every P xs → map f xs ≡ map g xs
map_same P f g [] same h = refl
map_same P f g (x ∷ xs) same h = ap (λ y. y ∷ map f xs) (same x h.0) ∙ ap (λ l. g x ∷ l) (map_same P f g xs same h.1)

sketch_parts : (x y : List ℕ) → (codes "{\"signal\":[" ++ (x ++ (codes "],\"edge\":[" ++ (y ++ codes "]}")))) ++ codes "\n"
    ≡ codes "{\"signal\":[" ++ (x ++ (codes "],\"edge\":[" ++ (y ++ codes "]}\n")))
sketch_parts x y = simp append_assoc refl

sketch_same : (sketch : Sketch) → IsPlainSketch sketch → printed_sketch sketch ++ codes "\n" ≡ sketch_text sketch
sketch_same sketch h =
    sketch_parts (with_commas (map printed_lane sketch.lanes)) (with_commas (map out.quoted sketch.edges))
    ∙ ap (λ l. codes "{\"signal\":[" ++ (with_commas l ++ (codes "],\"edge\":[" ++ (with_commas (map out.quoted sketch.edges) ++ codes "]}\n"))))
    (map_same IsPlainLane printed_lane lane_text sketch.lanes lane_same h.lanes)
    ∙ ap (λ l. codes "{\"signal\":[" ++ (with_commas (map lane_text sketch.lanes) ++ (codes "],\"edge\":[" ++ (with_commas l ++ codes "]}\n"))))
    (map_same (λ (edge : List ℕ). list_all is_plain edge ≡ true) out.quoted quoted sketch.edges quoted_same h.edges)

-- ---- the line end is passed over

-- a token that is a string or a bracket
abbrev IsTextual : t.Token → Type 0
IsTextual t.begin_object = Unit {0}
IsTextual t.end_object = Unit {0}
IsTextual t.begin_array = Unit {0}
IsTextual t.end_array = Unit {0}
IsTextual (t.key s) = Unit {0}
IsTextual (t.string s) = Unit {0}
IsTextual (t.number s) = ⊥
IsTextual (t.boolean b) = ⊥
IsTextual t.null = ⊥
IsTextual t.bad = ⊥

lex_quoted : (s r : List ℕ) → lex between (out.quoted s ++ r) ≡ token (string_token (Some s)) ∷ lex between r
unfolding lex
lex_quoted s r =
    ap (λ x. token (string_token (content plain x)) ∷ lex in_string x) (append_assoc (escape s) (34 ∷ []) r)
    ∙ ap (λ o. token (string_token o) ∷ lex in_string (escape s ++ 34 ∷ r)) (content-escape s r)
    ∙ ap (λ l. token (string_token (Some s)) ∷ l) (lex-escape s r)

lex_key : (s r : List ℕ) → lex between ((out.quoted s ++ 58 ∷ []) ++ r) ≡ token (string_token (Some s)) ∷ lex between (58 ∷ r)
lex_key s r = ap (lex between) (append_assoc (out.quoted s) (58 ∷ []) r) ∙ lex_quoted s (58 ∷ r)

lex_colon : (r s : List ℕ) → lex between r ≡ lex between s → lex between (58 ∷ r) ≡ lex between (58 ∷ s)
unfolding lex
lex_colon r s e = ap (λ l. colon ∷ l) e

lex_same : (tok : t.Token) (r s : List ℕ) → IsTextual tok → lex between r ≡ lex between s → lex between (token_text tok ++ r) ≡ lex between (token_text tok ++ s)
unfolding lex
lex_same t.begin_object r s h e = ap (λ l. token t.begin_object ∷ l) e
lex_same t.end_object r s h e = ap (λ l. token t.end_object ∷ l) e
lex_same t.begin_array r s h e = ap (λ l. token t.begin_array ∷ l) e
lex_same t.end_array r s h e = ap (λ l. token t.end_array ∷ l) e
lex_same (t.key k) r s h e = lex_key k r ∙ ap (λ l. token (string_token (Some k)) ∷ l) (lex_colon r s e) ∙ sym (lex_key k s)
lex_same (t.string k) r s h e = lex_quoted k r ∙ ap (λ l. token (string_token (Some k)) ∷ l) e ∙ sym (lex_quoted k s)
lex_same (t.number k) r s h e = absurd h
lex_same (t.boolean b) r s h e = absurd h
lex_same t.null r s h e = absurd h
lex_same t.bad r s h e = absurd h

lex_comma : (b : Bool) (r s : List ℕ) → lex between r ≡ lex between s → lex between (cond b (44 ∷ []) [] ++ r) ≡ lex between (cond b (44 ∷ []) [] ++ s)
unfolding lex
lex_comma true r s e = ap (λ l. comma ∷ l) e
lex_comma false r s e = e

lex_line : (c : Bool) (ts : List t.Token) → Every IsTextual ts → lex between (print_from c ts ++ 10 ∷ []) ≡ lex between (print_from c ts)
unfolding lex print_from
lex_line c [] h = refl
lex_line c (tok ∷ ts) h =
    ap (lex between) (append_assoc (separator c tok) (token_text tok ++ print_from (ends tok) ts) (10 ∷ [])
    ∙ ap (λ l. separator c tok ++ l) (append_assoc (token_text tok) (print_from (ends tok) ts) (10 ∷ [])))
    ∙ lex_comma (c && out.begins tok) (token_text tok ++ (print_from (ends tok) ts ++ 10 ∷ [])) (token_text tok ++ print_from (ends tok) ts)
    (lex_same tok (print_from (ends tok) ts ++ 10 ∷ []) (print_from (ends tok) ts) h.0 (lex_line (ends tok) ts h.1))

textual_texts : (texts : List (List ℕ)) → Every IsTextual (items_tokens (json_texts texts))
textual_texts [] = (tt, tt)
textual_texts (text ∷ texts) = (tt, textual_texts texts)

textual_lanes : (lanes : List Lane) → Every IsTextual (items_tokens (json_lanes lanes))
textual_lanes [] = (tt, tt)
textual_lanes (lane ∷ lanes) = every_append IsTextual (json_tokens (json_lane lane)) (items_tokens (json_lanes lanes)) (tt, (tt, (tt, (tt, (tt, (tt, (tt, (tt, tt)))))))) (textual_lanes lanes)

textual_sketch : (sketch : Sketch) → Every IsTextual (json_tokens (json_sketch sketch))
textual_sketch sketch = (
  tt,
  (
    tt,
    (
      tt,
      every_append IsTextual (items_tokens (json_lanes sketch.lanes)) (t.key (codes "edge") ∷ (t.begin_array ∷ (items_tokens (json_texts sketch.edges) ++ t.end_object ∷ [])))
          (textual_lanes sketch.lanes) (tt, (tt, every_append IsTextual (items_tokens (json_texts sketch.edges)) (t.end_object ∷ []) (textual_texts sketch.edges) (tt, tt))),
    ),
  ),
)

printable_one : (tok : t.Token) → IsTextual tok → out.IsPrintable tok
printable_one t.begin_object h = tt
printable_one t.end_object h = tt
printable_one t.begin_array h = tt
printable_one t.end_array h = tt
printable_one (t.key s) h = tt
printable_one (t.string s) h = tt
printable_one (t.number s) h = absurd h
printable_one (t.boolean b) h = absurd h
printable_one t.null h = absurd h
printable_one t.bad h = absurd h

printable : (ts : List t.Token) → Every IsTextual ts → ArePrintable ts
unfolding ArePrintable
printable [] h = tt
printable (tok ∷ ts) h = (printable_one tok h.0, printable ts h.1)

-- ---- reading

-- a text with the tokens of a JSON value is read as this value
pub read_of : (j : json.Json) (text : List ℕ) → tokens text ≡ json_tokens j → depth j ≤ 127 → read text ≡ of_json j
read_of j text e h =
    ap (λ ts. option_and_then of_json (option_and_then (λ p. json.if_last p.0 p.1) (json.value max_depth ts))) (e ∙ sym (append-nil (json_tokens j)))
    ∙ ap (λ o. option_and_then of_json (option_and_then (λ p. json.if_last p.0 p.1) o)) (value-json_tokens j 127 [] h)

shallow_texts : (texts : List (List ℕ)) → items_depth (json_texts texts) ≤ 0
shallow_texts [] = omega arith
shallow_texts (text ∷ texts) = omega (arith, shallow_texts texts)

shallow_lanes : (lanes : List Lane) → items_depth (json_lanes lanes) ≤ 1
shallow_lanes [] = omega arith
shallow_lanes (lane ∷ lanes) = omega (arith, shallow_lanes lanes)

-- the text of a drawing is read as its JSON value
pub sketch_reads : (sketch : Sketch) → IsPlainSketch sketch → read (sketch_text sketch) ≡ of_json (json_sketch sketch)
sketch_reads sketch h =
    let lanes = shallow_lanes sketch.lanes in
    let edges = shallow_texts sketch.edges in
    let text : sketch_text sketch ≡ print (json_tokens (json_sketch sketch)) ++ 10 ∷ [] = sym (ap (λ l. l ++ 10 ∷ []) (print_sketch sketch) ∙ sketch_same sketch h) in
    let lexed : tokens (print (json_tokens (json_sketch sketch)) ++ 10 ∷ []) ≡ tokens (print (json_tokens (json_sketch sketch))) =
    ap (punctuate fresh) (lex_line false (json_tokens (json_sketch sketch)) (textual_sketch sketch)) in
    read_of (json_sketch sketch) (sketch_text sketch)
    (ap tokens text ∙ lexed ∙ tokens-print (json_tokens (json_sketch sketch)) (printable (json_tokens (json_sketch sketch)) (textual_sketch sketch))) (omega arith)
