-- What a line names is read if and only if the line spells it.
use Rattle.std.proofs.Common.{◌≡◌, ◌⊎◌, inl, inr, ℕ, ◌<◌, ◌-◌, ◌^◌, Bool, true, false, List, ◌++◌, length, Option, Some, None, option_map, refl, sym, ap, subst, ◌∙◌, arith, append_assoc, codes, leb, ◌&&◌}
use Rattle.std.specs.List.{list_all, take_while}
use Rattle.std.specs.Char.{is_ascii_digit}
use Rattle.std.specs.Str.{bytes_eq}
use Rattle.std.proofs.lemmas.Bool.{and_parts}
use Rattle.std.proofs.lemmas.Bool.Decides.{nat_tests}
use Rattle.std.proofs.lemmas.Slice.Eq.{bytes_eq-Decides}
use Rattle.itv_base.specs.Characters.{is_name, is_name_byte}
use Rattle.itv_base.specs.Cuts.{after_while, stripped}
use Rattle.itv_base.specs.Numerals.{number_text}
use Rattle.itv_base.specs.declared.limits.TheConstants.{MAX_NAME_LEN}
use Rattle.itv_base.proofs.Cuts.{stripped-append, stripped_some}
use Rattle.itv_base.proofs.Numerals.{digits-text}
use Rattle.itv_base.proofs.Runs.{front_of_run, rest_of_run, run_whole, stops}
use Rattle.label_grammar.proofs.Pieces.{bind_some}
use Rattle.line_words.specs.Numbers.{number_in}
use Rattle.line_words.specs.Words.{or_else, when}
use Rattle.line_words.proofs.NumberLaws.{number_inverts}
use Rattle.line_words.proofs.Plain.{all_weaker}
use Rattle.drawn_numbers.specs.Numbers.{HasNumberForm}
use Rattle.drawn_numbers.specs.declared.drawn_number.DrawnNumber.{DrawnNumber}
use Rattle.drawn_numbers.specs.declared.drawn_number.DrawnNumber.TheVariants as numbers
use Rattle.range_edits.specs.declared.edit.Subject.{Subject}
use Rattle.range_edits.specs.declared.edit.Subject.TheVariants.{Cause, Number}
use Rattle.range_edits.specs.Subject.{HasSubjectForm, subject_text}
use Rattle.range_edits.specs.EditLine.{◌>>◌, cause_named, part_edge_named, net_named, number_of, subject_named, subject_of, wire_named}

-- a subject and the text after it
abbrev pub Found : Type 0
Found = Subject × List ℕ

-- ---- numbers

short_takes : (word : List ℕ) (n : ℕ) → number_in (2 ^ 32 - 1) word ≡ Some n → (word ≡ number_text n) × (n < 2 ^ 32)
short_takes word n e = let t = (number_inverts (2 ^ 32 - 1)).takes word n e in (t.0, omega (arith, t.1))

short_again : (n : ℕ) → n < 2 ^ 32 → number_in (2 ^ 32 - 1) (number_text n) ≡ Some n
short_again n h = (number_inverts (2 ^ 32 - 1)).again n (omega arith)

number_front : (text : List ℕ) (n : ℕ) → number_in (2 ^ 32 - 1) (take_while is_ascii_digit text) ≡ Some n → text ≡ number_text n ++ after_while is_ascii_digit text
number_front text n e = run_whole is_ascii_digit text ∙ ap (λ w. w ++ after_while is_ascii_digit text) (short_takes (take_while is_ascii_digit text) n e).0

number_takes_by : (text : List ℕ) (x : ℕ × List ℕ) (o : Option ℕ) → number_in (2 ^ 32 - 1) (take_while is_ascii_digit text) ≡ o
    → ◌≡◌ {A = Option (ℕ × List ℕ)} (option_map (λ n. (n, after_while is_ascii_digit text)) o) (Some x) → (text ≡ number_text x.0 ++ x.1) × (x.0 < 2 ^ 32)
number_takes_by text x None at e = absurd (cc e)
number_takes_by text x (Some n) at e =
    let same : ◌≡◌ {A = ℕ × List ℕ} (n, after_while is_ascii_digit text) x = cc e in
    subst (λ (p : ℕ × List ℕ). (text ≡ number_text p.0 ++ p.1) × (p.0 < 2 ^ 32)) same (number_front text n at, (short_takes (take_while is_ascii_digit text) n at).1)

number_takes : (text : List ℕ) (x : ℕ × List ℕ) → number_of text ≡ Some x → (text ≡ number_text x.0 ++ x.1) × (x.0 < 2 ^ 32)
number_takes text x e = number_takes_by text x (number_in (2 ^ 32 - 1) (take_while is_ascii_digit text)) refl e

number_again : (n : ℕ) (rest : List ℕ) → n < 2 ^ 32 → stops is_ascii_digit rest ≡ true → number_of (number_text n ++ rest) ≡ Some (n, rest)
number_again n rest h ends =
    rw (
      front_of_run is_ascii_digit (number_text n) rest (digits-text n) ends,
      rest_of_run is_ascii_digit (number_text n) rest (digits-text n) ends,
      short_again n h,
    ) refl

-- ---- a number after a front

-- a subject that a number makes, after a front
abbrev behind : List ℕ → (ℕ → Subject) → List ℕ → Option Found
behind front make text = stripped front text >> λ rest. number_of rest >> λ x. Some (make x.0, x.1)

behind_takes : (front : List ℕ) (make : ℕ → Subject) (text : List ℕ) (x : Found) → behind front make text ≡ Some x
    → (n : ℕ) × (text ≡ front ++ (number_text n ++ x.1)) × (n < 2 ^ 32) × (make n ≡ x.0)
behind_takes front make text x e =
    let a = bind_some (stripped front text) (λ rest. number_of rest >> λ y. Some (make y.0, y.1)) x e in
    let b = bind_some (number_of a.0) (λ y. Some (make y.0, y.1)) x a.2 in
    let t = number_takes a.0 b.0 b.1 in
    let whole : text ≡ front ++ (number_text b.0.0 ++ b.0.1) = stripped_some front text a.0 a.1 ∙ ap (λ r. front ++ r) t.0 in
    let same : ◌≡◌ {A = Found} (make b.0.0, b.0.1) x = cc b.2 in
    (b.0.0, subst (λ (p : Found). text ≡ front ++ (number_text b.0.0 ++ p.1)) same whole, t.1, ap (λ (p : Found). p.0) same)

behind_again : (front : List ℕ) (make : ℕ → Subject) (n : ℕ) (rest : List ℕ) → n < 2 ^ 32 → stops is_ascii_digit rest ≡ true
    → behind front make (front ++ (number_text n ++ rest)) ≡ Some (make n, rest)
behind_again front make n rest h ends = rw (stripped-append front (number_text n ++ rest), number_again n rest h ends) refl

-- ---- each kind of subject

-- a text spells a subject before another text
abbrev Spells : List ℕ → Found → Type 0
Spells text x = HasSubjectForm x.0 × (text ≡ subject_text x.0 ++ x.1)

module _ (word text : List ℕ) (x : Found) where
  net_takes : (b : Bool) → bytes_eq word (codes "net") ≡ b → when b (behind (codes " ") (λ n. Number (numbers.Net n)) text) ≡ Some x → Spells (word ++ text) x
  net_takes true is e =
      let t = behind_takes (codes " ") (λ n. Number (numbers.Net n)) text x e in
      let named : word ≡ codes "net" = (bytes_eq-Decides word (codes "net")).0 is in
      let whole : word ++ text ≡ subject_text (Number (numbers.Net t.0)) ++ x.1 = ap (λ w. w ++ text) named ∙ ap (λ r. codes "net" ++ r) t.1 in
      (subst HasSubjectForm t.3 t.2, subst (λ s. word ++ text ≡ subject_text s ++ x.1) t.3 whole)
  net_takes false is e = absurd (cc e)

  wire_takes : (b : Bool) → bytes_eq word (codes "wire") ≡ b → when b (behind (codes " ") (λ n. Number (numbers.Wire n)) text) ≡ Some x → Spells (word ++ text) x
  wire_takes true is e =
      let t = behind_takes (codes " ") (λ n. Number (numbers.Wire n)) text x e in
      let named : word ≡ codes "wire" = (bytes_eq-Decides word (codes "wire")).0 is in
      let whole : word ++ text ≡ subject_text (Number (numbers.Wire t.0)) ++ x.1 = ap (λ w. w ++ text) named ∙ ap (λ r. codes "wire" ++ r) t.1 in
      (subst HasSubjectForm t.3 t.2, subst (λ s. word ++ text ≡ subject_text s ++ x.1) t.3 whole)
  wire_takes false is e = absurd (cc e)

  edge_takes : (b : Bool) → is_name word ≡ b → when b (behind (codes " edge ") (λ n. Number (numbers.Edge word n)) text) ≡ Some x → Spells (word ++ text) x
  edge_takes true is e =
      let t = behind_takes (codes " edge ") (λ n. Number (numbers.Edge word n)) text x e in
      let whole : word ++ text ≡ subject_text (Number (numbers.Edge word t.0)) ++ x.1 =
      ap (λ r. word ++ r) t.1 ∙ sym (append_assoc word (codes " edge " ++ number_text t.0) x.1) in
      (subst HasSubjectForm t.3 (is, t.2), subst (λ s. word ++ text ≡ subject_text s ++ x.1) t.3 whole)
  edge_takes false is e = absurd (cc e)

  cause_takes : cause_named word text ≡ Some x → Spells (word ++ text) x
  cause_takes e =
      let a = bind_some (number_in (2 ^ 32 - 1) word) (λ constraint. behind (codes ".") (λ n. Cause (record { constraint = constraint; cause = n })) text) x e in
      let first = short_takes word a.0 a.1 in
      let t = behind_takes (codes ".") (λ n. Cause (record { constraint = a.0; cause = n })) text x a.2 in
      let whole : word ++ text ≡ subject_text (Cause (record { constraint = a.0; cause = t.0 })) ++ x.1 =
      ap (λ w. w ++ text) first.0 ∙ (ap (λ r. number_text a.0 ++ r) t.1 ∙ sym (append_assoc (number_text a.0) (codes "." ++ number_text t.0) x.1)) in
      (subst HasSubjectForm t.3 (first.1, t.2), subst (λ s. word ++ text ≡ subject_text s ++ x.1) t.3 whole)

or_else_takes : (o p : Option Found) (x : Found) → or_else o p ≡ Some x → (o ≡ Some x) ⊎ (p ≡ Some x)
or_else_takes None p x e = inr e
or_else_takes (Some y) p x e = inl e

named_takes : (word text : List ℕ) (x : Found) → subject_named word text ≡ Some x → Spells (word ++ text) x
named_takes word text x e = by_net (or_else_takes (net_named word text) (or_else (wire_named word text) (or_else (part_edge_named word text) (cause_named word text))) x e)
  where
    by_edge : (part_edge_named word text ≡ Some x) ⊎ (cause_named word text ≡ Some x) → Spells (word ++ text) x
    by_edge (inl f) = edge_takes word text x (is_name word) refl f
    by_edge (inr f) = cause_takes word text x f

    by_wire : (wire_named word text ≡ Some x) ⊎ (or_else (part_edge_named word text) (cause_named word text) ≡ Some x) → Spells (word ++ text) x
    by_wire (inl f) = wire_takes word text x (bytes_eq word (codes "wire")) refl f
    by_wire (inr f) = by_edge (or_else_takes (part_edge_named word text) (cause_named word text) x f)

    by_net : (net_named word text ≡ Some x) ⊎ (or_else (wire_named word text) (or_else (part_edge_named word text) (cause_named word text)) ≡ Some x) → Spells (word ++ text) x
    by_net (inl f) = net_takes word text x (bytes_eq word (codes "net")) refl f
    by_net (inr f) = by_wire (or_else_takes (wire_named word text) (or_else (part_edge_named word text) (cause_named word text)) x f)

-- what is read is spelled
pub subject_takes : (text : List ℕ) (x : Found) → subject_of text ≡ Some x → HasSubjectForm x.0 × (text ≡ codes "set " ++ (subject_text x.0 ++ x.1))
unfolding subject_of
subject_takes text x e =
    let a = bind_some (stripped (codes "set ") text) (λ named. subject_named (take_while is_name_byte named) (after_while is_name_byte named)) x e in
    let t = named_takes (take_while is_name_byte a.0) (after_while is_name_byte a.0) x a.2 in
    (t.0, stripped_some (codes "set ") text a.0 a.1 ∙ ap (λ r. codes "set " ++ r) (run_whole is_name_byte a.0 ∙ t.1))

-- ---- what is spelled is read

past : (b : Bool) (p : Option Found) → or_else (when b None) p ≡ p
past true p = refl
past false p = refl

digit_is_name : (b : ℕ) → is_ascii_digit b ≡ true → is_name_byte b ≡ true
digit_is_name b h = grind (arith, nat_tests)

-- the first word of a text
by_word : (word text : List ℕ) → list_all is_name_byte word ≡ true → stops is_name_byte text ≡ true → subject_of (codes "set " ++ (word ++ text)) ≡ subject_named word text
unfolding subject_of
by_word word text all ends = rw (front_of_run is_name_byte word text all ends, rest_of_run is_name_byte word text all ends) refl

cause_again : (constraint cause : ℕ) (rest : List ℕ) → constraint < 2 ^ 32 → cause < 2 ^ 32 → stops is_ascii_digit rest ≡ true
    → subject_named (number_text constraint) (codes "." ++ (number_text cause ++ rest)) ≡ Some (Cause (record { constraint = constraint; cause = cause }), rest)
cause_again constraint cause rest h k ends =
    let text : List ℕ = codes "." ++ (number_text cause ++ rest) in
    let word : List ℕ = number_text constraint in
    let read : cause_named word text ≡ Some (Cause (record { constraint = constraint; cause = cause }), rest) =
    rw (short_again constraint h) (behind_again (codes ".") (λ n. Cause (record { constraint = constraint; cause = n })) cause rest k ends) in
    past (bytes_eq word (codes "net")) (or_else (wire_named word text) (or_else (part_edge_named word text) (cause_named word text)))
    ∙ (past (bytes_eq word (codes "wire")) (or_else (part_edge_named word text) (cause_named word text)) ∙ (past (is_name word) (cause_named word text) ∙ read))

edge_again : (part : List ℕ) (edge : ℕ) (rest : List ℕ) → is_name part ≡ true → edge < 2 ^ 32 → stops is_ascii_digit rest ≡ true
    → subject_named part (codes " edge " ++ (number_text edge ++ rest)) ≡ Some (Number (numbers.Edge part edge), rest)
edge_again part edge rest named h ends =
    let text : List ℕ = codes " edge " ++ (number_text edge ++ rest) in
    let read : part_edge_named part text ≡ Some (Number (numbers.Edge part edge), rest) =
    rw named (behind_again (codes " edge ") (λ n. Number (numbers.Edge part n)) edge rest h ends) in
    past (bytes_eq part (codes "net")) (or_else (wire_named part text) (or_else (part_edge_named part text) (cause_named part text)))
    ∙ (past (bytes_eq part (codes "wire")) (or_else (part_edge_named part text) (cause_named part text)) ∙ ap (λ (o : Option Found). or_else o (cause_named part text)) read)

net_again : (net : ℕ) (rest : List ℕ) → net < 2 ^ 32 → stops is_ascii_digit rest ≡ true
    → subject_named (codes "net") (codes " " ++ (number_text net ++ rest)) ≡ Some (Number (numbers.Net net), rest)
net_again net rest h ends =
    let text : List ℕ = codes " " ++ (number_text net ++ rest) in
    ap (λ (o : Option Found). or_else o (or_else (wire_named (codes "net") text) (or_else (part_edge_named (codes "net") text) (cause_named (codes "net") text))))
    (behind_again (codes " ") (λ n. Number (numbers.Net n)) net rest h ends)

wire_again : (wire : ℕ) (rest : List ℕ) → wire < 2 ^ 32 → stops is_ascii_digit rest ≡ true
    → subject_named (codes "wire") (codes " " ++ (number_text wire ++ rest)) ≡ Some (Number (numbers.Wire wire), rest)
wire_again wire rest h ends =
    let text : List ℕ = codes " " ++ (number_text wire ++ rest) in
    ap (λ (o : Option Found). or_else o (or_else (part_edge_named (codes "wire") text) (cause_named (codes "wire") text)))
    (behind_again (codes " ") (λ n. Number (numbers.Wire n)) wire rest h ends)

number_named : (number : DrawnNumber) (rest : List ℕ) → HasNumberForm number → stops is_ascii_digit rest ≡ true
    → subject_of (codes "set " ++ (subject_text (Number number) ++ rest)) ≡ Some (Number number, rest)
number_named (numbers.Edge part edge) rest form ends =
    let text : List ℕ = codes " edge " ++ (number_text edge ++ rest) in
    let bytes : list_all is_name_byte part ≡ true = (and_parts (leb 1 (length part) && leb (length part) MAX_NAME_LEN) (list_all is_name_byte part) form.0).1 in
    ap (λ r. subject_of (codes "set " ++ r)) (append_assoc part (codes " edge " ++ number_text edge) rest)
    ∙ (by_word part text bytes refl ∙ edge_again part edge rest form.0 form.1 ends)
number_named (numbers.Net net) rest form ends = by_word (codes "net") (codes " " ++ (number_text net ++ rest)) refl refl ∙ net_again net rest form ends
number_named (numbers.Wire wire) rest form ends = by_word (codes "wire") (codes " " ++ (number_text wire ++ rest)) refl refl ∙ wire_again wire rest form ends

-- what is spelled is read
pub subject_again : (s : Subject) (rest : List ℕ) → HasSubjectForm s → stops is_ascii_digit rest ≡ true → subject_of (codes "set " ++ (subject_text s ++ rest)) ≡ Some (s, rest)
subject_again (Cause name) rest form ends =
    let text : List ℕ = codes "." ++ (number_text name.cause ++ rest) in
    let bytes : list_all is_name_byte (number_text name.constraint) ≡ true =
    all_weaker is_ascii_digit is_name_byte digit_is_name (number_text name.constraint) (digits-text name.constraint) in
    ap (λ r. subject_of (codes "set " ++ r)) (append_assoc (number_text name.constraint) (codes "." ++ number_text name.cause) rest)
    ∙ (by_word (number_text name.constraint) text bytes refl ∙ cause_again name.constraint name.cause rest form.0 form.1 ends)
subject_again (Number number) rest form ends = number_named number rest form ends
