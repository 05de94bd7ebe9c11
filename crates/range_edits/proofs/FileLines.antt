-- A file of edits is read line by line: the edits that were read stand before the edits that are still to be read.
use Rattle.std.proofs.Common.{◌≡◌, ◌==◌, ◌+◌, ◌<◌, ℕ, Bool, true, false, cond, List, [], ◌∷◌, ◌++◌, length, All, Some, None, Result, Ok, Err, IfOk, IsErrAnd, if◌then◌else◌, refl, sym, ap, subst, ◌∙◌, arith, append_assoc, append-nil, length-append}
use Rattle.std.specs.List.{after_first, before_first, onto_first, position_or_len, slice_split}
use Rattle.std.specs.Str.{IsUtf8, is_utf8}
use Rattle.std.proofs.lemmas.List.Elements.{All-cons}
use Rattle.std.proofs.lemmas.Str.{IsUtf8-from_is_utf8, is_utf8-from_IsUtf8}
use Rattle.itv_base.specs.Reading.{◌>>=◌, AgreesWith, IsReadingFault, UnlessTrue}
use Rattle.itv_base.specs.Range.{Ends}
use Rattle.label_grammar.specs.Ends.{judged_alone, only_ends}
use Rattle.label_grammar.specs.Reading.{ends_of}
use Rattle.line_words.specs.Lines.{is_feed}
use Rattle.line_words.proofs.Cutting.{cut_is, uncut_is}
use Rattle.drawn_networks.specs.Drawn.{Drawn}
use Rattle.range_edits.specs.declared.edit.RangeEdit.{RangeEdit}
use Rattle.range_edits.specs.declared.fault.EditsFault.{EditsFault}
use Rattle.range_edits.specs.declared.fault.EditsFault.TheVariants.{Line}
use Rattle.range_edits.specs.declared.edit.Subject.{Subject}
use Rattle.range_edits.specs.Subject.{IsThere}
use Rattle.range_edits.specs.EditLine.{edit_at, edit_named, edit_there, range_judged, subject_of}
use Rattle.range_edits.specs.EditsFile.{edits_from, is_memory}
use Rattle.range_edits.proofs.EditTexts.{edit_takes}

-- ---- one line

-- a line that is a text
pub edit_text : (drawn : Drawn) (n : ℕ) (line text : List ℕ) (result : Result RangeEdit EditsFault) → IsUtf8 line → text ≡ line
    → AgreesWith is_memory (λ (e : RangeEdit). e) result (edit_named drawn n (subject_of text)) → AgreesWith is_memory (λ (e : RangeEdit). e) result (edit_at drawn n line)
edit_text drawn n line text result is_text same is =
    rw (is_utf8-from_IsUtf8 line is_text) (subst (λ t. AgreesWith is_memory (λ (e : RangeEdit). e) result (edit_named drawn n (subject_of t))) same is)

untext_by : (drawn : Drawn) (n : ℕ) (line : List ℕ) (b : Bool) → is_utf8 line ≡ b → (IsUtf8 line → ⊥)
    → ◌≡◌ {A = Result RangeEdit EditsFault} (if b then edit_named drawn n (subject_of line) else Err (Line n)) (Err (Line n))
untext_by drawn n line true is other = absurd (other (IsUtf8-from_is_utf8 line is))
untext_by drawn n line false is other = refl

-- a line that is no text
pub edit_untext : (drawn : Drawn) (n : ℕ) (line : List ℕ) → (IsUtf8 line → ⊥) → edit_at drawn n line ≡ Err (Line n)
edit_untext drawn n line other = untext_by drawn n line (is_utf8 line) refl other

-- a line that names nothing, one whose range has a fault, and one that names something and has a range
pub edit_unnamed : (drawn : Drawn) (n : ℕ) (text : List ℕ) → subject_of text ≡ None → edit_named drawn n (subject_of text) ≡ Err (Line n)
edit_unnamed drawn n text is = ap (edit_named drawn n) is

pub edit_unranged : (drawn : Drawn) (n : ℕ) (text rest : List ℕ) (s : Subject) (fault : EditsFault) → subject_of text ≡ Some (s, rest)
    → range_judged n (judged_alone (only_ends (ends_of rest))) ≡ Err fault → edit_named drawn n (subject_of text) ≡ Err fault
edit_unranged drawn n text rest s fault is ranged =
    ap (edit_named drawn n) is ∙ ap (λ (o : Result Ends EditsFault). o >>= λ range. edit_there drawn n (record { subject = s; range = range })) ranged

pub edit_ranged : (drawn : Drawn) (n : ℕ) (text rest : List ℕ) (s : Subject) (range : Ends) → subject_of text ≡ Some (s, rest)
    → range_judged n (judged_alone (only_ends (ends_of rest))) ≡ Ok range → edit_named drawn n (subject_of text) ≡ edit_there drawn n (record { subject = s; range = range })
edit_ranged drawn n text rest s range is ranged =
    ap (edit_named drawn n) is ∙ ap (λ (o : Result Ends EditsFault). o >>= λ r. edit_there drawn n (record { subject = s; range = r })) ranged

-- ---- the first line of a text

-- a text has at least one part
abbrev HasPart : List (List ℕ) → Type 0
HasPart [] = ⊥
HasPart (part ∷ parts) = Unit {0}

cons_part : (b : Bool) (byte : ℕ) (parts : List (List ℕ)) → HasPart parts → HasPart (cond b ([] ∷ parts) (onto_first byte parts))
cons_part true byte parts some = tt
cons_part false byte [] some = tt
cons_part false byte (part ∷ parts) some = tt

split_some : (text : List ℕ) → HasPart (slice_split is_feed text)
split_some [] = tt
split_some (b ∷ text) = cons_part (is_feed b) b (slice_split is_feed text) (split_some text)

-- ---- the edits so far

-- edits that were read, before the edits that are still to be read
abbrev pub behind_edits : List RangeEdit → Result (List RangeEdit) EditsFault → Result (List RangeEdit) EditsFault
behind_edits front rest = rest >>= λ others. Ok (front ++ others)

-- the edits so far, and the text that is left
abbrev pub EditsSoFar : Drawn → List RangeEdit → List ℕ → Result (List RangeEdit) EditsFault → Type 0
EditsSoFar drawn edits text total = behind_edits edits (edits_from drawn (length edits + 1) (slice_split is_feed text)) ≡ total

none_by : (rest : Result (List RangeEdit) EditsFault) → behind_edits [] rest ≡ rest
none_by (Ok others) = refl
none_by (Err fault) = refl

pub none_yet : (drawn : Drawn) (text : List ℕ) → EditsSoFar drawn [] text (edits_from drawn 1 (slice_split is_feed text))
none_yet drawn text = none_by (edits_from drawn 1 (slice_split is_feed text))

more_by : (front : List RangeEdit) (edit : RangeEdit) (rest : Result (List RangeEdit) EditsFault)
    → behind_edits front (rest >>= λ others. Ok (edit ∷ others)) ≡ behind_edits (front ++ edit ∷ []) rest
more_by front edit (Ok others) = ap (λ es. Ok es) (sym (append_assoc front (edit ∷ []) others))
more_by front edit (Err fault) = refl

-- a line before others
line_first : (drawn : Drawn) (n : ℕ) (line : List ℕ) (lines : List (List ℕ)) → HasPart lines
    → edits_from drawn n (line ∷ lines) ≡ (edit_at drawn n line >>= λ first. edits_from drawn (n + 1) lines >>= λ others. Ok (first ∷ others))
line_first drawn n line [] some = absurd some
line_first drawn n line (next ∷ lines) some = refl

module _ (drawn : Drawn) (edits : List RangeEdit) (text line behind : List ℕ) (n : ℕ) (total : Result (List RangeEdit) EditsFault) (so_far : EditsSoFar drawn edits text total)
    (cut : position_or_len is_feed text < length text) (first : line ≡ before_first is_feed text) (rest : behind ≡ after_first is_feed text) (number : n ≡ length edits + 1) where
  one_line : behind_edits edits (edit_at drawn n line >>= λ first. edits_from drawn (n + 1) (slice_split is_feed behind) >>= λ others. Ok (first ∷ others)) ≡ total
  one_line =
      let step : edits_from drawn n (slice_split is_feed text) ≡ (edit_at drawn n line >>= λ first. edits_from drawn (n + 1) (slice_split is_feed behind) >>= λ others. Ok (first ∷ others)) =
      ap (edits_from drawn n) (cut_is text line behind cut first rest) ∙ line_first drawn n line (slice_split is_feed behind) (split_some behind) in
      ap (behind_edits edits) (sym step ∙ ap (λ m. edits_from drawn m (slice_split is_feed text)) number) ∙ so_far

  -- one more line is read
  pub goes_on : (edit : RangeEdit) (more : List RangeEdit) → Ok edit ≡ edit_at drawn n line → more ≡ edits ++ edit ∷ [] → EditsSoFar drawn more behind total
  goes_on edit more read grows =
      let next : n + 1 ≡ length (edits ++ edit ∷ []) + 1 = omega (arith, number, length-append edits (edit ∷ [])) in
      let others : Result (List RangeEdit) EditsFault = edits_from drawn (n + 1) (slice_split is_feed behind) in
      let step : behind_edits edits (others >>= λ others. Ok (edit ∷ others)) ≡ total =
      ap (λ (o : Result RangeEdit EditsFault). behind_edits edits (o >>= λ first. others >>= λ others. Ok (first ∷ others))) read ∙ one_line in
      rw grows (ap (λ m. behind_edits (edits ++ edit ∷ []) (edits_from drawn m (slice_split is_feed behind))) (sym next) ∙ (sym (more_by edits edit others) ∙ step))

  -- a line with a fault ends the reading
  pub stops : (fault : EditsFault) → Err fault ≡ edit_at drawn n line → total ≡ Err fault
  stops fault read =
      sym (ap (λ (o : Result RangeEdit EditsFault). behind_edits edits (o >>= λ first. edits_from drawn (n + 1) (slice_split is_feed behind) >>= λ others. Ok (first ∷ others))) read ∙ one_line)

unless_is : (b : Bool) (P : Type 0) → P → UnlessTrue b P
unless_is true P p = tt
unless_is false P p = p

unless_more : (b : Bool) (P Q : Type 0) → (P → Q) → UnlessTrue b P → UnlessTrue b Q
unless_more true P Q f p = tt
unless_more false P Q f p = f p

pub shown : (total : Result (List RangeEdit) EditsFault) (fault : EditsFault) → total ≡ Err fault → IsReadingFault is_memory total fault
shown total fault is = unless_is (is_memory fault) (total ≡ Err fault) is

-- what the exit of a `?` returns: the fault of a line is the fault of the reading, unless memory ran out
pub stops_by : (total : Result (List RangeEdit) EditsFault) (line : Result RangeEdit EditsFault) (result : Result (List RangeEdit) EditsFault) (fault : EditsFault)
    → IsErrAnd result (λ other. other ≡ fault) → IsReadingFault is_memory line fault → (Err fault ≡ line → total ≡ Err fault)
    → AgreesWith is_memory (λ (edits : List RangeEdit). edits) result total
stops_by total line (Ok edits) fault out is leads = absurd out
stops_by total line (Err other) fault out is leads =
    rw out (unless_more (is_memory fault) (line ≡ Err fault) (total ≡ Err fault) (λ read. leads (sym read)) is)

-- ---- the end

module _ (drawn : Drawn) (edits : List RangeEdit) (text : List ℕ) (total : Result (List RangeEdit) EditsFault) (so_far : EditsSoFar drawn edits text total)
    (uncut : position_or_len is_feed text ≡ length text) where
  last_part : behind_edits edits (if length text == 0 then Ok [] else Err (Line (length edits + 1))) ≡ total
  last_part = ap (λ parts. behind_edits edits (edits_from drawn (length edits + 1) parts)) (sym (uncut_is text uncut)) ∙ so_far

  -- nothing is left
  pub ends_whole : (length text == 0) ≡ true → total ≡ Ok edits
  ends_whole empty = sym last_part ∙ rw empty (ap (λ es. Ok es) (append-nil edits))

  -- something is left that is no line
  pub ends_short : (n : ℕ) → (length text == 0) ≡ false → n ≡ length edits + 1 → total ≡ Err (Line n)
  ends_short n some number = sym last_part ∙ rw some (ap (λ m. Err (Line m)) (sym number))

-- ---- the causes are there

there_more : (drawn : Drawn) (n : ℕ) (line : List ℕ) (o : Result RangeEdit EditsFault) (r : Result (List RangeEdit) EditsFault) (edits : List RangeEdit) → edit_at drawn n line ≡ o
    → (o >>= λ first. r >>= λ others. Ok (first ∷ others)) ≡ Ok edits → ((others : List RangeEdit) → r ≡ Ok others → All (IsThere drawn) others) → All (IsThere drawn) edits
there_more drawn n line (Ok e) (Ok others) edits is h all =
    let same : e ∷ others ≡ edits = cc in
    let first : IsThere drawn e = (edit_takes drawn n line e is).there in
    subst (All (IsThere drawn)) same (All-cons (IsThere drawn) e others first (all others refl))
there_more drawn n line (Ok e) (Err fault) edits is h all = absurd (cc)
there_more drawn n line (Err fault) r edits is h all = absurd (cc)

none_there : (drawn : Drawn) (n : ℕ) (b : Bool) (edits : List RangeEdit) → ◌≡◌ {A = Result (List RangeEdit) EditsFault} (if b then Ok [] else Err (Line n)) (Ok edits) → All (IsThere drawn) edits
none_there drawn n true edits h = let same : [] ≡ edits = cc in subst (All (IsThere drawn)) same (λ k d within. absurd (omega arith))
none_there drawn n false edits h = absurd (cc)

-- the cause of each edit that was read is there
pub edits_there : (drawn : Drawn) (n : ℕ) (lines : List (List ℕ)) (edits : List RangeEdit) → edits_from drawn n lines ≡ Ok edits → All (IsThere drawn) edits
edits_there drawn n [] edits h = none_there drawn n true edits h
edits_there drawn n (rest ∷ []) edits h = none_there drawn n (length rest == 0) edits h
edits_there drawn n (line ∷ next ∷ lines) edits h =
    there_more drawn n line (edit_at drawn n line) (edits_from drawn (n + 1) (next ∷ lines)) edits refl h (edits_there drawn (n + 1) (next ∷ lines))

pub there_read : (drawn : Drawn) (lines : List (List ℕ)) (result : Result (List RangeEdit) EditsFault) → AgreesWith is_memory (λ (edits : List RangeEdit). edits) result (edits_from drawn 1 lines)
    → IfOk result (All (IsThere drawn))
there_read drawn lines (Ok edits) read = edits_there drawn 1 lines edits read
there_read drawn lines (Err fault) read = tt

pub there_of : (drawn : Drawn) (bytes : List ℕ) (result : Result (List RangeEdit) EditsFault) → AgreesWith is_memory (λ (edits : List RangeEdit). edits) result (edits_from drawn 1 (slice_split is_feed bytes))
    → IfOk result (All (IsThere drawn))
there_of drawn bytes result read = there_read drawn (slice_split is_feed bytes) result read
