-- Several puts in a row: what was put of a text, and what is left of it.
use Rattle.std.proofs.Common.{◌≡◌, ℕ, ◌+◌, ◌<◌, ◌≤◌, List, [], ◌++◌, length, take, drop, map, get_or, Option, Some, None, option_map, Result, Ok, Err, Bor, refl, sym, ◌∙◌, ap, append_assoc, append-nil, arith, length-append, add-one, drop-cons}
use Rattle.std.specs.List.{concat}
use Rattle.std.specs.Bool.{⊤}
use Rattle.std.proofs.Math.Seq.{take-append-add}
use Rattle.std.proofs.lemmas.List.{drop-map, take-append-le}
use Rattle.itv_base.specs.Outside.{SinkState, grown, CutShort, Puts}

known-nil : (o : Option (List ℕ)) → o ≡ option_map (λ known. known ++ []) o
known-nil None = refl
known-nil (Some known) = simp append-nil

known-append : (o : Option (List ℕ)) (a b : List ℕ) → option_map (λ known. known ++ b) (option_map (λ known. known ++ a) o) ≡ option_map (λ known. known ++ (a ++ b)) o
known-append None a b = refl
known-append (Some known) a b = ap Some (append_assoc known a b)

pub grown-nil : (state : SinkState) → state ≡ grown state []
grown-nil state = ap (λ o. record state { written = o }) (known-nil state.written)

pub grown-append : (state : SinkState) (a b : List ℕ) → grown (grown state a) b ≡ grown state (a ++ b)
grown-append state a b = ap (λ o. record state { written = o }) (known-append state.written a b)

-- ---- one put after another

-- a front of a text was put; it is a front of a longer text too
pub cut_more : (old new : SinkState) (xs ys : List ℕ) → CutShort old new xs → CutShort old new (xs ++ ys)
cut_more old new xs ys c =
    let n : ℕ = c.front.0 in
    let within : n ≤ length xs = c.front.1 in
    record {
      front = (n, omega (arith, length-append xs ys), c.front.2 ∙ ap (λ f. (grown old f).written) (sym (take-append-le n xs ys within)));
      count = c.count;
      rose = c.rose;
    }

-- a text was put, and then a front of another
pub cut_then : (old mid new : SinkState) (xs ys : List ℕ) → mid ≡ grown old xs → CutShort mid new ys → CutShort old new (xs ++ ys)
cut_then old mid new xs ys e c =
    let n : ℕ = c.front.0 in
    let within : n ≤ length ys = c.front.1 in
    let front : xs ++ take n ys ≡ take (length xs + n) (xs ++ ys) = sym (take-append-add xs ys n) in
    let written : new.written ≡ (grown old (take (length xs + n) (xs ++ ys))).written =
    c.front.2 ∙ ap (λ m. (grown m (take n ys)).written) e ∙ known-append old.written xs (take n ys) ∙ ap (λ f. (grown old f).written) front in
    record {
      front = (length xs + n, omega (arith, length-append xs ys), written);
      count = rw e at c.count;
      rose = rw e at c.rose;
    }

-- a text was put, and then another, or a front of it
pub puts_then : {E : Type 0} (old mid new : SinkState) (xs ys : List ℕ) (r : Result ⊤ E) → mid ≡ grown old xs → Puts mid new ys r → Puts old new (xs ++ ys) r
puts_then old mid new xs ys (Ok x) e p = p ∙ ap (λ m. grown m ys) e ∙ grown-append old xs ys
puts_then old mid new xs ys (Err fault) e p = cut_then old mid new xs ys e p

-- the same text, written otherwise
pub puts_same : {E : Type 0} (old new : SinkState) (xs ys : List ℕ) (r : Result ⊤ E) → xs ≡ ys → Puts old new xs r → Puts old new ys r
puts_same old new xs ys (Ok x) e p = p ∙ ap (grown old) e
puts_same old new xs ys (Err fault) e p = rw (← e) p

-- ---- loops

-- Some of the whole text is put, without a fault, and the rest is left.
pub record Left (old now : SinkState) (left whole : List ℕ) : Type 0 where
  pub done : List ℕ
  pub parts : done ++ left ≡ whole
  pub grew : now ≡ grown old done

-- all of it is left at first
pub left_all : (old : SinkState) (whole : List ℕ) → Left old old whole whole
left_all old whole = record { done = []; parts = refl; grew = grown-nil old }

-- a piece more is put
pub left_after : (old now next : SinkState) (piece rest left whole : List ℕ) → Left old now left whole → left ≡ piece ++ rest → next ≡ grown now piece → Left old next rest whole
left_after old now next piece rest left whole l e p = record {
  done = l.done ++ piece;
  parts = append_assoc l.done piece rest ∙ ap (λ r. l.done ++ r) (sym e) ∙ l.parts;
  grew = p ∙ ap (λ m. grown m piece) l.grew ∙ grown-append old l.done piece;
}

-- nothing is left in the end
pub left_none : (old now : SinkState) (left whole : List ℕ) → Left old now left whole → left ≡ [] → now ≡ grown old whole
left_none old now left whole l e =
    l.grew ∙ ap (grown old) (sym (append-nil l.done) ∙ ap (λ r. l.done ++ r) (sym e) ∙ l.parts)

-- a piece more fails
pub left_cut : (old now next : SinkState) (piece rest left whole : List ℕ) → Left old now left whole → left ≡ piece ++ rest → CutShort now next piece → CutShort old next whole
left_cut old now next piece rest left whole l e c =
    let all : l.done ++ (piece ++ rest) ≡ whole = ap (λ r. l.done ++ r) (sym e) ∙ l.parts in
    rw (← all) (cut_then old now next l.done (piece ++ rest) l.grew (cut_more now next piece rest c))

-- the last piece, whether it is put or fails
pub left_last : {E : Type 0} (old now next : SinkState) (piece whole : List ℕ) (r : Result ⊤ E) → Left old now piece whole → Puts now next piece r → Puts old next whole r
left_last old now next piece whole r l p = puts_same old next (l.done ++ piece) whole r l.parts (puts_then old now next l.done piece r l.grew p)

-- the bytes of the pieces from a number on
pub pieces_at : (pieces : List (Bor (List ℕ))) (i : ℕ) (d : Bor (List ℕ)) → i < length pieces
    → concat (drop i (map (λ (p : Bor (List ℕ)). p.now) pieces)) ≡ (get_or pieces i d).now ++ concat (drop (i + 1) (map (λ (p : Bor (List ℕ)). p.now) pieces))
pieces_at pieces i d h = rw (drop-map, drop-map, add-one, drop-cons pieces i d h) refl
