-- Texts of several pieces.
use Rattle.std.proofs.Common.{◌≡◌, ℕ, List, ◌++◌, subst, sym}
use Rattle.std.specs.Bool.{⊤}
use Rattle.std.specs.Prelude.{Result}
use Rattle.std.specs.List.{flat_map}
use Rattle.std.proofs.lemmas.Grind.{flat_map-append}
use Rattle.itv_base.specs.Outside.{CutShort, SinkState, grown, Puts}
use Rattle.itv_base.proofs.Written.{cut_more, cut_then, puts_same, puts_then}
use Rattle.line_words.specs.Words.{Word}
use Rattle.line_words.specs.Lines.{spaced}

pub cut_one : (old new : SinkState) (a rest whole : List ℕ) → a ++ rest ≡ whole → CutShort old new a → CutShort old new whole
cut_one old new a rest whole e cut = subst (CutShort old new) e (cut_more old new a rest cut)

pub cut_two : (old m new : SinkState) (a b rest whole : List ℕ) → a ++ (b ++ rest) ≡ whole → m ≡ grown old a → CutShort m new b → CutShort old new whole
cut_two old m new a b rest whole e put cut = subst (CutShort old new) e (cut_then old m new a (b ++ rest) put (cut_more m new b rest cut))

pub cut_three : (old m n new : SinkState) (a b c rest whole : List ℕ) → a ++ (b ++ (c ++ rest)) ≡ whole → m ≡ grown old a → n ≡ grown m b → CutShort n new c → CutShort old new whole
cut_three old m n new a b c rest whole e put more cut =
    subst (CutShort old new) e (cut_then old m new a (b ++ (c ++ rest)) put (cut_then m n new b (c ++ rest) more (cut_more n new c rest cut)))

pub put_two : {E : Type 0} (old m new : SinkState) (a b whole : List ℕ) (r : Result ⊤ E) → a ++ b ≡ whole → m ≡ grown old a → Puts m new b r → Puts old new whole r
put_two old m new a b whole r e put last = puts_same old new _ whole r e (puts_then old m new a b r put last)

pub put_three : {E : Type 0} (old m n new : SinkState) (a b c whole : List ℕ) (r : Result ⊤ E) → a ++ (b ++ c) ≡ whole → m ≡ grown old a → n ≡ grown m b → Puts n new c r → Puts old new whole r
put_three old m n new a b c whole r e put more last = puts_same old new _ whole r e (puts_then old m new a (b ++ c) r put (puts_then m n new b c r more last))

pub put_four : {E : Type 0} (old m n o new : SinkState) (a b c d whole : List ℕ) (r : Result ⊤ E) → a ++ (b ++ (c ++ d)) ≡ whole → m ≡ grown old a → n ≡ grown m b → o ≡ grown n c
    → Puts o new d r → Puts old new whole r
put_four old m n o new a b c d whole r e put more third last =
    puts_same old new _ whole r e (puts_then old m new a (b ++ (c ++ d)) r put (puts_then m n new b (c ++ d) r more (puts_then n o new c d r third last)))

-- the words of two lists
pub spaced_two : (words more : List Word) → flat_map spaced words ++ flat_map spaced more ≡ flat_map spaced (words ++ more)
spaced_two words more = sym (flat_map-append spaced words more)
