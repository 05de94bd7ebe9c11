use Rattle.std.proofs.Common.{List, ℕ, Bor, map, drop}
use Rattle.std.specs.List.{flat_map}
use Rattle.itv_base.proofs.Written.{Left}
use Rattle.line_words.specs.Lines.{spaced}
use Rattle.line_words.proofs.put.put_others.Given as goal

abbrev pub invariant-loop-word : goal.invariant-loop-word
invariant-loop-word g l =
    Left (g.K.Sink.state l.fn.sink) (g.K.Sink.state l.sink) (flat_map spaced (drop l.word-index (map (λ (w : Bor (List ℕ)). w.now) l.others))) (flat_map spaced (map (λ (w : Bor (List ℕ)). w.now) l.others))
