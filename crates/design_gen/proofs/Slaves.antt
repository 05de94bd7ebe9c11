-- Lists with an entry for each slave, made one after another.
use Rattle.std.proofs.Common.{◌≡◌, ◌+◌, ℕ, List, [], ◌∷◌, ◌++◌, map, append_assoc, Result, Ok, Err, IfOk, ◌∙◌, ap, sym, refl, arith}
use Rattle.std.specs.List.{range_with_len}
use Rattle.std.proofs.lemmas.List.FromFn.{map-range_with_len_more}
use Rattle.std.proofs.lemmas.List.{map-append}
use Rattle.serde_json.specs.Data.{Data}
use Rattle.design_gen.specs.Trees.{bus, list, netlist, nets, parts, wires}
use Rattle.serde_json.specs.View.{view}
use Rattle.serde_json.specs.declared.value.Value.{Value}

-- the tree of one more slave was pushed
pub one_pushed : (f : ℕ → Data) (count : ℕ) (front : List Data) (list now : List Value) (tree : Value) → now ≡ list ++ tree ∷ [] → map view list ≡ front ++ map f (range_with_len 0 count)
    → view tree ≡ f count → map view now ≡ front ++ map f (range_with_len 0 (count + 1))
one_pushed f count front list now tree pushed before is =
    ap (map view) pushed ∙ map-append view list (tree ∷ []) ∙ ap (λ trees. trees ++ view tree ∷ []) before
    ∙ ap (λ d. (front ++ map f (range_with_len 0 count)) ++ d ∷ []) is
    ∙ append_assoc front (map f (range_with_len 0 count)) (f count ∷ [])
    ∙ ap (λ trees. front ++ trees) (sym (map-range_with_len_more f 0 count count (omega arith)))

-- a tree that was made is the wanted tree, by an equation
pub made_as : {E : Type 0} (result : Result Value E) (tree wanted : Data) → IfOk result (λ made. view made ≡ tree) → tree ≡ wanted → IfOk result (λ made. view made ≡ wanted)
made_as (Ok made) tree wanted is same = is ∙ same
made_as (Err e) tree wanted is same = tt

-- the parts of the netlist
pub bus_is : (n : ℕ) (all joins edges : Data) → all ≡ list (parts n) → joins ≡ list (nets n) → edges ≡ list (wires n) → netlist all joins edges ≡ bus n
unfolding bus
bus_is n all joins edges one two three = rw (one, two, three) refl
