use Rattle.std.proofs.Common.{◌∙◌}
use Rattle.wavejson.proofs.Texts.{edge_texts-array, texts_of-fault, texts_of-strings}
use Rattle.wavejson.proofs.edges.edge_list.Goals as goal

pub returns-in-Some-first_no_string : goal.returns-in-Some-first_no_string
returns-in-Some-first_no_string c =
    edge_texts-array _ _ _ c.in-Some.ensures (rw (← c.deref.ensures.value) at c.in-Some-as_array.ensures) ∙ texts_of-fault _ _ c.in-Some-first_no_string.ensures

pub returns-in-None : goal.returns-in-None
returns-in-None c =
    rw c.deref-in-None.ensures.value (edge_texts-array _ _ _ c.in-Some.ensures c.in-Some-as_array.ensures ∙ texts_of-strings _ (rw c.deref.ensures.value at c.in-None.ensures))
