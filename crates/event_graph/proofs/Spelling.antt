-- The lines of trees are read, and all lines that are read are lines of trees.
use Rattle.std.proofs.Common.{◌≡◌, ◌≤◌, ℕ, zero, suc, List, [], ◌∷◌, ◌++◌, length, sym, ap, ◌∙◌, refl, subst, arith, append-nil, append_assoc}
use Rattle.event_graph.specs.Network.{Net}
use Rattle.event_graph.specs.Proof.{Case, Loop, MaySplit, Path, ProofGoal, ProofLine, ProofLeaves, Split, cases_of}
use Rattle.event_graph.specs.Trees.{ProofIsTree, ProveEach, Proves, Tree, Trees, by_loop, by_path, by_split, no_more, one_more, tree_lines, trees_lines}

-- ---- the lines of trees are read

mutual
  tree_read : (net : Net) (goal : ProofGoal) (chosen : Case) (tree : Tree) (cases left : List Case) (more : List ProofLine) → Proves net goal chosen tree
      → ProofLeaves net goal cases more left → ProofLeaves net goal (chosen ∷ cases) (tree_lines tree ++ more) left
  tree_read net goal chosen (by_path names) cases left more proves rest = (proves, rest)
  tree_read net goal chosen (by_loop names) cases left more proves rest = (proves, rest)
  tree_read net goal chosen (by_split number trees) cases left more proves rest = (proves.0, trees_read net goal (cases_of net chosen number) trees cases left more proves.1 rest)

  trees_read : (net : Net) (goal : ProofGoal) (each : List Case) (trees : Trees) (cases left : List Case) (more : List ProofLine) → ProveEach net goal each trees
      → ProofLeaves net goal cases more left → ProofLeaves net goal (each ++ cases) (trees_lines trees ++ more) left
  trees_read net goal [] no_more cases left more prove rest = rest
  trees_read net goal [] (one_more tree trees) cases left more prove rest = absurd prove
  trees_read net goal (chosen ∷ each) no_more cases left more prove rest = absurd prove
  trees_read net goal (chosen ∷ each) (one_more tree trees) cases left more prove rest =
      subst (λ lines. ProofLeaves net goal (chosen ∷ (each ++ cases)) lines left) (sym (append_assoc (tree_lines tree) (trees_lines trees) more))
      (tree_read net goal chosen tree (each ++ cases) left (trees_lines trees ++ more) prove.0 (trees_read net goal each trees cases left more prove.1 rest))

-- ---- all lines that are read are lines of trees

-- the trees that are read for the first cases, and the lines after them
record Spelled (net : Net) (goal : ProofGoal) (each cases : List Case) (lines : List ProofLine) : Type 0 where
  trees : Trees
  more : List ProofLine
  prove : ProveEach net goal each trees
  parts : lines ≡ trees_lines trees ++ more
  rest : ProofLeaves net goal cases more []
  shorter : length more ≤ length lines

-- a line closes the first case
closed : (net : Net) (goal : ProofGoal) (chosen : Case) (each cases : List Case) (tree : Tree) (line : ProofLine) (lines : List ProofLine) → Proves net goal chosen tree
    → tree_lines tree ≡ line ∷ [] → Spelled net goal each cases lines → Spelled net goal (chosen ∷ each) cases (line ∷ lines)
closed net goal chosen each cases tree line lines proves own s = record {
  trees = one_more tree s.trees;
  more = s.more;
  prove = (proves, s.prove);
  parts = ap (λ ls. line ∷ ls) s.parts ∙ ap (λ ls. (ls ++ trees_lines s.trees) ++ s.more) (sym own);
  rest = s.rest;
  shorter = omega (arith, s.shorter);
}

-- lines split the first case, and the lines of the other cases follow
split_up : (net : Net) (goal : ProofGoal) (chosen : Case) (number : ℕ) (each cases : List Case) (lines : List ProofLine) → MaySplit net chosen number
    → (s : Spelled net goal (cases_of net chosen number) (each ++ cases) lines) → Spelled net goal each cases s.more → Spelled net goal (chosen ∷ each) cases (Split number ∷ lines)
split_up net goal chosen number each cases lines may s t = record {
  trees = one_more (by_split number s.trees) t.trees;
  more = t.more;
  prove = ((may, s.prove), t.prove);
  parts = ap (λ ls. Split number ∷ ls) (s.parts ∙ (ap (λ ls. trees_lines s.trees ++ ls) t.parts ∙ sym (append_assoc (trees_lines s.trees) (trees_lines t.trees) t.more)));
  rest = t.rest;
  shorter = omega (arith, s.shorter, t.shorter);
}

no_lines : (net : Net) (goal : ProofGoal) (chosen : Case) (cases : List Case) → ProofLeaves net goal (chosen ∷ cases) [] [] → ⊥
no_lines net goal chosen cases reads = cc

spell : (fuel : ℕ) (net : Net) (goal : ProofGoal) (each cases : List Case) (lines : List ProofLine) → length lines ≤ fuel → ProofLeaves net goal (each ++ cases) lines []
    → Spelled net goal each cases lines
spell fuel net goal [] cases lines enough reads = record {
  trees = no_more;
  more = lines;
  prove = tt;
  parts = refl;
  rest = reads;
  shorter = omega arith;
}
spell fuel net goal (chosen ∷ each) cases [] enough reads = absurd (no_lines net goal chosen (each ++ cases) reads)
spell zero net goal (chosen ∷ each) cases (line ∷ lines) enough reads = absurd (omega arith)
spell (suc fuel) net goal (chosen ∷ each) cases (Path names ∷ lines) enough reads =
    closed net goal chosen each cases (by_path names) (Path names) lines reads.0 refl (spell fuel net goal each cases lines (omega arith) reads.1)
spell (suc fuel) net goal (chosen ∷ each) cases (Loop names ∷ lines) enough reads =
    closed net goal chosen each cases (by_loop names) (Loop names) lines reads.0 refl (spell fuel net goal each cases lines (omega arith) reads.1)
spell (suc fuel) net goal (chosen ∷ each) cases (Split number ∷ lines) enough reads =
    let s : Spelled net goal (cases_of net chosen number) (each ++ cases) lines =
    spell fuel net goal (cases_of net chosen number) (each ++ cases) lines (omega arith) reads.1 in
    split_up net goal chosen number each cases lines reads.0 s (spell fuel net goal each cases s.more (omega (arith, s.shorter)) s.rest)

nothing_more : (net : Net) (goal : ProofGoal) (more : List ProofLine) → ProofLeaves net goal [] more [] → more ≡ []
nothing_more net goal [] reads = refl
nothing_more net goal (line ∷ more) reads = absurd reads

one_tree : (net : Net) (goal : ProofGoal) (lines more : List ProofLine) (trees : Trees) → ProveEach net goal ([] ∷ []) trees → lines ≡ trees_lines trees ++ more → more ≡ []
    → (tree : Tree) × Proves net goal [] tree × (lines ≡ tree_lines tree)
one_tree net goal lines more no_more prove parts end = absurd prove
one_tree net goal lines more (one_more tree no_more) prove parts end =
    (tree, prove.0, parts ∙ (ap (λ ls. (tree_lines tree ++ []) ++ ls) end ∙ (append-nil (tree_lines tree ++ []) ∙ append-nil (tree_lines tree))))
one_tree net goal lines more (one_more tree (one_more other trees)) prove parts end = absurd prove.1

pub proof_is_tree : ProofIsTree
proof_is_tree net goal lines = (
  (λ proof.
      let s : Spelled net goal ([] ∷ []) [] lines = spell (length lines) net goal ([] ∷ []) [] lines (omega arith) proof in
      one_tree net goal lines s.more s.trees s.prove s.parts (nothing_more net goal s.more s.rest)),
  (λ (tree, proves, is).
      let read : ProofLeaves net goal ([] ∷ []) (tree_lines tree ++ []) [] = tree_read net goal [] tree [] [] [] proves refl in
      subst (λ ls. ProofLeaves net goal ([] ∷ []) ls []) (append-nil (tree_lines tree) ∙ sym is) read),
)
