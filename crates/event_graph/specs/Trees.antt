-- Proofs as trees, and the lines that spell one.
use Rattle.std.specs.Prelude.{◌≡◌, ◌↔◌, ◌++◌, ℕ, List, [], ◌∷◌}
use Rattle.itv_base.specs.declared.names.EdgeName.{EdgeName}
use Rattle.event_graph.specs.Network.{Net}
use Rattle.event_graph.specs.Proof.{Case, ClosesByLoop, ClosesByPath, IsProof, Loop, MaySplit, Path, ProofGoal, ProofLine, Split, cases_of}

mutual
  -- a case is closed by a path or by a loop, or it is split by the causes of a constraint
  pub data Tree : Type 0 where
    by_path : List EdgeName → Tree
    by_loop : List EdgeName → Tree
    by_split : ℕ → Trees → Tree

  -- one tree for each cause, in order
  pub data Trees : Type 0 where
    no_more : Trees
    one_more : Tree → Trees → Trees

-- the lines of a tree: each node before its subtrees
abbrev mutual
  pub tree_lines : Tree → List ProofLine
  tree_lines (by_path names) = Path names ∷ []
  tree_lines (by_loop names) = Loop names ∷ []
  tree_lines (by_split number trees) = Split number ∷ trees_lines trees

  pub trees_lines : Trees → List ProofLine
  trees_lines no_more = []
  trees_lines (one_more tree trees) = tree_lines tree ++ trees_lines trees

-- a tree proves a goal in a case
abbrev mutual
  pub Proves : Net → ProofGoal → Case → Tree → Type 0
  Proves net goal chosen (by_path names) = ClosesByPath net goal chosen names
  Proves net goal chosen (by_loop names) = ClosesByLoop net chosen names
  Proves net goal chosen (by_split number trees) = MaySplit net chosen number × ProveEach net goal (cases_of net chosen number) trees

  -- there is one tree for each case, in order, and each proves the goal in its case
  pub ProveEach : Net → ProofGoal → List Case → Trees → Type 0
  ProveEach net goal [] no_more = Unit {0}
  ProveEach net goal [] (one_more tree trees) = ⊥
  ProveEach net goal (chosen ∷ cases) no_more = ⊥
  ProveEach net goal (chosen ∷ cases) (one_more tree trees) = Proves net goal chosen tree × ProveEach net goal cases trees

-- lines are a proof if and only if they are the lines of a tree that proves the goal where nothing is chosen
abbrev pub ProofIsTree : Type 0
ProofIsTree = (net : Net) (goal : ProofGoal) (lines : List ProofLine)
    → (IsProof net goal lines ↔ ((tree : Tree) × Proves net goal [] tree × (lines ≡ tree_lines tree)))
