-- The laws of a scribe that keeps what fits.
use Rattle.std.specs.Prelude.{◌≤◌, ℕ, List, [], ◌++◌, length, Option, Some, None, refl}
use Rattle.std.specs.List.{sum_by}
use Rattle.std.proofs.Common.{inl, inr, sym, ap, subst, ◌∙◌, append_assoc, append-nil, length-append}
use Rattle.std.proofs.Math.Nat.{le-add_right, le_trans}
use Rattle.std.proofs.lemmas.List.Sums.{sum_by-append}
use Rattle.event_graph.specs.Proof.{ProofLine}
use Rattle.certificate.specs.Scribing.{FitsTree, edge_count}
use Rattle.whatif.specs.Step.Keeping.{KeeperGrew, KeeperWasCut, KeeperView, KeptOn}

-- if lines fit with more lines after them, they fit by themselves
front_fits : (line_room edge_room : ℕ) (xs ys : List ProofLine) → FitsTree line_room edge_room (xs ++ ys) → FitsTree line_room edge_room xs
front_fits line_room edge_room xs ys fits = (
  le_trans (subst (λ n. length xs ≤ n) (sym (length-append xs ys)) (le-add_right (length xs) (length ys))) fits.0,
  le_trans (subst (λ n. sum_by edge_count xs ≤ n) (sym (sum_by-append edge_count xs ys)) (le-add_right (sum_by edge_count xs) (sum_by edge_count ys))) fits.1,
)

none_kept : (line_room edge_room : ℕ) (before : Option (List ProofLine)) → KeptOn line_room edge_room before [] before
none_kept line_room edge_room None = refl
none_kept line_room edge_room (Some before) = inl (ap (λ lines. Some lines) (sym (append-nil before)))

-- lines were kept after the lines before, and then more came
some_kept : (line_room edge_room : ℕ) (before : List ProofLine) (t u : Option (List ProofLine)) (xs ys : List ProofLine) → KeptOn line_room edge_room (Some before) xs t
    → KeptOn line_room edge_room t ys u → KeptOn line_room edge_room (Some before) (xs ++ ys) u
some_kept line_room edge_room before t u xs ys (inl kept) q = behind_kept (subst (λ o. KeptOn line_room edge_room o ys u) kept q)
  where
    behind_kept : KeptOn line_room edge_room (Some (before ++ xs)) ys u → KeptOn line_room edge_room (Some before) (xs ++ ys) u
    behind_kept (inl more) = inl (more ∙ ap (λ lines. Some lines) (append_assoc before xs ys))
    behind_kept (inr full) = inr (full.0, λ fits. full.1 (subst (FitsTree line_room edge_room) (sym (append_assoc before xs ys)) fits))
some_kept line_room edge_room before t u xs ys (inr full) q =
    inr (
      subst (λ o. KeptOn line_room edge_room o ys u) full.0 q,
      λ fits. full.1 (front_fits line_room edge_room (before ++ xs) ys (subst (FitsTree line_room edge_room) (sym (append_assoc before xs ys)) fits)),
    )

more_kept : (line_room edge_room : ℕ) (s t u : Option (List ProofLine)) (xs ys : List ProofLine) → KeptOn line_room edge_room s xs t → KeptOn line_room edge_room t ys u
    → KeptOn line_room edge_room s (xs ++ ys) u
more_kept line_room edge_room None t u xs ys p q = subst (λ o. KeptOn line_room edge_room o ys u) p q
more_kept line_room edge_room (Some before) t u xs ys p q = some_kept line_room edge_room before t u xs ys p q

pub keeper_none : (s : KeeperView) → KeeperGrew s [] s
keeper_none s = record { line_room = refl; edge_room = refl; lines_now = none_kept s.line_room s.edge_room s.lines }

pub keeper_more : (s t u : KeeperView) (xs ys : List ProofLine) → KeeperGrew s xs t → KeeperGrew t ys u → KeeperGrew s (xs ++ ys) u
keeper_more s t u xs ys p q = record {
  line_room = q.line_room ∙ p.line_room;
  edge_room = q.edge_room ∙ p.edge_room;
  lines_now = more_kept s.line_room s.edge_room s.lines t.lines u.lines xs ys p.lines_now
      (subst (λ n. KeptOn s.line_room n t.lines ys u.lines) p.edge_room (subst (λ n. KeptOn n t.edge_room t.lines ys u.lines) p.line_room q.lines_now));
}

-- the scribe is never cut
pub keeper_cut : (s t u : KeeperView) (xs ys : List ProofLine) → KeeperGrew s xs t → KeeperWasCut t ys u → KeeperWasCut s (xs ++ ys) u
keeper_cut s t u xs ys p q = q
