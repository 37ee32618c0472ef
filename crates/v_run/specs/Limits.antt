-- On how many bits the arithmetic in the indices of targets is done.
use Rattle.std.specs.Prelude.{ℕ, max, List, [], ◌∷◌, map}
use Rattle.v_tree.specs.declared.statements.VLval.{VLval, VLval-F, fold-VLval}
use Rattle.v_meaning.specs.Scopes.{Scope}
use Rattle.v_eval.specs.Limits.{limits_of_sel, most_of_sels}

abbrev pub most_of_parts : List (Scope → ℕ) → Scope → ℕ
most_of_parts [] sc = 0
most_of_parts (m ∷ ms) sc = max (m sc) (most_of_parts ms sc)

abbrev pub lval_limits : VLval-F (Scope → ℕ) → Scope → ℕ
lval_limits (VLval-F.Name name sels) sc = most_of_sels (map limits_of_sel sels) sc
lval_limits (VLval-F.Concat parts) sc = most_of_parts parts sc

abbrev pub target_most : VLval → Scope → ℕ
target_most = fold-VLval (Scope → ℕ) lval_limits
