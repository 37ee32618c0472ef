use Rattle.std.proofs.Common.{◌≡◌, ◌≤◌, ◌++◌, drop, map}
use Rattle.v_tree.specs.declared.items.VLocal.{VLocal}
use Rattle.v_meaning.specs.Scopes.{bits_of_range}
use Rattle.v_meaning.specs.Selects.{start, path_from}
use Rattle.v_meaning.specs.Values.{meaning, sel_meaning, joined, arguments}
use Rattle.v_eval.specs.Holding.{holds}
use Rattle.v_eval.specs.Limits.{limits, limits_of_sel, most_of_all, most_of_sels, most_of_args}
use Rattle.v_eval.specs.Paths.{named_or_not, path_of, IsShort}
use Rattle.v_eval.specs.Scopes.{scope_of}
use Rattle.v_eval.specs.Vectors.{stacked}
use Rattle.v_eval.proofs.evaluate.+evaluate.Given as goal

abbrev pub invariant-path-loop-sel : goal.invariant-path-loop-sel
invariant-path-loop-sel g l = record {
  path :
      path_from (scope_of l.around.scope) (holds l.around.held) (map sel_meaning (drop l.sel-index l.sels)) (path_of l.path)
      ≡ path_from (scope_of l.around.scope) (holds l.around.held) (map sel_meaning l.fn.sels) (start (named_or_not l.fn.named));
  short : IsShort l.path;
  narrow : most_of_sels (map limits_of_sel (drop l.sel-index l.sels)) (scope_of l.around.scope) ≤ 128;
}

abbrev pub invariant-joined-loop-item : goal.invariant-joined-loop-item
invariant-joined-loop-item g l = record {
  made : joined (map meaning (drop l.item-index l.items)) (scope_of l.around.scope) (holds l.around.held) ++ stacked l.pieces ≡ joined (map meaning l.fn.items) (scope_of l.around.scope) (holds l.around.held);
  narrow : most_of_all (map limits (drop l.item-index l.items)) (scope_of l.around.scope) ≤ 128;
}

abbrev pub invariant-arguments-loop-i : goal.invariant-arguments-loop-i
invariant-arguments-loop-i g l = record {
  made :
      l.made
      ++ arguments (map (λ (x : VLocal). bits_of_range x.range) (drop l.i l.inputs)) (map meaning (drop l.i l.args)) (scope_of l.around.scope) (holds l.around.held)
      ≡ arguments (map (λ (x : VLocal). bits_of_range x.range) l.fn.inputs) (map meaning l.fn.args) (scope_of l.around.scope) (holds l.around.held);
  narrow : most_of_args (map (λ (x : VLocal). bits_of_range x.range) (drop l.i l.inputs)) (map limits (drop l.i l.args)) (scope_of l.around.scope) ≤ 128;
}
