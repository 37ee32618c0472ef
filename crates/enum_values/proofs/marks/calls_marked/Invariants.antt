use Rattle.std.proofs.Common.{◌≡◌, false, drop}
use Rattle.std.specs.Prelude.{slice_index_or}
use Rattle.std.specs.List.{list_any}
use Rattle.enum_values.proofs.marks.calls_marked.Given as goal

abbrev pub invariant-loop-function : goal.invariant-loop-function
invariant-loop-function l =
    list_any (λ n. slice_index_or l.marks n false) (drop l.function-index l.calls) ≡ list_any (λ n. slice_index_or l.marks n false) l.calls
