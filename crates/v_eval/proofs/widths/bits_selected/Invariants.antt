use Rattle.std.proofs.Common.{◌≡◌, drop, map}
use Rattle.v_meaning.specs.Selects.{width_from, start}
use Rattle.v_meaning.specs.Values.{sel_meaning}
use Rattle.v_eval.specs.Limits.{limits_of_sel, SelLimits}
use Rattle.v_eval.specs.Paths.{named_or_not, path_of, selecting, IsShort}
use Rattle.v_eval.proofs.widths.bits_selected.Given as goal

abbrev pub invariant-loop-sel : goal.invariant-loop-sel
invariant-loop-sel l = record {
  meaning : width_from (map sel_meaning (drop l.sel-index l.sels)) (path_of l.path) ≡ width_from (map sel_meaning l.fn.sels) (start (named_or_not l.named));
  limits :
      width_from (map (λ (s : SelLimits). selecting s.decimal s.extent) (map limits_of_sel (drop l.sel-index l.sels))) (path_of l.path)
      ≡ width_from (map (λ (s : SelLimits). selecting s.decimal s.extent) (map limits_of_sel l.fn.sels)) (start (named_or_not l.named));
  short : IsShort l.path;
}
