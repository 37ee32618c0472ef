use Rattle.std.proofs.Common.{◌≡◌}
use Rattle.sv_types.specs.Windows.{tabulated}
use Rattle.pattern_fit.specs.declared.pattern.PatternItem.TheVariants.{Item}
use Rattle.pattern_fit.proofs.fitting.fit_by_place.Given as goal

abbrev pub invariant-loop-n : goal.invariant-loop-n
invariant-loop-n l = l.all.items ≡ tabulated l.n (λ k. Item k)
