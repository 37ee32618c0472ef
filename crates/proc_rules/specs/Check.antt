-- The breaks of the rule on wide signals.
use Rattle.std.specs.Prelude.{List, flat_map}
use Rattle.sv_types.specs.declared.design.Design.{Design}
use Rattle.design_breaks.specs.declared.Break.{Break}
use Rattle.design_breaks.specs.Breaks as B

abbrev pub wide_breaks : Design → List Break
wide_breaks d = flat_map (B.too_wide d) (B.numbered d 0 d.signals)
