use Rattle.std.proofs.Common.{◌≡◌, Some, None, sym, subst, ◌∙◌, rules}
use Rattle.sv_core.specs.declared.design.Design.{Design}
use Rattle.lower_design.specs.Lowered.{AllFit}
use Rattle.lower_design.proofs.Designs.{lowered-right}
use Rattle.lower_design.proofs.elaborated.lower_elaborated.Goals as goal

same : (c d : Design) → Some c ≡ Some d → c ≡ d
same c d e = cc

none : (d : Design) → None ≡ Some d → ⊥
none d e = cc

pub lower_form-requires : goal.lower_form-requires
lower_form-requires c =
    subst (λ (x : Design). AllFit x.signals x.processes)
    (same c.requires.core c.in-Some.core (sym c.requires.is_core ∙ sym c.in_ok-core.ensures ∙ c.in-Some.is)) c.requires.fits.kinds

pub unreachable-requires : goal.unreachable-requires
unreachable-requires c = none c.requires.core (sym c.in-None.is ∙ c.in_ok-core.ensures ∙ c.requires.is_core)

pub returns : goal.returns
returns c = search (rules, lowered-right c.args.d.now c.requires c.in-Some.core (sym c.in_ok-core.ensures ∙ c.in-Some.is))
