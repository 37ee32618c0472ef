use Rattle.std.proofs.Common.{◌≡◌, ◌≤◌, ◌^◌, length, sym, ap, subst, ◌∙◌}
use Rattle.core_forms.specs.Typed.{typed}
use Rattle.sv_core.specs.declared.design.Design.{Design}
use Rattle.sv2v_top.proofs.Built.{core-few}
use Rattle.sv2v_top.proofs.elab_build.elaborate_typed.Goals as goal

pub typed-requires : goal.typed-requires
typed-requires c =
    subst (λ (d : Design). length d.signals ≤ 2 ^ 32) (sym c.in-Ok.ensures.1) (core-few c.args.source.now c.args.top.now c.in-Ok.ensures.0)
