-- A run of a design has no trace where its machine has none.
use Rattle.std.proofs.Common.{◌≡◌, ℕ, List, Err, sym, ap, subst, ◌∙◌}
use Rattle.b4_core.specs.declared.bit.Bit4.{Bit4}
use Rattle.round_runner.specs.Rows as rounds
use Rattle.round_runner.specs.declared.rows.RunFail as R
use Rattle.round_runner.specs.declared.rows.RunFail.TheVariants as F
use Rattle.v_tree.specs.Names.{Name}
use Rattle.v_tree.specs.declared.items.VDesign.{VDesign}
use Rattle.v_meaning.specs.Machine.{machine}
use Rattle.v_meaning.specs.Modules.{Signal, parts}
use Rattle.cycle_dst.specs.declared.fails.RunFail.{RunFail}
use Rattle.cycle_dst.specs.declared.fails.RunFail.TheVariants.{Memory, Unsettled}
use Rattle.cycle_dst.specs.Designs.{RunGives, widths_of, top_inputs}
use Rattle.cycle_dst.specs.Fails.{Tells, name_in}

pub fails-as : (e : VDesign) (top : Name) (rows : List (List (List Bit4))) (ss : List Signal) (f : R.RunFail) (fail : RunFail) → ss ≡ (parts e.modules top).signals
    → rounds.RunGives (machine e top) (widths_of e top) (top_inputs e top) rows (Err f) → Tells ss f fail → RunGives e top rows (Err fail)
fails-as e top rows ss f Memory same gives tells = tt
fails-as e top rows ss F.Memory (Unsettled row name before after) same gives tells = absurd tells
fails-as e top rows ss (F.Unsettled k c) (Unsettled row name before after) same gives tells = record {
  change = c;
  unsettled = subst (λ (n : ℕ). rounds.IsUnsettled (machine e top) (widths_of e top) (top_inputs e top) rows n c) (sym tells.0) gives;
  is_name = tells.1 ∙ ap (λ l. name_in l c.signal) same;
  is_before = tells.2;
  is_after = tells.3;
}
