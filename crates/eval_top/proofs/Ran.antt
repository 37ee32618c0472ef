-- What the rows of a design come to, and no other.
use Rattle.std.proofs.Common.{◌≡◌, ℕ, ◌+◌, List, [], sym, ap, ◌∙◌}
use Rattle.b4_core.specs.declared.bit.Bit4.{Bit4}
use Rattle.v_tree.specs.Names.{Name}
use Rattle.v_tree.specs.declared.items.VDesign.{VDesign}
use Rattle.v_meaning.specs.Modules.{parts}
use Rattle.v_meaning.specs.Machine.{machine, of_signal}
use Rattle.stim_rows.specs.declared.shape.Port.{Port}
use Rattle.stim_rows.specs.Lines.{lines_of}
use Rattle.cycle_dst.specs.Designs.{widths_of}
use Rattle.eval_top.specs.Running.{inputs_of, LinesOf, Unsettles, shown}
use Rattle.eval_top.proofs.OneRun.{one-trace, trace-settles, one-failure}

module _ (e : VDesign) (top : Name) where
  pub one-lines-of : (outputs : List Port) (rows : List (List (List Bit4))) (lines others : List ℕ) → LinesOf e top outputs rows lines → LinesOf e top outputs rows others → lines ≡ others
  one-lines-of outputs rows lines others a b =
      a.are ∙ ap (lines_of outputs) (one-trace (machine e top) (widths_of e top) (inputs_of e top) rows a.trace b.trace a.is_trace b.is_trace) ∙ sym b.are

  pub lines-settle : (outputs : List Port) (rows : List (List (List Bit4))) (lines : List ℕ) (row : ℕ) (name : List ℕ) → LinesOf e top outputs rows lines → Unsettles e top rows row name → ⊥
  lines-settle outputs rows lines row name a b =
      trace-settles (machine e top) (widths_of e top) (inputs_of e top) rows a.trace b.before b.change a.is_trace b.unsettled

  pub one-unsettled : (rows : List (List (List Bit4))) (row other : ℕ) (name other-name : List ℕ) → Unsettles e top rows row name → Unsettles e top rows other other-name
      → (row ≡ other) × (name ≡ other-name)
  one-unsettled rows row other name other-name a b =
      let one = one-failure (machine e top) (widths_of e top) (inputs_of e top) rows a.before b.before a.change b.change a.unsettled b.unsettled in (
        a.behind ∙ ap (λ k. k + 1) one.0 ∙ sym b.behind,
        a.is_name ∙ ap (λ n. shown (of_signal (parts e.modules top).signals [] (λ s. s.name) n)) one.1 ∙ sym b.is_name,
      )
