-- The levels of a margin, by its form.
use Rattle.std.proofs.Common.{◌≡◌, ℕ, suc, sym, ap, ◌∙◌, Bor}
use Rattle.v_writer.specs.declared.margin.Margin.{Margin, Margin-F, fold-roll-Margin}
use Rattle.v_writer.specs.declared.margin.Margin.TheVariants.{Edge, Within, rolls-Edge, rolls-Within}
use Rattle.v_writer.specs.Margins.{level, levels}

pub edge-levels : levels Edge ≡ 0
edge-levels = ap levels (sym rolls-Edge) ∙ fold-roll-Margin ℕ level Margin-F.Edge

pub within-levels : (outer : Bor Margin) → levels (Within outer) ≡ suc (levels outer.now)
within-levels outer = ap levels (sym (rolls-Within outer)) ∙ fold-roll-Margin ℕ level (Margin-F.Within outer)

pub ruleset margins = (edge-levels, within-levels)
