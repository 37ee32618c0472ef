-- How many levels a line is indented by.
use Rattle.std.specs.Prelude.{ℕ, zero, suc}
use Rattle.v_writer.specs.declared.margin.Margin.{Margin, Margin-F, fold-Margin}

abbrev pub level : Margin-F ℕ → ℕ
level Margin-F.Edge = zero
level (Margin-F.Within outer) = suc outer.now

abbrev pub levels : Margin → ℕ
levels = fold-Margin ℕ level
