-- Names and paths as the code has them.
use Rattle.std.specs.Prelude.{ℕ, ◌+◌, ◌^◌, ◌≤◌, true, [], Option, Some, None, IfSome}
use Rattle.v_tree.specs.declared.expressions.VExtent.{VExtent}
use Rattle.v_meaning.specs.Scopes as S
use Rattle.v_meaning.specs.Selects as T
use Rattle.v_eval.specs.declared.paths.Named.{Named}
use Rattle.v_eval.specs.declared.paths.Path.{Path}
use Rattle.v_eval.specs.Windows.{window_of, IsNear}

abbrev pub words_of : Option ℕ → Option ℕ
words_of None = None
words_of (Some last) = Some (last + 1)

-- what a name stands for, whatever the name is
abbrev pub unnamed : Named → S.Named
unnamed n = record { name = []; number = n.number; width = S.bits_of_range n.left; words = words_of n.last }

abbrev pub named_or_not : Option Named → S.Named
named_or_not None = S.undeclared
named_or_not (Some n) = unnamed n

abbrev pub path_of : Path → T.Path
path_of p = record { window = window_of p.window; width = p.width; words = p.words }

-- a select as it counts for a path
abbrev pub selecting : Option ℕ → Option VExtent → T.SelMeaning
selecting decimal extent = record {
  extent = extent;
  decimal = decimal;
  base = λ sc v. None;
  constant = λ sc. true;
  names = λ sc. [];
  reads = λ sc. [];
}

-- so short that sums and products don't overflow
pub record IsShort (p : Path) : Type 0 where
  pub near : IsNear p.window
  pub width : p.width ≤ 2 ^ 32
  pub words : IfSome p.words (λ n. n ≤ 2 ^ 32)
