-- The block in whose text something is declared, by how much of the path of the frame's block is its own.
use Rattle.std.specs.Prelude.{ℕ, [], take, Option, Some, None}
use Rattle.sv_types.specs.declared.frame.Frame.{Frame}
use Rattle.expr_type.specs.Names.{Home}

abbrev pub home_at : Frame → Option ℕ → Home
home_at f None = record { instance = 0; path = [] }
home_at f (Some n) = record { instance = f.instance; path = take n f.path }
