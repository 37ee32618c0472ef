-- What is found of a design before its processes are looked at.
use Rattle.std.specs.Prelude.{◌≡◌, ◌≤◌, ◌<◌, ◌^◌, ⊤, ℕ, Bool, true, false, List, [], ◌∷◌, length}
use Rattle.sv_types.specs.declared.design.Design.{Design}
use Rattle.sv_types.specs.declared.design.Process.{Process}
use Rattle.sv_types.specs.declared.design.ProcessKind.TheVariants.{Link}
use Rattle.sv_types.specs.declared.design.Signal.{Signal}
use Rattle.sv_types.specs.declared.statement.Function.{Function}
use Rattle.sv_types.specs.Layouts.{width_of}
use Rattle.comb_order.specs.Bits.{KeepsLimits}
use Rattle.design_breaks.specs.Breaks.{unrolls}
use Rattle.edge_breaks.specs.Joins.{LinksStand}
use Rattle.unroll_laws.specs.Bodies.{BodyFits, DesignFits}

-- something holds where that was found
abbrev pub IfSo : Bool → Type 0 → Type 0
IfSo true A = A
IfSo false A = ⊤

abbrev pub EachNarrow : List Signal → Type 0
EachNarrow [] = ⊤
EachNarrow (s ∷ ss) = (width_of s.of ≤ 4194304) × EachNarrow ss

abbrev pub EachFits : List Process → List Function → Type 0
EachFits [] fs = ⊤
EachFits (p ∷ ps) fs = BodyFits p.body fs × EachFits ps fs

abbrev pub EachBodyFits : List Function → List Function → Type 0
EachBodyFits [] fs = ⊤
EachBodyFits (g ∷ gs) fs = BodyFits g.body fs × EachBodyFits gs fs

pub record Limited (d : Design) : Type 0 where
  pub keeps : KeepsLimits d
  pub few : length d.signals ≤ 2 ^ 32

-- the port of a connection is a signal, and the connection can be unrolled
pub record Stands (d : Design) (p : Process) : Type 0 where
  pub within : (n : ℕ) → p.kind ≡ Link n → n < length d.signals
  pub unrolls : (n : ℕ) → p.kind ≡ Link n → unrolls d p.body ≡ true

-- what the rules on processes ask of a design
pub record IsFit (d : Design) : Type 0 where
  pub limits : KeepsLimits d
  pub few : length d.signals ≤ 2 ^ 32
  pub links : LinksStand d
  pub fits : DesignFits d
