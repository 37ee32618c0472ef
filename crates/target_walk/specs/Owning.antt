-- What the targets of a path are made of, step by step (IEEE 1364-2005 clauses 6.1.2 and 9.2).
use Rattle.std.specs.Prelude.{◌≡◌, ⊤, List, [], ◌∷◌, Option, Some, None, Result, Ok, Err}
use Rattle.std.specs.declared.alloc.AllocError.{AllocError}
use Rattle.target_flatten.specs.declared.spots.Spot.{Spot}
use Rattle.target_flatten.specs.declared.writes.Image.{Image}
use Rattle.target_flatten.specs.declared.writes.Write.{Write}
use Rattle.target_flatten.specs.Owning.{IsSteady, StaysSteady, AllOwn, AllPlain}
use Rattle.target_walk.specs.declared.given.Given.{Given}
use Rattle.target_walk.specs.declared.given.Given.TheVariants as G
use Rattle.target_walk.specs.declared.never.Targets.{Targets}

-- indices that are known
abbrev pub IsFixed : Given → Type 0
IsFixed (G.Known k) = ⊤
IsFixed (G.Lowered x d) = ⊥

abbrev pub IsFixedIf : Option Given → Type 0
IsFixedIf None = ⊤
IsFixedIf (Some g) = IsFixed g

abbrev pub AllFixed : List Given → Type 0
AllFixed [] = ⊤
AllFixed (g ∷ gs) = IsFixed g × AllFixed gs

-- the element with a known index of what stands at a known place does so too, and so do a member and a path with known indices
abbrev pub SteadyElement : Spot → Given → Spot → Type 0
SteadyElement old g s = IsFixed g → StaysSteady old s

abbrev pub SteadyChosen : Result Spot AllocError → Option Given → Spot → Type 0
SteadyChosen (Ok old) g s = IsFixedIf g → StaysSteady old s
SteadyChosen (Err x) g s = ⊥

abbrev pub SteadyMember : Result Spot AllocError → Spot → Type 0
SteadyMember (Ok old) s = StaysSteady old s
SteadyMember (Err x) s = ⊥

abbrev pub SteadyAt : List Given → Option Given → Spot → Type 0
SteadyAt gs g s = AllFixed gs → IsFixedIf g → IsSteady s

-- targets more, of the path's name and without guards as those before
abbrev pub KeepsOwn : Image → List Write → List Write → Type 0
KeepsOwn im old new = AllOwn im.name im.bits old → AllOwn im.name im.bits new

abbrev pub KeepsPlain : Image → Spot → List Write → List Write → Type 0
KeepsPlain im s old new = IsSteady s → AllPlain im.name old → AllPlain im.name new

abbrev pub KeepsPlainOf : Image → List Given → List Write → List Write → Type 0
KeepsPlainOf im gs old new = AllFixed gs → AllPlain im.name old → AllPlain im.name new

-- Each target is the path's name with a select at most. Where all indices are known, it has no guard, and its select is decimal.
abbrev pub PlainOf : Image → List Given → List Write → Type 0
PlainOf im gs xs = AllFixed gs → AllPlain im.name xs

-- And then nothing is named apart.
pub record IsBare (im : Image) (r : Targets) : Type 0 where
  pub plain : AllPlain im.name r.writes
  pub named : r.named ≡ None

abbrev pub BareOf : Image → List Given → Targets → Type 0
BareOf im gs r = AllFixed gs → IsBare im r
