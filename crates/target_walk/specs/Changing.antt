-- What writes through a select path change in the images of signals and locals (IEEE 1800-2017 clause 10.4).
use Rattle.std.specs.Prelude.{◌≡◌, ℕ, ◌<◌, ◌≤◌, ◌^◌, Bool, List, Some}
use Rattle.row_machine.specs.Valuation.{Valuation}
use Rattle.sv_types.specs.declared.expression.Expr.{Expr}
use Rattle.sv_types.specs.Surroundings.{Around}
use Rattle.sv_types.specs.Expressions.{meaning}
use Rattle.v_meaning.specs.Scopes.{Scope, named}
use Rattle.lowering_laws.specs.Agreeing.{Images, IsInOrder, AreDistinct}
use Rattle.lowering_laws.specs.Held.{IsConverted}
use Rattle.lowering_laws.proofs.Changes.{HasPieces}
use Rattle.target_laws.specs.Standing.{IsVectorOf}
use Rattle.target_flatten.specs.declared.writes.Image.{Image}
use Rattle.target_flatten.specs.declared.writes.Write.{Write}
use Rattle.target_flatten.specs.Writing.{pieces}
use Rattle.target_walk.specs.declared.given.Given.{Given}
use Rattle.target_walk.specs.Walking.{Indexed}

-- the name is the image of the signal or local that the path stands on
pub record IsShownBy (im : Image) (ims : Images) (r : ℕ) (e : Expr) (a : Around) (sc : Scope) : Type 0 where
  pub distinct : AreDistinct ims
  pub root : (meaning e).root ≡ Some r
  pub some : 0 < ims.width r
  pub in_order : IsInOrder ims r
  pub number : ims.number r ≡ (named sc.names im.name).number
  pub converted : IsConverted (ims.two_state r) (meaning e) a

-- Targets for a value as the path's type stores it change the images as an assignment to the path changes signals and locals.
abbrev pub ChangesAs : Image → Expr → List Given → List Write → Type 0
ChangesAs im e gs xs = (ims : Images) (r : ℕ) (a : Around) (sc : Scope) (v : Valuation) (part : Bool) → IsShownBy im ims r e a sc → IsVectorOf im.name im.bits sc → im.bits < 2 ^ 32 → 1 ≤ im.bits → 1 ≤ im.room
    → im.bits < 2 ^ im.room → (meaning e).misfits ≡ 0 → Indexed im.room im.bits a sc v e gs part → HasPieces ims (meaning e) (pieces xs) a sc v
