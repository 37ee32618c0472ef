-- Part-selects that are written element by element (IEEE 1800-2017 clause 11.5.1).
use Rattle.std.specs.Prelude.{◌≡◌, ℕ, ◌+◌, ◌*◌, ◌<◌, ◌≤◌, ◌^◌, min, ℤ, pos, ◌-ℤ◌, int_le, unsigned_abs, true, cond, List, ◌++◌, length, Option, Some}
use Rattle.row_machine.specs.Valuation.{Valuation}
use Rattle.sv_types.specs.declared.expression.Expr.{Expr}
use Rattle.sv_types.specs.Layouts.{layout, count_of}
use Rattle.sv_types.specs.Surroundings.{Around}
use Rattle.sv_types.specs.Expressions.{meaning}
use Rattle.v_meaning.specs.Scopes.{Scope, Named}
use Rattle.eval_parts.specs.declared.layouts.Bounds.{Bounds}
use Rattle.lowering_laws.specs.Reached.{IsWritten}
use Rattle.target_laws.proofs.Cells.{lowest_bits}
use Rattle.target_laws.specs.Vectors.{IsVector}
use Rattle.target_flatten.specs.declared.aims.Aim.{Aim}
use Rattle.target_flatten.specs.declared.spots.Spot.{Spot}
use Rattle.target_flatten.specs.declared.writes.Image.{Image}
use Rattle.target_flatten.specs.declared.writes.Write.{Write}
use Rattle.target_flatten.specs.Naming.{EachNames, NamesAimAt}
use Rattle.target_flatten.specs.Owning.{writes_made}
use Rattle.target_flatten.specs.Writing.{pieces, pieces_in, AimsAt}
use Rattle.target_walk.specs.declared.given.Given.{Given}
use Rattle.target_walk.specs.declared.given.Given.TheVariants as G
use Rattle.target_walk.specs.Giving.{all_names}
use Rattle.target_walk.specs.Walking.{Indexed, StandsAt}

-- how many elements there are, at most 2^22
abbrev pub counts_at_most : ℤ → ℤ → ℕ
counts_at_most left right = min (unsigned_abs (left -ℤ right)) 4194303 + 1

-- so many elements lie below the one with an index
abbrev pub HasRankIn : Bounds → ℕ → ℤ → Type 0
HasRankIn b t k = cond (int_le b.right b.left) (k -ℤ b.right) (b.right -ℤ k) ≡ pos t

-- the target of an element, whose lowest bit is this one of the value
pub record AddsCell (im : Image) (s : Spot) (low n : ℕ) (old new : List Write) : Type 0 where
  pub aim : Option Aim
  pub aims : AimsAt im.bits s n im.room aim
  pub names : NamesAimAt s aim
  pub is : new ≡ old ++ writes_made aim low n

-- the same for the element with a known index, wherever that stands
pub record AddsElement (im : Image) (e : Expr) (gs : List Given) (k : ℤ) (low n : ℕ) (old new : List Write) : Type 0 where
  pub spot : Spot
  pub stands : StandsAt e gs (Some (G.Known (Some k))) im.room spot
  pub adds : AddsCell im spot low n old new

-- the lowest elements of a part-select are written
pub record LowestWritten (im : Image) (e : Expr) (gs : List Given) (t : ℕ) (xs : List Write) (vec : Named) (a : Around) (sc : Scope) (v : Valuation) : Type 0 where
  pub path : IsWritten (lowest_bits (t * length (layout e.of).element.two_state) ((meaning e).window a)) (t * length (layout e.of).element.two_state) vec.number (pieces_in vec xs) sc v
  pub names : EachNames (all_names gs sc) (pieces xs) sc

abbrev pub WritesLowest : Image → Expr → List Given → ℕ → List Write → Type 0
WritesLowest im e gs t xs = (vec : Named) (a : Around) (sc : Scope) (v : Valuation) → IsVector vec im.bits → im.bits < 2 ^ 32 → 1 ≤ im.room → im.bits < 2 ^ im.room → (meaning e).misfits ≡ 0
    → Indexed im.room im.bits a sc v e gs true → t ≤ count_of (layout e.of).left (layout e.of).right → LowestWritten im e gs t xs vec a sc v
