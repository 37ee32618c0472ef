-- What is named where a path is written, also where nothing of it is (IEEE 1800-2017 clause 9.4.2.2).
use Rattle.std.specs.Prelude.{◌≡◌, ℕ, ◌<◌, ◌≤◌, ◌^◌, Bool, true, false, ◌||◌, List, [], ◌∷◌, ◌++◌, Option, Some, None, Result, Ok, Err, ⊤}
use Rattle.std.specs.declared.alloc.AllocError.{AllocError}
use Rattle.b4_core.specs.Bits.{is_one}
use Rattle.row_machine.specs.Valuation.{Valuation}
use Rattle.sv_types.specs.declared.expression.Expr.{Expr}
use Rattle.sv_types.specs.Surroundings.{Around}
use Rattle.sv_types.specs.Expressions.{meaning}
use Rattle.v_tree.specs.declared.expressions.VExpr.{VExpr}
use Rattle.v_meaning.specs.Scopes.{Scope, Named, named}
use Rattle.v_meaning.specs.Values as T
use Rattle.lowering_laws.specs.Reached.{Piece}
use Rattle.path_flatten.specs.Naming.{SameNumbers}
use Rattle.target_laws.specs.Standing.{IsVectorOf}
use Rattle.target_laws.specs.Vectors.{IsVector}
use Rattle.target_flatten.specs.declared.writes.Image.{Image}
use Rattle.target_flatten.specs.declared.writes.Write.{Write}
use Rattle.target_flatten.specs.Naming.{piece_names, EachNames}
use Rattle.target_flatten.specs.Writing.{pieces, pieces_in, WritesPath}
use Rattle.target_walk.specs.declared.given.Given.{Given}
use Rattle.target_walk.specs.declared.given.Given.TheVariants as G
use Rattle.target_walk.specs.declared.never.Targets.{Targets}
use Rattle.target_walk.specs.Giving.{all_names, given_names}
use Rattle.target_walk.specs.Walking.{Indexed}

-- a condition that is never 1 stays so with another one besides, and names what that does
pub record NamesAlso (old : T.Meaning) (g : Given) (new : T.Meaning) : Type 0 where
  pub never : (sc : Scope) (v : Valuation) → is_one (T.truth old sc v) ≡ false → is_one (T.truth new sc v) ≡ false
  pub names : (sc : Scope) → SameNumbers (old.names sc ++ given_names g sc) (new.names sc)

-- a condition that is never 1, and names what indices do
pub record IsNever (gs : List Given) (m : T.Meaning) : Type 0 where
  pub never : (sc : Scope) (v : Valuation) → is_one (T.truth m sc v) ≡ false
  pub names : (sc : Scope) → SameNumbers (all_names gs sc) (m.names sc)

abbrev pub is_lowered : Given → Bool
is_lowered (G.Known k) = false
is_lowered (G.Lowered x d) = true

abbrev pub has_lowered : List Given → Bool
has_lowered [] = false
has_lowered (g ∷ gs) = is_lowered g || has_lowered gs

-- Where there is no target, an expression names what lowered indices do, if there are any; else none stands there.
abbrev pub NamedApart : List Given → List Write → Option VExpr → Type 0
NamedApart gs [] None = has_lowered gs ≡ false
NamedApart gs [] (Some e) = IsNever gs (T.meaning e)
NamedApart gs (x ∷ xs) None = ⊤
NamedApart gs (x ∷ xs) (Some e) = ⊥

abbrev pub NamesFrom : List Given → Result (List Write) AllocError → Targets → Type 0
NamesFrom gs (Ok old) r = (r.writes ≡ old) × NamedApart gs old r.named
NamesFrom gs (Err x) r = ⊥

-- all that pieces name
abbrev pub all_piece_names : List Piece → Scope → List ℕ
all_piece_names [] sc = []
all_piece_names (p ∷ ps) sc = piece_names p sc ++ all_piece_names ps sc

-- and what an expression apart names
abbrev pub apart_names : Option VExpr → Scope → List ℕ
apart_names None sc = []
apart_names (Some e) sc = (T.meaning e).names sc

abbrev pub target_names : Targets → Scope → List ℕ
target_names r sc = all_piece_names (pieces r.writes) sc ++ apart_names r.named sc

-- Targets write a path, and they and an expression apart name what its indices do.
pub record Flattened (im : Image) (e : Expr) (gs : List Given) (r : Targets) (a : Around) (sc : Scope) (v : Valuation) : Type 0 where
  pub path : WritesPath (named sc.names im.name) (meaning e) a (pieces r.writes) sc v
  pub names : SameNumbers (all_names gs sc) (target_names r sc)

-- so they do for each path with these indices
abbrev pub FlattensTo : Image → Expr → List Given → Targets → Type 0
FlattensTo im e gs r = (a : Around) (sc : Scope) (v : Valuation) (part : Bool) → IsVectorOf im.name im.bits sc → im.bits < 2 ^ 32 → 1 ≤ im.bits → 1 ≤ im.room → im.bits < 2 ^ im.room
    → (meaning e).misfits ≡ 0 → Indexed im.room im.bits a sc v e gs part → Flattened im e gs r a sc v

-- The selects of targets write a path in a vector, whatever the name, and they and an expression apart name what its indices do, each
-- target all of it.
pub record FlattenedIn (vec : Named) (e : Expr) (gs : List Given) (r : Targets) (a : Around) (sc : Scope) (v : Valuation) : Type 0 where
  pub path : WritesPath vec (meaning e) a (pieces_in vec r.writes) sc v
  pub names : SameNumbers (all_names gs sc) (target_names r sc)
  pub each : EachNames (all_names gs sc) (pieces r.writes) sc

-- so they do in each vector of the image's bits, as a word of a memory is one
abbrev pub FlattensIn : Image → Expr → List Given → Targets → Type 0
FlattensIn im e gs r = (vec : Named) (a : Around) (sc : Scope) (v : Valuation) (part : Bool) → IsVector vec im.bits → im.bits < 2 ^ 32 → 1 ≤ im.room → im.bits < 2 ^ im.room
    → (meaning e).misfits ≡ 0 → Indexed im.room im.bits a sc v e gs part → FlattenedIn vec e gs r a sc v
