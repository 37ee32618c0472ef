-- What is made of the indices of a select path that is written.
use Rattle.std.specs.Prelude.{◌≡◌, ⊤, ℕ, ℤ, pos, true, false, Bool, cond, List, [], ◌∷◌, ◌++◌, Option, Some, None}
use Rattle.sv_types.specs.declared.expression.Expr.{Expr}
use Rattle.sv_types.specs.declared.statement.Function.{Function}
use Rattle.sv_types.specs.declared.types.SvType.{SvType}
use Rattle.sv_types.specs.Surroundings.{Around, Callee, Sight}
use Rattle.sv_types.specs.Paths as P
use Rattle.sv_types.specs.Expressions.{meaning}
use Rattle.sv_types.specs.Functions.{callees}
use Rattle.v_tree.specs.declared.names.Helper.{Helper}
use Rattle.v_tree.specs.declared.names.NameMap.{NameMap}
use Rattle.expr_lower.specs.Paths.{Indexes}
use Rattle.typed_paths.specs.Typed.{Indexing, IsTypedPath}
use Rattle.path_steps.specs.declared.known.KnownIndex.{KnownIndex}
use Rattle.constant_exprs.specs.Constants.{IsBlind}
use Rattle.known_indices.specs.Known.{takes_too_long}
use Rattle.target_walk.specs.declared.given.Given.{Given}
use Rattle.target_walk.specs.declared.given.Given.TheVariants as G
use Rattle.target_walk.specs.Giving.{IsSmall}
use Rattle.target_walk.specs.Owning.{IsFixed}
use Rattle.target_walk.specs.Rooms.{IsKnownIn}
use Rattle.case_targets.specs.declared.indices.PathIndex.{PathIndex}
use Rattle.case_targets.specs.declared.indices.PathIndex.TheVariants as I
use Rattle.case_targets.specs.Naming.{given_for}
use Rattle.case_targets.specs.Spreading.{Pairwise, IsShort, AllShort}
use Rattle.target_lower.specs.declared.within.Within.{Within}
use Rattle.target_lower.specs.declared.within.Within.TheVariants.{Process, Routine}

-- from a process the functions of the design are called; of what a function's body calls nothing is said
abbrev pub CallsFrom : Within → List Function → (ℕ → Callee) → Type 0
CallsFrom Process fs callee = callee ≡ callees fs
CallsFrom Routine fs callee = ⊤

-- an index has this number, or none, wherever that is so, and names nothing
pub record IsKnownFrom (within : Within) (fs : List Function) (i : Expr) (z : Option ℤ) : Type 0 where
  pub number : (a : Around) → CallsFrom within fs a.callee → P.index_of (meaning i) a ≡ z
  pub none : (meaning i).names ≡ []

-- it is constant, and its value doesn't take too long
pub record IsConstant (fs : List Function) (i : Expr) : Type 0 where
  pub constant : (k : Sight) → IsBlind k → (meaning i).constant k ≡ true
  pub ends : takes_too_long fs i ≡ false

-- in a process such an index is given by its number
abbrev pub FixedIf : Within → List Function → Expr → Given → Type 0
FixedIf Process fs i g = IsConstant fs i → IsFixed g
FixedIf Routine fs i g = ⊤

-- its number, if one is found, which it is in a process for such an index
abbrev pub HasNoNumber : Within → List Function → Expr → Type 0
HasNoNumber Process fs i = IsConstant fs i → ⊥
HasNoNumber Routine fs i = ⊤

abbrev pub GivesNumber : Within → List Function → Expr → Option KnownIndex → Type 0
GivesNumber within fs i (Some x) = IsKnownFrom within fs i x.number × IsSmall (G.Known x.number)
GivesNumber within fs i None = HasNoNumber within fs i

-- an index by its number, or as it is lowered alone
abbrev pub StandsForIndex : Within → NameMap → List Function → List Helper → Expr → Given → Type 0
StandsForIndex within names fs hs i (G.Known k) = IsKnownFrom within fs i k
StandsForIndex within names fs hs i (G.Lowered x d) = Indexes names fs hs i x × (d ≡ pos 0)

abbrev pub GivenFor : Within → NameMap → List Function → List Helper → Expr → Given → Type 0
GivenFor within names fs hs i g = StandsForIndex within names fs hs i g × IsSmall g × FixedIf within fs i g

-- as one of a path, of which one that is lowered stands for itself where it selects from a part-select
abbrev pub path_index : Bool → Given → PathIndex
path_index in_part (G.Known k) = I.Plain (G.Known k)
path_index in_part (G.Lowered x d) = cond in_part (I.InPart x) (I.Plain (G.Lowered x d))

-- so it is for an index of a path; one that selects from a part-select is known, or stands for itself
abbrev pub IsMade : Within → NameMap → List Function → List Helper → Indexing → PathIndex → Type 0
IsMade within names fs hs x (I.Plain g) = StandsForIndex within names fs hs x.index g × IsKnownIn x.in_part g × FixedIf within fs x.index g
IsMade within names fs hs x (I.InPart i) = Indexes names fs hs x.index i × FixedIf within fs x.index (given_for (I.InPart i))

abbrev pub AreMade : Within → NameMap → List Function → List Helper → List Indexing → List PathIndex → Type 0
AreMade within names fs hs xs ps = Pairwise (IsMade within names fs hs) xs ps

-- it is put behind others
pub record PutsIndex (within : Within) (names : NameMap) (fs : List Function) (hs : List Helper) (i : Expr) (in_part : Bool) (old new : List PathIndex) : Type 0 where
  pub index : PathIndex
  pub is : new ≡ old ++ index ∷ []
  pub made : IsMade within names fs hs (record { index = i; in_part = in_part }) index
  pub short : IsShort index

-- and so are those of a typed path
pub record PutsIndices (within : Within) (names : NameMap) (fs : List Function) (hs : List Helper) (e : Expr) (old new : List PathIndex) : Type 0 where
  pub indices : List PathIndex
  pub is : new ≡ old ++ indices
  pub made : (number : ℕ) (t : SvType) (xs : List Indexing) (part : Bool) → IsTypedPath number t e xs part → AreMade within names fs hs xs indices
  pub short : AllShort indices
