-- What the targets of a path of which indices select from part-selects write (IEEE 1800-2017 clauses 7.4.5, 10.4 and 11.5.1).
use Rattle.std.specs.Prelude.{◌≡◌, ⊤, ℕ, ◌≤◌, ℤ, pos, ◌+ℤ◌, ◌<ℤ◌, ◌≤ℤ◌, Bool, true, cond, List, [], ◌∷◌, ◌++◌, length, Option, Some, None}
use Rattle.b4_core.specs.declared.bit.Bit4.{Bit4}
use Rattle.b4_core.specs.Vectors.{known, number, vec}
use Rattle.row_machine.specs.Valuation.{Valuation}
use Rattle.sv_types.specs.declared.expression.Expr.{Expr}
use Rattle.sv_types.specs.declared.types.SvType.{SvType}
use Rattle.sv_types.specs.Layouts.{width_of}
use Rattle.sv_types.specs.Surroundings.{Around}
use Rattle.sv_types.specs.Meanings as S
use Rattle.sv_types.specs.Paths as P
use Rattle.sv_types.specs.Expressions.{meaning}
use Rattle.v_tree.specs.Names.{Name}
use Rattle.v_meaning.specs.Scopes.{Scope, Named}
use Rattle.path_flatten.specs.declared.offsets.Index.{Index}
use Rattle.path_flatten.specs.Sliding.{IsIndexOf}
use Rattle.target_laws.specs.Vectors.{IsVector}
use Rattle.target_flatten.specs.declared.writes.Write.{Write}
use Rattle.target_flatten.specs.Owning.{AllOwn}
use Rattle.target_flatten.specs.Writing.{pieces_in, WritesPath}
use Rattle.target_walk.specs.declared.given.Given.{Given}
use Rattle.target_walk.specs.declared.given.Given.TheVariants as G
use Rattle.target_walk.specs.Giving.{IsGiven, IsSmall}
use Rattle.target_walk.specs.Rooms.{IsKnownIn}
use Rattle.typed_paths.specs.Typed.{Indexing, IsTypedPath}
use Rattle.index_cases.specs.Cases.{IsWrittenIf}
use Rattle.filled_paths.specs.Filling.{index_in}
use Rattle.filled_paths.specs.Numbers.{Fills}
use Rattle.filled_paths.specs.declared.numbers.Numbers.{Numbers}
use Rattle.case_targets.specs.declared.cases.Case.{Case}
use Rattle.case_targets.specs.declared.indices.PathIndex.{PathIndex}
use Rattle.case_targets.specs.declared.indices.PathIndex.TheVariants as I

-- indices that are done, and the others
abbrev pub all_of : List Given → List PathIndex → List PathIndex
all_of [] ps = ps
all_of (g ∷ gs) ps = I.Plain g ∷ all_of gs ps

-- those that select from part-selects have at most 64 bits, and the others are small
abbrev pub IsShort : PathIndex → Type 0
IsShort (I.Plain g) = IsSmall g
IsShort (I.InPart i) = i.width ≤ 64

abbrev pub AllShort : List PathIndex → Type 0
AllShort [] = ⊤
AllShort (p ∷ ps) = IsShort p × AllShort ps

-- one by one
abbrev pub Pairwise : (Indexing → PathIndex → Type 0) → List Indexing → List PathIndex → Type 0
Pairwise F [] [] = ⊤
Pairwise F [] (p ∷ ps) = ⊥
Pairwise F (x ∷ xs) [] = ⊥
Pairwise F (x ∷ xs) (p ∷ ps) = F x p × Pairwise F xs ps

-- a lowered index has the bits of the path's one
abbrev pub HasWidth : Indexing → PathIndex → Type 0
HasWidth x (I.Plain g) = ⊤
HasWidth x (I.InPart i) = i.width ≡ S.wide (meaning x.index)

-- indices are those of a typed path, one for one
pub record IsShaped (e : Expr) (ps : List PathIndex) : Type 0 where
  pub number : ℕ
  pub of : SvType
  pub indices : List Indexing
  pub part : Bool
  pub path : IsTypedPath number of e indices part
  pub widths : Pairwise HasWidth indices ps

-- an index stands for one of a typed path, by its number, or lowered alone; one by its number is known where it selects from a part-select
abbrev pub StandsFor : Around → Scope → Valuation → Indexing → PathIndex → Type 0
StandsFor a sc v x (I.Plain g) = IsGiven g (P.index_of (meaning x.index) a) sc v × IsKnownIn x.in_part g
StandsFor a sc v x (I.InPart i) = IsIndexOf i (meaning x.index) a sc v

-- a typed path in a vector of so many bits, for whose indices these stand
pub record IsSet (bits : ℕ) (e : Expr) (ps : List PathIndex) (vec : Named) (a : Around) (sc : Scope) (v : Valuation) : Type 0 where
  pub number : ℕ
  pub of : SvType
  pub indices : List Indexing
  pub part : Bool
  pub path : IsTypedPath number of e indices part
  pub typed : (meaning e).misfits ≡ 0
  pub width : width_of of ≡ bits
  pub vector : IsVector vec bits
  pub stand : Pairwise (StandsFor a sc v) indices ps

-- targets write it, each bit that a write through the path does and no other
abbrev pub Spreads : ℕ → Expr → List PathIndex → List Write → Type 0
Spreads bits e ps xs = (vec : Named) (a : Around) (sc : Scope) (v : Valuation) → IsSet bits e ps vec a sc v → WritesPath vec (meaning e) a (pieces_in vec xs) sc v

abbrev pub SpreadsFlat : ℕ → Expr → List Given → List Write → Type 0
SpreadsFlat bits e gs xs = Spreads bits e (all_of gs []) xs

-- the number of an index with some bits
abbrev pub number_in : Bool → List Bit4 → Option ℤ
number_in s bits = cond (known bits) (Some (number s bits)) None

-- the bits with which an index has a number, if it may have it
abbrev pub HasBitsIf : Index → ℤ → Option (List Bit4) → Type 0
HasBitsIf i k None = number_in i.signed (vec i.width k) ≡ Some k → ⊥
HasBitsIf i k (Some bits) = (bits ≡ vec i.width k) × (number_in i.signed bits ≡ Some k)

-- and the path with these bits in place of the index behind those that are done
pub record HasCase (e : Expr) (gs : List Given) (i : Index) (k : ℤ) (c : Case) : Type 0 where
  pub number : c.number ≡ vec i.width k
  pub has : number_in i.signed c.number ≡ Some k
  pub path : Fills e (length gs) c.number c.path
  pub done : c.done ≡ gs ++ G.Known (Some k) ∷ []

abbrev pub HasCaseIf : Expr → List Given → Index → ℤ → Option Case → Type 0
HasCaseIf e gs i k None = number_in i.signed (vec i.width k) ≡ Some k → ⊥
HasCaseIf e gs i k (Some c) = HasCase e gs i k c

-- Targets write where so much is said; that is said where it was before, and where an index has a number.
pub record WritesMore (said : Bool) (z : Option ℤ) (k : ℤ) (e : Expr) (xs : List Write) (vec : Named) (a : Around) (sc : Scope) (v : Valuation) : Type 0 where
  pub now : Bool
  pub kept : said ≡ true → now ≡ true
  pub more : z ≡ Some k → now ≡ true
  pub written : IsWrittenIf now ((meaning e).window a) (S.wide (meaning e)) vec.number (pieces_in vec xs) sc v

-- the targets for one number more
abbrev pub AddsCase : ℕ → Expr → List Given → Index → List PathIndex → ℤ → List Write → List Write → Type 0
AddsCase bits e gs i ps k old new = (vec : Named) (a : Around) (sc : Scope) (v : Valuation) (h : IsSet bits e (all_of gs (I.InPart i ∷ ps)) vec a sc v) (x : Indexing) → index_in (length gs) h.indices ≡ Some x → (said : Bool)
    → IsWrittenIf said ((meaning e).window a) (S.wide (meaning e)) vec.number (pieces_in vec old) sc v → WritesMore said (P.index_of (meaning x.index) a) k e new vec a sc v

-- they write where so much is said, and that is said where the index has one of these numbers
pub record WritesBelow (low k : ℤ) (z : Option ℤ) (e : Expr) (xs : List Write) (vec : Named) (a : Around) (sc : Scope) (v : Valuation) : Type 0 where
  pub said : Bool
  pub told : (j : ℤ) → low ≤ℤ j → j <ℤ k → z ≡ Some j → said ≡ true
  pub written : IsWrittenIf said ((meaning e).window a) (S.wide (meaning e)) vec.number (pieces_in vec xs) sc v

abbrev pub SpreadsBelow : ℕ → Expr → List Given → Index → List PathIndex → ℤ → ℤ → List Write → Type 0
SpreadsBelow bits e gs i ps low k xs = (vec : Named) (a : Around) (sc : Scope) (v : Valuation) (h : IsSet bits e (all_of gs (I.InPart i ∷ ps)) vec a sc v) (x : Indexing) → index_in (length gs) h.indices ≡ Some x
    → WritesBelow low k (P.index_of (meaning x.index) a) e xs vec a sc v

-- all numbers from one to another one
pub record SpreadsBetween (bits : ℕ) (e : Expr) (gs : List Given) (i : Index) (ps : List PathIndex) (r : Numbers) (xs : List Write) : Type 0 where
  pub end : ℤ
  pub all : (r.high +ℤ pos 1) ≤ℤ end
  pub below : SpreadsBelow bits e gs i ps r.low end xs

abbrev pub KeepsOwn : Name → ℕ → List Write → List Write → Type 0
KeepsOwn name bits old new = AllOwn name bits old → AllOwn name bits new
