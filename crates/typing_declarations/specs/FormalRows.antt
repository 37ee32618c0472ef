-- Formals in a row, each put into a scope behind those before it: how far they have been looked at, and what they give back.
use Rattle.std.specs.Prelude.{◌≡◌, ℕ, ◌+◌, Bool, true, false, cond, nat_lt, List, [], ◌∷◌, ◌++◌, map, Option, Some, None, Result, Ok, Err}
use Rattle.sv_tree.specs.declared.functions.Formal as G
use Rattle.sv_types.specs.declared.statement.Formal.{Formal}
use Rattle.sv_types.specs.declared.statement.Function.{Function}
use Rattle.sv_types.specs.declared.statement.Way.{Way}
use Rattle.sv_types.specs.declared.statement.Way.TheVariants as W
use Rattle.sv_types.specs.declared.types.SvType.{SvType}
use Rattle.sv_types.specs.Layouts.{width_of}
use Rattle.expr_type.specs.declared.halt.Halt.{Halt}
use Rattle.expr_type.specs.Functions as F
use Rattle.expr_type.specs.Functions.{Head, at_first, behind_formal, behind_formals, formal_found, formals, head_of, output_bits}
use Rattle.expr_type.specs.Names.{Context}
use Rattle.expr_type.specs.Types.{TypeFound}
use Rattle.expr_type.specs.Typings.{Typed, Typing, checked, rule}
use Rattle.typing_scopes.specs.Ahead.{AheadQuiet, AheadWhole}
use Rattle.typing_steps.specs.Steps.{IsQuiet, StopsBy}

-- a formal of a type with dimensions
abbrev pub formal_typed : Context → Way → ℕ → Bool → Typing (TypeFound × SvType) → Typing F.FormalFound
formal_typed k way at declares x = checked x (λ p. rule (formal_found k way p.0 at p.1 (cond declares p.0.names [])))

-- what the function has of a formal
abbrev pub formal_in : F.FormalFound → Formal
formal_in f = f.formal

-- A formal behind the one before, put into a scope: it is whole, or it breaks nothing and isn't whole, and then nothing is put there.
pub record IsFormal (f : Formal) (b : F.Before) (j k : Context) (t : Typed F.FormalFound) (fs : List Function) : Type 0 where
  pub found : F.FormalFound
  pub gives : t ≡ record { result = Ok found; functions = fs }
  pub formal : formal_in found ≡ f
  pub before : found.before ≡ b
  pub behind : j ≡ behind_formal k (Some found)

pub record IsNoFormal (b : F.Before) (way : Way) (j k : Context) (t : Typed F.FormalFound) (fs : List Function) : Type 0 where
  pub quiet : IsQuiet t fs
  pub before : b ≡ record { way = way; of = None }
  pub behind : j ≡ k

abbrev pub PerhapsFormal : Option Formal → F.Before → Way → Context → Context → Typed F.FormalFound → List Function → Type 0
PerhapsFormal (Some f) b way j k t fs = IsFormal f b j k t fs
PerhapsFormal None b way j k t fs = IsNoFormal b way j k t fs

-- how far a row has been looked at: all of it is whole so far, or something breaks nothing and isn't whole
pub record WholeSoFar (k j : Context) (b : F.Before) (made : List Formal) (rest : List G.Formal) (row : Typed (List F.FormalFound)) (fs : List Function) : Type 0 where
  pub found : List F.FormalFound
  pub listed : map formal_in found ≡ made
  pub behind : j ≡ behind_formals k found
  pub ahead : AheadWhole (λ (xs : List F.FormalFound). found ++ xs) (formals j b rest) row fs

abbrev pub SoFar : Bool → Context → Context → F.Before → List Formal → List G.Formal → Typed (List F.FormalFound) → List Function → Type 0
SoFar true k j b made rest row fs = WholeSoFar k j b made rest row fs
SoFar false k j b made rest row fs = AheadQuiet (formals j b rest) row fs

-- formals that are put into a scope
pub record AreFormals (made : List Formal) (j k : Context) (t : Typed (List F.FormalFound)) (fs : List Function) : Type 0 where
  pub found : List F.FormalFound
  pub gives : t ≡ record { result = Ok found; functions = fs }
  pub listed : map formal_in found ≡ made
  pub behind : j ≡ behind_formals k found

abbrev pub FormalsTo : Result (List Formal) Halt → Context → Context → Typed (List F.FormalFound) → List Function → Type 0
FormalsTo (Ok made) j k t fs = AreFormals made j k t fs
FormalsTo (Err h) j k t fs = StopsBy h t fs

-- the bits that formals give back
abbrev pub bits_back : Formal → ℕ
bits_back f = elim f.way [ W.Input ↦ 0 | W.Output ↦ width_of f.local.of | W.Inout ↦ width_of f.local.of ]

abbrev pub bits_out : List Formal → ℕ
bits_out [] = 0
bits_out (f ∷ fs) = bits_back f + bits_out fs

-- formals behind a result, which give back at most 65,536 bits
abbrev pub head_rest : Context → Context → ℕ → F.ResultFound → List G.Formal → Typing Head
head_rest o k name r gs = checked (formals k at_first gs) (λ xs. rule (head_of o name r xs))

pub record IsHead (made : List Formal) (j k : Context) (t : Typed (List F.FormalFound)) (fs : List Function) : Type 0 where
  pub are : AreFormals made j k t fs
  pub short : nat_lt 65536 (output_bits are.found) ≡ false

abbrev pub HeadsTo : Result (List Formal) Halt → ℕ → Context → Context → List G.Formal → List Function → List Function → Type 0
HeadsTo (Ok made) name j k gs fs hs = IsHead made j k (formals k at_first gs fs) hs
HeadsTo (Err h) name j k gs fs hs = (o : Context) (r : F.ResultFound) → StopsBy h (head_rest o k name r gs fs) hs
