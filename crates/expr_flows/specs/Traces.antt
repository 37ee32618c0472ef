-- Select paths, as far as their indices are known, as the code has them.
use Rattle.std.specs.Prelude.{◌≡◌, ⊤, ℕ, ◌≤◌, ◌^◌, Bool, true, false, ◌&&◌, cond, ℤ, List, [], ◌++◌, map, Option, Some, None, unsigned_abs, Result, Ok, Err}
use Rattle.bit_sets.specs.declared.span.Use.{Use}
use Rattle.sv_types.specs.Surroundings as S
use Rattle.sv_types.specs.Windows.{Window}
use Rattle.sv_types.specs.Meanings as M
use Rattle.sv_types.specs.Meanings.{Meaning, Prefix, root_sure}
use Rattle.sv_types.specs.Paths.{narrowed, index_of}
use Rattle.eval_parts.specs.Places.{IsNear, window_of}
use Rattle.flow_sets.specs.Bits.{use_of, AllShort}
use Rattle.expr_flows.specs.declared.known.Known.{Known}
use Rattle.expr_flows.specs.declared.traced.Traced.{Traced}
use Rattle.expr_flows.specs.declared.traced.Index.{Index}
use Rattle.expr_flows.specs.declared.traced.Index.TheVariants as I
use Rattle.expr_flows.specs.Known.{sight}

abbrev pub prefix_of : Traced → Prefix
prefix_of t = record { window = window_of t.window; exact = t.exact }

-- the number of an index is small, where it has one
abbrev pub IsSmall : Option ℤ → Type 0
IsSmall None = ⊤
IsSmall (Some k) = unsigned_abs k ≤ 2 ^ 64

abbrev pub IsShort : Index → Type 0
IsShort I.Variable = ⊤
IsShort (I.Fixed o) = IsSmall o

-- a step by an index: the prefix ends before one that isn't known
abbrev pub stepped : (Option ℤ → Window → Window) → Index → Prefix → Prefix
stepped step I.Variable p = record { window = p.window; exact = false }
stepped step (I.Fixed o) p = narrowed (step o) p

-- what is known of a path, or of a value
pub record IsTraced (t : Traced) (k : Known) (m : Meaning) : Type 0 where
  pub root : m.root ≡ t.root
  pub prefix : m.prefix (sight k) ≡ prefix_of t
  pub constant : m.constant (sight k) ≡ (t.exact && (t.base && root_sure m.root (sight k)))
  pub near : IsNear t.window.shift

-- an index, as far as it is known
abbrev pub IsIndex : Index → Known → Meaning → Type 0
IsIndex I.Variable k m = m.constant (sight k) ≡ false
IsIndex (I.Fixed o) k m = (m.constant (sight k) ≡ true) × (o ≡ index_of m (sight k).around)

-- these uses stand behind those that were there
pub record Adds (old new : List Use) (us : List S.Use) : Type 0 where
  pub adds : new ≡ old ++ map use_of us
  pub short : AllShort us

-- the use of what a path names
abbrev pub AddsUse : {E : Type 0} → Result (Unit {0}) E → Traced → ℕ → List Use → List Use → Type 0
AddsUse (Ok u) t at old new = Adds old new (M.use_of t.root at (prefix_of t))
AddsUse (Err e) t at old new = ⊤

-- unless it is known
abbrev pub AddsUnsure : {E : Type 0} → Result (Unit {0}) E → Traced → Bool → ℕ → List Use → List Use → Type 0
AddsUnsure (Ok u) t sure at old new = Adds old new (cond sure [] (M.use_of t.root at (prefix_of t)))
AddsUnsure (Err e) t sure at old new = ⊤
