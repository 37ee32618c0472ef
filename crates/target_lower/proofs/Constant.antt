-- The numbers of indices that are constant.
use Rattle.std.proofs.Common.{◌≡◌, ◌≤◌, ◌^◌, ℤ, true, false, List, Option, Some, None, IfSome, Result, Ok, Err, IfOk, refl, sym, ◌∙◌, true≢false}
use Rattle.std.specs.Prelude.{unsigned_abs}
use Rattle.std.specs.declared.alloc.AllocError.{AllocError}
use Rattle.sv_types.specs.declared.expression.Expr.{Expr}
use Rattle.sv_types.specs.declared.statement.Function.{Function}
use Rattle.sv_types.specs.Surroundings.{Sight}
use Rattle.path_flatten.specs.declared.offsets.Index.{Index}
use Rattle.path_steps.specs.declared.known.KnownIndex.{KnownIndex}
use Rattle.path_steps.specs.Known as F
use Rattle.known_indices.specs.Known as C
use Rattle.known_indices.specs.Known.{unheld, IsVariable, takes_too_long}
use Rattle.target_walk.specs.declared.given.Given.TheVariants as G
use Rattle.target_walk.specs.Giving.{IsSmall}
use Rattle.target_lower.specs.declared.within.Within.{Within}
use Rattle.target_lower.specs.declared.within.Within.TheVariants.{Process, Routine}
use Rattle.target_lower.specs.Made.{IsConstant, FixedIf, GivesNumber}

-- numbers
pub small-known : (k : Option ℤ) → IfSome k (λ n. unsigned_abs n ≤ 2 ^ 64) → IsSmall (G.Known k)
small-known None h = tt
small-known (Some n) h = h

-- a sight in which nothing is sure
abbrev blind : List Function → Sight
blind fs = record { around = unheld fs; sure = λ q. false }

-- in a process
pub variable-none : (fs : List Function) (i : Expr) → IsVariable i → IsConstant fs i → ⊥
variable-none fs i varies h = true≢false (sym (h.constant (blind fs) (λ q. refl)) ∙ varies (blind fs) (λ q. refl))

pub long-none : (fs : List Function) (i : Expr) → takes_too_long fs i ≡ true → IsConstant fs i → ⊥
long-none fs i long h = true≢false (sym long ∙ h.ends)

pub constant-number : (fs : List Function) (i : Expr) (z : Option ℤ) → C.IsKnown fs i z → IfSome z (λ n. unsigned_abs n ≤ 2 ^ 64) → GivesNumber Process fs i (Some (record { number = z }))
constant-number fs i z known small = (record { number = known.number; none = known.none }, small-known z small)

-- in a function's body
free-found : (fs : List Function) (i : Expr) (o : Option KnownIndex) → IfSome o (λ (k : KnownIndex). F.IsKnown i k.number) → IfSome o (λ (k : KnownIndex). IfSome k.number (λ n. unsigned_abs n ≤ 2 ^ 64)) → GivesNumber Routine fs i o
free-found fs i None known small = tt
free-found fs i (Some k) known small = (record { number = λ a calls. known.number a; none = known.none }, small-known k.number small)

pub free-number : (fs : List Function) (i : Expr) (r : Result (Option KnownIndex) AllocError) → IfOk r (λ o. IfSome o (λ (k : KnownIndex). F.IsKnown i k.number))
    → IfOk r (λ o. IfSome o (λ (k : KnownIndex). IfSome k.number (λ n. unsigned_abs n ≤ 2 ^ 64))) → IfOk r (GivesNumber Routine fs i)
free-number fs i (Ok o) known small = free-found fs i o known small
free-number fs i (Err e) known small = tt

-- an index by its number, and one that has none
pub fixed-known : (within : Within) (fs : List Function) (i : Expr) (k : Option ℤ) → FixedIf within fs i (G.Known k)
fixed-known Process fs i k = λ h. tt
fixed-known Routine fs i k = tt

pub fixed-lowered : (within : Within) (fs : List Function) (i : Expr) (x : Index) (d : ℤ) → GivesNumber within fs i None → FixedIf within fs i (G.Lowered x d)
fixed-lowered Process fs i x d h = h
fixed-lowered Routine fs i x d h = tt
