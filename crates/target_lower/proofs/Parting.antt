-- What is known of what a step selects from, and of its index.
use Rattle.std.proofs.Common.{◌≡◌, ℕ, ◌<◌, ◌≤◌, Bool, ℤ, List, ◌++◌, arith, subst}
use Rattle.sv_types.specs.declared.expression.Expr.{Expr}
use Rattle.sv_types.specs.declared.expression.Form.TheVariants as V
use Rattle.sv_types.specs.Surroundings.{Parameter}
use Rattle.sv_types.specs.Meanings.{wide}
use Rattle.sv_types.specs.Expressions.{meaning}
use Rattle.eval_parts.specs.Limits.{FitsAlone}
use Rattle.eval_parts.proofs.Nodes as N
use Rattle.eval_parts.proofs.Nodes.{nodes}
use Rattle.eval_parts.proofs.PathLimits as L
use Rattle.expr_lower.specs.Leaves.{Leaf, onto, indexed, leaves, Each, IsLowered}
use Rattle.expr_lower.proofs.AskedLeaves.{off, index-lowered, each-left, each-right, leaves-Member, leaves-Part, leaves-Index, leaves-Slide}

-- all forms of what a step selects from are lowered, and all of its index
onto-built : (ls : List Leaf) → Each IsLowered (onto ls) → Each IsLowered ls
onto-built ls h = off IsLowered (λ n of k. tt) ls h

slid-built : (x y : Expr) → Each IsLowered (onto (leaves x) ++ leaves y) → Each IsLowered (leaves x) × Each IsLowered (leaves y)
slid-built x y h = (onto-built (leaves x) (each-left IsLowered (onto (leaves x)) (leaves y) h), each-right IsLowered (onto (leaves x)) (leaves y) h)

indexed-built : (x y : Expr) → Each IsLowered (indexed (leaves x) ++ leaves y) → Each IsLowered (leaves x) × Each IsLowered (leaves y)
indexed-built x y h =
    (onto-built (leaves x) (index-lowered (leaves x) (each-left IsLowered (indexed (leaves x)) (leaves y) h)), each-right IsLowered (indexed (leaves x)) (leaves y) h)

-- what is selected from
pub record From (e x : Expr) (fs : ℕ → List Parameter) : Type 0 where
  pub fewer : nodes x < nodes e
  pub built : Each IsLowered (leaves x)
  pub fits : FitsAlone (meaning x) fs

-- an index
pub record At (e y : Expr) (fs : ℕ → List Parameter) : Type 0 where
  pub fewer : nodes y < nodes e
  pub built : Each IsLowered (leaves y)
  pub fits : FitsAlone (meaning y) fs
  pub short : wide (meaning y) ≤ 64

pub from-Member : (e x : Expr) (k : ℕ) (fs : ℕ → List Parameter) → e.form ≡ V.Member x k → Each IsLowered (leaves e) → FitsAlone (meaning e) fs → From e x fs
from-Member e x k fs is built fits =
    let own = L.member-fits e x k fs (wide (meaning e)) is fits in
    record { fewer = omega (arith, N.nodes-Member e x k is); built = onto-built (leaves x) (subst (Each IsLowered) (leaves-Member e x k is) built); fits = own }

pub from-Part : (e x : Expr) (left right : ℤ) (fs : ℕ → List Parameter) → e.form ≡ V.Part x left right → Each IsLowered (leaves e) → FitsAlone (meaning e) fs → From e x fs
from-Part e x left right fs is built fits =
    let own = L.part-fits e x left right fs (wide (meaning e)) is fits in
    record { fewer = omega (arith, N.nodes-Part e x left right is); built = onto-built (leaves x) (subst (Each IsLowered) (leaves-Part e x left right is) built); fits = own }

pub from-Index : (e x y : Expr) (fs : ℕ → List Parameter) → e.form ≡ V.Index x y → Each IsLowered (leaves e) → FitsAlone (meaning e) fs → From e x fs
from-Index e x y fs is built fits =
    let own = L.index-fits-x e x y fs (wide (meaning e)) is fits in
    let all = subst (Each IsLowered) (leaves-Index e x y is) built in
    record { fewer = omega (arith, N.nodes-Index e x y is); built = (indexed-built x y all).0; fits = own }

pub at-Index : (e x y : Expr) (fs : ℕ → List Parameter) → e.form ≡ V.Index x y → Each IsLowered (leaves e) → FitsAlone (meaning e) fs → At e y fs
at-Index e x y fs is built fits =
    let all = subst (Each IsLowered) (leaves-Index e x y is) built in
    record {
      fewer = omega (arith, N.nodes-Index e x y is);
      built = (indexed-built x y all).1;
      fits = L.index-fits-y e x y fs (wide (meaning e)) is fits;
      short = L.index-short e x y fs (wide (meaning e)) is fits;
    }

pub from-Slide : (e x y : Expr) (n : ℕ) (up : Bool) (fs : ℕ → List Parameter) → e.form ≡ V.Slide x y n up → Each IsLowered (leaves e) → FitsAlone (meaning e) fs → From e x fs
from-Slide e x y n up fs is built fits =
    let own = L.slide-fits-x e x y n up fs (wide (meaning e)) is fits in
    let all = subst (Each IsLowered) (leaves-Slide e x y n up is) built in
    record { fewer = omega (arith, N.nodes-Slide e x y n up is); built = (slid-built x y all).0; fits = own }

pub at-Slide : (e x y : Expr) (n : ℕ) (up : Bool) (fs : ℕ → List Parameter) → e.form ≡ V.Slide x y n up → Each IsLowered (leaves e) → FitsAlone (meaning e) fs → At e y fs
at-Slide e x y n up fs is built fits =
    let all = subst (Each IsLowered) (leaves-Slide e x y n up is) built in
    record {
      fewer = omega (arith, N.nodes-Slide e x y n up is);
      built = (slid-built x y all).1;
      fits = L.slide-fits-y e x y n up fs (wide (meaning e)) is fits;
      short = L.slide-short e x y n up fs (wide (meaning e)) is fits;
    }
