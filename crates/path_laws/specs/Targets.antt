-- Targets as they are typed (IEEE 1800-2017 clauses 10.4, 11.4.1, 11.4.12 and 11.4.14.3).
use Rattle.std.specs.Prelude.{◌≡◌, ℕ, Bool, true, false, List, [], ◌∷◌}
use Rattle.sv_types.specs.declared.expression.Expr.{Expr}
use Rattle.sv_types.specs.declared.expression.Form.TheVariants as V
use Rattle.typed_paths.specs.Typed.{IsTyped}

-- Typed paths and concatenations of such, which have no streams, and, if these may stand there, streams of any of these.
pub data AreTargets : Bool → List Expr → Type 0 where
  none : (streams : Bool) → AreTargets streams []
  path : (streams : Bool) (e : Expr) (es : List Expr) → IsTyped e → AreTargets streams es → AreTargets streams (e ∷ es)
  concatenation : (streams : Bool) (e : Expr) (ds es : List Expr) → e.form ≡ V.Concat ds → AreTargets false ds → AreTargets streams es → AreTargets streams (e ∷ es)
  stream : (e : Expr) (reversed : Bool) (n : ℕ) (ds es : List Expr) → e.form ≡ V.Stream reversed n ds → AreTargets true ds → AreTargets true es → AreTargets true (e ∷ es)
