-- Constants of a sound text may be valued.
use Rattle.std.proofs.Common.{◌≡◌, true, List}
use Rattle.std.specs.Prelude.{Ok}
use Rattle.sv_tree.specs.declared.expressions.Expr.{Expr}
use Rattle.sv_types.specs.declared.statement.Function.{Function}
use Rattle.sv_types.specs.Expressions as T
use Rattle.typing_fits.specs.EvalParts.{FitsAlone}
use Rattle.typing_fits.specs.EvalForms.{formals_in}
use Rattle.expr_type.specs.declared.operand.Valued.{Valued}
use Rattle.expr_type.specs.Names.{Context}
use Rattle.expr_type.specs.Operands.{Operand, constant_in}
use Rattle.expr_type.specs.Expressions.{operand}
use Rattle.typing_fits.specs.Operands.{SoundOperand}
use Rattle.typing_fits.proofs.Given.{sound-fits}
use Rattle.typing_walks.specs.Keeps.{Kept, Surrounded}
use Rattle.typing_walks.specs.Written.{is_written}
use Rattle.typing_walks.proofs.Operands as O
use Rattle.typing_walks.proofs.Walk.{expr-sound}

module _ (Q : List Function → Type 0) where
  pub operand-kept : (k : Context) (e : Expr) (gs : List Function) → Surrounded Q k → is_written e ≡ true → Q gs → Kept Operand Q SoundOperand gs (operand k e gs)
  operand-kept k e gs r w q = (expr-sound Q e w).typed k r gs q

  -- what stands where a constant is wanted, before anything is said of its value
  pub constant-fits : (k : Context) (e : Expr) (gs : List Function) (v : Valued) → Surrounded Q k → is_written e ≡ true → Q gs → (constant_in k.source (operand k e) gs).result ≡ Ok v
      → FitsAlone (T.meaning v.expr) (formals_in (constant_in k.source (operand k e) gs).functions)
  constant-fits k e gs v r w q h =
      let c = O.constant-keeps Q k.source (operand k e) ((expr-sound Q e w).typed k r) gs q in
      sound-fits v (constant_in k.source (operand k e) gs).functions (c.sound v h)
