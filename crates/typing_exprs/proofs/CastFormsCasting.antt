-- What stands with a cast behind it, or without.
use Rattle.std.proofs.Common.{◌≡◌, ℕ, List, Option, Some, None, sym, subst}
use Rattle.std.specs.Prelude.{Result}
use Rattle.sv_tree.specs.Extents.{qualified_first}
use Rattle.sv_tree.specs.declared.expressions.Cast.{Cast}
use Rattle.sv_tree.specs.declared.expressions.Expr.{Expr}
use Rattle.sv_tree.specs.declared.names.QualifiedName.{QualifiedName}
use Rattle.sv_types.specs.declared.statement.Function.{Function}
use Rattle.expr_type.specs.declared.halt.Halt.{Halt}
use Rattle.expr_type.specs.Expressions.{meaning}
use Rattle.expr_type.specs.Forms.{plain}
use Rattle.expr_type.specs.Names.{Context}
use Rattle.expr_type.specs.Operands as V
use Rattle.pattern_types.specs.declared.operand.Operand as O
use Rattle.typing_parts.specs.declared.known.Known.{Known}
use Rattle.typing_parts.specs.Typists.{AllCanType}
use Rattle.typing_steps.specs.Steps.{TypesTo}
use Rattle.typing_patterns.specs.TypingValues.{in_cast}
use Rattle.typing_patterns.specs.TypingValues.{by_size, call}
use Rattle.typing_exprs.specs.WalkLaws.{in_casts}
use Rattle.typing_exprs.proofs.WalkLawsOperands as L
use Rattle.typing_exprs.specs.CastForms.{called_of, in_parentheses, parenthesized_of}

pub parenthesized-alone : (k : Context) (opening : ℕ) (v : Expr) (o : Option Cast) (r : Result V.Operand Halt) (fs gs : List Function) → o ≡ None → TypesTo r (in_parentheses k opening v fs) gs → TypesTo r (parenthesized_of k opening v o fs) gs
parenthesized-alone k opening v o r fs gs is h = subst (λ (x : Option Cast). TypesTo r (parenthesized_of k opening v x fs) gs) (sym is) h

pub parenthesized-sized : (k : Context) (opening : ℕ) (v : Expr) (o : Option Cast) (c : Cast) (r : Result V.Operand Halt) (fs gs : List Function) → o ≡ Some c → TypesTo r (plain (by_size k opening ((meaning v).typed k) c) fs) gs
    → TypesTo r (parenthesized_of k opening v o fs) gs
parenthesized-sized k opening v o c r fs gs is h = subst (λ (x : Option Cast). TypesTo r (parenthesized_of k opening v x fs) gs) (sym is) h

pub called-alone : (k : Context) (of : QualifiedName) (es : List Expr) (o : Option Cast) (r : Result V.Operand Halt) (fs gs : List Function) → o ≡ None → TypesTo r (plain (call k of es) fs) gs → TypesTo r (called_of k of es o fs) gs
called-alone k of es o r fs gs is h = subst (λ (x : Option Cast). TypesTo r (called_of k of es x fs) gs) (sym is) h

pub called-sized : (k : Context) (of : QualifiedName) (es : List Expr) (o : Option Cast) (c : Cast) (r : Result V.Operand Halt) (fs gs : List Function) → o ≡ Some c
    → TypesTo r (plain (by_size k (qualified_first of) (plain (call k of es)) c) fs) gs → TypesTo r (called_of k of es o fs) gs
called-sized k of es o c r fs gs is h = subst (λ (x : Option Cast). TypesTo r (called_of k of es x fs) gs) (sym is) h

module _ (R S : Type 0) (tree : R → Expr) (held : S → Known) (pre : R → S → Type 0) (post : R → S → Result O.Operand Halt → S → Type 0) (k : Context) where
  pub cast-can : (o : Option Cast) (c : Cast) → o ≡ Some c → AllCanType R S tree held pre post k (in_casts o) → AllCanType R S tree held pre post k (in_cast c)
  cast-can o c is h = subst (λ (x : Option Cast). AllCanType R S tree held pre post k (in_casts x)) is h

pub ruleset plains = (L.plain-fine, L.plain-stops)
