-- What stands with a cast behind it, or without.
use Rattle.std.proofs.Common.{◌≡◌, ℕ, List, Option, Some, None, refl, sym, subst}
use Rattle.std.specs.Prelude.{Result, Err}
use Rattle.sv_tree.specs.declared.expressions.Cast.{Cast}
use Rattle.sv_tree.specs.declared.expressions.Dimension.{Dimension}
use Rattle.sv_tree.specs.declared.expressions.Expr.{Expr}
use Rattle.sv_tree.specs.declared.expressions.Expr.TheVariants as X
use Rattle.sv_tree.specs.declared.expressions.Select.{Select}
use Rattle.sv_tree.specs.declared.names.QualifiedName.{QualifiedName}
use Rattle.sv_tree.specs.declared.types.KeywordType.{KeywordType}
use Rattle.sv_types.specs.declared.statement.Function.{Function}
use Rattle.expr_type.specs.declared.halt.Halt.{Halt}
use Rattle.expr_type.specs.declared.halt.Halt.TheVariants as H
use Rattle.expr_type.specs.Expressions.{meaning}
use Rattle.expr_type.specs.Forms.{plain}
use Rattle.expr_type.specs.Names.{Context}
use Rattle.expr_type.specs.Operands as V
use Rattle.typing_steps.specs.Steps.{TypesTo}
use Rattle.typing_operators.specs.TypingValuesParts as P
use Rattle.typing_exprs.specs.CastForms.{called_of, parenthesized_of}
use Rattle.typing_exprs.proofs.FormMeanings as M
use Rattle.typing_exprs.specs.Casts.{name_of, word_of}

pub word-alone : (k : Context) (of : KeywordType) (ds : List Dimension) (o : Option Cast) (fs : List Function) → o ≡ None → TypesTo {A = V.Operand} (Err H.Quiet) (word_of k of ds o fs) fs
word-alone k of ds o fs is = subst (λ (x : Option Cast). TypesTo {A = V.Operand} (Err H.Quiet) (word_of k of ds x fs) fs) (sym is) (record { quiet = refl; functions = refl })

pub word-cast : (k : Context) (of : KeywordType) (ds : List Dimension) (o : Option Cast) (c : Cast) (r : Result V.Operand Halt) (fs gs : List Function) → o ≡ Some c → TypesTo r (plain (P.to_word k of ds c) fs) gs
    → TypesTo r (word_of k of ds o fs) gs
word-cast k of ds o c r fs gs is h = subst (λ (x : Option Cast). TypesTo r (word_of k of ds x fs) gs) (sym is) h

pub name-alone : (k : Context) (of : QualifiedName) (ss : List Select) (o : Option Cast) (r : Result V.Operand Halt) (fs gs : List Function) → o ≡ None → TypesTo r (plain (P.named_path k of ss) fs) gs
    → TypesTo r (name_of k of ss o fs) gs
name-alone k of ss o r fs gs is h = subst (λ (x : Option Cast). TypesTo r (name_of k of ss x fs) gs) (sym is) h

pub name-cast : (k : Context) (of : QualifiedName) (ss : List Select) (o : Option Cast) (c : Cast) (r : Result V.Operand Halt) (fs gs : List Function) → o ≡ Some c → TypesTo r (plain (P.to_name k of ss c) fs) gs
    → TypesTo r (name_of k of ss o fs) gs
name-cast k of ss o c r fs gs is h = subst (λ (x : Option Cast). TypesTo r (name_of k of ss x fs) gs) (sym is) h

-- forms with or without a cast
pub parenthesized-meant : (k : Context) (e : Expr) (opening : ℕ) (v : Expr) (closing : ℕ) (o : Option Cast) (fs gs : List Function) (r : Result V.Operand Halt) → e ≡ X.Parenthesized opening v closing o
    → TypesTo r (parenthesized_of k opening v o fs) gs → TypesTo r ((meaning e).typed k fs) gs
parenthesized-meant k e opening v closing None fs gs r is h = M.parenthesized-meant k e opening v closing fs gs r is h
parenthesized-meant k e opening v closing (Some c) fs gs r is h = M.parenthesized-cast-meant k e opening v closing c fs gs r is h

pub type-meant : (k : Context) (e : Expr) (of : KeywordType) (ds : List Dimension) (o : Option Cast) (fs gs : List Function) (r : Result V.Operand Halt) → e ≡ X.Type of ds o → TypesTo r (word_of k of ds o fs) gs
    → TypesTo r ((meaning e).typed k fs) gs
type-meant k e of ds None fs gs r is h = M.type-meant k e of ds fs gs r is h
type-meant k e of ds (Some c) fs gs r is h = M.type-cast-meant k e of ds c fs gs r is h

pub call-meant : (k : Context) (e : Expr) (of : QualifiedName) (opening : ℕ) (es : List Expr) (closing : ℕ) (o : Option Cast) (fs gs : List Function) (r : Result V.Operand Halt) → e ≡ X.Call of opening es closing o
    → TypesTo r (called_of k of es o fs) gs → TypesTo r ((meaning e).typed k fs) gs
call-meant k e of opening es closing None fs gs r is h = M.call-meant k e of opening es closing fs gs r is h
call-meant k e of opening es closing (Some c) fs gs r is h = M.call-cast-meant k e of opening es closing c fs gs r is h

pub name-meant : (k : Context) (e : Expr) (of : QualifiedName) (ss : List Select) (o : Option Cast) (fs gs : List Function) (r : Result V.Operand Halt) → e ≡ X.Name of ss o → TypesTo r (name_of k of ss o fs) gs
    → TypesTo r ((meaning e).typed k fs) gs
name-meant k e of ss None fs gs r is h = M.name-meant k e of ss fs gs r is h
name-meant k e of ss (Some c) fs gs r is h = M.name-cast-meant k e of ss c fs gs r is h
