-- Patterns that are cast to types.
use Rattle.std.proofs.Common.{◌≡◌, ℕ, List, refl, sym, ap, ◌∙◌, subst}
use Rattle.std.specs.Prelude.{Result, Ok, Err}
use Rattle.sv_types.specs.declared.expression.Expr.{Expr}
use Rattle.sv_types.specs.declared.types.SvType.{SvType}
use Rattle.expr_type.specs.declared.halt.Halt.{Halt}
use Rattle.expr_type.specs.declared.operand.Valued.{Valued}
use Rattle.expr_type.specs.Answers.{Gives}
use Rattle.expr_type.specs.Forms as F
use Rattle.expr_type.specs.Names.{Source}
use Rattle.expr_type.specs.Operands.{Operand}
use Rattle.expr_type.specs.Typings.{Checked, where_whole}
use Rattle.given_types.specs.Casts.{cast_of}
use Rattle.pattern_types.specs.declared.operand.Item as J
use Rattle.pattern_types.specs.declared.operand.Operand as O
use Rattle.pattern_types.specs.declared.operand.Operand.TheVariants as OV
use Rattle.pattern_types.specs.Meaning.{Parts, fitted_in, operand_of, pattern_of}
use Rattle.pattern_types.proofs.Levels.{operand-Pattern}
use Rattle.typing_patterns.specs.Sized.{whole_by, whole_of}
use Rattle.typing_patterns.proofs.Crossing.{where-fine, where-stops}

whole-made : (first : ℕ) (x : Checked Expr) (made : Result Expr Halt) → Gives made x → Gives (whole_by first made) (where_whole x (λ e. Ok (whole_of first e)))
whole-made first x (Ok e) g = where-fine x (λ y. Ok (whole_of first y)) e (Ok (whole_of first e)) g refl
whole-made first x (Err h) g = where-stops x (λ y. Ok (whole_of first y)) h g

pub pattern-whole : (k : Source) (first : ℕ) (t : SvType) (o : O.Operand) (p : Parts) (tick times : ℕ) (items : List J.Item) (made : Result Expr Halt) (r : Result Valued Halt)
    → o ≡ OV.Pattern tick times items → p ≡ record { tick = tick; times = times; items = items } → Gives made (fitted_in k (pattern_of k p) first t) → r ≡ whole_by first made
    → Gives r (F.pattern_of_type k first t (operand_of k o))
pattern-whole k first t o p tick times items made r is parts g e =
    let q : Parts = record { tick = tick; times = times; items = items } in
    subst (λ (s : Result Valued Halt). Gives s (F.pattern_of_type k first t (operand_of k o))) (sym e)
    (subst (λ (v : Operand). Gives (whole_by first made) (F.pattern_of_type k first t v)) (sym (ap (operand_of k) is ∙ operand-Pattern k tick times items))
    (whole-made first (fitted_in k (pattern_of k q) first t) made (subst (λ (x : Parts). Gives made (fitted_in k (pattern_of k x) first t)) parts g)))

pub pattern-cast : (k : Source) (first tick : ℕ) (t : SvType) (o : O.Operand) (p : Parts) (other times : ℕ) (items : List J.Item) (made : Result Expr Halt) (r : Result Valued Halt)
    → o ≡ OV.Pattern other times items → p ≡ record { tick = other; times = times; items = items } → Gives made (fitted_in k (pattern_of k p) other t)
    → ((x : Checked Expr) → Gives made x → Gives r (where_whole x (cast_of k first tick t))) → Gives r (F.converted k first tick t (operand_of k o))
pattern-cast k first tick t o p other times items made r is parts g h =
    let q : Parts = record { tick = other; times = times; items = items } in
    subst (λ (v : Operand). Gives r (F.converted k first tick t v)) (sym (ap (operand_of k) is ∙ operand-Pattern k other times items))
    (h (fitted_in k (pattern_of k q) other t) (subst (λ (x : Parts). Gives made (fitted_in k (pattern_of k x) other t)) parts g))
