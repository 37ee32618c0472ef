-- What each form of an expression means, over the whole texts of its parts. In `X-meant` an expression of the form X is typed as what is
-- said of the form.
use Rattle.std.proofs.Common.{◌≡◌, ℕ, List, Some, None, sym, ◌∙◌, subst}
use Rattle.std.specs.Prelude.{Option, Result}
use Rattle.sv_tree.specs.Extents.{qualified_first}
use Rattle.sv_tree.specs.declared.expressions.Cast.{Cast}
use Rattle.sv_tree.specs.declared.expressions.Dimension.{Dimension}
use Rattle.sv_tree.specs.declared.expressions.Expr.{Expr, Expr-F}
use Rattle.sv_tree.specs.declared.expressions.Expr.TheVariants as X
use Rattle.sv_tree.specs.declared.expressions.Pattern.{Pattern}
use Rattle.sv_tree.specs.declared.expressions.Select.{Select}
use Rattle.sv_tree.specs.declared.expressions.SliceSize.{SliceSize}
use Rattle.sv_tree.specs.declared.expressions.ValueRange.{ValueRange}
use Rattle.sv_tree.specs.declared.names.QualifiedName.{QualifiedName}
use Rattle.sv_tree.specs.declared.names.Signing.{Signing}
use Rattle.sv_tree.specs.declared.operators.BinaryOperator.{BinaryOperator}
use Rattle.sv_tree.specs.declared.operators.StreamOperator.{StreamOperator}
use Rattle.sv_tree.specs.declared.operators.UnaryOperator.{UnaryOperator}
use Rattle.sv_tree.specs.declared.types.KeywordType.{KeywordType}
use Rattle.sv_types.specs.declared.statement.Function.{Function}
use Rattle.expr_type.specs.Breaks.{Quiet}
use Rattle.expr_type.specs.declared.halt.Halt.{Halt}
use Rattle.expr_type.specs.Expressions.{DimensionMeaning, RangeMeaning, dimension_meaning, meaning}
use Rattle.expr_type.specs.Forms as F
use Rattle.expr_type.specs.Forms.{plain}
use Rattle.expr_type.specs.KeywordTypes.{Dim, keyword_type}
use Rattle.expr_type.specs.Names.{Context}
use Rattle.expr_type.specs.Operands as V
use Rattle.expr_type.specs.Operators.{Alternative, inside_of}
use Rattle.expr_type.specs.Typings.{Typing, all, both, broken, checked, rule, whole}
use Rattle.typing_steps.specs.Steps.{TypesTo}
use Rattle.typing_operators.specs.TypingValuesParts as P
use Rattle.typing_operators.specs.TypingValues.{cast_meaning, range_meaning}
use Rattle.typing_operators.specs.TypingValues.{value_of}
use Rattle.typing_operators.specs.Joins as J
use Rattle.typing_operators.specs.Operators as O
use Rattle.typing_patterns.specs.Written.{pattern_by}
use Rattle.typing_patterns.proofs.Levels.{map-map}
use Rattle.typing_exprs.proofs.Unrolling.{meant-by}

pub conditional-meant : (k : Context) (e : Expr) (test : Expr) (question : ℕ) (first : Expr) (colon : ℕ) (second : Expr) (fs gs : List Function) (r : Result V.Operand Halt) → e ≡ X.Conditional test question first colon second → TypesTo r (plain (O.conditional k question test first second) fs) gs → TypesTo r ((meaning e).typed k fs) gs
conditional-meant k e test question first colon second fs gs r is h = meant-by k e (Expr-F.Conditional test question first colon second) fs gs r (is ∙ sym (X.rolls-Conditional test question first colon second)) h

pub binary-meant : (k : Context) (e : Expr) (left : Expr) (operator : BinaryOperator) (at : ℕ) (right : Expr) (fs gs : List Function) (r : Result V.Operand Halt) → e ≡ X.Binary left operator at right → TypesTo r (plain (O.binary k operator at left right) fs) gs → TypesTo r ((meaning e).typed k fs) gs
binary-meant k e left operator at right fs gs r is h = meant-by k e (Expr-F.Binary left operator at right) fs gs r (is ∙ sym (X.rolls-Binary left operator at right)) h

pub inside-meant : (k : Context) (e : Expr) (value : Expr) (keyword : ℕ) (opening : ℕ) (ranges : List ValueRange) (closing : ℕ) (fs gs : List Function) (r : Result V.Operand Halt) → e ≡ X.Inside value keyword opening ranges closing → TypesTo r (plain (P.inside k keyword value ranges) fs) gs → TypesTo r ((meaning e).typed k fs) gs
inside-meant k e value keyword opening ranges closing fs gs r is h = meant-by k e (Expr-F.Inside value keyword opening ranges closing) fs gs r (is ∙ sym (X.rolls-Inside value keyword opening ranges closing)) (subst (λ (xs : List (Typing Alternative)). TypesTo r (plain (both (value_of k value) (all xs) (λ u as'. rule (inside_of k.source keyword u as'))) fs) gs) (sym (map-map (λ (y : RangeMeaning). y k) range_meaning ranges)) h)

pub unary-meant : (k : Context) (e : Expr) (operator : UnaryOperator) (at : ℕ) (operand : Expr) (fs gs : List Function) (r : Result V.Operand Halt) → e ≡ X.Unary operator at operand → TypesTo r (plain (O.unary k operator at operand) fs) gs → TypesTo r ((meaning e).typed k fs) gs
unary-meant k e operator at operand fs gs r is h = meant-by k e (Expr-F.Unary operator at operand) fs gs r (is ∙ sym (X.rolls-Unary operator at operand)) h

pub decimal-meant : (k : Context) (e : Expr) (digits : ℕ) (fs gs : List Function) (r : Result V.Operand Halt) → e ≡ X.Decimal digits → TypesTo r (plain (rule (F.decimal k.source digits)) fs) gs → TypesTo r ((meaning e).typed k fs) gs
decimal-meant k e digits fs gs r is h = meant-by k e (Expr-F.«Expr::Decimal» digits) fs gs r (is ∙ sym (X.rolls-Decimal digits)) h

pub sized-meant : (k : Context) (e : Expr) (size : ℕ) (digits : ℕ) (fs gs : List Function) (r : Result V.Operand Halt) → e ≡ X.Sized size digits → TypesTo r (plain (rule (F.sized_number k.source size digits)) fs) gs → TypesTo r ((meaning e).typed k fs) gs
sized-meant k e size digits fs gs r is h = meant-by k e (Expr-F.Sized size digits) fs gs r (is ∙ sym (X.rolls-Sized size digits)) h

pub size-cast-meant : (k : Context) (e : Expr) (size : ℕ) (cast : Cast) (fs gs : List Function) (r : Result V.Operand Halt) → e ≡ X.SizeCast size cast → TypesTo r (plain (P.by_written_size k size cast) fs) gs → TypesTo r ((meaning e).typed k fs) gs
size-cast-meant k e size cast fs gs r is h = meant-by k e (Expr-F.SizeCast size cast) fs gs r (is ∙ sym (X.rolls-SizeCast size cast)) h

pub based-meant : (k : Context) (e : Expr) (digits : ℕ) (fs gs : List Function) (r : Result V.Operand Halt) → e ≡ X.Based digits → TypesTo r (plain (rule (F.based k.source digits)) fs) gs → TypesTo r ((meaning e).typed k fs) gs
based-meant k e digits fs gs r is h = meant-by k e (Expr-F.Based digits) fs gs r (is ∙ sym (X.rolls-Based digits)) h

pub fill-meant : (k : Context) (e : Expr) (digit : ℕ) (fs gs : List Function) (r : Result V.Operand Halt) → e ≡ X.Fill digit → TypesTo r (plain (rule (F.fill k.source digit)) fs) gs → TypesTo r ((meaning e).typed k fs) gs
fill-meant k e digit fs gs r is h = meant-by k e (Expr-F.Fill digit) fs gs r (is ∙ sym (X.rolls-Fill digit)) h

pub parenthesized-meant : (k : Context) (e : Expr) (opening : ℕ) (value : Expr) (closing : ℕ) (fs gs : List Function) (r : Result V.Operand Halt) → e ≡ X.Parenthesized opening value closing None → TypesTo r (checked ((meaning value).typed k) (λ o. whole (V.parenthesized opening o)) fs) gs → TypesTo r ((meaning e).typed k fs) gs
parenthesized-meant k e opening value closing fs gs r is h = meant-by k e (Expr-F.«Expr::Parenthesized» opening value closing None) fs gs r (is ∙ sym (X.rolls-Parenthesized opening value closing None)) h

pub parenthesized-cast-meant : (k : Context) (e : Expr) (opening : ℕ) (value : Expr) (closing : ℕ) (cast : Cast) (fs gs : List Function) (r : Result V.Operand Halt) → e ≡ X.Parenthesized opening value closing (Some cast) → TypesTo r (plain (P.by_size k opening ((meaning value).typed k) cast) fs) gs → TypesTo r ((meaning e).typed k fs) gs
parenthesized-cast-meant k e opening value closing cast fs gs r is h = meant-by k e (Expr-F.«Expr::Parenthesized» opening value closing (Some cast)) fs gs r (is ∙ sym (X.rolls-Parenthesized opening value closing (Some cast))) h

pub replication-meant : (k : Context) (e : Expr) (opening : ℕ) (times : Expr) (inner_opening : ℕ) (items : List Expr) (inner_closing : ℕ) (closing : ℕ) (fs gs : List Function) (r : Result V.Operand Halt) → e ≡ X.Replication opening times inner_opening items inner_closing closing → TypesTo r (plain (J.replication k opening times items) fs) gs → TypesTo r ((meaning e).typed k fs) gs
replication-meant k e opening times inner_opening items inner_closing closing fs gs r is h = meant-by k e (Expr-F.«Expr::Replication» opening times inner_opening items inner_closing closing) fs gs r (is ∙ sym (X.rolls-Replication opening times inner_opening items inner_closing closing)) h

pub concatenation-meant : (k : Context) (e : Expr) (opening : ℕ) (items : List Expr) (closing : ℕ) (fs gs : List Function) (r : Result V.Operand Halt) → e ≡ X.Concatenation opening items closing → TypesTo r (plain (J.concatenation k opening items) fs) gs → TypesTo r ((meaning e).typed k fs) gs
concatenation-meant k e opening items closing fs gs r is h = meant-by k e (Expr-F.Concatenation opening items closing) fs gs r (is ∙ sym (X.rolls-Concatenation opening items closing)) h

pub stream-meant : (k : Context) (e : Expr) (opening : ℕ) (operator : StreamOperator) (at : ℕ) (size : Option SliceSize) (inner_opening : ℕ) (items : List Expr) (inner_closing : ℕ) (closing : ℕ) (fs gs : List Function) (r : Result V.Operand Halt) → e ≡ X.Stream opening operator at size inner_opening items inner_closing closing → TypesTo r (checked (J.stream k opening operator size items) (λ v. whole (V.Stream v)) fs) gs → TypesTo r ((meaning e).typed k fs) gs
stream-meant k e opening operator at None inner_opening items inner_closing closing fs gs r is h = meant-by k e (Expr-F.Stream opening operator at None inner_opening items inner_closing closing) fs gs r (is ∙ sym (X.rolls-Stream opening operator at None inner_opening items inner_closing closing)) h
stream-meant k e opening operator at (Some size) inner_opening items inner_closing closing fs gs r is h = meant-by k e (Expr-F.Stream opening operator at (Some size) inner_opening items inner_closing closing) fs gs r (is ∙ sym (X.rolls-Stream opening operator at (Some size) inner_opening items inner_closing closing)) h

pub pattern-meant : (k : Context) (e : Expr) (tick : ℕ) (opening : ℕ) (of : Pattern) (closing : ℕ) (fs gs : List Function) (r : Result V.Operand Halt) → e ≡ X.Pattern tick opening of closing → TypesTo r (pattern_by k tick of fs) gs → TypesTo r ((meaning e).typed k fs) gs
pattern-meant k e tick opening of closing fs gs r is h = meant-by k e (Expr-F.«Expr::Pattern» tick opening of closing) fs gs r (is ∙ sym (X.rolls-Pattern tick opening of closing)) h

pub type-meant : (k : Context) (e : Expr) (of : KeywordType) (packed : List Dimension) (fs gs : List Function) (r : Result V.Operand Halt) → e ≡ X.Type of packed None → TypesTo r (broken {A = V.Operand} Quiet fs) gs → TypesTo r ((meaning e).typed k fs) gs
type-meant k e of packed fs gs r is h = meant-by k e (Expr-F.Type of packed None) fs gs r (is ∙ sym (X.rolls-Type of packed None)) h

pub type-cast-meant : (k : Context) (e : Expr) (of : KeywordType) (packed : List Dimension) (cast : Cast) (fs gs : List Function) (r : Result V.Operand Halt) → e ≡ X.Type of packed (Some cast) → TypesTo r (plain (P.to_word k of packed cast) fs) gs → TypesTo r ((meaning e).typed k fs) gs
type-cast-meant k e of packed cast fs gs r is h = meant-by k e (Expr-F.Type of packed (Some cast)) fs gs r (is ∙ sym (X.rolls-Type of packed (Some cast))) (subst (λ (xs : List (Typing Dim)). TypesTo r (plain (F.by_type k.source of.at (checked (all xs) (λ ds. whole (keyword_type of ds))) (cast_meaning cast k)) fs) gs) (sym (map-map (λ (y : DimensionMeaning). y k) dimension_meaning packed)) h)

pub signing-cast-meant : (k : Context) (e : Expr) (signing : Signing) (cast : Cast) (fs gs : List Function) (r : Result V.Operand Halt) → e ≡ X.SigningCast signing cast → TypesTo r (plain (P.by_sign k signing cast) fs) gs → TypesTo r ((meaning e).typed k fs) gs
signing-cast-meant k e signing cast fs gs r is h = meant-by k e (Expr-F.SigningCast signing cast) fs gs r (is ∙ sym (X.rolls-SigningCast signing cast)) h

pub system-call-meant : (k : Context) (e : Expr) (name : ℕ) (opening : ℕ) (argument : Expr) (closing : ℕ) (fs gs : List Function) (r : Result V.Operand Halt) → e ≡ X.SystemCall name opening argument closing → TypesTo r (plain (P.system_call k name argument) fs) gs → TypesTo r ((meaning e).typed k fs) gs
system-call-meant k e name opening argument closing fs gs r is h = meant-by k e (Expr-F.SystemCall name opening argument closing) fs gs r (is ∙ sym (X.rolls-SystemCall name opening argument closing)) h

pub call-meant : (k : Context) (e : Expr) (of : QualifiedName) (opening : ℕ) (arguments : List Expr) (closing : ℕ) (fs gs : List Function) (r : Result V.Operand Halt) → e ≡ X.Call of opening arguments closing None → TypesTo r (plain (P.call k of arguments) fs) gs → TypesTo r ((meaning e).typed k fs) gs
call-meant k e of opening arguments closing fs gs r is h = meant-by k e (Expr-F.Call of opening arguments closing None) fs gs r (is ∙ sym (X.rolls-Call of opening arguments closing None)) h

pub call-cast-meant : (k : Context) (e : Expr) (of : QualifiedName) (opening : ℕ) (arguments : List Expr) (closing : ℕ) (cast : Cast) (fs gs : List Function) (r : Result V.Operand Halt) → e ≡ X.Call of opening arguments closing (Some cast) → TypesTo r (plain (P.by_size k (qualified_first of) (plain (P.call k of arguments)) cast) fs) gs → TypesTo r ((meaning e).typed k fs) gs
call-cast-meant k e of opening arguments closing cast fs gs r is h = meant-by k e (Expr-F.Call of opening arguments closing (Some cast)) fs gs r (is ∙ sym (X.rolls-Call of opening arguments closing (Some cast))) h

pub name-meant : (k : Context) (e : Expr) (of : QualifiedName) (selects : List Select) (fs gs : List Function) (r : Result V.Operand Halt) → e ≡ X.Name of selects None → TypesTo r (plain (P.named_path k of selects) fs) gs → TypesTo r ((meaning e).typed k fs) gs
name-meant k e of selects fs gs r is h = meant-by k e (Expr-F.«Expr::Name» of selects None) fs gs r (is ∙ sym (X.rolls-Name of selects None)) h

pub name-cast-meant : (k : Context) (e : Expr) (of : QualifiedName) (selects : List Select) (cast : Cast) (fs gs : List Function) (r : Result V.Operand Halt) → e ≡ X.Name of selects (Some cast) → TypesTo r (plain (P.to_name k of selects cast) fs) gs → TypesTo r ((meaning e).typed k fs) gs
name-cast-meant k e of selects cast fs gs r is h = meant-by k e (Expr-F.«Expr::Name» of selects (Some cast)) fs gs r (is ∙ sym (X.rolls-Name of selects (Some cast))) h
