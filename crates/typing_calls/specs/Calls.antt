-- Calls of functions over whole texts: the definitions of `expr_type`.
use Rattle.std.specs.Prelude.{◌≡◌, ℕ, Bool, List, map, zip, Option, Some, None, Result, Ok, Err}
use Rattle.sv_tree.specs.Extents.{qualified_first}
use Rattle.sv_tree.specs.declared.names.QualifiedName.{QualifiedName}
use Rattle.sv_tree.specs.declared.expressions.Expr as E
use Rattle.sv_types.specs.declared.expression.Expr.{Expr}
use Rattle.sv_types.specs.declared.statement.Formal.{Formal}
use Rattle.sv_types.specs.declared.statement.Function.{Function}
use Rattle.expr_type.specs.declared.halt.Halt.{Halt}
use Rattle.expr_type.specs.declared.halt.Halt.TheVariants as H
use Rattle.expr_type.specs.declared.operand.Valued.{Valued}
use Rattle.expr_type.specs.Answers.{Gives}
use Rattle.expr_type.specs.Expressions.{actuals, meaning}
use Rattle.expr_type.specs.Forms.{call, call_of, counted_call, finds_count, needed, passed_to, with_other_count}
use Rattle.expr_type.specs.Names.{Called, Context, Source, position}
use Rattle.expr_type.specs.Operands.{Operand}
use Rattle.expr_type.specs.Typings.{Checked, Typing, all, all_of}
use Rattle.typing_parts.specs.Typists.{CalledTo}
use Rattle.typing_values.specs.Values.{unstreamed_of}

-- the function that a name finds, and whether a call of it has as many actuals as it has formals
abbrev pub needed_of : Context → QualifiedName → Typing Called
needed_of k of = needed k of.name (k.finds of)

abbrev pub has_count_of : Context → QualifiedName → ℕ → Bool
has_count_of k of count = finds_count k (k.finds of) count

-- what a call breaks that has another number of them
abbrev pub other_count_of : {A B : Type 0} → Context → QualifiedName → Typing A → Typing B
other_count_of k of y = with_other_count (position k.source of.name) (needed_of k of) y

abbrev pub first_halt : Result ℕ Halt → Halt → Halt
first_halt r H.Memory = H.Memory
first_halt (Ok n) (H.Breaks at rule) = H.Breaks at rule
first_halt (Err H.Memory) (H.Breaks at rule) = H.Memory
first_halt (Err H.Quiet) (H.Breaks at rule) = H.Breaks at rule
first_halt (Err (H.Breaks a n)) (H.Breaks at rule) = H.Breaks a n
first_halt (Ok n) H.Quiet = H.Quiet
first_halt (Err h) H.Quiet = h

-- what a call of another number of actuals stops by, where these stop by a halt
pub record Uncounted (k : Context) (of : QualifiedName) (fs hs : List Function) (halt result : Halt) : Type 0 where
  pub place : Result ℕ Halt
  pub called : CalledTo place (needed_of k of fs) hs
  pub is : result ≡ first_halt place halt

-- what is passed to formals, as far as there are both
abbrev pub passed_in : Source → List Formal → List Operand → Checked (List Expr)
passed_in k fs os = all_of (map (passed_to k) (zip fs os))

-- a call of the function at a place
abbrev pub CallsAt : Source → QualifiedName → ℕ → Option Function → List Operand → Result Valued Halt → Type 0
CallsAt k of place None os r = r ≡ Err H.Quiet
CallsAt k of place (Some f) os r = Gives r (call_of k (qualified_first of) of.name (record { place = place; of = f }) os)

-- actuals as they are typed, and a call of what a name finds
abbrev pub actuals_of : Context → List E.Expr → Typing (List Operand)
actuals_of k es = all (map (unstreamed_of k) es)

abbrev pub counted_call_of : Context → QualifiedName → List E.Expr → Typing Valued
counted_call_of k of es = counted_call k of (actuals k (map meaning es))

abbrev pub other_call_of : Context → QualifiedName → List E.Expr → Typing Valued
other_call_of k of es = other_count_of k of (actuals_of k es)

abbrev pub call_of_name : Context → QualifiedName → List E.Expr → Typing Valued
call_of_name k of es = call k of (actuals k (map meaning es))
