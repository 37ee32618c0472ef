-- Concatenations, replications and streams over expressions.
use Rattle.std.specs.Prelude.{ℕ, List, map, Option, Result, Ok, Err}
use Rattle.std.specs.Option.{option_map}
use Rattle.sv_tree.specs.declared.expressions.Expr.{Expr}
use Rattle.sv_tree.specs.declared.expressions.SliceSize.{SliceSize}
use Rattle.sv_tree.specs.declared.operators.StreamOperator.{StreamOperator}
use Rattle.sv_types.specs.declared.expression.Expr as T
use Rattle.operand_types.specs.Allowed.{AllNarrow}
use Rattle.expr_type.specs.declared.halt.Halt.{Halt}
use Rattle.expr_type.specs.declared.operand.Valued.{Valued}
use Rattle.expr_type.specs.Expressions.{Meaning, meaning, parts, slice_meaning, slice_or_one}
use Rattle.expr_type.specs.Forms.{reverses, stream_of, streamed_part}
use Rattle.expr_type.specs.Names.{Context}
use Rattle.expr_type.specs.Operators.{concat_of, exprs, repeat_of}
use Rattle.expr_type.specs.Typings.{Typing, all, beside, both, checked, rule}
use Rattle.typing_values.specs.Numbers.{count_of}
use Rattle.typing_operators.specs.Lists.{parts_of, streamed_parts_of}
use Rattle.typing_operators.specs.declared.joins.Repeated.{Repeated}

abbrev pub concatenation : Context → ℕ → List Expr → Typing Valued
concatenation k opening es = checked (parts k (map meaning es)) (λ vs. rule (concat_of k.source opening (exprs vs)))

abbrev pub replication : Context → ℕ → Expr → List Expr → Typing Valued
replication k opening times es =
    both (count_of k times) (parts k (map meaning es)) (λ n vs. rule (repeat_of k.source opening n (exprs vs)))

abbrev pub slice_of_size : Context → Option SliceSize → Typing ℕ
slice_of_size k size = slice_or_one k (option_map slice_meaning size)

abbrev pub stream : Context → ℕ → StreamOperator → Option SliceSize → List Expr → Typing Valued
stream k opening operator size es =
    both (slice_of_size k size) (all (map (λ (e : Meaning). streamed_part k.source (e.typed k)) (map meaning es)))
    (λ n vs. rule (stream_of k.source opening (reverses operator) n (exprs vs)))

-- a number and parts as the code has them
abbrev pub as_repeated : Result Repeated Halt → Result (ℕ × List T.Expr) Halt
as_repeated (Ok r) = Ok (r.number, r.parts)
as_repeated (Err h) = Err h

abbrev pub repeated_of : Context → Expr → List Expr → Typing (ℕ × List T.Expr)
repeated_of k times es = beside (count_of k times) (parts_of k es)

abbrev pub sliced_of : Context → Option SliceSize → List Expr → Typing (ℕ × List T.Expr)
sliced_of k size es = beside (slice_of_size k size) (streamed_parts_of k es)

abbrev pub ArePartsNarrow : Repeated → Type 0
ArePartsNarrow r = AllNarrow r.parts

-- the same by expressions
abbrev pub joined_of : Context → ℕ → List Expr → Typing Valued
joined_of k opening es = checked (parts_of k es) (λ xs. rule (concat_of k.source opening xs))

abbrev pub replicated_of : Context → ℕ → Expr → List Expr → Typing Valued
replicated_of k opening times es = checked (repeated_of k times es) (λ p. rule (repeat_of k.source opening p.0 p.1))

abbrev pub stream_in : Context → ℕ → StreamOperator → Option SliceSize → List Expr → Typing Valued
stream_in k opening operator size es = checked (sliced_of k size es) (λ p. rule (stream_of k.source opening (reverses operator) p.0 p.1))
