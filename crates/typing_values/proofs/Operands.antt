-- Values keep what is said of the operands that they are.
use Rattle.std.proofs.Common.{◌≡◌, ◌≤◌, List, ap, ◌∙◌, rules, subst, sym}
use Rattle.std.specs.Prelude.{⊤, IfOk, Result, Ok, Err}
use Rattle.sv_types.specs.Expressions as T
use Rattle.eval_parts.specs.Limits.{FitsAlone}
use Rattle.typing_fits.specs.EvalForms.{formals_in}
use Rattle.sv_types.specs.declared.statement.Function.{Function}
use Rattle.sv_types.specs.Layouts.{width_of}
use Rattle.operand_types.specs.Allowed.{IsNarrow}
use Rattle.expr_type.specs.declared.halt.Halt.{Halt}
use Rattle.expr_type.specs.declared.operand.Valued.{Valued}
use Rattle.expr_type.specs.Answers.{Gives}
use Rattle.expr_type.specs.Names.{Source, position}
use Rattle.expr_type.specs.Forms.{is_streamed_part}
use Rattle.expr_type.specs.Operands as V
use Rattle.expr_type.specs.Operands.{has_bits}
use Rattle.expr_type.specs.Operators.{is_part}
use Rattle.expr_type.specs.Shapes.{is_unpacked}
use Rattle.expr_type.specs.Typings.{Typing, refused, rule}
use Rattle.pattern_types.specs.declared.operand.Item.{Item}
use Rattle.pattern_types.specs.declared.operand.Operand.{Operand, Operand-F, out-Operand, the_lemmas}
use Rattle.pattern_types.specs.declared.operand.Operand.TheVariants as O
use Rattle.typing_values.specs.Numbers.{CanBeValued}
use Rattle.typing_fits.proofs.Contexts.{refused-then}
use Rattle.typing_fits.proofs.Operators.{ok-is}
use Rattle.pattern_types.specs.Meaning.{operand_of}
use Rattle.typing_steps.specs.Steps.{TypesTo}
use Rattle.typing_steps.proofs.Combining.{checked-fine, rule-types}
use Rattle.typing_parts.specs.Operands.{as_operand}
use Rattle.typing_parts.specs.Typists.{FitsIfOk, FitsOperand, IsNarrowOperand, NarrowIfOk}

narrow-is : (v u : Valued) → v ≡ u → IsNarrow v → IsNarrow u
narrow-is v u is n = subst (λ (x : Valued). width_of x.expr.of ≤ 4194304) is n

plain-layer : (v : Valued) → out-Operand (O.Plain v) ≡ Operand-F.Plain v
plain-layer v = search (rules, the_lemmas)

abbrev narrow_layer : Operand-F Operand Item → Type 0
narrow_layer z = elim z [
  | Operand-F.Plain v ↦ width_of v.expr.of ≤ 4194304
  | Operand-F.Pattern tick times items ↦ ⊤
  | Operand-F.Stream v ↦ width_of v.expr.of ≤ 65536
]

plain-narrow : (o : Operand) (v : Valued) → o ≡ O.Plain v → narrow_layer (out-Operand o) → IsNarrow v
plain-narrow o v is n = subst narrow_layer (ap out-Operand is ∙ plain-layer v) n

abbrev fits_layer : List Function → Operand-F Operand Item → Type 0
fits_layer fs z = elim z [
  | Operand-F.Plain v ↦ FitsAlone (T.meaning v.expr) (formals_in fs)
  | Operand-F.Pattern tick times items ↦ ⊤
  | Operand-F.Stream v ↦ ⊤
]

plain-fits : (o : Operand) (v : Valued) (fs : List Function) → o ≡ O.Plain v → fits_layer fs (out-Operand o) → CanBeValued fs v
plain-fits o v fs is n = subst (fits_layer fs) (ap out-Operand is ∙ plain-layer v) n

pub constant-fits : (o : Operand) (fs : List Function) (r : Result Valued Halt) → FitsOperand o fs → IfOk r (λ v. o ≡ O.Plain v) → IfOk r (CanBeValued fs)
constant-fits o fs (Ok v) f is = plain-fits o v fs is f
constant-fits o fs (Err h) f is = tt

pub value-narrow : (o : Operand) (r : Result Valued Halt) → IsNarrowOperand o → IfOk r (λ v. o ≡ O.Plain v) → IfOk r IsNarrow
value-narrow o (Ok v) n is = plain-narrow o v is n
value-narrow o (Err h) n is = tt

pub bits-narrow : (k : Source) (v : Valued) (r : Result Valued Halt) → IsNarrow v → Gives r (has_bits k v) → IfOk r IsNarrow
bits-narrow k v (Ok u) n g = narrow-is v u (ok-is v u (refused-then (is_unpacked v.expr.of) (position k v.first) 508 (Ok v) u g)) n
bits-narrow k v (Err h) n g = tt

pub part-narrow : (k : Source) (v : Valued) (r : Result Valued Halt) → IsNarrow v → Gives r (is_part k v) → IfOk r IsNarrow
part-narrow k v (Ok u) n g =
    let rest = refused (is_unpacked v.expr.of) (position k v.first) 508 (Ok v) in
    narrow-is v u (ok-is v u (refused-then (is_unpacked v.expr.of) (position k v.first) 508 (Ok v) u (refused-then v.is_unsized (position k v.first) 501 rest u g))) n
part-narrow k v (Err h) n g = tt

pub same-narrow : (v : Valued) (r : Result Valued Halt) → IsNarrow v → IfOk r (λ u. u ≡ v) → IfOk r IsNarrow
same-narrow v (Ok u) n is = narrow-is v u (sym is) n
same-narrow v (Err h) n is = tt

-- an operand that is no stream is the same
pub unstreamed-narrow : (o : Operand) (r : Result Operand Halt) → IsNarrowOperand o → IfOk r (λ p. p ≡ o) → NarrowIfOk r
unstreamed-narrow o (Ok p) n is = subst (λ (q : Operand). IsNarrowOperand q) (sym is) n
unstreamed-narrow o (Err h) n is = tt

pub unstreamed-fits : (o : Operand) (fs : List Function) (r : Result Operand Halt) → FitsOperand o fs → IfOk r (λ p. p ≡ o) → FitsIfOk r fs
unstreamed-fits o fs (Ok p) n is = subst (λ (q : Operand). FitsOperand q fs) (sym is) n
unstreamed-fits o fs (Err h) n is = tt

pub streamed-narrow : (k : Source) (v : Valued) (r : Result Valued Halt) → IsNarrow v → Gives r (is_streamed_part k (V.Plain v)) → IfOk r IsNarrow
streamed-narrow k v (Ok u) n g = narrow-is v u (ok-is v u (refused-then v.is_unsized (position k v.first) 501 (Ok v) u g)) n
streamed-narrow k v (Err h) n g = tt

pub unstreamed-types : (s k : Source) (x : Typing V.Operand) (fs gs : List Function) (was r : Result Operand Halt) (o : Operand) → s ≡ k → was ≡ Ok o
    → TypesTo (as_operand k was) (x fs) gs → Gives (as_operand s r) (V.no_stream s (operand_of s o)) → TypesTo (as_operand k r) (V.unstreamed k x fs) gs
unstreamed-types s k x fs gs was r o same is p q =
    let here : Gives (as_operand k r) (V.no_stream k (operand_of k o)) = subst (λ (t : Source). Gives (as_operand t r) (V.no_stream t (operand_of t o))) same q in
    let there : TypesTo (Ok (operand_of k o)) (x fs) gs = subst (λ (w : Result Operand Halt). TypesTo (as_operand k w) (x fs) gs) is p in
    checked-fine x (λ u. rule (V.no_stream k u)) fs gs gs (operand_of k o) (as_operand k r) there (rule-types (as_operand k r) (V.no_stream k (operand_of k o)) gs here)
