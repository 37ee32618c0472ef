-- Calls of tasks and void functions keep the order of the text: what the routine breaks stands behind its name.
use Rattle.std.proofs.Common.{ℕ, suc, ◌≤◌, ◌<◌, ◌&&◌, ◌||◌, Bool, true, false, List, [], ◌∷◌, length, Option, Some, None, cond, arith}
use Rattle.std.specs.Prelude.{not, ◌==◌, Ok, Err}
use Rattle.sv_tree.specs.declared.names.QualifiedName.{QualifiedName}
use Rattle.sv_types.specs.declared.expression.Expr.{Expr}
use Rattle.sv_types.specs.declared.statement.Formal.{Formal}
use Rattle.sv_types.specs.declared.statement.Stmt as R
use Rattle.sv_types.specs.declared.statement.Way.{Way}
use Rattle.sv_types.specs.declared.statement.Way.TheVariants as W
use Rattle.sv_types.specs.declared.types.SvType.{SvType}
use Rattle.expr_type.specs.Breaks.{At}
use Rattle.expr_type.specs.Typings.{Checked, Typing, all, all_of, broken, checked, rule, whole}
use Rattle.expr_type.specs.Shapes.{is_assignable, is_plain_to_enum}
use Rattle.expr_type.specs.Names.{Called, Context, position}
use Rattle.expr_type.specs.declared.operand.Valued.{Valued}
use Rattle.expr_type.specs.Operands.{Operand, first_of, unstreamed}
use Rattle.expr_type.specs.Forms.{finds_count, miscounted, needed, with_other_count}
use Rattle.expr_type.specs.Expressions.{Meaning}
use Rattle.expr_type.specs.Statements.{Actual, as_value, as_target, actual_by, ways, actuals, is_other_enum, takes_result, is_inout, value_passed, actual_expr, all_actuals, call_stmt_of, counted_call, call_stmt}
use Rattle.expr_type.specs.Placed.{OperandStands, RoutinesInOrder, Stands}
use Rattle.expr_type.proofs.Placing.{wider, placed-from}
use Rattle.expr_type.proofs.Ordering.{place}
use Rattle.order_laws.specs.Meanings.{ExprInOrder, TargetIf}
use Rattle.order_laws.proofs.Typings.{PlacedAs, TypedAs, Each, IfThere, any-typing, as-all, as-all-of, as-both-any, as-checked, as-refused, as-then, as-wider}
use Rattle.order_laws.proofs.Given.{first-within, operand-typing, passed-stands, unstreamed-stands}
use Rattle.order_laws.proofs.Operands.{as-stands}
use Rattle.order_laws.proofs.Declared.{InText, KeepsOrder}

-- actuals
abbrev ActualStands : ℕ → ℕ → ℕ → Actual → Type 0
ActualStands i low high a = IfThere (OperandStands i low high) a.value × IfThere (Stands low high) a.target

value-stands : (k : Context) (e : Meaning) (low high : ℕ) → RoutinesInOrder k → ExprInOrder low high e → TypedAs (ActualStands k.source.instance low high) k.source.instance low high (as_value k e)
value-stands k e low high rs p =
    as-checked k.source.instance (OperandStands k.source.instance low high) (ActualStands k.source.instance low high) (unstreamed k.source (e.typed k))
    (λ o. whole (record { value = Some o; target = None })) low high (unstreamed-stands k.source low high (e.typed k) (p.typed k rs)) (λ o s fs. (s, tt))

target-stands : (k : Context) (e : Meaning) (low high : ℕ) → RoutinesInOrder k → ExprInOrder low high e → TypedAs (ActualStands k.source.instance low high) k.source.instance low high (as_target k e)
target-stands k e low high rs p = by (e.as_target k) (p.as_target k rs)
  where
    by : (o : Option (Typing Valued)) → TargetIf k.source.instance low high o → TypedAs (ActualStands k.source.instance low high) k.source.instance low high (elim o as (λ x. Typing Actual) [
      | None ↦ checked (e.typed k) (λ o. broken (At (position k.source (first_of o)) 501))
      | Some x ↦ checked x (λ v. whole (record { value = None; target = Some v }))
    ])
    by None q =
        as-checked k.source.instance (OperandStands k.source.instance low high) (ActualStands k.source.instance low high) (e.typed k)
        (λ o. broken (At (position k.source (first_of o)) 501)) low high (operand-typing k.source low high (e.typed k) (p.typed k rs))
        (λ o s fs. let f = first-within k.source low high o s in place k.source (first_of o) low high f.0 f.1)
    by (Some x) q =
        as-checked k.source.instance (Stands low high) (ActualStands k.source.instance low high) x (λ v. whole (record { value = None; target = Some v })) low high
        (λ fs. as-stands k.source.instance low high (x fs).result (q fs)) (λ v s fs. (tt, s))

actual-stands : (k : Context) (o : Option Way) (e : Meaning) (low high : ℕ) → RoutinesInOrder k → ExprInOrder low high e → TypedAs (ActualStands k.source.instance low high) k.source.instance low high (actual_by k o e)
actual-stands k None e low high rs p = value-stands k e low high rs p
actual-stands k (Some W.Input) e low high rs p = value-stands k e low high rs p
actual-stands k (Some W.Output) e low high rs p = target-stands k e low high rs p
actual-stands k (Some W.Inout) e low high rs p = target-stands k e low high rs p

each-actual : (k : Context) (ws : List Way) (es : List Meaning) (low high : ℕ) → RoutinesInOrder k → Each ExprInOrder low high es
    → Each (λ l h x. TypedAs (ActualStands k.source.instance l h) k.source.instance l h x) low high (actuals k ws es)
each-actual k [] [] low high rs p = p
each-actual k (w ∷ ws) [] low high rs p = p
each-actual k [] (e ∷ es) low high rs p = (p.0, p.1, p.2, actual-stands k None e low p.0 rs p.3, each-actual k [] es p.0 high rs p.4)
each-actual k (w ∷ ws) (e ∷ es) low high rs p = (p.0, p.1, p.2, actual-stands k (Some w) e low p.0 rs p.3, each-actual k ws es p.0 high rs p.4)

actuals-in : (k : Context) (ws : List Way) (es : List Meaning) (low high : ℕ) → RoutinesInOrder k → Each ExprInOrder low high es
    → TypedAs (Each (ActualStands k.source.instance) low high) k.source.instance low high (all (actuals k ws es))
actuals-in k ws es low high rs p = as-all k.source.instance (ActualStands k.source.instance) (actuals k ws es) low high (each-actual k ws es low high rs p)

-- what they give and take
result-taken : (k : Context) (back : Bool) (t : SvType) (v : Valued) (low high : ℕ) → Stands low high v → PlacedAs (λ e. Unit {0}) k.source.instance low high (takes_result k back t v)
result-taken k back t v low high s =
    let at = place k.source v.first low high s.from s.before in
    as-refused k.source.instance (λ e. Unit {0}) (not (is_assignable v.expr.of t) || (back && not (is_assignable t v.expr.of))) (position k.source v.first) 501 _ low high at
    (as-refused k.source.instance (λ e. Unit {0}) (is_other_enum t v.expr || (back && is_plain_to_enum t v.expr.of)) (position k.source v.first) 503 (Ok v.expr) low high at tt)

value-given : (k : Context) (t : SvType) (o : Option Operand) (low high : ℕ) → IfThere (OperandStands k.source.instance low high) o
    → PlacedAs (λ e. Unit {0}) k.source.instance low high (value_passed k t o)
value-given k t None low high s = tt
value-given k t (Some o) low high s = passed-stands k.source low high t o s

actual-given : (k : Context) (f : Formal) (a : Actual) (low high : ℕ) → ActualStands k.source.instance low high a → PlacedAs (λ e. Unit {0}) k.source.instance low high (actual_expr k f a)
actual-given k f a low high s = by a.target s.1
  where
    by : (o : Option Valued) → IfThere (Stands low high) o → PlacedAs (λ e. Unit {0}) k.source.instance low high (elim o as (λ x. Checked Expr) [
      | None ↦ value_passed k f.local.of a.value
      | Some v ↦ takes_result k (is_inout f.way) f.local.of v
    ])
    by None q = value-given k f.local.of a.value low high s.0
    by (Some v) q = result-taken k (is_inout f.way) f.local.of v low high q

each-within : {A : Type 0} (P : ℕ → ℕ → A → Type 0) (as' : List A) (low high : ℕ) → Each P low high as' → low ≤ high
each-within P [] low high p = p
each-within P (a ∷ as') low high p = let h = p.1 in let m = p.2 in omega arith

each-given : (k : Context) (fs : List Formal) (as' : List Actual) (low high : ℕ) → Each (ActualStands k.source.instance) low high as'
    → Each (λ l h x. PlacedAs (λ e. Unit {0}) k.source.instance l h x) low high (all_actuals k fs as')
each-given k [] as' low high p = each-within (ActualStands k.source.instance) as' low high p
each-given k (f ∷ fs) [] low high p = p
each-given k (f ∷ fs) (a ∷ as') low high p = (p.0, p.1, p.2, actual-given k f a low p.0 p.3, each-given k fs as' p.0 high p.4)

call-stands : (k : Context) (at : ℕ) (c : Called) (as' : List Actual) (low high : ℕ) → low ≤ at → at < high → Each (ActualStands k.source.instance) (suc at) high as'
    → PlacedAs (λ s. Unit {0}) k.source.instance low high (call_stmt_of k at c as')
call-stands k at c as' low high h m p =
    as-refused k.source.instance (λ s. Unit {0}) (not (length c.of.formals == length as')) (position k.source at) 405 _ low high (place k.source at low high h m)
    (as-then k.source.instance (λ es. Unit {0}) (λ s. Unit {0}) (all_of (all_actuals k c.of.formals as')) _ low high
    (as-wider k.source.instance (Each (λ l h e. Unit {0}) (suc at) high) (λ es. Unit {0}) (all_of (all_actuals k c.of.formals as')) (suc at) high low high (omega arith) (omega arith) (λ es s. tt)
    (as-all-of k.source.instance (λ l h e. Unit {0}) (all_actuals k c.of.formals as') (suc at) high (each-given k c.of.formals as' (suc at) high p)))
    (λ es u. tt))

-- the routine, from its name on
needed-in : (k : Context) (at : ℕ) (o : Option ℕ) (low : ℕ) → RoutinesInOrder k → low ≤ at → InText k low (suc at) (needed k at o)
needed-in k at None low rs h = λ fs. tt
needed-in k at (Some n) low rs h =
    any-typing k.source.instance (needed k at (Some n)) low (suc at)
    (placed-from k.source.instance (position k.source at) (k.routine n) low (suc at) (place k.source at low (suc at) h (omega arith)) (rs n))

counted-in : (k : Context) (of : QualifiedName) (es : List Meaning) (low high : ℕ) → RoutinesInOrder k → low ≤ of.name → of.name < high → Each ExprInOrder (suc of.name) high es
    → InText k low high (counted_call k of es)
counted-in k of es low high rs h m p =
    as-both-any k.source.instance (λ c. Unit {0}) (Each (ActualStands k.source.instance) (suc of.name) high) (λ s. Unit {0}) (needed k of.name (k.finds of)) (λ o. all (actuals k (ways o) es))
    (λ c as'. rule (call_stmt_of k of.name c as')) low (suc of.name) high (omega arith) (omega arith) (needed-in k of.name (k.finds of) low rs h)
    (λ o u. actuals-in k (ways o) es (suc of.name) high rs p) (λ c as' u s fs. call-stands k of.name c as' low high h m s)

miscounted-in : {A : Type 0} (P : A → Type 0) (k : Context) (at : ℕ) (x : Checked Called) (y : Checked A) (low high : ℕ) → low ≤ at → at < high
    → PlacedAs (λ c. Unit {0}) k.source.instance low (suc at) x → PlacedAs P k.source.instance (suc at) high y
    → PlacedAs (λ (s : R.Stmt). Unit {0}) k.source.instance low high (miscounted (position k.source at) x y)
miscounted-in P k at x (Ok as') low high h m p q = place k.source at low high h m
miscounted-in P k at (Ok c) (Err b) low high h m p q = wider b k.source.instance (suc at) high low high (omega arith) (omega arith) q
miscounted-in P k at (Err a) (Err b) low high h m p q = (suc at, omega arith, omega arith, p, q)

pub call-in : (of : QualifiedName) (es : List Meaning) (low high : ℕ) → low ≤ of.name → of.name < high → Each ExprInOrder (suc of.name) high es → KeepsOrder low high (λ k. call_stmt k of es)
call-in of es low high h m p k rs = by (finds_count k (k.finds of) (length es))
  where
    by : (b : Bool) → InText k low high (cond b (counted_call k of es) (with_other_count (position k.source of.name) (needed k of.name (k.finds of)) (all (actuals k [] es))))
    by true = counted-in k of es low high rs h m p
    by false = λ fs.
        miscounted-in (Each (ActualStands k.source.instance) (suc of.name) high) k of.name (needed k of.name (k.finds of) fs).result (all (actuals k [] es) fs).result low high h m
        (needed-in k of.name (k.finds of) low rs h fs) (actuals-in k [] es (suc of.name) high rs p fs)
