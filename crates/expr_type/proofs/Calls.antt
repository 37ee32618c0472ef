-- Calls keep the order of the text: the breaks of a function that is first needed stand behind the call's name.
use Rattle.std.proofs.Common.{ℕ, suc, ◌≤◌, ◌<◌, ◌==◌, List, [], ◌∷◌, length, max, map, zip, Option, Some, None, Bool, true, false, cond, arith}
use Rattle.std.specs.Prelude.{Ok, Err, not}
use Rattle.sv_tree.specs.Extents.{qualified_first}
use Rattle.sv_tree.specs.declared.expressions.Expr.{Expr-F}
use Rattle.sv_tree.specs.declared.names.QualifiedName.{QualifiedName}
use Rattle.sv_types.specs.declared.expression.Expr.{Expr}
use Rattle.sv_types.specs.declared.expression.Form.TheVariants as T
use Rattle.sv_types.specs.declared.statement.Formal.{Formal}
use Rattle.sv_types.specs.declared.statement.Function.{Function}
use Rattle.sv_types.specs.declared.types.SvType.{SvType}
use Rattle.sv_types.specs.Layouts.{width_of}
use Rattle.expr_type.specs.Breaks.{Breaks, Within}
use Rattle.expr_type.specs.Typings.{Checked, joined, applied, all, all_of, at_all, lesser, rule, unless, where_whole, whole}
use Rattle.expr_type.specs.Shapes.{is_assignable, is_plain_to_enum}
use Rattle.expr_type.specs.Names.{Called, Context, Source, position}
use Rattle.expr_type.specs.declared.operand.Valued.{Valued}
use Rattle.expr_type.specs.Operands.{Operand, Plain, Pattern, Stream, is_given, is_plain, no_stream, passed, sized, too_wide, unstreamed, width}
use Rattle.expr_type.specs.Operators.{by_itself}
use Rattle.expr_type.specs.Forms as F
use Rattle.expr_type.specs.Expressions.{Meaning, actuals, expr_step}
use Rattle.expr_type.specs.Placed.{Placed, PlacedTyping, Stands, StandsIf, StandsTyping, OperandStands, OperandIf, RoutinesInOrder, InOrder, AllInOrder}
use Rattle.expr_type.proofs.Placing.{wider, placed-joined, placed-then, placed-refused, placed-lesser, placed-from}
use Rattle.expr_type.proofs.Ordering.{WithinIf, ascend-wide, all-within, place, refused-stands}
use Rattle.expr_type.proofs.Forms.{leaf, plain-stands}

-- operands behind one another
abbrev ArgumentsStand : ℕ → ℕ → ℕ → List Operand → Type 0
ArgumentsStand i low high [] = low ≤ high
ArgumentsStand i low high (o ∷ os) = (between : ℕ) × (low ≤ between) × (between ≤ high) × OperandStands i low between o × ArgumentsStand i between high os

abbrev ArgumentsIf : ℕ → ℕ → ℕ → Checked (List Operand) → Type 0
ArgumentsIf i low high (Ok os) = ArgumentsStand i low high os
ArgumentsIf i low high (Err b) = Within b i low high

argument-if : (i : ℕ) (x : Checked Operand) (xs : Checked (List Operand)) (gs : List Function) (low between high : ℕ) → low ≤ between → between ≤ high
    → OperandIf i low between x → ArgumentsIf i between high xs → ArgumentsIf i low high (applied (joined x xs) (λ p. whole (p.0 ∷ p.1)) gs).result
argument-if i (Ok o) (Ok os) gs low between high h m p q = (between, h, m, p, q)
argument-if i (Ok o) (Err y) gs low between high h m p q = wider y i between high low high h (omega arith) q
argument-if i (Err x) (Ok os) gs low between high h m p q = wider x i low between low high (omega arith) m p
argument-if i (Err x) (Err y) gs low between high h m p q = (between, h, m, p, q)

-- an actual is no stream
unstreamed-if : (k : Source) (x : Checked Operand) (gs : List Function) (low high : ℕ) → OperandIf k.instance low high x
    → OperandIf k.instance low high (applied x (λ o. rule (no_stream k o)) gs).result
unstreamed-if k (Ok (Plain v)) gs low high s = s
unstreamed-if k (Ok (Pattern tick of)) gs low high s = s
unstreamed-if k (Ok (Stream v)) gs low high s = place k v.first low high s.from s.before
unstreamed-if k (Err b) gs low high w = w

arguments-stand : (k : Context) (es : List Meaning) (low high : ℕ) → RoutinesInOrder k → AllInOrder low high es → (fs : List Function)
    → ArgumentsIf k.source.instance low high (all (actuals k es) fs).result
arguments-stand k [] low high rs p fs = p
arguments-stand k (e ∷ es) low high rs p fs =
    let x = unstreamed k.source (e.typed k) in
    let xs = all (actuals k es) in
    let gs = (x fs).functions in
    argument-if k.source.instance (x fs).result (xs gs).result (xs gs).functions low p.0 high p.1 p.2
    (unstreamed-if k.source (e.typed k fs).result (e.typed k fs).functions low p.0 (p.3 k rs fs)) (arguments-stand k es p.0 high rs p.4 gs)

-- what is passed to a formal
unless-placed : {A : Type 0} (i : ℕ) (o : Option Breaks) (a : A) (low high : ℕ) → WithinIf o i low high → Placed i low high (unless o a)
unless-placed i None a low high w = tt
unless-placed i (Some b) a low high w = w

given-placed : (k : Source) (t : SvType) (v : Valued) (low high : ℕ) → Stands low high v → Placed k.instance low high (is_given k t v)
given-placed k t v low high s =
    let at = place k v.first low high s.from s.before in
    placed-refused k.instance (not (is_assignable t v.expr.of)) (position k v.first) 501 _ low high at
    (placed-then k.instance (lesser (is_plain k t v) (sized k (max (width_of t) (width v)) v v)) (λ p. Ok p.0) low high
    (placed-lesser k.instance (is_plain k t v) (sized k (max (width_of t) (width v)) v v) low high
    (placed-refused k.instance (is_plain_to_enum t v.expr.of) (position k v.first) 503 (Ok v.expr) low high at tt)
    (unless-placed k.instance (at_all k.instance 502 (too_wide (max (width_of t) (width v)) v.arithmetic)) v low high
    (all-within k.instance 502 (too_wide (max (width_of t) (width v)) v.arithmetic) low high (ascend-wide (max (width_of t) (width v)) v.arithmetic low high s.operators))))
    (λ p. tt))

passed-placed : (k : Source) (t : SvType) (o : Operand) (low high : ℕ) → OperandStands k.instance low high o → Placed k.instance low high (passed k t o)
passed-placed k t (Plain v) low high s = given-placed k t v low high s
passed-placed k t (Pattern tick of) low high s = s.2 tick t
passed-placed k t (Stream v) low high s = place k v.first low high s.from s.before

all-passed : (k : Source) (fs : List Formal) (os : List Operand) (low high : ℕ) → ArgumentsStand k.instance low high os
    → Placed k.instance low high (all_of (map (F.passed_to k) (zip fs os)))
all-passed k [] os low high p = tt
all-passed k (f ∷ fs) [] low high p = tt
all-passed k (f ∷ fs) (o ∷ os) low high p =
    placed-then k.instance (joined (F.passed_to k (f, o)) (all_of (map (F.passed_to k) (zip fs os)))) (λ q. Ok (q.0 ∷ q.1)) low high
    (placed-joined k.instance (F.passed_to k (f, o)) (all_of (map (F.passed_to k) (zip fs os))) low p.0 high p.1 p.2
    (passed-placed k f.local.of o low p.0 p.3) (all-passed k fs os p.0 high p.4))
    (λ q. tt)

-- a call of a function that is whole
called-if : (k : Source) (first : ℕ) (c : Called) (x : Checked (List Expr)) (low high to : ℕ) → low ≤ to → first ≤ low → first < to → high ≤ to
    → Placed k.instance low high x → StandsIf k.instance first to (where_whole x (λ es. Ok (by_itself k first c.of.of (T.Call c.place es))))
called-if k first c (Ok es) low high to h m n l p = leaf k first first to c.of.of (T.Call c.place es) (omega arith) n
called-if k first c (Err b) low high to h m n l p = wider b k.instance low high first to m l p

call-if : (k : Source) (first name opening closing : ℕ) (x : Checked Called) (y : Checked (List Operand)) (gs : List Function)
    → first ≤ name → name < opening → opening < closing → Placed k.instance name (suc name) x → ArgumentsIf k.instance (suc opening) closing y
    → StandsIf k.instance first (suc closing) (applied (joined x y) (λ p. rule (F.call_of k first name p.0 p.1)) gs).result
call-if k first name opening closing (Ok c) (Ok os) gs h m n p q =
    refused-stands k.instance (not (length c.of.formals == length os)) (position k name) 405 _ first (suc closing)
    (place k name first (suc closing) h (omega arith))
    (called-if k first c (all_of (map (F.passed_to k) (zip c.of.formals os))) (suc opening) closing (suc closing) (omega arith) (omega arith) (omega arith) (omega arith)
    (all-passed k c.of.formals os (suc opening) closing q))
call-if k first name opening closing (Ok c) (Err y) gs h m n p q = wider y k.instance (suc opening) closing first (suc closing) (omega arith) (omega arith) q
call-if k first name opening closing (Err x) (Ok os) gs h m n p q = wider x k.instance name (suc name) first (suc closing) h (omega arith) p
call-if k first name opening closing (Err x) (Err y) gs h m n p q = (
  suc name,
  omega arith,
  omega arith,
  wider x k.instance name (suc name) first (suc name) h (omega arith) p,
  wider y k.instance (suc opening) closing (suc name) (suc closing) (omega arith) (omega arith) q,
)

needed-placed : (k : Context) (at : ℕ) (o : Option ℕ) → RoutinesInOrder k → PlacedTyping k.source.instance at (suc at) (F.needed k at o)
needed-placed k at None rs = λ fs. tt
needed-placed k at (Some n) rs = placed-from k.source.instance (position k.source at) (k.routine n) at (suc at) (place k.source at at (suc at) (omega arith) (omega arith)) (rs n)

-- a call with another number of actuals
miscounted-stands : (k : Source) (first name opening closing : ℕ) (x : Checked Called) (y : Checked (List Operand))
    → first ≤ name → name < opening → opening < closing → Placed k.instance name (suc name) x → ArgumentsIf k.instance (suc opening) closing y
    → StandsIf k.instance first (suc closing) (F.miscounted (position k name) x y)
miscounted-stands k first name opening closing x (Ok os) h m n p q = place k name first (suc closing) h (omega arith)
miscounted-stands k first name opening closing (Ok c) (Err y) h m n p q = wider y k.instance (suc opening) closing first (suc closing) (omega arith) (omega arith) q
miscounted-stands k first name opening closing (Err x) (Err y) h m n p q = (
  suc name,
  omega arith,
  omega arith,
  wider x k.instance name (suc name) first (suc name) h (omega arith) p,
  wider y k.instance (suc opening) closing (suc name) (suc closing) (omega arith) (omega arith) q,
)

pub call : (of : QualifiedName) (opening : ℕ) (arguments : List Meaning) (closing : ℕ) → qualified_first of ≤ of.name → of.name < opening → opening < closing
    → AllInOrder (suc opening) closing arguments → InOrder (qualified_first of) (suc closing) (expr_step (Expr-F.Call of opening arguments closing None))
call of opening arguments closing h m n q k rs =
    plain-stands k.source (F.call k of (actuals k arguments)) (qualified_first of) (suc closing)
    (by (F.finds_count k (k.finds of) (length (actuals k arguments))))
  where
    counted : StandsTyping k.source.instance (qualified_first of) (suc closing) (F.counted_call k of (actuals k arguments))
    counted fs =
        let x = F.needed k of.name (k.finds of) in
        let y = all (actuals k arguments) in
        let gs = (x fs).functions in
        call-if k.source (qualified_first of) of.name opening closing (x fs).result (y gs).result (y gs).functions h m n
        (needed-placed k of.name (k.finds of) rs fs) (arguments-stand k arguments (suc opening) closing rs q gs)

    other : StandsTyping k.source.instance (qualified_first of) (suc closing) (F.with_other_count (position k.source of.name) (F.needed k of.name (k.finds of)) (all (actuals k arguments)))
    other fs =
        miscounted-stands k.source (qualified_first of) of.name opening closing (F.needed k of.name (k.finds of) fs).result (all (actuals k arguments) fs).result h m n
        (needed-placed k of.name (k.finds of) rs fs) (arguments-stand k arguments (suc opening) closing rs q fs)

    by : (b : Bool) → StandsTyping k.source.instance (qualified_first of) (suc closing)
        (cond b (F.counted_call k of (actuals k arguments)) (F.with_other_count (position k.source of.name) (F.needed k of.name (k.finds of)) (all (actuals k arguments))))
    by true = counted
    by false = other
