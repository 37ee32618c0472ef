-- Expressions whose parts stand in the order of the text stand in it, form by form.
use Rattle.std.proofs.Common.{ℤ, Bool, true, Option, Some, cond, ℕ, suc, ◌≤◌, ◌<◌, ◌||◌, ◌++◌, false, List, [], ◌∷◌, None, arith, map}
use Rattle.std.specs.Prelude.{pos, ◌-ℤ◌, unsigned_abs, ◌*◌, Ok, Err, nat_lt, ◌==◌}
use Rattle.std.specs.List.{list_any}
use Rattle.expr_type.specs.Breaks as K
use Rattle.expr_type.specs.Breaks.{At, Quiet, Position, Within, is_before, key_at}
use Rattle.expr_type.specs.Uses.{holds_stream, names_any}
use Rattle.sv_tree.specs.declared.expressions.Expr.{Expr-F}
use Rattle.sv_tree.specs.declared.operators.BinaryOperator.{BinaryOperator}
use Rattle.sv_tree.specs.declared.operators.UnaryOperator.{UnaryOperator}
use Rattle.sv_types.specs.declared.statement.Function.{Function}
use Rattle.sv_types.specs.declared.types.SvType.{SvType}
use Rattle.expr_type.specs.Typings.{Checked, Typing, joined, applied, checked, both, broken, by_functions, lesser, rule, whole, refused, where_whole}
use Rattle.expr_type.specs.Names.{Context, Source, Thing, member_in, position, thing, word}
use Rattle.expr_type.specs.Names as N
use Rattle.expr_type.specs.declared.step.Step.{Step}
use Rattle.expr_type.specs.declared.step.Step.TheVariants.{Member, Index, Part, Slide}
use Rattle.expr_type.specs.Selects.{index_in, is_index, part_type, path, stepped}
use Rattle.expr_type.specs.Forms.{SelectMeaning}
use Rattle.sv_tree.specs.Extents.{qualified_first}
use Rattle.sv_tree.specs.declared.expressions.Select.{Select-F}
use Rattle.sv_tree.specs.declared.names.QualifiedName.{QualifiedName}
use Rattle.sv_types.specs.declared.frame.SignalId.{SignalId}
use Rattle.sv_types.specs.Layouts.{width_of}
use Rattle.expr_type.specs.declared.operand.Number.{Number}
use Rattle.expr_type.specs.declared.operand.Valued.{Valued}
use Rattle.expr_type.specs.Operands.{Operand, Plain, Pattern, Stream, bits_in, constant_in, has_bits, is_constant_value, width, in_range, is_number_in, is_value, number_of, number_or, number_within, stops, value}
use Rattle.expr_type.specs.Operands as V
use Rattle.sv_types.specs.declared.expression.Form.{Form}
use Rattle.expr_type.specs.Operators.{binary_of, unary_of, by_itself, is_part, concat_of, exprs, repeat_of, all_bits, choice_of, chosen_type}
use Rattle.expr_type.specs.Forms as F
use Rattle.expr_type.specs.Literals as L
use Rattle.expr_type.specs.Shapes.{vector, most_bits, is_unpacked}
use Rattle.sv_types.specs.declared.expression.Form.TheVariants as T
use Rattle.expr_type.specs.Expressions.{Arms, Meaning, count, is_count, arms, expr_step, part, parts, select_step}
use Rattle.expr_type.specs.Placed.{Placed, Stands, StandsIf, StandsTyping, OperandStands, OperandIf, OperandTyping, InOrder, AllInOrder, StepStands, StepIf, MemberStands, SelectInOrder, SelectsInOrder, InTurn, PlacedTyping, RoutinesInOrder}
use Rattle.expr_type.proofs.Placing.{wider, placed-refused, placed-all}
use Rattle.expr_type.proofs.Ordering.{ascend-append, ascend-wider, member-stands, element-stands, part-stands, selected, in-context, binary-stands, unary-stands, refused-stands, concat-stands, place}

stands-wider : (v : Valued) (low high low' high' : ℕ) → low' ≤ low → high ≤ high' → Stands low high v → Stands low' high' v
stands-wider v low high low' high' h k s = record {
  begins = let a = s.begins in omega arith;
  inner = s.inner;
  from = let a = s.from in omega arith;
  before = let a = s.before in omega arith;
  operators = ascend-wider v.arithmetic low high low' high' h k s.operators;
}

pub placed-wider : {A : Type 0} (i : ℕ) (x : Checked A) (low high low' high' : ℕ) → low' ≤ low → high ≤ high' → Placed i low high x → Placed i low' high' x
placed-wider i (Ok a) low high low' high' h k w = tt
placed-wider i (Err b) low high low' high' h k w = wider b i low high low' high' h k w

operand-wider : (i : ℕ) (o : Operand) (low high low' high' : ℕ) → low' ≤ low → high ≤ high' → OperandStands i low high o → OperandStands i low' high' o
operand-wider i (Plain v) low high low' high' h k s = stands-wider v low high low' high' h k s
operand-wider i (Pattern tick of) low high low' high' h k s =
    (omega arith, omega arith, λ at t. placed-wider i (of at t) low high low' high' h k (s.2 at t))
operand-wider i (Stream v) low high low' high' h k s = stands-wider v low high low' high' h k s

in-parentheses : (i opening closing : ℕ) (x : Checked Operand) (gs : List Function) → OperandIf i (suc opening) closing x
    → OperandIf i opening (suc closing) (applied x (λ o. whole (V.parenthesized opening o)) gs).result
in-parentheses i opening closing (Ok (Plain v)) gs s = record {
  begins = omega arith;
  inner = let a = s.from in omega arith;
  from = let a = s.from in omega arith;
  before = let a = s.before in omega arith;
  operators = ascend-wider v.arithmetic (suc opening) closing opening (suc closing) (omega arith) (omega arith) s.operators;
}
in-parentheses i opening closing (Ok (Pattern tick of)) gs s = operand-wider i (Pattern tick of) (suc opening) closing opening (suc closing) (omega arith) (omega arith) s
in-parentheses i opening closing (Ok (Stream v)) gs s = operand-wider i (Stream v) (suc opening) closing opening (suc closing) (omega arith) (omega arith) s
in-parentheses i opening closing (Err b) gs w = wider b i (suc opening) closing opening (suc closing) (omega arith) (omega arith) w

module _ (k : Source) where
  -- an operand that nothing is given to, and a value as an operand
  value-if : (x : Checked Operand) (gs : List Function) (low high : ℕ) → OperandIf k.instance low high x
      → StandsIf k.instance low high (applied x (λ o. rule (is_value k o)) gs).result
  value-if (Ok (Plain v)) gs low high s = s
  value-if (Ok (Pattern tick of)) gs low high s = place k tick low high s.0 s.1
  value-if (Ok (Stream v)) gs low high s = place k v.first low high s.from s.before
  value-if (Err b) gs low high w = w

  value-stands : (x : Typing Operand) (low high : ℕ) → OperandTyping k.instance low high x → StandsTyping k.instance low high (value k x)
  value-stands x low high s fs = value-if (x fs).result (x fs).functions low high (s fs)

  plain-if : (x : Checked Valued) (gs : List Function) (low high : ℕ) → StandsIf k.instance low high x
      → OperandIf k.instance low high (applied x (λ v. rule (Ok (Plain v))) gs).result
  plain-if (Ok v) gs low high s = s
  plain-if (Err b) gs low high w = w

  pub plain-stands : (x : Typing Valued) (low high : ℕ) → StandsTyping k.instance low high x → OperandTyping k.instance low high (F.plain x)
  plain-stands x low high s fs = plain-if (x fs).result (x fs).functions low high (s fs)

  -- what is made of two operands with a token between them, and of one
  between : (x y : Checked Valued) (f : Valued → Valued → Typing Valued) (gs : List Function) (low at high : ℕ) → low ≤ at → at < high
      → StandsIf k.instance low at x → StandsIf k.instance (suc at) high y
      → ((a b : Valued) → Stands low at a → Stands (suc at) high b → StandsTyping k.instance low high (f a b))
      → StandsIf k.instance low high (applied (joined x y) (λ p. f p.0 p.1) gs).result
  between (Ok a) (Ok b) f gs low at high h m p q r = r a b p q gs
  between (Ok a) (Err y) f gs low at high h m p q r = wider y k.instance (suc at) high low high (omega arith) (omega arith) q
  between (Err x) (Ok b) f gs low at high h m p q r = wider x k.instance low at low high (omega arith) (omega arith) p
  between (Err x) (Err y) f gs low at high h m p q r =
      (at, h, omega arith, p, wider y k.instance (suc at) high at high (omega arith) (omega arith) q)

  both-stand : (x y : Typing Valued) (f : Valued → Valued → Typing Valued) (low at high : ℕ) → low ≤ at → at < high
      → StandsTyping k.instance low at x → StandsTyping k.instance (suc at) high y
      → ((a b : Valued) → Stands low at a → Stands (suc at) high b → StandsTyping k.instance low high (f a b))
      → StandsTyping k.instance low high (both x y f)
  both-stand x y f low at high h m p q r fs =
      between (x fs).result (y (x fs).functions).result f (y (x fs).functions).functions low at high h m (p fs) (q (x fs).functions) r

  behind : (x : Checked Valued) (f : Valued → Typing Valued) (gs : List Function) (at high : ℕ) → StandsIf k.instance (suc at) high x
      → ((v : Valued) → Stands (suc at) high v → StandsTyping k.instance at high (f v)) → StandsIf k.instance at high (applied x f gs).result
  behind (Ok v) f gs at high p r = r v p gs
  behind (Err b) f gs at high p r = wider b k.instance (suc at) high at high (omega arith) (omega arith) p

  checked-stands : (x : Typing Valued) (f : Valued → Typing Valued) (at high : ℕ) → StandsTyping k.instance (suc at) high x
      → ((v : Valued) → Stands (suc at) high v → StandsTyping k.instance at high (f v)) → StandsTyping k.instance at high (checked x f)
  checked-stands x f at high p r fs = behind (x fs).result f (x fs).functions at high (p fs) r

-- operators and parentheses
pub binary : (left : Meaning) (op : BinaryOperator) (at : ℕ) (right : Meaning) (low high : ℕ) → low ≤ at → at < high
    → InOrder low at left → InOrder (suc at) high right → InOrder low high (expr_step (Expr-F.Binary left op at right))
binary left op at right low high h m p q k rs =
    plain-stands k.source (both (value k.source (left.typed k)) (value k.source (right.typed k)) (λ l r. rule (binary_of op k.source at l r))) low high
    (both-stand k.source (value k.source (left.typed k)) (value k.source (right.typed k)) (λ l r. rule (binary_of op k.source at l r)) low at high h m
    (value-stands k.source (left.typed k) low at (p k rs)) (value-stands k.source (right.typed k) (suc at) high (q k rs))
    (λ a b x y fs. binary-stands k.source at low high a b x y op))

pub unary : (op : UnaryOperator) (at : ℕ) (operand : Meaning) (high : ℕ) → InOrder (suc at) high operand → InOrder at high (expr_step (Expr-F.Unary op at operand))
unary op at operand high p k rs =
    plain-stands k.source (checked (value k.source (operand.typed k)) (λ v. rule (unary_of op k.source at v))) at high
    (checked-stands k.source (value k.source (operand.typed k)) (λ v. rule (unary_of op k.source at v)) at high
    (value-stands k.source (operand.typed k) (suc at) high (p k rs)) (λ v x fs. unary-stands k.source at high v x op))

pub parenthesized : (opening : ℕ) (inner : Meaning) (closing : ℕ) → InOrder (suc opening) closing inner
    → InOrder opening (suc closing) (expr_step (Expr-F.«Expr::Parenthesized» opening inner closing None))
parenthesized opening inner closing p k rs fs = in-parentheses k.source.instance opening closing (inner.typed k fs).result (inner.typed k fs).functions (p k rs fs)

-- numbers
number-stands : (k : Source) (x : Checked Valued) (low high : ℕ) → StandsIf k.instance low high x → OperandTyping k.instance low high (F.plain (rule x))
number-stands k x low high s = plain-stands k (rule x) low high (λ fs. s)

pub leaf : (k : Source) (at low high : ℕ) (of : SvType) (form : Form) → low ≤ at → at < high → Stands low high (by_itself k at of form)
leaf k at low high of form h m = record { begins = h; inner = omega arith; from = h; before = m; operators = tt }

unsized-leaf : (k : Source) (at low high : ℕ) (of : SvType) (form : Form) → low ≤ at → at < high → Stands low high (F.unsized (by_itself k at of form))
unsized-leaf k at low high of form h m = record { begins = h; inner = omega arith; from = h; before = m; operators = tt }

pub decimal : (at : ℕ) → InOrder at (suc at) (expr_step (Expr-F.«Expr::Decimal» at))
decimal at k rs =
    number-stands k.source (F.decimal k.source at) at (suc at)
    (refused-stands k.source.instance _ (position k.source at) 411 (Ok _) at (suc at) (place k.source at at (suc at) (omega arith) (omega arith))
    (unsized-leaf k.source at at (suc at) _ _ (omega arith) (omega arith)))

pub based : (at : ℕ) → InOrder at (suc at) (expr_step (Expr-F.Based at))
based at k rs =
    number-stands k.source (F.based k.source at) at (suc at)
    (refused-stands k.source.instance _ (position k.source at) 411 (Ok _) at (suc at) (place k.source at at (suc at) (omega arith) (omega arith))
    (unsized-leaf k.source at at (suc at) _ _ (omega arith) (omega arith)))

abbrev sized-value : Source → ℕ → ℕ → Valued
sized-value k size at =
    let n = L.decimal (word k size) in
    by_itself k size (vector n (L.based (word k at)).signed) (T.Literal (L.bits_in n (L.based (word k at))) false)

abbrev sized-few : Source → ℕ → ℕ → Checked Valued
sized-few k size at = refused (nat_lt F.most_of_literal (L.decimal (word k size))) (position k size) 502 (Ok (sized-value k size at))

pub sized : (size at : ℕ) → size < at → InOrder size (suc at) (expr_step (Expr-F.Sized size at))
sized size at h k rs =
    number-stands k.source (F.sized_number k.source size at) size (suc at)
    (refused-stands k.source.instance (L.decimal (word k.source size) == 0) (position k.source size) 411 (sized-few k.source size at) size (suc at)
    (place k.source size size (suc at) (omega arith) (omega arith))
    (refused-stands k.source.instance (nat_lt F.most_of_literal (L.decimal (word k.source size))) (position k.source size) 502 (Ok (sized-value k.source size at)) size (suc at)
    (place k.source size size (suc at) (omega arith) (omega arith))
    (leaf k.source size size (suc at) _ _ (omega arith) (omega arith))))

pub fill : (at : ℕ) → InOrder at (suc at) (expr_step (Expr-F.Fill at))
fill at k rs = number-stands k.source (F.fill k.source at) at (suc at) (record { begins = omega arith; inner = omega arith; from = omega arith; before = omega arith; operators = tt })

-- concatenations
part-if : (k : Source) (x : Checked Valued) (gs : List Function) (low high : ℕ) → StandsIf k.instance low high x
    → Placed k.instance low high (applied x (λ v. rule (is_part k v)) gs).result
part-if k (Ok v) gs low high s =
    placed-refused k.instance v.is_unsized (position k v.first) 501 (refused (is_unpacked v.expr.of) (position k v.first) 508 (Ok v)) low high
    (place k v.first low high s.from s.before)
    (placed-refused k.instance (is_unpacked v.expr.of) (position k v.first) 508 (Ok v) low high (place k v.first low high s.from s.before) tt)
part-if k (Err b) gs low high w = w

part-placed : (k : Context) (e : Meaning) (low high : ℕ) → RoutinesInOrder k → InOrder low high e → PlacedTyping k.source.instance low high (part k e)
part-placed k e low high rs p fs =
    let x = value k.source (e.typed k) in
    part-if k.source (x fs).result (x fs).functions low high (value-stands k.source (e.typed k) low high (p k rs) fs)

parts-in-turn : (k : Context) (es : List Meaning) (low high : ℕ) → RoutinesInOrder k → AllInOrder low high es → InTurn k.source.instance low high (map (part k) es)
parts-in-turn k [] low high rs p = p
parts-in-turn k (e ∷ es) low high rs p = (p.0, p.1, p.2, part-placed k e low p.0 rs p.3, parts-in-turn k es p.0 high rs p.4)

joined-if : (k : Source) (opening closing : ℕ) (x : Checked (List Valued)) (gs : List Function) → opening < closing → Placed k.instance (suc opening) closing x
    → StandsIf k.instance opening (suc closing) (applied x (λ vs. rule (concat_of k opening (exprs vs))) gs).result
joined-if k opening closing (Ok vs) gs h p = concat-stands k opening (suc closing) (exprs vs) (omega arith)
joined-if k opening closing (Err b) gs h p = wider b k.instance (suc opening) closing opening (suc closing) (omega arith) (omega arith) p

pub concatenation : (opening : ℕ) (items : List Meaning) (closing : ℕ) → opening < closing → AllInOrder (suc opening) closing items
    → InOrder opening (suc closing) (expr_step (Expr-F.Concatenation opening items closing))
concatenation opening items closing h p k rs =
    plain-stands k.source (checked (parts k items) (λ vs. rule (concat_of k.source opening (exprs vs)))) opening (suc closing)
    (λ fs. joined-if k.source opening closing (parts k items fs).result (parts k items fs).functions h
    (placed-all k.source.instance (map (part k) items) (suc opening) closing (parts-in-turn k items (suc opening) closing rs p) fs))

-- `?:`
choice-stands : (k : Source) (at colon low high : ℕ) (on l r : Valued) → at < colon → Stands low at on → Stands (suc at) colon l → Stands (suc colon) high r
    → StandsIf k.instance low high (choice_of k at on l r)
choice-stands k at colon low high on l r h x y z =
    let from : low ≤ at = let a = x.from in let b = x.before in omega arith in
    let to : at < high = let a = z.from in let b = z.before in omega arith in
    let inner = in-context k on.begins (chosen_type l r) (T.Choose on.expr l.expr r.expr) (l.arithmetic ++ r.arithmetic) low high x.begins
    (let a = x.inner in let b = x.before in omega arith)
    (ascend-append l.arithmetic r.arithmetic low colon high (omega arith) (let a = z.from in let b = z.before in omega arith)
    (ascend-wider l.arithmetic (suc at) colon low colon (omega arith) (omega arith) y.operators)
    (ascend-wider r.arithmetic (suc colon) high colon high (omega arith) (omega arith) z.operators)) in
    refused-stands k.instance (is_unpacked l.expr.of || is_unpacked r.expr.of) (position k at) 504 _ low high (place k at low high from to)
    (refused-stands k.instance (list_any (λ (v : Valued). is_unpacked v.expr.of) (on ∷ [])) (position k at) 508 _ low high (place k at low high from to) inner)

abbrev ArmsIf : ℕ → ℕ → ℕ → ℕ → Checked Arms → Type 0
ArmsIf i at colon high (Ok a) = Stands (suc at) colon a.first × Stands (suc colon) high a.second
ArmsIf i at colon high (Err b) = Within b i (suc at) high

arms-if : (i : ℕ) (x y : Checked Valued) (gs : List Function) (at colon high : ℕ) → at < colon → colon < high
    → StandsIf i (suc at) colon x → StandsIf i (suc colon) high y → ArmsIf i at colon high (applied (joined x y) (λ p. arms p.0 p.1) gs).result
arms-if i (Ok a) (Ok b) gs at colon high h m p q = (p, q)
arms-if i (Ok a) (Err y) gs at colon high h m p q = wider y i (suc colon) high (suc at) high (omega arith) (omega arith) q
arms-if i (Err x) (Ok b) gs at colon high h m p q = wider x i (suc at) colon (suc at) high (omega arith) (omega arith) p
arms-if i (Err x) (Err y) gs at colon high h m p q =
    (colon, omega arith, omega arith, p, wider y i (suc colon) high colon high (omega arith) (omega arith) q)

chosen-if : (k : Source) (x : Checked Valued) (y : Checked Arms) (gs : List Function) (at colon low high : ℕ) → low ≤ at → at < colon → colon < high
    → StandsIf k.instance low at x → ArmsIf k.instance at colon high y
    → StandsIf k.instance low high (applied (joined x y) (λ p. rule (choice_of k at p.0 p.1.first p.1.second)) gs).result
chosen-if k (Ok on) (Ok a) gs at colon low high l h m p q = choice-stands k at colon low high on a.first a.second h p q.0 q.1
chosen-if k (Ok on) (Err y) gs at colon low high l h m p q = wider y k.instance (suc at) high low high (omega arith) (omega arith) q
chosen-if k (Err x) (Ok a) gs at colon low high l h m p q = wider x k.instance low at low high (omega arith) (omega arith) p
chosen-if k (Err x) (Err y) gs at colon low high l h m p q =
    (at, l, omega arith, p, wider y k.instance (suc at) high at high (omega arith) (omega arith) q)

pub conditional : (test : Meaning) (question : ℕ) (first : Meaning) (colon : ℕ) (second : Meaning) (low high : ℕ) → low ≤ question → question < colon → colon < high
    → InOrder low question test → InOrder (suc question) colon first → InOrder (suc colon) high second
    → InOrder low high (expr_step (Expr-F.Conditional test question first colon second))
conditional test question first colon second low high l h m p q r k rs =
    let x = value k.source (test.typed k) in
    let y = value k.source (first.typed k) in
    let z = value k.source (second.typed k) in
    plain-stands k.source (both x (both y z arms) (λ on a. rule (choice_of k.source question on a.first a.second))) low high
    (λ fs.
    let gs = (x fs).functions in
    chosen-if k.source (x fs).result (both y z arms gs).result (both y z arms gs).functions question colon low high l h m
    (value-stands k.source (test.typed k) low question (p k rs) fs)
    (arms-if k.source.instance (y gs).result (z (y gs).functions).result (z (y gs).functions).functions question colon high h m
    (value-stands k.source (first.typed k) (suc question) colon (q k rs) gs)
    (value-stands k.source (second.typed k) (suc colon) high (r k rs) (y gs).functions)))

-- Constant numbers: each of their breaks stands at their first token.
abbrev pub NumberIf : ℕ → ℕ → ℕ → Checked Number → Type 0
NumberIf i low high (Ok n) = (low ≤ n.first) × (n.first < high)
NumberIf i low high (Err b) = Within b i low high

either-within : (c : Bool) (p : Position) (r s i low high : ℕ) → K.Stands i low high p → Within (cond c (At p r) (At p s)) i low high
either-within true p r s i low high h = h
either-within false p r s i low high h = h

number-or : (k : Source) (first : ℕ) (o : Option ℤ) (low high : ℕ) → low ≤ first → first < high → NumberIf k.instance low high (number_or k first o)
number-or k first None low high h m = place k first low high h m
number-or k first (Some n) low high h m = (h, m)

module _ (k : Source) (v : Valued) (number : Valued → Option ℤ) (low high : ℕ) (s : Stands low high v) where
  first-place : Position
  first-place = position k v.first

  number-by : (names unpacked streams stops : Bool)
      → NumberIf k.instance low high (where_whole
      (refused names (position k v.first) 406 (where_whole
      (lesser (refused unpacked (position k v.first) 508 (Ok v)) (refused streams (position k v.first) 512 (Ok v.expr)))
      (λ p. refused stops (position k v.first) 608 (Ok p.0))))
      (λ u. number_or k u.first (number u)))
  number-by true unpacked streams stops = place k v.first low high s.from s.before
  number-by false true true stops =
      either-within (is_before (key_at (position k v.first) 512) (key_at (position k v.first) 508)) (position k v.first) 512 508 k.instance low high
      (place k v.first low high s.from s.before)
  number-by false true false stops = place k v.first low high s.from s.before
  number-by false false true stops = place k v.first low high s.from s.before
  number-by false false false true = place k v.first low high s.from s.before
  number-by false false false false = number-or k v.first (number v) low high s.from s.before

is-number : (k : Source) (from to : ℤ) (v : Valued) (fs : List Function) (low high : ℕ) → Stands low high v → NumberIf k.instance low high (is_number_in k from to v fs)
is-number k from to v fs low high s =
    number-by k v (λ u. in_range from to (number_of fs u.expr)) low high s (names_any v.expr) (is_unpacked v.expr.of) (holds_stream fs v.expr) (stops fs v.expr)

number-if : (k : Source) (from to : ℤ) (x : Checked Valued) (gs : List Function) (low high : ℕ) → StandsIf k.instance low high x
    → NumberIf k.instance low high (applied x (λ v. by_functions (is_number_in k from to v)) gs).result
number-if k from to (Ok v) gs low high s = is-number k from to v gs low high s
number-if k from to (Err b) gs low high w = w

-- a constant by its first token, whatever it is
constant-stream : (k : Source) (v : Valued) (b : Bool) (low high : ℕ) → Stands low high v
    → StandsIf k.instance low high (refused b (position k v.first) 406 (Err (At (position k v.first) 512)))
constant-stream k v true low high s = place k v.first low high s.from s.before
constant-stream k v false low high s = place k v.first low high s.from s.before

constant-if : (k : Source) (x : Checked Operand) (gs : List Function) (low high : ℕ) → OperandIf k.instance low high x
    → StandsIf k.instance low high (applied x (λ o. rule (is_constant_value k o)) gs).result
constant-if k (Ok (Plain v)) gs low high s = s
constant-if k (Ok (Pattern tick of)) gs low high s = place k tick low high s.0 s.1
constant-if k (Ok (Stream v)) gs low high s = constant-stream k v (names_any v.expr) low high s
constant-if k (Err b) gs low high w = w

pub number-stands-in : (k : Source) (from to : ℤ) (x : Typing Operand) (low high : ℕ) → OperandTyping k.instance low high x
    → (fs : List Function) → NumberIf k.instance low high (number_within k from to x fs).result
number-stands-in k from to x low high p fs =
    number-if k from to (constant_in k x fs).result (constant_in k x fs).functions low high (constant-if k (x fs).result (x fs).functions low high (p fs))

-- replications
count-if : (k : Source) (x : Checked Number) (gs : List Function) (low high : ℕ) → NumberIf k.instance low high x
    → Placed k.instance low high (applied x (λ n. rule (is_count k n)) gs).result
count-if k (Ok n) gs low high h =
    placed-refused k.instance (unsigned_abs n.number == 0) (position k n.first) 510 (Ok (unsigned_abs n.number)) low high (place k n.first low high h.0 h.1) tt
count-if k (Err b) gs low high w = w

count-placed : (k : Context) (e : Meaning) (low high : ℕ) → RoutinesInOrder k → InOrder low high e → PlacedTyping k.source.instance low high (count k e)
count-placed k e low high rs p fs =
    let x = number_within k.source (pos 0) F.most_of_size (e.typed k) in
    count-if k.source (x fs).result (x fs).functions low high (number-stands-in k.source (pos 0) F.most_of_size (e.typed k) low high (p k rs) fs)

repeated-if : (k : Source) (opening inner high : ℕ) (x : Checked ℕ) (y : Checked (List Valued)) (gs : List Function) → opening < inner → inner < high
    → Placed k.instance (suc opening) inner x → Placed k.instance (suc inner) high y
    → StandsIf k.instance opening high (applied (joined x y) (λ p. rule (repeat_of k opening p.0 (exprs p.1))) gs).result
repeated-if k opening inner high (Ok n) (Ok vs) gs h m p q =
    refused-stands k.instance (nat_lt most_bits (n * all_bits (exprs vs))) (position k opening) 701 (Ok _) opening high
    (place k opening opening high (omega arith) (omega arith)) (leaf k opening opening high _ _ (omega arith) (omega arith))
repeated-if k opening inner high (Ok n) (Err y) gs h m p q = wider y k.instance (suc inner) high opening high (omega arith) (omega arith) q
repeated-if k opening inner high (Err x) (Ok vs) gs h m p q = wider x k.instance (suc opening) inner opening high (omega arith) (omega arith) p
repeated-if k opening inner high (Err x) (Err y) gs h m p q = (
  inner,
  omega arith,
  omega arith,
  wider x k.instance (suc opening) inner opening inner (omega arith) (omega arith) p,
  wider y k.instance (suc inner) high inner high (omega arith) (omega arith) q,
)

pub replication : (opening : ℕ) (times : Meaning) (inner : ℕ) (items : List Meaning) (inner_closing closing : ℕ) → opening < inner → inner < inner_closing → inner_closing < closing
    → InOrder (suc opening) inner times → AllInOrder (suc inner) inner_closing items
    → InOrder opening (suc closing) (expr_step (Expr-F.«Expr::Replication» opening times inner items inner_closing closing))
replication opening times inner items inner_closing closing h m l p q k rs =
    plain-stands k.source (both (count k times) (parts k items) (λ n vs. rule (repeat_of k.source opening n (exprs vs)))) opening (suc closing)
    (λ fs.
    let gs = (count k times fs).functions in
    repeated-if k.source opening inner (suc closing) (count k times fs).result (parts k items gs).result (parts k items gs).functions h (omega arith)
    (count-placed k times (suc opening) inner rs p fs)
    (placed-wider k.source.instance (parts k items gs).result (suc inner) inner_closing (suc inner) (suc closing) (omega arith) (omega arith)
    (placed-all k.source.instance (map (part k) items) (suc inner) inner_closing (parts-in-turn k items (suc inner) inner_closing rs q) gs)))

-- names with selects behind them
standing-wider : (i : ℕ) (x : Checked Valued) (low high low' high' : ℕ) → low' ≤ low → high ≤ high' → StandsIf i low high x → StandsIf i low' high' x
standing-wider i (Ok v) low high low' high' h k s = stands-wider v low high low' high' h k s
standing-wider i (Err b) low high low' high' h k w = wider b i low high low' high' h k w

stepped-stands : (k : Source) (v : Valued) (t : Step) (low between high : ℕ) → between ≤ high → Stands low between v → StepStands between high t
    → StandsIf k.instance low high (stepped k v t)
stepped-stands k v (Member name) low between high h s t =
    member-stands k name low high v (stands-wider v low between low name (omega arith) t.0 s) t.1
stepped-stands k v (Index opening i) low between high h s t =
    element-stands k opening low high v (stands-wider v low between low opening (omega arith) t.0 s) t.1 i
stepped-stands k v (Part opening left right) low between high h s t =
    part-stands k opening low high v (stands-wider v low between low opening (omega arith) t.0 s) (let a = t.1 in let b = t.2 in omega arith) left right t.1 t.2
stepped-stands k v (Slide opening up i n) low between high h s t =
    let x = stands-wider v low between low opening (omega arith) t.0 s in
    refused-stands k.instance (is_unpacked v.expr.of) (position k opening) 508 _ low high
    (place k opening low high (let a = s.from in let b = s.before in let c = t.0 in omega arith) t.1)
    (selected k opening low high v x t.1 (part_type v.expr.of (n.number -ℤ pos 1) (pos 0)) (T.Slide v.expr i.expr (unsigned_abs n.number) up)
    (width_of (part_type v.expr.of (n.number -ℤ pos 1) (pos 0))))

step-if : (k : Source) (x : Checked Valued) (t : Checked Step) (gs : List Function) (low between high : ℕ) → low ≤ between → between ≤ high
    → StandsIf k.instance low between x → StepIf k.instance between high t
    → StandsIf k.instance low high (applied (joined x t) (λ p. rule (stepped k p.0 p.1)) gs).result
step-if k (Ok v) (Ok t) gs low between high h m p q = stepped-stands k v t low between high m p q
step-if k (Ok v) (Err y) gs low between high h m p q = wider y k.instance between high low high h (omega arith) q
step-if k (Err x) (Ok t) gs low between high h m p q = wider x k.instance low between low high (omega arith) m p
step-if k (Err x) (Err y) gs low between high h m p q = (between, h, m, p, q)

path-stands : (k : Context) (ss : List SelectMeaning) (x : Typing Valued) (low between high : ℕ) → RoutinesInOrder k → low ≤ between
    → StandsTyping k.source.instance low between x → SelectsInOrder between high ss → StandsTyping k.source.instance low high (path k.source x (F.steps k ss))
path-stands k [] x low between high rs h p q = λ fs. standing-wider k.source.instance (x fs).result low between low high (omega arith) q (p fs)
path-stands k (s ∷ ss) x low between high rs h p q =
    path-stands k ss (both x (s.step k) (λ v t. rule (stepped k.source v t))) low q.0 high rs (let a = q.1 in omega arith)
    (λ fs. step-if k.source (x fs).result (s.step k (x fs).functions).result (s.step k (x fs).functions).functions low between q.0 h q.1
    (p fs) (q.3.step k rs (x fs).functions))
    q.4

member-or : (k : Source) (first at : ℕ) (o : Option SignalId) (low high : ℕ) → low ≤ first → first < high → low ≤ at → at < high
    → StandsIf k.instance low high (F.signal_or k first at o)
member-or k first at None low high h m n l = place k at low high n l
member-or k first at (Some s) low high h m n l = by (nat_lt F.most_of_signals (width_of s.of))
  where
    by : (b : Bool) → StandsIf k.instance low high (cond b (Err Quiet) (Ok (by_itself k first s.of (T.Signal s.signal))))
    by true = tt
    by false = leaf k first low high s.of (T.Signal s.signal) h m

interface-by : (k : Context) (first n : ℕ) (s : SelectMeaning) (ss : List SelectMeaning) (low between high : ℕ) → RoutinesInOrder k → low ≤ first → first < between
    → (o : Option ℕ) → MemberStands low between o → SelectsInOrder between high ss
    → StandsTyping k.source.instance low high (elim o [
      | None ↦ broken Quiet
      | Some at ↦ path k.source (rule (F.signal_or k.source first at (member_in n (word k.source at) k.signals))) (F.steps k ss)
    ])
interface-by k first n s ss low between high rs h m None q r = λ fs. tt
interface-by k first n s ss low between high rs h m (Some at) q r =
    path-stands k ss (rule (F.signal_or k.source first at (member_in n (word k.source at) k.signals))) low between high rs (omega arith)
    (λ fs. member-or k.source first at (member_in n (word k.source at) k.signals) low between h m q.0 q.1) r

lower-member : (low low' high : ℕ) (o : Option ℕ) → low' ≤ low → MemberStands low high o → MemberStands low' high o
lower-member low low' high None h m = tt
lower-member low low' high (Some at) h m = (omega arith, m.1)

interface-stands : (k : Context) (first n : ℕ) (ss : List SelectMeaning) (from high : ℕ) → RoutinesInOrder k → first < from → SelectsInOrder from high ss
    → StandsTyping k.source.instance first high (F.of_interface k first n ss)
interface-stands k first n [] from high rs h q = λ fs. tt
interface-stands k first n (s ∷ ss) from high rs h q =
    interface-by k first n s ss first q.0 high rs (omega arith) (let a = q.1 in omega arith) s.member
    (lower-member from first q.0 s.member (omega arith) q.3.member) q.4

thing-stands : (k : Context) (first : ℕ) (ss : List SelectMeaning) (from high : ℕ) (t : Thing) → RoutinesInOrder k → first < from → SelectsInOrder from high ss
    → StandsTyping k.source.instance first high (F.by_thing k first ss t)
thing-stands k first ss from high (N.Signal n t) rs h q =
    path-stands k ss (whole (by_itself k.source first t (T.Signal n))) first from high rs (omega arith) (λ fs. leaf k.source first first from t (T.Signal n) (omega arith) h) q
thing-stands k first ss from high (N.Local n t) rs h q =
    path-stands k ss (whole (by_itself k.source first t (T.Local n))) first from high rs (omega arith) (λ fs. leaf k.source first first from t (T.Local n) (omega arith) h) q
thing-stands k first ss from high (N.Constant t v) rs h q =
    path-stands k ss (whole (by_itself k.source first t (T.Constant v))) first from high rs (omega arith) (λ fs. leaf k.source first first from t (T.Constant v) (omega arith) h) q
thing-stands k first ss from high (N.TypeName t) rs h q = λ fs. tt
thing-stands k first ss from high (N.Interface n) rs h q = interface-stands k first n ss from high rs h q
thing-stands k first ss from high (N.Other n) rs h q = λ fs. tt
thing-stands k first ss from high N.Nothing rs h q = λ fs. tt

pub name : (of : QualifiedName) (selects : List SelectMeaning) (high : ℕ) → qualified_first of ≤ of.name → SelectsInOrder (suc of.name) high selects
    → InOrder (qualified_first of) high (expr_step (Expr-F.«Expr::Name» of selects None))
name of selects high h q k rs =
    plain-stands k.source (F.named k of selects) (qualified_first of) high
    (thing-stands k (qualified_first of) selects (suc of.name) high (thing k of) rs (omega arith) q)

pub member : (dot name : ℕ) → dot < name → SelectInOrder dot (suc name) (select_step (Select-F.Member dot name))
member dot name h = record { step = λ k rs fs. (omega arith, omega arith); member = (omega arith, omega arith) }

bits-if : (k : Source) (x : Checked Valued) (gs : List Function) (low high : ℕ) → StandsIf k.instance low high x
    → StandsIf k.instance low high (applied x (λ v. rule (has_bits k v)) gs).result
bits-if k (Ok v) gs low high s = refused-stands k.instance (is_unpacked v.expr.of) (position k v.first) 508 (Ok v) low high (place k v.first low high s.from s.before) s
bits-if k (Err b) gs low high w = w

index-if : (k : Source) (x : Checked Valued) (gs : List Function) (low high : ℕ) → StandsIf k.instance low high x
    → StandsIf k.instance low high (applied x (λ v. rule (is_index k v)) gs).result
index-if k (Ok v) gs low high s = refused-stands k.instance (nat_lt 64 (width v)) (position k v.first) 507 (Ok v) low high (place k v.first low high s.from s.before) s
index-if k (Err b) gs low high w = w

index-stands : (k : Source) (x : Typing Operand) (low high : ℕ) → OperandTyping k.instance low high x → StandsTyping k.instance low high (index_in k x)
index-stands k x low high p fs =
    let y = value k x in
    index-if k (bits_in k x fs).result (bits_in k x fs).functions low high
    (bits-if k (y fs).result (y fs).functions low high (value-stands k x low high p fs))

index-step : (k : Source) (x : Checked Valued) (gs : List Function) (opening high : ℕ) → opening < high → StandsIf k.instance (suc opening) high x
    → StepIf k.instance opening (suc high) (applied x (λ v. rule (Ok (Index opening v))) gs).result
index-step k (Ok v) gs opening high h s = (omega arith, omega arith)
index-step k (Err b) gs opening high h w = wider b k.instance (suc opening) high opening (suc high) (omega arith) (omega arith) w

pub index : (opening : ℕ) (e : Meaning) (closing : ℕ) → opening < closing → InOrder (suc opening) closing e
    → SelectInOrder opening (suc closing) (select_step (Select-F.Index opening e closing))
index opening e closing h p = record {
  step = λ k rs fs.
      index-step k.source (index_in k.source (e.typed k) fs).result (index_in k.source (e.typed k) fs).functions opening closing h
      (index-stands k.source (e.typed k) (suc opening) closing (p k rs) fs);
  member = tt;
}
