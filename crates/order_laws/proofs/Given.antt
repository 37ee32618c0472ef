-- What operands are given to, and constants: breaks stand where the operand does.
use Rattle.std.proofs.Common.{ℕ, ◌≤◌, ◌<◌, List, max, Option, Some, None, arith}
use Rattle.std.specs.Prelude.{nat_lt, not, Ok, Err}
use Rattle.sv_types.specs.declared.expression.Expr.{Expr}
use Rattle.sv_types.specs.declared.statement.Function.{Function}
use Rattle.sv_types.specs.declared.types.SvType.{SvType}
use Rattle.sv_types.specs.Layouts.{width_of}
use Rattle.expr_type.specs.Breaks.{At, Breaks}
use Rattle.expr_type.specs.Typings.{Checked, Typing, at_all, lesser, refused, rule, unless}
use Rattle.expr_type.specs.Shapes.{most_bits, is_assignable, is_plain_to_enum, is_unpacked}
use Rattle.expr_type.specs.Uses.{holds_stream, names_any}
use Rattle.expr_type.specs.Names.{Source, position}
use Rattle.expr_type.specs.declared.operand.Valued.{Valued}
use Rattle.expr_type.specs.Operands.{Operand, Plain, Pattern, Stream, bits_in, calls_no_stream, constant_alone, constant_of, constant_stream, first_of, given, has_bits, is_constant, is_constant_value, is_given, is_plain, is_streamed, is_value, no_stream, passed, sized, stops, too_wide, unstreamed, value, width}
use Rattle.expr_type.specs.Placed.{Ascend, OperandIf, OperandStands, OperandTyping, Placed, Stands}
use Rattle.expr_type.proofs.Placing.{wider}
use Rattle.expr_type.proofs.Ordering.{WithinIf, all-within, ascend-wide, place}
use Rattle.order_laws.proofs.Typings.{PlacedAs, TypedAs, any-placed, as-checked, as-lesser, as-refused, as-then}
use Rattle.order_laws.proofs.Targets.{stands-wider}

pub operand-wider : (i : ℕ) (o : Operand) (low high low' high' : ℕ) → low' ≤ low → high ≤ high' → OperandStands i low high o → OperandStands i low' high' o
operand-wider i (Plain v) low high low' high' h m s = stands-wider v low high low' high' h m s
operand-wider i (Pattern tick of) low high low' high' h m s =
    (omega arith, omega arith, λ at t. placed-wider (of at t) (s.2 at t))
  where
    placed-wider : (x : Checked Expr) → Placed i low high x → Placed i low' high' x
    placed-wider (Ok e) p = tt
    placed-wider (Err b) p = wider b i low high low' high' h m p
operand-wider i (Stream v) low high low' high' h m s = stands-wider v low high low' high' h m s

module _ (k : Source) (low high : ℕ) where
  abbrev Ours : {A : Type 0} → Checked A → Type 0
  Ours x = PlacedAs (λ a. Unit {0}) k.instance low high x

  pub operand-typing : (x : Typing Operand) → OperandTyping k.instance low high x → TypedAs (OperandStands k.instance low high) k.instance low high x
  operand-typing x p fs = by (x fs).result (p fs)
    where
      by : (y : Checked Operand) → OperandIf k.instance low high y → PlacedAs (OperandStands k.instance low high) k.instance low high y
      by (Ok o) s = s
      by (Err b) s = s

  -- operands that nothing is given to
  pub value-stands : (o : Operand) → OperandStands k.instance low high o → PlacedAs (Stands low high) k.instance low high (is_value k o)
  value-stands (Plain v) s = s
  value-stands (Pattern tick of) s = place k tick low high s.0 s.1
  value-stands (Stream v) s = place k v.first low high s.from s.before

  pub bits-stand : (x : Typing Operand) → OperandTyping k.instance low high x → TypedAs (Stands low high) k.instance low high (bits_in k x)
  bits-stand x p =
      as-checked k.instance (Stands low high) (Stands low high) (value k x) (λ v. rule (has_bits k v)) low high
      (as-checked k.instance (OperandStands k.instance low high) (Stands low high) x (λ o. rule (is_value k o)) low high (operand-typing x p) (λ o s fs. value-stands o s))
      (λ v s fs. as-refused k.instance (Stands low high) (is_unpacked v.expr.of) (position k v.first) 508 (Ok v) low high (place k v.first low high s.from s.before) s)

  pub first-within : (o : Operand) → OperandStands k.instance low high o → (low ≤ first_of o) × (first_of o < high)
  first-within (Plain v) s = (s.from, s.before)
  first-within (Pattern tick of) s = (s.0, s.1)
  first-within (Stream v) s = (s.from, s.before)

  pub without-stream : (o : Operand) → OperandStands k.instance low high o → PlacedAs (OperandStands k.instance low high) k.instance low high (no_stream k o)
  without-stream (Plain v) s = s
  without-stream (Pattern tick of) s = s
  without-stream (Stream v) s = place k v.first low high s.from s.before

  pub unstreamed-stands : (x : Typing Operand) → OperandTyping k.instance low high x → TypedAs (OperandStands k.instance low high) k.instance low high (unstreamed k x)
  unstreamed-stands x p =
      as-checked k.instance (OperandStands k.instance low high) (OperandStands k.instance low high) x (λ o. rule (no_stream k o)) low high (operand-typing x p)
      (λ o s fs. without-stream o s)

  -- what is given to a type
  unless-ours : {A : Type 0} (o : Option Breaks) (a : A) → WithinIf o k.instance low high → Ours (unless o a)
  unless-ours None a w = tt
  unless-ours (Some b) a w = w

  pub wide-ours : {A : Type 0} (ats : List ℕ) (a : A) → Ascend low high ats → Ours (unless (at_all k.instance 502 ats) a)
  wide-ours ats a s = unless-ours (at_all k.instance 502 ats) a (all-within k.instance 502 ats low high s)

  is-given : (t : SvType) (v : Valued) → Stands low high v → Ours (is_given k t v)
  is-given t v s =
      let at = place k v.first low high s.from s.before in
      let w = max (width_of t) (width v) in
      as-refused k.instance (λ e. Unit {0}) (not (is_assignable t v.expr.of)) (position k v.first) 501 _ low high at
      (as-then k.instance (λ p. Unit {0} × Unit {0}) (λ e. Unit {0}) (lesser (is_plain k t v) (sized k w v v)) (λ p. Ok p.0) low high
      (as-lesser k.instance (λ e. Unit {0}) (λ v. Unit {0}) (is_plain k t v) (sized k w v v) low high
      (as-refused k.instance (λ e. Unit {0}) (is_plain_to_enum t v.expr.of) (position k v.first) 503 (Ok v.expr) low high at tt)
      (wide-ours (too_wide w v.arithmetic) v (ascend-wide w v.arithmetic low high s.operators)))
      (λ p u. tt))

  is-streamed : (t : SvType) (v : Valued) → Stands low high v → Ours (is_streamed k t v)
  is-streamed t v s =
      let at = place k v.first low high s.from s.before in
      as-refused k.instance (λ e. Unit {0}) (nat_lt (width_of t) (width v)) (position k v.first) 501 _ low high at
      (as-refused k.instance (λ e. Unit {0}) (nat_lt most_bits (width_of t)) (position k v.first) 701 (Ok v.expr) low high at tt)

  pub given-stands : (t : SvType) (o : Operand) → OperandStands k.instance low high o → Ours (given k t o)
  given-stands t (Plain v) s = is-given t v s
  given-stands t (Pattern tick of) s = any-placed k.instance (of tick t) low high (s.2 tick t)
  given-stands t (Stream v) s = is-streamed t v s

  pub passed-stands : (t : SvType) (o : Operand) → OperandStands k.instance low high o → Ours (passed k t o)
  passed-stands t (Plain v) s = is-given t v s
  passed-stands t (Pattern tick of) s = any-placed k.instance (of tick t) low high (s.2 tick t)
  passed-stands t (Stream v) s = place k v.first low high s.from s.before

  -- constants
  pub constant-as : {A : Type 0} (P : A → Type 0) (first : ℕ) (fs : List Function) (e : Expr) (other : Checked A) → low ≤ first → first < high → PlacedAs P k.instance low high other
      → PlacedAs P k.instance low high (is_constant k first fs e other)
  constant-as P first fs e other h m p =
      let at = place k first low high h m in
      as-refused k.instance P (names_any e) (position k first) 406 _ low high at
      (as-then k.instance (λ q. P q.0 × Unit {0}) P (lesser other (calls_no_stream k first fs e)) (λ q. refused (stops fs e) (position k first) 608 (Ok q.0)) low high
      (as-lesser k.instance P (λ e. Unit {0}) other (calls_no_stream k first fs e) low high p
      (as-refused k.instance (λ e. Unit {0}) (holds_stream fs e) (position k first) 512 (Ok e) low high at tt))
      (λ q u. as-refused k.instance P (stops fs e) (position k first) 608 (Ok q.0) low high at u.0))

  pub constant-ours : {A : Type 0} (first : ℕ) (fs : List Function) (e : Expr) (other : Checked A) → low ≤ first → first < high → Ours other → Ours (is_constant k first fs e other)
  constant-ours first fs e other h m p = constant-as (λ a. Unit {0}) first fs e other h m p

  stream-ours : {A : Type 0} (P : A → Type 0) (v : Valued) → Stands low high v → PlacedAs P k.instance low high (constant_stream {A = A} k v)
  stream-ours P v s =
      as-refused k.instance P (names_any v.expr) (position k v.first) 406 (Err (At (position k v.first) 512)) low high
      (place k v.first low high s.from s.before) (place k v.first low high s.from s.before)

  pub constant-value : (o : Operand) → OperandStands k.instance low high o → PlacedAs (Stands low high) k.instance low high (is_constant_value k o)
  constant-value (Plain v) s = s
  constant-value (Pattern tick of) s = place k tick low high s.0 s.1
  constant-value (Stream v) s = stream-ours (Stands low high) v s

  pub constant-stands : (t : SvType) (o : Operand) (fs : List Function) → OperandStands k.instance low high o → Ours (constant_of k t o fs)
  constant-stands t (Plain v) fs s = constant-ours v.first fs v.expr (is_given k t v) s.from s.before (is-given t v s)
  constant-stands t (Pattern tick of) fs s =
      as-then k.instance (λ e. Unit {0}) (λ e. Unit {0}) (of tick t) (λ e. is_constant k tick fs e (Ok e)) low high (any-placed k.instance (of tick t) low high (s.2 tick t))
      (λ e u. constant-ours tick fs e (Ok e) s.0 s.1 tt)
  constant-stands t (Stream v) fs s = stream-ours (λ e. Unit {0}) v s

  pub alone-stands : (v : Valued) (fs : List Function) → Stands low high v → Ours (constant_alone k v fs)
  alone-stands v fs s = constant-ours v.first fs v.expr (Ok v.expr) s.from s.before tt
