-- Casts keep the order of the text.
use Rattle.std.proofs.Common.{ℕ, suc, ◌≤◌, ◌<◌, ◌||◌, ◌==◌, Bool, true, false, not, cond, [], arith}
use Rattle.std.specs.Prelude.{◌^◌, Ok, nat_le, nat_lt, pos, unsigned_abs}
use Rattle.sv_types.specs.declared.expression.Expr.{Expr}
use Rattle.sv_types.specs.declared.expression.Form.TheVariants as F
use Rattle.sv_types.specs.declared.types.SvType.{SvType}
use Rattle.sv_types.specs.Layouts.{width_of}
use Rattle.expr_type.specs.Breaks.{At}
use Rattle.expr_type.specs.Forms.{Inside, bits_inside, by_sign, by_size, by_type, by_written_size, cast_expr, converted, most_of_size, not_pattern, pattern_of_type, size_cast, type_cast, with_sign, written_size}
use Rattle.expr_type.specs.Literals as D
use Rattle.expr_type.specs.Names.{Source, position, word}
use Rattle.expr_type.specs.Operands.{Operand, Plain, Pattern, Stream, bits_in, number_within, width}
use Rattle.expr_type.specs.Operators.{by_itself, is_signed, not_too_long}
use Rattle.expr_type.specs.Placed.{OperandStands, OperandTyping, Stands}
use Rattle.expr_type.specs.Shapes.{is_assignable, most_bits, vector}
use Rattle.expr_type.specs.Typings.{Typing, broken, checked, refused, rule, whole}
use Rattle.expr_type.specs.declared.operand.Valued.{Valued}
use Rattle.expr_type.proofs.Forms.{leaf}
use Rattle.expr_type.proofs.Ordering.{place}
use Rattle.order_laws.proofs.Given.{bits-stand, operand-wider}
use Rattle.order_laws.proofs.Meant.{Anything, BitsStand, InsideStands, NumberStands}
use Rattle.order_laws.proofs.Operands.{number-typing, too-long}
use Rattle.order_laws.proofs.Typings.{PlacedAs, TypedAs, any-placed, as-both, as-checked, as-refused, as-then}

module _ (k : Source) where
  -- bits of what stands behind the tick
  inside-by : (j : Inside) (b : Bool) (low high : ℕ) → InsideStands k.instance low high j
      → TypedAs (BitsStand low high) k.instance low high (cond b (broken (At (position k j.tick) 505)) (checked (bits_in k (whole j.of)) (λ v. whole (j.tick, v))))
  inside-by j true low high s = λ fs. place k j.tick low high s.0 s.1
  inside-by j false low high s =
      as-checked k.instance (Stands low high) (BitsStand low high) (bits_in k (whole j.of)) (λ v. whole (j.tick, v)) low high
      (bits-stand k low high (whole j.of) (λ fs. s.2)) (λ v t fs. (s.0, s.1, t))

  inside-bits : (x : Typing Inside) (low high : ℕ) → TypedAs (InsideStands k.instance low high) k.instance low high x → TypedAs (BitsStand low high) k.instance low high (bits_inside k x)
  inside-bits x low high p =
      as-checked k.instance (InsideStands k.instance low high) (BitsStand low high) x (λ j. not_pattern k j (checked (bits_in k (whole j.of)) (λ v. whole (j.tick, v)))) low high p
      (λ j s. inside-by j j.is_pattern low high s)

  -- to a size and to a sign
  size-stands : (first n : ℕ) (p : ℕ × Valued) (low high : ℕ) → low ≤ first → first < high → low ≤ p.0 → p.0 < high → PlacedAs (Stands low high) k.instance low high (size_cast k first n p)
  size-stands first n p low high h m l t =
      too-long k low high (Stands low high) p.0 n (Ok (by_itself k first (vector n (is_signed p.1)) (F.Cast p.1.expr))) l t (leaf k first low high (vector n (is_signed p.1)) (F.Cast p.1.expr) h m)

  pub size-typing : (first : ℕ) (x : Typing Operand) (j : Typing Inside) (low between high : ℕ) → low ≤ first → first < high → low ≤ between → between ≤ high
      → OperandTyping k.instance low between x → TypedAs (InsideStands k.instance between high) k.instance between high j
      → TypedAs (Stands low high) k.instance low high (by_size k first x j)
  size-typing first x j low between high h m l t p q =
      as-both k.instance (NumberStands low between) (BitsStand between high) (Stands low high) (number_within k (pos 1) most_of_size x) (bits_inside k j)
      (λ n b. rule (size_cast k first (unsigned_abs n.number) b)) low between high l t
      (number-typing k low between (pos 1) most_of_size x p) (inside-bits j between high q)
      (λ n b s r fs. size-stands first (unsigned_abs n.number) b low high h m (let a = r.0 in omega arith) r.1)

  written-stands : (at : ℕ) → PlacedAs Anything k.instance at (suc at) (written_size k at)
  written-stands at =
      let n = D.decimal (word k at) in
      as-refused k.instance Anything (n == 0 || nat_le (2 ^ 32) n) (position k at) 411 (Ok n) at (suc at) (place k at at (suc at) (omega arith) (omega arith)) tt

  pub written-typing : (at : ℕ) (j : Typing Inside) (high : ℕ) → at < high → TypedAs (InsideStands k.instance (suc at) high) k.instance (suc at) high j
      → TypedAs (Stands at high) k.instance at high (by_written_size k at j)
  written-typing at j high h q =
      as-both k.instance Anything (BitsStand (suc at) high) (Stands at high) (rule (written_size k at)) (bits_inside k j) (λ n b. rule (size_cast k at n b)) at (suc at) high
      (omega arith) (omega arith) (λ fs. written-stands at) (inside-bits j (suc at) high q)
      (λ n b s r fs. size-stands at n b at high (omega arith) h (let a = r.0 in omega arith) r.1)

  pub sign-typing : (first : ℕ) (signed : Bool) (j : Typing Inside) (low high : ℕ) → low ≤ first → first < high → TypedAs (InsideStands k.instance low high) k.instance low high j
      → TypedAs (Stands low high) k.instance low high (by_sign k first signed j)
  sign-typing first signed j low high h m q =
      as-checked k.instance (BitsStand low high) (Stands low high) (bits_inside k j) (λ p. whole (with_sign k first signed p.1)) low high (inside-bits j low high q)
      (λ p s fs. leaf k first low high (vector (width p.1) signed) (F.Cast p.1.expr) h m)

  -- to a type
  module _ (first low high : ℕ) (h : low ≤ first) (m : first < high) where
    cast-leaf : (t : SvType) (e : Expr) → Stands low high (cast_expr k first t e)
    cast-leaf t e = leaf k first low high t (F.Cast e) h m

    pattern-stands : (t : SvType) (o : Operand) → OperandStands k.instance low high o → PlacedAs (Stands low high) k.instance low high (pattern_of_type k first t o)
    pattern-stands t (Plain v) s = tt
    pattern-stands t (Pattern tick of) s =
        as-then k.instance Anything (Stands low high) (of first t) (λ e. Ok (record { first = first; begins = first; is_unsized = false; expr = e; arithmetic = [] })) low high
        (any-placed k.instance (of first t) low high (s.2 first t)) (λ e r. record { begins = h; inner = omega arith; from = h; before = m; operators = tt })
    pattern-stands t (Stream v) s = tt

    converted-stands : (tick : ℕ) (t : SvType) (o : Operand) → low ≤ tick → tick < high → OperandStands k.instance low high o → PlacedAs (Stands low high) k.instance low high (converted k first tick t o)
    converted-stands tick t (Plain v) l n s =
        as-refused k.instance (Stands low high) (nat_lt most_bits (width_of t)) (position k tick) 701
        (refused (not (is_assignable t v.expr.of)) (position k v.first) 501 (Ok (cast_expr k first t v.expr))) low high (place k tick low high l n)
        (as-refused k.instance (Stands low high) (not (is_assignable t v.expr.of)) (position k v.first) 501 (Ok (cast_expr k first t v.expr)) low high
        (place k v.first low high s.from s.before) (cast-leaf t v.expr))
    converted-stands tick t (Pattern other of) l n s =
        as-then k.instance Anything (Stands low high) (of other t) (λ e. not_too_long k tick (width_of t) (Ok (cast_expr k first t e))) low high
        (any-placed k.instance (of other t) low high (s.2 other t)) (λ e r. too-long k low high (Stands low high) tick (width_of t) (Ok (cast_expr k first t e)) l n (cast-leaf t e))
    converted-stands tick t (Stream v) l n s = place k v.first low high s.from s.before

    type-stands : (t : SvType) (j : Inside) → InsideStands k.instance low high j → PlacedAs (Stands low high) k.instance low high (type_cast k first t j)
    type-stands t j s = by j.is_pattern
      where
        by : (b : Bool) → PlacedAs (Stands low high) k.instance low high (cond b (pattern_of_type k first t j.of) (converted k first j.tick t j.of))
        by true = pattern-stands t j.of s.2
        by false = converted-stands j.tick t j.of s.0 s.1 s.2

  pub type-typing : (first : ℕ) (t : Typing SvType) (j : Typing Inside) (low between high : ℕ) → low ≤ first → first < high → low ≤ between → between ≤ high
      → TypedAs Anything k.instance low between t → TypedAs (InsideStands k.instance between high) k.instance between high j
      → TypedAs (Stands low high) k.instance low high (by_type k first t j)
  type-typing first t j low between high h m l n p q =
      as-both k.instance Anything (InsideStands k.instance between high) (Stands low high) t j (λ u i. rule (type_cast k first u i)) low between high l n p q
      (λ u i s r fs. type-stands first low high h m u i (let a = r.0 in omega arith, r.1, operand-wider k.instance i.of between high low high l (omega arith) r.2))
