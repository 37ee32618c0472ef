-- Operands, numbers and values of a part of a text, as typings that give them.
use Rattle.std.proofs.Common.{ℕ, ◌≤◌, ◌<◌, ℤ}
use Rattle.std.specs.Prelude.{Ok, Err, nat_lt}
use Rattle.expr_type.specs.Expressions.{Meaning}
use Rattle.expr_type.specs.Forms as F
use Rattle.expr_type.specs.Names.{Source, position}
use Rattle.expr_type.specs.Operands.{Operand, is_value, number_within, value}
use Rattle.expr_type.specs.Operators.{not_too_long}
use Rattle.expr_type.specs.Placed.{InOrder, OperandIf, OperandStands, OperandTyping, Placed, PlacedTyping, Stands, StandsIf, StandsTyping}
use Rattle.expr_type.specs.Selects.{index_in, is_index, most_of_index}
use Rattle.expr_type.specs.Operands as V
use Rattle.expr_type.specs.Shapes.{most_bits}
use Rattle.expr_type.specs.Typings.{Checked, Typing, rule}
use Rattle.expr_type.specs.declared.operand.Number.{Number}
use Rattle.expr_type.specs.declared.operand.Valued.{Valued}
use Rattle.expr_type.proofs.Forms.{NumberIf, number-stands-in, plain-stands}
use Rattle.expr_type.proofs.Ordering.{place}
use Rattle.order_laws.proofs.Given.{bits-stand, operand-typing, operand-wider, value-stands}
use Rattle.order_laws.proofs.Meant.{NumberStands}
use Rattle.order_laws.proofs.Typings.{PlacedAs, TypedAs, as-checked, as-refused, as-wider}

-- other ways to say it
module _ (i low high : ℕ) where
  pub placed-from : {A : Type 0} (P : A → Type 0) (x : Typing A) → TypedAs P i low high x → PlacedTyping i low high x
  placed-from {A} P x p fs = by (x fs).result (p fs)
    where
      by : (y : Checked A) → PlacedAs P i low high y → Placed i low high y
      by (Ok a) q = tt
      by (Err b) q = q

  pub placed-in : {A : Type 0} (P : A → Type 0) (x : Checked A) → PlacedAs P i low high x → Placed i low high x
  placed-in P (Ok a) q = tt
  placed-in P (Err b) q = q

  pub as-stands : (x : Checked Valued) → StandsIf i low high x → PlacedAs (Stands low high) i low high x
  as-stands (Ok v) s = s
  as-stands (Err b) s = s

  stands-as : (x : Checked Valued) → PlacedAs (Stands low high) i low high x → StandsIf i low high x
  stands-as (Ok v) s = s
  stands-as (Err b) s = s

  pub standing : (x : Typing Valued) → TypedAs (Stands low high) i low high x → StandsTyping i low high x
  standing x p fs = stands-as (x fs).result (p fs)

  operand-as : (x : Checked Operand) → PlacedAs (OperandStands i low high) i low high x → OperandIf i low high x
  operand-as (Ok o) s = s
  operand-as (Err b) s = s

  pub operands : (x : Typing Operand) → TypedAs (OperandStands i low high) i low high x → OperandTyping i low high x
  operands x p fs = operand-as (x fs).result (p fs)

-- wider parts
pub typed-wider : {A : Type 0} (i : ℕ) (P : A → Type 0) (x : Typing A) (low high low' high' : ℕ) → low' ≤ low → high ≤ high' → TypedAs P i low high x → TypedAs P i low' high' x
typed-wider i P x low high low' high' h m p fs = as-wider i P P (x fs).result low high low' high' h m (λ a s. s) (p fs)

operand-if-wider : (i : ℕ) (x : Checked Operand) (low high low' high' : ℕ) → low' ≤ low → high ≤ high' → OperandIf i low high x → OperandIf i low' high' x
operand-if-wider i x low high low' high' h m p =
    operand-as i low' high' x (as-wider i (OperandStands i low high) (OperandStands i low' high') x low high low' high' h m (λ o s. operand-wider i o low high low' high' h m s) (held x p))
  where
    held : (y : Checked Operand) → OperandIf i low high y → PlacedAs (OperandStands i low high) i low high y
    held (Ok o) s = s
    held (Err b) s = s

pub in-order-wider : (e : Meaning) (low high low' high' : ℕ) → low' ≤ low → high ≤ high' → InOrder low high e → InOrder low' high' e
in-order-wider e low high low' high' h m p k rs fs = operand-if-wider k.source.instance (e.typed k fs).result low high low' high' h m (p k rs fs)

module _ (k : Source) (low high : ℕ) where
  -- values, plain operands, numbers and indices
  pub value-typing : (x : Typing Operand) → OperandTyping k.instance low high x → TypedAs (Stands low high) k.instance low high (value k x)
  value-typing x p =
      as-checked k.instance (OperandStands k.instance low high) (Stands low high) x (λ o. rule (is_value k o)) low high (operand-typing k low high x p)
      (λ o s fs. value-stands k low high o s)

  pub plain-typing : (x : Typing Valued) → TypedAs (Stands low high) k.instance low high x → OperandTyping k.instance low high (F.plain x)
  plain-typing x p = plain-stands k x low high (standing k.instance low high x p)

  number-as : (x : Checked Number) → NumberIf k.instance low high x → PlacedAs (NumberStands low high) k.instance low high x
  number-as (Ok n) s = s
  number-as (Err b) s = s

  pub number-typing : (from to : ℤ) (x : Typing Operand) → OperandTyping k.instance low high x → TypedAs (NumberStands low high) k.instance low high (number_within k from to x)
  number-typing from to x p fs = number-as (number_within k from to x fs).result (number-stands-in k from to x low high p fs)

  pub index-typing : (x : Typing Operand) → OperandTyping k.instance low high x → TypedAs (Stands low high) k.instance low high (index_in k x)
  index-typing x p =
      as-checked k.instance (Stands low high) (Stands low high) (V.bits_in k x) (λ v. rule (is_index k v)) low high (bits-stand k low high x p)
      (λ v s fs. as-refused k.instance (Stands low high) (nat_lt most_of_index (V.width v)) (position k v.first) 507 (Ok v) low high (place k v.first low high s.from s.before) s)

  -- not more than 65,536 bits
  pub too-long : {A : Type 0} (P : A → Type 0) (at w : ℕ) (x : Checked A) → low ≤ at → at < high → PlacedAs P k.instance low high x → PlacedAs P k.instance low high (not_too_long k at w x)
  too-long P at w x h m p = as-refused k.instance P (nat_lt most_bits w) (position k at) 701 x low high (place k at low high h m) p
