-- What forms of expressions keep, by their operands.
use Rattle.std.proofs.Common.{◌≡◌, ℕ, ◌≤◌, max, Bool, true, false, List, [], length, arith}
use Rattle.b4_core.specs.declared.bit.Bit4.{Bit4}
use Rattle.b4_core.specs.declared.operators.UnOp.{UnOp}
use Rattle.b4_core.specs.declared.operators.BinOp.{BinOp}
use Rattle.b4_core.specs.declared.operators.RedOp.{RedOp}
use Rattle.b4_core.specs.declared.operators.ShiftOp.{ShiftOp}
use Rattle.b4_core.specs.declared.operators.OrdOp.{OrdOp}
use Rattle.b4_core.specs.declared.operators.EqOp.{EqOp}
use Rattle.sv_types.specs.declared.types.Value.{Value}
use Rattle.sv_types.specs.Layouts.{Layout}
use Rattle.sv_types.specs.declared.statement.Function.{Function}
use Rattle.sv_types.specs.Meanings.{Meaning, wide, signed}
use Rattle.sv_types.specs.Operators as O
use Rattle.sv_types.specs.Values.{bits}
use Rattle.expr_type.specs.Operands.{too_wide}
use Rattle.typing_fits.specs.Sound.{Limited, LimitedAt}
use Rattle.typing_fits.proofs.Vectors.{IsResult, IsVector}

-- contexts in which the operators of a whole are allowed allow those of a part
abbrev pub Covers : List ℕ → List ℕ → Type 0
Covers whole part = (w : ℕ) → too_wide w whole ≡ [] → too_wide w part ≡ []

-- contexts of at most 128 bits
abbrev pub Short : List ℕ → (ℕ → ℕ) → Type 0
Short whole own = (w : ℕ) → too_wide w whole ≡ [] → own w ≤ 128

-- at one width
pub at-width : (m : Meaning) (ops : List ℕ) (gs : List Function) (w : ℕ) → Limited m ops gs → too_wide w ops ≡ [] → LimitedAt m w gs
at-width m ops gs w l h = record { typed = l.typed; narrow = l.narrow; indexing = l.indexing; arithmetic = λ fs k. l.arithmetic fs k w h }

-- values without parts
pub literal-limits : (of : Layout) (at : ℕ) (goes_on : Bool) (v : List Bit4) (gs : List Function) → IsResult of (length v) of.signed → Limited (O.literal of at goes_on v) [] gs
unfolding O.literal
literal-limits of at goes_on v gs r = record {
  typed = omega (arith, r.some, r.same);
  narrow = omega (arith, r.narrow);
  indexing = omega arith;
  arithmetic = λ fs k w h. omega arith;
}

pub fill-limits : (of : Layout) (at : ℕ) (b : Bit4) (gs : List Function) → IsResult of 1 false → Limited (O.fill of at b) [] gs
unfolding O.fill
fill-limits of at b gs r = record {
  typed = omega (arith, r.some, r.same);
  narrow = omega (arith, r.narrow);
  indexing = omega arith;
  arithmetic = λ fs k w h. omega arith;
}

pub constant-limits : (of : Layout) (at : ℕ) (v : Value) (gs : List Function) → IsResult of (length (bits v)) of.signed → Limited (O.constant of at v) [] gs
unfolding O.constant
constant-limits of at v gs r = record {
  typed = omega (arith, r.some, r.same);
  narrow = omega (arith, r.narrow);
  indexing = omega arith;
  arithmetic = λ fs k w h. omega arith;
}

-- operators in the context
pub unary-limits : (of : Layout) (at : ℕ) (op : UnOp) (m : Meaning) (whole ops : List ℕ) (gs : List Function) → IsVector of (wide m) (signed m)
    → Short whole (O.unary_arithmetic op) → Covers whole ops → Limited m ops gs → Limited (O.unary of at op m) whole gs
unfolding O.unary
unary-limits of at op m whole ops gs v short in_ x = record {
  typed = omega (arith, v.result.some, v.result.same, v.four, x.typed);
  narrow = omega (arith, v.result.narrow, x.narrow);
  indexing = omega (arith, x.indexing);
  arithmetic = λ fs k w h. omega (arith, short w h, x.arithmetic fs k w (in_ w h));
}

pub binary-limits : (of : Layout) (at : ℕ) (op : BinOp) (l r : Meaning) (whole ls rs : List ℕ) (gs : List Function) → IsVector of (O.both_wide l r) (O.both_signed l r)
    → Short whole (O.binary_arithmetic op) → Covers whole ls → Covers whole rs → Limited l ls gs → Limited r rs gs → Limited (O.binary of at op l r) whole gs
unfolding O.binary
binary-limits of at op l r whole ls rs gs v short left right x y = record {
  typed = omega (arith, v.result.some, v.result.same, v.four, x.typed, y.typed);
  narrow = omega (arith, v.result.narrow, x.narrow, y.narrow);
  indexing = omega (arith, x.indexing, y.indexing);
  arithmetic = λ fs k w h. omega (arith, short w h, x.arithmetic fs k w (left w h), y.arithmetic fs k w (right w h));
}

pub shift-limits : (of : Layout) (at : ℕ) (op : ShiftOp) (l r : Meaning) (whole ls : List ℕ) (gs : List Function) → IsVector of (wide l) (signed l)
    → Covers whole ls → Limited l ls gs → LimitedAt r (wide r) gs → Limited (O.shift of at op l r) whole gs
unfolding O.shift
shift-limits of at op l r whole ls gs v left x y = record {
  typed = omega (arith, v.result.some, v.result.same, v.four, x.typed, y.typed);
  narrow = omega (arith, v.result.narrow, x.narrow, y.narrow);
  indexing = omega (arith, x.indexing, y.indexing);
  arithmetic = λ fs k w h. omega (arith, x.arithmetic fs k w (left w h), y.arithmetic fs k);
}

pub power-limits : (of : Layout) (at : ℕ) (l r : Meaning) (whole ls : List ℕ) (gs : List Function) → IsVector of (wide l) (signed l)
    → Short whole (λ w. max w (wide r)) → Covers whole ls → Limited l ls gs → LimitedAt r (wide r) gs → Limited (O.power of at l r) whole gs
unfolding O.power
power-limits of at l r whole ls gs v short left x y = record {
  typed = omega (arith, v.result.some, v.result.same, v.four, x.typed, y.typed);
  narrow = omega (arith, v.result.narrow, x.narrow, y.narrow);
  indexing = omega (arith, x.indexing, y.indexing);
  arithmetic = λ fs k w h. omega (arith, short w h, x.arithmetic fs k w (left w h), y.arithmetic fs k);
}

pub choose-limits : (of : Layout) (at : ℕ) (on l r : Meaning) (whole ls rs : List ℕ) (gs : List Function) → IsResult of (O.both_wide l r) (O.both_signed l r)
    → Covers whole ls → Covers whole rs → LimitedAt on (wide on) gs → Limited l ls gs → Limited r rs gs → Limited (O.choose of at on l r) whole gs
unfolding O.choose
choose-limits of at on l r whole ls rs gs v left right z x y = record {
  typed = omega (arith, v.some, v.same, z.typed, x.typed, y.typed);
  narrow = omega (arith, v.narrow, z.narrow, x.narrow, y.narrow);
  indexing = omega (arith, z.indexing, x.indexing, y.indexing);
  arithmetic = λ fs k w h. omega (arith, z.arithmetic fs k, x.arithmetic fs k w (left w h), y.arithmetic fs k w (right w h));
}

-- one bit
pub reduce-limits : (of : Layout) (at : ℕ) (op : RedOp) (m : Meaning) (gs : List Function) → IsVector of 1 false → LimitedAt m (wide m) gs → Limited (O.reduce of at op m) [] gs
unfolding O.reduce
reduce-limits of at op m gs v x = record {
  typed = omega (arith, v.result.some, v.result.same, v.four, x.typed);
  narrow = omega (arith, v.result.narrow, x.narrow);
  indexing = omega (arith, x.indexing);
  arithmetic = λ fs k w h. omega (arith, x.arithmetic fs k);
}

pub negate-limits : (of : Layout) (at : ℕ) (m : Meaning) (gs : List Function) → IsVector of 1 false → LimitedAt m (wide m) gs → Limited (O.negate of at m) [] gs
unfolding O.negate
negate-limits of at m gs v x = record {
  typed = omega (arith, v.result.some, v.result.same, v.four, x.typed);
  narrow = omega (arith, v.result.narrow, x.narrow);
  indexing = omega (arith, x.indexing);
  arithmetic = λ fs k w h. omega (arith, x.arithmetic fs k);
}

pub both-limits : (of : Layout) (at : ℕ) (l r : Meaning) (gs : List Function) → IsVector of 1 false → LimitedAt l (wide l) gs → LimitedAt r (wide r) gs → Limited (O.both of at l r) [] gs
unfolding O.both
both-limits of at l r gs v x y = record {
  typed = omega (arith, v.result.some, v.result.same, v.four, x.typed, y.typed);
  narrow = omega (arith, v.result.narrow, x.narrow, y.narrow);
  indexing = omega (arith, x.indexing, y.indexing);
  arithmetic = λ fs k w h. omega (arith, x.arithmetic fs k, y.arithmetic fs k);
}

pub either-limits : (of : Layout) (at : ℕ) (l r : Meaning) (gs : List Function) → IsVector of 1 false → LimitedAt l (wide l) gs → LimitedAt r (wide r) gs → Limited (O.either of at l r) [] gs
unfolding O.either
either-limits of at l r gs v x y = record {
  typed = omega (arith, v.result.some, v.result.same, v.four, x.typed, y.typed);
  narrow = omega (arith, v.result.narrow, x.narrow, y.narrow);
  indexing = omega (arith, x.indexing, y.indexing);
  arithmetic = λ fs k w h. omega (arith, x.arithmetic fs k, y.arithmetic fs k);
}

pub order-limits : (of : Layout) (at : ℕ) (op : OrdOp) (l r : Meaning) (gs : List Function) → IsVector of 1 false → O.both_wide l r ≤ 128
    → LimitedAt l (O.both_wide l r) gs → LimitedAt r (O.both_wide l r) gs → Limited (O.order of at op l r) [] gs
unfolding O.order
order-limits of at op l r gs v short x y = record {
  typed = omega (arith, v.result.some, v.result.same, v.four, x.typed, y.typed);
  narrow = omega (arith, v.result.narrow, x.narrow, y.narrow);
  indexing = omega (arith, x.indexing, y.indexing);
  arithmetic = λ fs k w h. omega (arith, short, x.arithmetic fs k, y.arithmetic fs k);
}

pub equal-limits : (of : Layout) (at : ℕ) (op : EqOp) (negated : Bool) (l r : Meaning) (gs : List Function) → IsVector of 1 false
    → LimitedAt l (O.both_wide l r) gs → LimitedAt r (O.both_wide l r) gs → Limited (O.equal of at op negated l r) [] gs
unfolding O.equal
equal-limits of at op negated l r gs v x y = record {
  typed = omega (arith, v.result.some, v.result.same, v.four, x.typed, y.typed);
  narrow = omega (arith, v.result.narrow, x.narrow, y.narrow);
  indexing = omega (arith, x.indexing, y.indexing);
  arithmetic = λ fs k w h. omega (arith, x.arithmetic fs k, y.arithmetic fs k);
}

pub clog2-limits : (of : Layout) (at : ℕ) (m : Meaning) (gs : List Function) → IsVector of 32 true → LimitedAt m (wide m) gs → Limited (O.clog2 of at m) [] gs
unfolding O.clog2
clog2-limits of at m gs v x = record {
  typed = omega (arith, v.result.some, v.result.same, v.four, x.typed);
  narrow = omega (arith, v.result.narrow, x.narrow);
  indexing = omega (arith, x.indexing);
  arithmetic = λ fs k w h. omega (arith, x.arithmetic fs k);
}

pub cast-limits : (of : Layout) (at : ℕ) (m : Meaning) (gs : List Function) → IsResult of (length of.two_state) of.signed → LimitedAt m (wide m) gs → Limited (O.cast of at m) [] gs
unfolding O.cast
cast-limits of at m gs v x = record {
  typed = omega (arith, v.some, v.same, x.typed);
  narrow = omega (arith, v.narrow, x.narrow);
  indexing = omega (arith, x.indexing);
  arithmetic = λ fs k w h. omega (arith, x.arithmetic fs k);
}
