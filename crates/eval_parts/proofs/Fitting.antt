-- What a form that fits asks of its parts.
use Rattle.std.proofs.Common.{◌≡◌, ℕ, ◌<◌, ◌≤◌, Bool, List, arith}
use Rattle.b4_core.specs.declared.operators.UnOp.{UnOp}
use Rattle.b4_core.specs.declared.operators.UnOp.TheVariants as U
use Rattle.b4_core.specs.declared.operators.BinOp.{BinOp}
use Rattle.b4_core.specs.declared.operators.BinOp.TheVariants as B
use Rattle.b4_core.specs.declared.operators.RedOp.{RedOp}
use Rattle.b4_core.specs.declared.operators.ShiftOp.{ShiftOp}
use Rattle.b4_core.specs.declared.operators.OrdOp.{OrdOp}
use Rattle.b4_core.specs.declared.operators.EqOp.{EqOp}
use Rattle.b4_core.specs.Unary.{UnaryFitsWord}
use Rattle.b4_core.specs.Binary.{BinaryFitsWord}
use Rattle.sv_types.specs.Layouts.{Layout}
use Rattle.sv_types.specs.Surroundings.{Parameter}
use Rattle.sv_types.specs.Meanings.{Meaning, wide}
use Rattle.sv_types.specs.Operators as O
use Rattle.eval_parts.specs.Limits.{Fits}

-- what a part keeps at a width, but that there is one
pub record Keeps (m : Meaning) (fs : ℕ → List Parameter) (w : ℕ) : Type 0 where
  pub typed : m.misfits ≡ 0
  pub narrow : m.widest ≤ 4194304
  pub arithmetic : m.arithmetic fs w ≤ 128
  pub indexing : m.indexing ≤ 64

pub fits : (m : Meaning) (fs : ℕ → List Parameter) (w : ℕ) → 0 < w → Keeps m fs w → Fits m fs w
fits m fs w some k = record { some = some; typed = k.typed; narrow = k.narrow; arithmetic = k.arithmetic; indexing = k.indexing }

unary-word-by : (op : UnOp) (w : ℕ) → O.unary_arithmetic op w ≤ 128 → UnaryFitsWord op w
unary-word-by U.Not w h = tt
unary-word-by U.Neg w h = h

pub unary-word : (of : Layout) (at : ℕ) (op : UnOp) (m : Meaning) (fs : ℕ → List Parameter) (w : ℕ) → Fits (O.unary of at op m) fs w → UnaryFitsWord op w
unfolding O.unary
unary-word of at op m fs w f = unary-word-by op w (omega arith)

binary-word-by : (op : BinOp) (w : ℕ) → O.binary_arithmetic op w ≤ 128 → BinaryFitsWord op w
binary-word-by B.And w h = tt
binary-word-by B.Or w h = tt
binary-word-by B.Xor w h = tt
binary-word-by B.Xnor w h = tt
binary-word-by B.Add w h = h
binary-word-by B.Sub w h = h
binary-word-by B.Mul w h = h
binary-word-by B.Div w h = h
binary-word-by B.Rem w h = h

pub binary-word : (of : Layout) (at : ℕ) (op : BinOp) (l r : Meaning) (fs : ℕ → List Parameter) (w : ℕ) → Fits (O.binary of at op l r) fs w → BinaryFitsWord op w
unfolding O.binary
binary-word of at op l r fs w f = binary-word-by op w (omega arith)

-- `**` and comparisons are made of at most 128 bits
pub power-word : (of : Layout) (at : ℕ) (l r : Meaning) (fs : ℕ → List Parameter) (w : ℕ) → Fits (O.power of at l r) fs w → (w ≤ 128) × (wide r ≤ 128)
unfolding O.power
power-word of at l r fs w f = (omega arith, omega arith)

pub order-word : (of : Layout) (at : ℕ) (op : OrdOp) (l r : Meaning) (fs : ℕ → List Parameter) (w : ℕ) → Fits (O.order of at op l r) fs w → O.both_wide l r ≤ 128
unfolding O.order
order-word of at op l r fs w f = omega arith

pub unary-part-x : (of : Layout) (at : ℕ) (op : UnOp) (mx : Meaning) (fs : ℕ → List Parameter) (w : ℕ) → Fits (O.unary of at op mx) fs w → Keeps mx fs w
unfolding O.unary
unary-part-x of at op mx fs w f = record { typed = omega arith; narrow = omega arith; arithmetic = omega arith; indexing = omega arith }

pub reduce-part-x : (of : Layout) (at : ℕ) (op : RedOp) (mx : Meaning) (fs : ℕ → List Parameter) (w : ℕ) → Fits (O.reduce of at op mx) fs w → Keeps mx fs (wide mx)
unfolding O.reduce
reduce-part-x of at op mx fs w f = record { typed = omega arith; narrow = omega arith; arithmetic = omega arith; indexing = omega arith }

pub negate-part-x : (of : Layout) (at : ℕ) (mx : Meaning) (fs : ℕ → List Parameter) (w : ℕ) → Fits (O.negate of at mx) fs w → Keeps mx fs (wide mx)
unfolding O.negate
negate-part-x of at mx fs w f = record { typed = omega arith; narrow = omega arith; arithmetic = omega arith; indexing = omega arith }

pub binary-part-x : (of : Layout) (at : ℕ) (op : BinOp) (mx my : Meaning) (fs : ℕ → List Parameter) (w : ℕ) → Fits (O.binary of at op mx my) fs w → Keeps mx fs w
unfolding O.binary
binary-part-x of at op mx my fs w f = record { typed = omega arith; narrow = omega arith; arithmetic = omega arith; indexing = omega arith }

pub binary-part-y : (of : Layout) (at : ℕ) (op : BinOp) (mx my : Meaning) (fs : ℕ → List Parameter) (w : ℕ) → Fits (O.binary of at op mx my) fs w → Keeps my fs w
unfolding O.binary
binary-part-y of at op mx my fs w f = record { typed = omega arith; narrow = omega arith; arithmetic = omega arith; indexing = omega arith }

pub shift-part-x : (of : Layout) (at : ℕ) (op : ShiftOp) (mx my : Meaning) (fs : ℕ → List Parameter) (w : ℕ) → Fits (O.shift of at op mx my) fs w → Keeps mx fs w
unfolding O.shift
shift-part-x of at op mx my fs w f = record { typed = omega arith; narrow = omega arith; arithmetic = omega arith; indexing = omega arith }

pub shift-part-y : (of : Layout) (at : ℕ) (op : ShiftOp) (mx my : Meaning) (fs : ℕ → List Parameter) (w : ℕ) → Fits (O.shift of at op mx my) fs w → Keeps my fs (wide my)
unfolding O.shift
shift-part-y of at op mx my fs w f = record { typed = omega arith; narrow = omega arith; arithmetic = omega arith; indexing = omega arith }

pub power-part-x : (of : Layout) (at : ℕ) (mx my : Meaning) (fs : ℕ → List Parameter) (w : ℕ) → Fits (O.power of at mx my) fs w → Keeps mx fs w
unfolding O.power
power-part-x of at mx my fs w f = record { typed = omega arith; narrow = omega arith; arithmetic = omega arith; indexing = omega arith }

pub power-part-y : (of : Layout) (at : ℕ) (mx my : Meaning) (fs : ℕ → List Parameter) (w : ℕ) → Fits (O.power of at mx my) fs w → Keeps my fs (wide my)
unfolding O.power
power-part-y of at mx my fs w f = record { typed = omega arith; narrow = omega arith; arithmetic = omega arith; indexing = omega arith }

pub order-part-x : (of : Layout) (at : ℕ) (op : OrdOp) (mx my : Meaning) (fs : ℕ → List Parameter) (w : ℕ) → Fits (O.order of at op mx my) fs w → Keeps mx fs (O.both_wide mx my)
unfolding O.order
order-part-x of at op mx my fs w f = record { typed = omega arith; narrow = omega arith; arithmetic = omega arith; indexing = omega arith }

pub order-part-y : (of : Layout) (at : ℕ) (op : OrdOp) (mx my : Meaning) (fs : ℕ → List Parameter) (w : ℕ) → Fits (O.order of at op mx my) fs w → Keeps my fs (O.both_wide mx my)
unfolding O.order
order-part-y of at op mx my fs w f = record { typed = omega arith; narrow = omega arith; arithmetic = omega arith; indexing = omega arith }

pub equal-part-x : (of : Layout) (at : ℕ) (op : EqOp) (negated : Bool) (mx my : Meaning) (fs : ℕ → List Parameter) (w : ℕ) → Fits (O.equal of at op negated mx my) fs w → Keeps mx fs (O.both_wide mx my)
unfolding O.equal
equal-part-x of at op negated mx my fs w f = record { typed = omega arith; narrow = omega arith; arithmetic = omega arith; indexing = omega arith }

pub equal-part-y : (of : Layout) (at : ℕ) (op : EqOp) (negated : Bool) (mx my : Meaning) (fs : ℕ → List Parameter) (w : ℕ) → Fits (O.equal of at op negated mx my) fs w → Keeps my fs (O.both_wide mx my)
unfolding O.equal
equal-part-y of at op negated mx my fs w f = record { typed = omega arith; narrow = omega arith; arithmetic = omega arith; indexing = omega arith }

pub both-part-x : (of : Layout) (at : ℕ) (mx my : Meaning) (fs : ℕ → List Parameter) (w : ℕ) → Fits (O.both of at mx my) fs w → Keeps mx fs (wide mx)
unfolding O.both
both-part-x of at mx my fs w f = record { typed = omega arith; narrow = omega arith; arithmetic = omega arith; indexing = omega arith }

pub both-part-y : (of : Layout) (at : ℕ) (mx my : Meaning) (fs : ℕ → List Parameter) (w : ℕ) → Fits (O.both of at mx my) fs w → Keeps my fs (wide my)
unfolding O.both
both-part-y of at mx my fs w f = record { typed = omega arith; narrow = omega arith; arithmetic = omega arith; indexing = omega arith }

pub either-part-x : (of : Layout) (at : ℕ) (mx my : Meaning) (fs : ℕ → List Parameter) (w : ℕ) → Fits (O.either of at mx my) fs w → Keeps mx fs (wide mx)
unfolding O.either
either-part-x of at mx my fs w f = record { typed = omega arith; narrow = omega arith; arithmetic = omega arith; indexing = omega arith }

pub either-part-y : (of : Layout) (at : ℕ) (mx my : Meaning) (fs : ℕ → List Parameter) (w : ℕ) → Fits (O.either of at mx my) fs w → Keeps my fs (wide my)
unfolding O.either
either-part-y of at mx my fs w f = record { typed = omega arith; narrow = omega arith; arithmetic = omega arith; indexing = omega arith }

pub choose-part-z : (of : Layout) (at : ℕ) (mz mx my : Meaning) (fs : ℕ → List Parameter) (w : ℕ) → Fits (O.choose of at mz mx my) fs w → Keeps mz fs (wide mz)
unfolding O.choose
choose-part-z of at mz mx my fs w f = record { typed = omega arith; narrow = omega arith; arithmetic = omega arith; indexing = omega arith }

pub choose-part-x : (of : Layout) (at : ℕ) (mz mx my : Meaning) (fs : ℕ → List Parameter) (w : ℕ) → Fits (O.choose of at mz mx my) fs w → Keeps mx fs w
unfolding O.choose
choose-part-x of at mz mx my fs w f = record { typed = omega arith; narrow = omega arith; arithmetic = omega arith; indexing = omega arith }

pub choose-part-y : (of : Layout) (at : ℕ) (mz mx my : Meaning) (fs : ℕ → List Parameter) (w : ℕ) → Fits (O.choose of at mz mx my) fs w → Keeps my fs w
unfolding O.choose
choose-part-y of at mz mx my fs w f = record { typed = omega arith; narrow = omega arith; arithmetic = omega arith; indexing = omega arith }

pub cast-part-x : (of : Layout) (at : ℕ) (mx : Meaning) (fs : ℕ → List Parameter) (w : ℕ) → Fits (O.cast of at mx) fs w → Keeps mx fs (wide mx)
unfolding O.cast
cast-part-x of at mx fs w f = record { typed = omega arith; narrow = omega arith; arithmetic = omega arith; indexing = omega arith }

pub clog2-part-x : (of : Layout) (at : ℕ) (mx : Meaning) (fs : ℕ → List Parameter) (w : ℕ) → Fits (O.clog2 of at mx) fs w → Keeps mx fs (wide mx)
unfolding O.clog2
clog2-part-x of at mx fs w f = record { typed = omega arith; narrow = omega arith; arithmetic = omega arith; indexing = omega arith }
