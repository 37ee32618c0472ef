-- Valuations that hold the same in all signals, and in the bits of all names of a scope.
use Rattle.std.proofs.Common.{◌≡◌, ℕ, zero, suc, ◌+◌, ◌<◌, Bool, true, false, List, ◌∷◌, Option, Some, None, refl, arith}
use Rattle.b4_core.specs.declared.bit.Bit4.{Bit4}
use Rattle.row_machine.specs.Valuation.{Place, Valuation, Changes, put, changed}
use Rattle.row_machine.specs.Places.{bits_from, vector_at}
use Rattle.row_machine.specs.Steps.{later_or, then_changes}
use Rattle.v_tree.specs.Names.{Name}
use Rattle.v_meaning.specs.Scopes.{Scope, Callee, named, all_bits}
use Rattle.v_meaning.specs.Selects.{SelMeaning}
use Rattle.v_meaning.specs.Values.{Meaning}
use Rattle.v_meaning.specs.Runs.{State, current, assign_as}
use Rattle.v_meaning.specs.Statements.{Target, Doing}
use Rattle.v_stores.specs.Waits.{place}
use Rattle.v_hangs.specs.Hangs.{SameSignals}

pub record Same (sc : Scope) (v w : Valuation) : Type 0 where
  pub signals : SameSignals v w
  pub names : (name : Name) (k : ℕ) → k < all_bits (named sc.names name) → v (place (named sc.names name).number k) ≡ w (place (named sc.names name).number k)

-- values, bases, targets, functions and runs are the same over such valuations
pub record ValueSame (m : Meaning) (sc : Scope) : Type 0 where
  pub same : (v w : Valuation) → Same sc v w → (width : ℕ) (signed : Bool) → m.value width signed sc v ≡ m.value width signed sc w

pub record BaseSame (s : SelMeaning) (sc : Scope) : Type 0 where
  pub same : (v w : Valuation) → Same sc v w → s.base sc v ≡ s.base sc w

pub record TargetSame (t : Target) (sc : Scope) : Type 0 where
  pub same : (v w : Valuation) → Same sc v w → (bits : List Bit4) → t.puts sc v bits ≡ t.puts sc w bits

pub record CalleeSame (c : Callee) : Type 0 where
  pub same : (v w : Valuation) → SameSignals v w → (args : List (List Bit4)) → c.run v args ≡ c.run w args

pub record FunctionsSame (sc : Scope) : Type 0 where
  pub same : (name : Name) (v w : Valuation) → SameSignals v w → (args : List (List Bit4)) → (sc.callee name).run v args ≡ (sc.callee name).run w args

-- a run stays so: what it has written it keeps
pub record RunSame (d : Doing) (sc : Scope) : Type 0 where
  pub same : (v w : Valuation) (s : State) → Same sc (current v s) (current w s) → d.run sc v s ≡ d.run sc w s
  pub stays : (u v w : Valuation) (s : State) (q : Place) → current v s q ≡ current w s q → current v (d.run sc u s) q ≡ current w (d.run sc u s) q

-- a vector that they hold
bits-same : (v w : Valuation) (n k width : ℕ) → ((j : ℕ) → j < k + width → v (place n j) ≡ w (place n j)) → bits_from v n k width ≡ bits_from w n k width
bits-same v w n k zero h = refl
bits-same v w n k (suc width) h = λ i. h k (omega arith) i ∷ bits-same v w n (suc k) width (λ j l. h j (omega (arith, l))) i

pub vector-same : (v w : Valuation) (n width : ℕ) → ((j : ℕ) → j < width → v (place n j) ≡ w (place n j)) → vector_at v n width ≡ vector_at w n width
vector-same v w n width h = bits-same v w n 0 width (λ j l. h j (omega (arith, l)))

-- behind more writes
pub more-stays : (c d : Changes) (v w : Valuation) (q : Place) → put c v q ≡ put c w q → put (then_changes c d) v q ≡ put (then_changes c d) w q
more-stays c d v w q h = by (d q)
  where
    by : (o : Option Bit4) → changed (later_or o (c q)) (v q) ≡ changed (later_or o (c q)) (w q)
    by None = h
    by (Some b) = refl

pub as-stays : (later : Bool) (c : Changes) (v w : Valuation) (s : State) (q : Place) → current v s q ≡ current w s q → current v (assign_as later c s) q ≡ current w (assign_as later c s) q
as-stays true c v w s q h = h
as-stays false c v w s q h = more-stays s.written c v w q h

pub after-run : (d : Doing) (sc : Scope) → RunSame d sc → (u v w : Valuation) (s : State) → Same sc (current v s) (current w s) → Same sc (current v (d.run sc u s)) (current w (d.run sc u s))
after-run d sc h u v w s a = record {
  signals = record { same = λ q e. h.stays u v w s q (a.signals.same q e) };
  names = λ name k l. h.stays u v w s (place (named sc.names name).number k) (a.names name k l);
}
