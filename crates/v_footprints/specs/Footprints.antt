-- By which signals values and runs of the target are bound, whole signals told apart.
use Rattle.std.specs.Prelude.{◌≡◌, ℕ, ◌≤◌, ◌==◌, nat_lt, Bool, true, false, ◌&&◌, ◌||◌, not, List, None}
use Rattle.std.specs.List.{list_any}
use Rattle.b4_core.specs.declared.bit.Bit4.{Bit4}
use Rattle.row_machine.specs.Valuation.{Place, Valuation}
use Rattle.v_tree.specs.Names.{Name}
use Rattle.v_meaning.specs.Scopes.{Scope, Use, named, is_signal, all_bits}
use Rattle.v_meaning.specs.Selects.{SelMeaning}
use Rattle.v_meaning.specs.Values.{Meaning}
use Rattle.v_meaning.specs.Runs.{State}
use Rattle.v_meaning.specs.Statements.{Target, Doing}

-- whether one of the uses is of this signal or local
abbrev pub uses : List Use → ℕ → Bool
uses us n = list_any (λ (u : Use). u.number == n) us

-- valuations that hold the same in the signals of these uses, and in all locals
pub record Alike (us : List Use) (v w : Valuation) : Type 0 where
  pub same : (q : Place) → (not (is_signal q.signal) || uses us q.signal) ≡ true → v q ≡ w q

-- A value, the base of a select, the writes of a target, a function and a run hang on the signals that they read: where
-- valuations hold the same in these, they are the same.
pub record ValueHangs (m : Meaning) (sc : Scope) : Type 0 where
  pub same : (v w : Valuation) → Alike (m.reads sc) v w → (width : ℕ) (signed : Bool) → m.value width signed sc v ≡ m.value width signed sc w

pub record BaseHangs (s : SelMeaning) (sc : Scope) : Type 0 where
  pub same : (v w : Valuation) → Alike (s.reads sc) v w → s.base sc v ≡ s.base sc w

pub record TargetHangs (t : Target) (sc : Scope) : Type 0 where
  pub same : (v w : Valuation) → Alike (t.reads sc) v w → (bits : List Bit4) → t.puts sc v bits ≡ t.puts sc w bits

pub record FunctionsHang (sc : Scope) : Type 0 where
  pub same : (name : Name) (v w : Valuation) → Alike (sc.callee name).reads v w → (args : List (List Bit4)) → (sc.callee name).run v args ≡ (sc.callee name).run w args

pub record RunHangs (d : Doing) (sc : Scope) : Type 0 where
  pub same : (v w : Valuation) → Alike (d.reads sc) v w → (s : State) → d.run sc v s ≡ d.run sc w s

-- no name stands for more bits of a signal than these
pub record Sized (size : ℕ → ℕ) (sc : Scope) : Type 0 where
  pub sized : (name : Name) → is_signal (named sc.names name).number ≡ true → all_bits (named sc.names name) ≤ size (named sc.names name).number

-- whether these uses are of the bit's signal, and it is one of its bits
abbrev pub reached : (ℕ → ℕ) → List Use → Place → Bool
reached size us q = uses us q.signal && nat_lt q.bit (size q.signal)

-- a target writes to no bit of a signal but of those that it may write
pub record TargetWrites (size : ℕ → ℕ) (t : Target) (sc : Scope) : Type 0 where
  pub none : (v : Valuation) (bits : List Bit4) (q : Place) → is_signal q.signal ≡ true → reached size (t.writes sc) q ≡ false → t.puts sc v bits q ≡ None

-- and a run neither
pub record RunWrites (size : ℕ → ℕ) (d : Doing) (sc : Scope) : Type 0 where
  pub now : (v : Valuation) (s : State) (q : Place) → is_signal q.signal ≡ true → reached size (d.writes sc) q ≡ false → (d.run sc v s).written q ≡ s.written q
  pub later : (v : Valuation) (s : State) (q : Place) → is_signal q.signal ≡ true → reached size (d.later sc) q ≡ false → (d.run sc v s).pending q ≡ s.pending q
