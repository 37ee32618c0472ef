-- What the signals of a design hold at time zero (IEEE 1364-2005 clauses 4.2.2, 4.6, 6.2.1 and 9.9.1).
use Rattle.std.specs.Prelude.{◌≡◌, ℕ, ◌<◌, ◌≤◌, ⊤, Bool, true, false, ◌||◌, nat_lt, cond, List, [], ◌∷◌, length, Some, None, slice_get, slice_index, slice_index_or}
use Rattle.b4_core.specs.declared.bit.Bit4.{Bit4}
use Rattle.b4_core.specs.declared.bit.Bit4.TheVariants.{X, Z}
use Rattle.row_machine.specs.Valuation.{Place, Valuation}
use Rattle.v_meaning.specs.Machine.{size, of_signal, last_initial, holds_value}
use Rattle.v_meaning.specs.Modules.{Signal, InitialValue}
use Rattle.v_stores.specs.Waits.{is_named}

-- each of these values is for a signal of as many bits
abbrev pub InitialsFit : List ℕ → List InitialValue → Type 0
InitialsFit ws [] = ⊤
InitialsFit ws (i ∷ is) = (slice_get ws i.number ≡ Some (length i.value)) × InitialsFit ws is

-- what signals hold once they have been given these values; of two for one signal the last counts
abbrev pub given_over : List InitialValue → Valuation → Valuation
given_over is v q = elim (last_initial is q.signal) [ None ↦ v q | Some bits ↦ slice_index_or bits q.bit X ]

-- whether a bit of a signal is marked
abbrev pub marked : List (List Bool) → Place → Bool
marked ms q = slice_index_or (slice_index_or ms q.signal []) q.bit false

-- what signals hold until a run assigns them, by the bits that runs may write
abbrev pub started : List Signal → (Place → Bool) → Valuation → Valuation
started ss w v q = of_signal ss X (λ s. cond (nat_lt q.bit (size s)) (cond (holds_value s.kind || w q) (v q) Z) X) q.signal

-- no number twice
abbrev pub Once : List ℕ → Type 0
Once [] = ⊤
Once (n ∷ ns) = (is_named ns n ≡ false) × Once ns

-- Of the signals that have marks those that are named have been listed once each, and these alone have this mark, the greatest.
pub record Listed (mark : ℕ) (named : List ℕ) (marks listed : List ℕ) : Type 0 where
  pub same : (m : ℕ) → m < length marks → is_named listed m ≡ is_named named m
  pub there : (m : ℕ) → is_named listed m ≡ true → m < length marks
  pub once : Once listed
  pub newest : (m : ℕ) → m < length marks → slice_index marks m ≤ mark
  pub is_marked : (m : ℕ) → is_named listed m ≡ true → slice_index marks m ≡ mark
  pub is_listed : (m : ℕ) → m < length marks → slice_index marks m ≡ mark → is_named listed m ≡ true

-- what a signal holds until a run assigns it, by which of its bits runs may write
pub record StartedOne (s : Signal) (marks : List Bool) (old new : List Bit4) : Type 0 where
  pub shape : length new ≡ length old
  pub values : (k : ℕ) → k < length old → slice_index_or new k X ≡ cond (holds_value s.kind || slice_index_or marks k false) (slice_index_or old k X) Z
