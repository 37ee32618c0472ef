-- The bits of a design's signals and what they hold (IEEE 1800-2017 clause 6.3.1).
use Rattle.std.specs.Prelude.{ℕ, zero, suc, Bool, true, false, ◌&&◌, ◌||◌, ◌==◌, ◌≡◌, ◌⊎◌, ⊤, List, [], ◌∷◌, Option, Some, None}
use Rattle.b4_core.specs.declared.bit.Bit4.{Bit4}

-- a bit of a signal: the signal's number in its design, and the bit's index, the least significant bit at 0
pub record Place : Type 0 where
  pub signal : ℕ
  pub bit : ℕ

-- what each bit holds
abbrev pub Valuation : Type 0
Valuation = Place → Bit4

-- what a process assigns: the last value of each bit that its run wrote, and nothing for any other bit
abbrev pub Changes : Type 0
Changes = Place → Option Bit4

-- x is an element of the list
abbrev pub Member : {A : Type 0} → List A → A → Type 0
Member [] x = ⊥
Member (y ∷ ys) x = (x ≡ y) ⊎ Member ys x

-- whether two places are one
abbrev pub is_place : Place → Place → Bool
is_place p q = (p.signal == q.signal) && (p.bit == q.bit)

-- whether the place is one of these
unfoldable pub has : List Place → Place → Bool
has [] q = false
has (p ∷ ps) q = is_place p q || has ps q

-- a bit after a change
abbrev pub changed : Option Bit4 → Bit4 → Bit4
changed None b = b
changed (Some x) b = x

-- the valuation, overwritten
abbrev pub put : Changes → Valuation → Valuation
put c v q = changed (c q) (v q)

-- the valuation, overwritten by what each element assigns, in the list's order
abbrev pub put_each : {A : Type 0} → (A → Changes) → List A → Valuation → Valuation
put_each c [] v = v
put_each c (x ∷ xs) v = put_each c xs (put (c x) v)

-- the changes, or none
abbrev pub only_if : Bool → Changes → Changes
only_if true c q = c q
only_if false c q = None

-- none of these writes the bit
abbrev pub NoneWrites : {A : Type 0} → (A → List Place) → List A → Place → Type 0
NoneWrites {A} writes xs q = (x : A) → Member xs x → has (writes x) q ≡ false

-- no bit has two writers
abbrev pub OneWriter : {A : Type 0} → (A → List Place) → List A → Type 0
OneWriter writes [] = ⊤
OneWriter writes (x ∷ xs) = ((q : Place) → has (writes x) q ≡ true → NoneWrites writes xs q) × OneWriter writes xs

-- the bits of a signal of some width
abbrev pub signal_bits : ℕ → ℕ → List Place
signal_bits signal zero = []
signal_bits signal (suc width) = record { signal = signal; bit = width } ∷ signal_bits signal width

-- each of these bits gets its value
abbrev pub each_bit : List Place → (Place → Bit4) → Changes
each_bit qs value q = only_if (has qs q) (λ p. Some (value p)) q
