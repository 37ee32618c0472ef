-- What reads the bits of a select path, while its steps are taken (IEEE 1800-2017 clause 11.5.1).
use Rattle.std.specs.Prelude.{◌≡◌, ℕ, ◌<◌, ◌≤◌, ℤ, pos, ◌+ℤ◌, ◌-ℤ◌, int_le, int_lt, true, ◌&&◌, cond, List, length, Option, Some, None}
use Rattle.b4_core.specs.declared.bit.Bit4.{Bit4}
use Rattle.b4_core.specs.Vectors.{known, snum}
use Rattle.row_machine.specs.Valuation.{Valuation}
use Rattle.row_machine.specs.Places.{vector_at}
use Rattle.picks.specs.Windows.{Window, part, within, bit_at, at_least_0, whole, seen}
use Rattle.sv_types.specs.Surroundings.{Around}
use Rattle.sv_types.specs.Meanings as S
use Rattle.v_meaning.specs.Scopes.{Scope, Named, named}
use Rattle.v_meaning.specs.Values as T
use Rattle.v_meaning.specs.Values.{meaning}
use Rattle.eval_parts.specs.Places.{window_of}
use Rattle.lowering_laws.specs.Same.{HasBits}
use Rattle.path_flatten.specs.declared.readings.Root.{Root}
use Rattle.path_flatten.specs.declared.readings.Root.TheVariants as R
use Rattle.path_flatten.specs.declared.readings.Reading.{Reading}

-- a name of the target that is a vector of w bits and holds these
pub record IsVector (n : Named) (w : ℕ) (c : List Bit4) (v : Valuation) : Type 0 where
  pub vector : n.words ≡ None
  pub width : n.width ≡ w
  pub holds : vector_at v n.number w ≡ c

-- what a reading stands on has these bits
abbrev pub HasRoot : Root → ℕ → List Bit4 → Scope → Valuation → Type 0
HasRoot (R.Name name) w c sc v = IsVector (named sc.names name) w c v
HasRoot (R.Value m) w c sc v = HasBits (meaning m) c sc v

-- bit d of a path, also below its first one
abbrev pub bit_from : List Bit4 → Window → ℤ → Bit4
bit_from held path d = let k = d +ℤ path.shift in bit_at held (cond (int_le (pos path.low) k && int_lt k (pos path.high)) (Some (at_least_0 k)) None)

-- two paths see the same bits, each of its own
abbrev pub Sees : List Bit4 → Window → List Bit4 → Window → Type 0
Sees held p c q = (d : ℤ) → bit_from held p d ≡ bit_from c q d

-- each bit in range is one of a path's n bits
pub record StaysIn (path : Window) (n : ℕ) : Type 0 where
  pub below : (b : ℕ) → within path b ≡ true → at_least_0 (pos b -ℤ path.shift) < n
  pub at_it : (b : ℕ) → within path b ≡ true → pos (at_least_0 (pos b -ℤ path.shift)) +ℤ path.shift ≡ pos b

-- A reading reads a path: what it stands on has bits of which its window sees those of the path.
pub record Reads (r : Reading) (e : S.Meaning) (a : Around) (sc : Scope) (v : Valuation) : Type 0 where
  pub bits : List Bit4
  pub root : HasRoot r.root r.width bits sc v
  pub long : length bits ≡ r.width
  pub sees : Sees (e.base a) (e.window a) bits (window_of r.window)
  pub stays : StaysIn (window_of r.window) (S.wide e)
  pub inside : r.window.high ≤ r.width

-- A target expression has this number, if there is one, as a signed argument of so many bits.
pub record IsPassed (m : T.Meaning) (bits : ℕ) (z : Option ℤ) (sc : Scope) (v : Valuation) : Type 0 where
  pub long : length (T.given m bits sc v) ≡ bits
  pub passed : cond (known (T.given m bits sc v)) (Some (snum (T.given m bits sc v))) None ≡ z
  pub some : 1 ≤ bits

-- so many bits of a vector from a known one on, all of them in range
abbrev pub slice_of : List Bit4 → ℕ → ℕ → ℕ → List Bit4
slice_of c w low n = seen c (part (pos low) n (whole w)) n
