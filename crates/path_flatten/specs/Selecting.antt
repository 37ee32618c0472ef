-- What selects of names and of expressions read.
use Rattle.std.specs.Prelude.{◌≡◌, ℕ, ◌+◌, ◌-◌, ◌≤◌, ◌<◌, ◌==◌, cond, List, [], ◌∷◌, length, replicate}
use Rattle.b4_core.specs.declared.bit.Bit4.{Bit4}
use Rattle.b4_core.specs.declared.bit.Bit4.TheVariants.{X}
use Rattle.b4_core.specs.declared.operators.BinOp.TheVariants as B
use Rattle.b4_core.specs.declared.operators.RedOp.TheVariants as D
use Rattle.row_machine.specs.Valuation.{Valuation, Member}
use Rattle.picks.specs.Windows.{seen}
use Rattle.v_tree.specs.Names.{Name}
use Rattle.v_tree.specs.Printing.{helper_text}
use Rattle.v_tree.specs.declared.names.Helper.{Helper}
use Rattle.v_tree.specs.declared.names.HelperKind.TheVariants.{Select}
use Rattle.v_meaning.specs.Scopes.{Scope, named}
use Rattle.v_meaning.specs.Values as T
use Rattle.eval_parts.specs.declared.paths.Window.{Window}
use Rattle.eval_parts.specs.Places.{window_of}
use Rattle.lowering_laws.specs.Same.{HasBits}
use Rattle.lowering_laws.specs.Terms.{braced}
use Rattle.path_flatten.specs.declared.readings.Root.{Root}
use Rattle.path_flatten.specs.declared.readings.Reading.{Reading}
use Rattle.path_flatten.specs.declared.readings.Slice.{Slice}
use Rattle.path_flatten.specs.Helping.{EachHelps, IsSized}
use Rattle.path_flatten.specs.Reading.{IsVector, HasRoot, StaysIn, slice_of}

-- the helper that takes such a slice
abbrev pub slicer : Slice → Helper
slicer s = record { kind = Select s.part s.index; width = s.of }

-- a call of it, which the text declares if it has bits
pub record IsSelectCall (s : Slice) (m o : T.Meaning) (hs : List Helper) (r : T.Meaning) : Type 0 where
  pub is : r ≡ T.call (helper_text (slicer s)) (m ∷ o ∷ [])
  pub there : IsSized (slicer s) → Member hs (slicer s)

-- n bits from a known one on, which are in range: of a name, of an expression, and of either
abbrev pub CutsName : Name → ℕ → ℕ → ℕ → T.Meaning → Type 0
CutsName name w low n r = (c : List Bit4) (sc : Scope) (v : Valuation)
    → IsVector (named sc.names name) w c v → length c ≡ w → low + n ≤ w → HasBits r (slice_of c w low n) sc v

abbrev pub CutsValue : T.Meaning → ℕ → ℕ → ℕ → List Helper → T.Meaning → Type 0
CutsValue m w low n hs r = (c : List Bit4) (sc : Scope) (v : Valuation)
    → HasBits m c sc v → length c ≡ w → low + n ≤ w → 1 ≤ n → EachHelps hs sc → HasBits r (slice_of c w low n) sc v

abbrev pub Cuts : Root → ℕ → ℕ → ℕ → List Helper → T.Meaning → Type 0
Cuts root w low n hs r = (c : List Bit4) (sc : Scope) (v : Valuation)
    → HasRoot root w c sc v → length c ≡ w → low + n ≤ w → 1 ≤ n → EachHelps hs sc → HasBits r (slice_of c w low n) sc v

-- a bit that is x whatever an expression is, `{(^m) ^ 1'bx}`, which names what that names
abbrev pub lost_bit : T.Meaning → T.Meaning
lost_bit m = braced (T.binary B.Xor (T.reduce D.Xor m) (T.literal (X ∷ [])))

-- it, n times
abbrev pub times : ℕ → T.Meaning → T.Meaning
times n m = cond (n == 1) m (T.repetition n (m ∷ []))

-- n bits of what a reading stands on, all of them out of range
abbrev pub CutsNone : Root → ℕ → ℕ → T.Meaning → Type 0
CutsNone root w n r = (c : List Bit4) (sc : Scope) (v : Valuation) → HasRoot root w c sc v → HasBits r (replicate n X) sc v

-- the n bits of a window, by those of them that are in range
abbrev pub ReadsPartly : T.Meaning → Window → ℕ → List Helper → T.Meaning → Type 0
ReadsPartly m window n hs r = (c : List Bit4) (w : ℕ) (sc : Scope) (v : Valuation)
    → HasBits m (slice_of c w window.low (window.high - window.low)) sc v → window.low < window.high → window.high ≤ w → 1 ≤ n → n ≤ 4194304
    → StaysIn (window_of window) n → EachHelps hs sc → HasBits r (seen c (window_of window) n) sc v

-- the n bits of a reading
abbrev pub ReadsAll : Reading → ℕ → List Helper → T.Meaning → Type 0
ReadsAll reading n hs r = (c : List Bit4) (sc : Scope) (v : Valuation)
    → HasRoot reading.root reading.width c sc v → length c ≡ reading.width → reading.window.high ≤ reading.width → 1 ≤ n → n ≤ 4194304
    → StaysIn (window_of reading.window) n → EachHelps hs sc → HasBits r (seen c (window_of reading.window) n) sc v
