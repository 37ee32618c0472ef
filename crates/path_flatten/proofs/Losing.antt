-- Bits that are out of range.
use Rattle.std.proofs.Common.{◌≡◌, ℕ, ◌+◌, ◌≤◌, ◌==◌, max, min, Bool, true, false, cond, pos, ◌+ℤ◌, List, [], ◌∷◌, None, replicate, refl, arith, ap, sym, ◌∙◌, subst}
use Rattle.std.specs.Prelude.{nat_lt}
use Rattle.std.proofs.lemmas.Int.{ints}
use Rattle.std.proofs.lemmas.Bool.Decides.{nat_tests}
use Rattle.b4_core.specs.declared.bit.Bit4.{Bit4}
use Rattle.b4_core.specs.declared.bit.Bit4.TheVariants.{Zero, One, X, Z}
use Rattle.b4_core.specs.declared.operators.BinOp.TheVariants as B
use Rattle.b4_core.specs.declared.operators.RedOp.TheVariants as D
use Rattle.b4_core.specs.Bits.{xor4}
use Rattle.b4_core.specs.Bitwise.{parity4}
use Rattle.row_machine.specs.Valuation.{Valuation}
use Rattle.picks.specs.Windows.{whole, nowhere, part, trimmed, at_least_0}
use Rattle.v_tree.specs.Names.{Name}
use Rattle.v_meaning.specs.Scopes.{Scope, named}
use Rattle.v_meaning.specs.Values as T
use Rattle.eval_parts.specs.Places.{window_of}
use Rattle.lowering_laws.specs.Same.{HasBits}
use Rattle.lowering_laws.proofs.Paths.{one-window, one-width}
use Rattle.lowering_laws.proofs.Pieces.{fill-bits}
use Rattle.path_flatten.specs.declared.readings.Root.{Root}
use Rattle.path_flatten.specs.declared.readings.Root.TheVariants as R
use Rattle.path_flatten.specs.declared.readings.Reading.{Reading}
use Rattle.v_tree.specs.declared.names.Helper.{Helper}
use Rattle.path_flatten.specs.Selecting.{lost_bit, times, CutsNone, ReadsAll}
use Rattle.path_flatten.proofs.Selecting.{name-bits, seen-none, empty-picks}
use Rattle.path_flatten.proofs.Stepping.{braced-has}

-- x takes part in nothing but x
lost-x : (b : Bit4) → xor4 b X ≡ X
lost-x Zero = refl
lost-x One = refl
lost-x X = refl
lost-x Z = refl

pub lost-has : (m : T.Meaning) (sc : Scope) (v : Valuation) → HasBits (lost_bit m) (X ∷ []) sc v
unfolding T.binary T.reduce T.literal
lost-has m sc v = braced-has (T.binary B.Xor (T.reduce D.Xor m) (T.literal (X ∷ []))) (X ∷ []) sc v refl (ap (λ b. b ∷ []) (lost-x (parity4 (T.alone m sc v))))

-- one bit so often
times-by : (n : ℕ) (b : Bit4) (m : T.Meaning) (sc : Scope) (v : Valuation) (k : Bool) → (n == 1) ≡ k → HasBits m (b ∷ []) sc v
    → HasBits (cond k m (T.repetition n (m ∷ []))) (replicate n b) sc v
times-by n b m sc v true is has = (let one : 1 ≡ n = grind (arith, nat_tests) in subst (λ j. HasBits m (replicate j b) sc v) one has)
times-by n b m sc v false is has = fill-bits n b m sc v has

pub times-has : (n : ℕ) (b : Bit4) (m : T.Meaning) (sc : Scope) (v : Valuation) → HasBits m (b ∷ []) sc v → HasBits (times n m) (replicate n b) sc v
times-has n b m sc v has = times-by n b m sc v (n == 1) refl has

-- a bit above a vector
above-whole : (w n : ℕ) → part (pos w) n (whole w) ≡ nowhere
above-whole w n =
    let a : pos 0 +ℤ pos w ≡ pos w = omega (arith, ints) in
    let b : (pos 0 +ℤ pos w) +ℤ pos n ≡ pos (w + n) = omega (arith, ints) in
    let low : max 0 w ≡ w = omega arith in
    let high : min w (w + n) ≡ w = omega arith in
    let test : nat_lt w w ≡ false = grind (arith, nat_tests) in
    (λ i. trimmed (record { shift = a i; low = max 0 (at_least_0 (a i)); high = min w (at_least_0 (b i)) }))
    ∙ (λ i. trimmed (record { shift = pos w; low = low i; high = high i }))
    ∙ ap (λ t. cond t (record { shift = pos w; low = w; high = w }) nowhere) test

pub name-beyond : (name : Name) (w : ℕ) (m : T.Meaning) → m ≡ T.reference name (T.decimal_base w None ∷ []) → CutsNone (R.Name name) w 1 m
name-beyond name w m is c sc v h =
    let s = T.decimal_base w None in
    subst (λ (y : T.Meaning). HasBits y (X ∷ []) sc v) (sym is)
    (name-bits name w c sc v h (s ∷ []) nowhere 1 (one-width (named sc.names name) s h.vector)
    (one-window (named sc.names name) s sc v h.vector ∙ ap (λ k. part (pos w) 1 (whole k)) h.width ∙ above-whole w 1))

pub lost-beyond : (root : Root) (w : ℕ) (m r : T.Meaning) → r ≡ lost_bit m → CutsNone root w 1 r
lost-beyond root w m r is c sc v h = subst (λ (y : T.Meaning). HasBits y (X ∷ []) sc v) (sym is) (lost-has m sc v)

pub root-beyond : (root : Root) (name : Name) (w n : ℕ) (m : T.Meaning) → root ≡ R.Name name → CutsNone (R.Name name) w n m → CutsNone root w n m
root-beyond root name w n m is h = subst (λ r. CutsNone r w n m) (sym is) h

pub times-beyond : (root : Root) (w n : ℕ) (m r : T.Meaning) → CutsNone root w 1 m → r ≡ times n m → CutsNone root w n r
times-beyond root w n m r h is c sc v has = subst (λ (y : T.Meaning). HasBits y (replicate n X) sc v) (sym is) (times-has n X m sc v (h c sc v has))

-- a reading of which no bit is in range
pub reads-none : (r : Reading) (n : ℕ) (hs : List Helper) (m : T.Meaning) → r.window.high ≤ r.window.low → CutsNone r.root r.width n m → ReadsAll r n hs m
reads-none r n hs m empty cuts c sc v root long inside some few stays helps =
    subst (λ x. HasBits m x sc v) (sym (seen-none c (window_of r.window) n (λ j less. empty-picks (window_of r.window) j empty))) (cuts c sc v root)
