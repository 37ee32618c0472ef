-- What lists of operands keep: concatenations, replications, streams and `inside`.
use Rattle.std.proofs.Common.{◌≡◌, ℕ, ◌*◌, ◌<◌, ◌≤◌, max, Bool, false, List, [], ◌∷◌, map, flat_map, refl, arith, sym, subst}
use Rattle.sv_types.specs.declared.expression.Expr.{Expr}
use Rattle.sv_types.specs.declared.statement.Function.{Function}
use Rattle.sv_types.specs.Layouts.{Layout}
use Rattle.sv_types.specs.Surroundings.{Parameter}
use Rattle.sv_types.specs.Meanings.{Meaning, Operand, wide, by_itself, most, total}
use Rattle.sv_types.specs.Operators as O
use Rattle.sv_types.specs.Operators.{width_of_all, Alternative}
use Rattle.sv_types.specs.Expressions.{meaning}
use Rattle.eval_parts.proofs.TypeKinds.{wide-is}
use Rattle.expr_type.specs.Operators.{all_bits}
use Rattle.typing_fits.specs.Sound.{Knows, Limited, LimitedAt, SoundAlone, AllSoundAlone}
use Rattle.typing_fits.proofs.Full.{full-bits}
use Rattle.typing_fits.proofs.Vectors.{IsResult, IsVector}

-- parts that are each valued alone
pub record Sums (es : List Expr) (gs : List Function) : Type 0 where
  pub typed : total (map (λ (p : Operand). p.of.misfits) (map by_itself (map meaning es))) ≡ 0
  pub narrow : most (map (λ (p : Operand). p.of.widest) (map by_itself (map meaning es))) ≤ 4194304
  pub indexing : most (map (λ (p : Operand). p.of.indexing) (map by_itself (map meaning es))) ≤ 64
  pub arithmetic : (fs : ℕ → List Parameter) → Knows gs fs → (w : ℕ) → most (map (λ (p : Operand). p.of.arithmetic fs (p.at w)) (map by_itself (map meaning es))) ≤ 128
  pub widths : all_bits es ≡ width_of_all (map meaning es)

pub alone-at : (e : Expr) (gs : List Function) → SoundAlone e gs → LimitedAt (meaning e) (wide (meaning e)) gs
alone-at e gs s = subst (λ w. LimitedAt (meaning e) w gs) (sym (wide-is e)) s.limits

pub sums : (es : List Expr) (gs : List Function) → AllSoundAlone es gs → Sums es gs
sums [] gs s = record { typed = refl; narrow = omega arith; indexing = omega arith; arithmetic = λ fs k w. omega arith; widths = refl }
sums (e ∷ es) gs s =
    let r = sums es gs s.1 in
    let x = alone-at e gs s.0 in
    record {
      typed = omega (arith, x.typed, r.typed);
      narrow = omega (arith, x.narrow, r.narrow);
      indexing = omega (arith, x.indexing, r.indexing);
      arithmetic = λ fs k w. omega (arith, x.arithmetic fs k, r.arithmetic fs k w);
      widths = omega (arith, wide-is e, r.widths);
    }

pub some-bits : (e : Expr) (es : List Expr) (gs : List Function) → AllSoundAlone (e ∷ es) gs → 0 < all_bits (e ∷ es)
some-bits e es gs s = omega (arith, full-bits e.of s.0.of.full)

pub concat-limits : (of : Layout) (at : ℕ) (es : List Expr) (gs : List Function) → IsVector of (width_of_all (map meaning es)) false → Sums es gs → Limited (O.concat of at (map meaning es)) [] gs
unfolding O.concat
concat-limits of at es gs v s = record {
  typed = omega (arith, v.result.some, v.result.same, v.four, s.typed);
  narrow = omega (arith, v.result.narrow, s.narrow);
  indexing = omega (arith, s.indexing);
  arithmetic = λ fs k w h. omega (arith, s.arithmetic fs k w);
}

pub repeat-limits : (of : Layout) (at n : ℕ) (es : List Expr) (gs : List Function) → IsVector of (n * width_of_all (map meaning es)) false → Sums es gs → Limited (O.repeat of at n (map meaning es)) [] gs
unfolding O.repeat
repeat-limits of at n es gs v s = record {
  typed = omega (arith, v.result.some, v.result.same, v.four, s.typed);
  narrow = omega (arith, v.result.narrow, s.narrow);
  indexing = omega (arith, s.indexing);
  arithmetic = λ fs k w h. omega (arith, s.arithmetic fs k w);
}

pub stream-limits : (of : Layout) (at : ℕ) (reversed : Bool) (n : ℕ) (es : List Expr) (gs : List Function) → IsResult of (width_of_all (map meaning es)) false → Sums es gs
    → Limited (O.stream of at reversed n (map meaning es)) [] gs
unfolding O.stream
stream-limits of at reversed n es gs v s = record {
  typed = omega (arith, v.some, v.same, s.typed);
  narrow = omega (arith, v.narrow, s.narrow);
  indexing = omega (arith, s.indexing);
  arithmetic = λ fs k w h. omega (arith, s.arithmetic fs k w);
}

abbrev pub AlternativeFits : Meaning → List Function → Alternative → Type 0
AlternativeFits m gs (Alternative.Only v) = LimitedAt v (O.both_wide m v) gs
AlternativeFits m gs (Alternative.From low high) = LimitedAt low (O.both_wide m low) gs × LimitedAt high (O.both_wide m high) gs

abbrev pub AllFit : Meaning → List Function → List Alternative → Type 0
AllFit m gs [] = Unit {0}
AllFit m gs (a ∷ as_) = AlternativeFits m gs a × AllFit m gs as_

pub record Compared (m : Meaning) (as_ : List Alternative) (gs : List Function) : Type 0 where
  pub typed : total (map (λ (p : Operand). p.of.misfits) (flat_map (O.inside_operands m) as_)) ≡ 0
  pub narrow : most (map (λ (p : Operand). p.of.widest) (flat_map (O.inside_operands m) as_)) ≤ 4194304
  pub indexing : most (map (λ (p : Operand). p.of.indexing) (flat_map (O.inside_operands m) as_)) ≤ 64
  pub arithmetic : (fs : ℕ → List Parameter) → Knows gs fs → (w : ℕ) → most (map (λ (p : Operand). p.of.arithmetic fs (p.at w)) (flat_map (O.inside_operands m) as_)) ≤ 128

pub compared : (m : Meaning) (as_ : List Alternative) (gs : List Function) → AllFit m gs as_ → Compared m as_ gs
compared m [] gs f = record { typed = refl; narrow = omega arith; indexing = omega arith; arithmetic = λ fs k w. omega arith }
compared m (Alternative.Only v ∷ as_) gs f =
    let r = compared m as_ gs f.1 in
    let g = f.0 in
    record {
      typed = omega (arith, g.typed, r.typed);
      narrow = omega (arith, g.narrow, r.narrow);
      indexing = omega (arith, g.indexing, r.indexing);
      arithmetic = λ fs k w. omega (arith, g.arithmetic fs k, r.arithmetic fs k w);
    }
compared m (Alternative.From low high ∷ as_) gs f =
    let r = compared m as_ gs f.1 in
    let g = f.0.0 in
    let h = f.0.1 in
    record {
      typed = omega (arith, g.typed, h.typed, r.typed);
      narrow = omega (arith, g.narrow, h.narrow, r.narrow);
      indexing = omega (arith, g.indexing, h.indexing, r.indexing);
      arithmetic = λ fs k w. omega (arith, g.arithmetic fs k, h.arithmetic fs k, r.arithmetic fs k w);
    }

pub inside-limits : (of : Layout) (at : ℕ) (m : Meaning) (as_ : List Alternative) (gs : List Function) → IsVector of 1 false → most (map (O.inside_arithmetic m) as_) ≤ 128 → Compared m as_ gs
    → LimitedAt m (max (wide m) (most (map (O.inside_width m) as_))) gs → Limited (O.inside of at m as_) [] gs
unfolding O.inside
inside-limits of at m as_ gs v short r f = record {
  typed = omega (arith, v.result.some, v.result.same, v.four, r.typed, f.typed);
  narrow = omega (arith, v.result.narrow, r.narrow, f.narrow);
  indexing = omega (arith, r.indexing, f.indexing);
  arithmetic = λ fs k w h. omega (arith, short, r.arithmetic fs k w, f.arithmetic fs k);
}
