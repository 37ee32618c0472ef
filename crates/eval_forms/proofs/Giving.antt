-- What is given to targets, from values at the larger width.
use Rattle.std.proofs.Common.{◌≡◌, ℕ, zero, suc, ◌+◌, ◌-◌, ◌<◌, ◌≤◌, ◌==◌, ◌&&◌, max, Bool, true, false, cond, List, [], ◌∷◌, ◌++◌, length, take, drop, replicate, map, refl, arith, ap, sym, ◌∙◌, subst}
use Rattle.std.proofs.lemmas.List.{length-drop, length-take, length-append, take_all}
use Rattle.std.proofs.lemmas.Bool.Decides.{nat_tests}
use Rattle.std.proofs.Math.Seq.{take-append_seam}
use Rattle.b4_core.specs.declared.bit.Bit4.{Bit4}
use Rattle.b4_core.specs.declared.bit.Bit4.TheVariants.{Zero}
use Rattle.b4_core.specs.Vectors.{ext}
use Rattle.sv_types.specs.declared.expression.Expr.{Expr}
use Rattle.sv_types.specs.declared.expression.Form.TheVariants as V
use Rattle.sv_types.specs.Layouts.{Layout, layout, stacked}
use Rattle.sv_types.specs.Surroundings.{Around}
use Rattle.sv_types.specs.Meanings.{Meaning, wide, signed, alone, misfit, same_sign}
use Rattle.sv_types.specs.Operators as O
use Rattle.sv_types.specs.Operators.{slices, streamed, joined, width_of_all}
use Rattle.sv_types.specs.Expressions.{meaning}
use Rattle.sv_types.proofs.ValueLengths.{length-value}
use Rattle.eval_parts.specs.Streams.{IsCut}
use Rattle.eval_parts.proofs.Streams.{no-slices}
use Rattle.eval_parts.proofs.Streaming.{same-Stream}
use Rattle.eval_forms.specs.Assigned.{GivenBy}

-- slices are all of a vector
slices-keep : (steps n : ℕ) (v : List Bit4) → 0 < n → length v ≤ steps → length (stacked (slices steps n v)) ≡ length v
slices-keep zero n [] some h = refl
slices-keep zero n (b ∷ v) some h = absurd (omega arith)
slices-keep (suc steps) n [] some h = refl
slices-keep (suc steps) n (b ∷ v) some h =
    let rest = drop n (b ∷ v) in
    let less : length rest ≤ steps = omega (arith, length-drop n (b ∷ v)) in
    omega (arith, length-append (stacked (slices steps n rest)) (take n (b ∷ v)), slices-keep steps n rest some less, length-drop n (b ∷ v), length-take n (b ∷ v))

some-by : (n : ℕ) → (n == 0) ≡ false → 0 < n
some-by n is = grind (arith, nat_tests)

none-by : (n : ℕ) → (n == 0) ≡ true → n ≡ 0
none-by n is = grind (arith, nat_tests)

-- the bits of a stream stand at the low end of its value
at-low-end : (w c : ℕ) (v : List Bit4) → length v ≡ w → w ≤ c → take w (ext c false v) ≡ v
at-low-end w c v long low =
    ap (λ u. take w (u ++ replicate (c - length v) Zero)) (take_all c v (omega arith)) ∙ ap (λ n. take n (v ++ replicate (c - length v) Zero)) (sym long) ∙ take-append_seam v (replicate (c - length v) Zero)

stream-low : (reversed : Bool) (slice w c : ℕ) (v : List Bit4) → length v ≡ w → w ≤ c
    → cond (reversed && (slice == 0)) [] (take w (ext c false (streamed reversed slice v))) ≡ streamed reversed slice v
stream-low false slice w c v long low = at-low-end w c v long low
stream-low true slice w c v long low = reversed-low (slice == 0) refl
  where
    reversed-low : (b : Bool) → (slice == 0) ≡ b → cond (slice == 0) [] (take w (ext c false (streamed true slice v))) ≡ streamed true slice v
    reversed-low true is =
        ap (λ (q : Bool). cond q [] (take w (ext c false (streamed true slice v)))) is ∙ sym (no-slices v) ∙ ap (λ n. streamed true n v) (sym (none-by slice is))
    reversed-low false is =
        ap (λ (q : Bool). cond q [] (take w (ext c false (streamed true slice v)))) is
        ∙ at-low-end w c (streamed true slice v) (slices-keep (length v) slice v (some-by slice is) (omega arith) ∙ long) low

-- the type of a stream has its width
width-by : (b c : Bool) (n w : ℕ) → (n == w) ≡ b → cond {A = ℕ} (b && c) 0 1 ≡ 0 → n ≡ w
width-by true c n w is h = grind (arith, nat_tests)
width-by false c n w is h = absurd (omega arith)

misfit-width : (of : Layout) (w : ℕ) (s : Bool) → misfit of w s ≡ 0 → length of.two_state ≡ w
misfit-width of w s h = width-by (length of.two_state == w) (same_sign of.signed s) (length of.two_state) w refl h

stream-wide-in : (of : Layout) (at : ℕ) (reversed : Bool) (n : ℕ) (ms : List Meaning) → (O.stream of at reversed n ms).misfits ≡ 0 → wide (O.stream of at reversed n ms) ≡ width_of_all ms
unfolding O.stream
stream-wide-in of at reversed n ms h = misfit-width of (width_of_all ms) false (omega arith)

all-long : (es : List Expr) (a : Around) → length (joined (map meaning es) a) ≡ width_of_all (map meaning es)
all-long [] a = refl
all-long (e ∷ es) a =
    omega (arith, length-append (joined (map meaning es) a) (alone (meaning e) a), all-long es a, length-value e (wide (meaning e)) (signed (meaning e)) a)

given-in : (of : Layout) (at : ℕ) (reversed : Bool) (slice : ℕ) (es : List Expr) (n total : ℕ) (v bits r : List Bit4)
    → (O.stream of at reversed slice (map meaning es)).misfits ≡ 0 → total ≡ wide (O.stream of at reversed slice (map meaning es)) → bits ≡ cond (reversed && (slice == 0)) [] (take total v)
    → r ≡ replicate (n - total) Zero ++ drop (total - n) bits → GivenBy (O.stream of at reversed slice (map meaning es)) n v r
unfolding O.stream
given-in of at reversed slice es n total v bits r typed own low made = record {
  value = λ a h.
      let ms = map meaning es in
      let w = width_of_all ms in
      let same : total ≡ w = own ∙ misfit-width of w false (omega arith) in
      let c = max n (length of.two_state) in
      let st = streamed reversed slice (joined ms a) in
      let fits : w ≤ c = omega (arith, same, own) in
      let is : bits ≡ st = low ∙ ap (λ u. cond (reversed && (slice == 0)) [] (take total u)) h ∙ ap (λ k. cond (reversed && (slice == 0)) [] (take k (ext c false st))) same
      ∙ stream-low reversed slice w c (joined ms a) (all-long es a) fits in
      made ∙ ap (λ k. replicate (n - k) Zero ++ drop (k - n) bits) same ∙ ap (λ u. replicate (n - w) Zero ++ drop (w - n) u) is;
}

pub given-stream : (e : Expr) (reversed : Bool) (slice : ℕ) (es : List Expr) (n total : ℕ) (v bits r : List Bit4) → e.form ≡ V.Stream reversed slice es → (meaning e).misfits ≡ 0 → total ≡ wide (meaning e)
    → bits ≡ cond (reversed && (slice == 0)) [] (take total v) → r ≡ replicate (n - total) Zero ++ drop (total - n) bits → GivenBy (meaning e) n v r
given-stream e reversed slice es n total v bits r is typed own low made =
    let same = same-Stream e reversed slice es is in
    subst (λ m. GivenBy m n v r) (sym same)
    (given-in (layout e.of) e.spot.at reversed slice es n total v bits r (subst (λ (m : Meaning). m.misfits ≡ 0) same typed) (own ∙ ap wide same) low made)

-- anything else is cut
pub given-cut : (m : Meaning) (n : ℕ) (v r : List Bit4) → IsCut m → r ≡ take n v → GivenBy m n v r
given-cut m n v r cut made = record { value = λ a h. made ∙ ap (take n) h ∙ sym (cut.given n a) }
