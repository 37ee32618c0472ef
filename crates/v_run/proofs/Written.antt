-- Writes into vectors that may become longer.
use Rattle.std.proofs.Common.{◌≡◌, ℕ, zero, suc, ◌-◌, ◌<◌, ◌≤◌, ◌&&◌, Bool, true, false, cond, List, [], ◌∷◌, ◌++◌, length, replicate, get_or, refl, arith, ap, sym, ◌∙◌}
use Rattle.std.specs.Prelude.{nat_le, nat_lt}
use Rattle.std.proofs.lemmas.List.{length-append, length-replicate}
use Rattle.std.proofs.lemmas.Bool.Decides.{nat_tests}
use Rattle.b4_core.specs.declared.bit.Bit4.{Bit4}
use Rattle.b4_core.specs.declared.bit.Bit4.TheVariants.{X}
use Rattle.picks.specs.Windows.{Window, within}
use Rattle.eval_store.proofs.Writing.{same-grown}
use Rattle.v_eval.specs.Holding.{slot_of}
use Rattle.v_run.specs.Writes.{new_bit, VectorWritten, SlotWritten, Grown}

pub grows : (old new : List Bit4) (count : ℕ) → new ≡ old ++ replicate (count - length old) X → Grown old count new
grows old new count is = record {
  long = omega (arith, ap length is, length-append old (replicate (count - length old) X), length-replicate (count - length old) X);
  same = λ k. ap (λ xs. get_or xs k X) is ∙ same-grown old (count - length old) k;
}

outside-by : (b : Bool) (low high k : ℕ) → nat_le low k ≡ b → high ≤ low → (b && nat_lt k high) ≡ false
outside-by true low high k is h = grind (arith, nat_tests)
outside-by false low high k is h = refl

-- a window without bits writes nothing
pub none-written : (v : List Bit4) (p : Window) (bits : List Bit4) → p.high ≤ p.low → VectorWritten v v p bits
none-written v p bits h = record { long = refl; now = λ k. sym (ap (λ b. cond b (new_bit p bits k) (get_or v k X)) (outside-by (nat_le p.low k) p.low p.high k refl h)) }

pub in-place : (old new : List Bit4) (p : Window) (bits : List Bit4) → VectorWritten old new p bits → SlotWritten old new p bits
in-place old new p bits w = record { now = w.now; long = λ h. w.long }

pub lengthened : (old grown new : List Bit4) (count : ℕ) (p : Window) (bits : List Bit4) → Grown old count grown → length old < p.high → VectorWritten grown new p bits → SlotWritten old new p bits
lengthened old grown new count p bits g short w = record {
  now = λ k. w.now k ∙ ap (λ b. cond (within p k) (new_bit p bits k) b) (g.same k);
  long = λ h. absurd (omega (arith, h, short));
}

pub ruleset slots = (grows, none-written, in-place, lengthened)

-- an empty slot more
pub slot-more : (old : List (List Bit4)) (m : ℕ) → slot_of (old ++ [] ∷ []) m ≡ slot_of old m
slot-more [] zero = refl
slot-more [] (suc m) = refl
slot-more (x ∷ old) zero = refl
slot-more (x ∷ old) (suc m) = slot-more old m

pub slot-next : (old now new : List (List Bit4)) (x : List Bit4) → new ≡ now ++ x ∷ [] → x ≡ [] → ((m : ℕ) → slot_of now m ≡ slot_of old m) → (m : ℕ) → slot_of new m ≡ slot_of old m
slot-next old now new x is none same m = ap (λ xs. slot_of xs m) (is ∙ ap (λ y. now ++ y ∷ []) none) ∙ slot-more now m ∙ same m

pub ruleset further = (slot-next)
