-- A part-select by a known index narrows what is read.
use Rattle.std.proofs.Common.{◌≡◌, ℕ, ◌*◌, ◌≤◌, max, min, Bool, true, false, cond, ℤ, ◌+ℤ◌, ◌*ℤ◌, pos, length, Option, Some, None, arith, ap, sym, ◌∙◌, subst}
use Rattle.std.specs.Prelude.{nat_lt}
use Rattle.picks.specs.Windows.{Window, nowhere, part, at_least_0}
use Rattle.sv_types.specs.declared.types.SvType.{SvType}
use Rattle.sv_types.specs.Layouts.{Layout, layout}
use Rattle.sv_types.specs.Windows.{slide, rank, lowest_index}
use Rattle.lowering_laws.proofs.WriteAt.{IsTight, nowhere-tight, part-tight}
use Rattle.eval_parts.specs.Places.{window_of}
use Rattle.path_flatten.specs.declared.readings.Reading.{Reading}
use Rattle.path_flatten.proofs.Sees.{sees-slide}
use Rattle.path_flatten.proofs.Stepping.{reads-step}
use Rattle.path_steps.specs.Sliding.{ReadsKnownSlide}

trimmed-inside : (path : Window) (high : ℕ) (b : Bool) → path.high ≤ high → (cond b path nowhere).high ≤ high
trimmed-inside path high true h = h
trimmed-inside path high false h = omega arith

part-inside : (o : ℤ) (n : ℕ) (path : Window) → (part o n path).high ≤ path.high
part-inside o n path =
    let low = max path.low (at_least_0 (path.shift +ℤ o)) in
    let high = min path.high (at_least_0 ((path.shift +ℤ o) +ℤ pos n)) in
    trimmed-inside (record { shift = path.shift +ℤ o; low = low; high = high }) path.high (nat_lt low high) (omega arith)

-- it doesn't go beyond the upper end
pub slide-inside : (of : Layout) (up : Bool) (n : ℕ) (z : Option ℤ) (path : Window) → (slide of up n z path).high ≤ path.high
slide-inside of up n None path = omega arith
slide-inside of up n (Some k) path = part-inside (rank of (lowest_index of up k n) *ℤ pos (length of.element.two_state)) (n * length of.element.two_state) path

-- each bit in range is one of its bits
slide-stays : (of : Layout) (up : Bool) (n : ℕ) (z : Option ℤ) (path : Window) → IsTight (slide of up n z path) (n * length of.element.two_state)
slide-stays of up n None path = nowhere-tight (n * length of.element.two_state)
slide-stays of up n (Some k) path = part-tight (rank of (lowest_index of up k n) *ℤ pos (length of.element.two_state)) (n * length of.element.two_state) path

pub slide-reads : (old r : Reading) (t : SvType) (up : Bool) (n : ℕ) (z : Option ℤ) → r.root ≡ old.root → r.width ≡ old.width
    → window_of r.window ≡ slide (layout t) up n z (window_of old.window) → ReadsKnownSlide old t up n z r
slide-reads old r t up n z root width window e from a sc v of is wide reads =
    let same : window_of r.window ≡ slide from.of up n z (window_of old.window) = window ∙ ap (λ (l : Layout). slide l up n z (window_of old.window)) (sym of) in
    reads-step old r e from a sc v (slide from.of up n z) root width same is
    (λ held c p q h. sees-slide held c p q from.of up n z h)
    (subst (IsTight (slide from.of up n z (window_of old.window))) (sym wide) (slide-stays from.of up n z (window_of old.window)))
    (slide-inside from.of up n z (window_of old.window)) reads
