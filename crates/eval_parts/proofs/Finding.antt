-- Paths that are found, step by step.
use Rattle.std.proofs.Common.{◌≡◌, ℕ, ◌<◌, ◌≤◌, Bool, ℤ, List, length, Option, arith, ap, sym, ◌∙◌, subst}
use Rattle.std.specs.Prelude.{slice_index_or, slice_get}
use Rattle.b4_core.specs.declared.bit.Bit4.{Bit4}
use Rattle.b4_core.specs.declared.bit.Bit4.TheVariants.{X}
use Rattle.sv_types.specs.Layouts.{Layout}
use Rattle.sv_types.specs.Windows.{Window, whole, member_of, element_of, between, slide}
use Rattle.sv_types.specs.Surroundings.{Around, local_number}
use Rattle.sv_types.specs.Meanings.{Meaning}
use Rattle.sv_types.specs.Paths as P
use Rattle.eval_parts.specs.declared.paths.Found.{Found}
use Rattle.eval_parts.specs.declared.paths.Root.TheVariants as R
use Rattle.eval_parts.specs.Places.{IsFound, IsNear, window_of, bit_of, number_of}
use Rattle.eval_parts.proofs.Seen.{index-vector, member-high, element-high, between-high, slide-high}

pub found-signal : (of : Layout) (at n : ℕ) (a : Around) (f : Found) → f.root ≡ R.Signal n → window_of f.window ≡ whole (length of.two_state) → IsNear f.window.shift → IsFound f (P.signal of at n) a
unfolding P.signal
found-signal of at n a f root window near = record {
  root = sym (ap number_of root);
  window = sym window;
  bits = λ k h. index-vector a.now n (length of.two_state) k (subst (λ (p : Window). k < p.high) window h) ∙ ap (λ r. bit_of r a.now k) (sym root);
  near = near;
}

pub found-local : (of : Layout) (at n : ℕ) (a : Around) (f : Found) → f.root ≡ R.Local n → window_of f.window ≡ whole (length of.two_state) → IsNear f.window.shift → IsFound f (P.local of at n) a
unfolding P.local
found-local of at n a f root window near = record {
  root = sym (ap number_of root);
  window = sym window;
  bits = λ k h. index-vector a.now (local_number n) (length of.two_state) k (subst (λ (p : Window). k < p.high) window h) ∙ ap (λ r. bit_of r a.now k) (sym root);
  near = near;
}

-- a step that reaches no higher
found-step : (step : Window → Window) (fm f : Found) (base : List Bit4) (root : Option ℕ) (window : Window) (a : Around) → root ≡ number_of fm.root → window ≡ window_of fm.window
    → ((k : ℕ) → k < fm.window.high → slice_index_or base k X ≡ bit_of fm.root a.now k) → f.root ≡ fm.root → window_of f.window ≡ step (window_of fm.window)
    → (step (window_of fm.window)).high ≤ fm.window.high → (root ≡ number_of f.root) × ((step window ≡ window_of f.window) × ((k : ℕ) → k < f.window.high → slice_index_or base k X ≡ bit_of f.root a.now k))
found-step step fm f base root window a is lies bits same next low = (
  is ∙ ap number_of (sym same),
  (
    ap step lies ∙ sym next,
    λ k h. let g : k < (step (window_of fm.window)).high = subst (λ (p : Window). k < p.high) next h in bits k (omega arith) ∙ ap (λ r. bit_of r a.now k) (sym same),
  ),
)

pub found-member : (of : Layout) (at : ℕ) (m : Meaning) (k : ℕ) (a : Around) (fm f : Found) → IsFound fm m a → f.root ≡ fm.root → window_of f.window ≡ member_of (slice_get m.of.members k) (window_of fm.window) → IsNear f.window.shift
    → IsFound f (P.member of at m k) a
unfolding P.member
found-member of at m k a fm f found same next near =
    let s = found-step (member_of (slice_get m.of.members k)) fm f (m.base a) m.root (m.window a) a found.root found.window found.bits same next (member-high (slice_get m.of.members k) (window_of fm.window)) in
    record { root = s.0; window = s.1.0; bits = s.1.1; near = near }

pub found-part_select : (of : Layout) (at : ℕ) (m : Meaning) (left right : ℤ) (a : Around) (fm f : Found) → IsFound fm m a → f.root ≡ fm.root → window_of f.window ≡ between m.of left right (window_of fm.window) → IsNear f.window.shift
    → IsFound f (P.part_select of at m left right) a
unfolding P.part_select
found-part_select of at m left right a fm f found same next near =
    let s = found-step (between m.of left right) fm f (m.base a) m.root (m.window a) a found.root found.window found.bits same next (between-high m.of left right (window_of fm.window)) in
    record { root = s.0; window = s.1.0; bits = s.1.1; near = near }

pub found-index : (of : Layout) (at : ℕ) (m i : Meaning) (a : Around) (fm f : Found) → IsFound fm m a → f.root ≡ fm.root → window_of f.window ≡ element_of m.of (P.index_of i a) (window_of fm.window) → IsNear f.window.shift
    → IsFound f (P.index of at m i) a
unfolding P.index
found-index of at m i a fm f found same next near =
    let s = found-step (element_of m.of (P.index_of i a)) fm f (m.base a) m.root (m.window a) a found.root found.window found.bits same next (element-high m.of (P.index_of i a) (window_of fm.window)) in
    record { root = s.0; window = s.1.0; bits = s.1.1; near = near }

pub found-sliding : (of : Layout) (at : ℕ) (m i : Meaning) (n : ℕ) (up : Bool) (a : Around) (fm f : Found) → IsFound fm m a → f.root ≡ fm.root → window_of f.window ≡ slide m.of up n (P.index_of i a) (window_of fm.window) → IsNear f.window.shift
    → IsFound f (P.sliding of at m i n up) a
unfolding P.sliding
found-sliding of at m i n up a fm f found same next near =
    let s = found-step (slide m.of up n (P.index_of i a)) fm f (m.base a) m.root (m.window a) a found.root found.window found.bits same next (slide-high m.of up n (P.index_of i a) (window_of fm.window)) in
    record { root = s.0; window = s.1.0; bits = s.1.1; near = near }
