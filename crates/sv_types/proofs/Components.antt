-- Members and elements are parts of the vector of the whole.
use Rattle.std.proofs.Common.{◌≡◌, ℕ, zero, suc, ◌+◌, ◌*◌, ◌≤◌, List, [], ◌∷◌, ◌++◌, length, map, take, drop, Some, refl, arith, rules, ap, sym, ◌∙◌, subst, length-append}
use Rattle.std.specs.Prelude.{slice_get}
use Rattle.std.specs.List.{AllZip}
use Rattle.std.proofs.Math.Nat.{suc-mul}
use Rattle.std.proofs.Math.Seq.{drop-append_seam, take-length}
use Rattle.b4_core.specs.declared.bit.Bit4.{Bit4}
use Rattle.sv_types.specs.declared.types.Member.{Member}
use Rattle.sv_types.specs.declared.types.SvType.{the_lemmas}
use Rattle.sv_types.specs.declared.types.Value.{Value}
use Rattle.sv_types.specs.Layouts.{Layout, Part, layout, member_layout, stacked, stacked_marks, above_the_next}
use Rattle.sv_types.specs.Values.{bits}
use Rattle.sv_types.specs.Laws.{FitsMember, EachIsWide}

pub member-layout : (m : Member) → member_layout m ≡ layout m.of
member-layout m = search (rules, the_lemmas)

-- a part that lies in the lower one of two stacked vectors
lower-part : (o w : ℕ) (s x : List Bit4) → o + w ≤ length s → take w (drop o (s ++ x)) ≡ take w (drop o s)
lower-part zero zero s x h = refl
lower-part zero (suc w) [] x h = absurd (omega arith)
lower-part zero (suc w) (b ∷ s) x h = ap (λ v. b ∷ v) (lower-part zero w s x (omega arith))
lower-part (suc o) w [] x h = absurd (omega arith)
lower-part (suc o) w (b ∷ s) x h = lower-part o w s x (omega arith)

upper-part : (s x : List Bit4) → take (length x) (drop (length s) (s ++ x)) ≡ x
upper-part s x = ap (take (length x)) (drop-append_seam s x) ∙ take-length x

-- as many bits as the members say
pub same-total : (ms : List Member) (vs : List Value) → AllZip FitsMember ms vs → length (stacked_marks (map member_layout ms)) ≡ length (stacked (map bits vs))
same-total [] [] h = refl
same-total [] (v ∷ vs) h = elim h [ ]
same-total (m ∷ ms) [] h = elim h [ ]
same-total (m ∷ ms) (v ∷ vs) h =
    let one : length (member_layout m).two_state ≡ length (bits v) = ap (λ (l : Layout). length l.two_state) (member-layout m) ∙ sym h.0 in
    length-append (stacked_marks (map member_layout ms)) (member_layout m).two_state
    ∙ omega (arith, one, same-total ms vs h.1, length-append (stacked (map bits vs)) (bits v))

-- how many bits lie below component k
abbrev pub under : List Value → ℕ → ℕ
under vs k = length (stacked (map bits (drop (suc k) vs)))

-- where member k lies, and what lies there
pub record Component (p : Part) (under : ℕ) (whole v : List Bit4) : Type 0 where
  pub lies : p.below ≡ under
  pub width : length p.two_state ≡ length v
  pub inside : p.below + length v ≤ length whole
  pub there : take (length v) (drop p.below whole) ≡ v

pub member-there : (ms : List Member) (vs : List Value) (k : ℕ) (v : Value) → AllZip FitsMember ms vs → slice_get vs k ≡ Some v
    → (p : Part) × (slice_get (above_the_next (map member_layout ms)) k ≡ Some p) × Component p (under vs k) (stacked (map bits vs)) (bits v)
member-there [] [] k v h is = absurd (cc)
member-there [] (u ∷ vs) k v h is = elim h [ ]
member-there (m ∷ ms) [] k v h is = elim h [ ]
member-there (m ∷ ms) (u ∷ vs) zero v h is =
    let same : u ≡ v = cc in
    let below = stacked (map bits vs) in
    let total = same-total ms vs h.1 in
    let p : Part = record { below = length (stacked_marks (map member_layout ms)); two_state = (member_layout m).two_state; signed = (member_layout m).signed } in (
      p,
      refl,
      subst (λ x. Component p (length below) (below ++ bits u) (bits x)) same (record {
        lies = total;
        width = ap (λ (l : Layout). length l.two_state) (member-layout m) ∙ sym h.0;
        inside = omega (arith, total, length-append below (bits u));
        there = ap (λ n. take (length (bits u)) (drop n (below ++ bits u))) total ∙ upper-part below (bits u);
      }),
    )
member-there (m ∷ ms) (u ∷ vs) (suc k) v h is =
    let found = member-there ms vs k v h.1 is in
    let c = found.2 in (
      found.0,
      found.1,
      record {
        lies = c.lies;
        width = c.width;
        inside = omega (arith, c.inside, length-append (stacked (map bits vs)) (bits u));
        there = lower-part found.0.below (length (bits v)) (stacked (map bits vs)) (bits u) c.inside ∙ c.there;
      },
    )

-- element k of n, each of w bits, has n - 1 - k elements below it
pub record Element (below w under : ℕ) (whole v : List Bit4) : Type 0 where
  pub lies : below * w ≡ under
  pub width : length v ≡ w
  pub inside : below * w + w ≤ length whole
  pub there : take w (drop (below * w) whole) ≡ v

even-total : (w : ℕ) (vs : List Value) → EachIsWide w vs → length (stacked (map bits vs)) ≡ length vs * w
even-total w [] h = omega arith
even-total w (v ∷ vs) h = length-append (stacked (map bits vs)) (bits v) ∙ omega (arith, even-total w vs h.1, h.0, suc-mul (length vs) w)

pub element-there : (w : ℕ) (vs : List Value) (k below : ℕ) (v : Value) → EachIsWide w vs → slice_get vs k ≡ Some v → k + below + 1 ≡ length vs
    → Element below w (under vs k) (stacked (map bits vs)) (bits v)
element-there w [] k below v h is n = absurd (cc)
element-there w (u ∷ vs) zero below v h is n =
    let same : u ≡ v = cc in
    let s = stacked (map bits vs) in
    let b : below ≡ length vs = omega arith in
    let total : below * w ≡ length s = ap (λ j. j * w) b ∙ sym (even-total w vs h.1) in
    subst (λ x. Element below w (length s) (s ++ bits u) (bits x)) same (record {
      lies = total;
      width = h.0;
      inside = omega (arith, total, h.0, length-append s (bits u));
      there =
          ap (λ j. take j (drop (below * w) (s ++ bits u))) (sym h.0) ∙ ap (λ j. take (length (bits u)) (drop j (s ++ bits u))) total ∙ upper-part s (bits u);
    })
element-there w (u ∷ vs) (suc k) below v h is n =
    let e = element-there w vs k below v h.1 is (omega arith) in
    let s = stacked (map bits vs) in
    record {
      lies = e.lies;
      width = e.width;
      inside = omega (arith, e.inside, length-append s (bits u));
      there = lower-part (below * w) w s (bits u) e.inside ∙ e.there;
    }
