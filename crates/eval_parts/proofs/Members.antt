-- Members of structs and unions.
use Rattle.std.proofs.Common.{◌≡◌, ℕ, zero, suc, ◌+◌, ◌-◌, ◌<◌, ◌≤◌, Bool, true, false, cond, pos, List, [], ◌∷◌, length, map, take, drop, get_or, Some, None, refl, arith, length-append, ap, sym, ◌∙◌}
use Rattle.std.specs.Prelude.{slice_get, nat_lt}
use Rattle.std.proofs.Math.Seq.{drop-cons}
use Rattle.std.proofs.Math.Numerals.{add-one}
use Rattle.std.proofs.lemmas.List.{take_all, length-drop}
use Rattle.std.proofs.lemmas.Option.{slice_get_past}
use Rattle.std.proofs.lemmas.Bool.Decides.{nat_tests}
use Rattle.sv_types.specs.declared.types.Member.{Member}
use Rattle.sv_types.specs.Layouts.{Layout, member_layout, width_of, stacked_marks, widest_marks, above_the_next, at_the_bottom}
use Rattle.sv_types.specs.Windows.{Window, nowhere, part, member_of}
use Rattle.sv_types.proofs.Components.{member-layout}
use Rattle.sv_types.proofs.Lengths.{layout-Scalar, layout-PackedArray, layout-Struct, layout-Union, layout-Enum, layout-UnpackedArray, width-Struct, width-Union}

abbrev pub total_of : List Member → ℕ
total_of ms = length (stacked_marks (map member_layout ms))

abbrev pub widest_of : List Member → ℕ
widest_of ms = length (widest_marks (map member_layout ms))

member-width : (m : Member) → length (member_layout m).two_state ≡ width_of m.of
member-width m = ap (λ (l : Layout). length l.two_state) (member-layout m)

total-cons : (m : Member) (ms : List Member) → total_of (m ∷ ms) ≡ total_of ms + width_of m.of
total-cons m ms = length-append (stacked_marks (map member_layout ms)) (member_layout m).two_state ∙ ap (λ w. total_of ms + w) (member-width m)

at-front : {A : Type 0} (xs : List A) (i : ℕ) (x : A) → i < length xs → x ≡ get_or xs i x → drop i xs ≡ x ∷ drop (i + 1) xs
at-front xs i x h is = drop-cons xs i x h ∙ ap (λ y. y ∷ drop (suc i) xs) (sym is) ∙ ap (λ k. x ∷ drop k xs) (sym (add-one i))

pub total-next : (ms : List Member) (i : ℕ) (m : Member) → i < length ms → m ≡ get_or ms i m → total_of (drop i ms) ≡ total_of (drop (i + 1) ms) + width_of m.of
total-next ms i m h is = ap total_of (at-front ms i m h is) ∙ total-cons m (drop (i + 1) ms)

pub total-none : (ms : List Member) (i : ℕ) → length ms ≤ i → total_of (drop i ms) ≡ 0
total-none [] i h = ap total_of (drop-none i)
  where
    drop-none : (i : ℕ) → drop {A = Member} i [] ≡ []
    drop-none zero = refl
    drop-none (suc i) = refl
total-none (m ∷ ms) zero h = absurd (omega arith)
total-none (m ∷ ms) (suc i) h = total-none ms i (omega arith)

total-drop : (ms : List Member) (i : ℕ) → total_of (drop i ms) ≤ total_of ms
total-drop [] zero = omega arith
total-drop [] (suc i) = omega arith
total-drop (m ∷ ms) zero = omega arith
total-drop (m ∷ ms) (suc i) = let h = total-drop ms i in let e = total-cons m ms in omega arith

pub ruleset totals = (total-next, total-none)

above-get : (ms : List Member) (k : ℕ) (m : Member) → k < length ms → m ≡ get_or ms k m
    → slice_get (above_the_next (map member_layout ms)) k ≡ Some (record { below = total_of (drop (k + 1) ms); two_state = (member_layout m).two_state; signed = (member_layout m).signed })
above-get [] k m h is = absurd (omega arith)
above-get (x ∷ ms) zero m h is =
    ap (λ (y : Member). Some (record { below = total_of ms; two_state = (member_layout y).two_state; signed = (member_layout y).signed })) (sym is)
above-get (x ∷ ms) (suc k) m h is =
    let e : suc (k + 1) ≡ suc k + 1 = omega arith in
    above-get ms k m (omega arith) is ∙ ap (λ j. Some (record { below = total_of (drop j (x ∷ ms)); two_state = (member_layout m).two_state; signed = (member_layout m).signed })) e

above-none : (ms : List Member) (k : ℕ) → length ms ≤ k → slice_get (above_the_next (map member_layout ms)) k ≡ None
above-none [] k h = slice_get_past [] k (omega arith)
above-none (x ∷ ms) zero h = absurd (omega arith)
above-none (x ∷ ms) (suc k) h = above-none ms k (omega arith)

pub struct-part : (ms : List Member) (k below w : ℕ) (m : Member) (path : Window) → k < length ms → m ≡ get_or ms k m → below ≡ total_of (drop (k + 1) ms) → w ≡ width_of m.of
    → part (pos below) w path ≡ member_of (slice_get (above_the_next (map member_layout ms)) k) path
struct-part ms k below w m path h is under wide =
    ap (λ b. part (pos b) w path) under ∙ ap (λ n. part (pos (total_of (drop (k + 1) ms))) n path) (wide ∙ sym (member-width m)) ∙ ap (λ p. member_of p path) (sym (above-get ms k m h is))

pub struct-none : (ms : List Member) (k : ℕ) (path : Window) → length ms ≤ k → nowhere ≡ member_of (slice_get (above_the_next (map member_layout ms)) k) path
struct-none ms k path h = ap (λ p. member_of p path) (sym (above-none ms k h))

pub struct-narrow : (ms : List Member) (k : ℕ) (m : Member) → k < length ms → m ≡ get_or ms k m → width_of m.of ≤ total_of ms
struct-narrow ms k m h is = let a = total-next ms k m h is in let b = total-drop ms k in omega arith

-- the rest of a list as a slice of it
pub rest-of : {A : Type 0} (xs : List A) (k : ℕ) → take (length xs - k) (drop k xs) ≡ drop k xs
rest-of xs k = take_all (length xs - k) (drop k xs) (omega (arith, length-drop k xs))

pub behind-narrow : (ms : List Member) (k : ℕ) → total_of (drop k ms) ≤ total_of ms
behind-narrow = total-drop

pub ruleset structs = (struct-none, struct-narrow)

bottom-get : (ms : List Member) (k : ℕ) (m : Member) → k < length ms → m ≡ get_or ms k m → slice_get (map at_the_bottom (map member_layout ms)) k ≡ Some (at_the_bottom (member_layout m))
bottom-get [] k m h is = absurd (omega arith)
bottom-get (x ∷ ms) zero m h is = ap (λ (y : Member). Some (at_the_bottom (member_layout y))) (sym is)
bottom-get (x ∷ ms) (suc k) m h is = bottom-get ms k m (omega arith) is

bottom-none : (ms : List Member) (k : ℕ) → length ms ≤ k → slice_get (map at_the_bottom (map member_layout ms)) k ≡ None
bottom-none [] k h = slice_get_past [] k (omega arith)
bottom-none (x ∷ ms) zero h = absurd (omega arith)
bottom-none (x ∷ ms) (suc k) h = bottom-none ms k (omega arith)

pub union-part : (ms : List Member) (k w : ℕ) (m : Member) (path : Window) → k < length ms → m ≡ get_or ms k m → w ≡ width_of m.of
    → part (pos 0) w path ≡ member_of (slice_get (map at_the_bottom (map member_layout ms)) k) path
union-part ms k w m path h is wide = ap (λ n. part (pos 0) n path) (wide ∙ sym (member-width m)) ∙ ap (λ p. member_of p path) (sym (bottom-get ms k m h is))

pub union-none : (ms : List Member) (k : ℕ) (path : Window) → length ms ≤ k → nowhere ≡ member_of (slice_get (map at_the_bottom (map member_layout ms)) k) path
union-none ms k path h = ap (λ p. member_of p path) (sym (bottom-none ms k h))

wider-by : (b : Bool) (xs ys : List Bool) → nat_lt (length xs) (length ys) ≡ b → (length xs ≤ length (cond b ys xs)) × (length ys ≤ length (cond b ys xs))
wider-by true xs ys is = (grind (arith, nat_tests), omega arith)
wider-by false xs ys is = (omega arith, grind (arith, nat_tests))

pub union-narrow : (ms : List Member) (k : ℕ) (m : Member) → k < length ms → m ≡ get_or ms k m → width_of m.of ≤ widest_of ms
union-narrow [] k m h is = absurd (omega arith)
union-narrow (x ∷ ms) zero m h is =
    let w = wider-by _ (member_layout x).two_state (widest_marks (map member_layout ms)) refl in
    let e : width_of m.of ≡ length (member_layout x).two_state = sym (member-width m) ∙ ap (λ (y : Member). length (member_layout y).two_state) is in
    omega (arith, w.0)
union-narrow (x ∷ ms) (suc k) m h is =
    let w = wider-by _ (member_layout x).two_state (widest_marks (map member_layout ms)) refl in
    let r = union-narrow ms k m (omega arith) is in
    omega (arith, w.1)

pub ruleset unions = (union-none, union-narrow)

pub ruleset kinds = (layout-Scalar, layout-PackedArray, layout-Struct, layout-Union, layout-Enum, layout-UnpackedArray, width-Struct, width-Union)
