-- An index that is too large names nothing, however large it is.
use Rattle.std.proofs.Common.{◌≡◌, ℕ, ◌^◌, ◌≤◌, max, min, Bool, true, false, ◌&&◌, cond, ℤ, pos, negsuc, ◌+ℤ◌, ◌*ℤ◌, ◌≤ℤ◌, ◌<ℤ◌, Option, Some, None, refl, arith, ap, sym, ◌∙◌, subst}
use Rattle.std.specs.Prelude.{nat_le, int_le, int_lt, IfSome}
use Rattle.std.proofs.lemmas.Int.{ints}
use Rattle.std.proofs.lemmas.Bool.Decides.{nat_tests}
use Rattle.picks.specs.Windows.{Window, nowhere, part, at_least_0}
use Rattle.v_tree.specs.declared.expressions.VExtent.{VExtent}
use Rattle.v_tree.specs.declared.expressions.VExtent.TheVariants.{Down, Up}
use Rattle.v_meaning.specs.Selects as T
use Rattle.v_eval.specs.declared.paths.Path.{Path}
use Rattle.v_eval.specs.Indices.{most, clamped}
use Rattle.v_eval.specs.Paths.{path_of, selecting, IsShort}
use Rattle.v_eval.proofs.Near.{trimmed-none}

far-below : (z : ℤ) → z <ℤ pos 0 → at_least_0 z ≡ 0
far-below (pos n) h = absurd (omega (arith, ints))
far-below (negsuc n) h = refl

far-above : (z : ℤ) (n : ℕ) → pos n ≤ℤ z → n ≤ at_least_0 z
far-above (pos m) n h = omega (arith, ints)
far-above (negsuc m) n h = absurd (omega (arith, ints))

abbrev Close : Window → Type 0
Close p = (p.shift ≤ℤ pos (2 ^ 66)) × (negsuc (2 ^ 66) ≤ℤ p.shift) × (p.high ≤ 2 ^ 64)

abbrev raw : ℤ → ℕ → Window → Window
raw o w p = record { shift = p.shift +ℤ o; low = max p.low (at_least_0 (p.shift +ℤ o)); high = min p.high (at_least_0 (p.shift +ℤ o +ℤ pos w)) }

-- a part that begins behind the end
behind : (n w : ℕ) (p : Window) → most ≤ n → negsuc (2 ^ 66) ≤ℤ p.shift → p.high ≤ 2 ^ 64 → part (pos n) w p ≡ nowhere
behind n w p far near high =
    let start : pos (2 ^ 64) ≤ℤ (p.shift +ℤ pos n) = omega (arith, ints, far, near) in
    let low = far-above (p.shift +ℤ pos n) (2 ^ 64) start in
    trimmed-none (raw (pos n) w p) (omega (arith, low, high))

-- a part that ends before the beginning
before : (n w : ℕ) (p : Window) → most ≤ n → p.shift ≤ℤ pos (2 ^ 66) → w ≤ 2 ^ 64 → part (negsuc n) w p ≡ nowhere
before n w p far near wide =
    let end : ((p.shift +ℤ negsuc n) +ℤ pos w) <ℤ pos 0 = omega (arith, ints, far, near, wide) in
    let none = far-below (p.shift +ℤ negsuc n +ℤ pos w) end in
    trimmed-none (raw (negsuc n) w p) (omega (arith, none))

part-by : (b : Bool) (n : ℕ) → nat_le n most ≡ b → (w : ℕ) (p : Window) → p.shift ≤ℤ pos (2 ^ 66) → negsuc (2 ^ 66) ≤ℤ p.shift → p.high ≤ 2 ^ 64 → w ≤ 2 ^ 64
    → (part (pos (min n most)) w p ≡ part (pos n) w p) × (part (negsuc (min n most)) w p ≡ part (negsuc n) w p)
part-by true n is w p above below high wide =
    let e : min n most ≡ n = grind (arith, nat_tests) in (ap (λ k. part (pos k) w p) e, ap (λ k. part (negsuc k) w p) e)
part-by false n is w p above below high wide =
    let far : most ≤ n = grind (arith, nat_tests) in
    let e : most ≤ min n most = omega (arith, far) in (
      behind (min n most) w p e below high ∙ sym (behind n w p far below high),
      before (min n most) w p e above wide ∙ sym (before n w p far above wide),
    )

part-clamped : (k : ℤ) (w : ℕ) (p : Window) → p.shift ≤ℤ pos (2 ^ 66) → negsuc (2 ^ 66) ≤ℤ p.shift → p.high ≤ 2 ^ 64 → w ≤ 2 ^ 64 → part (clamped k) w p ≡ part k w p
part-clamped (pos n) w p above below high wide = (part-by _ n refl w p above below high wide).0
part-clamped (negsuc n) w p above below high wide = (part-by _ n refl w p above below high wide).1

outside : (n count : ℕ) → count ≤ n → (int_le (pos 0) (pos n) && int_lt (pos n) (pos count)) ≡ false
outside n count h = grind (arith, nat_tests)

-- a word of a memory
word-by : (b : Bool) (n count : ℕ) → nat_le n most ≡ b → count ≤ 2 ^ 32 → (p : T.Path) → T.word count (pos (min n most)) p ≡ T.word count (pos n) p
word-by true n count is short p = let e : min n most ≡ n = grind (arith, nat_tests) in ap (λ k. T.word count (pos k) p) e
word-by false n count is short p =
    let far : most ≤ n = grind (arith, nat_tests) in
    let f = outside (min n most) count (omega (arith, far, short)) in
    let g = outside n count (omega (arith, far, short)) in
    ap (λ b. cond {A = Window} b (part (pos (min n most) *ℤ pos p.width) p.width p.window) nowhere) f
    ∙ sym (ap (λ b. cond {A = Window} b (part (pos n *ℤ pos p.width) p.width p.window) nowhere) g)

word-clamped : (k : ℤ) (count : ℕ) → count ≤ 2 ^ 32 → (p : T.Path) → T.word count (clamped k) p ≡ T.word count k p
word-clamped (pos n) count short p = word-by _ n count refl short p
word-clamped (negsuc n) count short p = refl

abbrev pub clamped_base : Option ℤ → Option ℤ
clamped_base None = None
clamped_base (Some k) = Some (clamped k)

lowest-clamped : (e : Option VExtent) (k : ℤ) (w : ℕ) (p : Window) → p.shift ≤ℤ pos (2 ^ 66) → negsuc (2 ^ 66) ≤ℤ p.shift → p.high ≤ 2 ^ 64 → w ≤ 2 ^ 64 → part (T.lowest e (clamped k)) w p ≡ part (T.lowest e k) w p
lowest-clamped None k w p above below high wide = part-clamped k w p above below high wide
lowest-clamped (Some (Down right)) k w p above below high wide = refl
lowest-clamped (Some (Up n)) k w p above below high wide = part-clamped k w p above below high wide

bits-clamped : (d : Option ℕ) (e : Option VExtent) (k : Option ℤ) (p : T.Path) → p.window.shift ≤ℤ pos (2 ^ 66) → negsuc (2 ^ 66) ≤ℤ p.window.shift → p.window.high ≤ 2 ^ 64 → T.taken d e ≤ 2 ^ 64
    → T.bits_at (selecting d e) (clamped_base k) p ≡ T.bits_at (selecting d e) k p
bits-clamped d e None p above below high wide = refl
bits-clamped d e (Some k) p above below high wide =
    ap (λ (w : Window). record { window = w; width = T.taken d e; words = None }) (lowest-clamped e k (T.taken d e) p.window above below high wide)

words-clamped : (count : ℕ) (k : Option ℤ) (p : T.Path) → count ≤ 2 ^ 32 → T.word_at count (clamped_base k) p ≡ T.word_at count k p
words-clamped count None p short = refl
words-clamped count (Some k) p short = ap (λ (w : Window). record { window = w; width = p.width; words = None }) (word-clamped k count short p)

at-bits : (s : T.SelMeaning) (b : Option ℤ) (p : T.Path) → p.words ≡ None → T.select s b p ≡ T.bits_at s b p
at-bits s b p e = ap (λ (o : Option ℕ). elim o [ None ↦ T.bits_at s b p | Some count ↦ T.word_at count b p ]) e

at-word : (s : T.SelMeaning) (b : Option ℤ) (p : T.Path) (count : ℕ) → p.words ≡ Some count → T.select s b p ≡ T.word_at count b p
at-word s b p count e = ap (λ (o : Option ℕ). elim o [ None ↦ T.bits_at s b p | Some n ↦ T.word_at n b p ]) e

near : (q : Path) → IsShort q → negsuc (2 ^ 66) ≤ℤ q.window.shift
near q h = let a = h.near.above in omega (arith, ints, a)

-- a select by an index as the code has it
pub select-clamped : (r q : Path) (d : Option ℕ) (e : Option VExtent) (k : Option ℤ) → path_of r ≡ T.select (selecting d e) (clamped_base k) (path_of q) → IsShort q → IsShort r → path_of r ≡ T.select (selecting d e) k (path_of q)
select-clamped r q d e k is h g = by q.words refl
  where
    by : (o : Option ℕ) → q.words ≡ o → path_of r ≡ T.select (selecting d e) k (path_of q)
    by None none =
        let wide : r.width ≡ T.taken d e = ap (λ (p : T.Path). p.width) (is ∙ at-bits (selecting d e) (clamped_base k) (path_of q) none) in
        is ∙ at-bits (selecting d e) (clamped_base k) (path_of q) none
        ∙ bits-clamped d e k (path_of q) h.near.below (near q h) h.near.high (omega (arith, wide, g.width))
        ∙ sym (at-bits (selecting d e) k (path_of q) none)
    by (Some count) some =
        is ∙ at-word (selecting d e) (clamped_base k) (path_of q) count some
        ∙ words-clamped count k (path_of q) (subst (λ o. IfSome o (λ n. n ≤ 2 ^ 32)) some h.words)
        ∙ sym (at-word (selecting d e) k (path_of q) count some)

pub based : (b : Bool) (n : ℤ) → cond b (Some (clamped n)) None ≡ clamped_base (cond b (Some n) None)
based true n = refl
based false n = refl
