-- Windows without a bit, and how many bits a typed path has.
use Rattle.std.proofs.Common.{◌≡◌, ℕ, ◌*◌, ◌<◌, ◌≤◌, max, min, Bool, true, false, ◌&&◌, cond, ℤ, pos, negsuc, ◌+ℤ◌, ◌-ℤ◌, ◌*ℤ◌, List, length, Option, Some, None, refl, arith, ap, sym, ◌∙◌, subst, true≢false}
use Rattle.std.specs.Prelude.{nat_le, nat_lt, int_le, int_lt}
use Rattle.std.proofs.lemmas.Bool.Decides.{nat_tests}
use Rattle.picks.specs.Windows.{Window, nowhere, part, within, picked, at_least_0}
use Rattle.sv_types.specs.declared.expression.Expr.{Expr}
use Rattle.sv_types.specs.declared.types.SvType.{SvType}
use Rattle.sv_types.specs.Layouts.{Layout, Part, count_of}
use Rattle.sv_types.specs.Windows.{member_of, element_of, elements, rank, between, slide, lowest_index}
use Rattle.sv_types.specs.Surroundings.{Around}
use Rattle.sv_types.specs.Meanings as S
use Rattle.sv_types.specs.Paths as P
use Rattle.sv_types.specs.Expressions.{meaning}
use Rattle.sv_types.proofs.Heads.{heads}
use Rattle.sv_types.proofs.Widths.{has-bits}
use Rattle.sv_types.proofs.Picks.{pick}
use Rattle.eval_parts.proofs.Selecting.{same-Signal, same-Local, same-Member, same-Index, same-Part, same-Slide}
use Rattle.lowering_laws.proofs.Wholes.{IsWhole, type-whole, member-typed, index-typed, sliding-typed}
use Rattle.lowering_laws.proofs.WriteAt.{IsTight, whole-tight, nowhere-tight, part-tight, tight-picked}
use Rattle.target_laws.proofs.Filling.{member-tight, element-stays}
use Rattle.typed_paths.specs.Typed.{Indexing, IsTypedPath, of_signal, of_local, of_member, of_index, of_part, of_slide}
use Rattle.filled_paths.specs.Filling.{IsEmpty}

pub empty-nowhere : IsEmpty nowhere
empty-nowhere b = grind (arith, nat_tests)

within-false : (low high b : ℕ) → (nat_le low b && nat_lt b high) ≡ false → (x y : ℕ) → (nat_le (max low x) b && nat_lt b (min high y)) ≡ false
within-false low high b h x y = by (nat_le (max low x) b && nat_lt b (min high y)) refl
  where
    by : (c : Bool) → (nat_le (max low x) b && nat_lt b (min high y)) ≡ c → (nat_le (max low x) b && nat_lt b (min high y)) ≡ false
    by false is = is
    by true is = absurd (true≢false (sym (inside is) ∙ h))
      where
        inside : (nat_le (max low x) b && nat_lt b (min high y)) ≡ true → (nat_le low b && nat_lt b high) ≡ true
        inside g = grind (arith, nat_tests)

empty-cond : (c : Bool) (r : Window) → IsEmpty r → IsEmpty (cond c r nowhere)
empty-cond true r h = h
empty-cond false r h = empty-nowhere

pub empty-part : (o : ℤ) (w : ℕ) (path : Window) → IsEmpty path → IsEmpty (part o w path)
empty-part o w path h =
    empty-cond (nat_lt (max path.low (at_least_0 (path.shift +ℤ o))) (min path.high (at_least_0 (path.shift +ℤ o +ℤ pos w))))
    (record { shift = path.shift +ℤ o; low = max path.low (at_least_0 (path.shift +ℤ o)); high = min path.high (at_least_0 (path.shift +ℤ o +ℤ pos w)) })
    (λ b. within-false path.low path.high b (h b) (at_least_0 (path.shift +ℤ o)) (at_least_0 (path.shift +ℤ o +ℤ pos w)))

-- it names none of the bits of a path
pick-none : (path : Window) → IsEmpty path → (k : ℤ) → pick path.low path.high k ≡ None
pick-none path h (pos b) = ap (λ c. cond c (Some b) None) (h b)
pick-none path h (negsuc b) = refl

pub empty-picks : (path : Window) → IsEmpty path → (j : ℕ) → picked path j ≡ None
empty-picks path h j = pick-none path h (pos j +ℤ path.shift)

-- a window that names none of its bits
pub tight-empty : (path : Window) (n : ℕ) → IsTight path n → ((j : ℕ) → j < n → picked path j ≡ None) → IsEmpty path
tight-empty path n tight none b = by (within path b) refl
  where
    none-some : (x : ℕ) → Some x ≡ None → ⊥
    none-some x e = cc

    by : (c : Bool) → within path b ≡ c → within path b ≡ false
    by false is = is
    by true is = absurd (none-some b (sym (tight-picked path n b tight is) ∙ none (at_least_0 (pos b -ℤ path.shift)) (tight.below b is)))

-- steps from one
pub empty-member : (p : Option Part) (path : Window) → IsEmpty path → IsEmpty (member_of p path)
empty-member None path h = empty-nowhere
empty-member (Some m) path h = empty-part (pos m.below) (length m.two_state) path h

pub empty-element : (of : Layout) (z : Option ℤ) (path : Window) → IsEmpty path → IsEmpty (element_of of z path)
empty-element of None path h = empty-nowhere
empty-element of (Some k) path h =
    empty-cond (int_le (pos 0) (rank of k) && int_lt (rank of k) (pos (count_of of.left of.right))) (elements of (rank of k) 1 path)
    (empty-part (rank of k *ℤ pos (length of.element.two_state)) (1 * length of.element.two_state) path h)

pub empty-slide : (of : Layout) (up : Bool) (n : ℕ) (z : Option ℤ) (path : Window) → IsEmpty path → IsEmpty (slide of up n z path)
empty-slide of up n None path h = empty-nowhere
empty-slide of up n (Some k) path h = empty-part (rank of (lowest_index of up k n) *ℤ pos (length of.element.two_state)) (n * length of.element.two_state) path h

pub empty-between : (of : Layout) (left right : ℤ) (path : Window) → IsEmpty path → IsEmpty (between of left right path)
empty-between of left right path h = empty-part (rank of right *ℤ pos (length of.element.two_state)) (count_of left right * length of.element.two_state) path h

-- a typed path has no other bits than its own
pub slide-tight : (of : Layout) (up : Bool) (n : ℕ) (z : Option ℤ) (path : Window) → IsTight (slide of up n z path) (n * length of.element.two_state)
slide-tight of up n None path = nowhere-tight (n * length of.element.two_state)
slide-tight of up n (Some k) path = part-tight (rank of (lowest_index of up k n) *ℤ pos (length of.element.two_state)) (n * length of.element.two_state) path

tight-signal : (of : Layout) (at n : ℕ) (a : Around) → IsTight ((P.signal of at n).window a) (S.wide (P.signal of at n))
unfolding P.signal
tight-signal of at n a = whole-tight (length of.two_state)

tight-local : (of : Layout) (at n : ℕ) (a : Around) → IsTight ((P.local of at n).window a) (S.wide (P.local of at n))
unfolding P.local
tight-local of at n a = whole-tight (length of.two_state)

some-part : (x y : Part) → Some x ≡ Some y → x ≡ y
some-part x y f = cc

tight-member : (of : Layout) (at : ℕ) (from : S.Meaning) (k : ℕ) (a : Around) → (P.member of at from k).misfits ≡ 0 → IsTight ((P.member of at from k).window a) (S.wide (P.member of at from k))
unfolding P.member
tight-member of at from k a typed =
    let m = member-typed of at from k typed in
    subst (λ p. IsTight (member_of p (from.window a)) (length of.two_state)) (sym m.there)
    (member-tight (Some m.part) (length of.two_state) (from.window a) (λ p is. m.step.wide ∙ ap (λ (x : Part). length x.two_state) (some-part m.part p is)))

tight-index : (of : Layout) (at : ℕ) (from i : S.Meaning) (a : Around) → (P.index of at from i).misfits ≡ 0 → IsTight ((P.index of at from i).window a) (S.wide (P.index of at from i))
unfolding P.index
tight-index of at from i a typed =
    let t = (index-typed of at from i typed).0 in
    subst (IsTight (element_of from.of (P.index_of i a) (from.window a))) (sym t.wide) (element-stays from.of (P.index_of i a) (from.window a))

tight-part : (of : Layout) (at : ℕ) (from : S.Meaning) (left right : ℤ) (a : Around) → (P.part_select of at from left right).misfits ≡ 0
    → IsTight ((P.part_select of at from left right).window a) (S.wide (P.part_select of at from left right))
unfolding P.part_select P.sliding
tight-part of at from left right a typed =
    let t = (sliding-typed of at from from (count_of left right) true (omega arith)).0 in
    subst (IsTight (between from.of left right (from.window a))) (sym t.wide)
    (part-tight (rank from.of right *ℤ pos (length from.of.element.two_state)) (count_of left right * length from.of.element.two_state) (from.window a))

tight-slide : (of : Layout) (at : ℕ) (from i : S.Meaning) (n : ℕ) (up : Bool) (a : Around) → (P.sliding of at from i n up).misfits ≡ 0
    → IsTight ((P.sliding of at from i n up).window a) (S.wide (P.sliding of at from i n up))
unfolding P.sliding
tight-slide of at from i n up a typed =
    let t = (sliding-typed of at from i n up typed).0 in
    subst (IsTight (slide from.of up n (P.index_of i a) (from.window a))) (sym t.wide) (slide-tight from.of up n (P.index_of i a) (from.window a))

tight-by : (e : Expr) (m : S.Meaning) (a : Around) → meaning e ≡ m → ((m.misfits ≡ 0) → IsTight (m.window a) (S.wide m)) → (meaning e).misfits ≡ 0 → IsTight ((meaning e).window a) (S.wide (meaning e))
tight-by e m a is h typed = subst (λ (x : S.Meaning). IsTight (x.window a) (S.wide x)) (sym is) (h (ap (λ (x : S.Meaning). x.misfits) (sym is) ∙ typed))

pub typed-tight : (number : ℕ) (t : SvType) (e : Expr) (xs : List Indexing) (part : Bool) (a : Around) → IsTypedPath number t e xs part → (meaning e).misfits ≡ 0 → IsTight ((meaning e).window a) (S.wide (meaning e))
typed-tight number t e xs part a (of_signal y n is it of) = tight-by y _ a (same-Signal y n is) (λ h. tight-signal _ _ n a)
typed-tight number t e xs part a (of_local y n is it of) = tight-by y _ a (same-Local y n is) (λ h. tight-local _ _ n a)
typed-tight number t e xs part a (of_member y from k ys is path) = tight-by y _ a (same-Member y from k is) (tight-member _ _ (meaning from) k a)
typed-tight number t e xs part a (of_index y from i ys b is has path) = tight-by y _ a (same-Index y from i is) (tight-index _ _ (meaning from) (meaning i) a)
typed-tight number t e xs part a (of_part y from left right ys b is has bounds path) = tight-by y _ a (same-Part y from left right is) (tight-part _ _ (meaning from) left right a)
typed-tight number t e xs part a (of_slide y from i n up ys b is has bounds path) = tight-by y _ a (same-Slide y from i n up is) (tight-slide _ _ (meaning from) (meaning i) n up a)

-- all of its elements
pub elements-all : (e : Expr) → (meaning e).misfits ≡ 0 → count_of (meaning e).of.left (meaning e).of.right * length (meaning e).of.element.two_state ≡ S.wide (meaning e)
elements-all e typed =
    let some = has-bits e typed in
    let kind = (heads e).kind in
    (subst IsWhole (sym kind) (type-whole e.of (subst (λ (l : Layout). 1 ≤ length l.two_state) kind (omega arith)))).elements
