-- Steps of readings.
use Rattle.std.proofs.Common.{◌≡◌, ℕ, ◌*◌, ◌≤◌, max, min, Bool, true, false, ◌&&◌, cond, ℤ, pos, ◌+ℤ◌, ◌*ℤ◌, List, length, Option, Some, None, refl, arith, ap, sym, ◌∙◌, subst}
use Rattle.std.specs.Prelude.{nat_lt, int_le, int_lt, slice_get}
use Rattle.b4_core.specs.declared.bit.Bit4.{Bit4}
use Rattle.b4_core.specs.Vectors.{ext}
use Rattle.row_machine.specs.Valuation.{Valuation}
use Rattle.picks.specs.Windows.{Window, whole, nowhere, part, at_least_0}
use Rattle.sv_types.specs.declared.types.SvType.{SvType}
use Rattle.sv_types.specs.Layouts.{Layout, Part, layout, count_of}
use Rattle.sv_types.specs.Windows.{member_of, element_of, elements, between, rank}
use Rattle.sv_types.specs.Surroundings.{Around}
use Rattle.sv_types.specs.Meanings as S
use Rattle.v_tree.specs.Names.{Name}
use Rattle.v_tree.specs.declared.expressions.VExpr.{VExpr}
use Rattle.v_meaning.specs.Scopes.{Scope}
use Rattle.v_meaning.specs.Values as T
use Rattle.eval_parts.specs.Places.{window_of, IsNear}
use Rattle.lowering_laws.specs.Same.{HasBits}
use Rattle.lowering_laws.specs.Terms.{braced}
use Rattle.lowering_laws.proofs.Contexts.{alone-width, alone-value}
use Rattle.lowering_laws.proofs.WriteAt.{IsTight, nowhere-tight, whole-tight, part-tight}
use Rattle.path_flatten.specs.declared.readings.Root.TheVariants as R
use Rattle.path_flatten.specs.declared.readings.Reading.{Reading}
use Rattle.path_flatten.specs.Reading.{HasRoot, Reads, Sees}
use Rattle.path_flatten.specs.Stepping.{IsSound, IsStep, HasPart, ReadsMember, ReadsElement, ReadsBetween, ReadsName, ReadsValue}
use Rattle.path_flatten.proofs.Sees.{stays-of, sees-itself, sees-member, sees-between, sees-element}

-- no step goes beyond the upper end
trimmed-inside : (path : Window) (high : ℕ) (b : Bool) → path.high ≤ high → (cond b path nowhere).high ≤ high
trimmed-inside path high true h = h
trimmed-inside path high false h = omega arith

part-inside : (o : ℤ) (n : ℕ) (path : Window) → (part o n path).high ≤ path.high
part-inside o n path =
    let low = max path.low (at_least_0 (path.shift +ℤ o)) in
    let high = min path.high (at_least_0 ((path.shift +ℤ o) +ℤ pos n)) in
    trimmed-inside (record { shift = path.shift +ℤ o; low = low; high = high }) path.high (nat_lt low high) (omega arith)

pub member-inside : (m : Option Part) (path : Window) → (member_of m path).high ≤ path.high
member-inside None path = omega arith
member-inside (Some m) path = part-inside (pos m.below) (length m.two_state) path

cond-inside : (path : Window) (high : ℕ) (b : Bool) → path.high ≤ high → (cond b path nowhere).high ≤ high
cond-inside path high b h = trimmed-inside path high b h

pub element-inside : (of : Layout) (z : Option ℤ) (path : Window) → (element_of of z path).high ≤ path.high
element-inside of None path = omega arith
element-inside of (Some k) path =
    cond-inside (elements of (rank of k) 1 path) path.high (int_le (pos 0) (rank of k) && int_lt (rank of k) (pos (count_of of.left of.right)))
    (part-inside (rank of k *ℤ pos (length of.element.two_state)) (1 * length of.element.two_state) path)

pub between-inside : (of : Layout) (left right : ℤ) (path : Window) → (between of left right path).high ≤ path.high
between-inside of left right path = part-inside (rank of right *ℤ pos (length of.element.two_state)) (count_of left right * length of.element.two_state) path

pub sound-by : (old r : Reading) (p : Window) → IsSound old → IsNear r.window.shift → r.width ≡ old.width → window_of r.window ≡ p → p.high ≤ old.window.high → IsSound r
sound-by old r p sound near width window less =
    let same_end : r.window.high ≡ p.high = ap (λ (q : Window). q.high) window in
    let least = sound.inside in
    record { near = near; inside = omega arith }

pub whole-sound : (r : Reading) (w : ℕ) → IsNear r.window.shift → r.width ≡ w → window_of r.window ≡ whole w → IsSound r
whole-sound r w near width window = (let same_end : r.window.high ≡ w = ap (λ (q : Window). q.high) window in record { near = near; inside = omega arith })

-- each bit in range is one of the step's
pub member-stays : (m : Option Part) (n : ℕ) (path : Window) → HasPart n m → IsTight (member_of m path) n
member-stays None n path h = nowhere-tight n
member-stays (Some m) n path h = subst (λ k. IsTight (member_of (Some m) path) k) (sym h) (part-tight (pos m.below) (length m.two_state) path)

cond-tight : (path : Window) (n : ℕ) (b : Bool) → IsTight path n → IsTight (cond b path nowhere) n
cond-tight path n true h = h
cond-tight path n false h = nowhere-tight n

pub element-stays : (of : Layout) (z : Option ℤ) (path : Window) → IsTight (element_of of z path) (length of.element.two_state)
element-stays of None path = nowhere-tight (length of.element.two_state)
element-stays of (Some k) path =
    let one : 1 * length of.element.two_state ≡ length of.element.two_state = omega arith in
    cond-tight (elements of (rank of k) 1 path) (length of.element.two_state) (int_le (pos 0) (rank of k) && int_lt (rank of k) (pos (count_of of.left of.right)))
    (subst (IsTight (elements of (rank of k) 1 path)) one (part-tight (rank of k *ℤ pos (length of.element.two_state)) (1 * length of.element.two_state) path))

pub between-stays : (of : Layout) (left right : ℤ) (path : Window) → IsTight (between of left right path) (count_of left right * length of.element.two_state)
between-stays of left right path = part-tight (rank of right *ℤ pos (length of.element.two_state)) (count_of left right * length of.element.two_state) path

-- A step that keeps what is seen, on the same root.
module _ (old r : Reading) (e from : S.Meaning) (a : Around) (sc : Scope) (v : Valuation) (step : Window → Window)
    (root : r.root ≡ old.root) (width : r.width ≡ old.width) (window : window_of r.window ≡ step (window_of old.window)) (is : IsStep e from a step)
    (sees : (held c : List Bit4) (p q : Window) → Sees held p c q → Sees held (step p) c (step q))
    (tight : IsTight (step (window_of old.window)) (S.wide e)) (inside : (step (window_of old.window)).high ≤ old.window.high) where
  pub reads-step : Reads old from a sc v → Reads r e a sc v
  reads-step reads =
      let same_end : r.window.high ≡ (step (window_of old.window)).high = ap (λ (p : Window). p.high) window in
      let least = reads.inside in
      record {
        bits = reads.bits;
        root = subst (λ k. HasRoot r.root k reads.bits sc v) (sym width) (subst (λ x. HasRoot x old.width reads.bits sc v) (sym root) reads.root);
        long = reads.long ∙ sym width;
        sees = subst (λ q. Sees (e.base a) (e.window a) reads.bits q) (sym window)
            (subst (λ p. Sees (e.base a) p reads.bits (step (window_of old.window))) (sym is.window)
            (subst (λ held. Sees held (step (from.window a)) reads.bits (step (window_of old.window))) (sym is.base)
            (sees (from.base a) reads.bits (from.window a) (window_of old.window) reads.sees)));
        stays = stays-of (window_of r.window) (S.wide e) (subst (λ p. IsTight p (S.wide e)) (sym window) tight);
        inside = omega arith;
      }

pub member-reads : (old r : Reading) (t : SvType) (k : ℕ) → r.root ≡ old.root → r.width ≡ old.width
    → window_of r.window ≡ member_of (slice_get (layout t).members k) (window_of old.window) → ReadsMember old t k r
member-reads old r t k root width window e from a sc v of is part reads =
    let same : window_of r.window ≡ member_of (slice_get from.of.members k) (window_of old.window) =
    window ∙ ap (λ (l : Layout). member_of (slice_get l.members k) (window_of old.window)) (sym of) in
    reads-step old r e from a sc v (member_of (slice_get from.of.members k)) root width same is
    (λ held c p q h. sees-member held c p q (slice_get from.of.members k) h)
    (member-stays (slice_get from.of.members k) (S.wide e) (window_of old.window) part)
    (member-inside (slice_get from.of.members k) (window_of old.window)) reads

pub element-reads : (old r : Reading) (t : SvType) (z : Option ℤ) → r.root ≡ old.root → r.width ≡ old.width
    → window_of r.window ≡ element_of (layout t) z (window_of old.window) → ReadsElement old t z r
element-reads old r t z root width window e from a sc v of is wide reads =
    let same : window_of r.window ≡ element_of from.of z (window_of old.window) = window ∙ ap (λ (l : Layout). element_of l z (window_of old.window)) (sym of) in
    reads-step old r e from a sc v (element_of from.of z) root width same is
    (λ held c p q h. sees-element held c p q from.of z h)
    (subst (IsTight (element_of from.of z (window_of old.window))) (sym wide) (element-stays from.of z (window_of old.window)))
    (element-inside from.of z (window_of old.window)) reads

pub between-reads : (old r : Reading) (t : SvType) (left right : ℤ) → r.root ≡ old.root → r.width ≡ old.width
    → window_of r.window ≡ between (layout t) left right (window_of old.window) → ReadsBetween old t left right r
between-reads old r t left right root width window e from a sc v of is wide reads =
    let same : window_of r.window ≡ between from.of left right (window_of old.window) = window ∙ ap (λ (l : Layout). between l left right (window_of old.window)) (sym of) in
    reads-step old r e from a sc v (between from.of left right) root width same is
    (λ held c p q h. sees-between held c p q from.of left right h)
    (subst (IsTight (between from.of left right (window_of old.window))) (sym wide) (between-stays from.of left right (window_of old.window)))
    (between-inside from.of left right (window_of old.window)) reads

-- where a path begins
pub name-reads : (name : Name) (w : ℕ) (r : Reading) → r.root ≡ R.Name name → r.width ≡ w → window_of r.window ≡ whole w → ReadsName name w r
name-reads name w r root width window e a sc v wide all long is =
    let same_end : r.window.high ≡ w = ap (λ (p : Window). p.high) window in
    record {
      bits = e.base a;
      root = subst (λ k. HasRoot r.root k (e.base a) sc v) (sym width) (subst (λ x. HasRoot x w (e.base a) sc v) (sym root) is);
      long = long ∙ sym width;
      sees = sees-itself (e.base a) (e.base a) (e.window a) (window_of r.window) refl (all ∙ sym window);
      stays = stays-of (window_of r.window) (S.wide e) (subst (λ p. IsTight p (S.wide e)) (sym window) (subst (IsTight (whole w)) (sym wide) (whole-tight w)));
      inside = omega arith;
    }

-- what stands in braces has its bits wherever it stands
pub braced-has : (m : T.Meaning) (c : List Bit4) (sc : Scope) (v : Valuation) → m.width sc ≡ length c → T.alone m sc v ≡ c → HasBits (braced m) c sc v
unfolding T.concatenation
braced-has m c sc v width bits = record {
  width = omega arith;
  unsigned = refl;
  value = λ w s. ap (ext w s) bits;
}

pub value-reads : (m : T.Meaning) (x : VExpr) (w : ℕ) (r : Reading) → r.root ≡ R.Value x → T.meaning x ≡ braced m → r.width ≡ w → window_of r.window ≡ whole w → ReadsValue m w r
value-reads m x w r root braces width window e a sc v wide all base long same =
    let same_end : r.window.high ≡ w = ap (λ (p : Window). p.high) window in
    let has : HasBits (braced m) (S.alone e a) sc v = braced-has m (S.alone e a) sc v (alone-width e a m sc v same ∙ wide ∙ sym long) (alone-value e a m sc v same) in
    record {
      bits = S.alone e a;
      root = subst (λ x. HasRoot x r.width (S.alone e a) sc v) (sym root) (subst (λ (y : T.Meaning). HasBits y (S.alone e a) sc v) (sym braces) has);
      long = long ∙ sym width;
      sees = sees-itself (e.base a) (S.alone e a) (e.window a) (window_of r.window) base (all ∙ sym window);
      stays = stays-of (window_of r.window) (S.wide e) (subst (λ p. IsTight p (S.wide e)) (sym window) (subst (IsTight (whole w)) (sym wide) (whole-tight w)));
      inside = omega arith;
    }
