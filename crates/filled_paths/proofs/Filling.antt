-- A number in place of an index, step by step.
use Rattle.std.proofs.Common.{◌≡◌, ℕ, suc, ◌+◌, ◌<◌, ◌≤◌, ◌==◌, max, Bool, true, false, ◌&&◌, cond, ℤ, List, [], ◌∷◌, length, refl, arith, ap, sym, ◌∙◌, subst}
use Rattle.std.specs.Prelude.{slice_get, nat_lt}
use Rattle.std.proofs.lemmas.Bool.Decides.{nat_tests}
use Rattle.b4_core.specs.declared.bit.Bit4.{Bit4}
use Rattle.sv_types.specs.declared.expression.Expr.{Expr}
use Rattle.sv_types.specs.declared.expression.Form.TheVariants as V
use Rattle.sv_types.specs.declared.types.SvType.{SvType}
use Rattle.sv_types.specs.Layouts.{Layout, layout, count_of}
use Rattle.sv_types.specs.Windows.{member_of, element_of, between, slide}
use Rattle.sv_types.specs.Surroundings.{Around}
use Rattle.sv_types.specs.Meanings as S
use Rattle.sv_types.specs.Meanings.{without_bits, misfit, same_sign}
use Rattle.sv_types.specs.Operators as O
use Rattle.sv_types.specs.Paths as P
use Rattle.sv_types.specs.Paths.{unlike, unlike_part, elements_marks}
use Rattle.sv_types.specs.Expressions.{meaning}
use Rattle.sv_types.proofs.Heads.{heads}
use Rattle.sv_types.proofs.Levels as L
use Rattle.sv_types.proofs.Widths.{has-bits, wide-widest}
use Rattle.eval_parts.proofs.Steps.{at-form}
use Rattle.eval_parts.proofs.Selecting.{same-Member, same-Index, same-Part, same-Slide}
use Rattle.lowering_laws.proofs.Extensions.{ext-at}
use Rattle.typed_paths.specs.Typed.{has_elements, Indexing, IsTypedPath, of_member, of_index, of_part, of_slide}
use Rattle.target_laws.specs.Elements.{IsPartOf, IsSlideOf}
use Rattle.filled_paths.specs.Filling.{IsLiteralOf, put_index, IsFilled}

-- what steps make of a path
pub member-window : (of : Layout) (at : ℕ) (from : S.Meaning) (k : ℕ) (a : Around) → (P.member of at from k).window a ≡ member_of (slice_get from.of.members k) (from.window a)
unfolding P.member
member-window of at from k a = refl

member-misfits : (of : Layout) (at : ℕ) (from : S.Meaning) (k : ℕ) → (P.member of at from k).misfits ≡ without_bits of + (unlike_part of (slice_get from.of.members k) + from.misfits)
unfolding P.member
member-misfits of at from k = refl

member-widest : (of : Layout) (at : ℕ) (from : S.Meaning) (k : ℕ) → (P.member of at from k).widest ≡ max (length of.two_state) from.widest
unfolding P.member
member-widest of at from k = refl

pub index-window : (of : Layout) (at : ℕ) (from i : S.Meaning) (a : Around) → (P.index of at from i).window a ≡ element_of from.of (P.index_of i a) (from.window a)
unfolding P.index
index-window of at from i a = refl

index-misfits : (of : Layout) (at : ℕ) (from i : S.Meaning) → (P.index of at from i).misfits ≡ without_bits of + (unlike of from.of.element.two_state from.of.element.signed + (from.misfits + i.misfits))
unfolding P.index
index-misfits of at from i = refl

index-widest : (of : Layout) (at : ℕ) (from i : S.Meaning) → (P.index of at from i).widest ≡ max (length of.two_state) (max from.widest i.widest)
unfolding P.index
index-widest of at from i = refl

pub part-window : (of : Layout) (at : ℕ) (from : S.Meaning) (left right : ℤ) (a : Around) → (P.part_select of at from left right).window a ≡ between from.of left right (from.window a)
unfolding P.part_select
part-window of at from left right a = refl

part-misfits : (of : Layout) (at : ℕ) (from : S.Meaning) (left right : ℤ)
    → (P.part_select of at from left right).misfits ≡ without_bits of + (unlike of (elements_marks from.of (count_of left right)) false + from.misfits)
unfolding P.part_select
part-misfits of at from left right = refl

part-widest : (of : Layout) (at : ℕ) (from : S.Meaning) (left right : ℤ) → (P.part_select of at from left right).widest ≡ max (length of.two_state) from.widest
unfolding P.part_select
part-widest of at from left right = refl

pub slide-window : (of : Layout) (at : ℕ) (from i : S.Meaning) (n : ℕ) (up : Bool) (a : Around) → (P.sliding of at from i n up).window a ≡ slide from.of up n (P.index_of i a) (from.window a)
unfolding P.sliding
slide-window of at from i n up a = refl

slide-misfits : (of : Layout) (at : ℕ) (from i : S.Meaning) (n : ℕ) (up : Bool)
    → (P.sliding of at from i n up).misfits ≡ without_bits of + (unlike of (elements_marks from.of n) false + (from.misfits + i.misfits))
unfolding P.sliding
slide-misfits of at from i n up = refl

slide-widest : (of : Layout) (at : ℕ) (from i : S.Meaning) (n : ℕ) (up : Bool) → (P.sliding of at from i n up).widest ≡ max (length of.two_state) (max from.widest i.widest)
unfolding P.sliding
slide-widest of at from i n up = refl

-- paths of one type
kind : (e f : Expr) → f.of ≡ e.of → (meaning f).of ≡ (meaning e).of
kind e f of = (heads f).kind ∙ ap layout of ∙ sym (heads e).kind

wide-same : (e f : Expr) → f.of ≡ e.of → length (layout f.of).two_state ≡ length (layout e.of).two_state
wide-same e f of = ap (λ (t : SvType). length (layout t).two_state) of

-- the number
module _ (x lit : Expr) (bits : List Bit4) (is : IsLiteralOf x bits lit) where
  literal-means : meaning lit ≡ O.literal (layout lit.of) lit.spot.at false bits
  literal-means = at-form lit (V.Literal bits false) _ is.form (L.form-Literal bits false)

  literal-misfits : (of : Layout) (at : ℕ) (b : List Bit4) → (O.literal of at false b).misfits ≡ without_bits of + (misfit of (length b) of.signed + 0)
  unfolding O.literal
  literal-misfits of at b = refl

  literal-widest : (of : Layout) (at : ℕ) (b : List Bit4) → (O.literal of at false b).widest ≡ max (length of.two_state) 0
  unfolding O.literal
  literal-widest of at b = refl

  literal-alone : (of : Layout) (at : ℕ) (b : List Bit4) (a : Around) → length b ≡ length of.two_state → S.alone (O.literal of at false b) a ≡ b
  unfolding O.literal
  literal-alone of at b a long = ext-at (length of.two_state) of.signed b long

  literal-names : (of : Layout) (at : ℕ) (b : List Bit4) → (O.literal of at false b).names ≡ []
  unfolding O.literal
  literal-names of at b = refl

  pub names-none : (meaning lit).names ≡ []
  names-none = ap (λ (m : S.Meaning). m.names) literal-means ∙ literal-names _ _ bits

  pub lit-alone : length bits ≡ S.wide (meaning x) → (a : Around) → S.alone (meaning lit) a ≡ bits
  lit-alone long a = ap (λ (m : S.Meaning). S.alone m a) literal-means ∙ literal-alone _ _ bits a (long ∙ ap (λ (l : Layout). length l.two_state) ((heads x).kind ∙ ap layout (sym is.of)))

  pub lit-sign : S.signed (meaning lit) ≡ S.signed (meaning x)
  lit-sign = ap (λ (l : Layout). l.signed) (kind x lit is.of)

  pub lit-widest : (meaning lit).widest ≤ (meaning x).widest
  lit-widest =
      let w = ap (λ (m : S.Meaning). m.widest) literal-means ∙ literal-widest (layout lit.of) lit.spot.at bits in
      let same = ap (λ (l : Layout). length l.two_state) ((heads x).kind ∙ ap layout (sym is.of)) in
      let wide = wide-widest x in
      omega arith

  sign-self : (b : Bool) → same_sign b b ≡ true
  sign-self true = refl
  sign-self false = refl

  misfit-none : (of : Layout) (n : ℕ) → n ≡ length of.two_state → misfit of n of.signed ≡ 0
  misfit-none of n same =
      let test : (length of.two_state == n) ≡ true = grind (arith, nat_tests) in
      λ j. cond {A = ℕ} (test j && sign-self of.signed j) 0 1

  bits-there : (of : Layout) → 0 < length of.two_state → without_bits of ≡ 0
  bits-there of some = (let test : nat_lt 0 (length of.two_state) ≡ true = grind (arith, nat_tests) in ap (λ b. cond {A = ℕ} b 0 1) test)

  pub lit-typed : length bits ≡ S.wide (meaning x) → (meaning x).misfits ≡ 0 → (meaning lit).misfits ≡ 0
  lit-typed long typed =
      let same = ap (λ (l : Layout). length l.two_state) ((heads x).kind ∙ ap layout (sym is.of)) in
      let some = has-bits x typed in
      let first = bits-there (layout lit.of) (omega arith) in
      let second = misfit-none (layout lit.of) (length bits) (long ∙ same) in
      let all = ap (λ (m : S.Meaning). m.misfits) literal-means ∙ literal-misfits (layout lit.of) lit.spot.at bits in
      omega arith

-- steps behind the index
module _ (number : ℕ) (t : SvType) (x lit : Expr) where
  pub filled-member : (e from f g : Expr) (k at : ℕ) (xs : List Indexing) → e.form ≡ V.Member from k → f.form ≡ V.Member g k → f.of ≡ e.of → IsFilled number t xs false at x lit from g
      → IsFilled number t xs false at x lit e f
  filled-member e from f g k at xs is made of h = record {
    of = of;
    path = of_member f g k (put_index lit at xs) made h.path;
    typed = λ none.
        let all = ap (λ (m : S.Meaning). m.misfits) (same-Member e from k is) ∙ member-misfits (layout e.of) e.spot.at (meaning from) k in
        let new = ap (λ (m : S.Meaning). m.misfits) (same-Member f g k made) ∙ member-misfits (layout f.of) f.spot.at (meaning g) k in
        let bits : without_bits (layout f.of) ≡ without_bits (layout e.of) = ap (λ (y : SvType). without_bits (layout y)) of in
        let like : unlike_part (layout f.of) (slice_get (meaning g).of.members k) ≡ unlike_part (layout e.of) (slice_get (meaning from).of.members k) =
        λ j. unlike_part (layout (of j)) (slice_get (kind from g h.of j).members k) in
        let inner = h.typed (omega arith) in
        omega arith;
    narrow =
        (let old = ap (λ (m : S.Meaning). m.widest) (same-Member e from k is) ∙ member-widest (layout e.of) e.spot.at (meaning from) k in
        let new = ap (λ (m : S.Meaning). m.widest) (same-Member f g k made) ∙ member-widest (layout f.of) f.spot.at (meaning g) k in
        let same = wide-same e f of in
        let inner = h.narrow in
        omega arith);
    window = λ a same.
        ap (λ (m : S.Meaning). m.window a) (same-Member f g k made) ∙ member-window (layout f.of) f.spot.at (meaning g) k a
        ∙ (λ j. member_of (slice_get (kind from g h.of j).members k) (h.window a same j))
        ∙ sym (ap (λ (m : S.Meaning). m.window a) (same-Member e from k is) ∙ member-window (layout e.of) e.spot.at (meaning from) k a);
  }

  pub filled-part : (e from f g : Expr) (left right : ℤ) (at : ℕ) (xs : List Indexing) (part : Bool) → e.form ≡ V.Part from left right → f.form ≡ V.Part g left right → f.of ≡ e.of → has_elements from.of ≡ true
      → IsPartOf (layout e.of) (layout from.of) left right → IsFilled number t xs part at x lit from g → IsFilled number t xs true at x lit e f
  filled-part e from f g left right at xs part is made of has bounds h = record {
    of = of;
    path = of_part f g left right (put_index lit at xs) part made (ap has_elements h.of ∙ has)
        (subst (λ (y : SvType). IsPartOf (layout f.of) (layout y) left right) (sym h.of) (subst (λ (y : SvType). IsPartOf (layout y) (layout from.of) left right) (sym of) bounds)) h.path;
    typed = λ none.
        let all = ap (λ (m : S.Meaning). m.misfits) (same-Part e from left right is) ∙ part-misfits (layout e.of) e.spot.at (meaning from) left right in
        let new = ap (λ (m : S.Meaning). m.misfits) (same-Part f g left right made) ∙ part-misfits (layout f.of) f.spot.at (meaning g) left right in
        let bits : without_bits (layout f.of) ≡ without_bits (layout e.of) = ap (λ (y : SvType). without_bits (layout y)) of in
        let like : unlike (layout f.of) (elements_marks (meaning g).of (count_of left right)) false ≡ unlike (layout e.of) (elements_marks (meaning from).of (count_of left right)) false =
        λ j. unlike (layout (of j)) (elements_marks (kind from g h.of j) (count_of left right)) false in
        let inner = h.typed (omega arith) in
        omega arith;
    narrow =
        (let old = ap (λ (m : S.Meaning). m.widest) (same-Part e from left right is) ∙ part-widest (layout e.of) e.spot.at (meaning from) left right in
        let new = ap (λ (m : S.Meaning). m.widest) (same-Part f g left right made) ∙ part-widest (layout f.of) f.spot.at (meaning g) left right in
        let same = wide-same e f of in
        let inner = h.narrow in
        omega arith);
    window = λ a same.
        ap (λ (m : S.Meaning). m.window a) (same-Part f g left right made) ∙ part-window (layout f.of) f.spot.at (meaning g) left right a
        ∙ (λ j. between (kind from g h.of j) left right (h.window a same j))
        ∙ sym (ap (λ (m : S.Meaning). m.window a) (same-Part e from left right is) ∙ part-window (layout e.of) e.spot.at (meaning from) left right a);
  }

  pub filled-index : (e from f g i : Expr) (at : ℕ) (xs : List Indexing) (part : Bool) → e.form ≡ V.Index from i → f.form ≡ V.Index g i → f.of ≡ e.of → has_elements from.of ≡ true
      → IsFilled number t xs part at x lit from g → IsFilled number t (record { index = i; in_part = part } ∷ xs) false (suc at) x lit e f
  filled-index e from f g i at xs part is made of has h = record {
    of = of;
    path = of_index f g i (put_index lit at xs) part made (ap has_elements h.of ∙ has) h.path;
    typed = λ none.
        let all = ap (λ (m : S.Meaning). m.misfits) (same-Index e from i is) ∙ index-misfits (layout e.of) e.spot.at (meaning from) (meaning i) in
        let new = ap (λ (m : S.Meaning). m.misfits) (same-Index f g i made) ∙ index-misfits (layout f.of) f.spot.at (meaning g) (meaning i) in
        let bits : without_bits (layout f.of) ≡ without_bits (layout e.of) = ap (λ (y : SvType). without_bits (layout y)) of in
        let like : unlike (layout f.of) (meaning g).of.element.two_state (meaning g).of.element.signed ≡ unlike (layout e.of) (meaning from).of.element.two_state (meaning from).of.element.signed =
        λ j. unlike (layout (of j)) (kind from g h.of j).element.two_state (kind from g h.of j).element.signed in
        let inner = h.typed (omega arith) in
        omega arith;
    narrow =
        (let old = ap (λ (m : S.Meaning). m.widest) (same-Index e from i is) ∙ index-widest (layout e.of) e.spot.at (meaning from) (meaning i) in
        let new = ap (λ (m : S.Meaning). m.widest) (same-Index f g i made) ∙ index-widest (layout f.of) f.spot.at (meaning g) (meaning i) in
        let same = wide-same e f of in
        let inner = h.narrow in
        omega arith);
    window = λ a same.
        ap (λ (m : S.Meaning). m.window a) (same-Index f g i made) ∙ index-window (layout f.of) f.spot.at (meaning g) (meaning i) a
        ∙ (λ j. element_of (kind from g h.of j) (P.index_of (meaning i) a) (h.window a same j))
        ∙ sym (ap (λ (m : S.Meaning). m.window a) (same-Index e from i is) ∙ index-window (layout e.of) e.spot.at (meaning from) (meaning i) a);
  }

  pub filled-slide : (e from f g i : Expr) (n : ℕ) (up : Bool) (at : ℕ) (xs : List Indexing) (part : Bool) → e.form ≡ V.Slide from i n up → f.form ≡ V.Slide g i n up → f.of ≡ e.of → has_elements from.of ≡ true
      → IsSlideOf (layout e.of) (layout from.of) n → IsFilled number t xs part at x lit from g → IsFilled number t (record { index = i; in_part = part } ∷ xs) true (suc at) x lit e f
  filled-slide e from f g i n up at xs part is made of has bounds h = record {
    of = of;
    path = of_slide f g i n up (put_index lit at xs) part made (ap has_elements h.of ∙ has)
        (subst (λ (y : SvType). IsSlideOf (layout f.of) (layout y) n) (sym h.of) (subst (λ (y : SvType). IsSlideOf (layout y) (layout from.of) n) (sym of) bounds)) h.path;
    typed = λ none.
        let all = ap (λ (m : S.Meaning). m.misfits) (same-Slide e from i n up is) ∙ slide-misfits (layout e.of) e.spot.at (meaning from) (meaning i) n up in
        let new = ap (λ (m : S.Meaning). m.misfits) (same-Slide f g i n up made) ∙ slide-misfits (layout f.of) f.spot.at (meaning g) (meaning i) n up in
        let bits : without_bits (layout f.of) ≡ without_bits (layout e.of) = ap (λ (y : SvType). without_bits (layout y)) of in
        let like : unlike (layout f.of) (elements_marks (meaning g).of n) false ≡ unlike (layout e.of) (elements_marks (meaning from).of n) false =
        λ j. unlike (layout (of j)) (elements_marks (kind from g h.of j) n) false in
        let inner = h.typed (omega arith) in
        omega arith;
    narrow =
        (let old = ap (λ (m : S.Meaning). m.widest) (same-Slide e from i n up is) ∙ slide-widest (layout e.of) e.spot.at (meaning from) (meaning i) n up in
        let new = ap (λ (m : S.Meaning). m.widest) (same-Slide f g i n up made) ∙ slide-widest (layout f.of) f.spot.at (meaning g) (meaning i) n up in
        let same = wide-same e f of in
        let inner = h.narrow in
        omega arith);
    window = λ a same.
        ap (λ (m : S.Meaning). m.window a) (same-Slide f g i n up made) ∙ slide-window (layout f.of) f.spot.at (meaning g) (meaning i) n up a
        ∙ (λ j. slide (kind from g h.of j) up n (P.index_of (meaning i) a) (h.window a same j))
        ∙ sym (ap (λ (m : S.Meaning). m.window a) (same-Slide e from i n up is) ∙ slide-window (layout e.of) e.spot.at (meaning from) (meaning i) n up a);
  }

-- the step by the index itself
module _ (number : ℕ) (t : SvType) (x lit : Expr) (bits : List Bit4) (literal : IsLiteralOf x bits lit) (long : length bits ≡ S.wide (meaning x)) where
  pub here-index : (e from f : Expr) (xs : List Indexing) (part : Bool) → e.form ≡ V.Index from x → f.form ≡ V.Index from lit → f.of ≡ e.of → has_elements from.of ≡ true → IsTypedPath number t from xs part
      → IsFilled number t (record { index = x; in_part = part } ∷ xs) false 0 x lit e f
  here-index e from f xs part is made of has path = record {
    of = of;
    path = of_index f from lit xs part made has path;
    typed = λ none.
        let all = ap (λ (m : S.Meaning). m.misfits) (same-Index e from x is) ∙ index-misfits (layout e.of) e.spot.at (meaning from) (meaning x) in
        let new = ap (λ (m : S.Meaning). m.misfits) (same-Index f from lit made) ∙ index-misfits (layout f.of) f.spot.at (meaning from) (meaning lit) in
        let bits_same : without_bits (layout f.of) ≡ without_bits (layout e.of) = ap (λ (y : SvType). without_bits (layout y)) of in
        let like : unlike (layout f.of) (meaning from).of.element.two_state (meaning from).of.element.signed ≡ unlike (layout e.of) (meaning from).of.element.two_state (meaning from).of.element.signed =
        ap (λ (y : SvType). unlike (layout y) (meaning from).of.element.two_state (meaning from).of.element.signed) of in
        let inner = lit-typed x lit bits literal long (omega arith) in
        omega arith;
    narrow =
        (let old = ap (λ (m : S.Meaning). m.widest) (same-Index e from x is) ∙ index-widest (layout e.of) e.spot.at (meaning from) (meaning x) in
        let new = ap (λ (m : S.Meaning). m.widest) (same-Index f from lit made) ∙ index-widest (layout f.of) f.spot.at (meaning from) (meaning lit) in
        let same = wide-same e f of in
        let inner = lit-widest x lit bits literal in
        omega arith);
    window = λ a same.
        ap (λ (m : S.Meaning). m.window a) (same-Index f from lit made) ∙ index-window (layout f.of) f.spot.at (meaning from) (meaning lit) a
        ∙ ap (λ z. element_of (meaning from).of z ((meaning from).window a)) (sym same)
        ∙ sym (ap (λ (m : S.Meaning). m.window a) (same-Index e from x is) ∙ index-window (layout e.of) e.spot.at (meaning from) (meaning x) a);
  }

  pub here-slide : (e from f : Expr) (n : ℕ) (up : Bool) (xs : List Indexing) (part : Bool) → e.form ≡ V.Slide from x n up → f.form ≡ V.Slide from lit n up → f.of ≡ e.of → has_elements from.of ≡ true
      → IsSlideOf (layout e.of) (layout from.of) n → IsTypedPath number t from xs part → IsFilled number t (record { index = x; in_part = part } ∷ xs) true 0 x lit e f
  here-slide e from f n up xs part is made of has bounds path = record {
    of = of;
    path = of_slide f from lit n up xs part made has (subst (λ (y : SvType). IsSlideOf (layout y) (layout from.of) n) (sym of) bounds) path;
    typed = λ none.
        let all = ap (λ (m : S.Meaning). m.misfits) (same-Slide e from x n up is) ∙ slide-misfits (layout e.of) e.spot.at (meaning from) (meaning x) n up in
        let new = ap (λ (m : S.Meaning). m.misfits) (same-Slide f from lit n up made) ∙ slide-misfits (layout f.of) f.spot.at (meaning from) (meaning lit) n up in
        let bits_same : without_bits (layout f.of) ≡ without_bits (layout e.of) = ap (λ (y : SvType). without_bits (layout y)) of in
        let like : unlike (layout f.of) (elements_marks (meaning from).of n) false ≡ unlike (layout e.of) (elements_marks (meaning from).of n) false =
        ap (λ (y : SvType). unlike (layout y) (elements_marks (meaning from).of n) false) of in
        let inner = lit-typed x lit bits literal long (omega arith) in
        omega arith;
    narrow =
        (let old = ap (λ (m : S.Meaning). m.widest) (same-Slide e from x n up is) ∙ slide-widest (layout e.of) e.spot.at (meaning from) (meaning x) n up in
        let new = ap (λ (m : S.Meaning). m.widest) (same-Slide f from lit n up made) ∙ slide-widest (layout f.of) f.spot.at (meaning from) (meaning lit) n up in
        let same = wide-same e f of in
        let inner = lit-widest x lit bits literal in
        omega arith);
    window = λ a same.
        ap (λ (m : S.Meaning). m.window a) (same-Slide f from lit n up made) ∙ slide-window (layout f.of) f.spot.at (meaning from) (meaning lit) n up a
        ∙ ap (λ z. slide (meaning from).of up n z ((meaning from).window a)) (sym same)
        ∙ sym (ap (λ (m : S.Meaning). m.window a) (same-Slide e from x n up is) ∙ slide-window (layout e.of) e.spot.at (meaning from) (meaning x) n up a);
  }
