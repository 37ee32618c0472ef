-- What is assigned to places, from place to place.
use Rattle.std.proofs.Common.{◌≡◌, ℕ, zero, suc, ◌+◌, ◌<◌, ◌≤◌, max, Bool, List, [], ◌∷◌, ◌++◌, drop, length, map, zip, get_or, Option, Some, None, refl, arith, ap, sym, ◌∙◌, subst, append_assoc, append-nil, rules}
use Rattle.std.specs.Prelude.{slice_get}
use Rattle.std.proofs.Math.Seq.{drop-cons}
use Rattle.std.proofs.Math.ListN.{drop_of_length-le}
use Rattle.std.proofs.Math.Numerals.{add-one}
use Rattle.std.proofs.lemmas.Option.{slice_get_within, get_or_from_slice_get}
use Rattle.std.proofs.lemmas.List.{length-drop}
use Rattle.b4_core.specs.declared.bit.Bit4.{Bit4}
use Rattle.b4_core.specs.Vectors.{ext}
use Rattle.sv_types.specs.declared.expression.Expr.{Expr}
use Rattle.sv_types.specs.declared.expression.Choice.{Choice}
use Rattle.sv_types.specs.declared.expression.Form.{Form-F, out-Form}
use Rattle.sv_types.specs.declared.expression.Form.TheVariants as V
use Rattle.sv_types.specs.Layouts.{Layout, layout, stacked, stored, width_of}
use Rattle.sv_types.specs.Surroundings.{Around, Parameter}
use Rattle.sv_types.specs.Meanings.{Meaning, wide, signed}
use Rattle.sv_types.specs.Operators as O
use Rattle.sv_types.specs.Operators.{assigned_width, parts_of}
use Rattle.sv_types.specs.Expressions.{meaning}
use Rattle.eval_parts.specs.Answers.{assigned}
use Rattle.eval_parts.specs.Limits.{Fits, AllFitAt}
use Rattle.eval_parts.specs.Targets.{marks_of_parts}
use Rattle.sv_types.proofs.Widths.{has-bits}
use Rattle.eval_parts.specs.Targets.{AreNarrow}
use Rattle.eval_parts.proofs.TypeKinds.{wide-is}
use Rattle.eval_parts.proofs.Lists.{own-narrow}
use Rattle.eval_parts.proofs.Assigned as A
use Rattle.eval_forms.specs.Asked.{assigned_asked, form_asked, all_bits, widths_asked, Operands, Combines}
use Rattle.eval_forms.specs.Assigned.{IsGivenFrom, GivenBy, PlacesFit, AssignedBy}
use Rattle.eval_forms.proofs.Strict as S

abbrev pub Bits : Type 0
Bits = List Bit4

-- what is made before place i, of values for places
pub record Turn (ps : List (List Bool)) (es : List Expr) (vs : List Bits) (i : ℕ) (made : List Bits) : Type 0 where
  pub value : (a : Around) → vs ≡ all_bits (assigned_asked ps es) a
      → (drop i vs ≡ all_bits (assigned_asked (drop i ps) (drop i es)) a) × (made ++ assigned (drop i ps) (map meaning (drop i es)) a ≡ assigned ps (map meaning es) a)

at-front : {A : Type 0} (xs : List A) (i : ℕ) (x : A) → i < length xs → x ≡ get_or xs i x → drop i xs ≡ x ∷ drop (i + 1) xs
at-front xs i x h is = drop-cons xs i x h ∙ ap (λ y. y ∷ drop (suc i) xs) (sym is) ∙ ap (λ k. x ∷ drop k xs) (sym (add-one i))

none-past : {A : Type 0} (xs : List A) (i : ℕ) → slice_get xs i ≡ None → drop i xs ≡ []
none-past [] i is = drop_of_length-le [] (omega arith)
none-past (x ∷ xs) zero is = absurd (cc)
none-past (x ∷ xs) (suc i) is = none-past xs i is

pub turn-first : (ps : List (List Bool)) (es : List Expr) (vs made : List Bits) → made ≡ [] → Turn ps es vs 0 made
turn-first ps es vs made none = record { value = λ a h. (h, ap (λ m. m ++ assigned ps (map meaning es) a) none) }

no-places : (ms : List Meaning) (a : Around) → assigned [] ms a ≡ []
no-places ms a = refl

no-values : (ps : List (List Bool)) (a : Around) → assigned ps [] a ≡ []
no-values [] a = refl
no-values (p ∷ ps) a = refl

-- no further place
pub turn-ends : (ps : List (List Bool)) (es : List Expr) (vs : List Bits) (i : ℕ) (made : List Bits) → slice_get ps i ≡ None → Turn ps es vs i made → AssignedBy ps es vs made
turn-ends ps es vs i made none t = record {
  value = λ a h. sym (append-nil made) ∙ ap (λ qs. made ++ assigned qs (map meaning (drop i es)) a) (sym (none-past ps i none)) ∙ (t.value a h).1;
}

-- no further value
pub turn-all : (ps : List (List Bool)) (es : List Expr) (vs : List Bits) (i : ℕ) (made : List Bits) → length es ≤ i → Turn ps es vs i made → AssignedBy ps es vs made
turn-all ps es vs i made past t = record {
  value = λ a h. sym (append-nil made) ∙ ap (λ xs. made ++ xs) (sym (no-values (drop i ps) a)) ∙ ap (λ ys. made ++ assigned (drop i ps) (map meaning ys) a) (sym (drop_of_length-le es past)) ∙ (t.value a h).1;
}

-- the first of some values, and those behind it
split : (vs later us : List Bits) (v u : Bits) → vs ≡ v ∷ later → vs ≡ u ∷ us → (v ≡ u) × (later ≡ us)
split vs later us v u is also = (let e : v ∷ later ≡ u ∷ us = sym is ∙ also in cc, let e : v ∷ later ≡ u ∷ us = sym is ∙ also in cc)

pub turn-next : (ps : List (List Bool)) (es : List Expr) (vs : List Bits) (i : ℕ) (made new : List Bits) (e : Expr) (p : List Bool) (v g : Bits) → i < length es → e ≡ get_or es i e → slice_get ps i ≡ Some p
    → i < length vs → v ≡ get_or vs i v → GivenBy (meaning e) (length p) v g → new ≡ made ++ stored p g ∷ [] → Turn ps es vs i made → Turn ps es vs (i + 1) new
turn-next ps es vs i made new e p v g h is there hv isv given more t = record {
  value = λ a all.
      let m = meaning e in
      let qs = drop (i + 1) ps in
      let fs = drop (i + 1) es in
      let places : drop i ps ≡ p ∷ qs = at-front ps i p (slice_get_within ps i p there) (sym (get_or_from_slice_get ps i p p there)) in
      let values : drop i es ≡ e ∷ fs = at-front es i e h is in
      let before = t.value a all in
      let here : drop i vs ≡ m.value (assigned_width p m) (signed m) a ∷ all_bits (assigned_asked qs fs) a =
      before.0 ∙ ap (λ xs. all_bits (assigned_asked xs (drop i es)) a) places ∙ ap (λ ys. all_bits (assigned_asked (p ∷ qs) ys) a) values in
      let both = split (drop i vs) (drop (i + 1) vs) (all_bits (assigned_asked qs fs) a) v (m.value (assigned_width p m) (signed m) a) (at-front vs i v hv isv) here in
      let later = assigned qs (map meaning fs) a in (
        both.1,
        ap (λ xs. xs ++ later) more ∙ append_assoc made (stored p g ∷ []) later ∙ ap (λ u. made ++ (stored p u ∷ later)) (given.value a both.0)
            ∙ ap (λ xs. made ++ assigned xs (map meaning (e ∷ fs)) a) (sym places) ∙ ap (λ ys. made ++ assigned (drop i ps) (map meaning ys) a) (sym values) ∙ before.1,
      );
}

-- the values that belong to places from place i on
pub here-fits : (ps : List (List Bool)) (es : List Expr) (vs : List Bits) (i : ℕ) (e : Expr) (p : List Bool) → i < length es → e ≡ get_or es i e → slice_get ps i ≡ Some p → PlacesFit (drop i ps) (drop i es) (drop i vs)
    → PlacesFit (p ∷ drop (i + 1) ps) (e ∷ drop (i + 1) es) (drop i vs)
here-fits ps es vs i e p h is there f =
    subst (λ qs. PlacesFit qs (e ∷ drop (i + 1) es) (drop i vs)) (at-front ps i p (slice_get_within ps i p there) (sym (get_or_from_slice_get ps i p p there)))
    (subst (λ ys. PlacesFit (drop i ps) ys (drop i vs)) (at-front es i e h is) f)

some-by : (us : List Bits) (n : ℕ) (ns : List ℕ) → map length us ≡ n ∷ ns → 0 < length us
some-by [] n ns is = absurd (cc)
some-by (u ∷ us) n ns is = omega arith

pub place-there : (p : List Bool) (qs : List (List Bool)) (e : Expr) (fs : List Expr) (vs : List Bits) (i : ℕ) → PlacesFit (p ∷ qs) (e ∷ fs) (drop i vs) → i < length vs
place-there p qs e fs vs i f =
    omega (arith, length-drop i vs, some-by (drop i vs) (assigned_width p (meaning e)) (widths_asked (assigned_asked qs fs)) f.lengths)

lengths-of : (vs : List Bits) (i : ℕ) (v : Bits) (n : ℕ) (ns : List ℕ) → i < length vs → v ≡ get_or vs i v → map length (drop i vs) ≡ n ∷ ns → (length v ≡ n) × (map length (drop (i + 1) vs) ≡ ns)
lengths-of vs i v n ns h is all =
    let e : length v ∷ map length (drop (i + 1) vs) ≡ n ∷ ns = ap (map length) (sym (at-front vs i v h is)) ∙ all in
    (cc, cc)

pub place-given : (p : List Bool) (qs : List (List Bool)) (e : Expr) (fs : List Expr) (vs : List Bits) (i : ℕ) (v : Bits) → PlacesFit (p ∷ qs) (e ∷ fs) (drop i vs) → v ≡ get_or vs i v → IsGivenFrom (meaning e) (length p) v
place-given p qs e fs vs i v f is = record {
  narrow = f.fits.0.narrow;
  typed = f.fits.0.typed;
  length = (lengths-of vs i v (assigned_width p (meaning e)) (widths_asked (assigned_asked qs fs)) (place-there p qs e fs vs i f) is f.lengths).0;
}

pub place-next : (p : List Bool) (qs : List (List Bool)) (e : Expr) (fs : List Expr) (vs : List Bits) (i : ℕ) (v : Bits) → PlacesFit (p ∷ qs) (e ∷ fs) (drop i vs) → v ≡ get_or vs i v → PlacesFit qs fs (drop (i + 1) vs)
place-next p qs e fs vs i v f is = record {
  formals = f.formals;
  fits = f.fits.1;
  lengths = (lengths-of vs i v (assigned_width p (meaning e)) (widths_asked (assigned_asked qs fs)) (place-there p qs e fs vs i f) is f.lengths).1;
}

-- patterns
pub pattern-ready : (e : Expr) (es : List Expr) (w : ℕ) (s : Bool) (vs : List Bits) → e.form ≡ V.Pattern es → Operands e w s vs → PlacesFit (marks_of_parts (parts_of (layout e.of))) es vs
pattern-ready e es w s vs is o = record {
  formals = o.formals;
  fits = A.pattern-fits e es o.formals w is o.fits;
  lengths = o.lengths ∙ ap widths_asked (sym (S.asked-by e (V.Pattern es) (Form-F.Pattern es) o.formals w s is (S.out-Pattern es)));
}

pub pattern-narrow : (e : Expr) (w : ℕ) (s : Bool) (vs : List Bits) → Operands e w s vs → (1 ≤ width_of e.of) × (width_of e.of ≤ 4194304)
pattern-narrow e w s vs o = (let h = has-bits e o.fits.typed in omega (arith, h, wide-is e), own-narrow e o.formals w o.fits)

in-Pattern : (of : Layout) (at : ℕ) (ms : List Meaning) (w : ℕ) (s : Bool) (a : Around) → ext w s (stacked (assigned (marks_of_parts (parts_of of)) ms a)) ≡ (O.pattern of at ms).value w s a
unfolding O.pattern
in-Pattern of at ms w s a = ap (λ vs. ext w s (stacked vs)) (sym (A.parts-assigned (parts_of of) ms a))

pub combines-Pattern : (e : Expr) (es : List Expr) (w : ℕ) (s : Bool) (vs rs : List Bits) (r : Bits) → e.form ≡ V.Pattern es → AssignedBy (marks_of_parts (parts_of (layout e.of))) es vs rs → r ≡ ext w s (stacked rs) → Combines e w s vs r
combines-Pattern e es w s vs rs r is by made = record {
  value = λ fs a h.
      let asked = S.asked-by e (V.Pattern es) (Form-F.Pattern es) fs w s is (S.out-Pattern es) in
      made ∙ ap (λ us. ext w s (stacked us)) (by.value a (h ∙ ap (λ qs. all_bits qs a) (sym asked)))
      ∙ in-Pattern (layout e.of) e.spot.at (map meaning es) w s a ∙ sym (ap (λ (m : Meaning). m.value w s a) (A.same-Pattern e es is));
}
