-- Casts, system functions, calls and the types that names and words stand for.
use Rattle.std.proofs.Common.{◌≡◌, ℕ, ◌<◌, Bool, true, false, ◌||◌, ◌==◌, cond, List, [], ◌∷◌, length, Option, Some, None, refl, arith, ◌∙◌, subst}
use Rattle.std.specs.Prelude.{pos, ◌^◌, nat_le, unsigned_abs, codes, Ok, Err}
use Rattle.std.proofs.lemmas.Bool.Decides.{nat_tests}
use Rattle.sv_tree.specs.declared.names.QualifiedName.{QualifiedName}
use Rattle.sv_tree.specs.declared.types.KeywordType.{KeywordType}
use Rattle.sv_tree.specs.Extents.{qualified_first}
use Rattle.sv_types.specs.declared.expression.Form.TheVariants as F
use Rattle.sv_types.specs.declared.statement.Function.{Function}
use Rattle.sv_types.specs.declared.types.SvType.{SvType}
use Rattle.sv_types.specs.declared.types.SvType.TheVariants as V
use Rattle.sv_types.specs.Layouts.{width_of}
use Rattle.expr_type.specs.Breaks.{Position, At, Quiet}
use Rattle.expr_type.specs.declared.operand.Valued.{Valued}
use Rattle.expr_type.specs.Literals as D
use Rattle.expr_type.specs.Typings.{Checked, Typing, whole, broken, rule, checked, all}
use Rattle.expr_type.specs.Names.{Called, Context, Source, Thing, Signal, Local, Constant, TypeName, Interface, Other, Nothing, position, word, thing}
use Rattle.expr_type.specs.Shapes.{integer, is_unpacked}
use Rattle.expr_type.specs.Operands.{Operand, value, bits_in, number_within, width}
use Rattle.expr_type.specs.Operators.{by_itself}
use Rattle.expr_type.specs.KeywordTypes as W
use Rattle.expr_type.specs.KeywordTypes.{Dim, Word, word_of, signed_by, packed, named_type, keyword_type}
use Rattle.expr_type.specs.Forms as R
use Rattle.expr_type.specs.Forms.{Inside, bits_inside, not_pattern, by_size, by_written_size, written_size, by_sign, by_type, type_cast, size_cast, system_call, call, call_of, counted_call, finds_count, miscounted, needed, with_other_count, type_of_thing, under, dimensioned}
use Rattle.typing_fits.specs.Types.{is_full}
use Rattle.typing_fits.specs.Sound.{Sound}
use Rattle.typing_fits.specs.Operands.{SoundOperand, KnownCall, SoundThing, SoundContext}
use Rattle.typing_fits.proofs.Contexts.{refused-no, refused-then}
use Rattle.typing_fits.proofs.Full.{full-Scalar, full-PackedArray}
use Rattle.typing_fits.proofs.Numbers.{type-sound, size-sound, signed-sound, bits-number-sound, clog2-sound}
use Rattle.typing_fits.proofs.Calls.{call-sound}
use Rattle.typing_fits.proofs.Names.{thing-sound}
use Rattle.typing_walks.specs.Keeps.{Kept, Keeps, AllKeep, AllHold, Anything, FullType, SoundInside, InRange, Surrounded}
use Rattle.typing_walks.proofs.Keeping as K
use Rattle.typing_walks.proofs.Lasting.{call-lasts, full-lasts, operand-lasts, all-operands}
use Rattle.typing_walks.proofs.Operands as O
use Rattle.typing_walks.proofs.Operands.{at-least-one}

-- types that words and dimensions give are full
full-plain : (four : Bool) (n : Option ℕ) (s : Bool) → is_full (W.plain four n s) ≡ true
full-plain four None s = full-Scalar four s
full-plain four (Some w) s = full-PackedArray _ _ s (V.Scalar four false) ∙ full-Scalar four false

pub full-packed : (s : Bool) (ds : List Dim) (of : Bool → SvType) → ((b : Bool) → is_full (of b) ≡ true) → is_full (packed s ds of) ≡ true
full-packed s [] of h = h s
full-packed s (d ∷ ds) of h = full-PackedArray d.left d.right s (packed false ds of) ∙ full-packed false ds of h

pub full-keyword : (w : KeywordType) (ds : List Dim) → is_full (keyword_type w ds) ≡ true
full-keyword w ds =
    let of = word_of w.keyword in
    full-packed (signed_by of.signed w.signing) ds (W.plain of.four of.bits) (λ s. full-plain of.four of.bits s)

pub full-named : (t : SvType) (ds : List Dim) → is_full t ≡ true → is_full (named_type t ds) ≡ true
full-named t ds h = full-packed false ds (λ s. t) (λ s. h)

abbrev type_ok : SvType → Checked SvType
type_ok t = Ok t

full-under : (k : Source) (t u : SvType) (ds : List Dim) → under k t ds ≡ Ok u → is_full t ≡ true → is_full u ≡ true
full-under k t u [] h full = let e : type_ok t ≡ Ok u = h in let is : t ≡ u = cc in subst (λ x. is_full x ≡ true) is full
full-under k t u (d ∷ ds) h full =
    let e : type_ok (named_type t (d ∷ ds)) ≡ Ok u = refused-then (is_unpacked t) (position k d.opening) 404 (Ok (named_type t (d ∷ ds))) u h in
    let is : named_type t (d ∷ ds) ≡ u = cc in
    subst (λ x. is_full x ≡ true) is (full-named t (d ∷ ds) full)

-- the type that a name stands for
abbrev pub TypeIf : Option SvType → Type 0
TypeIf None = Unit {0}
TypeIf (Some t) = is_full t ≡ true

type-of : (t : Thing) → SoundThing t → TypeIf (type_of_thing t)
type-of (Signal n t) s = tt
type-of (Local n t) s = tt
type-of (Constant t v) s = tt
type-of (TypeName t) s = s
type-of (Interface n) s = tt
type-of (Other n) s = tt
type-of Nothing s = tt

pub type-named : (k : Context) (of : QualifiedName) → SoundContext k → TypeIf (type_of_thing (thing k of))
type-named k of s = type-of (thing k of) (thing-sound k of s)

-- a size that is written
some-by : (n : ℕ) (b : Bool) → (n == 0) ≡ b → (b || nat_le (2 ^ 32) n) ≡ false → 0 < n
some-by n true is h = absurd (cc)
some-by n false is h = grind (arith, nat_tests, is)

abbrev nat_ok : ℕ → Checked ℕ
nat_ok n = Ok n

written-some : (k : Source) (at n : ℕ) → written_size k at ≡ Ok n → 0 < n
written-some k at n h =
    let m = D.decimal (word k at) in
    let some = some-by m (m == 0) refl (refused-no (m == 0 || nat_le (2 ^ 32) m) (position k at) 411 (Ok m) n h) in
    let is : nat_ok m ≡ Ok n = refused-then (m == 0 || nat_le (2 ^ 32) m) (position k at) 411 (Ok m) n h in
    let same : m ≡ n = cc in
    subst (λ x. 0 < x) same some

module _ (Q : List Function → Type 0) where
  abbrev SoundPair : ℕ × Valued → List Function → Type 0
  SoundPair p gs = Sound p.1 gs

  -- what stands in a cast
  inside-by : (k : Source) (i : Inside) (b : Bool) (gs : List Function) → Q gs → SoundOperand i.of gs
      → Kept (ℕ × Valued) Q SoundPair gs (cond b (broken (At (position k i.tick) 505)) (checked (bits_in k (whole i.of)) (λ v. whole (i.tick, v))) gs)
  inside-by k i true gs q s = K.broken-keeps Q SoundPair (At (position k i.tick) 505) gs q
  inside-by k i false gs q s =
      K.checked-kept Q Sound SoundPair (bits_in k (whole i.of)) (λ v. whole (i.tick, v)) gs (O.bits-from Q k i.of gs q s) (λ v js r x. K.whole-kept Q SoundPair (i.tick, v) js r x)

  pub inside-keeps : (k : Source) (x : Typing Inside) → Keeps Q SoundInside x → Keeps Q SoundPair (bits_inside k x)
  inside-keeps k x h =
      K.checked-keeps Q SoundInside SoundPair x (λ i. not_pattern k i (checked (bits_in k (whole i.of)) (λ v. whole (i.tick, v)))) h (λ i js q s. inside-by k i i.is_pattern js q s)

  pub size-keeps : (k : Source) (first : ℕ) (x : Typing Operand) (i : Typing Inside) → Keeps Q SoundOperand x → Keeps Q SoundInside i → Keeps Q Sound (by_size k first x i)
  size-keeps k first x i h g =
      K.both-keeps Q (InRange (pos 1) R.most_of_size) SoundPair Sound (number_within k (pos 1) R.most_of_size x) (bits_inside k i) (λ n p. rule (size_cast k first (unsigned_abs n.number) p)) (λ n gs hs e s. s)
      (O.number-keeps Q k (pos 1) R.most_of_size x h) (inside-keeps k i g)
      (λ n p js q s y. K.rule-kept Q Sound (size_cast k first (unsigned_abs n.number) p) js q (λ v e. size-sound k first (unsigned_abs n.number) p v js e (at-least-one n.number s.0) y))

  pub written-keeps : (k : Source) (at : ℕ) (i : Typing Inside) → Keeps Q SoundInside i → Keeps Q Sound (by_written_size k at i)
  written-keeps k at i g =
      K.both-keeps Q (λ n gs. 0 < n) SoundPair Sound (rule (written_size k at)) (bits_inside k i) (λ n p. rule (size_cast k at n p)) (λ n gs hs e s. s)
      (K.rule-keeps Q (λ n gs. 0 < n) (written_size k at) (λ gs n e. written-some k at n e)) (inside-keeps k i g)
      (λ n p js q s y. K.rule-kept Q Sound (size_cast k at n p) js q (λ v e. size-sound k at n p v js e s y))

  pub sign-keeps : (k : Source) (first : ℕ) (s : Bool) (i : Typing Inside) → Keeps Q SoundInside i → Keeps Q Sound (by_sign k first s i)
  sign-keeps k first s i g =
      K.checked-keeps Q SoundPair Sound (bits_inside k i) (λ p. whole (R.with_sign k first s p.1)) (inside-keeps k i g) (λ p js q y. K.whole-kept Q Sound (R.with_sign k first s p.1) js q (signed-sound k first s p.1 js y))

  pub type-keeps : (k : Source) (first : ℕ) (t : Typing SvType) (i : Typing Inside) → Keeps Q FullType t → Keeps Q SoundInside i → Keeps Q Sound (by_type k first t i)
  type-keeps k first t i h g =
      K.both-keeps Q FullType SoundInside Sound t i (λ u j. rule (type_cast k first u j)) full-lasts h g (λ u j js q full s. K.rule-kept Q Sound (type_cast k first u j) js q (λ v e. type-sound k first u j v js e full s))

  -- types with dimensions
  pub dimensioned-keeps : (k : Source) (t : SvType) (ds : Typing (List Dim)) → is_full t ≡ true → Keeps Q Anything ds → Keeps Q FullType (dimensioned k t ds)
  dimensioned-keeps k t ds full h = K.checked-keeps Q Anything FullType ds (λ d. rule (under k t d)) h (λ d js q s. K.rule-kept Q FullType (under k t d) js q (λ u e. full-under k t u d e full))

  -- system functions
  bits-keeps : (k : Source) (name : ℕ) (t : Option (Typing SvType)) (x : Typing Operand) → Keeps Q SoundOperand x → ((y : Typing SvType) → t ≡ Some y → Keeps Q FullType y) → Keeps Q Sound (R.bits_of k name t x)
  bits-keeps k name (Some t) x h g =
      K.checked-keeps Q FullType Sound t (λ u. whole (R.bits_number k name (width_of u))) (g t refl) (λ u js q s. K.whole-kept Q Sound (R.bits_number k name (width_of u)) js q (bits-number-sound k name (width_of u) js))
  bits-keeps k name None x h g =
      K.checked-keeps Q Sound Sound (value k x) (λ v. whole (R.bits_number k name (width v))) (O.value-keeps Q k x h) (λ v js q s. K.whole-kept Q Sound (R.bits_number k name (width v)) js q (bits-number-sound k name (width v) js))

  other-by : (k : Source) (name : ℕ) (b : Bool) (v : Valued) (gs : List Function) → Q gs → Sound v gs
      → Kept Valued Q Sound gs (cond b (whole (by_itself k name integer (F.Clog2 v.expr))) (whole (R.with_sign k name (R.is_word k name (codes "$signed")) v)) gs)
  other-by k name true v gs q s = K.whole-kept Q Sound (by_itself k name integer (F.Clog2 v.expr)) gs q (clog2-sound k name v gs s)
  other-by k name false v gs q s =
      K.whole-kept Q Sound (R.with_sign k name (R.is_word k name (codes "$signed")) v) gs q (signed-sound k name (R.is_word k name (codes "$signed")) v gs s)

  system-by : (k : Source) (name : ℕ) (b : Bool) (x : Typing Valued) (y : Typing Valued) → Keeps Q Sound x → Keeps Q Sound y → Keeps Q Sound (cond b x y)
  system-by k name true x y h g = h
  system-by k name false x y h g = g

  pub system-keeps : (k : Source) (name : ℕ) (t : Option (Typing SvType)) (x : Typing Operand) → Keeps Q SoundOperand x → ((y : Typing SvType) → t ≡ Some y → Keeps Q FullType y) → Keeps Q Sound (system_call k name t x)
  system-keeps k name t x h g =
      let f = λ (v : Valued). cond (R.is_word k name (codes "$clog2")) (whole (by_itself k name integer (F.Clog2 v.expr))) (whole (R.with_sign k name (R.is_word k name (codes "$signed")) v)) in
      system-by k name (R.is_word k name (codes "$bits")) (R.bits_of k name t x) (checked (bits_in k x) f) (bits-keeps k name t x h g)
      (K.checked-keeps Q Sound Sound (bits_in k x) f (O.bits-keeps Q k x h) (λ v js q s. other-by k name (R.is_word k name (codes "$clog2")) v js q s))

  -- calls
  pub needed-keeps : (k : Context) (at : ℕ) (n : Option ℕ) → Surrounded Q k → Keeps Q KnownCall (needed k at n)
  needed-keeps k at None r = K.broken-keeps Q KnownCall Quiet
  needed-keeps k at (Some n) r = K.from-keeps Q KnownCall (position k.source at) (k.routine n) (r.routines n)

  -- one with another number of actuals is never whole
  never-whole : {A B : Type 0} (p : Position) (x : Checked Called) (y : Checked A) (b : B) → miscounted p x y ≡ Ok b → ⊥
  never-whole p x (Ok a) b h = cc
  never-whole p (Ok c) (Err e) b h = cc
  never-whole p (Err d) (Err e) b h = cc

  pub other-keeps : {A B : Type 0} (P : B → List Function → Type 0) (p : Position) (x : Typing Called) (y : Typing A) → Keeps Q KnownCall x → Keeps Q P (with_other_count p x y)
  other-keeps P p x y h gs q =
      let k = h gs q in
      record { extends = k.extends; kept = k.kept; sound = λ b e. absurd (never-whole p (x gs).result (y gs).result b e) }

  counted-keeps : (k : Context) (of : QualifiedName) (xs : List (Typing Operand)) → Surrounded Q k → AllKeep Q SoundOperand xs → Keeps Q Sound (counted_call k of xs)
  counted-keeps k of xs r h =
      K.both-keeps Q KnownCall (λ os gs. AllHold SoundOperand os gs) Sound (needed k of.name (k.finds of)) (all xs) (λ c os. rule (call_of k.source (qualified_first of) of.name c os)) call-lasts
      (needed-keeps k of.name (k.finds of) r) (K.all-keeps Q SoundOperand xs operand-lasts h)
      (λ c os js q s y. K.rule-kept Q Sound (call_of k.source (qualified_first of) of.name c os) js q (λ v e. call-sound k.source (qualified_first of) of.name c os v js e s (all-operands os js y)))

  call-by : (k : Context) (of : QualifiedName) (xs : List (Typing Operand)) (b : Bool) → Surrounded Q k → AllKeep Q SoundOperand xs
      → Keeps Q Sound (cond b (counted_call k of xs) (with_other_count (position k.source of.name) (needed k of.name (k.finds of)) (all xs)))
  call-by k of xs true r h = counted-keeps k of xs r h
  call-by k of xs false r h = other-keeps Sound (position k.source of.name) (needed k of.name (k.finds of)) (all xs) (needed-keeps k of.name (k.finds of) r)

  pub call-keeps : (k : Context) (of : QualifiedName) (xs : List (Typing Operand)) → Surrounded Q k → AllKeep Q SoundOperand xs → Keeps Q Sound (call k of xs)
  call-keeps k of xs r h = call-by k of xs (finds_count k (k.finds of) (length xs)) r h
