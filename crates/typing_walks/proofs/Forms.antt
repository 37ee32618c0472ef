-- Expressions of sound parts are sound, form by form.
use Rattle.std.proofs.Common.{◌≡◌, ℕ, Bool, false, List, [], ◌∷◌, map, Option, Some, None, ap, sym, ◌∙◌, subst}
use Rattle.std.specs.Prelude.{Ok}
use Rattle.sv_tree.specs.Extents.{signing_token}
use Rattle.sv_tree.specs.declared.expressions.Expr.{Expr-F}
use Rattle.sv_tree.specs.declared.names.Signing.{Signing}
use Rattle.sv_tree.specs.declared.operators.BinaryOperator.{BinaryOperator}
use Rattle.sv_tree.specs.declared.operators.UnaryOperator.{UnaryOperator}
use Rattle.sv_tree.specs.declared.types.KeywordType.{KeywordType}
use Rattle.sv_types.specs.declared.expression.Form.TheVariants as T
use Rattle.sv_types.specs.declared.statement.Function.{Function}
use Rattle.sv_types.specs.declared.types.SvType.{SvType}
use Rattle.expr_type.specs.Breaks.{Quiet}
use Rattle.expr_type.specs.declared.operand.Valued.{Valued}
use Rattle.expr_type.specs.Typings.{Checked, Typing, whole, rule, checked, both, all}
use Rattle.expr_type.specs.Names.{Context, Source, position}
use Rattle.expr_type.specs.Shapes.{vector, is_unpacked}
use Rattle.expr_type.specs.Operands.{Operand, value, parenthesized}
use Rattle.expr_type.specs.Operators.{Alternative, by_itself, binary_of, unary_of, choice_of, inside_of, concat_of, exprs, all_bits}
use Rattle.expr_type.specs.KeywordTypes.{Dim, keyword_type}
use Rattle.expr_type.specs.TargetNames.{is_packed_target}
use Rattle.expr_type.specs.Forms as F
use Rattle.expr_type.specs.Forms.{SelectMeaning, dimensions, type_of_thing}
use Rattle.expr_type.specs.Expressions.{Meaning, of_operand, of_value, CastMeaning, DimensionMeaning, RangeMeaning, keyword_dimensions, Arms, arms, expr_step}
use Rattle.typing_fits.specs.Sound.{Sound, AllSoundAlone}
use Rattle.typing_fits.specs.Alternatives.{AllSoundIn}
use Rattle.typing_fits.specs.Operands.{SoundFixed, SoundStream, SoundOperand}
use Rattle.typing_fits.proofs.Contexts.{refused-then}
use Rattle.typing_fits.proofs.Operators.{ok-is, binary-sound, unary-sound}
use Rattle.typing_fits.proofs.Joins.{all-alone, choice-sound, concat-sound, stream-sound, stream-short, inside-sound}
use Rattle.typing_fits.proofs.Selects.{long-then}
use Rattle.typing_fits.proofs.Numbers.{decimal-sound, based-sound, sized-sound, fill-sound}
use Rattle.typing_fits.proofs.Given.{parenthesized-sound}
use Rattle.typing_walks.specs.Keeps.{Keeps, AllKeep, AllHold, Anything, FullType, SoundInside, SoundRange, Surrounded, SoundMeaning}
use Rattle.typing_walks.proofs.Keeping as K
use Rattle.typing_walks.proofs.Lasting.{valued-lasts, range-lasts, any-lasts, all-valued}
use Rattle.typing_walks.proofs.Operands as O
use Rattle.typing_walks.proofs.Operands.{SomeHold}
use Rattle.typing_walks.proofs.Casts as C
use Rattle.typing_walks.proofs.Casts.{TypeIf}

-- several alternatives
all-ranges : (as' : List Alternative) (gs : List Function) → AllHold SoundRange as' gs → AllSoundIn as' gs
all-ranges [] gs s = tt
all-ranges (a ∷ as') gs s = (s.0, all-ranges as' gs s.1)

-- what is made of parts of which one is there
pub some-alone : (vs : List Valued) (gs : List Function) (s : SomeHold Valued Sound vs gs) → AllSoundAlone (exprs (s.first ∷ s.rest)) gs
some-alone vs gs s = all-alone (s.first ∷ s.rest) gs (s.here, all-valued s.rest gs s.behind)

pub joined-sound : (k : Source) (opening : ℕ) (vs : List Valued) (v : Valued) (gs : List Function) → concat_of k opening (exprs vs) ≡ Ok v → SomeHold Valued Sound vs gs → Sound v gs
joined-sound k opening vs v gs h s =
    concat-sound k opening s.first.expr (exprs s.rest) v gs (ap (λ (us : List Valued). concat_of k opening (exprs us)) (sym s.is) ∙ h) (some-alone vs gs s)

abbrev valued_ok : Valued → Checked Valued
valued_ok v = Ok v

pub joined-none : (k : Source) (opening : ℕ) (vs : List Valued) (v : Valued) → concat_of k opening (exprs vs) ≡ Ok v → v.arithmetic ≡ []
joined-none k opening vs v h =
    let w = all_bits (exprs vs) in
    let a = by_itself k opening (vector w false) (T.Concat (exprs vs)) in
    ap (λ (x : Valued). x.arithmetic) (sym (ok-is a v (long-then k opening w (Ok a) v h)))

pub streamed-fixed : (k : Source) (opening : ℕ) (reversed : Bool) (n : ℕ) (vs : List Valued) (v : Valued) (gs : List Function) → F.stream_of k opening reversed n (exprs vs) ≡ Ok v → SomeHold Valued Sound vs gs → SoundFixed v gs
streamed-fixed k opening reversed n vs v gs h s =
    let w = all_bits (exprs vs) in
    let a = by_itself k opening (vector w false) (T.Stream reversed n (exprs vs)) in
    record {
      none = ap (λ (x : Valued). x.arithmetic) (sym (ok-is a v (long-then k opening w (Ok a) v h)));
      sound = stream-sound k opening reversed n s.first.expr (exprs s.rest) v gs (ap (λ (us : List Valued). F.stream_of k opening reversed n (exprs us)) (sym s.is) ∙ h) (some-alone vs gs s);
    }

pub streamed-made : (k : Source) (opening : ℕ) (reversed : Bool) (n : ℕ) (vs : List Valued) (v : Valued) (gs : List Function) → F.stream_of k opening reversed n (exprs vs) ≡ Ok v → SomeHold Valued Sound vs gs → SoundStream v gs
streamed-made k opening reversed n vs v gs h s =
    let fixed = streamed-fixed k opening reversed n vs v gs h s in
    record {
      none = fixed.none;
      sound = fixed.sound;
      short = stream-short k opening reversed n s.first.expr (exprs s.rest) v gs (ap (λ (us : List Valued). F.stream_of k opening reversed n (exprs us)) (sym s.is) ∙ h) (some-alone vs gs s);
    }

pub packed-fixed : (k : Source) (v u : Valued) (gs : List Function) → is_packed_target k v ≡ Ok u → SoundFixed v gs → SoundFixed u gs
packed-fixed k v u gs h s = subst (λ x. SoundFixed x gs) (ok-is v u (refused-then (is_unpacked v.expr.of) (position k v.first) 508 (Ok v) u h)) s

fixed-sounds : (vs : List Valued) (gs : List Function) → AllHold SoundFixed vs gs → AllHold Sound vs gs
fixed-sounds [] gs s = tt
fixed-sounds (v ∷ vs) gs s = (s.0.sound, fixed-sounds vs gs s.1)

pub some-fixed : (vs : List Valued) (gs : List Function) → SomeHold Valued SoundFixed vs gs → SomeHold Valued Sound vs gs
some-fixed vs gs s = record { first = s.first; rest = s.rest; is = s.is; here = s.here.sound; behind = fixed-sounds s.rest gs s.behind }

abbrev none_of : {A : Type 0} → Option (Typing A)
none_of = None

module _ (Q : List Function → Type 0) where
  -- meanings without a type or a target
  no-types : {A : Type 0} (P : A → List Function → Type 0) (x : Typing A) → none_of {A = A} ≡ Some x → Keeps Q P x
  no-types P x h = absurd (cc)

  pub operand-meaning : (f : Context → Typing Operand) → ((k : Context) → Surrounded Q k → Keeps Q SoundOperand (f k)) → SoundMeaning Q (of_operand f)
  operand-meaning f h = record { typed = h; as_type = λ k r x e. no-types FullType x e; as_target = λ k r x e. no-types SoundFixed x e }

  pub value-meaning : (f : Context → Typing Valued) → ((k : Context) → Surrounded Q k → Keeps Q Sound (f k)) → SoundMeaning Q (of_value f)
  value-meaning f h = operand-meaning (λ k. F.plain (f k)) (λ k r. O.plain-keeps Q (f k) (h k r))

  abbrev pub AllMeanings : List Meaning → Type 0
  AllMeanings [] = Unit {0}
  AllMeanings (e ∷ es) = SoundMeaning Q e × AllMeanings es

  abbrev pub Gives : {A : Type 0} → (A → List Function → Type 0) → (Context → Typing A) → Type 0
  Gives P f = (k : Context) → Surrounded Q k → Keeps Q P (f k)

  abbrev pub AllGive : {A : Type 0} → (A → List Function → Type 0) → List (Context → Typing A) → Type 0
  AllGive P [] = Unit {0}
  AllGive P (f ∷ fs) = Gives P f × AllGive P fs

  pub each-gives : {A : Type 0} (P : A → List Function → Type 0) (fs : List (Context → Typing A)) (k : Context) → Surrounded Q k → AllGive P fs → AllKeep Q P (map (λ (f : Context → Typing A). f k) fs)
  each-gives P [] k r s = tt
  each-gives P (f ∷ fs) k r s = (s.0 k r, each-gives P fs k r s.1)

  pub value-of : (k : Context) (e : Meaning) → Surrounded Q k → SoundMeaning Q e → Keeps Q Sound (value k.source (e.typed k))
  value-of k e r s = O.value-keeps Q k.source (e.typed k) (s.typed k r)

  -- operators
  pub binary-form : (left : Meaning) (op : BinaryOperator) (at : ℕ) (right : Meaning) → SoundMeaning Q left → SoundMeaning Q right → SoundMeaning Q (expr_step (Expr-F.Binary left op at right))
  binary-form left op at right s t =
      value-meaning (λ k. both (value k.source (left.typed k)) (value k.source (right.typed k)) (λ l r. rule (binary_of op k.source at l r)))
      (λ k r.
      K.both-keeps Q Sound Sound Sound (value k.source (left.typed k)) (value k.source (right.typed k)) (λ x y. rule (binary_of op k.source at x y)) valued-lasts (value-of k left r s) (value-of k right r t)
      (λ x y js q a b. K.rule-kept Q Sound (binary_of op k.source at x y) js q (λ v e. binary-sound op k.source at x y v js e a b)))

  pub unary-form : (op : UnaryOperator) (at : ℕ) (operand : Meaning) → SoundMeaning Q operand → SoundMeaning Q (expr_step (Expr-F.Unary op at operand))
  unary-form op at operand s =
      value-meaning (λ k. checked (value k.source (operand.typed k)) (λ v. rule (unary_of op k.source at v)))
      (λ k r.
      K.checked-keeps Q Sound Sound (value k.source (operand.typed k)) (λ v. rule (unary_of op k.source at v)) (value-of k operand r s)
      (λ v js q a. K.rule-kept Q Sound (unary_of op k.source at v) js q (λ u e. unary-sound op k.source at v u js e a)))

  abbrev SoundArms : Arms → List Function → Type 0
  SoundArms a gs = Sound a.first gs × Sound a.second gs

  pub conditional-form : (test : Meaning) (question : ℕ) (first : Meaning) (colon : ℕ) (second : Meaning) → SoundMeaning Q test → SoundMeaning Q first → SoundMeaning Q second
      → SoundMeaning Q (expr_step (Expr-F.Conditional test question first colon second))
  conditional-form test question first colon second s t u =
      value-meaning (λ k. both (value k.source (test.typed k)) (both (value k.source (first.typed k)) (value k.source (second.typed k)) arms) (λ on a. rule (choice_of k.source question on a.first a.second)))
      (λ k r.
      K.both-keeps Q Sound SoundArms Sound (value k.source (test.typed k)) (both (value k.source (first.typed k)) (value k.source (second.typed k)) arms) (λ on a. rule (choice_of k.source question on a.first a.second))
      valued-lasts (value-of k test r s)
      (K.both-keeps Q Sound Sound SoundArms (value k.source (first.typed k)) (value k.source (second.typed k)) arms valued-lasts (value-of k first r t) (value-of k second r u)
      (λ x y js q a b. K.whole-kept Q SoundArms (record { first = x; second = y }) js q (a, b)))
      (λ on p js q a b. K.rule-kept Q Sound (choice_of k.source question on p.first p.second) js q (λ v e. choice-sound k.source question on p.first p.second v js e a b.0 b.1)))

  pub inside-form : (sought : Meaning) (keyword opening : ℕ) (ranges : List RangeMeaning) (closing : ℕ) → SoundMeaning Q sought → AllGive SoundRange ranges → SoundMeaning Q (expr_step (Expr-F.Inside sought keyword opening ranges closing))
  inside-form sought keyword opening ranges closing s t =
      value-meaning (λ k. both (value k.source (sought.typed k)) (all (map (λ (r : RangeMeaning). r k) ranges)) (λ v as'. rule (inside_of k.source keyword v as')))
      (λ k r.
      K.both-keeps Q Sound (λ as' gs. AllHold SoundRange as' gs) Sound (value k.source (sought.typed k)) (all (map (λ (f : RangeMeaning). f k) ranges)) (λ v as'. rule (inside_of k.source keyword v as')) valued-lasts
      (value-of k sought r s) (K.all-keeps Q SoundRange (map (λ (f : RangeMeaning). f k) ranges) range-lasts (each-gives SoundRange ranges k r t))
      (λ v as' js q a b. K.rule-kept Q Sound (inside_of k.source keyword v as') js q (λ u e. inside-sound k.source keyword v u as' js e a (all-ranges as' js b))))

  -- numbers
  pub decimal-form : (at : ℕ) → SoundMeaning Q (expr_step (Expr-F.«Expr::Decimal» at))
  decimal-form at = value-meaning (λ k. rule (F.decimal k.source at)) (λ k r. K.rule-keeps Q Sound (F.decimal k.source at) (λ gs v e. decimal-sound k.source at v gs e))

  pub based-form : (at : ℕ) → SoundMeaning Q (expr_step (Expr-F.Based at))
  based-form at = value-meaning (λ k. rule (F.based k.source at)) (λ k r. K.rule-keeps Q Sound (F.based k.source at) (λ gs v e. based-sound k.source at v gs e))

  pub sized-form : (size at : ℕ) → SoundMeaning Q (expr_step (Expr-F.Sized size at))
  sized-form size at = value-meaning (λ k. rule (F.sized_number k.source size at)) (λ k r. K.rule-keeps Q Sound (F.sized_number k.source size at) (λ gs v e. sized-sound k.source size at v gs e))

  pub fill-form : (at : ℕ) → SoundMeaning Q (expr_step (Expr-F.Fill at))
  fill-form at = value-meaning (λ k. rule (F.fill k.source at)) (λ k r. K.rule-keeps Q Sound (F.fill k.source at) (λ gs v e. fill-sound k.source at v gs e))

  -- casts
  pub written-form : (size : ℕ) (cast : CastMeaning) → Gives SoundInside cast → SoundMeaning Q (expr_step (Expr-F.SizeCast size cast))
  written-form size cast s = value-meaning (λ k. F.by_written_size k.source size (cast k)) (λ k r. C.written-keeps Q k.source size (cast k) (s k r))

  pub parenthesized-form : (opening : ℕ) (inner : Meaning) (closing : ℕ) → SoundMeaning Q inner → SoundMeaning Q (expr_step (Expr-F.«Expr::Parenthesized» opening inner closing None))
  parenthesized-form opening inner closing s =
      operand-meaning (λ k. checked (inner.typed k) (λ o. whole (parenthesized opening o)))
      (λ k r. K.checked-keeps Q SoundOperand SoundOperand (inner.typed k) (λ o. whole (parenthesized opening o)) (s.typed k r) (λ o js q a. K.whole-kept Q SoundOperand (parenthesized opening o) js q (parenthesized-sound opening o js a)))

  pub parenthesized-cast : (opening : ℕ) (inner : Meaning) (closing : ℕ) (cast : CastMeaning) → SoundMeaning Q inner → Gives SoundInside cast → SoundMeaning Q (expr_step (Expr-F.«Expr::Parenthesized» opening inner closing (Some cast)))
  parenthesized-cast opening inner closing cast s t = value-meaning (λ k. F.by_size k.source opening (inner.typed k) (cast k)) (λ k r. C.size-keeps Q k.source opening (inner.typed k) (cast k) (s.typed k r) (t k r))

  pub signing-form : (signing : Signing) (cast : CastMeaning) → Gives SoundInside cast → SoundMeaning Q (expr_step (Expr-F.SigningCast signing cast))
  signing-form signing cast s =
      value-meaning (λ k. F.by_sign k.source (signing_token signing) (F.is_signed_by signing) (cast k)) (λ k r. C.sign-keeps Q k.source (signing_token signing) (F.is_signed_by signing) (cast k) (s k r))

  abbrev SoundDims : List Dim → List Function → Type 0
  SoundDims ds gs = AllHold Anything ds gs

  weaken : {A : Type 0} (P : A → List Function → Type 0) (x : Typing A) → Keeps Q P x → Keeps Q Anything x
  weaken P x h gs q = let k = h gs q in record { extends = k.extends; kept = k.kept; sound = λ a e. tt }

  keyword-keeps : (k : Context) (of : KeywordType) (ds : List DimensionMeaning) → Surrounded Q k → AllGive Anything ds → Keeps Q FullType (checked (keyword_dimensions k ds) (λ es. whole (keyword_type of es)))
  keyword-keeps k of ds r s =
      K.checked-keeps Q SoundDims FullType (keyword_dimensions k ds) (λ es. whole (keyword_type of es)) (K.all-keeps Q Anything (map (λ (d : DimensionMeaning). d k) ds) any-lasts (each-gives Anything ds k r s))
      (λ es js q a. K.whole-kept Q FullType (keyword_type of es) js q (C.full-keyword of es))

  abbrev some_type : Typing SvType → Option (Typing SvType)
  some_type x = Some x

  pub type-form : (of : KeywordType) (ds : List DimensionMeaning) → AllGive Anything ds → SoundMeaning Q (expr_step (Expr-F.Type of ds None))
  type-form of ds s = record {
    typed = λ k r. K.broken-keeps Q SoundOperand Quiet;
    as_type = λ k r x e. is-type k r x e;
    as_target = λ k r x e. no-types SoundFixed x e;
  }
    where
      is-type : (k : Context) → Surrounded Q k → (x : Typing SvType) → some_type (checked (keyword_dimensions k ds) (λ es. whole (keyword_type of es))) ≡ Some x → Keeps Q FullType x
      is-type k r x e = let is : checked (keyword_dimensions k ds) (λ es. whole (keyword_type of es)) ≡ x = cc in subst (λ y. Keeps Q FullType y) is (keyword-keeps k of ds r s)

  pub type-cast : (of : KeywordType) (ds : List DimensionMeaning) (cast : CastMeaning) → AllGive Anything ds → Gives SoundInside cast → SoundMeaning Q (expr_step (Expr-F.Type of ds (Some cast)))
  type-cast of ds cast s t =
      value-meaning (λ k. F.by_type k.source of.at (checked (keyword_dimensions k ds) (λ es. whole (keyword_type of es))) (cast k))
      (λ k r. C.type-keeps Q k.source of.at (checked (keyword_dimensions k ds) (λ es. whole (keyword_type of es))) (cast k) (keyword-keeps k of ds r s) (t k r))

  pub system-form : (name opening : ℕ) (argument : Meaning) (closing : ℕ) → SoundMeaning Q argument → SoundMeaning Q (expr_step (Expr-F.SystemCall name opening argument closing))
  system-form name opening argument closing s =
      value-meaning (λ k. F.system_call k.source name (argument.as_type k) (argument.typed k)) (λ k r. C.system-keeps Q k.source name (argument.as_type k) (argument.typed k) (s.typed k r) (s.as_type k r))
