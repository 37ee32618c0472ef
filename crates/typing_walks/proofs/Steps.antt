-- Lists of parts, names, calls, patterns and selects, form by form.
use Rattle.std.proofs.Common.{◌≡◌, ℕ, ◌<◌, true, false, List, [], ◌∷◌, map, Option, Some, None, refl, ap, sym, ◌∙◌, subst}
use Rattle.std.specs.Prelude.{pos, ◌-ℤ◌, neg_ℤ, ◌^◌, unsigned_abs, Ok}
use Rattle.std.specs.Option.{option_map}
use Rattle.sv_tree.specs.Extents.{qualified_first}
use Rattle.sv_tree.specs.declared.expressions.Cast.{Cast-F}
use Rattle.sv_tree.specs.declared.expressions.Dimension.{Dimension-F}
use Rattle.sv_tree.specs.declared.expressions.Expr.{Expr-F}
use Rattle.sv_tree.specs.declared.expressions.Pattern.{Pattern-F}
use Rattle.sv_tree.specs.declared.expressions.PatternItem.{PatternItem-F}
use Rattle.sv_tree.specs.declared.expressions.Select.{Select-F}
use Rattle.sv_tree.specs.declared.expressions.SliceSize.{SliceSize-F}
use Rattle.sv_tree.specs.declared.expressions.ValueRange.{ValueRange-F}
use Rattle.sv_tree.specs.declared.names.QualifiedName.{QualifiedName}
use Rattle.sv_tree.specs.declared.operators.PartOperator.{PartOperator}
use Rattle.sv_tree.specs.declared.operators.PartOperator.TheVariants as W
use Rattle.sv_tree.specs.declared.operators.StreamOperator.{StreamOperator}
use Rattle.sv_tree.specs.declared.types.KeywordType.{KeywordType}
use Rattle.sv_types.specs.declared.statement.Function.{Function}
use Rattle.sv_types.specs.declared.types.SvType.{SvType}
use Rattle.sv_types.specs.Layouts.{width_of}
use Rattle.expr_type.specs.Breaks.{Quiet}
use Rattle.expr_type.specs.declared.operand.Valued.{Valued}
use Rattle.expr_type.specs.declared.step.Step.TheVariants as S
use Rattle.expr_type.specs.Literals as D
use Rattle.expr_type.specs.Typings.{Checked, Typing, whole, rule, by_functions, checked, both, all}
use Rattle.expr_type.specs.Names.{Context, Source, thing, word}
use Rattle.expr_type.specs.Operands as V
use Rattle.expr_type.specs.Operands.{Operand, value, unstreamed, constant_in, number_within}
use Rattle.expr_type.specs.Operators.{Only, From, concat_of, exprs, repeat_of}
use Rattle.expr_type.specs.KeywordTypes.{keyword_type}
use Rattle.expr_type.specs.Selects.{bound_in, width_in, index_in}
use Rattle.expr_type.specs.TargetNames.{packed_target, is_packed_target}
use Rattle.expr_type.specs.Forms as F
use Rattle.expr_type.specs.Forms.{Inside, SelectMeaning, dimensions, type_of_thing}
use Rattle.expr_type.specs.Patterns.{Item, ItemKey, InPlace, ByDefault, Named, Numbered}
use Rattle.expr_type.specs.Expressions.{Meaning, part, parts, count, PatternMeaning, ItemMeaning, SliceMeaning, pattern_operand, cast_step, most_of_unpacked, between, bounds, dimension_step, if_all, slice_or_one, stream, expr_step, pattern_step, key_number, is_key, keyed_item, pattern_item_step, part_step, part_dimension, select_step, slice_size_step, value_range_step}
use Rattle.typing_fits.specs.Sound.{Sound}
use Rattle.typing_fits.specs.Operands.{SoundFixed, SoundStream, SoundOperand}
use Rattle.typing_fits.specs.Patterns.{AllSoundItems}
use Rattle.typing_fits.specs.Selects.{SoundIndex, SoundStep}
use Rattle.typing_fits.proofs.Joins.{repeat-sound}
use Rattle.typing_fits.proofs.Patterns.{fitted-sound}
use Rattle.typing_walks.specs.Keeps.{Keeps, AllKeep, AllHold, Anything, SoundInside, SoundParts, SoundItem, SoundRange, InRange, Surrounded, SoundMeaning, SoundSelect}
use Rattle.typing_walks.proofs.Keeping as K
use Rattle.typing_walks.proofs.Lasting.{valued-lasts, operand-lasts, fixed-lasts, index-lasts, any-lasts, item-lasts, all-items}
use Rattle.typing_walks.proofs.Operands as O
use Rattle.typing_walks.proofs.Operands.{SomeHold}
use Rattle.typing_walks.proofs.Paths as P
use Rattle.typing_walks.proofs.Paths.{SelectsSound}
use Rattle.typing_walks.proofs.Forms as X
use Rattle.typing_walks.proofs.Forms.{AllMeanings, Gives, AllGive, some-alone, joined-sound, joined-none, streamed-made, packed-fixed, some-fixed}

repeated-sound : (k : Source) (opening n : ℕ) (vs : List Valued) (v : Valued) (gs : List Function) → repeat_of k opening n (exprs vs) ≡ Ok v → 0 < n → SomeHold Valued Sound vs gs → Sound v gs
repeated-sound k opening n vs v gs h some s =
    repeat-sound k opening n s.first.expr (exprs s.rest) v gs (ap (λ (us : List Valued). repeat_of k opening n (exprs us)) (sym s.is) ∙ h) some (some-alone vs gs s)

-- items of a repeated pattern
abbrev in_place : Operand → Item
in_place o = record { key = InPlace; value = o }

placed-items : (os : List Operand) (gs : List Function) → AllHold SoundOperand os gs → AllSoundItems (map in_place os) gs
placed-items [] gs s = tt
placed-items (o ∷ os) gs s = (s.0, placed-items os gs s.1)

abbrev some_typing : {A : Type 0} → Typing A → Option (Typing A)
some_typing x = Some x

module _ (Q : List Function → Type 0) where
  weaken : {A : Type 0} (P : A → List Function → Type 0) (x : Typing A) → Keeps Q P x → Keeps Q Anything x
  weaken P x h gs q = let k = h gs q in record { extends = k.extends; kept = k.kept; sound = λ a e. tt }

  -- parts
  each-part : (k : Context) (es : List Meaning) → Surrounded Q k → AllMeanings Q es → AllKeep Q Sound (map (part k) es)
  each-part k [] r s = tt
  each-part k (e ∷ es) r s = (O.part-keeps Q k e r s.0, each-part k es r s.1)

  parts-keeps : (k : Context) (e : Meaning) (es : List Meaning) → Surrounded Q k → AllMeanings Q (e ∷ es) → Keeps Q (SomeHold Valued Sound) (parts k (e ∷ es))
  parts-keeps k e es r s = O.some-keeps Q Sound (part k e) (map (part k) es) valued-lasts (O.part-keeps Q k e r s.0) (each-part k es r s.1)

  pub replication-form : (opening : ℕ) (times : Meaning) (inner : ℕ) (e : Meaning) (es : List Meaning) (inner_closing closing : ℕ) → SoundMeaning Q times → AllMeanings Q (e ∷ es)
      → SoundMeaning Q (expr_step (Expr-F.«Expr::Replication» opening times inner (e ∷ es) inner_closing closing))
  replication-form opening times inner e es inner_closing closing s t =
      X.value-meaning Q (λ k. both (count k times) (parts k (e ∷ es)) (λ n vs. rule (repeat_of k.source opening n (exprs vs))))
      (λ k r.
      K.both-keeps Q (λ n gs. 0 < n) (SomeHold Valued Sound) Sound (count k times) (parts k (e ∷ es)) (λ n vs. rule (repeat_of k.source opening n (exprs vs))) (λ n gs hs x y. y) (O.count-keeps Q k times r s) (parts-keeps k e es r t)
      (λ n vs js q a b. K.rule-kept Q Sound (repeat_of k.source opening n (exprs vs)) js q (λ v h. repeated-sound k.source opening n vs v js h a b)))

  -- a concatenation, as a value and as a target
  abbrev TargetIf : Option (Typing Valued) → Type 0
  TargetIf None = Unit {0}
  TargetIf (Some x) = Keeps Q SoundFixed x

  target-if : (o : Option (Typing Valued)) → ((x : Typing Valued) → o ≡ Some x → Keeps Q SoundFixed x) → TargetIf o
  target-if None h = tt
  target-if (Some x) h = h x refl

  abbrev TargetsIf : Option (List (Typing Valued)) → Type 0
  TargetsIf None = Unit {0}
  TargetsIf (Some xs) = AllKeep Q SoundFixed xs

  one-more : (x : Typing Valued) (o : Option (List (Typing Valued))) → Keeps Q SoundFixed x → TargetsIf o → TargetsIf (option_map (λ ys. x ∷ ys) o)
  one-more x None h s = tt
  one-more x (Some xs) h s = (h, s)

  if-both : (o : Option (Typing Valued)) (os : List (Option (Typing Valued))) → TargetIf o → TargetsIf (if_all os) → TargetsIf (if_all (o ∷ os))
  if-both None os h s = tt
  if-both (Some x) os h s = one-more x (if_all os) h s

  targets-if : (k : Context) (es : List Meaning) → Surrounded Q k → AllMeanings Q es → TargetsIf (if_all (map (λ (e : Meaning). e.as_target k) es))
  targets-if k [] r s = tt
  targets-if k (e ∷ es) r s =
      if-both (e.as_target k) (map (λ (d : Meaning). d.as_target k) es) (target-if (e.as_target k) (s.0.as_target k r)) (targets-if k es r s.1)

  packed-keeps : (k : Source) (x : Typing Valued) → Keeps Q SoundFixed x → Keeps Q SoundFixed (packed_target k x)
  packed-keeps k x h =
      K.checked-keeps Q SoundFixed SoundFixed x (λ v. rule (is_packed_target k v)) h (λ v js q s. K.rule-kept Q SoundFixed (is_packed_target k v) js q (λ u e. packed-fixed k v u js e s))

  all-packed : (k : Source) (xs : List (Typing Valued)) → AllKeep Q SoundFixed xs → AllKeep Q SoundFixed (map (packed_target k) xs)
  all-packed k [] s = tt
  all-packed k (x ∷ xs) s = (packed-keeps k x s.0, all-packed k xs s.1)

  abbrev joining : Context → ℕ → List (Typing Valued) → Typing Valued
  joining k opening xs = checked (all (map (packed_target k.source) xs)) (λ vs. rule (concat_of k.source opening (exprs vs)))

  joining-keeps : (k : Context) (opening : ℕ) (x : Typing Valued) (xs : List (Typing Valued)) → AllKeep Q SoundFixed (x ∷ xs) → Keeps Q SoundFixed (joining k opening (x ∷ xs))
  joining-keeps k opening x xs s =
      K.checked-keeps Q (SomeHold Valued SoundFixed) SoundFixed (all (map (packed_target k.source) (x ∷ xs))) (λ vs. rule (concat_of k.source opening (exprs vs)))
      (O.some-keeps Q SoundFixed (packed_target k.source x) (map (packed_target k.source) xs) fixed-lasts (packed-keeps k.source x s.0) (all-packed k.source xs s.1))
      (λ vs js q a.
      K.rule-kept Q SoundFixed (concat_of k.source opening (exprs vs)) js q
      (λ v e. record { none = joined-none k.source opening vs v e; sound = joined-sound k.source opening vs v js e (some-fixed vs js a) }))

  -- the targets of a list with a first part have a first one
  no-first : (o : Option (List (Typing Valued))) (x : Typing Valued) → option_map (λ ys. x ∷ ys) o ≡ Some [] → ⊥
  no-first None x h = absurd (cc)
  no-first (Some ys) x h = absurd (cc)

  some-first : (o : Option (Typing Valued)) (os : List (Option (Typing Valued))) → if_all (o ∷ os) ≡ Some [] → ⊥
  some-first None os h = absurd (cc)
  some-first (Some x) os h = no-first (if_all os) x h

  joined-by : (k : Context) (opening : ℕ) (o : Option (Typing Valued)) (os : List (Option (Typing Valued))) (all_ : Option (List (Typing Valued))) → if_all (o ∷ os) ≡ all_ → TargetsIf all_
      → (x : Typing Valued) → option_map (joining k opening) all_ ≡ Some x → Keeps Q SoundFixed x
  joined-by k opening o os None is s x h = absurd (cc)
  joined-by k opening o os (Some []) is s x h = absurd (some-first o os is)
  joined-by k opening o os (Some (y ∷ ys)) is s x h =
      let e : some_typing (joining k opening (y ∷ ys)) ≡ Some x = h in
      let same : joining k opening (y ∷ ys) ≡ x = cc in
      subst (λ z. Keeps Q SoundFixed z) same (joining-keeps k opening y ys s)

  pub concatenation-form : (opening : ℕ) (e : Meaning) (es : List Meaning) (closing : ℕ) → AllMeanings Q (e ∷ es) → SoundMeaning Q (expr_step (Expr-F.Concatenation opening (e ∷ es) closing))
  concatenation-form opening e es closing s =
      let v = X.value-meaning Q (λ k. checked (parts k (e ∷ es)) (λ vs. rule (concat_of k.source opening (exprs vs))))
      (λ k r.
      K.checked-keeps Q (SomeHold Valued Sound) Sound (parts k (e ∷ es)) (λ vs. rule (concat_of k.source opening (exprs vs))) (parts-keeps k e es r s)
      (λ vs js q a. K.rule-kept Q Sound (concat_of k.source opening (exprs vs)) js q (λ u h. joined-sound k.source opening vs u js h a))) in
      record {
        typed = v.typed;
        as_type = v.as_type;
        as_target = λ k r x h.
            joined-by k opening (e.as_target k) (map (λ (d : Meaning). d.as_target k) es) (if_all (map (λ (d : Meaning). d.as_target k) (e ∷ es))) refl (targets-if k (e ∷ es) r s) x h;
      }

  -- streams
  abbrev pub SliceIf : Option SliceMeaning → Type 0
  SliceIf None = Unit {0}
  SliceIf (Some z) = Gives Q Anything z

  slice-keeps : (k : Context) (z : Option SliceMeaning) → Surrounded Q k → SliceIf z → Keeps Q Anything (slice_or_one k z)
  slice-keeps k None r s = K.whole-keeps Q Anything 1 (λ gs. tt)
  slice-keeps k (Some z) r s = s k r

  each-streamed : (k : Context) (es : List Meaning) → Surrounded Q k → AllMeanings Q es → AllKeep Q Sound (map (λ (e : Meaning). F.streamed_part k.source (e.typed k)) es)
  each-streamed k [] r s = tt
  each-streamed k (e ∷ es) r s = (O.streamed-keeps Q k.source (e.typed k) (s.0.typed k r), each-streamed k es r s.1)

  pub stream-form : (opening : ℕ) (operator : StreamOperator) (at : ℕ) (size : Option SliceMeaning) (inner : ℕ) (e : Meaning) (es : List Meaning) (inner_closing closing : ℕ) → SliceIf size → AllMeanings Q (e ∷ es)
      → SoundMeaning Q (expr_step (Expr-F.Stream opening operator at size inner (e ∷ es) inner_closing closing))
  stream-form opening operator at size inner e es inner_closing closing z s =
      X.operand-meaning Q
      (λ k.
      checked (both (slice_or_one k size) (all (map (λ (d : Meaning). F.streamed_part k.source (d.typed k)) (e ∷ es))) (λ n vs. rule (F.stream_of k.source opening (F.reverses operator) n (exprs vs)))) (stream k))
      (λ k r.
      K.checked-keeps Q SoundStream SoundOperand
      (both (slice_or_one k size) (all (map (λ (d : Meaning). F.streamed_part k.source (d.typed k)) (e ∷ es))) (λ n vs. rule (F.stream_of k.source opening (F.reverses operator) n (exprs vs)))) (stream k)
      (K.both-keeps Q Anything (SomeHold Valued Sound) SoundStream (slice_or_one k size) (all (map (λ (d : Meaning). F.streamed_part k.source (d.typed k)) (e ∷ es)))
      (λ n vs. rule (F.stream_of k.source opening (F.reverses operator) n (exprs vs))) any-lasts (slice-keeps k size r z)
      (O.some-keeps Q Sound (F.streamed_part k.source (e.typed k)) (map (λ (d : Meaning). F.streamed_part k.source (d.typed k)) es) valued-lasts (O.streamed-keeps Q k.source (e.typed k) (s.0.typed k r)) (each-streamed k es r s.1))
      (λ n vs js q a b. K.rule-kept Q SoundStream (F.stream_of k.source opening (F.reverses operator) n (exprs vs)) js q (λ v h. streamed-made k.source opening (F.reverses operator) n vs v js h b)))
      (λ v js q a. K.whole-kept Q SoundOperand (V.Stream v) js q a))

  -- patterns
  pub pattern-form : (tick opening : ℕ) (pattern : PatternMeaning) (closing : ℕ) → Gives Q SoundParts pattern → SoundMeaning Q (expr_step (Expr-F.«Expr::Pattern» tick opening pattern closing))
  pattern-form tick opening pattern closing s =
      X.operand-meaning Q (λ k. checked (pattern k) (λ p. whole (pattern_operand k tick p)))
      (λ k r.
      K.checked-keeps Q SoundParts SoundOperand (pattern k) (λ p. whole (pattern_operand k tick p)) (s k r)
      (λ p js q a. K.whole-kept Q SoundOperand (pattern_operand k tick p) js q (λ at t e full h. fitted-sound k tick p at t e js h full a)))

  pub items-step : (items : List ItemMeaning) → AllGive Q SoundItem items → Gives Q SoundParts (pattern_step (Pattern-F.Items items))
  items-step items s k r =
      K.checked-keeps Q (λ is gs. AllHold SoundItem is gs) SoundParts (all (map (λ (i : ItemMeaning). i k) items)) (λ is. whole (record { times = 1; items = is }))
      (K.all-keeps Q SoundItem (map (λ (i : ItemMeaning). i k) items) item-lasts (X.each-gives Q SoundItem items k r s)) (λ is js q a. K.whole-kept Q SoundParts (record { times = 1; items = is }) js q (all-items is js a))

  each-unstreamed : (k : Context) (es : List Meaning) → Surrounded Q k → AllMeanings Q es → AllKeep Q SoundOperand (map (λ (e : Meaning). unstreamed k.source (e.typed k)) es)
  each-unstreamed k [] r s = tt
  each-unstreamed k (e ∷ es) r s = (O.unstreamed-keeps Q k.source (e.typed k) (s.0.typed k r), each-unstreamed k es r s.1)

  pub repeated-step : (times : Meaning) (opening : ℕ) (items : List Meaning) (closing : ℕ) → SoundMeaning Q times → AllMeanings Q items → Gives Q SoundParts (pattern_step (Pattern-F.«Pattern::Replication» times opening items closing))
  repeated-step times opening items closing s t k r =
      K.both-keeps Q (λ n gs. 0 < n) (λ os gs. AllHold SoundOperand os gs) SoundParts (count k times) (all (map (λ (e : Meaning). unstreamed k.source (e.typed k)) items))
      (λ n os. whole (record { times = n; items = map in_place os })) (λ n gs hs x y. y) (O.count-keeps Q k times r s)
      (K.all-keeps Q SoundOperand (map (λ (e : Meaning). unstreamed k.source (e.typed k)) items) operand-lasts (each-unstreamed k items r t))
      (λ n os js q a b. K.whole-kept Q SoundParts (record { times = n; items = map in_place os }) js q (placed-items os js b))

  keyed-keeps : (k : Context) (key : ItemKey) (item : Meaning) → Surrounded Q k → SoundMeaning Q item → Keeps Q SoundItem (checked (unstreamed k.source (item.typed k)) (λ o. whole (keyed_item key o)))
  keyed-keeps k key item r s =
      K.checked-keeps Q SoundOperand SoundItem (unstreamed k.source (item.typed k)) (λ o. whole (keyed_item key o)) (O.unstreamed-keeps Q k.source (item.typed k) (s.typed k r)) (λ o js q a. K.whole-kept Q SoundItem (keyed_item key o) js q a)

  number-keeps : (k : Context) (key : Meaning) → Surrounded Q k → SoundMeaning Q key → Keeps Q Anything (key_number k key)
  number-keeps k key r s =
      K.checked-keeps Q Sound Anything (constant_in k.source (key.typed k)) (λ v. by_functions (is_key k.source v)) (O.constant-keeps Q k.source (key.typed k) (s.typed k r)) (λ v js q a. K.rule-kept Q Anything (is_key k.source v js) js q (λ n e. tt))

  key-by : (k : Context) (key item : Meaning) (o : Option QualifiedName) → Surrounded Q k → SoundMeaning Q key → SoundMeaning Q item
      → Keeps Q SoundItem (elim o as (λ x. Typing Item) [ Some of ↦ checked (unstreamed k.source (item.typed k)) (λ p. whole (keyed_item (Named of) p)) | None ↦ both (key_number k key) (unstreamed k.source (item.typed k)) (λ n p. whole (keyed_item (Numbered n) p)) ])
  key-by k key item (Some of) r s t = keyed-keeps k (Named of) item r t
  key-by k key item None r s t =
      K.both-keeps Q Anything SoundOperand SoundItem (key_number k key) (unstreamed k.source (item.typed k)) (λ n p. whole (keyed_item (Numbered n) p)) any-lasts (number-keeps k key r s)
      (O.unstreamed-keeps Q k.source (item.typed k) (t.typed k r)) (λ n p js q a b. K.whole-kept Q SoundItem (keyed_item (Numbered n) p) js q b)

  pub default-step : (keyword colon : ℕ) (item : Meaning) → SoundMeaning Q item → Gives Q SoundItem (pattern_item_step (PatternItem-F.Default keyword colon item))
  default-step keyword colon item s k r = keyed-keeps k ByDefault item r s

  pub keyed-step : (key : Meaning) (colon : ℕ) (item : Meaning) → SoundMeaning Q key → SoundMeaning Q item → Gives Q SoundItem (pattern_item_step (PatternItem-F.Keyed key colon item))
  keyed-step key colon item s t k r = key-by k key item key.alone r s t

  pub place-step : (item : Meaning) → SoundMeaning Q item → Gives Q SoundItem (pattern_item_step (PatternItem-F.«PatternItem::Value» item))
  place-step item s k r = keyed-keeps k InPlace item r s

  -- what stands in casts
  pub value-cast : (tick opening : ℕ) (value_ : Meaning) (closing : ℕ) → SoundMeaning Q value_ → Gives Q SoundInside (cast_step (Cast-F.«Cast::Value» tick opening value_ closing))
  value-cast tick opening value_ closing s k r =
      K.checked-keeps Q SoundOperand SoundInside (value_.typed k) (λ o. whole (record { tick = tick; is_pattern = false; of = o })) (s.typed k r) (λ o js q a. K.whole-kept Q SoundInside (record { tick = tick; is_pattern = false; of = o }) js q a)

  pub pattern-cast : (tick opening : ℕ) (pattern : PatternMeaning) (closing : ℕ) → Gives Q SoundParts pattern → Gives Q SoundInside (cast_step (Cast-F.«Cast::Pattern» tick opening pattern closing))
  pattern-cast tick opening pattern closing s k r =
      K.checked-keeps Q SoundParts SoundInside (pattern k) (λ p. whole (record { tick = tick; is_pattern = true; of = pattern_operand k tick p })) (s k r)
      (λ p js q a. K.whole-kept Q SoundInside (record { tick = tick; is_pattern = true; of = pattern_operand k tick p }) js q (λ at t e full h. fitted-sound k tick p at t e js h full a))

  -- dimensions and sizes of slices
  bound-keeps : (k : Context) (e : Meaning) → Surrounded Q k → SoundMeaning Q e → Keeps Q Anything (bound_in k.source (e.typed k))
  bound-keeps k e r s =
      weaken (InRange (neg_ℤ (pos (2 ^ 63))) (pos (2 ^ 63) -ℤ pos 1)) (bound_in k.source (e.typed k)) (O.number-keeps Q k.source (neg_ℤ (pos (2 ^ 63))) (pos (2 ^ 63) -ℤ pos 1) (e.typed k) (s.typed k r))

  bounds-keeps : (k : Context) (opening : ℕ) (left right : Meaning) → Surrounded Q k → SoundMeaning Q left → SoundMeaning Q right → Keeps Q Anything (bounds k opening left right)
  bounds-keeps k opening left right r s t =
      K.both-keeps Q Anything Anything Anything (bound_in k.source (left.typed k)) (bound_in k.source (right.typed k)) (λ l u. whole (between opening l u)) any-lasts (bound-keeps k left r s) (bound-keeps k right r t)
      (λ l u js q a b. K.whole-kept Q Anything (between opening l u) js q tt)

  pub size-step : (opening : ℕ) (size : Meaning) (closing : ℕ) → SoundMeaning Q size → Gives Q Anything (dimension_step (Dimension-F.Size opening size closing))
  size-step opening size closing s k r =
      K.checked-keeps Q (InRange (pos 1) most_of_unpacked) Anything (number_within k.source (pos 1) most_of_unpacked (size.typed k)) (λ n. whole (record { opening = opening; left = pos 0; right = n.number -ℤ pos 1 }))
      (O.number-keeps Q k.source (pos 1) most_of_unpacked (size.typed k) (s.typed k r)) (λ n js q a. K.whole-kept Q Anything (record { opening = opening; left = pos 0; right = n.number -ℤ pos 1 }) js q tt)

  pub range-dimension : (opening : ℕ) (left : Meaning) (colon : ℕ) (right : Meaning) (closing : ℕ) → SoundMeaning Q left → SoundMeaning Q right → Gives Q Anything (dimension_step (Dimension-F.«Dimension::Range» opening left colon right closing))
  range-dimension opening left colon right closing s t k r = bounds-keeps k opening left right r s t

  -- items of `inside`
  pub value-range : (v : Meaning) → SoundMeaning Q v → Gives Q SoundRange (value_range_step (ValueRange-F.«ValueRange::Value» v))
  value-range v s k r =
      K.checked-keeps Q Sound SoundRange (value k.source (v.typed k)) (λ u. whole (Only u)) (O.value-keeps Q k.source (v.typed k) (s.typed k r)) (λ u js q a. K.whole-kept Q SoundRange (Only u) js q (a, tt))

  pub both-range : (opening : ℕ) (low : Meaning) (colon : ℕ) (high : Meaning) (closing : ℕ) → SoundMeaning Q low → SoundMeaning Q high → Gives Q SoundRange (value_range_step (ValueRange-F.«ValueRange::Range» opening low colon high closing))
  both-range opening low colon high closing s t k r =
      K.both-keeps Q Sound Sound SoundRange (value k.source (low.typed k)) (value k.source (high.typed k)) (λ l h. whole (From l h)) valued-lasts (O.value-keeps Q k.source (low.typed k) (s.typed k r))
      (O.value-keeps Q k.source (high.typed k) (t.typed k r)) (λ l h js q a b. K.whole-kept Q SoundRange (From l h) js q (a, (b, tt)))

  -- selects
  pub member-select : (dot name : ℕ) → SoundSelect Q (select_step (Select-F.Member dot name))
  member-select dot name = record { step = λ k r. K.whole-keeps Q SoundStep (S.Member name) (λ gs. tt); dimension = λ k r. K.broken-keeps Q Anything Quiet }

  pub index-select : (opening : ℕ) (index : Meaning) (closing : ℕ) → SoundMeaning Q index → SoundSelect Q (select_step (Select-F.Index opening index closing))
  index-select opening index closing s = record {
    step = λ k r.
        K.checked-keeps Q SoundIndex SoundStep (index_in k.source (index.typed k)) (λ v. whole (S.Index opening v)) (O.index-keeps Q k.source (index.typed k) (s.typed k r)) (λ v js q a. K.whole-kept Q SoundStep (S.Index opening v) js q a);
    dimension = λ k r. K.broken-keeps Q Anything Quiet;
  }

  part-keeps : (op : PartOperator) (k : Context) (opening : ℕ) (left right : Meaning) → Surrounded Q k → SoundMeaning Q left → SoundMeaning Q right → Keeps Q SoundStep (part_step op k opening left right)
  part-keeps W.Range k opening left right r s t =
      K.both-keeps Q Anything Anything SoundStep (bound_in k.source (left.typed k)) (bound_in k.source (right.typed k)) (λ l u. whole (S.Part opening l u)) any-lasts (bound-keeps k left r s) (bound-keeps k right r t)
      (λ l u js q a b. K.whole-kept Q SoundStep (S.Part opening l u) js q tt)
  part-keeps W.Up k opening left right r s t =
      K.both-keeps Q SoundIndex (InRange (pos 1) (pos (2 ^ 32) -ℤ pos 1)) SoundStep (index_in k.source (left.typed k)) (width_in k.source (right.typed k)) (λ i n. whole (S.Slide opening true i n)) index-lasts
      (O.index-keeps Q k.source (left.typed k) (s.typed k r)) (O.number-keeps Q k.source (pos 1) (pos (2 ^ 32) -ℤ pos 1) (right.typed k) (t.typed k r)) (λ i n js q a b. K.whole-kept Q SoundStep (S.Slide opening true i n) js q (a, b.0))
  part-keeps W.Down k opening left right r s t =
      K.both-keeps Q SoundIndex (InRange (pos 1) (pos (2 ^ 32) -ℤ pos 1)) SoundStep (index_in k.source (left.typed k)) (width_in k.source (right.typed k)) (λ i n. whole (S.Slide opening false i n)) index-lasts
      (O.index-keeps Q k.source (left.typed k) (s.typed k r)) (O.number-keeps Q k.source (pos 1) (pos (2 ^ 32) -ℤ pos 1) (right.typed k) (t.typed k r)) (λ i n js q a b. K.whole-kept Q SoundStep (S.Slide opening false i n) js q (a, b.0))

  part-bounds : (op : PartOperator) (k : Context) (opening : ℕ) (left right : Meaning) → Surrounded Q k → SoundMeaning Q left → SoundMeaning Q right → Keeps Q Anything (part_dimension op k opening left right)
  part-bounds W.Range k opening left right r s t = bounds-keeps k opening left right r s t
  part-bounds W.Up k opening left right r s t = K.broken-keeps Q Anything Quiet
  part-bounds W.Down k opening left right r s t = K.broken-keeps Q Anything Quiet

  pub part-select : (opening : ℕ) (left : Meaning) (op : PartOperator) (at : ℕ) (right : Meaning) (closing : ℕ) → SoundMeaning Q left → SoundMeaning Q right → SoundSelect Q (select_step (Select-F.Part opening left op at right closing))
  part-select opening left op at right closing s t = record { step = λ k r. part-keeps op k opening left right r s t; dimension = λ k r. part-bounds op k opening left right r s t }

  -- sizes of slices
  slice-rule : (r : Checked ℕ) → Keeps Q Anything (rule r)
  slice-rule r = K.rule-keeps Q Anything r (λ gs n e. tt)

  within-keeps : (k : Context) (x : Typing Operand) → Keeps Q SoundOperand x → Keeps Q Anything (F.slice_within k.source x)
  within-keeps k x h =
      K.checked-keeps Q (InRange (pos 1) (pos 65536)) Anything (number_within k.source (pos 1) (pos 65536) x) (λ n. whole (unsigned_abs n.number)) (O.number-keeps Q k.source (pos 1) (pos 65536) x h)
      (λ n js q a. K.whole-kept Q Anything (unsigned_abs n.number) js q tt)

  pub decimal-slice : (digits : ℕ) → Gives Q Anything (slice_size_step (SliceSize-F.«SliceSize::Decimal» digits))
  decimal-slice digits k r = slice-rule (F.slice_of k.source digits (D.decimal (word k.source digits)))

  pub keyword-slice : (of : KeywordType) → Gives Q Anything (slice_size_step (SliceSize-F.Keyword of))
  keyword-slice of k r = slice-rule (F.slice_of k.source of.at (width_of (keyword_type of [])))

  named-slice : (k : Context) (of : QualifiedName) (o : Option SvType) → Surrounded Q k
      → Keeps Q Anything (elim o as (λ x. Typing ℕ) [ Some t ↦ rule (F.slice_of k.source (qualified_first of) (width_of t)) | None ↦ F.slice_within k.source (F.plain (F.named k of [])) ])
  named-slice k of (Some t) r = slice-rule (F.slice_of k.source (qualified_first of) (width_of t))
  named-slice k of None r = within-keeps k (F.plain (F.named k of [])) (O.plain-keeps Q (F.named k of []) (O.fixed-keeps Q (F.named k of []) (P.named-keeps Q k of [] r tt)))

  pub name-slice : (of : QualifiedName) → Gives Q Anything (slice_size_step (SliceSize-F.«SliceSize::Name» of))
  name-slice of k r = named-slice k of (type_of_thing (thing k of)) r

  pub value-slice : (opening : ℕ) (size : Meaning) (closing : ℕ) → SoundMeaning Q size → Gives Q Anything (slice_size_step (SliceSize-F.«SliceSize::Parenthesized» opening size closing))
  value-slice opening size closing s k r = within-keeps k (size.typed k) (s.typed k r)
