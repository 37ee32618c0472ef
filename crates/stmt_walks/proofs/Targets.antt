-- Targets of a sound text are sound.
use Rattle.std.proofs.Common.{◌≡◌, ℕ, ◌<◌, ◌%◌, Bool, true, false, ◌&&◌, ◌==◌, not, List, [], ◌∷◌, map, Option, Some, None, ap, sym, ◌∙◌, subst}
use Rattle.std.specs.Prelude.{Ok}
use Rattle.std.specs.List.{list_any}
use Rattle.std.specs.Option.{option_map}
use Rattle.sv_tree.specs.declared.expressions.SliceSize.{SliceSize}
use Rattle.sv_tree.specs.declared.expressions.Select.{Select}
use Rattle.sv_tree.specs.declared.operators.StreamOperator.{StreamOperator}
use Rattle.sv_tree.specs.declared.statements.Lvalue.{Lvalue, Lvalue-F, roll-Lvalue, map-Lvalue, ind-Lvalue, fold-roll-Lvalue}
use Rattle.sv_types.specs.declared.expression.Expr.{Expr}
use Rattle.sv_types.specs.declared.expression.Form.TheVariants as F
use Rattle.sv_types.specs.declared.statement.Function.{Function}
use Rattle.eval_forms.specs.Callees.{formals_in}
use Rattle.expr_type.specs.declared.operand.Valued.{Valued}
use Rattle.expr_type.specs.Typings.{Checked, Typing, whole, rule, checked, all, where_whole}
use Rattle.expr_type.specs.Shapes.{is_enum, is_unpacked, vector}
use Rattle.expr_type.specs.Names.{Context, Source, position}
use Rattle.expr_type.specs.Operands.{width}
use Rattle.expr_type.specs.Operators.{by_itself, concat_of, exprs, all_bits}
use Rattle.expr_type.specs.Forms.{reverses, stream_of}
use Rattle.expr_type.specs.Expressions.{select_meaning}
use Rattle.expr_type.specs.TargetNames.{named_target}
use Rattle.expr_type.specs.Targets.{Target, ToPath, ToParts, ToStream, TargetPart, TargetMeaning, whole_of, is_target_part, joined_target, stream_target, simple_name, slice_or_one, target_step, target, parts_of}
use Rattle.typing_fits.specs.Sound.{Sound, AllSound, AllSoundAlone}
use Rattle.typing_fits.specs.Operands.{SoundFixed}
use Rattle.typing_fits.proofs.Contexts.{refused-then, whole-part}
use Rattle.typing_fits.proofs.Full.{and-left, and-right}
use Rattle.typing_fits.proofs.Given.{alone-fits, knows-itself, sound-later}
use Rattle.typing_fits.proofs.Joins.{all-alone, is-alone}
use Rattle.typing_fits.proofs.Lists.{some-bits}
use Rattle.typing_fits.proofs.Operators.{ok-is}
use Rattle.typing_fits.proofs.Selects.{long-then}
use Rattle.typing_fits.proofs.Vectors.{width-vector}
use Rattle.routine_fits.specs.Targets.{SoundTarget}
use Rattle.typing_walks.specs.Keeps.{Keeps, AllKeep, AllHold, Lasts, Anything, Surrounded}
use Rattle.typing_walks.specs.Written as W
use Rattle.typing_walks.specs.Written.{some_and_all, if_there, select_written, slice_written}
use Rattle.typing_walks.proofs.Keeping as K
use Rattle.typing_walks.proofs.Lasting.{valued-lasts, any-lasts, all-valued}
use Rattle.typing_walks.proofs.Operands as O
use Rattle.typing_walks.proofs.Operands.{SomeHold}
use Rattle.typing_walks.proofs.Forms.{joined-sound, joined-none, streamed-fixed, some-alone}
use Rattle.typing_walks.proofs.Paths as P
use Rattle.typing_walks.proofs.Paths.{SelectsSound}
use Rattle.typing_walks.proofs.Walk.{select-sound, slice-sound}
use Rattle.stmt_walks.specs.Laws.{AllFit}
use Rattle.stmt_walks.specs.Written.{lvalue_step, lvalue_written}

-- parts that hold a value
abbrev PartSound : TargetPart → List Function → Type 0
PartSound p gs = Sound p.of gs

part-lasts : Lasts PartSound
part-lasts p gs hs e s = sound-later p.of gs hs e s

abbrev values_of : List TargetPart → List Valued
values_of ps = map (λ (p : TargetPart). p.of) ps

all-parts : (ps : List TargetPart) (gs : List Function) → AllHold PartSound ps gs → AllHold Sound (values_of ps) gs
all-parts [] gs s = tt
all-parts (p ∷ ps) gs s = (s.0, all-parts ps gs s.1)

some-values : (ps : List TargetPart) (gs : List Function) → SomeHold TargetPart PartSound ps gs → SomeHold Valued Sound (values_of ps) gs
some-values ps gs s = record { first = s.first.of; rest = values_of s.rest; is = ap values_of s.is; here = s.here; behind = all-parts s.rest gs s.behind }

all-of-some : (vs : List Valued) (gs : List Function) → SomeHold Valued Sound vs gs → AllSound vs gs
all-of-some vs gs s = subst (λ us. AllSound us gs) (sym s.is) (s.here, all-valued s.rest gs s.behind)

abbrev a_part : TargetPart → Checked TargetPart
a_part p = Ok p

as-part : (p q : TargetPart) (gs : List Function) → a_part p ≡ Ok q → PartSound p gs → PartSound q gs
as-part p q gs h s = let is : p ≡ q = cc in subst (λ x. PartSound x gs) is s

part-sound : (k : Context) (t : Target) (p : TargetPart) (gs : List Function) → is_target_part k t ≡ Ok p → SoundTarget t gs → PartSound p gs
part-sound k (ToPath v) p gs h s =
    let q : TargetPart = record { of = v; has_enum = is_enum v.expr.of } in
    as-part q p gs (refused-then (is_unpacked v.expr.of) (position k.source v.first) 508 (a_part q) p h) s.sound
part-sound k (ToParts v vs e) p gs h s = as-part (record { of = v; has_enum = e }) p gs h s.whole.sound
part-sound k (ToStream v) p gs h s = absurd (cc)

whole-sound : (t : Target) (gs : List Function) → SoundTarget t gs → Sound (whole_of t) gs
whole-sound (ToPath v) gs s = s.sound
whole-sound (ToParts v vs e) gs s = s.whole.sound
whole-sound (ToStream v) gs s = s.sound

abbrev a_target : Target → Checked Target
a_target t = Ok t

as-target : (t u : Target) (gs : List Function) → a_target t ≡ Ok u → SoundTarget t gs → SoundTarget u gs
as-target t u gs h s = let is : t ≡ u = cc in subst (λ x. SoundTarget x gs) is s

-- a concatenation is as wide as its parts together
some-wide : (vs : List Valued) (gs : List Function) → SomeHold Valued Sound vs gs → 0 < all_bits (exprs vs)
some-wide vs gs s = subst (λ us. 0 < all_bits (exprs us)) (sym s.is) (some-bits s.first.expr (exprs s.rest) gs (some-alone vs gs s))

concat-wide : (k : Source) (opening : ℕ) (vs : List Valued) (v : Valued) (gs : List Function) → concat_of k opening (exprs vs) ≡ Ok v → SomeHold Valued Sound vs gs → width v ≡ all_bits (exprs vs)
concat-wide k opening vs v gs h s =
    let w = all_bits (exprs vs) in
    let a = by_itself k opening (vector w false) (F.Concat (exprs vs)) in
    ap width (sym (ok-is a v (long-then k opening w (Ok a) v h))) ∙ width-vector w false (some-wide vs gs s)

joined-target-sound : (k : Context) (opening : ℕ) (ps : List TargetPart) (t : Target) (gs : List Function) → joined_target k opening ps ≡ Ok t → SomeHold TargetPart PartSound ps gs → SoundTarget t gs
joined-target-sound k opening ps t gs h s =
    let vs = values_of ps in
    let some = some-values ps gs s in
    let has = list_any (λ (p : TargetPart). p.has_enum) ps in
    let w = whole-part (concat_of k.source opening (exprs vs)) (λ v. a_target (ToParts v vs has)) t h in
    as-target (ToParts w.part vs has) t gs w.made (record {
      whole = record { none = joined-none k.source opening vs w.part w.is; sound = joined-sound k.source opening vs w.part gs w.is some };
      parts = all-of-some vs gs some;
      width = concat-wide k.source opening vs w.part gs w.is some;
    })

stream-target-sound : (k : Context) (opening : ℕ) (reversed : Bool) (n : ℕ) (vs : List Valued) (t : Target) (gs : List Function) → stream_target k opening reversed n vs ≡ Ok t → SomeHold Valued Sound vs gs → SoundTarget t gs
stream-target-sound k opening reversed n vs t gs h s =
    let made = where_whole (stream_of k.source opening reversed n (exprs vs)) (λ v. a_target (ToStream v)) in
    let rest = refused-then (reversed && not (all_bits (exprs vs) % n == 0)) (position k.source opening) 511 made t h in
    let w = whole-part (stream_of k.source opening reversed n (exprs vs)) (λ v. a_target (ToStream v)) t rest in
    as-target (ToStream w.part) t gs w.made (streamed-fixed k.source opening reversed n vs w.part gs w.is s)

module _ (Q : List Function → Type 0) where
  pub all-selects : (ss : List Select) → W.all (map select_written ss) ≡ true → SelectsSound Q (map select_meaning ss)
  all-selects [] w = tt
  all-selects (s ∷ ss) w = (select-sound Q s (and-left (select_written s) (W.all (map select_written ss)) w), all-selects ss (and-right (select_written s) (W.all (map select_written ss)) w))

  abbrev OfMeaning : TargetMeaning → Type 0
  OfMeaning m = (k : Context) (inside : Bool) → Surrounded Q k → Keeps Q SoundTarget (m k inside)

  abbrev AllMeanings : List TargetMeaning → Type 0
  AllMeanings [] = Unit {0}
  AllMeanings (m ∷ ms) = OfMeaning m × AllMeanings ms

  path-target : (x : Typing Valued) → Keeps Q SoundFixed x → Keeps Q SoundTarget (checked x (λ v. whole (ToPath v)))
  path-target x h = K.checked-keeps Q SoundFixed SoundTarget x (λ v. whole (ToPath v)) h (λ v js q s. K.whole-kept Q SoundTarget (ToPath v) js q s)

  name-form : (name : ℕ) (ss : List Select) → W.all (map select_written ss) ≡ true → OfMeaning (target_step (Lvalue-F.Name name ss))
  name-form name ss w k inside r = path-target (named_target k inside (simple_name name) (map select_meaning ss)) (P.target-keeps Q k inside (simple_name name) (map select_meaning ss) r (all-selects ss w))

  abbrev part_by : Context → Bool → TargetMeaning → Typing TargetPart
  part_by k inside t = checked (t k inside) (λ u. rule (is_target_part k u))

  one-part : (k : Context) (inside : Bool) (m : TargetMeaning) → Surrounded Q k → OfMeaning m → Keeps Q PartSound (part_by k inside m)
  one-part k inside m r s = K.checked-keeps Q SoundTarget PartSound (m k inside) (λ u. rule (is_target_part k u)) (s k inside r) (λ u js q x. K.rule-kept Q PartSound (is_target_part k u) js q (λ p h. part-sound k u p js h x))

  each-part : (k : Context) (inside : Bool) (ms : List TargetMeaning) → Surrounded Q k → AllMeanings ms → AllKeep Q PartSound (map (part_by k inside) ms)
  each-part k inside [] r s = tt
  each-part k inside (m ∷ ms) r s = (one-part k inside m r s.0, each-part k inside ms r s.1)

  concat-form : (opening : ℕ) (m : TargetMeaning) (ms : List TargetMeaning) (closing : ℕ) → AllMeanings (m ∷ ms) → OfMeaning (target_step (Lvalue-F.Concatenation opening (m ∷ ms) closing))
  concat-form opening m ms closing s k inside r =
      K.checked-keeps Q (SomeHold TargetPart PartSound) SoundTarget (all (map (part_by k inside) (m ∷ ms))) (λ ps. rule (joined_target k opening ps))
      (O.some-keeps Q PartSound (part_by k inside m) (map (part_by k inside) ms) part-lasts (one-part k inside m r s.0) (each-part k inside ms r s.1))
      (λ ps js q x. K.rule-kept Q SoundTarget (joined_target k opening ps) js q (λ t h. joined-target-sound k opening ps t js h x))

  abbrev whole_by : Context → Bool → TargetMeaning → Typing Valued
  whole_by k inside t = checked (t k inside) (λ u. whole (whole_of u))

  one-whole : (k : Context) (inside : Bool) (m : TargetMeaning) → Surrounded Q k → OfMeaning m → Keeps Q Sound (whole_by k inside m)
  one-whole k inside m r s = K.checked-keeps Q SoundTarget Sound (m k inside) (λ u. whole (whole_of u)) (s k inside r) (λ u js q x. K.whole-kept Q Sound (whole_of u) js q (whole-sound u js x))

  each-whole : (k : Context) (inside : Bool) (ms : List TargetMeaning) → Surrounded Q k → AllMeanings ms → AllKeep Q Sound (map (whole_by k inside) ms)
  each-whole k inside [] r s = tt
  each-whole k inside (m ∷ ms) r s = (one-whole k inside m r s.0, each-whole k inside ms r s.1)

  size-keeps : (k : Context) (z : Option SliceSize) → Surrounded Q k → if_there (option_map slice_written z) ≡ true → Keeps Q Anything (slice_or_one k z)
  size-keeps k None r w = K.whole-keeps Q Anything 1 (λ gs. tt)
  size-keeps k (Some z) r w = slice-sound Q z w k r

  stream-form : (opening : ℕ) (op : StreamOperator) (at : ℕ) (size : Option SliceSize) (inner : ℕ) (m : TargetMeaning) (ms : List TargetMeaning) (inner_closing closing : ℕ) → if_there (option_map slice_written size) ≡ true
      → AllMeanings (m ∷ ms) → OfMeaning (target_step (Lvalue-F.Stream opening op at size inner (m ∷ ms) inner_closing closing))
  stream-form opening op at size inner m ms inner_closing closing w s k inside r =
      K.both-keeps Q Anything (SomeHold Valued Sound) SoundTarget (slice_or_one k size) (all (map (whole_by k inside) (m ∷ ms))) (λ n vs. rule (stream_target k opening (reverses op) n vs)) any-lasts (size-keeps k size r w)
      (O.some-keeps Q Sound (whole_by k inside m) (map (whole_by k inside) ms) valued-lasts (one-whole k inside m r s.0) (each-whole k inside ms r s.1))
      (λ n vs js q x y. K.rule-kept Q SoundTarget (stream_target k opening (reverses op) n vs) js q (λ t h. stream-target-sound k opening (reverses op) n vs t js h y))

  -- each target
  abbrev OfLvalue : Lvalue → Type 0
  OfLvalue l = lvalue_written l ≡ true → OfMeaning (target l)

  abbrev ALvalue : Type 0
  ALvalue = (l : Lvalue) × OfLvalue l

  abbrev lvalue_in : Lvalue-F ALvalue → Lvalue-F Lvalue
  lvalue_in = map-Lvalue ALvalue Lvalue (λ e. e.0)

  abbrev written_of : List ALvalue → List Bool
  written_of ys = map lvalue_written (map (λ e. e.0) ys)

  each-lvalue : (ys : List ALvalue) → W.all (written_of ys) ≡ true → AllMeanings (map target (map (λ e. e.0) ys))
  each-lvalue [] w = tt
  each-lvalue (y ∷ ys) w = (y.1 (and-left (lvalue_written y.0) (W.all (written_of ys)) w), each-lvalue ys (and-right (lvalue_written y.0) (W.all (written_of ys)) w))

  lvalue-case : (y : Lvalue-F ALvalue) → lvalue_step (map-Lvalue Lvalue Bool lvalue_written (lvalue_in y)) ≡ true → OfMeaning (target_step (map-Lvalue Lvalue TargetMeaning target (lvalue_in y)))
  lvalue-case (Lvalue-F.Name name selects) w = name-form name selects w
  lvalue-case (Lvalue-F.Concatenation opening [] closing) w = absurd (cc)
  lvalue-case (Lvalue-F.Concatenation opening (y ∷ ys) closing) w = concat-form opening (target y.0) (map target (map (λ e. e.0) ys)) closing (each-lvalue (y ∷ ys) w)
  lvalue-case (Lvalue-F.Stream opening op at size inner [] inner_closing closing) w = absurd (let e = and-right (if_there (option_map slice_written size)) false w in cc)
  lvalue-case (Lvalue-F.Stream opening op at size inner (y ∷ ys) inner_closing closing) w =
      let sized = if_there (option_map slice_written size) in
      let these = W.all (written_of (y ∷ ys)) in
      stream-form opening op at size inner (target y.0) (map target (map (λ e. e.0) ys)) inner_closing closing (and-left sized these w) (each-lvalue (y ∷ ys) (and-right sized these w))

  lvalue-level : (y : Lvalue-F ALvalue) → OfLvalue (roll-Lvalue (lvalue_in y))
  lvalue-level y w = subst OfMeaning (sym (fold-roll-Lvalue TargetMeaning target_step (lvalue_in y))) (lvalue-case y (sym (fold-roll-Lvalue Bool lvalue_step (lvalue_in y)) ∙ w))

  pub target-sound : (l : Lvalue) → lvalue_written l ≡ true → (k : Context) (inside : Bool) → Surrounded Q k → Keeps Q SoundTarget (target l k inside)
  target-sound = ind-Lvalue OfLvalue (λ x y is. subst (λ z. OfLvalue (roll-Lvalue z)) is (lvalue-level y))

-- what is written fits
one-fits : (v : Valued) (gs : List Function) → Sound v gs → AllFit (v.expr ∷ []) gs
one-fits v gs s = (alone-fits v.expr gs (formals_in gs) (is-alone v gs s) (knows-itself gs), tt)

all-fit : (es : List Expr) (gs : List Function) → AllSoundAlone es gs → AllFit es gs
all-fit [] gs s = tt
all-fit (e ∷ es) gs s = (alone-fits e gs (formals_in gs) s.0 (knows-itself gs), all-fit es gs s.1)

pub parts-fit : (t : Target) (gs : List Function) → SoundTarget t gs → AllFit (parts_of t) gs
parts-fit (ToPath v) gs s = one-fits v gs s.sound
parts-fit (ToParts v vs e) gs s = all-fit (exprs vs) gs (all-alone vs gs s.parts)
parts-fit (ToStream v) gs s = one-fits v gs s.sound
