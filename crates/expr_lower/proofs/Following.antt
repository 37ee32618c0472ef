-- Readings of select paths, step by step.
use Rattle.std.proofs.Common.{◌≡◌, ℕ, ◌*◌, ◌≤◌, Bool, ℤ, List, [], ◌∷◌, ◌++◌, length, Option, Some, None, ap, sym, ◌∙◌, subst}
use Rattle.row_machine.specs.Valuation.{Valuation}
use Rattle.picks.specs.Windows.{whole}
use Rattle.sv_types.specs.declared.types.SvType.{SvType}
use Rattle.sv_types.specs.declared.statement.Function.{Function}
use Rattle.sv_types.specs.declared.expression.Expr.{Expr}
use Rattle.sv_types.specs.declared.expression.Form.TheVariants as V
use Rattle.sv_types.specs.Layouts.{Layout, layout, width_of}
use Rattle.sv_types.specs.Windows.{element_of, slide}
use Rattle.sv_types.specs.Surroundings.{Around, local_number}
use Rattle.sv_types.specs.Meanings as S
use Rattle.sv_types.specs.Paths as P
use Rattle.sv_types.specs.Expressions.{meaning}
use Rattle.sv_types.proofs.Heads.{heads}
use Rattle.sv_types.proofs.ValueLengths.{length-value}
use Rattle.sv_types.proofs.Widths.{has-bits}
use Rattle.v_tree.specs.Names.{Name}
use Rattle.v_tree.specs.declared.names.Helper.{Helper}
use Rattle.v_tree.specs.declared.names.NameMap.{NameMap}
use Rattle.v_meaning.specs.Scopes.{Scope, named}
use Rattle.v_meaning.specs.Values as T
use Rattle.eval_parts.specs.declared.path_steps.Step.{Step}
use Rattle.eval_parts.specs.Steps.{IsStep, IsValued}
use Rattle.eval_parts.proofs.Selecting as E
use Rattle.lowering_laws.specs.Agreeing.{Images, Agree}
use Rattle.lowering_laws.specs.NamedImages.{AreImages}
use Rattle.lowering_laws.specs.Same.{SameAlone}
use Rattle.path_flatten.specs.declared.offsets.Index.{Index}
use Rattle.path_flatten.specs.declared.readings.Root.{Root}
use Rattle.path_flatten.specs.declared.readings.Root.TheVariants as R
use Rattle.path_flatten.specs.declared.readings.Reading.{Reading}
use Rattle.path_flatten.specs.Helping.{EachHelps, Grows}
use Rattle.path_flatten.specs.Naming.{root_names, NamesRoot, RootNames, RootNamesBoth}
use Rattle.path_flatten.specs.Reading.{IsVector}
use Rattle.path_flatten.specs.Sliding.{IsIndexOf, ReadsIndex, ReadsSlide}
use Rattle.path_flatten.specs.Stepping as F
use Rattle.path_flatten.specs.Stepping.{ReadsMember, ReadsElement, ReadsBetween, ReadsName, ReadsValue}
use Rattle.path_flatten.specs.Storing.{ReadsPath}
use Rattle.path_flatten.proofs.Helping.{helps-before, grows-both}
use Rattle.path_flatten.proofs.Naming.{same-turned}
use Rattle.expr_lower.specs.Elements.{StandsInWords, ReadsWordBy, NamesWordBy}
use Rattle.expr_lower.specs.Leaves.{leaves, indexed, Each}
use Rattle.expr_lower.specs.Lowering.{IsShown, LeafStands, Lowers}
use Rattle.name_maps.specs.Named.{signal_name, local_name, OneSignal, OneLocal}
use Rattle.memory_words.specs.Readings.{ReadsKnownWord, NamesMemory}
use Rattle.path_steps.specs.Known.{IsKnown}
use Rattle.path_steps.specs.Sliding.{ReadsKnownSlide}
use Rattle.path_steps.specs.Stands.{stand_names}
use Rattle.path_steps.proofs.PathNames.{NamedStep, images-like, images-of, stands-named, step-images, fixed-images}
use Rattle.path_steps.proofs.PathSteps as W
use Rattle.expr_lower.specs.Paths.{Found, Finds, Indexes, LowersAnywhere}
use Rattle.expr_lower.proofs.AskedLeaves.{each-right, off, off-left, off-right, leaves-Signal, leaves-Local, leaves-Member, leaves-Part, leaves-Index, leaves-Slide}
use Rattle.expr_lower.proofs.Asking.{lowers-more}
use Rattle.expr_lower.proofs.Words.{plain-leaves, shown-leaf, word-found, known-word-found}
use Rattle.expr_lower.proofs.Values.{shown-holds, length-from, one-image}

-- more helpers
pub finds-more : (names : NameMap) (fs : List Function) (old new : List Helper) (e : Expr) (r : Reading) → Grows old new → Finds names fs old e r → Finds names fs new e r
finds-more names fs old new e r grows h im a sc all helps = h im a sc all (helps-before old new sc grows helps)

indexes-more : (names : NameMap) (fs : List Function) (old new : List Helper) (e : Expr) (x : Index) → Grows old new → Indexes names fs old e x → Indexes names fs new e x
indexes-more names fs old new e x grows h = record {
  width = h.width;
  sign = h.sign;
  lowers = lowers-more names fs old new e (S.wide (meaning e)) (S.signed (meaning e)) (T.meaning x.expr) grows h.lowers;
}

module _ (im : Images) (a : Around) (sc : Scope) where
  -- whole signals and locals
  root-found : (e : S.Meaning) (of : Layout) (n w : ℕ) (name : Name) (r : Reading) → ((b : Around) → W.IsRootPath e of n b) → IsShown name im sc n of → w ≡ length of.two_state
      → ReadsName name w r → r.root ≡ R.Name name → Found im a sc e r
  root-found e of n w name r path shown width reads root =
      let size = length of.two_state in
      let at_size : ReadsName name (length of.two_state) r = subst (λ k. ReadsName name k r) width reads in
      record {
        reads = λ now v agree.
            (let b : Around = record a { now = now } in
            let p = path b in
            let vector : IsVector (named sc.names name) (length of.two_state) (e.base b) v =
            record { vector = shown.vector; width = shown.width; holds = shown-holds of n name im sc now v shown agree ∙ sym p.base } in
            at_size e b sc v p.wide p.window (ap length p.base ∙ length-from now n 0 size) vector);
        names = subst (λ l. AreImages im.number l (root_names r.root sc)) (sym (path a).stands)
            (subst (λ (x : Root). AreImages im.number (record { number = n; of = of } ∷ []) (root_names x sc)) (sym root) (one-image im.number n (named sc.names name).number of shown.number));
      }

  -- what is no path
  value-found : (e : Expr) (m : T.Meaning) (w : ℕ) (r : Reading) → IsValued (meaning e) → (meaning e).index_names ≡ (meaning e).names → w ≡ S.wide (meaning e)
      → ((now v : Valuation) → Agree im now v → SameAlone (meaning e) (record a { now = now }) m sc v) → AreImages im.number (meaning e).names (m.names sc)
      → ReadsValue m w r → RootNames m r.root → Found im a sc (meaning e) r
  value-found e m w r valued alike width same images reads names = record {
    reads = λ now v agree.
        (let b : Around = record a { now = now } in
        reads (meaning e) b sc v (sym width) (valued.window b ∙ ap whole (sym width)) (valued.base b) (length-value e (S.wide (meaning e)) (S.signed (meaning e)) b ∙ sym width) (same now v agree));
    names = images-like im.number (stand_names (meaning e)) (m.names sc) (root_names r.root sc) (subst (λ l. AreImages im.number l (m.names sc)) (sym stands) images) (names sc);
  }
    where
      stands : stand_names (meaning e) ≡ (meaning e).names
      stands = ap (λ (x : Option ℕ). P.names_of_root x (meaning e).names ++ (meaning e).index_names) valued.root ∙ alike

  -- steps without an index
  member-found : (of : Layout) (at : ℕ) (from : S.Meaning) (k : ℕ) (t : SvType) (old r : Reading) → from.of ≡ layout t → (P.member of at from k).misfits ≡ 0
      → Found im a sc from old → ReadsMember old t k r → r.root ≡ old.root → Found im a sc (P.member of at from k) r
  member-found of at from k t old r kind typed found reads root = record {
    reads = λ now v agree. reads (P.member of at from k) from (record a { now = now }) sc v kind (W.member-step of at from k _) (W.member-part of at from k typed) (found.reads now v agree);
    names = fixed-images im.number (P.member of at from k) from (root_names r.root sc) (W.member-named of at from k) (subst (λ (x : Root). AreImages im.number (stand_names from) (root_names x sc)) (sym root) found.names);
  }

  part-found : (of : Layout) (at : ℕ) (from : S.Meaning) (left right : ℤ) (t : SvType) (old r : Reading) → from.of ≡ layout t → (P.part_select of at from left right).misfits ≡ 0
      → Found im a sc from old → ReadsBetween old t left right r → r.root ≡ old.root → Found im a sc (P.part_select of at from left right) r
  part-found of at from left right t old r kind typed found reads root = record {
    reads = λ now v agree.
        reads (P.part_select of at from left right) from (record a { now = now }) sc v kind (W.part-step of at from left right _) (W.part-wide of at from left right typed) (found.reads now v agree);
    names = fixed-images im.number (P.part_select of at from left right) from (root_names r.root sc) (W.part-named of at from left right)
        (subst (λ (x : Root). AreImages im.number (stand_names from) (root_names x sc)) (sym root) found.names);
  }

  -- by an index that is known
  known-found : (of : Layout) (at : ℕ) (from i : S.Meaning) (z : Option ℤ) (t : SvType) (old r : Reading) → from.of ≡ layout t → (P.index of at from i).misfits ≡ 0
      → ((b : Around) → P.index_of i b ≡ z) → i.names ≡ [] → Found im a sc from old → ReadsElement old t z r → r.root ≡ old.root → Found im a sc (P.index of at from i) r
  known-found of at from i z t old r kind typed is none found reads root = record {
    reads = λ now v agree.
        (let b : Around = record a { now = now } in
        reads (P.index of at from i) from b sc v kind (subst (λ k. F.IsStep (P.index of at from i) from b (element_of from.of k)) (is b) (W.index-step of at from i b)) (W.index-wide of at from i typed) (found.reads now v agree));
    names = fixed-images im.number (P.index of at from i) from (root_names r.root sc) (subst (NamedStep (P.index of at from i) from) none (W.index-named of at from i))
        (subst (λ (x : Root). AreImages im.number (stand_names from) (root_names x sc)) (sym root) found.names);
  }

  known-slide-found : (of : Layout) (at : ℕ) (from i : S.Meaning) (n : ℕ) (up : Bool) (z : Option ℤ) (t : SvType) (old r : Reading) → from.of ≡ layout t → (P.sliding of at from i n up).misfits ≡ 0
      → ((b : Around) → P.index_of i b ≡ z) → i.names ≡ [] → Found im a sc from old → ReadsKnownSlide old t up n z r → r.root ≡ old.root → Found im a sc (P.sliding of at from i n up) r
  known-slide-found of at from i n up z t old r kind typed is none found reads root = record {
    reads = λ now v agree.
        (let b : Around = record a { now = now } in
        reads (P.sliding of at from i n up) from b sc v kind (subst (λ k. F.IsStep (P.sliding of at from i n up) from b (slide from.of up n k)) (is b) (W.slide-step of at from i n up b)) (W.slide-wide of at from i n up typed) (found.reads now v agree));
    names = fixed-images im.number (P.sliding of at from i n up) from (root_names r.root sc) (subst (NamedStep (P.sliding of at from i n up) from) none (W.slide-named of at from i n up))
        (subst (λ (x : Root). AreImages im.number (stand_names from) (root_names x sc)) (sym root) found.names);
  }

  -- and by one that isn't
  index-found : (of : Layout) (at : ℕ) (from i : S.Meaning) (x : Index) (t : SvType) (hs : List Helper) (old r : Reading) → from.of ≡ layout t → (P.index of at from i).misfits ≡ 0
      → 1 ≤ S.wide (P.index of at from i) → 1 ≤ S.wide from → ((now v : Valuation) → Agree im now v → IsIndexOf x i (record a { now = now }) sc v) → AreImages im.number i.names ((T.meaning x.expr).names sc)
      → EachHelps hs sc → Found im a sc from old → ReadsIndex old t x hs r → RootNamesBoth old.root (T.meaning x.expr) r.root → Found im a sc (P.index of at from i) r
  index-found of at from i x t hs old r kind typed some all index images helps found reads names = record {
    reads = λ now v agree.
        (let b : Around = record a { now = now } in
        reads (P.index of at from i) from i b sc v kind (W.index-step of at from i b) (W.index-wide of at from i typed) some all (index now v agree) helps (found.reads now v agree));
    names = step-images im.number (P.index of at from i) from i.names (root_names old.root sc) ((T.meaning x.expr).names sc) (root_names r.root sc) (W.index-named of at from i) found.names images (names sc);
  }

  slide-found : (of : Layout) (at : ℕ) (from i : S.Meaning) (n : ℕ) (up : Bool) (x : Index) (t : SvType) (hs : List Helper) (old r : Reading) → from.of ≡ layout t
      → (P.sliding of at from i n up).misfits ≡ 0 → 1 ≤ S.wide (P.sliding of at from i n up) → 1 ≤ S.wide from
      → ((now v : Valuation) → Agree im now v → IsIndexOf x i (record a { now = now }) sc v) → AreImages im.number i.names ((T.meaning x.expr).names sc)
      → EachHelps hs sc → Found im a sc from old → ReadsSlide old t up n x hs r → RootNamesBoth old.root (T.meaning x.expr) r.root → Found im a sc (P.sliding of at from i n up) r
  slide-found of at from i n up x t hs old r kind typed some all index images helps found reads names = record {
    reads = λ now v agree.
        (let b : Around = record a { now = now } in
        reads (P.sliding of at from i n up) from i b sc v kind (W.slide-step of at from i n up b) (W.slide-wide of at from i n up typed) some all (index now v agree) helps (found.reads now v agree));
    names = step-images im.number (P.sliding of at from i n up) from i.names (root_names old.root sc) ((T.meaning x.expr).names sc) (root_names r.root sc) (W.slide-named of at from i n up) found.names images (names sc);
  }

-- a lowered index
index-of : (names : NameMap) (fs : List Function) (hs : List Helper) (e : Expr) (x : Index) (im : Images) (a : Around) (sc : Scope) → Indexes names fs hs e x → 1 ≤ S.wide (meaning e)
    → Each (LeafStands names fs im a sc) (leaves e) → EachHelps hs sc → (now v : Valuation) → Agree im now v → IsIndexOf x (meaning e) (record a { now = now }) sc v
index-of names fs hs e x im a sc h some all helps now v agree = record {
  width = h.width;
  sign = sym h.sign;
  some = some;
  long = length-value e (S.wide (meaning e)) (S.signed (meaning e)) (record a { now = now });
  same = (h.lowers im a sc all helps).stands now v agree;
}

module _ (names : NameMap) (fs : List Function) (hs : List Helper) where
  at-level : (e : Expr) (m : S.Meaning) (r : Reading) (im : Images) (a : Around) (sc : Scope) → meaning e ≡ m → Found im a sc m r → Found im a sc (meaning e) r
  at-level e m r im a sc is h = subst (λ (x : S.Meaning). Found im a sc x r) (sym is) h

  typed-at : (e : Expr) (m : S.Meaning) → meaning e ≡ m → (meaning e).misfits ≡ 0 → m.misfits ≡ 0
  typed-at e m is typed = subst (λ (x : S.Meaning). x.misfits ≡ 0) is typed

  some-at : (e : Expr) (m : S.Meaning) → meaning e ≡ m → (meaning e).misfits ≡ 0 → 1 ≤ S.wide m
  some-at e m is typed = subst (λ (x : S.Meaning). 1 ≤ S.wide x) is (has-bits e typed)

  pub finds-Signal : (e : Expr) (n w : ℕ) (name : Name) (r : Reading) → e.form ≡ V.Signal n → (OneSignal names.signals n → name ≡ signal_name names.signals n) → w ≡ width_of e.of → ReadsName name w r → r.root ≡ R.Name name
      → Finds names fs hs e r
  finds-Signal e n w name r is name_is width reads root im a sc all helps =
      let leaf = (subst (Each (LeafStands names fs im a sc)) (leaves-Signal e n is) all).0 in
      at-level e (P.signal (layout e.of) e.spot.at n) r im a sc (E.same-Signal e n is)
      (root-found im a sc (P.signal (layout e.of) e.spot.at n) (layout e.of) n w name r (W.signal-path (layout e.of) e.spot.at n)
      (subst (λ k. IsShown k im sc n (layout e.of)) (sym (name_is leaf.0)) leaf.1) width reads root)

  pub finds-Local : (e : Expr) (n w : ℕ) (name : Name) (r : Reading) → e.form ≡ V.Local n → (OneLocal names.locals n → name ≡ local_name names.locals n) → w ≡ width_of e.of → ReadsName name w r → r.root ≡ R.Name name
      → Finds names fs hs e r
  finds-Local e n w name r is name_is width reads root im a sc all helps =
      let leaf = (subst (Each (LeafStands names fs im a sc)) (leaves-Local e n is) all).0 in
      at-level e (P.local (layout e.of) e.spot.at n) r im a sc (E.same-Local e n is)
      (root-found im a sc (P.local (layout e.of) e.spot.at n) (layout e.of) (local_number n) w name r (W.local-path (layout e.of) e.spot.at n)
      (subst (λ k. IsShown k im sc (local_number n) (layout e.of)) (sym (name_is leaf.0)) leaf.1) width reads root)

  pub finds-value : (e : Expr) (m : T.Meaning) (w : ℕ) (r : Reading) → IsValued (meaning e) → (meaning e).index_names ≡ (meaning e).names → w ≡ S.wide (meaning e)
      → Lowers names fs hs e (S.wide (meaning e)) (S.signed (meaning e)) m → ReadsValue m w r → RootNames m r.root → Finds names fs hs e r
  finds-value e m w r valued alike width lowers reads root im a sc all helps =
      let stood = lowers im a sc all helps in
      value-found im a sc e m w r valued alike width stood.stands stood.names reads root

  pub finds-Member : (e x : Expr) (k : ℕ) (old r : Reading) → e.form ≡ V.Member x k → (meaning e).misfits ≡ 0 → Finds names fs hs x old → ReadsMember old x.of k r → r.root ≡ old.root → Finds names fs hs e r
  finds-Member e x k old r is typed found reads root im a sc all helps =
      let from = found im a sc (off (LeafStands names fs im a sc) (λ n of h. h) (leaves x) (subst (Each (LeafStands names fs im a sc)) (leaves-Member e x k is) all)) helps in
      let level = E.same-Member e x k is in
      at-level e _ r im a sc level (member-found im a sc (layout e.of) e.spot.at (meaning x) k x.of old r (heads x).kind (typed-at e _ level typed) from reads root)

  pub finds-Part : (e x : Expr) (left right : ℤ) (old r : Reading) → e.form ≡ V.Part x left right → (meaning e).misfits ≡ 0 → Finds names fs hs x old → ReadsBetween old x.of left right r → r.root ≡ old.root
      → Finds names fs hs e r
  finds-Part e x left right old r is typed found reads root im a sc all helps =
      let from = found im a sc (off (LeafStands names fs im a sc) (λ n of h. h) (leaves x) (subst (Each (LeafStands names fs im a sc)) (leaves-Part e x left right is) all)) helps in
      let level = E.same-Part e x left right is in
      at-level e _ r im a sc level (part-found im a sc (layout e.of) e.spot.at (meaning x) left right x.of old r (heads x).kind (typed-at e _ level typed) from reads root)

  pub finds-known : (e x i : Expr) (z : Option ℤ) (old r : Reading) → e.form ≡ V.Index x i → (meaning e).misfits ≡ 0 → IsKnown i z → StandsInWords names x None → Finds names fs hs x old → ReadsElement old x.of z r → r.root ≡ old.root
      → Finds names fs hs e r
  finds-known e x i z old r is typed known plain found reads root im a sc all helps =
      let leaf = subst (Each (LeafStands names fs im a sc)) (leaves-Index e x i is) all in
      let from = found im a sc (plain-leaves names fs im a sc x i plain leaf) helps in
      let level = E.same-Index e x i is in
      at-level e _ r im a sc level
      (known-found im a sc (layout e.of) e.spot.at (meaning x) (meaning i) z x.of old r (heads x).kind (typed-at e _ level typed) known.number known.none from reads root)

  pub finds-Index : (e x i : Expr) (y : Index) (old r : Reading) → e.form ≡ V.Index x i → (meaning e).misfits ≡ 0 → (meaning x).misfits ≡ 0 → (meaning i).misfits ≡ 0 → Indexes names fs hs i y
      → StandsInWords names x None → Finds names fs hs x old → ReadsIndex old x.of y hs r → RootNamesBoth old.root (T.meaning y.expr) r.root → Finds names fs hs e r
  finds-Index e x i y old r is typed typed_x typed_i index plain found reads root im a sc all helps =
      let leaf = subst (Each (LeafStands names fs im a sc)) (leaves-Index e x i is) all in
      let from = found im a sc (plain-leaves names fs im a sc x i plain leaf) helps in
      let own = each-right (LeafStands names fs im a sc) (indexed (leaves x)) (leaves i) leaf in
      let level = E.same-Index e x i is in
      at-level e _ r im a sc level
      (index-found im a sc (layout e.of) e.spot.at (meaning x) (meaning i) y x.of hs old r (heads x).kind (typed-at e _ level typed) (some-at e _ level typed) (has-bits x typed_x)
      (index-of names fs hs i y im a sc index (has-bits i typed_i) own helps) (index.lowers im a sc own helps).names helps from reads root)

  -- the same, with fewer helpers for what is selected from and for the index
  pub finds-by-index : (one two : List Helper) (e x i : Expr) (y : Index) (old r : Reading) → Grows one two → Grows two hs → e.form ≡ V.Index x i → (meaning e).misfits ≡ 0 → (meaning x).misfits ≡ 0
      → (meaning i).misfits ≡ 0 → Indexes names fs two i y → StandsInWords names x None → Finds names fs one x old → ReadsIndex old x.of y hs r → RootNamesBoth old.root (T.meaning y.expr) r.root → Finds names fs hs e r
  finds-by-index one two e x i y old r first second is typed typed_x typed_i index plain found reads root =
      finds-Index e x i y old r is typed typed_x typed_i (indexes-more names fs two hs i y second index) plain (finds-more names fs one hs x old (grows-both one two hs first second) found) reads root

  -- by a word
  pub finds-word : (e x i : Expr) (n : ℕ) (y : Index) (r : Reading) → e.form ≡ V.Index x i → (meaning e).misfits ≡ 0 → (meaning x).misfits ≡ 0 → (meaning i).misfits ≡ 0 → StandsInWords names x (Some n)
      → Indexes names fs hs i y → (OneSignal names.signals n → ReadsWordBy (signal_name names.signals n) x.of y r) → (OneSignal names.signals n → NamesWordBy (signal_name names.signals n) y r) → Finds names fs hs e r
  finds-word e x i n y r is typed typed_x typed_i stands index reads all_named im a sc all helps =
      let leaf = shown-leaf names fs im a sc x i n stands (subst (Each (LeafStands names fs im a sc)) (leaves-Index e x i is) all) in
      word-found names e x i n is typed typed_x stands im a sc leaf.shown y r (index-of names fs hs i y im a sc index (has-bits i typed_i) leaf.rest helps) (index.lowers im a sc leaf.rest helps).names (reads leaf.one) (all_named leaf.one)

  pub finds-known-word : (e x i : Expr) (n : ℕ) (z : Option ℤ) (r : Reading) → e.form ≡ V.Index x i → (meaning e).misfits ≡ 0 → (meaning x).misfits ≡ 0 → StandsInWords names x (Some n) → IsKnown i z
      → (OneSignal names.signals n → ReadsKnownWord (signal_name names.signals n) x.of z r) → (OneSignal names.signals n → NamesMemory (signal_name names.signals n) r) → Finds names fs hs e r
  finds-known-word e x i n z r is typed typed_x stands known reads all_named im a sc all helps =
      let leaf = shown-leaf names fs im a sc x i n stands (subst (Each (LeafStands names fs im a sc)) (leaves-Index e x i is) all) in
      known-word-found names e x i n is typed typed_x stands im a sc leaf.shown z r known (reads leaf.one) (all_named leaf.one)

  pub finds-Slide : (e x i : Expr) (n : ℕ) (up : Bool) (y : Index) (old r : Reading) → e.form ≡ V.Slide x i n up → (meaning e).misfits ≡ 0 → (meaning x).misfits ≡ 0 → (meaning i).misfits ≡ 0
      → Indexes names fs hs i y → Finds names fs hs x old → ReadsSlide old x.of up n y hs r → RootNamesBoth old.root (T.meaning y.expr) r.root → Finds names fs hs e r
  finds-Slide e x i n up y old r is typed typed_x typed_i index found reads root im a sc all helps =
      let leaf = subst (Each (LeafStands names fs im a sc)) (leaves-Slide e x i n up is) all in
      let from = found im a sc (off-left (LeafStands names fs im a sc) (λ n of h. h) x i leaf) helps in
      let own = off-right (LeafStands names fs im a sc) x i leaf in
      let level = E.same-Slide e x i n up is in
      at-level e _ r im a sc level
      (slide-found im a sc (layout e.of) e.spot.at (meaning x) (meaning i) n up y x.of hs old r (heads x).kind (typed-at e _ level typed) (some-at e _ level typed) (has-bits x typed_x)
      (index-of names fs hs i y im a sc index (has-bits i typed_i) own helps) (index.lowers im a sc own helps).names helps from reads root)

  pub finds-known-slide : (e x i : Expr) (n : ℕ) (up : Bool) (z : Option ℤ) (old r : Reading) → e.form ≡ V.Slide x i n up → (meaning e).misfits ≡ 0 → IsKnown i z → Finds names fs hs x old
      → ReadsKnownSlide old x.of up n z r → r.root ≡ old.root → Finds names fs hs e r
  finds-known-slide e x i n up z old r is typed known found reads root im a sc all helps =
      let leaf = subst (Each (LeafStands names fs im a sc)) (leaves-Slide e x i n up is) all in
      let from = found im a sc (off-left (LeafStands names fs im a sc) (λ n of h. h) x i leaf) helps in
      let level = E.same-Slide e x i n up is in
      at-level e _ r im a sc level
      (known-slide-found im a sc (layout e.of) e.spot.at (meaning x) (meaning i) n up z x.of old r (heads x).kind (typed-at e _ level typed) known.number known.none from reads root)

  pub finds-by-slide : (one two : List Helper) (e x i : Expr) (n : ℕ) (up : Bool) (y : Index) (old r : Reading) → Grows one two → Grows two hs → e.form ≡ V.Slide x i n up → (meaning e).misfits ≡ 0
      → (meaning x).misfits ≡ 0 → (meaning i).misfits ≡ 0 → Indexes names fs two i y → Finds names fs one x old → ReadsSlide old x.of up n y hs r → RootNamesBoth old.root (T.meaning y.expr) r.root
      → Finds names fs hs e r
  finds-by-slide one two e x i n up y old r first second is typed typed_x typed_i index found reads root =
      finds-Slide e x i n up y old r is typed typed_x typed_i (indexes-more names fs two hs i y second index) (finds-more names fs one hs x old (grows-both one two hs first second) found) reads root

  -- how many bits an indexed part-select has
  pub slide-size : (e x i : Expr) (n : ℕ) (up : Bool) → e.form ≡ V.Slide x i n up → (meaning e).misfits ≡ 0 → S.wide (meaning e) ≡ n * length (layout x.of).element.two_state
  slide-size e x i n up is typed =
      let level = E.same-Slide e x i n up is in
      ap (λ (m : S.Meaning). S.wide m) level ∙ W.slide-wide (layout e.of) e.spot.at (meaning x) (meaning i) n up (typed-at e _ level typed) ∙ ap (λ (l : Layout). n * length l.element.two_state) (heads x).kind

  -- what is read stands for the path
  pub lowers-path : (e : Expr) (s : Step) (old : List Helper) (r : Reading) (m : T.Meaning) → IsStep s e → (meaning e).misfits ≡ 0 → Grows old hs → Finds names fs old e r → ReadsPath r e.of hs m → NamesRoot r.root m
      → LowersAnywhere names fs hs e m
  lowers-path e s old r m step typed grows found reads named w b im a sc all helps =
      let from = found im a sc all (helps-before old hs sc grows helps) in
      record {
        stands = λ now v agree. reads (meaning e) (record a { now = now }) sc v (heads e).kind (W.step-path e s _ step) (has-bits e typed) (from.reads now v agree) helps w b;
        names = images-of im.number (stand_names (meaning e)) (meaning e).names (m.names sc) (images-like im.number (stand_names (meaning e)) (root_names r.root sc) (m.names sc) from.names (named sc))
            (same-turned _ _ (stands-named (meaning e) (W.path-named e s step)));
      }
