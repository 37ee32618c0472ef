-- Readings of select paths with their indices, select by select.
use Rattle.std.proofs.Common.{◌≡◌, ℕ, zero, suc, ◌*◌, ◌≤◌, Bool, true, false, ℤ, List, [], ◌∷◌, ◌++◌, append_assoc, append-nil, length, Option, Some, None, IfSome, IsSome, refl, ap, sym, ◌∙◌, subst, true≢false}
use Rattle.row_machine.specs.Valuation.{Valuation}
use Rattle.row_machine.specs.Places.{bits_from}
use Rattle.picks.specs.Windows.{whole}
use Rattle.sv_types.specs.declared.expression.Expr.{Expr}
use Rattle.sv_types.specs.declared.expression.Form.{out-Form}
use Rattle.sv_types.specs.declared.expression.Form.TheVariants as V
use Rattle.sv_types.specs.Layouts.{Layout, layout, width_of, count_of}
use Rattle.sv_types.specs.Surroundings.{Around}
use Rattle.sv_types.specs.Meanings as S
use Rattle.sv_types.specs.Paths as P
use Rattle.sv_types.specs.Expressions.{meaning}
use Rattle.sv_types.proofs.Heads.{heads}
use Rattle.sv_types.proofs.ValueLengths.{length-value}
use Rattle.sv_types.proofs.Widths.{has-bits}
use Rattle.v_tree.specs.Names.{Name}
use Rattle.v_tree.specs.declared.names.Helper.{Helper}
use Rattle.v_tree.specs.declared.names.NameMap.{NameMap}
use Rattle.name_maps.specs.Named.{signal_name, local_name, is_memory, OneSignal, OneLocal}
use Rattle.v_meaning.specs.Scopes.{Scope, named}
use Rattle.v_meaning.specs.Values as T
use Rattle.eval_parts.specs.declared.path_steps.Step.TheVariants as Q
use Rattle.eval_parts.specs.Steps.{is_path, IsValued}
use Rattle.eval_parts.proofs.Selecting as E
use Rattle.lowering_laws.specs.Steps.{IsPath}
use Rattle.lowering_laws.proofs.Wholes.{type-whole}
use Rattle.lowering_laws.specs.NamedImages.{AreImages}
use Rattle.path_flatten.specs.declared.readings.Root.{Root}
use Rattle.path_flatten.specs.declared.readings.Root.TheVariants as R
use Rattle.path_flatten.specs.declared.readings.Reading.{Reading}
use Rattle.path_flatten.specs.Helping.{Grows}
use Rattle.path_flatten.specs.Naming.{SameNumbers, root_names, NamesRoot, RootNames}
use Rattle.path_flatten.specs.Reading.{IsVector, Reads}
use Rattle.path_flatten.specs.Stepping.{ReadsMember, ReadsBetween, ReadsName, ReadsValue}
use Rattle.path_flatten.specs.Storing.{ReadsPath}
use Rattle.path_flatten.proofs.Helping.{helps-before}
use Rattle.path_flatten.proofs.Naming.{same-itself, same-by, same-turned, same-then, same-joined}
use Rattle.path_steps.specs.Stands.{stand_names}
use Rattle.path_steps.proofs.PathNames.{IsNamed, NamedStep, images-like, images-of, step-images, fixed-images, step-named, stands-named}
use Rattle.path_steps.proofs.PathSteps as W
use Rattle.path_walk.specs.declared.indices.StepIndex.{StepIndex}
use Rattle.path_walk.specs.Bases.{HasStand, IsMemoryAt, Stand, Vector, Memory, Value, Nothing, value_stand, signal_stand, stand_in, stand_of, HoldsBits, stand_numbers}
use Rattle.path_walk.specs.Indices.{IsIndexBy, index_names, all_names, ReadsElementBy, ReadsSlideBy, ReadsWordBy, NamesStep, NamesWordBy}
use Rattle.path_walk.specs.Selects.{Select, Member, Index, Part, Slide, PathForm, Signal, Local, Other, Selected, path_form, IsRoot, IsPathOn, indices_of, BeginsAtElement}
use Rattle.path_walk.specs.Flattening.{path_names, Found, Finds, FindsElement, Flattens, StandsForPath}
use Rattle.path_walk.proofs.PathForms.{form-Signal, form-Local, form-Member, form-Index, form-Part, form-Slide, form-plain, at-root, at-select}
use Rattle.path_walk.proofs.Lists.{count-last, none-last, no-items, names-last, pairs-last, begins-Member, begins-Part, begins-Slide}
use Rattle.path_walk.proofs.Typed.{member-path, index-path, part-path, slide-path}

length-bits : (v : Valuation) (n k w : ℕ) → length (bits_from v n k w) ≡ w
length-bits v n k zero = refl
length-bits v n k (suc w) = ap suc (length-bits v n (suc k) w)

-- all of a vector
whole-reads : (e : S.Meaning) (w : ℕ) (name : Name) (r : Reading) (a : Around) (sc : Scope) (v : Valuation) → w ≡ S.wide e → e.window a ≡ whole (S.wide e) → ReadsName name w r
    → IsVector (named sc.names name) (S.wide e) (e.base a) v → Reads r e a sc v
whole-reads e w name r a sc v width window reads vector =
    let at_size : ReadsName name (S.wide e) r = subst (λ k. ReadsName name k r) width reads in
    at_size e a sc v refl window (ap length (sym vector.holds) ∙ length-bits v _ 0 (S.wide e)) vector

-- what stands for a whole signal
signal-vector : (b : Bool) (name : Name) (e : S.Meaning) (a : Around) (sc : Scope) (v : Valuation) → HoldsBits (signal_stand b name) e [] a sc v → IsVector (named sc.names name) (S.wide e) (e.base a) v
signal-vector true name e a sc v h = absurd h.1
signal-vector false name e a sc v h = h

signal-names : (b : Bool) (name : Name) (sc : Scope) → stand_numbers (signal_stand b name) sc ≡ (named sc.names name).number ∷ []
signal-names true name sc = refl
signal-names false name sc = refl

-- what stands for what is neither signal nor local
value-reads : (m : Option T.Meaning) (e : Expr) (w : ℕ) (r : Reading) (a : Around) (sc : Scope) (v : Valuation) → IsValued (meaning e) → w ≡ S.wide (meaning e) → IfSome m (λ k. ReadsValue k w r)
    → HoldsBits (value_stand m) (meaning e) [] a sc v → Reads r (meaning e) a sc v
value-reads None e w r a sc v valued width reads h = absurd h
value-reads (Some m) e w r a sc v valued width reads h =
    let at_size : ReadsValue m (S.wide (meaning e)) r = subst (λ k. ReadsValue m k r) width reads in
    at_size (meaning e) a sc v refl (valued.window a) (valued.base a) (length-value e (S.wide (meaning e)) (S.signed (meaning e)) a) h

value-names : (m : Option T.Meaning) (r : Reading) (sc : Scope) → IsSome m → IfSome m (λ k. RootNames k r.root) → SameNumbers (stand_numbers (value_stand m) sc) (root_names r.root sc)
value-names None r sc some names = absurd (true≢false (sym some))
value-names (Some m) r sc some names = names sc

-- the text holds it, whatever is selected from it, but for a memory
holds-below : (s : Stand) (e : S.Meaning) (above below : List Select) (a : Around) (sc : Scope) (v : Valuation) → (BeginsAtElement above → BeginsAtElement below) → HoldsBits s e above a sc v
    → HoldsBits s e below a sc v
holds-below (Vector name) e above below a sc v begins h = h
holds-below (Memory name) e above below a sc v begins h = (h.0, begins h.1)
holds-below (Value m) e above below a sc v begins h = h
holds-below Nothing e above below a sc v begins h = h

all-ended : (ns : List ℕ) (xs : List StepIndex) (x : StepIndex) (sc : Scope) → ns ++ all_names (xs ++ x ∷ []) sc ≡ (ns ++ all_names xs sc) ++ index_names x sc
all-ended ns xs x sc = ap (λ l. ns ++ l) (names-last xs x sc) ∙ sym (append_assoc ns (all_names xs sc) (index_names x sc))

names-ended : (ns : List ℕ) (xs : List StepIndex) (x : StepIndex) (old r : Reading) (sc : Scope) → SameNumbers (ns ++ all_names xs sc) (root_names old.root sc) → NamesStep old x r
    → SameNumbers (ns ++ all_names (xs ++ x ∷ []) sc) (root_names r.root sc)
names-ended ns xs x old r sc before step =
    subst (λ l. SameNumbers l (root_names r.root sc)) (sym (all-ended ns xs x sc))
    (same-then ((ns ++ all_names xs sc) ++ index_names x sc) (root_names old.root sc ++ index_names x sc) (root_names r.root sc)
    (same-joined (ns ++ all_names xs sc) (root_names old.root sc) (index_names x sc) (index_names x sc) before (same-itself (index_names x sc))) (step sc))

-- so do the images of what is named
images-ended : (image : ℕ → ℕ) (e from : S.Meaning) (ix : List S.Named) (ns : List ℕ) (xs : List StepIndex) (x : StepIndex) (sc : Scope) → NamedStep e from ix
    → AreImages image (stand_names from) (ns ++ all_names xs sc) → AreImages image ix (index_names x sc) → AreImages image (stand_names e) (ns ++ all_names (xs ++ x ∷ []) sc)
images-ended image e from ix ns xs x sc step h g =
    step-images image e from ix (ns ++ all_names xs sc) (index_names x sc) (ns ++ all_names (xs ++ x ∷ []) sc) step h g (same-by _ _ (sym (all-ended ns xs x sc)))

images-of-root : (image : ℕ → ℕ) (e : S.Meaning) (ns : List ℕ) (xs : List StepIndex) (sc : Scope) → xs ≡ [] → AreImages image (stand_names e) ns → AreImages image (stand_names e) (ns ++ all_names xs sc)
images-of-root image e ns xs sc none h = subst (AreImages image (stand_names e)) (sym (append-nil ns) ∙ ap (λ l. ns ++ all_names l sc) (sym none)) h

module _ (names : NameMap) (value : Option T.Meaning) where
  abbrev Counted : Expr → List StepIndex → List Helper → Reading → Expr → List Select → Type 0
  Counted e xs hs r base ss = length xs ≡ length (indices_of ss) → HasStand names value (path_form base) → Found names value base ss e xs hs r

  root-named : (e : Expr) (xs : List StepIndex) (r : Reading) (name : Name) (sc : Scope) → stand_numbers (stand_of names value e) sc ≡ (named sc.names name).number ∷ [] → xs ≡ [] → r.root ≡ R.Name name
      → SameNumbers (path_names names value e xs sc) (root_names r.root sc)
  root-named e xs r name sc stand none root =
      same-by (path_names names value e xs sc) (root_names r.root sc)
      (ap (λ l. l ++ all_names xs sc) stand ∙ ap (λ l. (named sc.names name).number ∷ all_names l sc) none ∙ sym (ap (λ (x : Root). root_names x sc) root))

  -- whole signals and locals
  pub finds-Signal : (e : Expr) (xs : List StepIndex) (hs : List Helper) (n w : ℕ) (name : Name) (r : Reading) → e.form ≡ V.Signal n → (OneSignal names.signals n → name ≡ signal_name names.signals n) → w ≡ S.wide (meaning e)
      → ReadsName name w r → r.root ≡ R.Name name → Finds names value e xs hs r
  finds-Signal e xs hs n w name r is name_is width reads root =
      let form_is = form-Signal e n is in
      let b = is_memory names.signals n in
      at-root e (subst IsRoot (sym form_is) tt) (Counted e xs hs r) (λ count once.
      let stand : stand_of names value e ≡ signal_stand b name = ap (stand_in names value) form_is ∙ ap (signal_stand b) (sym (name_is (subst (HasStand names value) form_is once))) in
      record {
        reads = λ a sc v st.
            (let path = W.signal-path (layout e.of) e.spot.at n a in
            let window = subst (λ (m : S.Meaning). m.window a ≡ whole (S.wide m)) (sym (E.same-Signal e n is)) (path.window ∙ ap whole (sym path.wide)) in
            whole-reads (meaning e) w name r a sc v width window reads (signal-vector b name (meaning e) a sc v (subst (λ s. HoldsBits s (meaning e) [] a sc v) stand st.holds)));
        named = λ sc. root-named e xs r name sc (ap (λ s. stand_numbers s sc) stand ∙ signal-names b name sc) (no-items xs count) root;
        images = λ image sc h g. images-of-root image (meaning e) (stand_numbers (stand_of names value e) sc) xs sc (no-items xs count) h;
        path = λ kind a. W.step-path e (Q.Signal n) a is;
        kept = λ kind. stands-named (meaning e) (W.path-named e (Q.Signal n) is);
      })

  pub finds-Local : (e : Expr) (xs : List StepIndex) (hs : List Helper) (n w : ℕ) (name : Name) (r : Reading) → e.form ≡ V.Local n → (OneLocal names.locals n → name ≡ local_name names.locals n) → w ≡ S.wide (meaning e)
      → ReadsName name w r → r.root ≡ R.Name name → Finds names value e xs hs r
  finds-Local e xs hs n w name r is name_is width reads root =
      let form_is = form-Local e n is in
      at-root e (subst IsRoot (sym form_is) tt) (Counted e xs hs r) (λ count once.
      let stand : stand_of names value e ≡ Vector name = ap (stand_in names value) form_is ∙ ap Vector (sym (name_is (subst (HasStand names value) form_is once))) in
      record {
        reads = λ a sc v st.
            (let path = W.local-path (layout e.of) e.spot.at n a in
            let window = subst (λ (m : S.Meaning). m.window a ≡ whole (S.wide m)) (sym (E.same-Local e n is)) (path.window ∙ ap whole (sym path.wide)) in
            whole-reads (meaning e) w name r a sc v width window reads (subst (λ s. HoldsBits s (meaning e) [] a sc v) stand st.holds));
        named = λ sc. root-named e xs r name sc (ap (λ s. stand_numbers s sc) stand) (no-items xs count) root;
        images = λ image sc h g. images-of-root image (meaning e) (stand_numbers (stand_of names value e) sc) xs sc (no-items xs count) h;
        path = λ kind a. W.step-path e (Q.Local n) a is;
        kept = λ kind. stands-named (meaning e) (W.path-named e (Q.Local n) is);
      })

  -- what has another form
  pub finds-value : (e : Expr) (xs : List StepIndex) (hs : List Helper) (w : ℕ) (r : Reading) → is_path (out-Form e.form) ≡ false → IsValued (meaning e) → w ≡ S.wide (meaning e)
      → IfSome value (λ m. ReadsValue m w r) → IfSome value (λ m. RootNames m r.root) → Finds names value e xs hs r
  finds-value e xs hs w r plain valued width reads named_all =
      let form_is = form-plain e plain in
      let stand : stand_of names value e ≡ value_stand value = ap (stand_in names value) form_is in
      at-root e (subst IsRoot (sym form_is) tt) (Counted e xs hs r) (λ count once. record {
        reads = λ a sc v st. value-reads value e w r a sc v valued width reads (subst (λ s. HoldsBits s (meaning e) [] a sc v) stand st.holds);
        named = λ sc.
            (let none : stand_numbers (value_stand value) sc ≡ path_names names value e xs sc =
            sym (append-nil (stand_numbers (value_stand value) sc)) ∙ (λ i. stand_numbers (sym stand i) sc ++ all_names (sym (no-items xs count) i) sc) in
            subst (λ l. SameNumbers l (root_names r.root sc)) none (value-names value r sc (subst (HasStand names value) form_is once) named_all));
        images = λ image sc h g. images-of-root image (meaning e) (stand_numbers (stand_of names value e) sc) xs sc (no-items xs count) h;
        path = λ kind a. absurd (true≢false (sym kind ∙ plain));
        kept = λ kind. absurd (true≢false (sym kind ∙ plain));
      })

  -- selects without an index
  pub finds-Member : (e x : Expr) (k : ℕ) (xs : List StepIndex) (hs : List Helper) (old r : Reading) → e.form ≡ V.Member x k → (meaning e).misfits ≡ 0 → Finds names value x xs hs old
      → ReadsMember old x.of k r → r.root ≡ old.root → Finds names value e xs hs r
  finds-Member e x k xs hs old r is typed found reads root =
      let level = E.same-Member e x k is in
      at-select e x (Member k) (form-Member e x k is) (Counted e xs hs r) (λ base ss on count once.
      let from = found base ss on count once in
      record {
        reads = λ a sc v st.
            subst (λ (m : S.Meaning). Reads r m a sc v) (sym level)
            (reads (P.member (layout e.of) e.spot.at (meaning x) k) (meaning x) a sc v (heads x).kind (W.member-step (layout e.of) e.spot.at (meaning x) k a)
            (W.member-part (layout e.of) e.spot.at (meaning x) k (subst (λ (m : S.Meaning). m.misfits ≡ 0) level typed))
            (from.reads a sc v (record {
              holds = holds-below (stand_of names value base) (meaning base) (Member k ∷ ss) ss a sc v (begins-Member k ss) st.holds;
              indices = st.indices;
              helps = st.helps;
            })));
        named = λ sc. subst (λ (y : Root). SameNumbers (path_names names value base xs sc) (root_names y sc)) (sym root) (from.named sc);
        images = λ image sc h g.
            subst (λ (m : S.Meaning). AreImages image (stand_names m) (path_names names value base xs sc)) (sym level)
            (fixed-images image (P.member (layout e.of) e.spot.at (meaning x) k) (meaning x) (path_names names value base xs sc) (W.member-named (layout e.of) e.spot.at (meaning x) k) (from.images image sc h g));
        path = λ kind a. subst (λ (m : S.Meaning). IsPath m a) (sym level) (member-path (layout e.of) e.spot.at (meaning x) k a);
        kept = λ kind. stands-named (meaning e) (subst IsNamed (sym level) (step-named _ (meaning x) [] (W.member-named (layout e.of) e.spot.at (meaning x) k)));
      })

  pub finds-Part : (e x : Expr) (left right : ℤ) (xs : List StepIndex) (hs : List Helper) (old r : Reading) → e.form ≡ V.Part x left right → (meaning e).misfits ≡ 0 → Finds names value x xs hs old
      → ReadsBetween old x.of left right r → r.root ≡ old.root → Finds names value e xs hs r
  finds-Part e x left right xs hs old r is typed found reads root =
      let level = E.same-Part e x left right is in
      at-select e x (Part left right) (form-Part e x left right is) (Counted e xs hs r) (λ base ss on count once.
      let from = found base ss on count once in
      record {
        reads = λ a sc v st.
            subst (λ (m : S.Meaning). Reads r m a sc v) (sym level)
            (reads (P.part_select (layout e.of) e.spot.at (meaning x) left right) (meaning x) a sc v (heads x).kind (W.part-step (layout e.of) e.spot.at (meaning x) left right a)
            (W.part-wide (layout e.of) e.spot.at (meaning x) left right (subst (λ (m : S.Meaning). m.misfits ≡ 0) level typed))
            (from.reads a sc v (record {
              holds = holds-below (stand_of names value base) (meaning base) (Part left right ∷ ss) ss a sc v (begins-Part left right ss) st.holds;
              indices = st.indices;
              helps = st.helps;
            })));
        named = λ sc. subst (λ (y : Root). SameNumbers (path_names names value base xs sc) (root_names y sc)) (sym root) (from.named sc);
        images = λ image sc h g.
            subst (λ (m : S.Meaning). AreImages image (stand_names m) (path_names names value base xs sc)) (sym level)
            (fixed-images image (P.part_select (layout e.of) e.spot.at (meaning x) left right) (meaning x) (path_names names value base xs sc) (W.part-named (layout e.of) e.spot.at (meaning x) left right) (from.images image sc h g));
        path = λ kind a. subst (λ (m : S.Meaning). IsPath m a) (sym level) (part-path (layout e.of) e.spot.at (meaning x) left right a);
        kept = λ kind. stands-named (meaning e) (subst IsNamed (sym level) (step-named _ (meaning x) [] (W.part-named (layout e.of) e.spot.at (meaning x) left right)));
      })

  -- by an index
  pub finds-Slide : (e y i : Expr) (n : ℕ) (up : Bool) (x : StepIndex) (xs : List StepIndex) (old_hs hs : List Helper) (old r : Reading) → e.form ≡ V.Slide y i n up → (meaning e).misfits ≡ 0
      → (meaning y).misfits ≡ 0 → Grows old_hs hs → Finds names value y xs old_hs old → ReadsSlideBy old y.of up n x hs r → NamesStep old x r → Finds names value e (xs ++ x ∷ []) hs r
  finds-Slide e y i n up x xs old_hs hs old r is typed typed_y grows found reads step =
      let level = E.same-Slide e y i n up is in
      let typed_at = subst (λ (m : S.Meaning). m.misfits ≡ 0) level typed in
      at-select e y (Slide i n up) (form-Slide e y i n up is) (Counted e (xs ++ x ∷ []) hs r) (λ base ss on count once.
      let from = found base ss on (count-last xs x (indices_of ss) i count) once in
      record {
        reads = λ a sc v st.
            (let given = pairs-last (λ j z. IsIndexBy z (meaning j) a sc v) (indices_of ss) i xs x st.indices in
            subst (λ (m : S.Meaning). Reads r m a sc v) (sym level)
            (reads (P.sliding (layout e.of) e.spot.at (meaning y) (meaning i) n up) (meaning y) (meaning i) a sc v (heads y).kind (W.slide-step (layout e.of) e.spot.at (meaning y) (meaning i) n up a)
            (W.slide-wide (layout e.of) e.spot.at (meaning y) (meaning i) n up typed_at) (subst (λ (m : S.Meaning). 1 ≤ S.wide m) level (has-bits e typed)) (has-bits y typed_y) given.1 st.helps
            (from.reads a sc v (record {
              holds = holds-below (stand_of names value base) (meaning base) (Slide i n up ∷ ss) ss a sc v (begins-Slide i n up ss) st.holds;
              indices = given.0;
              helps = helps-before old_hs hs sc grows st.helps;
            }))));
        named = λ sc. names-ended (stand_numbers (stand_of names value base) sc) xs x old r sc (from.named sc) step;
        images = λ image sc h g.
            (let given = pairs-last (λ j z. AreImages image (meaning j).names (index_names z sc)) (indices_of ss) i xs x g in
            subst (λ (m : S.Meaning). AreImages image (stand_names m) (path_names names value base (xs ++ x ∷ []) sc)) (sym level)
            (images-ended image (P.sliding (layout e.of) e.spot.at (meaning y) (meaning i) n up) (meaning y) (meaning i).names (stand_numbers (stand_of names value base) sc) xs x sc
            (W.slide-named (layout e.of) e.spot.at (meaning y) (meaning i) n up) (from.images image sc h given.0) given.1));
        path = λ kind a. subst (λ (m : S.Meaning). IsPath m a) (sym level) (slide-path (layout e.of) e.spot.at (meaning y) (meaning i) n up a);
        kept = λ kind. stands-named (meaning e) (subst IsNamed (sym level) (step-named _ (meaning y) _ (W.slide-named (layout e.of) e.spot.at (meaning y) (meaning i) n up)));
      })

  -- a memory is no plain root, so that the first select of all stands above it
  begins-Index : (y i : Expr) (base : Expr) (ss : List Select) → IsMemoryAt names.signals y None → IsPathOn base ss y → HasStand names value (path_form base) → (s : Stand) → stand_of names value base ≡ s
      → (e : S.Meaning) (a : Around) (sc : Scope) (v : Valuation) → HoldsBits s e (Index i ∷ ss) a sc v → HoldsBits s e ss a sc v
  begins-Index y i base ss plain on once (Vector name) stand e a sc v h = h
  begins-Index y i base [] plain on once (Memory name) stand e a sc v h = absurd (no-memory (path_form y) name refl (subst (λ b. HasStand names value (path_form b)) (sym on.0) once) (subst (λ b. stand_of names value b ≡ Memory name) (sym on.0) stand))
    where
      signal-not : (b : Bool) (m n : Name) → b ≡ false → signal_stand b m ≡ Memory n → ⊥
      signal-not true m n other is = true≢false other
      signal-not false m n other is = cc

      value-not : (m : Option T.Meaning) (n : Name) → value_stand m ≡ Memory n → ⊥
      value-not None n is = cc
      value-not (Some m) n is = cc

      no-memory : (l : PathForm) (m : Name) → path_form y ≡ l → HasStand names value (path_form y) → stand_in names value (path_form y) ≡ Memory m → ⊥
      no-memory (Signal n) m form_is one is = signal-not (is_memory names.signals n) (signal_name names.signals n) m (plain n form_is (subst (HasStand names value) form_is one)) (ap (stand_in names value) (sym form_is) ∙ is)
      no-memory (Local n) m form_is one is = (let h : Vector (local_name names.locals n) ≡ Memory m = ap (stand_in names value) (sym form_is) ∙ is in cc)
      no-memory Other m form_is one is = value-not value m (ap (stand_in names value) (sym form_is) ∙ is)
      no-memory (Selected s x) m form_is one is = value-not value m (ap (stand_in names value) (sym form_is) ∙ is)
  begins-Index y i base (t ∷ ss) plain on once (Memory name) stand e a sc v h = h
  begins-Index y i base ss plain on once (Value m) stand e a sc v h = h
  begins-Index y i base ss plain on once Nothing stand e a sc v h = h

  pub finds-element : (y : Expr) (x : StepIndex) (xs : List StepIndex) (old_hs hs : List Helper) (old r : Reading) → IsMemoryAt names.signals y None → (meaning y).misfits ≡ 0 → Grows old_hs hs
      → Finds names value y xs old_hs old → ReadsElementBy old y.of x hs r → NamesStep old x r → FindsElement names value y (xs ++ x ∷ []) hs r
  finds-element y x xs old_hs hs old r plain typed_y grows found reads step e i is typed =
      let level = E.same-Index e y i is in
      let typed_at = subst (λ (m : S.Meaning). m.misfits ≡ 0) level typed in
      at-select e y (Index i) (form-Index e y i is) (Counted e (xs ++ x ∷ []) hs r) (λ base ss on count once.
      let from = found base ss on (count-last xs x (indices_of ss) i count) once in
      record {
        reads = λ a sc v st.
            (let given = pairs-last (λ j z. IsIndexBy z (meaning j) a sc v) (indices_of ss) i xs x st.indices in
            subst (λ (m : S.Meaning). Reads r m a sc v) (sym level)
            (reads (P.index (layout e.of) e.spot.at (meaning y) (meaning i)) (meaning y) (meaning i) a sc v (heads y).kind (W.index-step (layout e.of) e.spot.at (meaning y) (meaning i) a)
            (W.index-wide (layout e.of) e.spot.at (meaning y) (meaning i) typed_at) (subst (λ (m : S.Meaning). 1 ≤ S.wide m) level (has-bits e typed)) (has-bits y typed_y) given.1 st.helps
            (from.reads a sc v (record {
              holds = begins-Index y i base ss plain on once (stand_of names value base) refl (meaning base) a sc v st.holds;
              indices = given.0;
              helps = helps-before old_hs hs sc grows st.helps;
            }))));
        named = λ sc. names-ended (stand_numbers (stand_of names value base) sc) xs x old r sc (from.named sc) step;
        images = λ image sc h g.
            (let given = pairs-last (λ j z. AreImages image (meaning j).names (index_names z sc)) (indices_of ss) i xs x g in
            subst (λ (m : S.Meaning). AreImages image (stand_names m) (path_names names value base (xs ++ x ∷ []) sc)) (sym level)
            (images-ended image (P.index (layout e.of) e.spot.at (meaning y) (meaning i)) (meaning y) (meaning i).names (stand_numbers (stand_of names value base) sc) xs x sc
            (W.index-named (layout e.of) e.spot.at (meaning y) (meaning i)) (from.images image sc h given.0) given.1));
        path = λ kind a. subst (λ (m : S.Meaning). IsPath m a) (sym level) (index-path (layout e.of) e.spot.at (meaning y) (meaning i) a);
        kept = λ kind. stands-named (meaning e) (subst IsNamed (sym level) (step-named _ (meaning y) _ (W.index-named (layout e.of) e.spot.at (meaning y) (meaning i))));
      })

  -- all elements of what has bits
  all-elements : (y : Expr) → (meaning y).misfits ≡ 0 → count_of (meaning y).of.left (meaning y).of.right * length (meaning y).of.element.two_state ≡ S.wide (meaning y)
  all-elements y typed =
      let kind = (heads y).kind in
      let some : 1 ≤ width_of y.of = subst (λ (l : Layout). 1 ≤ length l.two_state) kind (has-bits y typed) in
      (λ d. count_of (kind d).left (kind d).right * length (kind d).element.two_state) ∙ (type-whole y.of some).elements ∙ sym (ap (λ (l : Layout). length l.two_state) kind)

  -- by a word
  pub finds-word : (y : Expr) (n : ℕ) (name : Name) (x : StepIndex) (xs : List StepIndex) (hs : List Helper) (r : Reading) → IsMemoryAt names.signals y (Some n)
      → (OneSignal names.signals n → name ≡ signal_name names.signals n) → (meaning y).misfits ≡ 0 → ReadsWordBy name y.of x r → NamesWordBy name x r → FindsElement names value y (xs ++ x ∷ []) hs r
  finds-word y n name x xs hs r (form_is, memory) name_is typed_y reads named_all e i is typed =
      let level = E.same-Index e y i is in
      let typed_at = subst (λ (m : S.Meaning). m.misfits ≡ 0) level typed in
      at-select e y (Index i) (form-Index e y i is) (Counted e (xs ++ x ∷ []) hs r)
      (at-root y (subst IsRoot (sym form_is) tt) (λ base ss. Counted e (xs ++ x ∷ []) hs r base (Index i ∷ ss)) (λ count once.
      let one : OneSignal names.signals n = subst (HasStand names value) form_is once in
      let stand : stand_of names value y ≡ Memory name = ap (stand_in names value) form_is ∙ ap (λ b. signal_stand b (signal_name names.signals n)) (memory one) ∙ ap Memory (sym (name_is one)) in
      let none = no-items xs (count-last xs x [] i count) in
      record {
        reads = λ a sc v st.
            (let given = pairs-last (λ j z. IsIndexBy z (meaning j) a sc v) [] i xs x st.indices in
            let holds = subst (λ s. HoldsBits s (meaning y) (Index i ∷ []) a sc v) stand st.holds in
            subst (λ (m : S.Meaning). Reads r m a sc v) (sym level)
            (reads (P.index (layout e.of) e.spot.at (meaning y) (meaning i)) (meaning y) (meaning i) a sc v (heads y).kind (index-path (layout e.of) e.spot.at (meaning y) (meaning i) a)
            (W.index-step (layout e.of) e.spot.at (meaning y) (meaning i) a) (W.index-wide (layout e.of) e.spot.at (meaning y) (meaning i) typed_at) (all-elements y typed_y) holds.0 given.1));
        named = λ sc.
            (let all : path_names names value y (xs ++ x ∷ []) sc ≡ (named sc.names name).number ∷ index_names x sc =
            (λ d. stand_numbers (stand d) sc ++ names-last xs x sc d) ∙ ap (λ l. (named sc.names name).number ∷ all_names l sc ++ index_names x sc) none in
            subst (λ l. SameNumbers l (root_names r.root sc)) (sym all) (named_all sc));
        images = λ image sc h g.
            (let given = pairs-last (λ j z. AreImages image (meaning j).names (index_names z sc)) [] i xs x g in
            subst (λ (m : S.Meaning). AreImages image (stand_names m) (path_names names value y (xs ++ x ∷ []) sc)) (sym level)
            (images-ended image (P.index (layout e.of) e.spot.at (meaning y) (meaning i)) (meaning y) (meaning i).names (stand_numbers (stand_of names value y) sc) xs x sc
            (W.index-named (layout e.of) e.spot.at (meaning y) (meaning i)) (images-of-root image (meaning y) (stand_numbers (stand_of names value y) sc) xs sc none h) given.1));
        path = λ kind a. subst (λ (m : S.Meaning). IsPath m a) (sym level) (index-path (layout e.of) e.spot.at (meaning y) (meaning i) a);
        kept = λ kind. stands-named (meaning e) (subst IsNamed (sym level) (step-named _ (meaning y) _ (W.index-named (layout e.of) e.spot.at (meaning y) (meaning i))));
      }))

  -- a path lacks an index
  pub lacks-Index : (e y i : Expr) (xs : List StepIndex) (hs : List Helper) (r : Reading) → e.form ≡ V.Index y i → xs ≡ [] → Finds names value e xs hs r
  lacks-Index e y i xs hs r is none =
      at-select e y (Index i) (form-Index e y i is) (Counted e xs hs r) (λ base ss on count once. absurd (none-last (indices_of ss) i xs none count))

  pub lacks-Slide : (e y i : Expr) (n : ℕ) (up : Bool) (xs : List StepIndex) (hs : List Helper) (r : Reading) → e.form ≡ V.Slide y i n up → xs ≡ [] → Finds names value e xs hs r
  lacks-Slide e y i n up xs hs r is none =
      at-select e y (Slide i n up) (form-Slide e y i n up is) (Counted e xs hs r) (λ base ss on count once. absurd (none-last (indices_of ss) i xs none count))

  -- what is read has the path's value
  pub flattens-found : (e : Expr) (xs : List StepIndex) (old_hs hs : List Helper) (r : Reading) (m : T.Meaning) → (meaning e).misfits ≡ 0 → Grows old_hs hs → Finds names value e xs old_hs r
      → ReadsPath r e.of hs m → NamesRoot r.root m → Flattens names value e xs hs m
  flattens-found e xs old_hs hs r m typed grows finds reads named_all base ss kind on count once =
      let found = finds base ss on count once in
      record {
        same = λ a sc v st.
            reads (meaning e) a sc v (heads e).kind (found.path kind a) (has-bits e typed)
            (found.reads a sc v (record { holds = st.holds; indices = st.indices; helps = helps-before old_hs hs sc grows st.helps })) st.helps;
        named = λ sc. same-then (path_names names value base xs sc) (root_names r.root sc) (m.names sc) (found.named sc) (named_all sc);
      }

  pub stands-found : (e : Expr) (xs : List StepIndex) (old_hs hs : List Helper) (r : Reading) (m : T.Meaning) → (meaning e).misfits ≡ 0 → Grows old_hs hs → Finds names value e xs old_hs r
      → ReadsPath r e.of hs m → NamesRoot r.root m → StandsForPath names value e xs hs m
  stands-found e xs old_hs hs r m typed grows finds reads named_all base ss im a sc kind on count once all =
      let found = finds base ss on count once in
      let flat = flattens-found e xs old_hs hs r m typed grows finds reads named_all base ss kind on count once in
      let images = images-like im.number (stand_names (meaning e)) (path_names names value base xs sc) (m.names sc) (found.images im.number sc all.base_images all.index_images) (flat.named sc) in
      record {
        stands = λ w s now v agree. flat.same (record a { now = now }) sc v (all.holds now v agree) w s;
        named = images-of im.number (stand_names (meaning e)) (meaning e).names (m.names sc) images (same-turned _ _ (found.kept kind));
      }
