-- A `case` of the target takes the item that the source's takes.
use Rattle.std.proofs.Common.{◌≡◌, ℕ, ◌≤◌, Bool, true, false, ◌&&◌, ◌||◌, flat_map, List, [], ◌∷◌, ◌++◌, Option, Some, None, refl, arith, sym, ◌∙◌, subst, ap}
use Rattle.std.specs.List.{list_any}
use Rattle.b4_core.specs.declared.bit.Bit4.{Bit4}
use Rattle.row_machine.specs.Valuation.{Valuation, put}
use Rattle.sv_types.specs.declared.statement.CaseKind.{CaseKind}
use Rattle.sv_types.specs.declared.statement.CaseKind.TheVariants as C
use Rattle.sv_types.specs.Surroundings.{Around}
use Rattle.sv_types.specs.Meanings as M
use Rattle.sv_types.specs.Runs as S
use Rattle.v_tree.specs.declared.statements.VCaseKind.{VCaseKind}
use Rattle.v_tree.specs.declared.statements.VCaseKind.TheVariants as K
use Rattle.v_meaning.specs.Scopes.{Scope}
use Rattle.v_meaning.specs.Values as V
use Rattle.v_meaning.specs.Statements as D
use Rattle.v_meaning.specs.Runs as T
use Rattle.lowering_laws.specs.Agreeing.{Images, Agree, SameState, Stands, SameRun}

-- the same kind of `case`
abbrev pub kind_of : CaseKind → VCaseKind
kind_of C.Plain = K.Plain
kind_of C.Z = K.Z
kind_of C.X = K.X

match-same : (kind : CaseKind) (p q : Bit4) → T.match4 (kind_of kind) p q ≡ S.match4 kind p q
match-same C.Plain p q = refl
match-same C.Z p q = refl
match-same C.X p q = refl

agree-same : (kind : CaseKind) (u v : List Bit4) → T.agree (kind_of kind) u v ≡ S.agree kind u v
agree-same C.Plain u v = refl
agree-same C.Z u v = refl
agree-same C.X u v = refl

-- each is lowered at the width and sign of the comparison
abbrev pub AllStand : Images → Around → Scope → ℕ → Bool → List M.Meaning → List V.Meaning → Type 0
AllStand im a sc w s [] [] = Unit {0}
AllStand im a sc w s [] (m ∷ ms) = ⊥
AllStand im a sc w s (e ∷ es) [] = ⊥
AllStand im a sc w s (e ∷ es) (m ∷ ms) = Stands im a sc e w s m × AllStand im a sc w s es ms

-- The items of both, in order. The last one of the target may be its `default`.
abbrev pub SameItems : Images → Around → Scope → ℕ → Bool → List S.ItemRun → S.Run → List D.Item → Type 0
SameItems im a sc w s [] other [] = SameRun im a sc other T.idle
SameItems im a sc w s [] other (k ∷ ks) = (k.values ≡ None) × (ks ≡ []) × SameRun im a sc other k.body.run
SameItems im a sc w s (i ∷ is) other [] = ⊥
SameItems im a sc w s (i ∷ is) other (k ∷ ks) =
    ((ms : List V.Meaning) × (k.values ≡ Some ms) × AllStand im a sc w s i.values ms) × (SameRun im a sc i.run k.body.run × SameItems im a sc w s is other ks)

module _ (im : Images) (a : Around) (sc : Scope) (kind : CaseKind) (w : ℕ) (s : Bool) where
  abbrev around : Valuation → Around
  around now = record a { now = now }

  -- the selectors, for one value of what is selected by
  abbrev source_on : List Bit4 → S.Selector
  source_on x = record { kind = kind; width = w; signed = s; value = x }

  abbrev target_on : List Bit4 → T.Selector
  target_on x = record { kind = kind_of kind; width = w; signed = s; value = x }

  one-matches : (x : List Bit4) (e : M.Meaning) (m : V.Meaning) (now v : Valuation) → Agree im now v → Stands im a sc e w s m
      → T.matches (target_on x) sc v m ≡ S.matches (source_on x) (around now) e
  one-matches x e m now v agree stands = agree-same kind x (m.value w s sc v) ∙ ap (S.agree kind x) (stands now v agree).value

  any-matches : (x : List Bit4) (es : List M.Meaning) (ms : List V.Meaning) (now v : Valuation) → Agree im now v → AllStand im a sc w s es ms
      → list_any (T.matches (target_on x) sc v) ms ≡ list_any (S.matches (source_on x) (around now)) es
  any-matches x [] [] now v agree h = refl
  any-matches x [] (m ∷ ms) now v agree h = absurd h
  any-matches x (e ∷ es) [] now v agree h = absurd h
  any-matches x (e ∷ es) (m ∷ ms) now v agree h = λ i. one-matches x e m now v agree h.0 i || any-matches x es ms now v agree h.1 i

  one-of-same : (b : Bool) (r k : S.Run) (t q : T.Run) → SameRun im a sc r t → SameRun im a sc k q → SameRun im a sc (S.one_of b r k) (T.one_of b t q)
  one-of-same true r k t q h g = h
  one-of-same false r k t q h g = g

  abbrev target_runs : List D.Item → T.Selector → T.Run
  target_runs ks on = T.first_match on (D.item_runs ks) (D.otherwise ks).run

  abbrev runs-by : D.Item → List D.Item → Option (List V.Meaning) → List T.ItemRun
  runs-by k ks o = elim o [ None ↦ D.item_runs ks | Some l ↦ record { values = l; run = k.body.run } ∷ D.item_runs ks ]

  abbrev other-by : D.Item → List D.Item → Option (List V.Meaning) → D.Doing
  other-by k ks o = elim o [ None ↦ k.body | Some l ↦ D.otherwise ks ]

  run-some : (on : T.Selector) (k : D.Item) (ks : List D.Item) (ms : List V.Meaning) → k.values ≡ Some ms
      → target_runs (k ∷ ks) on ≡ (λ c v u. T.one_of (list_any (T.matches on c (T.current v u)) ms) k.body.run (target_runs ks on) c v u)
  run-some on k ks ms is =
      ap (λ (o : Option (List V.Meaning)). T.first_match on (runs-by k ks o) (other-by k ks o).run) is

  run-none : (on : T.Selector) (k : D.Item) → k.values ≡ None → target_runs (k ∷ []) on ≡ k.body.run
  run-none on k is =
      ap (λ (o : Option (List V.Meaning)). T.first_match on (runs-by k [] o) (other-by k [] o).run) is

  pub items-same : (x : List Bit4) (is : List S.ItemRun) (other : S.Run) (ks : List D.Item) → SameItems im a sc w s is other ks
      → SameRun im a sc (S.first_match (source_on x) is other) (target_runs ks (target_on x))
  items-same x [] other [] h now v st u same = h now v st u same
  items-same x [] other (k ∷ ks) h now v st u same =
      subst (λ (l : List D.Item). SameState im now v (other (around now) st) (target_runs (k ∷ l) (target_on x) sc v u)) (sym h.1)
      (subst (λ (r : T.Run). SameState im now v (other (around now) st) (r sc v u)) (sym (run-none (target_on x) k h.0)) (h.2 now v st u same))
  items-same x (i ∷ is) other [] h now v st u same = absurd h
  items-same x (i ∷ is) other (k ∷ ks) h now v st u same =
      let ms = (h.0).0 in
      let here : Agree im (put st.written now) (T.current v u) = same.current in
      let test = any-matches x i.values ms (put st.written now) (T.current v u) here (h.0).2 in
      let rest = items-same x is other ks (h.1).1 in
      subst (λ (r : T.Run). SameState im now v (S.first_match (source_on x) (i ∷ is) other (around now) st) (r sc v u)) (sym (run-some (target_on x) k ks ms (h.0).1))
      (subst (λ b. SameState im now v (S.first_match (source_on x) (i ∷ is) other (around now) st) (T.one_of b k.body.run (target_runs ks (target_on x)) sc v u)) (sym test)
      (one-of-same (list_any (S.matches (source_on x) (around (put st.written now))) i.values) i.run (S.first_match (source_on x) is other) k.body.run (target_runs ks (target_on x)) (h.1).0 rest now v st u same))

-- all values of the items together
stand-both : (im : Images) (a : Around) (sc : Scope) (w : ℕ) (s : Bool) (es fs : List M.Meaning) (ms ns : List V.Meaning)
    → AllStand im a sc w s es ms → AllStand im a sc w s fs ns → AllStand im a sc w s (es ++ fs) (ms ++ ns)
stand-both im a sc w s [] fs [] ns h g = g
stand-both im a sc w s [] fs (m ∷ ms) ns h g = absurd h
stand-both im a sc w s (e ∷ es) fs [] ns h g = absurd h
stand-both im a sc w s (e ∷ es) fs (m ∷ ms) ns h g = (h.0, stand-both im a sc w s es fs ms ns h.1 g)

abbrev values-by : List D.Item → Option (List V.Meaning) → List V.Meaning
values-by ks o = elim o [ None ↦ D.item_values ks | Some l ↦ l ++ D.item_values ks ]

pub items-stand : (im : Images) (a : Around) (sc : Scope) (w : ℕ) (s : Bool) (is : List S.ItemRun) (other : S.Run) (ks : List D.Item) → SameItems im a sc w s is other ks
    → AllStand im a sc w s (flat_map (λ (i : S.ItemRun). i.values) is) (D.item_values ks)
items-stand im a sc w s [] other [] h = tt
items-stand im a sc w s [] other (k ∷ ks) h =
    subst (λ (l : List D.Item). AllStand im a sc w s [] (D.item_values (k ∷ l))) (sym h.1)
    (subst (λ (l : List V.Meaning). AllStand im a sc w s [] l) (sym (ap (values-by []) h.0)) tt)
items-stand im a sc w s (i ∷ is) other [] h = absurd h
items-stand im a sc w s (i ∷ is) other (k ∷ ks) h =
    subst (AllStand im a sc w s (i.values ++ flat_map (λ (x : S.ItemRun). x.values) is)) (sym (ap (values-by ks) (h.0).1))
    (stand-both im a sc w s i.values (flat_map (λ (x : S.ItemRun). x.values) is) (h.0).0 (D.item_values ks) (h.0).2 (items-stand im a sc w s is other ks (h.1).1))

-- the largest width and the sign of all
module _ (im : Images) (a : Around) (sc : Scope) (w : ℕ) (s : Bool) (now v : Valuation) (agree : Agree im now v) where
  widest-same : (es : List M.Meaning) (ms : List V.Meaning) → AllStand im a sc w s es ms → S.widest_of es ≤ w → (T.widest ms sc ≤ w) × (S.widest_of es ≤ T.widest ms sc)
  widest-same [] [] h few = (omega arith, omega arith)
  widest-same [] (m ∷ ms) h few = absurd h
  widest-same (e ∷ es) [] h few = absurd h
  widest-same (e ∷ es) (m ∷ ms) h few =
      let one = h.0 now v agree in
      let least = one.least in
      let most = one.most in
      let rest = widest-same es ms h.1 (omega arith) in
      let x = rest.0 in
      let y = rest.1 in
      (omega arith, omega arith)

  signs-same : (es : List M.Meaning) (ms : List V.Meaning) → AllStand im a sc w s es ms → T.all_signed ms ≡ S.all_signed es
  signs-same [] [] h = refl
  signs-same [] (m ∷ ms) h = absurd h
  signs-same (e ∷ es) [] h = absurd h
  signs-same (e ∷ es) (m ∷ ms) h = λ i. (h.0 now v agree).sign i && signs-same es ms h.1 i

-- a `case` runs the first item that matches
abbrev any-by : T.Run → D.Item → List D.Item → D.Doing → Option (List V.Meaning) → D.Doing
any-by run k ks other o = elim o [ None ↦ D.any_item run ks other | Some ms ↦ D.either_of run k.body (D.any_item run ks other) ]

any-run-by : (run : T.Run) (k : D.Item) (ks : List D.Item) (other : D.Doing) (o : Option (List V.Meaning)) → (D.any_item run ks other).run ≡ run → (any-by run k ks other o).run ≡ run
any-run-by run k ks other None h = h
any-run-by run k ks other (Some ms) h = refl

any-run : (run : T.Run) (ks : List D.Item) (other : D.Doing) → (D.any_item run ks other).run ≡ run
any-run run [] other = refl
any-run run (k ∷ ks) other = any-run-by run k ks other k.values (any-run run ks other)

abbrev case-run : VCaseKind → V.Meaning → List D.Item → T.Run
case-run kind on ks sc v u = T.first_match (T.selector kind on (D.item_values ks) sc (T.current v u)) (D.item_runs ks) (D.otherwise ks).run sc v u

cases-run : (kind : VCaseKind) (on : V.Meaning) (ks : List D.Item) (sc : Scope) (v : Valuation) (u : T.State)
    → (D.cases kind on ks).run sc v u ≡ case-run kind on ks sc v u
unfolding D.cases
cases-run kind on ks sc v u = ap (λ (r : T.Run). r sc v u) (any-run (case-run kind on ks) ks (D.otherwise ks))

-- the selector and all values of items are lowered at the largest width of all
pub case-same : (im : Images) (a : Around) (sc : Scope) (kind : CaseKind) (on : M.Meaning) (m : V.Meaning) (is : List S.ItemRun) (other : S.Run) (ks : List D.Item)
    → Stands im a sc on (S.widest_of (on ∷ flat_map (λ (i : S.ItemRun). i.values) is)) (S.all_signed (on ∷ flat_map (λ (i : S.ItemRun). i.values) is)) m
    → SameItems im a sc (S.widest_of (on ∷ flat_map (λ (i : S.ItemRun). i.values) is)) (S.all_signed (on ∷ flat_map (λ (i : S.ItemRun). i.values) is)) is other ks
    → SameRun im a sc (S.select kind on (flat_map (λ (i : S.ItemRun). i.values) is) is other) (D.cases (kind_of kind) m ks).run
case-same im a sc kind on m is other ks stands h now v st u same =
    let values = flat_map (λ (i : S.ItemRun). i.values) is in
    let w = S.widest_of (on ∷ values) in
    let s = S.all_signed (on ∷ values) in
    let here : Agree im (put st.written now) (T.current v u) = same.current in
    let all : AllStand im a sc w s (on ∷ values) (m ∷ D.item_values ks) = (stands, items-stand im a sc w s is other ks h) in
    let wide = widest-same im a sc w s (put st.written now) (T.current v u) here (on ∷ values) (m ∷ D.item_values ks) all (omega arith) in
    let most = wide.0 in
    let least = wide.1 in
    let width : T.widest (m ∷ D.item_values ks) sc ≡ w = omega arith in
    let sign = signs-same im a sc w s (put st.written now) (T.current v u) here (on ∷ values) (m ∷ D.item_values ks) all in
    let x = on.value w s (record a { now = put st.written now }) in
    let value = (stands (put st.written now) (T.current v u) here).value in
    let selector : T.selector (kind_of kind) m (D.item_values ks) sc (T.current v u) ≡ record { kind = kind_of kind; width = w; signed = s; value = x } =
    (λ i. record { kind = kind_of kind; width = width i; signed = sign i; value = m.value (width i) (sign i) sc (T.current v u) })
    ∙ ap (λ (b : List Bit4). record { kind = kind_of kind; width = w; signed = s; value = b }) value in
    subst (SameState im now v (S.select kind on values is other (record a { now = now }) st)) (sym (cases-run (kind_of kind) m ks sc v u))
    (subst (λ (f : T.Selector). SameState im now v (S.select kind on values is other (record a { now = now }) st) (T.first_match f (D.item_runs ks) (D.otherwise ks).run sc v u)) (sym selector)
    (items-same im a sc kind w s x is other ks h now v st u same))
