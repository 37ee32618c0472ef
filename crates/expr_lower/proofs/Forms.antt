-- Each form stands for the target operation on what it asks.
use Rattle.std.proofs.Common.{◌≡◌, ℕ, Bool, true, false, List, [], ◌∷◌, map, refl, ap, sym, ◌∙◌, subst}
use Rattle.b4_core.specs.declared.operators.UnOp.{UnOp}
use Rattle.b4_core.specs.declared.operators.BinOp.{BinOp}
use Rattle.b4_core.specs.declared.operators.RedOp.{RedOp}
use Rattle.b4_core.specs.declared.operators.ShiftOp.{ShiftOp}
use Rattle.b4_core.specs.declared.operators.OrdOp.{OrdOp}
use Rattle.b4_core.specs.declared.operators.EqOp.{EqOp}
use Rattle.b4_core.specs.declared.operators.EqOp.TheVariants.{Logic, Case, Wild}
use Rattle.row_machine.specs.Valuation.{Valuation}
use Rattle.sv_types.specs.declared.statement.Function.{Function}
use Rattle.sv_types.specs.declared.expression.Expr.{Expr}
use Rattle.sv_types.specs.declared.expression.Form.{Form-F, out-Form}
use Rattle.sv_types.specs.declared.expression.Form.TheVariants as V
use Rattle.sv_types.specs.Layouts.{layout}
use Rattle.sv_types.specs.Surroundings.{Around, Parameter}
use Rattle.sv_types.specs.Meanings as M
use Rattle.sv_types.specs.Expressions.{meaning}
use Rattle.v_tree.specs.declared.names.Helper.{Helper}
use Rattle.v_tree.specs.declared.names.NameMap.{NameMap}
use Rattle.v_meaning.specs.Scopes.{Scope}
use Rattle.v_meaning.specs.Values as T
use Rattle.v_build.specs.Trees.{comparison}
use Rattle.eval_parts.specs.Limits.{Fits}
use Rattle.eval_parts.proofs.Steps as S
use Rattle.eval_parts.proofs.Lists as L
use Rattle.eval_forms.specs.Asked.{Asked, alone_asked, form_asked}
use Rattle.eval_forms.specs.Callees.{formals_in}
use Rattle.eval_forms.proofs.Strict as K
use Rattle.lowering_laws.specs.NamedImages.{SameNames, EachNames}
use Rattle.lowering_laws.specs.Same.{Same, AllSame}
use Rattle.lowering_laws.proofs.Naming.{unary-names, reduce-names, negate-names, binary-names, shift-names, power-names, both-names, either-names, order-names, equal-names, choose-names, concat-names, repeat-names}
use Rattle.lowering_laws.proofs.Lists.{concat-same, repeat-same}
use Rattle.lowering_laws.proofs.Operators.{unary-same, reduce-same, negate-same, binary-same, shift-same, power-same, order-same, equal-same, unequal-same, both-same, either-same, choose-same}
use Rattle.expr_lower.specs.Numbers.{IsExact}
use Rattle.expr_lower.specs.Lowering.{LeafStands, SameEach, NamesEach, Combines}
use Rattle.expr_lower.proofs.AskedLeaves.{asked-leaves}
use Rattle.expr_lower.proofs.Asking.{same-each, names-each}

-- what an expression asks
abbrev pub asks : Expr → (ℕ → List Parameter) → ℕ → Bool → List Asked
asks e fs w s = form_asked (layout e.of) fs w s (out-Form e.form)

-- on valuations that agree
pub by-same : (names : NameMap) (fs : List Function) (hs : List Helper) (e : Expr) (w : ℕ) (s : Bool) (parts : List T.Meaning) (m : T.Meaning)
    → ((a : Around) (sc : Scope) (v : Valuation) → Fits (meaning e) (formals_in fs) w → SameEach (asks e (formals_in fs) w s) a parts sc v → Same (meaning e) w s a m sc v)
    → ((image : ℕ → ℕ) (sc : Scope) → NamesEach image (asks e (formals_in fs) w s) parts sc → SameNames image (meaning e) m sc)
    → Combines names fs hs e w s parts m
by-same names fs hs e w s parts m same naming plain fits each im a sc all helps =
    let leaves_asked = asked-leaves e (LeafStands names fs im a sc) plain (formals_in fs) w s all in
    record {
      stands = λ now v agree. same (record a { now = now }) sc v fits (same-each names fs hs (asks e (formals_in fs) w s) parts im a sc now v each leaves_asked helps agree);
      names = naming im.number sc (names-each names fs hs (asks e (formals_in fs) w s) parts im a sc each leaves_asked helps);
    }

-- what is asked, and what stands for it
pub asked-is : (e : Expr) (fs : ℕ → List Parameter) (w : ℕ) (s : Bool) (qs : List Asked) (a : Around) (parts ms : List T.Meaning) (sc : Scope) (v : Valuation)
    → qs ≡ asks e fs w s → parts ≡ ms → SameEach (asks e fs w s) a parts sc v → SameEach qs a ms sc v
asked-is e fs w s qs a parts ms sc v is are h = subst (λ l. SameEach l a ms sc v) (sym is) (subst (λ l. SameEach (asks e fs w s) a l sc v) are h)

pub names-are : (image : ℕ → ℕ) (e : Expr) (fs : ℕ → List Parameter) (w : ℕ) (s : Bool) (qs : List Asked) (parts ms : List T.Meaning) (sc : Scope)
    → qs ≡ asks e fs w s → parts ≡ ms → NamesEach image (asks e fs w s) parts sc → NamesEach image qs ms sc
names-are image e fs w s qs parts ms sc is are h = subst (λ l. NamesEach image l ms sc) (sym is) (subst (λ l. NamesEach image (asks e fs w s) l sc) are h)

pub named-as : (image : ℕ → ℕ) (e n : M.Meaning) (m k : T.Meaning) (sc : Scope) → e ≡ n → m ≡ k → SameNames image n k sc → SameNames image e m sc
named-as image e n m k sc level made h = subst (λ (x : M.Meaning). SameNames image x m sc) (sym level) (subst (λ (x : T.Meaning). SameNames image n x sc) (sym made) h)

pub typed-as : (m n : M.Meaning) → m ≡ n → m.misfits ≡ 0 → n.misfits ≡ 0
typed-as m n is fits = subst (λ (k : M.Meaning). k.misfits ≡ 0) is fits

pub combines-Unary : (e : Expr) (op : UnOp) (x : Expr) (names : NameMap) (fs : List Function) (hs : List Helper) (w : ℕ) (s : Bool) (parts : List T.Meaning) (mx m : T.Meaning)
    → e.form ≡ V.Unary op x → parts ≡ mx ∷ [] → m ≡ (T.unary op mx) → Combines names fs hs e w s parts m
combines-Unary e op x names fs hs w s parts mx m is are made =
    by-same names fs hs e w s parts m (λ a sc v fits h.
    let g = asked-is e (formals_in fs) w s _ a parts (mx ∷ []) sc v (K.asked-by e (V.Unary op x) (Form-F.Unary op x) (formals_in fs) w s is (K.out-Unary op x)) are h in
    subst (λ (k : T.Meaning). Same (meaning e) w s a k sc v) (sym made)
    (subst (λ (k : M.Meaning). Same k w s a (T.unary op mx) sc v) (sym (S.same-Unary e x op is))
    (unary-same (layout e.of) e.spot.at op (meaning x) w s a mx sc v (typed-as (meaning e) _ (S.same-Unary e x op is) fits.typed) g.0)))
    (λ image sc h.
    let g = names-are image e (formals_in fs) w s _ parts (mx ∷ []) sc (K.asked-by e (V.Unary op x) (Form-F.Unary op x) (formals_in fs) w s is (K.out-Unary op x)) are h in
    named-as image (meaning e) _ m _ sc (S.same-Unary e x op is) made (unary-names image (layout e.of) e.spot.at op (meaning x) mx sc g.0))

pub combines-Reduce : (e : Expr) (op : RedOp) (x : Expr) (names : NameMap) (fs : List Function) (hs : List Helper) (w : ℕ) (s : Bool) (parts : List T.Meaning) (mx m : T.Meaning)
    → e.form ≡ V.Reduce op x → parts ≡ mx ∷ [] → m ≡ (T.reduce op mx) → Combines names fs hs e w s parts m
combines-Reduce e op x names fs hs w s parts mx m is are made =
    by-same names fs hs e w s parts m (λ a sc v fits h.
    let g = asked-is e (formals_in fs) w s _ a parts (mx ∷ []) sc v (K.asked-by e (V.Reduce op x) (Form-F.Reduce op x) (formals_in fs) w s is (K.out-Reduce op x)) are h in
    subst (λ (k : T.Meaning). Same (meaning e) w s a k sc v) (sym made)
    (subst (λ (k : M.Meaning). Same k w s a (T.reduce op mx) sc v) (sym (S.same-Reduce e x op is))
    (reduce-same (layout e.of) e.spot.at op (meaning x) w s a mx sc v (typed-as (meaning e) _ (S.same-Reduce e x op is) fits.typed) g.0)))
    (λ image sc h.
    let g = names-are image e (formals_in fs) w s _ parts (mx ∷ []) sc (K.asked-by e (V.Reduce op x) (Form-F.Reduce op x) (formals_in fs) w s is (K.out-Reduce op x)) are h in
    named-as image (meaning e) _ m _ sc (S.same-Reduce e x op is) made (reduce-names image (layout e.of) e.spot.at op (meaning x) mx sc g.0))

pub combines-Negate : (e : Expr) (x : Expr) (names : NameMap) (fs : List Function) (hs : List Helper) (w : ℕ) (s : Bool) (parts : List T.Meaning) (mx m : T.Meaning)
    → e.form ≡ V.Negate x → parts ≡ mx ∷ [] → m ≡ (T.negate mx) → Combines names fs hs e w s parts m
combines-Negate e x names fs hs w s parts mx m is are made =
    by-same names fs hs e w s parts m (λ a sc v fits h.
    let g = asked-is e (formals_in fs) w s _ a parts (mx ∷ []) sc v (K.asked-by e (V.Negate x) (Form-F.Negate x) (formals_in fs) w s is (K.out-Negate x)) are h in
    subst (λ (k : T.Meaning). Same (meaning e) w s a k sc v) (sym made)
    (subst (λ (k : M.Meaning). Same k w s a (T.negate mx) sc v) (sym (S.same-Negate e x is))
    (negate-same (layout e.of) e.spot.at (meaning x) w s a mx sc v (typed-as (meaning e) _ (S.same-Negate e x is) fits.typed) g.0)))
    (λ image sc h.
    let g = names-are image e (formals_in fs) w s _ parts (mx ∷ []) sc (K.asked-by e (V.Negate x) (Form-F.Negate x) (formals_in fs) w s is (K.out-Negate x)) are h in
    named-as image (meaning e) _ m _ sc (S.same-Negate e x is) made (negate-names image (layout e.of) e.spot.at (meaning x) mx sc g.0))

pub combines-Binary : (e : Expr) (op : BinOp) (x : Expr) (y : Expr) (names : NameMap) (fs : List Function) (hs : List Helper) (w : ℕ) (s : Bool) (parts : List T.Meaning) (mx my m : T.Meaning)
    → e.form ≡ V.Binary op x y → parts ≡ mx ∷ my ∷ [] → m ≡ (T.binary op mx my) → Combines names fs hs e w s parts m
combines-Binary e op x y names fs hs w s parts mx my m is are made =
    by-same names fs hs e w s parts m (λ a sc v fits h.
    let g = asked-is e (formals_in fs) w s _ a parts (mx ∷ my ∷ []) sc v (K.asked-by e (V.Binary op x y) (Form-F.Binary op x y) (formals_in fs) w s is (K.out-Binary op x y)) are h in
    subst (λ (k : T.Meaning). Same (meaning e) w s a k sc v) (sym made)
    (subst (λ (k : M.Meaning). Same k w s a (T.binary op mx my) sc v) (sym (S.same-Binary e x y op is))
    (binary-same (layout e.of) e.spot.at op (meaning x) (meaning y) w s a mx my sc v (typed-as (meaning e) _ (S.same-Binary e x y op is) fits.typed) g.0 (g.1).0)))
    (λ image sc h.
    let g = names-are image e (formals_in fs) w s _ parts (mx ∷ my ∷ []) sc (K.asked-by e (V.Binary op x y) (Form-F.Binary op x y) (formals_in fs) w s is (K.out-Binary op x y)) are h in
    named-as image (meaning e) _ m _ sc (S.same-Binary e x y op is) made (binary-names image (layout e.of) e.spot.at op (meaning x) (meaning y) mx my sc g.0 (g.1).0))

pub combines-Shift : (e : Expr) (op : ShiftOp) (x : Expr) (y : Expr) (names : NameMap) (fs : List Function) (hs : List Helper) (w : ℕ) (s : Bool) (parts : List T.Meaning) (mx my m : T.Meaning)
    → e.form ≡ V.Shift op x y → parts ≡ mx ∷ my ∷ [] → m ≡ (T.shift op mx my) → Combines names fs hs e w s parts m
combines-Shift e op x y names fs hs w s parts mx my m is are made =
    by-same names fs hs e w s parts m (λ a sc v fits h.
    let g = asked-is e (formals_in fs) w s _ a parts (mx ∷ my ∷ []) sc v (K.asked-by e (V.Shift op x y) (Form-F.Shift op x y) (formals_in fs) w s is (K.out-Shift op x y)) are h in
    subst (λ (k : T.Meaning). Same (meaning e) w s a k sc v) (sym made)
    (subst (λ (k : M.Meaning). Same k w s a (T.shift op mx my) sc v) (sym (S.same-Shift e x y op is))
    (shift-same (layout e.of) e.spot.at op (meaning x) (meaning y) w s a mx my sc v (typed-as (meaning e) _ (S.same-Shift e x y op is) fits.typed) g.0 (g.1).0)))
    (λ image sc h.
    let g = names-are image e (formals_in fs) w s _ parts (mx ∷ my ∷ []) sc (K.asked-by e (V.Shift op x y) (Form-F.Shift op x y) (formals_in fs) w s is (K.out-Shift op x y)) are h in
    named-as image (meaning e) _ m _ sc (S.same-Shift e x y op is) made (shift-names image (layout e.of) e.spot.at op (meaning x) (meaning y) mx my sc g.0 (g.1).0))

pub combines-Power : (e : Expr) (x : Expr) (y : Expr) (names : NameMap) (fs : List Function) (hs : List Helper) (w : ℕ) (s : Bool) (parts : List T.Meaning) (mx my m : T.Meaning)
    → e.form ≡ V.Power x y → parts ≡ mx ∷ my ∷ [] → m ≡ (T.power mx my) → Combines names fs hs e w s parts m
combines-Power e x y names fs hs w s parts mx my m is are made =
    by-same names fs hs e w s parts m (λ a sc v fits h.
    let g = asked-is e (formals_in fs) w s _ a parts (mx ∷ my ∷ []) sc v (K.asked-by e (V.Power x y) (Form-F.Power x y) (formals_in fs) w s is (K.out-Power x y)) are h in
    subst (λ (k : T.Meaning). Same (meaning e) w s a k sc v) (sym made)
    (subst (λ (k : M.Meaning). Same k w s a (T.power mx my) sc v) (sym (S.same-Power e x y is))
    (power-same (layout e.of) e.spot.at (meaning x) (meaning y) w s a mx my sc v (typed-as (meaning e) _ (S.same-Power e x y is) fits.typed) g.0 (g.1).0)))
    (λ image sc h.
    let g = names-are image e (formals_in fs) w s _ parts (mx ∷ my ∷ []) sc (K.asked-by e (V.Power x y) (Form-F.Power x y) (formals_in fs) w s is (K.out-Power x y)) are h in
    named-as image (meaning e) _ m _ sc (S.same-Power e x y is) made (power-names image (layout e.of) e.spot.at (meaning x) (meaning y) mx my sc g.0 (g.1).0))

pub combines-Order : (e : Expr) (op : OrdOp) (x : Expr) (y : Expr) (names : NameMap) (fs : List Function) (hs : List Helper) (w : ℕ) (s : Bool) (parts : List T.Meaning) (mx my m : T.Meaning)
    → e.form ≡ V.Order op x y → parts ≡ mx ∷ my ∷ [] → m ≡ (T.order op mx my) → Combines names fs hs e w s parts m
combines-Order e op x y names fs hs w s parts mx my m is are made =
    by-same names fs hs e w s parts m (λ a sc v fits h.
    let g = asked-is e (formals_in fs) w s _ a parts (mx ∷ my ∷ []) sc v (K.asked-by e (V.Order op x y) (Form-F.Order op x y) (formals_in fs) w s is (K.out-Order op x y)) are h in
    subst (λ (k : T.Meaning). Same (meaning e) w s a k sc v) (sym made)
    (subst (λ (k : M.Meaning). Same k w s a (T.order op mx my) sc v) (sym (S.same-Order e x y op is))
    (order-same (layout e.of) e.spot.at op (meaning x) (meaning y) w s a mx my sc v (typed-as (meaning e) _ (S.same-Order e x y op is) fits.typed) g.0 (g.1).0)))
    (λ image sc h.
    let g = names-are image e (formals_in fs) w s _ parts (mx ∷ my ∷ []) sc (K.asked-by e (V.Order op x y) (Form-F.Order op x y) (formals_in fs) w s is (K.out-Order op x y)) are h in
    named-as image (meaning e) _ m _ sc (S.same-Order e x y op is) made (order-names image (layout e.of) e.spot.at op (meaning x) (meaning y) mx my sc g.0 (g.1).0))

pub combines-Both : (e : Expr) (x : Expr) (y : Expr) (names : NameMap) (fs : List Function) (hs : List Helper) (w : ℕ) (s : Bool) (parts : List T.Meaning) (mx my m : T.Meaning)
    → e.form ≡ V.Both x y → parts ≡ mx ∷ my ∷ [] → m ≡ (T.both mx my) → Combines names fs hs e w s parts m
combines-Both e x y names fs hs w s parts mx my m is are made =
    by-same names fs hs e w s parts m (λ a sc v fits h.
    let g = asked-is e (formals_in fs) w s _ a parts (mx ∷ my ∷ []) sc v (K.asked-by e (V.Both x y) (Form-F.Both x y) (formals_in fs) w s is (K.out-Both x y)) are h in
    subst (λ (k : T.Meaning). Same (meaning e) w s a k sc v) (sym made)
    (subst (λ (k : M.Meaning). Same k w s a (T.both mx my) sc v) (sym (S.same-Both e x y is))
    (both-same (layout e.of) e.spot.at (meaning x) (meaning y) w s a mx my sc v (typed-as (meaning e) _ (S.same-Both e x y is) fits.typed) g.0 (g.1).0)))
    (λ image sc h.
    let g = names-are image e (formals_in fs) w s _ parts (mx ∷ my ∷ []) sc (K.asked-by e (V.Both x y) (Form-F.Both x y) (formals_in fs) w s is (K.out-Both x y)) are h in
    named-as image (meaning e) _ m _ sc (S.same-Both e x y is) made (both-names image (layout e.of) e.spot.at (meaning x) (meaning y) mx my sc g.0 (g.1).0))

pub combines-Either : (e : Expr) (x : Expr) (y : Expr) (names : NameMap) (fs : List Function) (hs : List Helper) (w : ℕ) (s : Bool) (parts : List T.Meaning) (mx my m : T.Meaning)
    → e.form ≡ V.Either x y → parts ≡ mx ∷ my ∷ [] → m ≡ (T.either mx my) → Combines names fs hs e w s parts m
combines-Either e x y names fs hs w s parts mx my m is are made =
    by-same names fs hs e w s parts m (λ a sc v fits h.
    let g = asked-is e (formals_in fs) w s _ a parts (mx ∷ my ∷ []) sc v (K.asked-by e (V.Either x y) (Form-F.Either x y) (formals_in fs) w s is (K.out-Either x y)) are h in
    subst (λ (k : T.Meaning). Same (meaning e) w s a k sc v) (sym made)
    (subst (λ (k : M.Meaning). Same k w s a (T.either mx my) sc v) (sym (S.same-Either e x y is))
    (either-same (layout e.of) e.spot.at (meaning x) (meaning y) w s a mx my sc v (typed-as (meaning e) _ (S.same-Either e x y is) fits.typed) g.0 (g.1).0)))
    (λ image sc h.
    let g = names-are image e (formals_in fs) w s _ parts (mx ∷ my ∷ []) sc (K.asked-by e (V.Either x y) (Form-F.Either x y) (formals_in fs) w s is (K.out-Either x y)) are h in
    named-as image (meaning e) _ m _ sc (S.same-Either e x y is) made (either-names image (layout e.of) e.spot.at (meaning x) (meaning y) mx my sc g.0 (g.1).0))

pub combines-Choose : (e : Expr) (z : Expr) (x : Expr) (y : Expr) (names : NameMap) (fs : List Function) (hs : List Helper) (w : ℕ) (s : Bool) (parts : List T.Meaning) (mz mx my m : T.Meaning)
    → e.form ≡ V.Choose z x y → parts ≡ mz ∷ mx ∷ my ∷ [] → m ≡ (T.choose mz mx my) → Combines names fs hs e w s parts m
combines-Choose e z x y names fs hs w s parts mz mx my m is are made =
    by-same names fs hs e w s parts m (λ a sc v fits h.
    let g = asked-is e (formals_in fs) w s _ a parts (mz ∷ mx ∷ my ∷ []) sc v (K.asked-by e (V.Choose z x y) (Form-F.Choose z x y) (formals_in fs) w s is (K.out-Choose z x y)) are h in
    subst (λ (k : T.Meaning). Same (meaning e) w s a k sc v) (sym made)
    (subst (λ (k : M.Meaning). Same k w s a (T.choose mz mx my) sc v) (sym (S.same-Choose e z x y is))
    (choose-same (layout e.of) e.spot.at (meaning z) (meaning x) (meaning y) w s a mz mx my sc v (typed-as (meaning e) _ (S.same-Choose e z x y is) fits.typed) g.0 (g.1).0 ((g.1).1).0)))
    (λ image sc h.
    let g = names-are image e (formals_in fs) w s _ parts (mz ∷ mx ∷ my ∷ []) sc (K.asked-by e (V.Choose z x y) (Form-F.Choose z x y) (formals_in fs) w s is (K.out-Choose z x y)) are h in
    named-as image (meaning e) _ m _ sc (S.same-Choose e z x y is) made (choose-names image (layout e.of) e.spot.at (meaning z) (meaning x) (meaning y) mz mx my sc g.0 (g.1).0 ((g.1).1).0))

pub combines-Equal-false : (e : Expr) (op : EqOp) (x y : Expr) (names : NameMap) (fs : List Function) (hs : List Helper) (w : ℕ) (s : Bool) (parts : List T.Meaning) (mx my m : T.Meaning)
    → e.form ≡ V.Equal op false x y → parts ≡ mx ∷ my ∷ [] → m ≡ T.equal op mx my → Combines names fs hs e w s parts m
combines-Equal-false e op x y names fs hs w s parts mx my m is are made =
    by-same names fs hs e w s parts m (λ a sc v fits h.
    let g = asked-is e (formals_in fs) w s _ a parts (mx ∷ my ∷ []) sc v (K.asked-by e (V.Equal op false x y) (Form-F.Equal op false x y) (formals_in fs) w s is (K.out-Equal op false x y)) are h in
    subst (λ (k : T.Meaning). Same (meaning e) w s a k sc v) (sym made)
    (subst (λ (k : M.Meaning). Same k w s a (T.equal op mx my) sc v) (sym (S.same-Equal e x y op false is))
    (equal-same (layout e.of) e.spot.at op (meaning x) (meaning y) w s a mx my sc v (typed-as (meaning e) _ (S.same-Equal e x y op false is) fits.typed) g.0 (g.1).0)))
    (λ image sc h.
    let g = names-are image e (formals_in fs) w s _ parts (mx ∷ my ∷ []) sc (K.asked-by e (V.Equal op false x y) (Form-F.Equal op false x y) (formals_in fs) w s is (K.out-Equal op false x y)) are h in
    named-as image (meaning e) _ m _ sc (S.same-Equal e x y op false is) made ((equal-names image (layout e.of) e.spot.at op false (meaning x) (meaning y) mx my sc g.0 (g.1).0).0))

pub combines-Equal-true : (e : Expr) (op : EqOp) (x y : Expr) (names : NameMap) (fs : List Function) (hs : List Helper) (w : ℕ) (s : Bool) (parts : List T.Meaning) (mx my m : T.Meaning)
    → e.form ≡ V.Equal op true x y → parts ≡ mx ∷ my ∷ [] → m ≡ T.unequal op mx my → Combines names fs hs e w s parts m
combines-Equal-true e op x y names fs hs w s parts mx my m is are made =
    by-same names fs hs e w s parts m (λ a sc v fits h.
    let g = asked-is e (formals_in fs) w s _ a parts (mx ∷ my ∷ []) sc v (K.asked-by e (V.Equal op true x y) (Form-F.Equal op true x y) (formals_in fs) w s is (K.out-Equal op true x y)) are h in
    subst (λ (k : T.Meaning). Same (meaning e) w s a k sc v) (sym made)
    (subst (λ (k : M.Meaning). Same k w s a (T.unequal op mx my) sc v) (sym (S.same-Equal e x y op true is))
    (unequal-same (layout e.of) e.spot.at op (meaning x) (meaning y) w s a mx my sc v (typed-as (meaning e) _ (S.same-Equal e x y op true is) fits.typed) g.0 (g.1).0)))
    (λ image sc h.
    let g = names-are image e (formals_in fs) w s _ parts (mx ∷ my ∷ []) sc (K.asked-by e (V.Equal op true x y) (Form-F.Equal op true x y) (formals_in fs) w s is (K.out-Equal op true x y)) are h in
    named-as image (meaning e) _ m _ sc (S.same-Equal e x y op true is) made ((equal-names image (layout e.of) e.spot.at op true (meaning x) (meaning y) mx my sc g.0 (g.1).0).1))

-- lists of operands, each alone
all-same : (es : List Expr) (a : Around) (ms : List T.Meaning) (sc : Scope) (v : Valuation) → SameEach (map alone_asked es) a ms sc v → AllSame (map meaning es) a ms sc v
all-same [] a [] sc v h = tt
all-same [] a (m ∷ ms) sc v h = absurd h
all-same (e ∷ es) a [] sc v h = absurd h
all-same (e ∷ es) a (m ∷ ms) sc v h = (h.0, all-same es a ms sc v h.1)

all-names : (image : ℕ → ℕ) (es : List Expr) (ms : List T.Meaning) (sc : Scope) → NamesEach image (map alone_asked es) ms sc → EachNames image (map meaning es) ms sc
all-names image [] [] sc h = tt
all-names image [] (m ∷ ms) sc h = absurd h
all-names image (e ∷ es) [] sc h = absurd h
all-names image (e ∷ es) (m ∷ ms) sc h = (h.0, all-names image es ms sc h.1)

pub combines-Concat : (e : Expr) (es : List Expr) (names : NameMap) (fs : List Function) (hs : List Helper) (w : ℕ) (s : Bool) (parts : List T.Meaning) (m : T.Meaning)
    → e.form ≡ V.Concat es → m ≡ T.concatenation parts → Combines names fs hs e w s parts m
combines-Concat e es names fs hs w s parts m is made =
    by-same names fs hs e w s parts m (λ a sc v fits h.
    let g = asked-is e (formals_in fs) w s _ a parts parts sc v (K.asked-by e (V.Concat es) (Form-F.Concat es) (formals_in fs) w s is (K.out-Concat es)) refl h in
    subst (λ (k : T.Meaning). Same (meaning e) w s a k sc v) (sym made)
    (subst (λ (k : M.Meaning). Same k w s a (T.concatenation parts) sc v) (sym (L.same-Concat e es is))
    (concat-same (layout e.of) e.spot.at (map meaning es) w s a parts sc v (typed-as (meaning e) _ (L.same-Concat e es is) fits.typed) (all-same es a parts sc v g))))
    (λ image sc h.
    let g = names-are image e (formals_in fs) w s _ parts parts sc (K.asked-by e (V.Concat es) (Form-F.Concat es) (formals_in fs) w s is (K.out-Concat es)) refl h in
    named-as image (meaning e) _ m _ sc (L.same-Concat e es is) made (concat-names image (layout e.of) e.spot.at (map meaning es) parts sc (all-names image es parts sc g)))

pub combines-Repeat : (e : Expr) (n : ℕ) (es : List Expr) (names : NameMap) (fs : List Function) (hs : List Helper) (w : ℕ) (s : Bool) (parts : List T.Meaning) (m : T.Meaning)
    → e.form ≡ V.Repeat n es → m ≡ T.repetition n parts → Combines names fs hs e w s parts m
combines-Repeat e n es names fs hs w s parts m is made =
    by-same names fs hs e w s parts m (λ a sc v fits h.
    let g = asked-is e (formals_in fs) w s _ a parts parts sc v (K.asked-by e (V.Repeat n es) (Form-F.Repeat n es) (formals_in fs) w s is (K.out-Repeat n es)) refl h in
    subst (λ (k : T.Meaning). Same (meaning e) w s a k sc v) (sym made)
    (subst (λ (k : M.Meaning). Same k w s a (T.repetition n parts) sc v) (sym (L.same-Repeat e n es is))
    (repeat-same (layout e.of) e.spot.at n (map meaning es) w s a parts sc v (typed-as (meaning e) _ (L.same-Repeat e n es is) fits.typed) (all-same es a parts sc v g))))
    (λ image sc h.
    let g = names-are image e (formals_in fs) w s _ parts parts sc (K.asked-by e (V.Repeat n es) (Form-F.Repeat n es) (formals_in fs) w s is (K.out-Repeat n es)) refl h in
    named-as image (meaning e) _ m _ sc (L.same-Repeat e n es is) made (repeat-names image (layout e.of) e.spot.at n (map meaning es) parts sc (all-names image es parts sc g)))

-- `==` and `===`, negated or not
pub combines-Equal : (e : Expr) (op : EqOp) (negated : Bool) (x y : Expr) (b : Bool) (names : NameMap) (fs : List Function) (hs : List Helper) (w : ℕ) (s : Bool) (parts : List T.Meaning) (mx my m : T.Meaning)
    → e.form ≡ V.Equal op negated x y → parts ≡ mx ∷ my ∷ [] → IsExact op b → m ≡ comparison b negated mx my → (op ≡ Wild → ⊥) → Combines names fs hs e w s parts m
combines-Equal e Logic false x y b names fs hs w s parts mx my m is are exact made tame =
    combines-Equal-false e Logic x y names fs hs w s parts mx my m is are (made ∙ ap (λ c. comparison c false mx my) exact)
combines-Equal e Logic true x y b names fs hs w s parts mx my m is are exact made tame =
    combines-Equal-true e Logic x y names fs hs w s parts mx my m is are (made ∙ ap (λ c. comparison c true mx my) exact)
combines-Equal e Case false x y b names fs hs w s parts mx my m is are exact made tame =
    combines-Equal-false e Case x y names fs hs w s parts mx my m is are (made ∙ ap (λ c. comparison c false mx my) exact)
combines-Equal e Case true x y b names fs hs w s parts mx my m is are exact made tame =
    combines-Equal-true e Case x y names fs hs w s parts mx my m is are (made ∙ ap (λ c. comparison c true mx my) exact)
combines-Equal e Wild negated x y b names fs hs w s parts mx my m is are exact made tame = absurd (tame refl)
