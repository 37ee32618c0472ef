-- Forms that have no operator of the target language stand for what is made of their operands.
use Rattle.std.proofs.Common.{◌≡◌, ℕ, ◌≤◌, max, Bool, List, [], ◌∷◌, length, map, take, flat_map, zip, Result, Ok, refl, arith, ap, sym, ◌∙◌, subst}
use Rattle.std.specs.declared.alloc.AllocError.{AllocError}
use Rattle.std.proofs.lemmas.List.{length-map, length-take}
use Rattle.b4_core.specs.declared.operators.EqOp.TheVariants.{Wild}
use Rattle.row_machine.specs.Valuation.{Valuation}
use Rattle.sv_types.specs.declared.statement.Function.{Function}
use Rattle.sv_types.specs.declared.expression.Expr.{Expr}
use Rattle.sv_types.specs.declared.expression.Form.{Form-F, out-Form, the_lemmas}
use Rattle.sv_types.specs.declared.expression.Form.TheVariants as V
use Rattle.sv_types.specs.Layouts.{Layout, Part, layout}
use Rattle.sv_types.specs.Surroundings.{Around, Parameter}
use Rattle.sv_types.specs.Meanings as M
use Rattle.sv_types.specs.Operators as O
use Rattle.sv_types.specs.Operators.{assigned_width, parts_of}
use Rattle.sv_types.specs.Expressions.{meaning}
use Rattle.sv_types.proofs.ValueLengths.{length-value}
use Rattle.sv_types.specs.declared.types.SvType.{SvType}
use Rattle.v_tree.specs.Names.{Name}
use Rattle.v_tree.specs.declared.expressions.VExpr.{VExpr}
use Rattle.v_tree.specs.declared.names.Helper.{Helper}
use Rattle.v_tree.specs.declared.names.NameMap.{NameMap}
use Rattle.v_meaning.specs.Scopes.{Scope}
use Rattle.v_meaning.specs.Values as T
use Rattle.eval_parts.specs.Limits.{Fits}
use Rattle.eval_parts.specs.Streams.{IsCut}
use Rattle.eval_parts.specs.Targets.{marks_of_parts, marks_of_formals}
use Rattle.eval_parts.proofs.Assigned as N
use Rattle.eval_parts.proofs.Steps as S
use Rattle.eval_forms.specs.Asked.{assigned_asked, form_asked}
use Rattle.eval_forms.specs.Callees.{formals_in}
use Rattle.eval_forms.proofs.Narrowness.{at-places, narrow-Pattern, narrow-Call}
use Rattle.eval_forms.proofs.Strict as K
use Rattle.lowering_laws.specs.Agreeing.{Images}
use Rattle.lowering_laws.specs.NamedImages.{AreImages, SameNames}
use Rattle.lowering_laws.specs.Same.{Same}
use Rattle.lowering_laws.proofs.Assigned.{given-same}
use Rattle.lowering_laws.proofs.Contexts.{alone-width, alone-value}
use Rattle.lowering_laws.proofs.Extensions.{take-whole}
use Rattle.lowering_laws.proofs.Naming.{no-images, both-images, each-image}
use Rattle.path_flatten.specs.Helping.{EachHelps}
use Rattle.path_flatten.specs.Naming.{SameNumbers}
use Rattle.form_lower.specs.Calls.{NamesOf}
use Rattle.form_lower.specs.Wilds.{WildEquals}
use Rattle.form_lower.specs.Assigned.{Casts}
use Rattle.form_lower.specs.Places.{IsItem, AllGive, AreItems, Patterns, CallsNamed}
use Rattle.expr_lower.specs.Leaves.{Leaf, Unlowered, together, leaves, Each}
use Rattle.name_maps.specs.Named.{function_name, OneFunction}
use Rattle.expr_lower.specs.Lowering.{LeafStands, SameEach, NamesEach, Combines, CombinesAnywhere}
use Rattle.expr_lower.proofs.AskedLeaves.{asked-leaves, each-left, each-right, leaves-Pattern, leaves-Call}
use Rattle.expr_lower.proofs.Asking.{same-each, names-each}
use Rattle.expr_lower.proofs.Forms.{asks, asked-is, names-are}
use Rattle.expr_lower.proofs.Given.{cut-of}

-- what a form has to give, for what its text has
pub record Form (names : NameMap) (fs : List Function) (e : Expr) (w : ℕ) (s : Bool) (parts : List T.Meaning) (m : T.Meaning) (im : Images) (a : Around) (sc : Scope) : Type 0 where
  pub same : (now v : Valuation) → SameEach (asks e (formals_in fs) w s) (record a { now = now }) parts sc v → Same (meaning e) w s (record a { now = now }) m sc v
  pub named : NamesEach im.number (asks e (formals_in fs) w s) parts sc → SameNames im.number (meaning e) m sc

pub by-helped : (names : NameMap) (fs : List Function) (hs : List Helper) (e : Expr) (w : ℕ) (s : Bool) (parts : List T.Meaning) (m : T.Meaning)
    → ((im : Images) (a : Around) (sc : Scope) → Each (LeafStands names fs im a sc) (leaves e) → EachHelps hs sc → Fits (meaning e) (formals_in fs) w → Form names fs e w s parts m im a sc)
    → Combines names fs hs e w s parts m
by-helped names fs hs e w s parts m form plain fits each im a sc all helps =
    let leaves_asked = asked-leaves e (LeafStands names fs im a sc) plain (formals_in fs) w s all in
    let f = form im a sc all helps fits in
    record {
      stands = λ now v agree. f.same now v (same-each names fs hs (asks e (formals_in fs) w s) parts im a sc now v each leaves_asked helps agree);
      names = f.named (names-each names fs hs (asks e (formals_in fs) w s) parts im a sc each leaves_asked helps);
    }

-- names
pub images-like : (image : ℕ → ℕ) (ns : List M.Named) (us vs : List ℕ) → AreImages image ns us → SameNumbers us vs → AreImages image ns vs
images-like image ns us vs h g = record { all = λ n k. g.there (image n) (h.all n k); only = λ q k. h.only q (g.back q k) }

cast-named : (image : ℕ → ℕ) (of : Layout) (at : ℕ) (e : M.Meaning) (n m : T.Meaning) (sc : Scope) → SameNames image e n sc → NamesOf (n ∷ []) m → SameNames image (O.cast of at e) m sc
unfolding O.cast
cast-named image of at e n m sc h names = images-like image _ (T.all_names (n ∷ []) sc) (m.names sc) (each-image image (e ∷ []) (n ∷ []) sc (h, tt)) (names sc)

wild-named : (image : ℕ → ℕ) (of : Layout) (at : ℕ) (negated : Bool) (e f : M.Meaning) (l r m : T.Meaning) (sc : Scope) → SameNames image e l sc → SameNames image f r sc → NamesOf (l ∷ r ∷ []) m
    → SameNames image (O.equal of at Wild negated e f) m sc
unfolding O.equal
wild-named image of at negated e f l r m sc h g names =
    images-like image _ (T.all_names (l ∷ r ∷ []) sc) (m.names sc) (each-image image (e ∷ f ∷ []) (l ∷ r ∷ []) sc (h, (g, tt))) (names sc)

pub combines-Cast : (e x : Expr) (hs : List Helper) (parts : List T.Meaning) (mx m : T.Meaning) → e.form ≡ V.Cast x → parts ≡ mx ∷ [] → Casts (meaning x) e.of mx hs m → CombinesAnywhere hs e parts m
combines-Cast e x hs parts mx m is are casts names fs w s =
    let level = S.same-Cast e x is in
    let asked = K.asked-by e (V.Cast x) (Form-F.Cast x) (formals_in fs) w s is (K.out-Cast x) in
    by-helped names fs hs e w s parts m (λ im a sc all helps fits. record {
      same = λ now v h.
          let b = record a { now = now } in
          let g = asked-is e (formals_in fs) w s _ b parts (mx ∷ []) sc v asked are h in
          subst (λ (k : M.Meaning). Same k w s b m sc v) (sym level) (casts.same e.spot.at w s b sc v helps (length-value x (M.wide (meaning x)) (M.signed (meaning x)) b) g.0);
      named = λ h.
          let g = names-are im.number e (formals_in fs) w s _ parts (mx ∷ []) sc asked are h in
          subst (λ (k : M.Meaning). SameNames im.number k m sc) (sym level) (cast-named im.number (layout e.of) e.spot.at (meaning x) mx m sc g.0 casts.names);
    })

pub combines-Wild : (e : Expr) (negated : Bool) (x y : Expr) (hs : List Helper) (parts : List T.Meaning) (mx my m : T.Meaning) → e.form ≡ V.Equal Wild negated x y → parts ≡ mx ∷ my ∷ []
    → WildEquals negated (meaning x) (meaning y) mx my hs m → CombinesAnywhere hs e parts m
combines-Wild e negated x y hs parts mx my m is are equals names fs w s =
    let level = S.same-Equal e x y Wild negated is in
    let asked = K.asked-by e (V.Equal Wild negated x y) (Form-F.Equal Wild negated x y) (formals_in fs) w s is (K.out-Equal Wild negated x y) in
    by-helped names fs hs e w s parts m (λ im a sc all helps fits. record {
      same = λ now v h.
          let b = record a { now = now } in
          let g = asked-is e (formals_in fs) w s _ b parts (mx ∷ my ∷ []) sc v asked are h in
          let some = (S.equal-fits-x e x y Wild negated (formals_in fs) w is fits).some in
          subst (λ (k : M.Meaning). Same k w s b m sc v) (sym level)
          (equals.same (layout e.of) e.spot.at w s b sc v helps (length-value x) (length-value y) some
          (subst (λ (k : M.Meaning). k.misfits ≡ 0) level fits.typed) (record { left = g.0; right = (g.1).0 }));
      named = λ h.
          let g = names-are im.number e (formals_in fs) w s _ parts (mx ∷ my ∷ []) sc asked are h in
          subst (λ (k : M.Meaning). SameNames im.number k m sc) (sym level) (wild-named im.number (layout e.of) e.spot.at negated (meaning x) (meaning y) mx my m sc g.0 (g.1).0 equals.names);
    })

-- What an expression of as many bits as a target gives to it is its value alone.
alone-given : (e : Expr) (n : ℕ) (a : Around) → IsCut (meaning e) → M.wide (meaning e) ≡ n → (meaning e).given n a ≡ M.alone (meaning e) a
alone-given e n a cut exact =
    let larger : max n (M.wide (meaning e)) ≡ M.wide (meaning e) = omega arith in
    let size : length (M.alone (meaning e) a) ≡ n = length-value e (M.wide (meaning e)) (M.signed (meaning e)) a ∙ exact in
    cut.given n a ∙ ap (λ k. take n ((meaning e).value k (M.signed (meaning e)) a)) larger ∙ take-whole n (M.alone (meaning e) a) (omega arith)

item-alone : (e : Expr) (n : ℕ) (a : Around) (m : T.Meaning) (sc : Scope) (v : Valuation) → IsCut (meaning e) → length ((meaning e).given n a) ≡ n → M.wide (meaning e) ≡ n
    → Same (meaning e) (max n (M.wide (meaning e))) (M.signed (meaning e)) a m sc v → IsItem m ((meaning e).given n a) sc v
item-alone e n a m sc v cut long exact same =
    let larger : max n (M.wide (meaning e)) ≡ M.wide (meaning e) = omega arith in
    let alone = subst (λ k. Same (meaning e) k (M.signed (meaning e)) a m sc v) larger same in
    record {
      width = alone-width (meaning e) a m sc v alone ∙ exact ∙ sym long;
      value = alone-value (meaning e) a m sc v alone ∙ sym (alone-given e n a cut exact);
    }

-- what is assigned
all-give : (P : Leaf → Type 0) → (P Unlowered → ⊥) → (bs : List (List Bool)) (es : List Expr) (a : Around) (ms : List T.Meaning) (sc : Scope) (v : Valuation) → Each P (together (map leaves es))
    → SameEach (assigned_asked bs es) a ms sc v → AllGive bs (map meaning es) a ms sc v
all-give P none [] es a [] sc v all h = tt
all-give P none [] es a (m ∷ ms) sc v all h = absurd h
all-give P none (b ∷ bs) [] a [] sc v all h = tt
all-give P none (b ∷ bs) [] a (m ∷ ms) sc v all h = absurd h
all-give P none (b ∷ bs) (e ∷ es) a [] sc v all h = absurd h
all-give P none (b ∷ bs) (e ∷ es) a (m ∷ ms) sc v all h =
    let cut = cut-of P none e (each-left P (leaves e) (together (map leaves es)) all) in
    let size = length-value e (assigned_width b (meaning e)) (M.signed (meaning e)) a in
    let long : length ((meaning e).given (length b) a) ≡ length b =
    ap length (cut.given (length b) a) ∙ omega (arith, length-take (length b) ((meaning e).value (assigned_width b (meaning e)) (M.signed (meaning e)) a), size) in (
      record {
        value = given-same (length b) (meaning e) a m sc v (λ n. cut.given n a) h.0;
        long = long;
        alone = λ exact. item-alone e (length b) a m sc v cut long exact h.0;
      },
      all-give P none bs es a ms sc v (each-right P (leaves e) (together (map leaves es)) all) h.1,
    )

items-named : (image : ℕ → ℕ) (ps : List Part) (es : List Expr) (ms : List T.Meaning) (sc : Scope) → NamesEach image (assigned_asked (marks_of_parts ps) es) ms sc
    → AreImages image (flat_map (λ (p : M.Operand). p.of.names) (map (λ p. M.at_width (assigned_width p.0.two_state p.1) p.1) (zip ps (map meaning es)))) (T.all_names ms sc)
items-named image [] es [] sc h = no-images image
items-named image [] es (m ∷ ms) sc h = absurd h
items-named image (p ∷ ps) [] [] sc h = no-images image
items-named image (p ∷ ps) [] (m ∷ ms) sc h = absurd h
items-named image (p ∷ ps) (e ∷ es) [] sc h = absurd h
items-named image (p ∷ ps) (e ∷ es) (m ∷ ms) sc h = both-images image (meaning e).names _ (m.names sc) (T.all_names ms sc) h.0 (items-named image ps es ms sc h.1)

pattern-named : (image : ℕ → ℕ) (of : Layout) (at : ℕ) (es : List Expr) (ms : List T.Meaning) (m : T.Meaning) (sc : Scope) → NamesEach image (assigned_asked (marks_of_parts (parts_of of)) es) ms sc → NamesOf ms m
    → SameNames image (O.pattern of at (map meaning es)) m sc
unfolding O.pattern
pattern-named image of at es ms m sc h names = images-like image _ (T.all_names ms sc) (m.names sc) (items-named image (parts_of of) es ms sc h) (names sc)

pub combines-Pattern : (e : Expr) (es : List Expr) (w : ℕ) (s : Bool) (hs : List Helper) (parts : List T.Meaning) (m : T.Meaning) → e.form ≡ V.Pattern es → Patterns e.of w s (map meaning es) parts hs m
    → (names : NameMap) (fs : List Function) → Combines names fs hs e w s parts m
combines-Pattern e es w s hs parts m is patterns names fs =
    let level = N.same-Pattern e es is in
    let asked = K.asked-by e (V.Pattern es) (Form-F.Pattern es) (formals_in fs) w s is (K.out-Pattern es) in
    by-helped names fs hs e w s parts m (λ im a sc all helps fits. record {
      same = λ now v h.
          let b = record a { now = now } in
          let g = asked-is e (formals_in fs) w s _ b parts parts sc v asked refl h in
          let P = LeafStands names fs im a sc in
          let give = all-give P (λ h. h) (marks_of_parts (parts_of (layout e.of))) es b parts sc v (subst (Each P) (leaves-Pattern e es is) all).1 g in
          subst (λ (k : M.Meaning). Same k w s b m sc v) (sym level) (patterns.same e.spot.at b sc v helps give);
      named = λ h.
          let g = names-are im.number e (formals_in fs) w s _ parts parts sc asked refl h in
          subst (λ (k : M.Meaning). SameNames im.number k m sc) (sym level) (pattern-named im.number (layout e.of) e.spot.at es parts m sc g patterns.names);
    })

-- calls
actuals-named : (image : ℕ → ℕ) (ps : List Parameter) (es : List Expr) (ms : List T.Meaning) (sc : Scope) → length (map meaning es) ≡ length ps → NamesEach image (assigned_asked (marks_of_formals ps) es) ms sc
    → AreImages image (flat_map (λ (p : M.Operand). p.of.names) (map M.by_itself (map meaning es))) (T.all_names ms sc)
actuals-named image [] [] [] sc count h = no-images image
actuals-named image [] [] (m ∷ ms) sc count h = absurd h
actuals-named image [] (e ∷ es) ms sc count h = absurd (omega arith)
actuals-named image (p ∷ ps) [] ms sc count h = absurd (omega arith)
actuals-named image (p ∷ ps) (e ∷ es) [] sc count h = absurd h
actuals-named image (p ∷ ps) (e ∷ es) (m ∷ ms) sc count h = both-images image (meaning e).names _ (m.names sc) (T.all_names ms sc) h.0 (actuals-named image ps es ms sc (omega arith) h.1)

call-named : (image : ℕ → ℕ) (of : Layout) (at f : ℕ) (ps : List Parameter) (es : List Expr) (ms : List T.Meaning) (m : T.Meaning) (sc : Scope) → length (map meaning es) ≡ length ps
    → NamesEach image (assigned_asked (marks_of_formals ps) es) ms sc → NamesOf ms m → SameNames image (O.call of at f (map meaning es)) m sc
unfolding O.call
call-named image of at f ps es ms m sc count h names = images-like image _ (T.all_names ms sc) (m.names sc) (actuals-named image ps es ms sc count h) (names sc)

out-Call : (f : ℕ) (es : List Expr) → out-Form (V.Call f es) ≡ Form-F.Call f es
out-Call f es = search (the_lemmas)

pub combines-Call : (e : Expr) (f : ℕ) (es : List Expr) (w : ℕ) (s : Bool) (names : NameMap) (fs : List Function) (hs : List Helper) (parts : List T.Meaning) (m : T.Meaning) → e.form ≡ V.Call f es
    → (OneFunction names.functions f → CallsNamed e.of (function_name names.functions f) (formals_in fs f) (map meaning es) parts hs m) → Combines names fs hs e w s parts m
combines-Call e f es w s names fs hs parts m is made =
    let level = N.same-Call e f es is in
    let asked = K.asked-by e (V.Call f es) (Form-F.Call f es) (formals_in fs) w s is (out-Call f es) in
    by-helped names fs hs e w s parts m (λ im a sc all helps fits.
    let P = LeafStands names fs im a sc in
    let here = subst (Each P) (leaves-Call e f es is) all in
    let calls = made here.0.0 in
    let called = here.0.1 in
    let count : length (map meaning es) ≡ length (formals_in fs f) = length-map es meaning ∙ sym (length-map es leaves) ∙ called.count in
    record {
      same = λ now v h.
          let b = record a { now = now } in
          let g = asked-is e (formals_in fs) w s _ b parts parts sc v asked refl h in
          let give = all-give P (λ h. h) (marks_of_formals (formals_in fs f)) es b parts sc v here.1 g in
          subst (λ (k : M.Meaning). Same k w s b m sc v) (sym level) (calls.same e.spot.at f w s b sc v helps called.formals_are count called.stands give);
      named = λ h.
          let g = names-are im.number e (formals_in fs) w s _ parts parts sc asked refl h in
          subst (λ (k : M.Meaning). SameNames im.number k m sc) (sym level) (call-named im.number (layout e.of) e.spot.at f (formals_in fs f) es parts m sc count g calls.names);
    })

-- the operands of a pattern and a call are assigned to places
assigned-few : (bs : List (List Bool)) (es : List Expr) → (length (assigned_asked bs es) ≤ length bs) × (length (assigned_asked bs es) ≤ length es)
assigned-few [] es = (omega arith, omega arith)
assigned-few (b ∷ bs) [] = (omega arith, omega arith)
assigned-few (b ∷ bs) (e ∷ es) = (let rest = assigned-few bs es in (omega (arith, rest.0), omega (arith, rest.1)))

pub pattern-of : (e : Expr) (es : List Expr) (fs : ℕ → List Parameter) (w : ℕ) (s : Bool) (n : ℕ) → e.form ≡ V.Pattern es → n ≡ length (form_asked (layout e.of) fs w s (out-Form e.form)) → (meaning e).widest ≤ 4194304
    → AreItems (marks_of_parts (parts_of (layout e.of))) es n
pattern-of e es fs w s n is count narrow =
    let asked = K.asked-by e (V.Pattern es) (Form-F.Pattern es) fs w s is (K.out-Pattern es) in
    let few = assigned-few (marks_of_parts (parts_of (layout e.of))) es in
    let same : n ≡ length (assigned_asked (marks_of_parts (parts_of (layout e.of))) es) = count ∙ sym (ap length asked) in
    record { there = omega (arith, few.0, same); few = omega (arith, few.1, same); narrow = narrow-Pattern e es is narrow }

pub call-of : (e : Expr) (f : ℕ) (es : List Expr) (fs : ℕ → List Parameter) (w : ℕ) (s : Bool) (n : ℕ) → e.form ≡ V.Call f es → n ≡ length (form_asked (layout e.of) fs w s (out-Form e.form)) → (meaning e).widest ≤ 4194304
    → AreItems (marks_of_formals (fs f)) es n
call-of e f es fs w s n is count narrow =
    let asked = K.asked-by e (V.Call f es) (Form-F.Call f es) fs w s is (out-Call f es) in
    let few = assigned-few (marks_of_formals (fs f)) es in
    let same : n ≡ length (assigned_asked (marks_of_formals (fs f)) es) = count ∙ sym (ap length asked) in
    record { there = omega (arith, few.0, same); few = omega (arith, few.1, same); narrow = at-places (marks_of_formals (fs f)) es (narrow-Call e f es is narrow) }

pub called-as : (t : SvType) (name other : Name) (ps qs : List Parameter) (es : List M.Meaning) (ms ns : List T.Meaning) (hs : List Helper) (r : T.Meaning) → name ≡ other → ps ≡ qs → ms ≡ ns
    → CallsNamed t name ps es ms hs r → CallsNamed t other qs es ns hs r
called-as t name other ps qs es ms ns hs r names formals parts h =
    subst (λ n. CallsNamed t n qs es ns hs r) names (subst (λ l. CallsNamed t name l es ns hs r) formals (subst (λ l. CallsNamed t name ps es l hs r) parts h))

pub same-ok : (xs ys : List VExpr) (r : Result (List VExpr) AllocError) → r ≡ Ok xs → r ≡ Ok ys → xs ≡ ys
same-ok xs ys r h g = cc
