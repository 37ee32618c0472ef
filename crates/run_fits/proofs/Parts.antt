-- What statements ask of their expressions.
use Rattle.std.proofs.Common.{◌≡◌, ℕ, zero, suc, ◌+◌, ◌<◌, ◌≤◌, max, min, Bool, true, false, cond, List, [], ◌∷◌, ◌++◌, map, flat_map, length, drop, get_or, Option, Some, None, refl, arith, ap, sym, ◌∙◌, subst}
use Rattle.sv_types.specs.declared.expression.Expr.{Expr}
use Rattle.sv_types.specs.declared.expression.Form.TheVariants as V
use Rattle.sv_types.specs.declared.statement.CaseItem.{CaseItem}
use Rattle.sv_types.specs.declared.statement.Formal.{Formal}
use Rattle.sv_types.specs.declared.statement.Local.{Local}
use Rattle.sv_types.specs.declared.statement.Function.{Function}
use Rattle.sv_types.specs.Layouts.{Layout, layout, width_of}
use Rattle.sv_types.specs.Surroundings.{Parameter, is_signal}
use Rattle.sv_types.specs.Meanings.{Meaning, total, wide, roots_of}
use Rattle.sv_types.specs.Operators as O
use Rattle.sv_types.specs.Operators.{assigned_width, width_of_all}
use Rattle.sv_types.specs.Expressions.{meaning}
use Rattle.sv_types.specs.Functions.{parameter}
use Rattle.sv_types.specs.Runs.{widest_of}
use Rattle.sv_types.specs.Statements.{doing, initial_of, marks_of, roots_by_way}
use Rattle.eval_parts.specs.declared.path_steps.Step.{Step}
use Rattle.eval_parts.specs.Limits.{Fits, AllFit}
use Rattle.eval_parts.specs.Steps.{IsStep, can_read, is_held}
use Rattle.eval_parts.specs.Targets.{AllNarrow}
use Rattle.eval_parts.proofs.Lists as Q
use Rattle.eval_parts.proofs.Streaming as T
use Rattle.eval_parts.proofs.Selecting as S
use Rattle.eval_parts.proofs.TypeKinds.{wide-is}
use Rattle.eval_runs.specs.EvalStmts.{AllHeld}
use Rattle.eval_runs.specs.EvalStmts.{StartFits, LocalFits}
use Rattle.eval_runs.specs.EvalStmts.{AllFitWide, ItemsFitWide, values_of}
use Rattle.expr_fits.specs.Needs.{FitsIf}
use Rattle.expr_fits.specs.Results.{own_of}
use Rattle.expr_fits.proofs.OwnTypes.{fits-own}
use Rattle.expr_fits.proofs.Walks.{at-front, drop-none}
use Rattle.run_fits.specs.Statements.{HeldIf, AllHeldIf, roots_in, LocalIf, BoundsIf, AssignIf, CaseIf, ItemsWideIf, own_widths, item_widths, Actual, AllPassed, ActualIf, CanRunIf, StmtIf}

-- targets
held-root : (o : Option ℕ) (h : ℕ → Bool) → can_read o h ≡ true → AllHeld (roots_of o) h
held-root None h is = tt
held-root (Some n) h is = (is, tt)

path-held : (s : Step) (e : Expr) (h : ℕ → Bool) → IsStep s e → can_read (meaning e).root h ≡ true → AllHeld (meaning e).roots h
path-held s e h step is =
    let p = S.selects s e step in
    subst (λ (m : Meaning). AllHeld m.roots h) (sym p.is) (held-root p.path.root h (subst (λ (m : Meaning). can_read m.root h ≡ true) p.is is))

pub held-path : (r : Bool) (s : Step) (e : Expr) (h : ℕ → Bool) → IsStep s e → r ≡ can_read (meaning e).root h → HeldIf r e h
held-path false s e h step is = tt
held-path true s e h step is = path-held s e h step (sym is)

roots-concat : (of : Layout) (at : ℕ) (ms : List Meaning) → (O.concat of at ms).roots ≡ flat_map (λ (m : Meaning). m.roots) ms
unfolding O.concat
roots-concat of at ms = refl

roots-stream : (of : Layout) (at : ℕ) (reversed : Bool) (n : ℕ) (ms : List Meaning) → (O.stream of at reversed n ms).roots ≡ flat_map (λ (m : Meaning). m.roots) ms
unfolding O.stream
roots-stream of at reversed n ms = refl

pub held-concat : (r : Bool) (e : Expr) (es : List Expr) (h : ℕ → Bool) → e.form ≡ V.Concat es → AllHeldIf r es h → HeldIf r e h
held-concat false e es h is a = tt
held-concat true e es h is a =
    subst (λ xs. AllHeld xs h) (sym (ap (λ (m : Meaning). m.roots) (Q.same-Concat e es is) ∙ roots-concat (layout e.of) e.spot.at (map meaning es))) a

pub held-stream : (r : Bool) (e : Expr) (reversed : Bool) (n : ℕ) (es : List Expr) (h : ℕ → Bool) → e.form ≡ V.Stream reversed n es → AllHeldIf r es h → HeldIf r e h
held-stream false e reversed n es h is a = tt
held-stream true e reversed n es h is a =
    subst (λ xs. AllHeld xs h) (sym (ap (λ (m : Meaning). m.roots) (T.same-Stream e reversed n es is) ∙ roots-stream (layout e.of) e.spot.at reversed n (map meaning es))) a

pub ruleset targets = (held-path, held-concat, held-stream)

pub held-append : (xs ys : List ℕ) (h : ℕ → Bool) → AllHeld xs h → AllHeld ys h → AllHeld (xs ++ ys) h
held-append [] ys h a b = b
held-append (x ∷ xs) ys h a b = (a.0, held-append xs ys h a.1 b)

-- locals
start-as : (o : Option Expr) (marks : List Bool) (fs : ℕ → List Parameter) → StartFits (elim o as (λ x. Option Meaning) [ None ↦ None | Some e ↦ Some (meaning e) ]) marks fs → (l : Local) → l.initial ≡ o → StartFits (initial_of l) marks fs
start-as o marks fs f l is = subst (λ x. StartFits (elim x as (λ y. Option Meaning) [ None ↦ None | Some e ↦ Some (meaning e) ]) marks fs) (sym is) f

pub local-none : (l : Local) (fs : ℕ → List Parameter) → width_of l.of ≤ 4194304 → l.initial ≡ None → LocalFits l fs
local-none l fs narrow is = record { narrow = narrow; start = start-as None (marks_of l) fs tt l is }

pub local-some : (r : Bool) (l : Local) (e : Expr) (fs : ℕ → List Parameter) (w : ℕ) → width_of l.of ≤ 4194304 → l.initial ≡ Some e → w ≡ max (width_of l.of) (own_of e) → FitsIf r (meaning e) fs w → LocalIf r l fs
local-some false l e fs w narrow is at f = tt
local-some true l e fs w narrow is at f =
    let same : w ≡ assigned_width (marks_of l) (meaning e) = at ∙ ap (λ n. max (width_of l.of) n) (fits-own e fs w f) in
    record { narrow = narrow; start = start-as (Some e) (marks_of l) fs (subst (λ n. Fits (meaning e) fs n) same f) l is }

pub ruleset locals = (local-none, local-some)

-- loops
pub bounds : (r : Bool) (x y z : Expr) (fs : ℕ → List Parameter) (w v : ℕ) → w ≡ own_of x → v ≡ max w (own_of z) → Fits (meaning x) fs w → Fits (meaning y) fs (wide (meaning y)) → FitsIf r (meaning z) fs v → BoundsIf r x y z fs
bounds false x y z fs w v at width f g h = tt
bounds true x y z fs w v at width f g h =
    let long : w ≡ width_of x.of = at ∙ fits-own x fs w f ∙ wide-is x in
    let first : w ≡ assigned_width (layout x.of).two_state (meaning x) = let e = wide-is x in omega arith in
    let step : v ≡ assigned_width (layout x.of).two_state (meaning z) = width ∙ ap (λ n. max n (own_of z)) long ∙ ap (λ n. max (width_of x.of) n) (fits-own z fs v h) in
    record { first = subst (λ n. Fits (meaning x) fs n) first f; test = g; step = subst (λ n. Fits (meaning z) fs n) step h }

pub ruleset loops = (bounds)

-- assignments
own-total : (es : List Expr) (fs : ℕ → List Parameter) → AllFit es fs → total (map own_of es) ≡ width_of_all (map meaning es)
own-total [] fs f = refl
own-total (e ∷ es) fs f = let here = fits-own e fs (wide (meaning e)) f.0 in let r = own-total es fs f.1 in omega arith

pub assigned : (r : Bool) (to : List Expr) (e : Expr) (fs : ℕ → List Parameter) (h : ℕ → Bool) (n w : ℕ) → AllFit to fs → AllHeld (roots_in to) h → n ≡ min (total (map own_of to)) 4194305 → n ≤ 4194304 → w ≡ max n (own_of e)
    → FitsIf r (meaning e) fs w → AssignIf r to e fs h
assigned false to e fs h n w f held count narrow at g = tt
assigned true to e fs h n w f held count narrow at g =
    let all = own-total to fs f in
    let long : n ≡ width_of_all (map meaning to) = omega arith in
    let same : w ≡ max (width_of_all (map meaning to)) (wide (meaning e)) = at ∙ ap (λ k. max k (own_of e)) long ∙ ap (λ k. max (width_of_all (map meaning to)) k) (fits-own e fs w g) in
    record { targets = f; value = subst (λ k. Fits (meaning e) fs k) same g; width = omega arith; held = held }

pub ruleset assignments = (assigned)

-- `case`
own-widest : (es : List Expr) (ms : List Meaning) (fs : ℕ → List Parameter) (w : ℕ) → AllFitWide es fs w → widest_of (map meaning es ++ ms) ≡ max (own_widths es) (widest_of ms)
own-widest [] ms fs w f = omega arith
own-widest (e ∷ es) ms fs w f = let here = fits-own e fs w f.0 in let r = own-widest es ms fs w f.1 in omega arith

items-widest : (is : List CaseItem) (fs : ℕ → List Parameter) (w : ℕ) → ItemsFitWide is fs w → widest_of (values_of is) ≡ item_widths is
items-widest [] fs w f = refl
items-widest (i ∷ is) fs w f = own-widest i.values (values_of is) fs w f.0 ∙ ap (λ n. max (own_widths i.values) n) (items-widest is fs w f.1)

pub cased : (r : Bool) (on : Expr) (is : List CaseItem) (fs : ℕ → List Parameter) (w : ℕ) → w ≡ max (own_of on) (item_widths is) → Fits (meaning on) fs w → ItemsWideIf r is fs w → CaseIf r on is fs
cased false on is fs w at f g = tt
cased true on is fs w at f g =
    let same : w ≡ widest_of (meaning on ∷ values_of is) = at ∙ ap (λ n. max n (item_widths is)) (fits-own on fs w f) ∙ ap (λ n. max (wide (meaning on)) n) (sym (items-widest is fs w g)) in
    record { selector = subst (λ n. Fits (meaning on) fs n) same f; values = subst (λ n. ItemsFitWide is fs n) same g }

pub ruleset cases = (cased)

-- calls
pub passed : (r : Bool) (f : Formal) (e : Expr) (fs : ℕ → List Parameter) (h : ℕ → Bool) (w : ℕ) → w ≡ max (width_of f.local.of) (own_of e) → AllHeld (roots_by_way f.way (meaning e)) h → FitsIf r (meaning e) fs w → ActualIf r (parameter f) e fs h
passed false f e fs h w at held g = tt
passed true f e fs h w at held g =
    record { passed = subst (λ n. Fits (meaning e) fs n) (at ∙ ap (λ n. max (width_of f.local.of) n) (fits-own e fs w g)) g; held = held }

pub ruleset actuals = (passed)

pub passed-next : (ps : List Formal) (es : List Expr) (i : ℕ) (p : Formal) (e : Expr) (fs : ℕ → List Parameter) (h : ℕ → Bool) → i < length ps → i < length es → p ≡ get_or ps i p → e ≡ get_or es i e → Actual (parameter p) e fs h
    → (AllPassed (map parameter (drop i ps)) (drop i es) fs h → AllPassed (map parameter ps) es fs h) → AllPassed (map parameter (drop (i + 1) ps)) (drop (i + 1) es) fs h → AllPassed (map parameter ps) es fs h
passed-next ps es i p e fs h k l is at f all rest =
    all (subst (λ xs. AllPassed (map parameter xs) (drop i es) fs h) (sym (at-front ps i p k is))
    (subst (λ xs. AllPassed (parameter p ∷ map parameter (drop (i + 1) ps)) xs fs h) (sym (at-front es i e l at)) (f, rest)))

none-passed : (ps : List Parameter) (fs : ℕ → List Parameter) (h : ℕ → Bool) → AllPassed ps [] fs h
none-passed [] fs h = tt
none-passed (p ∷ ps) fs h = tt

pub passed-done : (ps : List Formal) (es : List Expr) (i : ℕ) (fs : ℕ → List Parameter) (h : ℕ → Bool) → length es ≤ i → (AllPassed (map parameter (drop i ps)) (drop i es) fs h → AllPassed (map parameter ps) es fs h) → AllPassed (map parameter ps) es fs h
passed-done ps es i fs h k all = all (subst (λ xs. AllPassed (map parameter (drop i ps)) xs fs h) (sym (drop-none es i k)) (none-passed (map parameter (drop i ps)) fs h))

-- functions
none-held : (n : ℕ) → is_held [] n ≡ false
none-held zero = refl
none-held (suc n) = refl

same-held : (ns : List ℕ) → AllHeld ns (is_held []) → AllHeld ns (λ n. false)
same-held [] a = tt
same-held (n ∷ ns) a = (subst (λ b. cond (is_signal n) b true ≡ true) (none-held n) a.0, same-held ns a.1)

pub runs : (r : Bool) (f : Function) (fs : ℕ → List Parameter) → AllNarrow f.formals → width_of f.of ≤ 4194304 → StmtIf r f.body fs (is_held []) → CanRunIf r f fs
runs false f fs formals result s = tt
runs true f fs formals result s = record { types = record { formals = formals; result = result }; body = record { keeps = s.keeps; places = s.places; held = same-held ((doing f.body).targets fs) s.held } }

pub ruleset functions = (runs)
