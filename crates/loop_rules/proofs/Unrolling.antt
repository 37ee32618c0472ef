-- Unrolled lists, as the code walks them.
use Rattle.std.proofs.Common.{◌≡◌, ℕ, Bool, true, false, cond, List, [], ◌∷◌, map, Option, Some, None, Result, Ok, Err, refl, ap, sym, ◌∙◌}
use Rattle.std.specs.Prelude.{IfOk}
use Rattle.std.proofs.Math.Path.{fun_ext}
use Rattle.b4_core.specs.declared.bit.Bit4.{Bit4}
use Rattle.b4_core.specs.declared.bit.Bit4.TheVariants.{X}
use Rattle.row_machine.specs.Valuation.{Place}
use Rattle.sv_types.specs.declared.design.Design.{Design}
use Rattle.sv_types.specs.declared.statement.Function.{Function}
use Rattle.sv_types.specs.Functions.{callees}
use Rattle.sv_types.specs.Machine.{parts, unseen}
use Rattle.sv_types.specs.declared.expression.Expr.{Expr}
use Rattle.sv_types.specs.declared.statement.Local.{Local}
use Rattle.sv_types.specs.declared.statement.Stmt.{Stmt}
use Rattle.sv_types.specs.declared.statement.Stmt.TheVariants as V
use Rattle.sv_types.specs.Surroundings.{Sight, is_signal}
use Rattle.eval_forms.specs.Callees.{formals_in}
use Rattle.eval_stmts.specs.declared.controls.Control.{Control}
use Rattle.expr_flows.specs.declared.known.Known.{Known}
use Rattle.expr_flows.specs.declared.known.Variable.{Variable}
use Rattle.expr_flows.specs.Known.{sight, sight_in}
use Rattle.design_breaks.specs.declared.Unrolled.{Unrolled}
use Rattle.design_breaks.specs.Breaks as B
use Rattle.design_breaks.specs.Breaks.{formals}
use Rattle.design_breaks.specs.Indices.{said}
use Rattle.design_breaks.specs.Unrolling as U
use Rattle.design_breaks.specs.Unrolling.{valuing, found, in_turn, uncounted, with_left, starts_of, most_statements}
use Rattle.design_breaks.specs.Actions as A
use Rattle.design_breaks.specs.Actions.{actions}
use Rattle.loop_laws.specs.Walks.{Formals, see, walk, walk_all, walk_before, unrolls_of}
use Rattle.loop_laws.proofs.Lesser.{lesser-none}
use Rattle.loop_laws.proofs.Rows.{onward-stops, onward-goes}
use Rattle.loop_laws.proofs.Statements as W
use Rattle.loop_laws.proofs.Turns as T
use Rattle.loop_rules.specs.Counted.{control_at}
use Rattle.loop_rules.proofs.Counting.{formals-of}
use Rattle.loop_rules.specs.declared.turns.Inside.{Inside}
use Rattle.loop_rules.specs.Turns.{IsEntered}
use Rattle.loop_rules.specs.Walks.{LoopIs, OpenIs, EnteredIs, walk_made}

-- expressions
pub see-full : (es : List Expr) (k : Sight) (u : Unrolled) → u.left ≡ None → u ≡ see es k u
see-full es k u is = sym (onward-stops (valuing es) k u is)

pub see-one : (e : Expr) (k : Sight) (u : Unrolled) (n : ℕ) (long : Option ℕ) → u.left ≡ Some n → long ≡ (said e).long k → found long u ≡ see (e ∷ []) k u
see-one e k u n long is at = ap (λ o. found o u) (at ∙ sym (lesser-none ((said e).long k))) ∙ sym (onward-goes (valuing (e ∷ [])) k u n is)

-- what stands before the body of a replaced call
pub before-full : (fs : Formals) (ls : List Local) (ss : List Stmt) (k : Sight) (u : Unrolled) → u.left ≡ None → u ≡ walk_before fs ls ss k u
before-full fs ls ss k u is = sym (onward-stops (uncounted (in_turn (valuing (starts_of ls) ∷ map (unrolls_of fs) ss))) k u is)

pub before-open : (fs : Formals) (ls : List Local) (ss : List Stmt) (k : Sight) (u v w r : Unrolled) (n : ℕ) → u.left ≡ Some n → v ≡ see (starts_of ls) k (record u { left = Some most_statements }) → w ≡ walk_all fs ss k v → r ≡ with_left u.left w
    → r ≡ walk_before fs ls ss k u
before-open fs ls ss k u v w r n is starts walked left =
    left ∙ ap (with_left u.left) (walked ∙ ap (walk_all fs ss k) starts) ∙ sym (onward-goes (uncounted (in_turn (valuing (starts_of ls) ∷ map (unrolls_of fs) ss))) k u n is)

-- statements in order
pub walk-more : (fs : Formals) (s : Stmt) (ss : List Stmt) (k : Sight) (u v all : Unrolled) → v ≡ walk fs s k u → walk_all fs (s ∷ ss) k u ≡ all → walk_all fs ss k v ≡ all
walk-more fs s ss k u v all is h = ap (walk_all fs ss k) is ∙ h

-- loops
abbrev loop_adds : Known → Control → ℕ → Stmt → U.Unrolls
loop_adds k c at body h v = U.looping (A.is_counted (control_at at c) (actions body) (formals_in k.functions.now) h) (control_at at c) (unrolls_of (formals_in k.functions.now) body) h v

pub loop-full : (k : Known) (c : Control) (at : ℕ) (body : Stmt) (u : Unrolled) → u.left ≡ None → LoopIs k c at body u u
loop-full k c at body u is = sym (onward-stops (loop_adds k c at body) (sight k) u is)

pub loop-open : (k : Known) (c : Control) (at : ℕ) (body : Stmt) (u r : Unrolled) (n : ℕ) → u.left ≡ Some n → OpenIs k c at body u r → LoopIs k c at body u r
loop-open k c at body u r n is h = h ∙ sym (onward-goes (loop_adds k c at body) (sight k) u n is)

pub open-past : (k : Known) (c : Control) (at : ℕ) (body : Stmt) (u : Unrolled) → U.is_past u.endless at ≡ true → OpenIs k c at body u u
open-past k c at body u is = sym (T.is-past _ (control_at at c) (unrolls_of (formals_in k.functions.now) body) (sight k) u is)

pub open-uncounted : (k : Known) (c : Control) (at : ℕ) (body : Stmt) (u : Unrolled) → A.is_counted (control_at at c) (actions body) (formals_in k.functions.now) (sight k) ≡ false → OpenIs k c at body u u
open-uncounted k c at body u is = sym (T.not-counted _ (control_at at c) (unrolls_of (formals_in k.functions.now) body) (sight k) u is)

pub open-long : (k : Known) (c : Control) (at long : ℕ) (body : Stmt) (u r : Unrolled) → U.is_past u.endless at ≡ false → A.is_counted (control_at at c) (actions body) (formals_in k.functions.now) (sight k) ≡ true
    → U.too_long_at c.first.now (sight k) ≡ Some long → r ≡ found (Some long) u → OpenIs k c at body u r
open-long k c at long body u r before counted is finds =
    let F = unrolls_of (formals_in k.functions.now) body in
    finds ∙ sym (T.first-long (control_at at c) F (sight k) u long is) ∙ sym (T.is-unrolled _ (control_at at c) F (sight k) u counted before)

abbrev rest_is : Known → Control → ℕ → Stmt → Unrolled → Unrolled
rest_is k c at body u =
    let h = U.given (control_at at c) c.first.now (sight k) in
    U.unless_found (U.lasting 65536 (control_at at c) h) (λ j w. U.turns 65536 (control_at at c) (unrolls_of (formals_in k.functions.now) body) h w) (sight k) u

pub open-entered : (k : Known) (c : Control) (at : ℕ) (body : Stmt) (u r : Unrolled) → U.is_past u.endless at ≡ false → A.is_counted (control_at at c) (actions body) (formals_in k.functions.now) (sight k) ≡ true
    → U.too_long_at c.first.now (sight k) ≡ None → EnteredIs k c at body u r → OpenIs k c at body u r
open-entered k c at body u r before counted is h = by (U.lasting 65536 (control_at at c) g) refl
  where
    F : U.Unrolls
    F = unrolls_of (formals_in k.functions.now) body

    g : Sight
    g = U.given (control_at at c) c.first.now (sight k)

    by : (o : Option ℕ) → U.lasting 65536 (control_at at c) g ≡ o → OpenIs k c at body u r
    by None ends = h ∙ ap (λ o. U.unless_found o (λ j w. U.turns 65536 (control_at at c) F g w) (sight k) u) ends ∙ sym (T.loop-ends (control_at at c) F (sight k) u is ends) ∙ sym (T.is-unrolled _ (control_at at c) F (sight k) u counted before)
    by (Some long) endless =
        h ∙ ap (λ o. U.unless_found o (λ j w. U.turns 65536 (control_at at c) F g w) (sight k) u) endless ∙ sym (T.loop-endless (control_at at c) F (sight k) u long is endless)
        ∙ sym (T.is-unrolled _ (control_at at c) F (sight k) u counted before)

pub gives : {E : Type 0} (r : Result Unrolled E) (f g : Unrolled) → f ≡ g → IfOk r (λ u. u ≡ f) → IfOk r (λ u. u ≡ g)
gives (Ok u) f g same is = is ∙ same
gives (Err x) f g same is = tt

pub made-is : (fs : Formals) (s : Stmt) (ls : List Local) (before : List Stmt) (body : Option Stmt) (k : Sight) (u : Unrolled) → s ≡ V.Made ls before body → walk_made fs ls before body k u ≡ walk fs s k u
made-is fs s ls before None k u is = sym (W.walk-bare fs s ls before k u is)
made-is fs s ls before (Some b) k u is = sym (W.walk-Made fs s ls before b k u is)

-- the same of what a call answers
pub loop-gives : {E : Type 0} (r : Result Unrolled E) (k : Known) (c : Control) (at : ℕ) (body : Stmt) (u : Unrolled) (n : ℕ) → u.left ≡ Some n → IfOk r (OpenIs k c at body u) → IfOk r (LoopIs k c at body u)
loop-gives (Ok v) k c at body u n is h = loop-open k c at body u v n is h
loop-gives (Err x) k c at body u n is h = tt

pub open-gives : {E : Type 0} (r : Result Unrolled E) (k : Known) (c : Control) (at : ℕ) (body : Stmt) (u : Unrolled) → U.is_past u.endless at ≡ false
    → A.is_counted (control_at at c) (actions body) (formals_in k.functions.now) (sight k) ≡ true → U.too_long_at c.first.now (sight k) ≡ None → IfOk r (EnteredIs k c at body u) → IfOk r (OpenIs k c at body u)
open-gives (Ok v) k c at body u before counted is h = open-entered k c at body u v before counted is h
open-gives (Err x) k c at body u before counted is h = tt

pub entered-long : (k : Known) (c : Control) (at long : ℕ) (body : Stmt) (u r : Unrolled) (g : Sight) → g ≡ U.given (control_at at c) c.first.now (sight k) → Some long ≡ U.lasting 65536 (control_at at c) g → r ≡ found (Some long) u
    → EnteredIs k c at body u r
entered-long k c at long body u r g same is finds =
    let h = U.given (control_at at c) c.first.now (sight k) in
    finds ∙ ap (λ o. U.unless_found o (λ j w. U.turns 65536 (control_at at c) (unrolls_of (formals_in k.functions.now) body) h w) (sight k) u) (is ∙ ap (U.lasting 65536 (control_at at c)) same)

pub entered-turns : {E : Type 0} (r : Result Unrolled E) (k : Known) (c : Control) (at : ℕ) (body : Stmt) (u : Unrolled) (g : Sight) → g ≡ U.given (control_at at c) c.first.now (sight k) → None ≡ U.lasting 65536 (control_at at c) g
    → IfOk r (λ v. v ≡ U.turns 65536 (control_at at c) (unrolls_of (formals_in k.functions.now) body) g u) → IfOk r (EnteredIs k c at body u)
entered-turns (Ok v) k c at body u g same is h =
    let F = unrolls_of (formals_in k.functions.now) body in
    let i = U.given (control_at at c) c.first.now (sight k) in
    h ∙ ap (λ j. U.turns 65536 (control_at at c) F j u) same ∙ ap (λ o. U.unless_found o (λ j w. U.turns 65536 (control_at at c) F i w) (sight k) u) (is ∙ ap (U.lasting 65536 (control_at at c)) same)
entered-turns (Err x) k c at body u g same is h = tt

-- what is known in the first turn
pub sees-first : (k : Known) (c : Control) (i : Inside) (ls : List (Option (List Bit4))) (vs : List Variable) (at : ℕ) → ls ≡ i.locals.items → vs ≡ i.variables.items → IsEntered k c i
    → sight_in k.functions.now ls vs ≡ U.given (control_at at c) c.first.now (sight k)
sees-first k c i ls vs at locals variables e = ap (λ xs. sight_in k.functions.now xs vs) locals ∙ ap (λ ws. sight_in k.functions.now i.locals.items ws) variables ∙ e.sees at

-- before all turns nothing is known
same-bit : (b : Bool) → cond b X X ≡ X
same-bit true = refl
same-bit false = refl

nothing-known : (d : Design) (fs : List Function) → d.functions ≡ fs → sight_in fs [] [] ≡ unseen (parts d)
nothing-known d fs is =
    ap (λ (now : Place → Bit4). the_sight now fs) (fun_ext (λ (q : Place). same-bit (is_signal q.signal))) ∙ ap (the_sight (λ q. X)) (sym is)
  where
    the_sight : (Place → Bit4) → List Function → Sight
    the_sight now xs = record { around = record { now = now; holds = λ n. true; callee = callees xs }; sure = λ q. false }

abbrev first : Unrolled
first = record { left = Some most_statements; endless = None }

pub top-unrolled : {E : Type 0} (r : Result Unrolled E) (fs : List Function) (s : Stmt) → IfOk r (λ v. v ≡ walk (formals_in fs) s (sight_in fs [] []) first) → IfOk r (λ v. (d : Design) → d.functions ≡ fs → v ≡ B.unrolled d s)
top-unrolled (Ok v) fs s is = λ d same. is ∙ ap (λ (f : Formals). walk f s (sight_in fs [] []) first) (formals-of d fs same) ∙ ap (λ h. walk (formals d) s h first) (nothing-known d fs same)
top-unrolled (Err x) fs s is = tt
