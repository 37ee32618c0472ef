-- Parts of statements: what is looked at, conditions, targets, actuals and the heads of loops.
use Rattle.std.proofs.Common.{◌≡◌, ℕ, Bool, true, false, ◌==◌, cond, List, [], ◌∷◌, map, Option, Some, None, refl, arith, ap, sym, ◌∙◌, subst}
use Rattle.std.specs.Prelude.{pos, Ok, Err}
use Rattle.std.proofs.lemmas.Bool.Decides.{nat_tests}
use Rattle.b4_core.specs.Vectors.{vec}
use Rattle.sv_tree.specs.declared.expressions.Expr as S
use Rattle.sv_tree.specs.declared.expressions.Select.{Select}
use Rattle.sv_tree.specs.declared.operators.AssignmentOperator.{AssignmentOperator}
use Rattle.sv_tree.specs.declared.operators.StepOperator.{StepOperator}
use Rattle.sv_tree.specs.declared.statements.Lvalue.{Lvalue}
use Rattle.sv_tree.specs.declared.statements.LoopStart.{LoopStart}
use Rattle.sv_tree.specs.declared.statements.LoopStep.{LoopStep}
use Rattle.sv_tree.specs.declared.statements.LoopStep.TheVariants as L
use Rattle.sv_types.specs.declared.expression.Expr.{Expr}
use Rattle.sv_types.specs.declared.expression.Form.TheVariants as F
use Rattle.sv_types.specs.declared.statement.Function.{Function}
use Rattle.sv_types.specs.declared.statement.Way.{Way}
use Rattle.sv_types.specs.declared.statement.Way.TheVariants as W
use Rattle.sv_types.specs.declared.types.SvType.{SvType}
use Rattle.sv_types.specs.Layouts.{width_of}
use Rattle.sv_types.proofs.OperatorLengths.{length-vec}
use Rattle.expr_type.specs.declared.operand.Valued.{Valued}
use Rattle.expr_type.specs.Breaks.{Breaks, At, Quiet}
use Rattle.expr_type.specs.Typings.{Checked, Typing, whole, broken, rule, checked, both, looked_at, tried, known_behind}
use Rattle.expr_type.specs.Names.{Context, LocalId, Thing, Local, position, thing, found, or_thing, local_in, value_in, type_in, signal_in, Interface, Other, local_id}
use Rattle.expr_type.specs.Operands.{Operand, first_of, unstreamed}
use Rattle.expr_type.specs.Operators.{by_itself, not_too_long}
use Rattle.expr_type.specs.Expressions.{Meaning, operand, select_meaning}
use Rattle.expr_type.specs.TargetNames.{named_target, thing_target, is_net_found}
use Rattle.expr_type.specs.Targets.{Target, ToPath, ToParts, ToStream, simple_name, target}
use Rattle.expr_type.specs.Types.{TypeFound, typed_text}
use Rattle.expr_type.specs.Statements.{assignment, one, step_operator, counted, condition, first_by, loop_first, LoopVariable, loop_type, loop_variable, in_loop, id_of, loop_target, step_value, loop_step, Actual, as_value, as_target, actual_by, actuals}
use Rattle.typing_fits.specs.Sound.{Extends, IsNarrowType, Sound, AllSound, SoundFor}
use Rattle.typing_fits.specs.Operands.{SoundFixed, SoundOperand}
use Rattle.typing_fits.proofs.Given.{sound-later, operand-later, for-later, extends-itself}
use Rattle.typing_fits.proofs.Names.{locals-behind}
use Rattle.typing_fits.proofs.Numbers.{literal-sound}
use Rattle.typing_fits.proofs.Selects.{local-sound, long-no, long-then}
use Rattle.typing_walks.specs.Keeps.{Kept, Keeps, AllKeep, Lasts, Anything, Surrounded, SoundMeaning}
use Rattle.typing_walks.specs.Written.{is_written}
use Rattle.typing_walks.specs.WrittenTypes.{type_written}
use Rattle.typing_walks.proofs.Keeping as K
use Rattle.typing_walks.proofs.Knowing as N
use Rattle.typing_walks.proofs.Knowing.{IfKnown}
use Rattle.typing_walks.proofs.Lasting.{fixed-lasts}
use Rattle.typing_walks.proofs.Operands as O
use Rattle.typing_walks.proofs.Paths as P
use Rattle.typing_walks.proofs.Walk.{expr-sound}
use Rattle.stmt_walks.proofs.Targets.{target-sound, all-selects}
use Rattle.stmt_walks.specs.Written.{lvalue_written}
use Rattle.routine_fits.specs.Sound.{SoundStmt}
use Rattle.routine_fits.specs.Targets.{SoundTarget, ValueSound, TargetSound, SoundActual}
use Rattle.routine_fits.proofs.Functions.{statement-later}
use Rattle.routine_fits.proofs.Targets.{assignment-sound}
use Rattle.routine_fits.proofs.Loops.{FirstSound, first-sound, step-sound}
use Rattle.stmt_laws.specs.Written.{selects_written, step_written}
use Rattle.stmt_laws.specs.Sound.{SoundType}
use Rattle.stmt_laws.proofs.Declared.{text-keeps}

-- what may be broken
abbrev pub Looked : {A : Type 0} → (A → List Function → Type 0) → Checked A → List Function → Type 0
Looked {A = A} P c gs = (a : A) → c ≡ Ok a → P a gs

pub looked-lasts : {A : Type 0} (P : A → List Function → Type 0) → Lasts P → Lasts (Looked P)
looked-lasts P later c gs hs e s = λ a h. later a gs hs e (s a h)

pub stmt-lasts : Lasts SoundStmt
stmt-lasts s gs hs e x = statement-later s gs hs e x

pub sounds-later : (vs : List Valued) (gs hs : List Function) → Extends gs hs → AllSound vs gs → AllSound vs hs
sounds-later [] gs hs e s = tt
sounds-later (v ∷ vs) gs hs e s = (sound-later v gs hs e s.0, sounds-later vs gs hs e s.1)

pub target-lasts : Lasts SoundTarget
target-lasts (ToPath v) gs hs e s = fixed-lasts v gs hs e s
target-lasts (ToParts v vs b) gs hs e s = record { whole = fixed-lasts v gs hs e s.whole; parts = sounds-later vs gs hs e s.parts; width = s.width }
target-lasts (ToStream v) gs hs e s = fixed-lasts v gs hs e s

-- actuals
value-later : (o : Option Operand) (gs hs : List Function) → Extends gs hs → ValueSound o gs → ValueSound o hs
value-later None gs hs e s = tt
value-later (Some o) gs hs e s = operand-later o gs hs e s

place-later : (o : Option Valued) (gs hs : List Function) → Extends gs hs → TargetSound o gs → TargetSound o hs
place-later None gs hs e s = tt
place-later (Some v) gs hs e s = fixed-lasts v gs hs e s

pub actual-lasts : Lasts SoundActual
actual-lasts a gs hs e s = record { value = value-later a.value gs hs e s.value; target = place-later a.target gs hs e s.target }

-- the 1 of `a++`
pub one-sound : (k : Context) (at : ℕ) (gs : List Function) → SoundOperand (one k at) gs
one-sound k at gs = literal-sound k.source at 32 true (vec 32 (pos 1)) false gs (length-vec 32 (pos 1)) (omega arith) (omega arith)

-- a narrow type
abbrev pub NarrowFound : TypeFound → List Function → Type 0
NarrowFound f gs = IsNarrowType f.of

narrow-found : Lasts NarrowFound
narrow-found f gs hs e s = s

abbrev found_ok : TypeFound → Checked TypeFound
found_ok f = Ok f

short-found : (k : Context) (at : ℕ) (f g : TypeFound) (gs : List Function) → not_too_long k.source at (width_of f.of) (found_ok f) ≡ Ok g → SoundType f gs → IsNarrowType g.of
short-found k at f g gs h s =
    let same : found_ok f ≡ Ok g = long-then k.source at (width_of f.of) (found_ok f) g h in
    let is : f ≡ g = cc in
    subst (λ (x : TypeFound). IsNarrowType x.of) is (record { full = s.full; narrow = long-no k.source at (width_of f.of) (found_ok f) g h })

-- the variable of a loop
pub record SoundVariable (v : LoopVariable) (gs : List Function) : Type 0 where
  pub of : IsNarrowType v.id.of
  pub first : FirstSound v.first v.id.of gs

abbrev FirstOf : TypeFound → Expr → List Function → Type 0
FirstOf f e gs = FirstSound e f.of gs

pub variable-lasts : Lasts SoundVariable
variable-lasts v gs hs e s = record { of = s.of; first = record { is = s.first.is; sound = for-later v.first v.id.of gs hs e s.first.sound } }

-- what a step gives
abbrev pub GivenTo : SvType → Expr → List Function → Type 0
GivenTo t e gs = SoundFor e t gs

-- the target of a step, which is the loop's variable
pub record PathOf (t : SvType) (x : Target) (gs : List Function) : Type 0 where
  pub path : Valued
  pub is : x ≡ ToPath path
  pub of : path.expr.of ≡ t
  pub sound : SoundFixed path gs

path-lasts : (t : SvType) → Lasts (PathOf t)
path-lasts t x gs hs e s = record { path = s.path; is = s.is; of = s.of; sound = fixed-lasts s.path gs hs e s.sound }

path-stepped : (u : SvType) (k : Context) (at : ℕ) (op : AssignmentOperator) (t : Target) (o : Operand) (e : Expr) (gs : List Function) → step_value k at op t o ≡ Ok e → PathOf u t gs → SoundOperand o gs → GivenTo u e gs
path-stepped u k at op t o e gs h p s =
    let v = p.path in
    let at-path = subst (λ x. step_value k at op x o ≡ Ok e) p.is h in
    subst (λ w. SoundFor e w gs) p.of (step-sound k at op v o e gs at-path p.sound s)

abbrev looked_ok : {A : Type 0} → Checked A → Checked (Checked A)
looked_ok c = Ok c

looked-as : {A : Type 0} (P : A → List Function → Type 0) (c r : Checked A) (gs : List Function) → looked_ok c ≡ Ok r → Looked P c gs → Looked P r gs
looked-as P c r gs e s = let is : c ≡ r = cc in subst (λ y. Looked P y gs) is s

none-looked : {A : Type 0} (P : A → List Function → Type 0) (b : Breaks) (gs : List Function) → Looked P (Err b) gs
none-looked P b gs = λ a g. absurd (cc)

module _ (Q : List Function → Type 0) where
  -- what is looked at
  pub looked-keeps : {A : Type 0} (P : A → List Function → Type 0) (x : Typing A) → Keeps Q P x → Keeps Q (Looked P) (looked_at x)
  looked-keeps P x h gs q =
      let c = h gs q in
      record { extends = c.extends; kept = c.kept; sound = λ r e. looked-as P (x gs).result r (x gs).functions e c.sound }

  tried-kept : {A : Type 0} (P : A → List Function → Type 0) (c : Checked A) (gs hs : List Function) → Q gs → Extends gs hs → Q hs → Looked P c hs → Kept (Checked A) Q (Looked P) gs (record { result = Ok c; functions = known_behind c gs hs })
  tried-kept P (Ok a) gs hs q e r s = record { extends = e; kept = r; sound = λ y h. looked-as P (Ok a) y hs h s }
  tried-kept P (Err b) gs hs q e r s = record { extends = extends-itself gs; kept = q; sound = λ y h. looked-as P (Err b) y gs h (none-looked P b gs) }

  pub tried-keeps : {A : Type 0} (P : A → List Function → Type 0) (x : Typing A) → Keeps Q P x → Keeps Q (Looked P) (tried x)
  tried-keeps P x h gs q = let c = h gs q in tried-kept P (x gs).result gs (x gs).functions q c.extends c.kept c.sound

  -- expressions and conditions
  pub value-keeps : (k : Context) (e : S.Expr) → Surrounded Q k → is_written e ≡ true → Keeps Q SoundOperand (operand k e)
  value-keeps k e r w = (expr-sound Q e w).typed k r

  pub condition-keeps : (k : Context) (e : S.Expr) → Surrounded Q k → is_written e ≡ true → Keeps Q Sound (condition k e)
  condition-keeps k e r w = O.bits-keeps Q k.source (operand k e) (value-keeps k e r w)

  -- assignments
  pub assign-keeps : (k : Context) (to : Lvalue) (inside : Bool) (op : AssignmentOperator) (at : ℕ) (e : S.Expr) → Surrounded Q k → lvalue_written to ≡ true → is_written e ≡ true
      → Keeps Q SoundStmt (both (target to k inside) (operand k e) (λ t o. rule (assignment k at op t o)))
  assign-keeps k to inside op at e r v w =
      K.both-keeps Q SoundTarget SoundOperand SoundStmt (target to k inside) (operand k e) (λ t o. rule (assignment k at op t o)) target-lasts (target-sound Q to v k inside r) (value-keeps k e r w)
      (λ t o js q x y. K.rule-kept Q SoundStmt (assignment k at op t o) js q (λ s h. assignment-sound k at op t o s js h x y))

  pub counted-keeps : (k : Context) (name : ℕ) (op : StepOperator) (at : ℕ) (ss : List Select) → Surrounded Q k → selects_written ss ≡ true → Keeps Q SoundStmt (counted k name op at ss)
  counted-keeps k name op at ss r w =
      K.checked-keeps Q SoundFixed SoundStmt (named_target k true (simple_name name) (map select_meaning ss)) (λ v. rule (assignment k at (step_operator op) (ToPath v) (one k at)))
      (P.target-keeps Q k true (simple_name name) (map select_meaning ss) r (all-selects Q ss w))
      (λ v js q x. K.rule-kept Q SoundStmt (assignment k at (step_operator op) (ToPath v) (one k at)) js q (λ s h. assignment-sound k at (step_operator op) (ToPath v) (one k at) s js h x (one-sound k at js)))

  -- actuals
  value-actual : (k : Context) (e : Meaning) → Surrounded Q k → SoundMeaning Q e → Keeps Q SoundActual (as_value k e)
  value-actual k e r s =
      K.checked-keeps Q SoundOperand SoundActual (unstreamed k.source (e.typed k)) (λ o. whole (record { value = Some o; target = None })) (O.unstreamed-keeps Q k.source (e.typed k) (s.typed k r))
      (λ o js q x. K.whole-kept Q SoundActual (record { value = Some o; target = None }) js q (record { value = x; target = tt }))

  target-by : (k : Context) (e : Meaning) (o : Option (Typing Valued)) → Surrounded Q k → SoundMeaning Q e → ((x : Typing Valued) → o ≡ Some x → Keeps Q SoundFixed x)
      → Keeps Q SoundActual (elim o as (λ x. Typing Actual) [ None ↦ checked (e.typed k) (λ v. broken (At (position k.source (first_of v)) 501)) | Some x ↦ checked x (λ v. whole (record { value = None; target = Some v })) ])
  target-by k e None r s h =
      K.checked-keeps Q SoundOperand SoundActual (e.typed k) (λ v. broken (At (position k.source (first_of v)) 501)) (s.typed k r) (λ v js q x. K.broken-keeps Q SoundActual (At (position k.source (first_of v)) 501) js q)
  target-by k e (Some x) r s h =
      K.checked-keeps Q SoundFixed SoundActual x (λ v. whole (record { value = None; target = Some v })) (h x refl) (λ v js q y. K.whole-kept Q SoundActual (record { value = None; target = Some v }) js q (record { value = tt; target = y }))

  target-actual : (k : Context) (e : Meaning) → Surrounded Q k → SoundMeaning Q e → Keeps Q SoundActual (as_target k e)
  target-actual k e r s = target-by k e (e.as_target k) r s (s.as_target k r)

  pub one-actual : (k : Context) (w : Option Way) (e : Meaning) → Surrounded Q k → SoundMeaning Q e → Keeps Q SoundActual (actual_by k w e)
  one-actual k None e r s = value-actual k e r s
  one-actual k (Some W.Input) e r s = value-actual k e r s
  one-actual k (Some W.Output) e r s = target-actual k e r s
  one-actual k (Some W.Inout) e r s = target-actual k e r s

  abbrev pub AllMean : List Meaning → Type 0
  AllMean [] = Unit {0}
  AllMean (e ∷ es) = SoundMeaning Q e × AllMean es

  pub each-actual : (k : Context) (ws : List Way) (es : List Meaning) → Surrounded Q k → AllMean es → AllKeep Q SoundActual (actuals k ws es)
  each-actual k ws [] r s = tt
  each-actual k [] (e ∷ es) r s = (one-actual k None e r s.0, each-actual k [] es r s.1)
  each-actual k (w ∷ ws) (e ∷ es) r s = (one-actual k (Some w) e r s.0, each-actual k ws es r s.1)

  -- the head of a loop
  type-keeps : (k : Context) (l : LoopStart) → Surrounded Q k → type_written l.of ≡ true → Keeps Q NarrowFound (loop_type k l)
  type-keeps k l r w =
      K.checked-keeps Q SoundType NarrowFound (typed_text l.of k) (λ f. rule (not_too_long k.source l.name (width_of f.of) (found_ok f))) (text-keeps Q k l.of r w)
      (λ f js q s. K.rule-kept Q NarrowFound (not_too_long k.source l.name (width_of f.of) (found_ok f)) js q (λ g h. short-found k l.name f g js h s))

  first-keeps : (k : Context) (l : LoopStart) (o : Option TypeFound) (gs : List Function) → Surrounded Q k → is_written l.value ≡ true → Q gs → IfKnown NarrowFound o gs → Kept Expr Q (N.KnownWith Q FirstOf o) gs (first_by k l o gs)
  first-keeps k l None gs r w q s =
      K.checked-keeps Q SoundOperand (N.KnownWith Q FirstOf None) (operand k l.value) (λ o. broken Quiet) (value-keeps k l.value r w) (λ o js p x. K.broken-keeps Q (N.KnownWith Q FirstOf None) Quiet js p) gs q
  first-keeps k l (Some f) gs r w q s =
      K.checked-keeps Q SoundOperand (FirstOf f) (operand k l.value) (λ o. rule (loop_first k f.of o)) (value-keeps k l.value r w)
      (λ o js p x. K.rule-kept Q (FirstOf f) (loop_first k f.of o) js p (λ e h. first-sound k f.of o e js h s x)) gs q

  pub variable-keeps : (k : Context) (l : LoopStart) → Surrounded Q k → type_written l.of ≡ true → is_written l.value ≡ true → Keeps Q SoundVariable (loop_variable k l)
  variable-keeps k l r v w =
      N.with-keeps Q NarrowFound FirstOf SoundVariable (loop_type k l) (first_by k l) (λ f e. whole (record { id = local_id k l.name f.of; first = e })) narrow-found (type-keeps k l r v) (λ o gs q s. first-keeps k l o gs r w q s)
      (λ f e js q s x. K.whole-kept Q SoundVariable (record { id = local_id k l.name f.of; first = e }) js q (record { of = s; first = x }))

  pub loop-behind : (k : Context) (v : LoopVariable) (gs : List Function) → Surrounded Q k → SoundVariable v gs → Surrounded Q (in_loop k (Some v))
  loop-behind k v gs r s = record { context = locals-behind (v.id ∷ []) k (s.of, tt) r.context; routines = r.routines }

  -- the step of a loop
  variable-path : (k : Context) (v : LocalId) (name : ℕ) → IsNarrowType v.of → Keeps Q (PathOf v.of) (loop_target k (Some v) name)
  variable-path k v name s =
      let x = by_itself k.source name v.of (F.Local v.number) in
      K.whole-keeps Q (PathOf v.of) (ToPath x) (λ gs. record { path = x; is = refl; of = refl; sound = record { none = refl; sound = local-sound k.source name v.of v.number gs s } })

  pub step-keeps : (k : Context) (step : LoopStep) (v : LocalId) → Surrounded Q k → step_written step ≡ true → IsNarrowType v.of → Keeps Q (GivenTo v.of) (loop_step k (Some v) step)
  step-keeps k (L.Assign name op at e) v r w s =
      K.both-keeps Q (PathOf v.of) SoundOperand (GivenTo v.of) (loop_target k (Some v) name) (operand k e) (λ t o. rule (step_value k at op t o)) (path-lasts v.of) (variable-path k v name s) (value-keeps k e r w)
      (λ t o js q p x. K.rule-kept Q (GivenTo v.of) (step_value k at op t o) js q (λ y g. path-stepped v.of k at op t o y js g p x))
  step-keeps k (L.Postfix name op at) v r w s =
      K.checked-keeps Q (PathOf v.of) (GivenTo v.of) (loop_target k (Some v) name) (λ t. rule (step_value k at (step_operator op) t (one k at))) (variable-path k v name s)
      (λ t js q p. K.rule-kept Q (GivenTo v.of) (step_value k at (step_operator op) t (one k at)) js q (λ y g. path-stepped v.of k at (step_operator op) t (one k at) y js g p (one-sound k at js)))
  step-keeps k (L.Prefix op at name) v r w s =
      K.checked-keeps Q (PathOf v.of) (GivenTo v.of) (loop_target k (Some v) name) (λ t. rule (step_value k at (step_operator op) t (one k at))) (variable-path k v name s)
      (λ t js q p. K.rule-kept Q (GivenTo v.of) (step_value k at (step_operator op) t (one k at)) js q (λ y g. path-stepped v.of k at (step_operator op) t (one k at) y js g p (one-sound k at js)))

  abbrev AnyTarget : Target → List Function → Type 0
  AnyTarget t gs = Unit {0}

  -- where the variable isn't known
  pub unknown-keeps : (k : Context) (step : LoopStep) → Surrounded Q k → step_written step ≡ true → Keeps Q Anything (loop_step k None step)
  unknown-keeps k (L.Assign name op at e) r w =
      K.both-keeps Q AnyTarget SoundOperand Anything (loop_target k None name) (operand k e) (λ t o. rule (step_value k at op t o)) (λ t gs hs x s. tt) (K.broken-keeps Q AnyTarget Quiet) (value-keeps k e r w)
      (λ t o js q p x. K.rule-kept Q Anything (step_value k at op t o) js q (λ y g. tt))
  unknown-keeps k (L.Postfix name op at) r w =
      K.checked-keeps Q AnyTarget Anything (loop_target k None name) (λ t. rule (step_value k at (step_operator op) t (one k at))) (K.broken-keeps Q AnyTarget Quiet)
      (λ t js q p. K.rule-kept Q Anything (step_value k at (step_operator op) t (one k at)) js q (λ y g. tt))
  unknown-keeps k (L.Prefix op at name) r w =
      K.checked-keeps Q AnyTarget Anything (loop_target k None name) (λ t. rule (step_value k at (step_operator op) t (one k at))) (K.broken-keeps Q AnyTarget Quiet)
      (λ t js q p. K.rule-kept Q Anything (step_value k at (step_operator op) t (one k at)) js q (λ y g. tt))

  -- whether or not it is known
  pub step-anyway : (k : Context) (o : Option LoopVariable) (step : LoopStep) (gs : List Function) → Surrounded Q k → step_written step ≡ true → IfKnown SoundVariable o gs → Keeps Q Anything (loop_step k (id_of o) step)
  step-anyway k None step gs r w x = unknown-keeps k step r w
  step-anyway k (Some v) step gs r w x = λ hs q. let h = step-keeps k step v.id r w x.of hs q in record { extends = h.extends; kept = h.kept; sound = λ a e. tt }
