-- Statements whose targets find no signal write none, form by form.
use Rattle.std.proofs.Common.{◌≡◌, ℕ, Bool, true, false, ◌&&◌, ◌||◌, ◌==◌, cond, not, List, [], ◌∷◌, ◌++◌, length, map, Option, Some, None, refl, sym, subst}
use Rattle.std.specs.Prelude.{Ok}
use Rattle.std.specs.Option.{option_map}
use Rattle.sv_tree.specs.declared.expressions.Expr as S
use Rattle.sv_tree.specs.declared.expressions.Select.{Select}
use Rattle.sv_tree.specs.declared.names.QualifiedName.{QualifiedName}
use Rattle.sv_tree.specs.declared.operators.AssignmentOperator.{AssignmentOperator}
use Rattle.sv_tree.specs.declared.operators.StepOperator.{StepOperator}
use Rattle.sv_tree.specs.declared.statements.CaseKeyword.{CaseKeyword}
use Rattle.sv_tree.specs.declared.statements.LoopStart.{LoopStart}
use Rattle.sv_tree.specs.declared.statements.LoopStep.{LoopStep}
use Rattle.sv_tree.specs.declared.statements.Lvalue.{Lvalue}
use Rattle.sv_types.specs.declared.expression.Expr.{Expr}
use Rattle.sv_types.specs.declared.statement.CaseKind.{CaseKind}
use Rattle.sv_types.specs.declared.statement.Formal.{Formal}
use Rattle.sv_types.specs.declared.statement.Function.{Function}
use Rattle.sv_types.specs.declared.statement.Local.{Local}
use Rattle.sv_types.specs.declared.statement.Stmt as R
use Rattle.sv_types.specs.declared.statement.Stmt.TheVariants as V
use Rattle.sv_types.specs.declared.statement.Way.{Way}
use Rattle.sv_types.specs.declared.statement.Way.TheVariants as W
use Rattle.sv_types.specs.declared.types.SvType.{SvType}
use Rattle.sv_types.specs.Expressions as T
use Rattle.sv_types.specs.Statements.{roots_by_way}
use Rattle.eval_stmts.specs.Environments.{AllHeld}
use Rattle.expr_type.specs.declared.operand.Valued.{Valued}
use Rattle.expr_type.specs.Breaks.{At}
use Rattle.expr_type.specs.Typings.{Checked, Typing, whole, broken, rule, checked, both, both_by, all, all_of, looked_at, tried, where_whole, joined, refused}
use Rattle.expr_type.specs.Shapes.{is_assignable, is_plain_to_enum}
use Rattle.expr_type.specs.Names.{Called, Context, position, spot}
use Rattle.expr_type.specs.Operands.{Operand, given, first_of}
use Rattle.expr_type.specs.Operators.{exprs}
use Rattle.expr_type.specs.Forms.{finds_count, needed, with_other_count}
use Rattle.expr_type.specs.Expressions as E
use Rattle.expr_type.specs.Expressions.{operand, select_meaning}
use Rattle.expr_type.specs.TargetNames.{named_target}
use Rattle.expr_type.specs.Targets as X
use Rattle.expr_type.specs.Targets.{Target, ToPath, target, parts_of, simple_name}
use Rattle.expr_type.specs.Statements.{operator_of, is_later, combined, assign, assignment, one, step_operator, counted, Declared, BlockPart, IsStatement, IsDeclared, PartMeaning, behind_part, block_parts, in_block, built, block, empty, result, return_value, returned, condition, Branches, branches, else_if, case_kind, CaseFound, CaseItem, CaseMeaning, whole_item, case_items, default_body, widest, selector_at, item_at, case_stmt, LoopVariable, loop_variable, in_loop, id_of, loop_step, control, Turns, turns, loop_stmt, Actual, as_value, actual_by, ways, actuals, is_other_enum, takes_result, is_inout, value_passed, actual_expr, all_actuals, call_stmt_of, counted_call, call_stmt, StmtMeaning}
use Rattle.typing_fits.specs.Sound.{Sound}
use Rattle.typing_fits.specs.Operands.{SoundFixed, SoundOperand, KnownCall}
use Rattle.typing_fits.proofs.Calls.{all-front, none-all}
use Rattle.typing_fits.proofs.Contexts.{refused-then, whole-part, joined-both}
use Rattle.typing_fits.proofs.Full.{and-left, and-right}
use Rattle.typing_walks.specs.Keeps.{Kept, Keeps, AllKeep, AllHold, Lasts, Anything, Surrounded}
use Rattle.typing_walks.specs.Written.{is_written, if_there}
use Rattle.typing_walks.specs.WrittenTypes.{type_written}
use Rattle.typing_walks.proofs.Keeping as K
use Rattle.typing_walks.proofs.Knowing as N
use Rattle.typing_walks.proofs.Knowing.{IfKnown}
use Rattle.typing_walks.proofs.Lasting.{valued-lasts, any-lasts, call-lasts}
use Rattle.typing_walks.proofs.Casts as C
use Rattle.typing_walks.proofs.Paths as P
use Rattle.stmt_walks.specs.Written.{lvalue_written}
use Rattle.stmt_walks.proofs.Targets.{target-sound, all-selects}
use Rattle.routine_fits.specs.Targets.{SoundTarget, SoundActual}
use Rattle.stmt_laws.specs.Written.{start_written, step_written, selects_written, exprs_written}
use Rattle.stmt_laws.specs.Sound.{SoundDeclared, AroundStatements}
use Rattle.stmt_laws.proofs.Declared.{declared-lasts, behind-sound}
use Rattle.stmt_laws.proofs.Parts as Z
use Rattle.stmt_laws.proofs.Parts.{Looked, looked-lasts, looked-keeps, tried-keeps, AllMean, SoundVariable, variable-lasts}
use Rattle.routine_laws.specs.Names.{Signals, signals_of, finds_no_signal, lvalue_local}
use Rattle.routine_laws.specs.Sound.{WritesLocals}
use Rattle.routine_laws.proofs.Giving as G
use Rattle.routine_laws.proofs.Giving.{Gives, one-whole}
use Rattle.routine_laws.proofs.Places.{none_held, held-append, LocalExpr, LocalValued, LocalTarget, path-target, target-local, named-local, local-itself}
use Rattle.routine_laws.proofs.Actuals.{LocalActual, AllLocalActuals}
use Rattle.routine_laws.proofs.Held as H
use Rattle.routine_laws.proofs.Held.{writes-last, PerhapsWrites, BodyWrites, AllPassedLocal}

-- a text of which these are the signals
pub record Within (Q : List Function → Type 0) (s : Signals) (k : Context) : Type 0 where
  pub text : AroundStatements Q k
  pub names : signals_of k ≡ s

-- assignments
abbrev a_stmt : R.Stmt → Checked R.Stmt
a_stmt s = Ok s

as-writing : (a s : R.Stmt) (gs : List Function) → a_stmt a ≡ Ok s → WritesLocals a gs → WritesLocals s gs
as-writing a s gs h x = one-whole (λ z. WritesLocals z gs) a s h x

assignment-writes : (k : Context) (at : ℕ) (op : AssignmentOperator) (t : Target) (o : Operand) (s : R.Stmt) (gs : List Function) → assignment k at op t o ≡ Ok s → LocalTarget t → WritesLocals s gs
assignment-writes k at op t o s gs h x =
    let a = whole-part (combined k at (operator_of op) t o) (λ v. where_whole (X.assigned k t v) (λ e. a_stmt (assign k at (is_later op) t e))) s h in
    let b = whole-part (X.assigned k t a.part) (λ e. a_stmt (assign k at (is_later op) t e)) s a.made in
    as-writing (assign k at (is_later op) t b.part) s gs b.made (H.assign-writes (parts_of t) b.part (is_later op) (spot k.source at) gs x.parts)

return-writes : (k : Context) (at : ℕ) (o : Option SvType) (v : Operand) (s : R.Stmt) (gs : List Function) → return_value k at o v ≡ Ok s → WritesLocals s gs
return-writes k at None v s gs h = G.none-given (λ z. WritesLocals z gs) _ s h
return-writes k at (Some t) v s gs h =
    let made : Expr → R.Stmt = λ e. V.Block [] (V.Assign (result k at t ∷ []) e false (spot k.source at) ∷ V.Return ∷ []) in
    let w = whole-part (given k.source t v) (λ e. a_stmt (made e)) s h in
    let own = local-itself k.source at t 0 in
    as-writing (made w.part) s gs w.made
    (H.block-writes [] (V.Assign (result k at t ∷ []) w.part false (spot k.source at) ∷ V.Return ∷ []) gs
    (H.assign-writes (result k at t ∷ []) w.part false (spot k.source at) gs (held-append (T.meaning (result k at t)).roots [] own.roots tt), (H.return-writes gs, tt)))

-- items of blocks
abbrev pub WritingPart : BlockPart → List Function → Type 0
WritingPart (IsStatement s) gs = WritesLocals s gs
WritingPart (IsDeclared d) gs = SoundDeclared d gs

part-lasts : Lasts WritingPart
part-lasts (IsStatement s) gs hs e x = writes-last s gs hs e x
part-lasts (IsDeclared d) gs hs e x = declared-lasts d gs hs e x

in-block : (ls : List Local) (ss : List R.Stmt) (gs : List Function) → AllHold WritesLocals ss gs → AllHold WritesLocals (in_block ls ss) gs
in-block [] ss gs h = h
in-block (l ∷ ls) ss gs h = (H.block-writes (l ∷ ls) ss gs h, tt)

built-writes : (ps : List BlockPart) (gs : List Function) → AllHold WritingPart ps gs → AllHold WritesLocals (built ps).body gs
built-writes [] gs h = tt
built-writes (IsStatement s ∷ ps) gs h = (h.0, in-block (built ps).locals (built ps).body gs (built-writes ps gs h.1))
built-writes (IsDeclared d ∷ ps) gs h = built-writes ps gs h.1

-- branches
pub record WritingBranches (b : Branches) (gs : List Function) : Type 0 where
  pub body : WritesLocals b.body gs
  pub other : PerhapsWrites b.other gs

-- items of a `case`
abbrev FoundWrites : CaseFound → List Function → Type 0
FoundWrites c gs = Looked WritesLocals c.body gs

found-lasts : Lasts FoundWrites
found-lasts c gs hs e h = λ s is. writes-last s gs hs e (h s is)

abbrev ItemWrites : CaseItem → List Function → Type 0
ItemWrites c gs = WritesLocals c.body gs

abbrev an_item : CaseItem → Checked CaseItem
an_item c = Ok c

item-writes : (c : CaseFound) (i : CaseItem) (gs : List Function) → whole_item c ≡ Ok i → FoundWrites c gs → ItemWrites i gs
item-writes c i gs h p =
    let w = whole-part (joined c.values c.body) (λ q. an_item (record { is_default = c.is_default; values = q.0; body = q.1 })) i h in
    let b = joined-both c.values c.body w.part w.is in
    one-whole (λ (x : CaseItem). ItemWrites x gs) (record { is_default = c.is_default; values = w.part.0; body = w.part.1 }) i w.made (p w.part.1 b.right)

items-write : (cs : List CaseFound) (is : List CaseItem) (gs : List Function) → all_of (map whole_item cs) ≡ Ok is → AllHold FoundWrites cs gs → AllHold ItemWrites is gs
items-write [] is gs h p = subst (λ xs. AllHold ItemWrites xs gs) (sym (none-all is h)) tt
items-write (c ∷ cs) is gs h p =
    let r = all-front (whole_item c) (map whole_item cs) is h in
    subst (λ xs. AllHold ItemWrites xs gs) (sym r.is) (item-writes c r.first gs r.here p.0, items-write cs r.rest gs r.behind p.1)

at-width : (k : Context) (w : ℕ) (cs : List CaseFound) (gs : List Function) → AllHold FoundWrites cs gs → AllHold FoundWrites (map (item_at k w) cs) gs
at-width k w [] gs p = tt
at-width k w (c ∷ cs) gs p = (p.0, at-width k w cs gs p.1)

bodies-write : (cs : List CaseItem) (gs : List Function) → AllHold ItemWrites cs gs → AllHold BodyWrites (case_items cs) gs
bodies-write [] gs h = tt
bodies-write (c ∷ cs) gs h = by c.is_default h.0 (bodies-write cs gs h.1)
  where
    by : (b : Bool) → WritesLocals c.body gs → AllHold BodyWrites (case_items cs) gs → AllHold BodyWrites (cond b [] (record { values = exprs c.values; body = c.body } ∷ []) ++ case_items cs) gs
    by true x r = r
    by false x r = (x, r)

default-writes : (cs : List CaseItem) (gs : List Function) → AllHold ItemWrites cs gs → PerhapsWrites (default_body cs) gs
default-writes [] gs h = tt
default-writes (c ∷ cs) gs h = by c.is_default h.0 (default-writes cs gs h.1)
  where
    by : (b : Bool) → WritesLocals c.body gs → PerhapsWrites (default_body cs) gs → PerhapsWrites (cond b (Some c.body) (default_body cs)) gs
    by true x r = x
    by false x r = r

case-writes : (k : Context) (kind : CaseKind) (on : Checked Valued) (cs : List CaseFound) (s : R.Stmt) (gs : List Function) → case_stmt k kind on cs ≡ Ok s → AllHold FoundWrites cs gs → WritesLocals s gs
case-writes k kind on cs s gs h p =
    let w = widest (joined on (all_of (map (λ (c : CaseFound). c.values) cs))) in
    let found = joined (selector_at k w on) (all_of (map whole_item (map (item_at k w) cs))) in
    let a = whole-part found (λ q. a_stmt (V.Case kind q.0.expr (case_items q.1) (default_body q.1))) s h in
    let c = joined-both (selector_at k w on) (all_of (map whole_item (map (item_at k w) cs))) a.part a.is in
    let items = a.part.1 in
    let r = items-write (map (item_at k w) cs) items gs c.right (at-width k w cs gs p) in
    as-writing (V.Case kind a.part.0.expr (case_items items) (default_body items)) s gs a.made (H.case-writes kind a.part.0.expr (case_items items) (default_body items) gs (bodies-write items gs r) (default-writes items gs r))

-- actuals
pub record AssignedLocal (a : Actual) : Type 0 where
  pub place : Valued
  pub is : a.target ≡ Some place
  pub local : LocalValued place

abbrev pub LocalFor : Way → Actual → Type 0
LocalFor W.Input a = Unit {0}
LocalFor W.Output a = AssignedLocal a
LocalFor W.Inout a = AssignedLocal a

abbrev pub AllLocalFor : List Way → List Actual → Type 0
AllLocalFor [] as' = Unit {0}
AllLocalFor (w ∷ ws) [] = Unit {0}
AllLocalFor (w ∷ ws) (a ∷ as') = LocalFor w a × AllLocalFor ws as'

target-by : (k : Context) (e : E.Meaning) (o : Option (Typing Valued)) → ((x : Typing Valued) → o ≡ Some x → Gives LocalValued x)
    → Gives AssignedLocal (elim o as (λ x. Typing Actual) [ None ↦ checked (e.typed k) (λ v. broken (At (position k.source (first_of v)) 501)) | Some x ↦ checked x (λ v. whole (record { value = None; target = Some v })) ])
target-by k e None h =
    G.checked-gives G.Anything AssignedLocal (e.typed k) (λ v. broken (At (position k.source (first_of v)) 501)) (G.anything (e.typed k)) (λ v q. G.broken-gives AssignedLocal (At (position k.source (first_of v)) 501))
target-by k e (Some x) h =
    G.checked-gives LocalValued AssignedLocal x (λ v. whole (record { value = None; target = Some v })) (h x refl)
    (λ v q. G.whole-gives AssignedLocal (record { value = None; target = Some v }) (record { place = v; is = refl; local = q }))

one-local : (k : Context) (s : Signals) (w : Way) (e : E.Meaning) → signals_of k ≡ s → LocalActual s e → Gives (LocalFor w) (actual_by k (Some w) e)
one-local k s W.Input e r h = G.anything (as_value k e)
one-local k s W.Output e r h = target-by k e (e.as_target k) (λ x is. h.target k x r is)
one-local k s W.Inout e r h = target-by k e (e.as_target k) (λ x is. h.target k x r is)

all-local : (k : Context) (s : Signals) (ws : List Way) (es : List E.Meaning) → signals_of k ≡ s → AllLocalActuals s es → Gives (AllLocalFor ws) (all (actuals k ws es))
all-local k s [] es r h = G.anything (all (actuals k [] es))
all-local k s (w ∷ ws) [] r h = G.whole-gives (AllLocalFor (w ∷ ws)) [] tt
all-local k s (w ∷ ws) (e ∷ es) r h =
    G.both-gives (LocalFor w) (AllLocalFor ws) (AllLocalFor (w ∷ ws)) (actual_by k (Some w) e) (all (actuals k ws es)) (λ a as'. whole (a ∷ as')) (one-local k s w e r h.0) (all-local k s ws es r h.1)
    (λ a as' x y. G.whole-gives (AllLocalFor (w ∷ ws)) (a ∷ as') (x, y))

-- what is passed
abbrev expr_ok : Expr → Checked Expr
expr_ok e = Ok e

result-local : (k : Context) (back : Bool) (t : SvType) (v : Valued) (e : Expr) → takes_result k back t v ≡ Ok e → LocalValued v → LocalExpr e
result-local k back t v e h s =
    let second = is_other_enum t v.expr || (back && is_plain_to_enum t v.expr.of) in
    let rest = refused-then (not (is_assignable v.expr.of t) || (back && not (is_assignable t v.expr.of))) (position k.source v.first) 501 (refused second (position k.source v.first) 503 (Ok v.expr)) e h in
    one-whole LocalExpr v.expr e (refused-then second (position k.source v.first) 503 (expr_ok v.expr) e rest) s

assigned-by : (k : Context) (f : Formal) (value : Option Operand) (target : Option Valued) (v : Valued) (e : Expr)
    → elim target as (λ x. Checked Expr) [ None ↦ value_passed k f.local.of value | Some u ↦ takes_result k (is_inout f.way) f.local.of u ] ≡ Ok e → target ≡ Some v → LocalValued v → LocalExpr e
assigned-by k f value None v e h is s = absurd (cc)
assigned-by k f value (Some u) v e h is s = let same : u ≡ v = cc in result-local k (is_inout f.way) f.local.of u e h (subst LocalValued (sym same) s)

roots-by : (k : Context) (f : Formal) (w : Way) (a : Actual) (e : Expr) → w ≡ f.way → actual_expr k f a ≡ Ok e → LocalFor w a → AllHeld (roots_by_way w (T.meaning e)) none_held
roots-by k f W.Input a e is h s = tt
roots-by k f W.Output a e is h s = (assigned-by k f a.value a.target s.place e h s.is s.local).roots
roots-by k f W.Inout a e is h s = (assigned-by k f a.value a.target s.place e h s.is s.local).roots

abbrev way_of : Formal → Way
way_of f = f.way

all-passed : (k : Context) (fs : List Formal) (as' : List Actual) (es : List Expr) → all_of (all_actuals k fs as') ≡ Ok es → AllLocalFor (map way_of fs) as' → AllPassedLocal fs es
all-passed k [] as' es h s = tt
all-passed k (f ∷ fs) [] es h s = subst (λ xs. AllPassedLocal (f ∷ fs) xs) (sym (none-all es h)) tt
all-passed k (f ∷ fs) (a ∷ as') es h s =
    let r = all-front (actual_expr k f a) (all_actuals k fs as') es h in
    subst (λ xs. AllPassedLocal (f ∷ fs) xs) (sym r.is) (roots-by k f f.way a r.first refl r.here s.0, all-passed k fs as' r.rest r.behind s.1)

call-writes : (k : Context) (at : ℕ) (c : Called) (as' : List Actual) (s : R.Stmt) (gs : List Function) → call_stmt_of k at c as' ≡ Ok s → KnownCall c gs → AllLocalFor (map way_of c.of.formals) as' → WritesLocals s gs
call-writes k at c as' s gs h known x =
    let made : List Expr → R.Stmt = λ es. V.Call c.place es (spot k.source at) in
    let inner = where_whole (all_of (all_actuals k c.of.formals as')) (λ es. a_stmt (made es)) in
    let w = whole-part (all_of (all_actuals k c.of.formals as')) (λ es. a_stmt (made es)) s (refused-then (not (length c.of.formals == length as')) (position k.source at) 405 inner s h) in
    as-writing (made w.part) s gs w.made (H.call-writes c w.part (spot k.source at) gs known.known (all-passed k c.of.formals as' w.part w.is x))

abbrev LocalForCalled : Called → List Actual → List Function → Type 0
LocalForCalled c as' gs = AllLocalFor (map way_of c.of.formals) as'

module _ (Q : List Function → Type 0) where
  -- what is known of a typing by itself
  pub replaced : {A : Type 0} (P R : A → List Function → Type 0) (gs : List Function) (x : Typing A) → Kept A Q P gs (x gs) → ((a : A) → (x gs).result ≡ Ok a → R a (x gs).functions) → Kept A Q R gs (x gs)
  replaced P R gs x k h = record { extends = k.extends; kept = k.kept; sound = h }

  abbrev Plainly : {A : Type 0} → (A → Type 0) → A → List Function → Type 0
  Plainly R a gs = R a

  given-too : {A : Type 0} (P : A → List Function → Type 0) (R : A → Type 0) (x : Typing A) → Keeps Q P x → Gives R x → Keeps Q (Plainly R) x
  given-too P R x k h gs q = replaced P (Plainly R) gs x (k gs q) (h gs)

module _ (Q : List Function → Type 0) (s : Signals) where
  abbrev pub OfPart : PartMeaning → Type 0
  OfPart m = (k : Context) → Within Q s k → Keeps Q WritingPart (m k)

  abbrev pub OfStmt : StmtMeaning → Type 0
  OfStmt m = (k : Context) → Within Q s k → Keeps Q WritesLocals (m k)

  abbrev pub OfCase : CaseMeaning → Type 0
  OfCase m = (k : Context) → Within Q s k → Keeps Q FoundWrites (m k)

  abbrev pub AllParts : List PartMeaning → Type 0
  AllParts [] = Unit {0}
  AllParts (m ∷ ms) = OfPart m × AllParts ms

  abbrev pub AllCases : List CaseMeaning → Type 0
  AllCases [] = Unit {0}
  AllCases (m ∷ ms) = OfCase m × AllCases ms

  abbrev pub ElseIf : Option StmtMeaning → Type 0
  ElseIf None = Unit {0}
  ElseIf (Some m) = OfStmt m

  -- assignments
  pub assign-keeps : (k : Context) (to : Lvalue) (op : AssignmentOperator) (at : ℕ) (e : S.Expr) → Within Q s k → lvalue_written to ≡ true → is_written e ≡ true → lvalue_local s to ≡ true
      → Keeps Q WritesLocals (both (target to k true) (operand k e) (λ t o. rule (assignment k at op t o)))
  assign-keeps k to op at e r v w u =
      K.both-keeps Q (Plainly Q LocalTarget) SoundOperand WritesLocals (target to k true) (operand k e) (λ t o. rule (assignment k at op t o)) (λ t gs hs x y. y)
      (given-too Q SoundTarget LocalTarget (target to k true) (target-sound Q to v k true r.text.around) (target-local s to u k true r.names)) (Z.value-keeps Q k e r.text.around w)
      (λ t o js q x y. K.rule-kept Q WritesLocals (assignment k at op t o) js q (λ z h. assignment-writes k at op t o z js h x))

  pub counted-keeps : (k : Context) (name : ℕ) (op : StepOperator) (at : ℕ) (ss : List Select) → Within Q s k → selects_written ss ≡ true → finds_no_signal s (simple_name name) ≡ true → Keeps Q WritesLocals (counted k name op at ss)
  counted-keeps k name op at ss r w u =
      let own = subst (λ z. finds_no_signal z (simple_name name) ≡ true) (sym r.names) u in
      K.checked-keeps Q (Plainly Q LocalValued) WritesLocals (named_target k true (simple_name name) (map select_meaning ss)) (λ v. rule (assignment k at (step_operator op) (ToPath v) (one k at)))
      (given-too Q SoundFixed LocalValued (named_target k true (simple_name name) (map select_meaning ss)) (P.target-keeps Q k true (simple_name name) (map select_meaning ss) r.text.around (all-selects Q ss w)) (named-local k true (simple_name name) (map select_meaning ss) own))
      (λ v js q x. K.rule-kept Q WritesLocals (assignment k at (step_operator op) (ToPath v) (one k at)) js q (λ z h. assignment-writes k at (step_operator op) (ToPath v) (one k at) z js h (path-target v x)))

  -- blocks
  behind-known : (k : Context) (o : Option BlockPart) (gs : List Function) → Within Q s k → IfKnown WritingPart o gs → Within Q s (behind_part k o)
  behind-known k None gs r x = r
  behind-known k (Some (IsStatement t)) gs r x = r
  behind-known k (Some (IsDeclared d)) gs r x = record { text = record { around = behind-sound Q k d gs r.text.around x; result = r.text.result }; names = r.names }

  parts-keep : (k : Context) (ms : List PartMeaning) → Within Q s k → AllParts ms → Keeps Q (λ ps gs. AllHold WritingPart ps gs) (block_parts k ms)
  parts-keep k [] r h = K.whole-keeps Q (λ ps gs. AllHold WritingPart ps gs) [] (λ gs. tt)
  parts-keep k (m ∷ ms) r h =
      N.by-keeps Q WritingPart (λ ps gs. AllHold WritingPart ps gs) (λ ps gs. AllHold WritingPart ps gs) (m k) (λ o. block_parts (behind_part k o) ms) (λ p ps. whole (p ∷ ps)) part-lasts (h.0 k r)
      (λ o gs q x. parts-keep (behind_part k o) ms (behind-known k o gs r x) h.1 gs q) (λ p ps js q x y. K.whole-kept Q (λ xs gs. AllHold WritingPart xs gs) (p ∷ ps) js q (x, y))

  pub block-keeps : (k : Context) (ms : List PartMeaning) → Within Q s k → AllParts ms → Keeps Q WritesLocals (block k ms)
  block-keeps k ms r h =
      K.checked-keeps Q (λ ps gs. AllHold WritingPart ps gs) WritesLocals (block_parts k ms) (λ qs. let b = built qs in whole (V.Block b.locals b.body)) (parts-keep k ms r h)
      (λ qs js q x. K.whole-kept Q WritesLocals (V.Block (built qs).locals (built qs).body) js q (H.block-writes (built qs).locals (built qs).body js (built-writes qs js x)))

  pub declared-part : (x : Typing Declared) → Keeps Q SoundDeclared x → Keeps Q WritingPart (checked x (λ d. whole (IsDeclared d)))
  declared-part x h = K.checked-keeps Q SoundDeclared WritingPart x (λ d. whole (IsDeclared d)) h (λ d js q y. K.whole-kept Q WritingPart (IsDeclared d) js q y)

  pub statement-part : (x : Typing R.Stmt) → Keeps Q WritesLocals x → Keeps Q WritingPart (checked x (λ t. whole (IsStatement t)))
  statement-part x h = K.checked-keeps Q WritesLocals WritingPart x (λ t. whole (IsStatement t)) h (λ t js q y. K.whole-kept Q WritingPart (IsStatement t) js q y)

  -- statements without parts
  pub empty-keeps : Keeps Q WritesLocals (whole empty)
  empty-keeps = K.whole-keeps Q WritesLocals empty (λ gs. H.block-writes [] [] gs tt)

  pub break-keeps : Keeps Q WritesLocals (whole V.Break)
  break-keeps = K.whole-keeps Q WritesLocals V.Break (λ gs. H.break-writes gs)

  pub continue-keeps : Keeps Q WritesLocals (whole V.Continue)
  continue-keeps = K.whole-keeps Q WritesLocals V.Continue (λ gs. H.continue-writes gs)

  pub returned-keeps : (k : Context) (at : ℕ) (o : Option S.Expr) → Within Q s k → if_there (option_map is_written o) ≡ true → Keeps Q WritesLocals (returned k at o)
  returned-keeps k at None r w = K.whole-keeps Q WritesLocals V.Return (λ gs. H.return-writes gs)
  returned-keeps k at (Some e) r w =
      K.checked-keeps Q SoundOperand WritesLocals (operand k e) (λ o. rule (return_value k at k.result o)) (Z.value-keeps Q k e r.text.around w)
      (λ o js q x. K.rule-kept Q WritesLocals (return_value k at k.result o) js q (λ z h. return-writes k at k.result o z js h))

  -- `if`
  else-keeps : (k : Context) (o : Option StmtMeaning) → Within Q s k → ElseIf o → Keeps Q PerhapsWrites (else_if k o)
  else-keeps k None r h = K.whole-keeps Q PerhapsWrites None (λ gs. tt)
  else-keeps k (Some m) r h = K.checked-keeps Q WritesLocals PerhapsWrites (m k) (λ t. whole (Some t)) (h k r) (λ t js q x. K.whole-kept Q PerhapsWrites (Some t) js q x)

  branches-keep : (k : Context) (body : StmtMeaning) (other : Option StmtMeaning) → Within Q s k → OfStmt body → ElseIf other → Keeps Q WritingBranches (both (body k) (else_if k other) branches)
  branches-keep k body other r h g =
      K.both-keeps Q WritesLocals PerhapsWrites WritingBranches (body k) (else_if k other) branches writes-last (h k r) (else-keeps k other r g)
      (λ t o js q x y. K.whole-kept Q WritingBranches (record { body = t; other = o }) js q (record { body = x; other = y }))

  pub if-keeps : (k : Context) (test : S.Expr) (body : StmtMeaning) (other : Option StmtMeaning) → Within Q s k → is_written test ≡ true → OfStmt body → ElseIf other
      → Keeps Q WritesLocals (both (condition k test) (both (body k) (else_if k other) branches) (λ v b. whole (V.If v.expr b.body b.other)))
  if-keeps k test body other r w h g =
      K.both-keeps Q Sound WritingBranches WritesLocals (condition k test) (both (body k) (else_if k other) branches) (λ v b. whole (V.If v.expr b.body b.other)) valued-lasts (Z.condition-keeps Q k test r.text.around w)
      (branches-keep k body other r h g) (λ v b js q x y. K.whole-kept Q WritesLocals (V.If v.expr b.body b.other) js q (H.if-writes v.expr b.body b.other js y.body y.other))

  -- `case`
  each-condition : (k : Context) (es : List S.Expr) → Surrounded Q k → exprs_written es ≡ true → AllKeep Q Sound (map (condition k) es)
  each-condition k [] r w = tt
  each-condition k (e ∷ es) r w = (Z.condition-keeps Q k e r (and-left (is_written e) (exprs_written es) w), each-condition k es r (and-right (is_written e) (exprs_written es) w))

  abbrev Values : List Valued → List Function → Type 0
  Values vs gs = AllHold Sound vs gs

  values-last : Lasts Values
  values-last vs gs hs e x = K.all-last Q Sound valued-lasts vs gs hs e x

  pub case-values : (k : Context) (es : List S.Expr) (body : StmtMeaning) → Within Q s k → exprs_written es ≡ true → OfStmt body
      → Keeps Q FoundWrites (both (looked_at (all (map (condition k) es))) (tried (body k)) (λ vs t. whole (record { is_default = false; values = vs; body = t })))
  case-values k es body r w h =
      K.both-keeps Q (Looked Values) (Looked WritesLocals) FoundWrites (looked_at (all (map (condition k) es))) (tried (body k)) (λ vs t. whole (record { is_default = false; values = vs; body = t })) (looked-lasts Values values-last)
      (looked-keeps Q Values (all (map (condition k) es)) (K.all-keeps Q Sound (map (condition k) es) valued-lasts (each-condition k es r.text.around w))) (tried-keeps Q WritesLocals (body k) (h k r))
      (λ vs t js q x y. K.whole-kept Q FoundWrites (record { is_default = false; values = vs; body = t }) js q y)

  pub case-default : (k : Context) (body : StmtMeaning) → Within Q s k → OfStmt body → Keeps Q FoundWrites (checked (tried (body k)) (λ t. whole (record { is_default = true; values = Ok []; body = t })))
  case-default k body r h =
      K.checked-keeps Q (Looked WritesLocals) FoundWrites (tried (body k)) (λ t. whole (record { is_default = true; values = Ok []; body = t })) (tried-keeps Q WritesLocals (body k) (h k r))
      (λ t js q x. K.whole-kept Q FoundWrites (record { is_default = true; values = Ok []; body = t }) js q x)

  each-case : (k : Context) (ms : List CaseMeaning) → Within Q s k → AllCases ms → AllKeep Q FoundWrites (map (λ (c : CaseMeaning). c k) ms)
  each-case k [] r h = tt
  each-case k (m ∷ ms) r h = (h.0 k r, each-case k ms r h.1)

  pub case-keeps : (k : Context) (keyword : CaseKeyword) (sought : S.Expr) (items : List CaseMeaning) → Within Q s k → is_written sought ≡ true → AllCases items
      → Keeps Q WritesLocals (both (looked_at (condition k sought)) (all (map (λ (c : CaseMeaning). c k) items)) (λ v cs. rule (case_stmt k (case_kind keyword) v cs)))
  case-keeps k keyword sought items r w h =
      K.both-keeps Q (Looked Sound) (λ cs gs. AllHold FoundWrites cs gs) WritesLocals (looked_at (condition k sought)) (all (map (λ (c : CaseMeaning). c k) items)) (λ v cs. rule (case_stmt k (case_kind keyword) v cs)) (looked-lasts Sound valued-lasts)
      (looked-keeps Q Sound (condition k sought) (Z.condition-keeps Q k sought r.text.around w)) (K.all-keeps Q FoundWrites (map (λ (c : CaseMeaning). c k) items) found-lasts (each-case k items r h))
      (λ v cs js q x y. K.rule-kept Q WritesLocals (case_stmt k (case_kind keyword) v cs) js q (λ t g. case-writes k (case_kind keyword) v cs t js g y))

  -- `for`
  abbrev loop_in : Context → S.Expr → LoopStep → StmtMeaning → Option LoopVariable → Typing Turns
  loop_in k test step body o = let inner = in_loop k o in both (both (condition inner test) (loop_step inner (id_of o) step) control) (body inner) turns

  abbrev TurnsWrite : Turns → List Function → Type 0
  TurnsWrite t gs = WritesLocals t.body gs

  inside-loop : (k : Context) (o : Option LoopVariable) (gs : List Function) → Within Q s k → IfKnown SoundVariable o gs → Within Q s (in_loop k o)
  inside-loop k None gs r x = r
  inside-loop k (Some v) gs r x = record { text = record { around = Z.loop-behind Q k v gs r.text.around x; result = r.text.result }; names = r.names }

  turns-keep : (k : Context) (test : S.Expr) (step : LoopStep) (body : StmtMeaning) (o : Option LoopVariable) (gs : List Function) → Within Q s k → is_written test ≡ true → step_written step ≡ true → OfStmt body
      → IfKnown SoundVariable o gs → Keeps Q TurnsWrite (both (both (condition k test) (loop_step k (id_of o) step) control) (body k) turns)
  turns-keep k test step body o gs r w u h x =
      K.both-keeps Q Anything WritesLocals TurnsWrite (both (condition k test) (loop_step k (id_of o) step) control) (body k) turns any-lasts
      (K.both-keeps Q Sound Anything Anything (condition k test) (loop_step k (id_of o) step) control valued-lasts (Z.condition-keeps Q k test r.text.around w) (Z.step-anyway Q k o step gs r.text.around u x)
      (λ v e js q y z. K.whole-kept Q Anything (record { test = v; step = e }) js q tt)) (h k r)
      (λ c b js q y z. K.whole-kept Q TurnsWrite (record { control = c; body = b }) js q z)

  pub loop-keeps : (k : Context) (keyword : ℕ) (first : LoopStart) (test : S.Expr) (step : LoopStep) (body : StmtMeaning) → Within Q s k → start_written first ≡ true → is_written test ≡ true → step_written step ≡ true
      → OfStmt body → Keeps Q WritesLocals (both_by (loop_variable k first) (loop_in k test step body) (λ v t. whole (loop_stmt k keyword v t)))
  loop-keeps k keyword first test step body r v w u h =
      N.by-keeps Q SoundVariable TurnsWrite WritesLocals (loop_variable k first) (loop_in k test step body) (λ x t. whole (loop_stmt k keyword x t)) variable-lasts
      (Z.variable-keeps Q k first r.text.around (and-left (type_written first.of) (is_written first.value) v) (and-right (type_written first.of) (is_written first.value) v))
      (λ o gs q x. turns-keep (in_loop k o) test step body o gs (inside-loop k o gs r x) w u h x gs q)
      (λ x t js q y z. K.whole-kept Q WritesLocals (loop_stmt k keyword x t) js q (H.loop-writes x.id.number x.first t.control.test.expr t.control.step t.body (spot k.source keyword) js z))

  -- calls
  actuals-known : (k : Context) (es : List E.Meaning) (o : Option Called) (gs : List Function) → Within Q s k → AllMean Q es → AllLocalActuals s es → Q gs → Kept (List Actual) Q (N.KnownWith Q LocalForCalled o) gs (all (actuals k (ways o) es) gs)
  actuals-known k es None gs r m l q =
      replaced Q (λ as' hs. AllHold SoundActual as' hs) (N.KnownWith Q LocalForCalled None) gs (all (actuals k [] es)) (K.all-keeps Q SoundActual (actuals k [] es) Z.actual-lasts (Z.each-actual Q k [] es r.text.around m) gs q) (λ as' e. tt)
  actuals-known k es (Some c) gs r m l q =
      let ws = map way_of c.of.formals in
      replaced Q (λ as' hs. AllHold SoundActual as' hs) (LocalForCalled c) gs (all (actuals k ws es)) (K.all-keeps Q SoundActual (actuals k ws es) Z.actual-lasts (Z.each-actual Q k ws es r.text.around m) gs q) (all-local k s ws es r.names l gs)

  counted-call-keeps : (k : Context) (of : QualifiedName) (es : List E.Meaning) → Within Q s k → AllMean Q es → AllLocalActuals s es → Keeps Q WritesLocals (counted_call k of es)
  counted-call-keeps k of es r m l =
      N.with-keeps Q KnownCall LocalForCalled WritesLocals (needed k of.name (k.finds of)) (λ o. all (actuals k (ways o) es)) (λ c as'. rule (call_stmt_of k of.name c as')) call-lasts
      (C.needed-keeps Q k of.name (k.finds of) r.text.around) (λ o gs q x. actuals-known k es o gs r m l q)
      (λ c as' js q x y. K.rule-kept Q WritesLocals (call_stmt_of k of.name c as') js q (λ t h. call-writes k of.name c as' t js h x y))

  call-by : (k : Context) (of : QualifiedName) (es : List E.Meaning) (b : Bool) → Within Q s k → AllMean Q es → AllLocalActuals s es
      → Keeps Q WritesLocals (cond b (counted_call k of es) (with_other_count (position k.source of.name) (needed k of.name (k.finds of)) (all (actuals k [] es))))
  call-by k of es true r m l = counted-call-keeps k of es r m l
  call-by k of es false r m l = C.other-keeps Q WritesLocals (position k.source of.name) (needed k of.name (k.finds of)) (all (actuals k [] es)) (C.needed-keeps Q k of.name (k.finds of) r.text.around)

  pub call-keeps : (k : Context) (of : QualifiedName) (es : List E.Meaning) → Within Q s k → AllMean Q es → AllLocalActuals s es → Keeps Q WritesLocals (call_stmt k of es)
  call-keeps k of es r m l = call-by k of es (finds_count k (k.finds of) (length es)) r m l
