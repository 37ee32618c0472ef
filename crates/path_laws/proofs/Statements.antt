-- What assignments in statements of a text write is typed.
use Rattle.std.proofs.Common.{◌≡◌, ℕ, ◌==◌, Bool, true, false, cond, not, List, [], ◌∷◌, ◌++◌, length, map, Option, Some, None, refl, ap, sym, ◌∙◌, subst, rules}
use Rattle.std.specs.Prelude.{Ok, Err}
use Rattle.sv_source.specs.declared.token.Spot.{Spot}
use Rattle.sv_tree.specs.declared.expressions.Expr as X
use Rattle.sv_tree.specs.declared.expressions.Select.{Select}
use Rattle.sv_tree.specs.declared.names.QualifiedName.{QualifiedName}
use Rattle.sv_tree.specs.declared.operators.AssignmentOperator.{AssignmentOperator}
use Rattle.sv_tree.specs.declared.operators.AssignmentOperator.TheVariants as A
use Rattle.sv_tree.specs.declared.operators.StepOperator.{StepOperator}
use Rattle.sv_tree.specs.declared.statements.BlockItem.{BlockItem, BlockItem-F, roll-BlockItem, map-BlockItem, ind-BlockItem, fold-roll-BlockItem}
use Rattle.sv_tree.specs.declared.statements.CaseItem as C
use Rattle.sv_tree.specs.declared.statements.CaseItem.{CaseItem-F, fold-CaseItem, roll-CaseItem, map-CaseItem, fold-roll-CaseItem}
use Rattle.sv_tree.specs.declared.statements.CaseKeyword.{CaseKeyword}
use Rattle.sv_tree.specs.declared.statements.Else.{Else, Else-F, fold-Else, roll-Else, map-Else, fold-roll-Else}
use Rattle.sv_tree.specs.declared.statements.Lvalue.{Lvalue}
use Rattle.sv_tree.specs.declared.statements.LoopStart.{LoopStart}
use Rattle.sv_tree.specs.declared.statements.LoopStep.{LoopStep}
use Rattle.sv_tree.specs.declared.statements.Stmt.{Stmt, Stmt-F, roll-Stmt, map-Stmt, ind-Stmt, fold-roll-Stmt}
use Rattle.sv_types.specs.declared.expression.Expr.{Expr}
use Rattle.sv_types.specs.declared.statement.CaseItem as J
use Rattle.sv_types.specs.declared.statement.CaseKind.{CaseKind}
use Rattle.sv_types.specs.declared.statement.Local.{Local}
use Rattle.sv_types.specs.declared.statement.Stmt as R
use Rattle.sv_types.specs.declared.statement.Stmt.{the_lemmas}
use Rattle.sv_types.specs.declared.statement.Stmt.TheVariants as V
use Rattle.sv_types.specs.declared.types.SvType.{SvType}
use Rattle.sv_types.specs.Layouts.{width_of}
use Rattle.expr_type.specs.declared.operand.Valued.{Valued}
use Rattle.expr_type.specs.Breaks.{Position}
use Rattle.expr_type.specs.Typings.{Checked, Typing, whole, rule, checked, both, both_by, all, all_of, joined, looked_at, tried, where_whole}
use Rattle.expr_type.specs.Names.{Called, Context, position, spot, thing, local_id}
use Rattle.expr_type.specs.Operands.{Operand, given}
use Rattle.expr_type.specs.Operators.{exprs, not_too_long}
use Rattle.expr_type.specs.Forms.{finds_count, miscounted, needed, with_other_count}
use Rattle.expr_type.specs.Expressions as E
use Rattle.expr_type.specs.Expressions.{operand, select_meaning}
use Rattle.expr_type.specs.Types.{TypeFound, typed_text}
use Rattle.expr_type.specs.TargetNames.{named_target}
use Rattle.expr_type.specs.Targets as T
use Rattle.expr_type.specs.Targets.{Target, ToPath, target, parts_of, simple_name}
use Rattle.expr_type.specs.Statements as S
use Rattle.expr_type.specs.Statements.{operator_of, is_later, combined, assign, assignment, continuous, one, step_operator, counted, Declared, behind, variables_of, selected_type, parameters, IsValue, OfValue, BlockPart, IsStatement, IsDeclared, PartMeaning, behind_part, block_parts, in_block, built, block, empty, result, return_value, returned, condition, Branches, branches, case_kind, CaseItem, CaseFound, CaseMeaning, whole_item, case_items, default_body, item_at, selector_at, widest, case_stmt, first_by, LoopVariable, loop_type, loop_variable, in_loop, id_of, loop_step, Control, control, Turns, turns, loop_stmt, Actual, all_actuals, call_stmt_of, counted_call, ways, actuals, call_stmt, StmtMeaning, else_if, typed_stmt, item_meaning, stmt_meaning}
use Rattle.typing_fits.proofs.Calls.{all-front, none-all}
use Rattle.typing_fits.proofs.Contexts.{refused-then, whole-part, joined-both}
use Rattle.typing_fits.proofs.Selects.{long-then}
use Rattle.typed_paths.proofs.Typing.{typed-Local}
use Rattle.path_laws.specs.Names.{PlainNames, PlainText}
use Rattle.path_laws.specs.Statements.{Assigned, together, assigned, AllTargets, AssignsTyped, stmt_step, item_step}
use Rattle.path_laws.specs.Targets.{AreTargets, none, path}
use Rattle.path_laws.proofs.Typings.{Gives, AllGive, Each, IfKnown, Anything, anything, whole-gives, rule-gives, checked-gives, both-gives, all-gives, by-gives}
use Rattle.path_laws.proofs.Types.{Plain, PlainFound, text-plain}
use Rattle.path_laws.proofs.Targets.{IsTypedTarget, parts-typed, target-typed}
use Rattle.path_laws.proofs.Paths.{target-gives, typed-of}
use Rattle.path_laws.proofs.Declared.{PlainDeclared, behind-plain, variables-give, selected-gives, parameters-give}

-- what statements assign to, level by level
abbrev perhaps : Option R.Stmt → Assigned
perhaps None = []
perhaps (Some s) = assigned s

abbrev item_of : J.CaseItem → Assigned
item_of = J.fold-CaseItem Assigned Assigned stmt_step item_step

assigned-Block : (ls : List Local) (ss : List R.Stmt) → assigned (V.Block ls ss) ≡ together (map assigned ss)
assigned-Block ls ss = search (rules, the_lemmas)

assigned-If : (on : Expr) (body : R.Stmt) (other : Option R.Stmt) → assigned (V.If on body other) ≡ assigned body ++ perhaps other
assigned-If on body None = search (rules, the_lemmas)
assigned-If on body (Some s) = search (rules, the_lemmas)

assigned-Case : (kind : CaseKind) (on : Expr) (is : List J.CaseItem) (other : Option R.Stmt) → assigned (V.Case kind on is other) ≡ together (map item_of is) ++ perhaps other
assigned-Case kind on is None = search (rules, the_lemmas)
assigned-Case kind on is (Some s) = search (rules, the_lemmas)

assigned-Loop : (n : ℕ) (first test step : Expr) (body : R.Stmt) (spot : Spot) → assigned (V.Loop n first test step body spot) ≡ assigned body
assigned-Loop n first test step body spot = search (rules, the_lemmas)

assigned-Assign : (to : List Expr) (value : Expr) (later : Bool) (spot : Spot) → assigned (V.Assign to value later spot) ≡ to ∷ []
assigned-Assign to value later spot = search (rules, the_lemmas)

assigned-Call : (f : ℕ) (es : List Expr) (spot : Spot) → assigned (V.Call f es spot) ≡ []
assigned-Call f es spot = search (rules, the_lemmas)

assigned-Break : assigned V.Break ≡ []
assigned-Break = search (rules, the_lemmas)

assigned-Continue : assigned V.Continue ≡ []
assigned-Continue = search (rules, the_lemmas)

assigned-Return : assigned V.Return ≡ []
assigned-Return = search (rules, the_lemmas)

assigned-item : (i : J.CaseItem) → item_of i ≡ assigned i.body
assigned-item i = search (rules, the_lemmas)

-- forms
as-assigned : (s : R.Stmt) (a : Assigned) → assigned s ≡ a → AllTargets a → AssignsTyped s
as-assigned s a is h = subst AllTargets (sym is) h

both-targets : (a b : Assigned) → AllTargets a → AllTargets b → AllTargets (a ++ b)
both-targets [] b h g = g
both-targets (es ∷ a) b h g = (h.0, both-targets a b h.1 g)

all-together : (ss : List R.Stmt) → Each AssignsTyped ss → AllTargets (together (map assigned ss))
all-together [] h = tt
all-together (s ∷ ss) h = both-targets (assigned s) (together (map assigned ss)) h.0 (all-together ss h.1)

abbrev PerhapsTyped : Option R.Stmt → Type 0
PerhapsTyped None = Unit {0}
PerhapsTyped (Some s) = AssignsTyped s

perhaps-typed : (o : Option R.Stmt) → PerhapsTyped o → AllTargets (perhaps o)
perhaps-typed None h = tt
perhaps-typed (Some s) h = h

typed-Block : (ls : List Local) (ss : List R.Stmt) → Each AssignsTyped ss → AssignsTyped (V.Block ls ss)
typed-Block ls ss h = as-assigned (V.Block ls ss) (together (map assigned ss)) (assigned-Block ls ss) (all-together ss h)

typed-If : (on : Expr) (body : R.Stmt) (other : Option R.Stmt) → AssignsTyped body → PerhapsTyped other → AssignsTyped (V.If on body other)
typed-If on body other h g = as-assigned (V.If on body other) (assigned body ++ perhaps other) (assigned-If on body other) (both-targets (assigned body) (perhaps other) h (perhaps-typed other g))

abbrev BodyTyped : J.CaseItem → Type 0
BodyTyped i = AssignsTyped i.body

all-items : (is : List J.CaseItem) → Each BodyTyped is → AllTargets (together (map item_of is))
all-items [] h = tt
all-items (i ∷ is) h = both-targets (item_of i) (together (map item_of is)) (subst AllTargets (sym (assigned-item i)) h.0) (all-items is h.1)

typed-Case : (kind : CaseKind) (on : Expr) (is : List J.CaseItem) (other : Option R.Stmt) → Each BodyTyped is → PerhapsTyped other → AssignsTyped (V.Case kind on is other)
typed-Case kind on is other h g =
    as-assigned (V.Case kind on is other) (together (map item_of is) ++ perhaps other) (assigned-Case kind on is other) (both-targets (together (map item_of is)) (perhaps other) (all-items is h) (perhaps-typed other g))

typed-Assign : (to : List Expr) (value : Expr) (later : Bool) (spot : Spot) → AreTargets true to → AssignsTyped (V.Assign to value later spot)
typed-Assign to value later spot h = as-assigned (V.Assign to value later spot) (to ∷ []) (assigned-Assign to value later spot) (h, tt)

abbrev a_stmt : R.Stmt → Checked R.Stmt
a_stmt s = Ok s

as-stmt : (s t : R.Stmt) → a_stmt s ≡ Ok t → AssignsTyped s → AssignsTyped t
as-stmt s t h p = let is : s ≡ t = cc in subst AssignsTyped is p

-- assignments
assignment-typed : (k : Context) (at : ℕ) (op : AssignmentOperator) (t : Target) (o : Operand) (s : R.Stmt) → assignment k at op t o ≡ Ok s → IsTypedTarget t → AssignsTyped s
assignment-typed k at op t o s h p =
    let a = whole-part (combined k at (operator_of op) t o) (λ v. where_whole (T.assigned k t v) (λ e. a_stmt (assign k at (is_later op) t e))) s h in
    let b = whole-part (T.assigned k t a.part) (λ e. a_stmt (assign k at (is_later op) t e)) s a.made in
    as-stmt (assign k at (is_later op) t b.part) s b.made (typed-Assign (parts_of t) b.part (is_later op) (spot k.source at) (parts-typed t p))

assign-gives : (k : Context) (inside : Bool) (to : Lvalue) (op : AssignmentOperator) (at : ℕ) (e : X.Expr) → PlainNames k → Gives AssignsTyped (both (target to k inside) (operand k e) (λ t o. rule (assignment k at op t o)))
assign-gives k inside to op at e p =
    both-gives IsTypedTarget Anything AssignsTyped (target to k inside) (operand k e) (λ t o. rule (assignment k at op t o)) (target-typed to k inside p) (anything (operand k e))
    (λ t o q r. rule-gives AssignsTyped (assignment k at op t o) (λ s h. assignment-typed k at op t o s h q))

pub continuous-typed : (k : Context) (to : Lvalue) (at : ℕ) (e : X.Expr) → PlainNames k → Gives AssignsTyped (continuous k to at e)
continuous-typed k to at e p = assign-gives k false to A.Assign at e p

abbrev TypedValued : Valued → Type 0
TypedValued v = IsTypedTarget (ToPath v)

counted-gives : (k : Context) (name : ℕ) (op : StepOperator) (at : ℕ) (ss : List Select) → PlainNames k → Gives AssignsTyped (counted k name op at ss)
counted-gives k name op at ss p =
    checked-gives TypedValued AssignsTyped (named_target k true (simple_name name) (map select_meaning ss)) (λ v. rule (assignment k at (step_operator op) (ToPath v) (one k at)))
    (λ fs v h. typed-of k.signals (thing k (simple_name name)) v.expr (target-gives k true (simple_name name) ss p fs v h))
    (λ v q. rule-gives AssignsTyped (assignment k at (step_operator op) (ToPath v) (one k at)) (λ s h. assignment-typed k at (step_operator op) (ToPath v) (one k at) s h q))

-- blocks
abbrev PartTyped : BlockPart → Type 0
PartTyped (IsStatement s) = AssignsTyped s
PartTyped (IsDeclared d) = PlainDeclared d

abbrev OfPart : PartMeaning → Type 0
OfPart m = (k : Context) → PlainText k → Gives PartTyped (m k)

abbrev AllParts : List PartMeaning → Type 0
AllParts [] = Unit {0}
AllParts (m ∷ ms) = OfPart m × AllParts ms

behind-known : (k : Context) (o : Option BlockPart) → PlainText k → IfKnown PartTyped o → PlainText (behind_part k o)
behind-known k None p q = p
behind-known k (Some (IsStatement s)) p q = p
behind-known k (Some (IsDeclared d)) p q = behind-plain k d p q

parts-give : (k : Context) (ms : List PartMeaning) → PlainText k → AllParts ms → Gives (Each PartTyped) (block_parts k ms)
parts-give k [] p h = whole-gives (Each PartTyped) [] tt
parts-give k (m ∷ ms) p h =
    by-gives PartTyped (Each PartTyped) (Each PartTyped) (m k) (λ o. block_parts (behind_part k o) ms) (λ q qs. whole (q ∷ qs)) (h.0 k p) (λ o q. parts-give (behind_part k o) ms (behind-known k o p q) h.1)
    (λ q qs r s. whole-gives (Each PartTyped) (q ∷ qs) (r, s))

inner-typed : (ls : List Local) (ss : List R.Stmt) → Each AssignsTyped ss → Each AssignsTyped (in_block ls ss)
inner-typed [] ss h = h
inner-typed (l ∷ ls) ss h = (typed-Block (l ∷ ls) ss h, tt)

built-typed : (ps : List BlockPart) → Each PartTyped ps → Each AssignsTyped (built ps).body
built-typed [] h = tt
built-typed (IsStatement s ∷ ps) h = (h.0, inner-typed (built ps).locals (built ps).body (built-typed ps h.1))
built-typed (IsDeclared d ∷ ps) h = built-typed ps h.1

block-gives : (k : Context) (ms : List PartMeaning) → PlainText k → AllParts ms → Gives AssignsTyped (block k ms)
block-gives k ms p h =
    checked-gives (Each PartTyped) AssignsTyped (block_parts k ms) (λ qs. let b = built qs in whole (V.Block b.locals b.body)) (parts-give k ms p h)
    (λ qs q. whole-gives AssignsTyped (V.Block (built qs).locals (built qs).body) (typed-Block (built qs).locals (built qs).body (built-typed qs q)))

-- a `return` with its value
empty-typed : AssignsTyped empty
empty-typed = typed-Block [] [] tt

return-typed : (k : Context) (at : ℕ) (o : Option SvType) (v : Operand) (s : R.Stmt) → return_value k at o v ≡ Ok s → AssignsTyped s
return-typed k at None v s h = absurd (cc)
return-typed k at (Some t) v s h =
    let made : Expr → R.Stmt = λ e. V.Block [] (V.Assign (result k at t ∷ []) e false (spot k.source at) ∷ V.Return ∷ []) in
    let w = whole-part (given k.source t v) (λ e. a_stmt (made e)) s h in
    as-stmt (made w.part) s w.made
    (typed-Block [] (V.Assign (result k at t ∷ []) w.part false (spot k.source at) ∷ V.Return ∷ [])
    (typed-Assign (result k at t ∷ []) w.part false (spot k.source at) (path true (result k at t) [] (typed-Local (result k at t) 0 refl) (none true)), (as-assigned V.Return [] assigned-Return tt, tt)))

returned-gives : (k : Context) (at : ℕ) (o : Option X.Expr) → Gives AssignsTyped (returned k at o)
returned-gives k at None = whole-gives AssignsTyped V.Return (as-assigned V.Return [] assigned-Return tt)
returned-gives k at (Some e) =
    checked-gives Anything AssignsTyped (operand k e) (λ o. rule (return_value k at k.result o)) (anything (operand k e)) (λ o q. rule-gives AssignsTyped (return_value k at k.result o) (λ s h. return-typed k at k.result o s h))

-- `if`
abbrev BranchesTyped : Branches → Type 0
BranchesTyped b = AssignsTyped b.body × PerhapsTyped b.other

abbrev OfStmt : StmtMeaning → Type 0
OfStmt m = (k : Context) → PlainText k → Gives AssignsTyped (m k)

abbrev ElseIf : Option StmtMeaning → Type 0
ElseIf None = Unit {0}
ElseIf (Some m) = OfStmt m

else-gives : (k : Context) (o : Option StmtMeaning) → PlainText k → ElseIf o → Gives PerhapsTyped (else_if k o)
else-gives k None p h = whole-gives PerhapsTyped None tt
else-gives k (Some m) p h = checked-gives AssignsTyped PerhapsTyped (m k) (λ t. whole (Some t)) (h k p) (λ t q. whole-gives PerhapsTyped (Some t) q)

if-gives : (k : Context) (test : X.Expr) (body : StmtMeaning) (other : Option StmtMeaning) → PlainText k → OfStmt body → ElseIf other
    → Gives AssignsTyped (both (condition k test) (both (body k) (else_if k other) branches) (λ v b. whole (V.If v.expr b.body b.other)))
if-gives k test body other p h g =
    both-gives Anything BranchesTyped AssignsTyped (condition k test) (both (body k) (else_if k other) branches) (λ v b. whole (V.If v.expr b.body b.other)) (anything (condition k test))
    (both-gives AssignsTyped PerhapsTyped BranchesTyped (body k) (else_if k other) branches (h k p) (else-gives k other p g) (λ s o q r. whole-gives BranchesTyped (record { body = s; other = o }) (q, r)))
    (λ v b q r. whole-gives AssignsTyped (V.If v.expr b.body b.other) (typed-If v.expr b.body b.other r.0 r.1))

-- `case`
abbrev FoundTyped : CaseFound → Type 0
FoundTyped c = (s : R.Stmt) → c.body ≡ Ok s → AssignsTyped s

abbrev ItemTyped : CaseItem → Type 0
ItemTyped c = AssignsTyped c.body

abbrev an_item : CaseItem → Checked CaseItem
an_item c = Ok c

item-typed : (c : CaseFound) (i : CaseItem) → whole_item c ≡ Ok i → FoundTyped c → ItemTyped i
item-typed c i h p =
    let w = whole-part (joined c.values c.body) (λ q. an_item (record { is_default = c.is_default; values = q.0; body = q.1 })) i h in
    let b = joined-both c.values c.body w.part w.is in
    let made : an_item (record { is_default = c.is_default; values = w.part.0; body = w.part.1 }) ≡ Ok i = w.made in
    let is : record { is_default = c.is_default; values = w.part.0; body = w.part.1 } ≡ i = cc in
    p i.body (b.right ∙ ap (λ (x : CaseItem). a_stmt x.body) is)

items-typed : (cs : List CaseFound) (is : List CaseItem) → all_of (map whole_item cs) ≡ Ok is → Each FoundTyped cs → Each ItemTyped is
items-typed [] is h p = subst (Each ItemTyped) (sym (none-all is h)) tt
items-typed (c ∷ cs) is h p =
    let r = all-front (whole_item c) (map whole_item cs) is h in
    subst (Each ItemTyped) (sym r.is) (item-typed c r.first r.here p.0, items-typed cs r.rest r.behind p.1)

bodies-typed : (cs : List CaseItem) → Each ItemTyped cs → Each BodyTyped (case_items cs)
bodies-typed [] h = tt
bodies-typed (c ∷ cs) h = by c.is_default h.0 (bodies-typed cs h.1)
  where
    by : (b : Bool) → AssignsTyped c.body → Each BodyTyped (case_items cs) → Each BodyTyped (cond b [] (record { values = exprs c.values; body = c.body } ∷ []) ++ case_items cs)
    by true x r = r
    by false x r = (x, r)

default-typed : (cs : List CaseItem) → Each ItemTyped cs → PerhapsTyped (default_body cs)
default-typed [] h = tt
default-typed (c ∷ cs) h = by c.is_default h.0 (default-typed cs h.1)
  where
    by : (b : Bool) → AssignsTyped c.body → PerhapsTyped (default_body cs) → PerhapsTyped (cond b (Some c.body) (default_body cs))
    by true x r = x
    by false x r = r

at-typed : (k : Context) (w : ℕ) (cs : List CaseFound) → Each FoundTyped cs → Each FoundTyped (map (item_at k w) cs)
at-typed k w [] p = tt
at-typed k w (c ∷ cs) p = (p.0, at-typed k w cs p.1)

case-typed : (k : Context) (kind : CaseKind) (on : Checked Valued) (cs : List CaseFound) (s : R.Stmt) → case_stmt k kind on cs ≡ Ok s → Each FoundTyped cs → AssignsTyped s
case-typed k kind on cs s h p =
    let w = widest (joined on (all_of (map (λ (c : CaseFound). c.values) cs))) in
    let found = map (item_at k w) cs in
    let a = whole-part (joined (selector_at k w on) (all_of (map whole_item found))) (λ q. a_stmt (V.Case kind q.0.expr (case_items q.1) (default_body q.1))) s h in
    let c = joined-both (selector_at k w on) (all_of (map whole_item found)) a.part a.is in
    let items = a.part.1 in
    let typed = items-typed found items c.right (at-typed k w cs p) in
    as-stmt (V.Case kind a.part.0.expr (case_items items) (default_body items)) s a.made
    (typed-Case kind a.part.0.expr (case_items items) (default_body items) (bodies-typed items typed) (default-typed items typed))

abbrev OfCase : CaseMeaning → Type 0
OfCase m = (k : Context) → PlainText k → Gives FoundTyped (m k)

abbrev AllCases : List CaseMeaning → Type 0
AllCases [] = Unit {0}
AllCases (m ∷ ms) = OfCase m × AllCases ms

each-case : (k : Context) (ms : List CaseMeaning) → PlainText k → AllCases ms → AllGive FoundTyped (map (λ (c : CaseMeaning). c k) ms)
each-case k [] p h = tt
each-case k (m ∷ ms) p h = (h.0 k p, each-case k ms p h.1)

case-gives : (k : Context) (keyword : CaseKeyword) (sought : X.Expr) (items : List CaseMeaning) → PlainText k → AllCases items
    → Gives AssignsTyped (both (looked_at (condition k sought)) (all (map (λ (c : CaseMeaning). c k) items)) (λ v cs. rule (case_stmt k (case_kind keyword) v cs)))
case-gives k keyword sought items p h =
    both-gives Anything (Each FoundTyped) AssignsTyped (looked_at (condition k sought)) (all (map (λ (c : CaseMeaning). c k) items)) (λ v cs. rule (case_stmt k (case_kind keyword) v cs)) (anything (looked_at (condition k sought)))
    (all-gives FoundTyped (map (λ (c : CaseMeaning). c k) items) (each-case k items p h)) (λ v cs q r. rule-gives AssignsTyped (case_stmt k (case_kind keyword) v cs) (λ s e. case-typed k (case_kind keyword) v cs s e r))

-- what is looked at may be broken
abbrev LookedTyped : Checked R.Stmt → Type 0
LookedTyped r = (s : R.Stmt) → r ≡ Ok s → AssignsTyped s

abbrev looked : Checked R.Stmt → Checked (Checked R.Stmt)
looked r = Ok r

looked-gives : (x : Typing R.Stmt) → Gives AssignsTyped x → Gives LookedTyped (tried x)
looked-gives x p fs r h = let is : (x fs).result ≡ r = cc in λ s e. p fs s (is ∙ e)

case-values : (k : Context) (es : List X.Expr) (body : StmtMeaning) → PlainText k → OfStmt body
    → Gives FoundTyped (both (looked_at (all (map (condition k) es))) (tried (body k)) (λ vs s. whole (record { is_default = false; values = vs; body = s })))
case-values k es body p h =
    both-gives Anything LookedTyped FoundTyped (looked_at (all (map (condition k) es))) (tried (body k)) (λ vs s. whole (record { is_default = false; values = vs; body = s })) (anything (looked_at (all (map (condition k) es))))
    (looked-gives (body k) (h k p)) (λ vs s q r. whole-gives FoundTyped (record { is_default = false; values = vs; body = s }) r)

case-default : (k : Context) (body : StmtMeaning) → PlainText k → OfStmt body → Gives FoundTyped (checked (tried (body k)) (λ s. whole (record { is_default = true; values = Ok []; body = s })))
case-default k body p h =
    checked-gives LookedTyped FoundTyped (tried (body k)) (λ s. whole (record { is_default = true; values = Ok []; body = s })) (looked-gives (body k) (h k p))
    (λ s q. whole-gives FoundTyped (record { is_default = true; values = Ok []; body = s }) q)

-- `for`
abbrev VariablePlain : LoopVariable → Type 0
VariablePlain v = Plain v.id.of

abbrev a_found : TypeFound → Checked TypeFound
a_found f = Ok f

as-found : (f g : TypeFound) → a_found f ≡ Ok g → PlainFound f → PlainFound g
as-found f g h p = let is : f ≡ g = cc in subst PlainFound is p

type-gives : (k : Context) (l : LoopStart) → PlainText k → Gives PlainFound (loop_type k l)
type-gives k l p =
    checked-gives PlainFound PlainFound (typed_text l.of k) (λ f. rule (not_too_long k.source l.name (width_of f.of) (a_found f))) (text-plain l.of k p.types)
    (λ f q. rule-gives PlainFound (not_too_long k.source l.name (width_of f.of) (a_found f)) (λ g h. as-found f g (long-then k.source l.name (width_of f.of) (a_found f) g h) q))

variable-gives : (k : Context) (l : LoopStart) → PlainText k → Gives VariablePlain (loop_variable k l)
variable-gives k l p =
    by-gives PlainFound Anything VariablePlain (loop_type k l) (first_by k l) (λ f e. whole (record { id = local_id k l.name f.of; first = e })) (type-gives k l p) (λ o q. anything (first_by k l o))
    (λ f e q r. whole-gives VariablePlain (record { id = local_id k l.name f.of; first = e }) q)

in-loop : (k : Context) (o : Option LoopVariable) → PlainText k → IfKnown VariablePlain o → PlainText (in_loop k o)
in-loop k None p q = p
in-loop k (Some v) p q = record { names = record { signals = p.names.signals; locals = (q, p.names.locals) }; types = p.types }

abbrev TurnsTyped : Turns → Type 0
TurnsTyped t = AssignsTyped t.body

loop-gives : (k : Context) (keyword : ℕ) (first : LoopStart) (test : X.Expr) (step : LoopStep) (body : StmtMeaning) → PlainText k → OfStmt body
    → Gives AssignsTyped (both_by (loop_variable k first) (λ o. let inner = in_loop k o in both (both (condition inner test) (loop_step inner (id_of o) step) control) (body inner) turns) (λ v t. whole (loop_stmt k keyword v t)))
loop-gives k keyword first test step body p h =
    by-gives VariablePlain TurnsTyped AssignsTyped (loop_variable k first) (λ o. let inner = in_loop k o in both (both (condition inner test) (loop_step inner (id_of o) step) control) (body inner) turns) (λ v t. whole (loop_stmt k keyword v t))
    (variable-gives k first p)
    (λ o q.
    let inner = in_loop k o in
    both-gives Anything AssignsTyped TurnsTyped (both (condition inner test) (loop_step inner (id_of o) step) control) (body inner) turns (anything (both (condition inner test) (loop_step inner (id_of o) step) control)) (h inner (in-loop k o p q))
    (λ c s r t. whole-gives TurnsTyped (record { control = c; body = s }) t))
    (λ v t q r.
    whole-gives AssignsTyped (loop_stmt k keyword v t)
    (as-assigned (loop_stmt k keyword v t) (assigned t.body) (assigned-Loop v.id.number v.first t.control.test.expr t.control.step t.body (spot k.source keyword)) r))

-- calls
call-typed : (k : Context) (at : ℕ) (c : Called) (as' : List Actual) (s : R.Stmt) → call_stmt_of k at c as' ≡ Ok s → AssignsTyped s
call-typed k at c as' s h =
    let made : List Expr → R.Stmt = λ es. V.Call c.place es (spot k.source at) in
    let inner = where_whole (all_of (all_actuals k c.of.formals as')) (λ es. a_stmt (made es)) in
    let w = whole-part (all_of (all_actuals k c.of.formals as')) (λ es. a_stmt (made es)) s (refused-then (not (length c.of.formals == length as')) (position k.source at) 405 inner s h) in
    as-stmt (made w.part) s w.made (as-assigned (made w.part) [] (assigned-Call c.place w.part (spot k.source at)) tt)

counted-call-gives : (k : Context) (of : QualifiedName) (es : List E.Meaning) → Gives AssignsTyped (counted_call k of es)
counted-call-gives k of es =
    by-gives Anything Anything AssignsTyped (needed k of.name (k.finds of)) (λ o. all (actuals k (ways o) es)) (λ c as'. rule (call_stmt_of k of.name c as')) (anything (needed k of.name (k.finds of)))
    (λ o q. anything (all (actuals k (ways o) es))) (λ c as' q r. rule-gives AssignsTyped (call_stmt_of k of.name c as') (λ s h. call-typed k of.name c as' s h))

-- one with another number of actuals gives nothing
never-whole : {A B : Type 0} (p : Position) (x : Checked Called) (y : Checked A) (b : B) → miscounted p x y ≡ Ok b → ⊥
never-whole p x (Ok a) b h = cc
never-whole p (Ok c) (Err e) b h = cc
never-whole p (Err d) (Err e) b h = cc

call-by : (k : Context) (of : QualifiedName) (es : List E.Meaning) (b : Bool)
    → Gives AssignsTyped (cond b (counted_call k of es) (with_other_count (position k.source of.name) (needed k of.name (k.finds of)) (all (actuals k [] es))))
call-by k of es true = counted-call-gives k of es
call-by k of es false = λ fs s h. absurd (never-whole (position k.source of.name) (needed k of.name (k.finds of) fs).result (all (actuals k [] es) fs).result s h)

call-gives : (k : Context) (of : QualifiedName) (es : List E.Meaning) → Gives AssignsTyped (call_stmt k of es)
call-gives k of es = call-by k of es (finds_count k (k.finds of) (length es))

-- statements as they are written
abbrev case_meaning : C.CaseItem → CaseMeaning
case_meaning = fold-CaseItem PartMeaning CaseMeaning StmtMeaning StmtMeaning S.item_step S.case_step S.stmt_step S.else_step

abbrev else_meaning : Else → StmtMeaning
else_meaning = fold-Else PartMeaning CaseMeaning StmtMeaning StmtMeaning S.item_step S.case_step S.stmt_step S.else_step

abbrev AnItem : Type 0
AnItem = (x : BlockItem) × OfPart (item_meaning x)

abbrev ACase : Type 0
ACase = (x : C.CaseItem) × OfCase (case_meaning x)

abbrev AStmt : Type 0
AStmt = (x : Stmt) × OfStmt (stmt_meaning x)

abbrev AnElse : Type 0
AnElse = (x : Else) × OfStmt (else_meaning x)

each-item : (ys : List AnItem) → AllParts (map item_meaning (map (λ e. e.0) ys))
each-item [] = tt
each-item (y ∷ ys) = (y.1, each-item ys)

each-found : (ys : List ACase) → AllCases (map case_meaning (map (λ e. e.0) ys))
each-found [] = tt
each-found (y ∷ ys) = (y.1, each-found ys)

abbrev item_in : BlockItem-F AnItem ACase AStmt AnElse → BlockItem-F BlockItem C.CaseItem Stmt Else
item_in = map-BlockItem AnItem ACase AStmt AnElse BlockItem C.CaseItem Stmt Else (λ e. e.0) (λ e. e.0) (λ e. e.0) (λ e. e.0)

abbrev case_in : CaseItem-F AnItem ACase AStmt AnElse → CaseItem-F BlockItem C.CaseItem Stmt Else
case_in = map-CaseItem AnItem ACase AStmt AnElse BlockItem C.CaseItem Stmt Else (λ e. e.0) (λ e. e.0) (λ e. e.0) (λ e. e.0)

abbrev stmt_in : Stmt-F AnItem ACase AStmt AnElse → Stmt-F BlockItem C.CaseItem Stmt Else
stmt_in = map-Stmt AnItem ACase AStmt AnElse BlockItem C.CaseItem Stmt Else (λ e. e.0) (λ e. e.0) (λ e. e.0) (λ e. e.0)

abbrev else_in : Else-F AnItem ACase AStmt AnElse → Else-F BlockItem C.CaseItem Stmt Else
else_in = map-Else AnItem ACase AStmt AnElse BlockItem C.CaseItem Stmt Else (λ e. e.0) (λ e. e.0) (λ e. e.0) (λ e. e.0)

declared-part : (x : Typing Declared) → Gives PlainDeclared x → Gives PartTyped (checked x (λ d. whole (IsDeclared d)))
declared-part x h = checked-gives PlainDeclared PartTyped x (λ d. whole (IsDeclared d)) h (λ d q. whole-gives PartTyped (IsDeclared d) q)

item-case : (y : BlockItem-F AnItem ACase AStmt AnElse) → OfPart (S.item_step (map-BlockItem BlockItem C.CaseItem Stmt Else PartMeaning CaseMeaning StmtMeaning StmtMeaning item_meaning case_meaning stmt_meaning else_meaning (item_in y)))
item-case (BlockItem-F.Statement s) k p = checked-gives AssignsTyped PartTyped (stmt_meaning s.0 k) (λ t. whole (IsStatement t)) (s.1 k p) (λ t q. whole-gives PartTyped (IsStatement t) q)
item-case (BlockItem-F.Parameters b) k p = declared-part (parameters k (IsValue (OfValue None)) b.bodies) (parameters-give k (IsValue (OfValue None)) b.bodies p)
item-case (BlockItem-F.Variables automatic v of ds semicolon) k p = declared-part (variables_of k (typed_text of k) ds) (variables-give k (typed_text of k) ds p (text-plain of k p.types))
item-case (BlockItem-F.NamedVariables of ss ds semicolon) k p = declared-part (variables_of k (selected_type k of ss) ds) (variables-give k (selected_type k of ss) ds p (selected-gives k of ss p))

found-case : (y : CaseItem-F AnItem ACase AStmt AnElse) → OfCase (S.case_step (map-CaseItem BlockItem C.CaseItem Stmt Else PartMeaning CaseMeaning StmtMeaning StmtMeaning item_meaning case_meaning stmt_meaning else_meaning (case_in y)))
found-case (CaseItem-F.Values es colon body) k p = case-values k es (stmt_meaning body.0) p body.1
found-case (CaseItem-F.Default keyword colon body) k p = case-default k (stmt_meaning body.0) p body.1

stmt-case : (y : Stmt-F AnItem ACase AStmt AnElse) → OfStmt (S.stmt_step (map-Stmt BlockItem C.CaseItem Stmt Else PartMeaning CaseMeaning StmtMeaning StmtMeaning item_meaning case_meaning stmt_meaning else_meaning (stmt_in y)))
stmt-case (Stmt-F.Block begin label items end end_label) k p = block-gives k (map item_meaning (map (λ e. e.0) items)) p (each-item items)
stmt-case (Stmt-F.If promise keyword opening test closing body None) k p = if-gives k test (stmt_meaning body.0) None p body.1 tt
stmt-case (Stmt-F.If promise keyword opening test closing body (Some e)) k p = if-gives k test (stmt_meaning body.0) (Some (else_meaning e.0)) p body.1 e.1
stmt-case (Stmt-F.Case promise keyword opening sought closing items end) k p = case-gives k keyword sought (map case_meaning (map (λ e. e.0) items)) p (each-found items)
stmt-case (Stmt-F.For keyword opening first first_semicolon test test_semicolon step closing body) k p = loop-gives k keyword first test step (stmt_meaning body.0) p body.1
stmt-case (Stmt-F.Break keyword semicolon) k p = whole-gives AssignsTyped V.Break (as-assigned V.Break [] assigned-Break tt)
stmt-case (Stmt-F.Continue keyword semicolon) k p = whole-gives AssignsTyped V.Continue (as-assigned V.Continue [] assigned-Continue tt)
stmt-case (Stmt-F.Return keyword e semicolon) k p = returned-gives k keyword e
stmt-case (Stmt-F.Call of opening arguments closing semicolon) k p = call-gives k of (map E.meaning arguments)
stmt-case (Stmt-F.Assign to op at e semicolon) k p = assign-gives k true to op at e p.names
stmt-case (Stmt-F.Postfix name ss op at semicolon) k p = counted-gives k name op at ss p.names
stmt-case (Stmt-F.Prefix op at name ss semicolon) k p = counted-gives k name op at ss p.names
stmt-case (Stmt-F.Empty semicolon) k p = whole-gives AssignsTyped empty empty-typed

item-level : (y : BlockItem-F AnItem ACase AStmt AnElse) → OfPart (item_meaning (roll-BlockItem (item_in y)))
item-level y = subst OfPart (sym (fold-roll-BlockItem PartMeaning CaseMeaning StmtMeaning StmtMeaning S.item_step S.case_step S.stmt_step S.else_step (item_in y))) (item-case y)

found-level : (y : CaseItem-F AnItem ACase AStmt AnElse) → OfCase (case_meaning (roll-CaseItem (case_in y)))
found-level y = subst OfCase (sym (fold-roll-CaseItem PartMeaning CaseMeaning StmtMeaning StmtMeaning S.item_step S.case_step S.stmt_step S.else_step (case_in y))) (found-case y)

stmt-level : (y : Stmt-F AnItem ACase AStmt AnElse) → OfStmt (stmt_meaning (roll-Stmt (stmt_in y)))
stmt-level y = subst OfStmt (sym (fold-roll-Stmt PartMeaning CaseMeaning StmtMeaning StmtMeaning S.item_step S.case_step S.stmt_step S.else_step (stmt_in y))) (stmt-case y)

else-level : (y : Else-F AnItem ACase AStmt AnElse) → OfStmt (else_meaning (roll-Else (else_in y)))
else-level y = subst OfStmt (sym (fold-roll-Else PartMeaning CaseMeaning StmtMeaning StmtMeaning S.item_step S.case_step S.stmt_step S.else_step (else_in y))) y.body.1

abbrev OfItem : BlockItem → Type 0
OfItem x = OfPart (item_meaning x)

abbrev OfFound : C.CaseItem → Type 0
OfFound x = OfCase (case_meaning x)

abbrev OfWritten : Stmt → Type 0
OfWritten x = OfStmt (stmt_meaning x)

abbrev OfElse : Else → Type 0
OfElse x = OfStmt (else_meaning x)

pub statement-typed : (s : Stmt) → OfStmt (stmt_meaning s)
statement-typed =
    ind-Stmt OfItem OfFound OfWritten OfElse (λ x y is. subst (λ z. OfItem (roll-BlockItem z)) is (item-level y)) (λ x y is. subst (λ z. OfFound (roll-CaseItem z)) is (found-level y))
    (λ x y is. subst (λ z. OfWritten (roll-Stmt z)) is (stmt-level y)) (λ x y is. subst (λ z. OfElse (roll-Else z)) is (else-level y))

item-typed-written : (x : BlockItem) → OfItem x
item-typed-written =
    ind-BlockItem OfItem OfFound OfWritten OfElse (λ x y is. subst (λ z. OfItem (roll-BlockItem z)) is (item-level y)) (λ x y is. subst (λ z. OfFound (roll-CaseItem z)) is (found-level y))
    (λ x y is. subst (λ z. OfWritten (roll-Stmt z)) is (stmt-level y)) (λ x y is. subst (λ z. OfElse (roll-Else z)) is (else-level y))

all-items-written : (items : List BlockItem) → AllParts (map item_meaning items)
all-items-written [] = tt
all-items-written (i ∷ items) = (item-typed-written i, all-items-written items)

pub block-typed : (k : Context) (items : List BlockItem) → PlainText k → Gives AssignsTyped (block k (map item_meaning items))
block-typed k items p = block-gives k (map item_meaning items) p (all-items-written items)
