-- Statements of a sound text, form by form.
use Rattle.std.proofs.Common.{◌≡◌, ℕ, Bool, true, false, cond, List, [], ◌∷◌, length, map, Option, Some, None, refl, sym, subst}
use Rattle.std.specs.Prelude.{Ok}
use Rattle.std.specs.Option.{option_map}
use Rattle.sv_tree.specs.declared.expressions.Expr as S
use Rattle.sv_tree.specs.declared.names.QualifiedName.{QualifiedName}
use Rattle.sv_tree.specs.declared.statements.CaseKeyword.{CaseKeyword}
use Rattle.sv_tree.specs.declared.statements.LoopStart.{LoopStart}
use Rattle.sv_tree.specs.declared.statements.LoopStep.{LoopStep}
use Rattle.sv_types.specs.declared.statement.Function.{Function}
use Rattle.sv_types.specs.declared.statement.Stmt as R
use Rattle.sv_types.specs.declared.statement.Stmt.TheVariants as V
use Rattle.sv_types.specs.declared.types.SvType.{SvType}
use Rattle.expr_type.specs.declared.operand.Valued.{Valued}
use Rattle.expr_type.specs.Typings.{Checked, Typing, whole, rule, checked, both, both_by, all, looked_at, tried}
use Rattle.expr_type.specs.Names.{Context, position, spot}
use Rattle.expr_type.specs.Operands.{Operand}
use Rattle.expr_type.specs.Forms.{finds_count, needed, with_other_count}
use Rattle.expr_type.specs.Expressions.{Meaning, operand}
use Rattle.expr_type.specs.Statements.{BlockPart, IsStatement, IsDeclared, PartMeaning, behind_part, block_parts, built, block, empty, returned, return_value, condition, Branches, branches, else_if, case_kind, CaseFound, CaseMeaning, case_stmt, LoopVariable, loop_variable, in_loop, id_of, loop_step, Control, control, Turns, turns, loop_stmt, Actual, ways, actuals, call_stmt_of, counted_call, call_stmt, StmtMeaning, Declared}
use Rattle.typing_fits.specs.Sound.{Sound, AllSound, SoundAlone, SoundFor}
use Rattle.typing_fits.specs.Operands.{SoundOperand, KnownCall}
use Rattle.typing_fits.proofs.Full.{and-left, and-right}
use Rattle.typing_fits.proofs.Given.{alone-later, for-later}
use Rattle.typing_fits.proofs.Joins.{is-alone}
use Rattle.typing_walks.specs.Keeps.{Kept, Keeps, AllKeep, AllHold, Lasts, Anything, Surrounded}
use Rattle.typing_walks.specs.Written.{is_written, if_there}
use Rattle.typing_walks.specs.WrittenTypes.{type_written}
use Rattle.typing_walks.proofs.Keeping as K
use Rattle.typing_walks.proofs.Knowing as N
use Rattle.typing_walks.proofs.Knowing.{IfKnown}
use Rattle.typing_walks.proofs.Lasting.{valued-lasts, any-lasts, call-lasts, all-valued}
use Rattle.typing_walks.proofs.Casts as C
use Rattle.routine_fits.specs.Sound.{SoundStmt, PerhapsSound}
use Rattle.routine_fits.specs.Targets.{SoundActual, AllSoundActuals, SoundFound, AllSoundFound}
use Rattle.routine_fits.proofs.Statements as T
use Rattle.routine_fits.proofs.Rules as G
use Rattle.routine_fits.proofs.Rules.{AllPartsSound}
use Rattle.stmt_laws.specs.Written.{start_written, step_written, exprs_written}
use Rattle.stmt_laws.specs.Sound.{SoundDeclared, SoundPart, NarrowResult, AroundStatements}
use Rattle.stmt_laws.proofs.Declared.{declared-lasts, behind-sound}
use Rattle.stmt_laws.proofs.Parts.{Looked, looked-lasts, stmt-lasts, sounds-later, actual-lasts, SoundVariable, variable-lasts, looked-keeps, tried-keeps, value-keeps, condition-keeps, AllMean, each-actual, variable-keeps, loop-behind, GivenTo, unknown-keeps, step-keeps}

-- items of blocks
part-lasts : Lasts SoundPart
part-lasts (IsStatement s) gs hs e x = stmt-lasts s gs hs e x
part-lasts (IsDeclared d) gs hs e x = declared-lasts d gs hs e x

all-parts : (ps : List BlockPart) (gs : List Function) → AllHold SoundPart ps gs → AllPartsSound ps gs
all-parts [] gs s = tt
all-parts (IsStatement x ∷ ps) gs s = (s.0, all-parts ps gs s.1)
all-parts (IsDeclared d ∷ ps) gs s = (s.0.locals, all-parts ps gs s.1)

-- branches
pub record SoundBranches (b : Branches) (gs : List Function) : Type 0 where
  pub body : SoundStmt b.body gs
  pub other : PerhapsSound b.other gs

-- items of a `case`
found-lasts : Lasts SoundFound
found-lasts c gs hs e s = record {
  default = s.default;
  values = λ vs h. sounds-later vs gs hs e (s.values vs h);
  body = λ x h. stmt-lasts x gs hs e (s.body x h);
}

all-found : (cs : List CaseFound) (gs : List Function) → AllHold SoundFound cs gs → AllSoundFound cs gs
all-found [] gs s = tt
all-found (c ∷ cs) gs s = (s.0, all-found cs gs s.1)

all-actuals : (as' : List Actual) (gs : List Function) → AllHold SoundActual as' gs → AllSoundActuals as' gs
all-actuals [] gs s = tt
all-actuals (a ∷ as') gs s = (s.0, all-actuals as' gs s.1)

-- turns of a loop whose variable has a type
pub record SoundControl (t : SvType) (c : Control) (gs : List Function) : Type 0 where
  pub test : SoundAlone c.test.expr gs
  pub step : SoundFor c.step t gs

pub record SoundTurns (t : SvType) (x : Turns) (gs : List Function) : Type 0 where
  pub control : SoundControl t x.control gs
  pub body : SoundStmt x.body gs

control-lasts : (t : SvType) → Lasts (SoundControl t)
control-lasts t c gs hs e s = record { test = alone-later c.test.expr gs hs e s.test; step = for-later c.step t gs hs e s.step }

abbrev TurnsOf : LoopVariable → Turns → List Function → Type 0
TurnsOf v t gs = SoundTurns v.id.of t gs

loop-sound : (k : Context) (at : ℕ) (v : LoopVariable) (t : Turns) (gs : List Function) → SoundVariable v gs → SoundTurns v.id.of t gs → SoundStmt (loop_stmt k at v t) gs
loop-sound k at v t gs s x =
    let is : v.first.of ≡ v.id.of = s.first.is in
    T.loop-sound v.id.number v.first t.control.test.expr t.control.step t.body (spot k.source at) gs
    (record { start = subst (λ u. SoundFor v.first u gs) (sym is) s.first.sound; until = x.control.test; onward = subst (λ u. SoundFor t.control.step u gs) (sym is) x.control.step }) x.body

module _ (Q : List Function → Type 0) where
  abbrev pub OfPart : PartMeaning → Type 0
  OfPart m = (k : Context) → AroundStatements Q k → Keeps Q SoundPart (m k)

  abbrev pub OfStmt : StmtMeaning → Type 0
  OfStmt m = (k : Context) → AroundStatements Q k → Keeps Q SoundStmt (m k)

  abbrev pub OfCase : CaseMeaning → Type 0
  OfCase m = (k : Context) → AroundStatements Q k → Keeps Q SoundFound (m k)

  abbrev pub AllParts : List PartMeaning → Type 0
  AllParts [] = Unit {0}
  AllParts (m ∷ ms) = OfPart m × AllParts ms

  abbrev pub AllCases : List CaseMeaning → Type 0
  AllCases [] = Unit {0}
  AllCases (m ∷ ms) = OfCase m × AllCases ms

  abbrev pub ElseIf : Option StmtMeaning → Type 0
  ElseIf None = Unit {0}
  ElseIf (Some m) = OfStmt m

  -- blocks
  stands-behind : (k : Context) (d : Declared) (gs : List Function) → AroundStatements Q k → SoundDeclared d gs → AroundStatements Q (behind_part k (Some (IsDeclared d)))
  stands-behind k d gs r s = record { around = behind-sound Q k d gs r.around s; result = r.result }

  behind-known : (k : Context) (o : Option BlockPart) (gs : List Function) → AroundStatements Q k → IfKnown SoundPart o gs → AroundStatements Q (behind_part k o)
  behind-known k None gs r s = r
  behind-known k (Some (IsStatement x)) gs r s = r
  behind-known k (Some (IsDeclared d)) gs r s = stands-behind k d gs r s

  parts-keep : (k : Context) (ms : List PartMeaning) → AroundStatements Q k → AllParts ms → Keeps Q (λ ps gs. AllHold SoundPart ps gs) (block_parts k ms)
  parts-keep k [] r h = K.whole-keeps Q (λ ps gs. AllHold SoundPart ps gs) [] (λ gs. tt)
  parts-keep k (m ∷ ms) r h =
      N.by-keeps Q SoundPart (λ ps gs. AllHold SoundPart ps gs) (λ ps gs. AllHold SoundPart ps gs) (m k) (λ o. block_parts (behind_part k o) ms) (λ p ps. whole (p ∷ ps)) part-lasts (h.0 k r)
      (λ o gs q s. parts-keep (behind_part k o) ms (behind-known k o gs r s) h.1 gs q) (λ p ps js q s t. K.whole-kept Q (λ xs gs. AllHold SoundPart xs gs) (p ∷ ps) js q (s, t))

  pub block-keeps : (k : Context) (ms : List PartMeaning) → AroundStatements Q k → AllParts ms → Keeps Q SoundStmt (block k ms)
  block-keeps k ms r h =
      K.checked-keeps Q (λ ps gs. AllHold SoundPart ps gs) SoundStmt (block_parts k ms) (λ qs. let b = built qs in whole (V.Block b.locals b.body)) (parts-keep k ms r h)
      (λ qs js q s. K.whole-kept Q SoundStmt (V.Block (built qs).locals (built qs).body) js q (G.block-sound qs js (all-parts qs js s)))

  pub declared-part : (x : Typing Declared) → Keeps Q SoundDeclared x → Keeps Q SoundPart (checked x (λ d. whole (IsDeclared d)))
  declared-part x h = K.checked-keeps Q SoundDeclared SoundPart x (λ d. whole (IsDeclared d)) h (λ d js q s. K.whole-kept Q SoundPart (IsDeclared d) js q s)

  pub statement-part : (x : Typing R.Stmt) → Keeps Q SoundStmt x → Keeps Q SoundPart (checked x (λ t. whole (IsStatement t)))
  statement-part x h = K.checked-keeps Q SoundStmt SoundPart x (λ t. whole (IsStatement t)) h (λ t js q s. K.whole-kept Q SoundPart (IsStatement t) js q s)

  -- statements without parts
  pub empty-keeps : Keeps Q SoundStmt (whole empty)
  empty-keeps = K.whole-keeps Q SoundStmt empty (λ gs. T.block-sound [] [] gs tt tt)

  pub break-keeps : Keeps Q SoundStmt (whole V.Break)
  break-keeps = K.whole-keeps Q SoundStmt V.Break (λ gs. T.break-sound gs)

  pub continue-keeps : Keeps Q SoundStmt (whole V.Continue)
  continue-keeps = K.whole-keeps Q SoundStmt V.Continue (λ gs. T.continue-sound gs)

  result-by : (k : Context) (at : ℕ) (t : Option SvType) (o : Operand) (s : R.Stmt) (gs : List Function) → return_value k at t o ≡ Ok s → NarrowResult t → SoundOperand o gs → SoundStmt s gs
  result-by k at None o s gs h narrow x = absurd (cc)
  result-by k at (Some t) o s gs h narrow x = G.return-sound k at t o s gs h narrow x

  pub returned-keeps : (k : Context) (at : ℕ) (o : Option S.Expr) → AroundStatements Q k → if_there (option_map is_written o) ≡ true → Keeps Q SoundStmt (returned k at o)
  returned-keeps k at None r w = K.whole-keeps Q SoundStmt V.Return (λ gs. T.return-sound gs)
  returned-keeps k at (Some e) r w =
      K.checked-keeps Q SoundOperand SoundStmt (operand k e) (λ o. rule (return_value k at k.result o)) (value-keeps Q k e r.around w)
      (λ o js q s. K.rule-kept Q SoundStmt (return_value k at k.result o) js q (λ x h. result-by k at k.result o x js h r.result s))

  -- `if`
  else-keeps : (k : Context) (o : Option StmtMeaning) → AroundStatements Q k → ElseIf o → Keeps Q PerhapsSound (else_if k o)
  else-keeps k None r h = K.whole-keeps Q PerhapsSound None (λ gs. tt)
  else-keeps k (Some m) r h = K.checked-keeps Q SoundStmt PerhapsSound (m k) (λ t. whole (Some t)) (h k r) (λ t js q s. K.whole-kept Q PerhapsSound (Some t) js q s)

  branches-keep : (k : Context) (body : StmtMeaning) (other : Option StmtMeaning) → AroundStatements Q k → OfStmt body → ElseIf other → Keeps Q SoundBranches (both (body k) (else_if k other) branches)
  branches-keep k body other r h g =
      K.both-keeps Q SoundStmt PerhapsSound SoundBranches (body k) (else_if k other) branches stmt-lasts (h k r) (else-keeps k other r g)
      (λ s o js q x y. K.whole-kept Q SoundBranches (record { body = s; other = o }) js q (record { body = x; other = y }))

  pub if-keeps : (k : Context) (test : S.Expr) (body : StmtMeaning) (other : Option StmtMeaning) → AroundStatements Q k → is_written test ≡ true → OfStmt body → ElseIf other
      → Keeps Q SoundStmt (both (condition k test) (both (body k) (else_if k other) branches) (λ v b. whole (V.If v.expr b.body b.other)))
  if-keeps k test body other r w h g =
      K.both-keeps Q Sound SoundBranches SoundStmt (condition k test) (both (body k) (else_if k other) branches) (λ v b. whole (V.If v.expr b.body b.other)) valued-lasts (condition-keeps Q k test r.around w) (branches-keep k body other r h g)
      (λ v b js q x y. K.whole-kept Q SoundStmt (V.If v.expr b.body b.other) js q (T.if-sound v.expr b.body b.other js (is-alone v js x) y.body y.other))

  -- `case`
  each-condition : (k : Context) (es : List S.Expr) → Surrounded Q k → exprs_written es ≡ true → AllKeep Q Sound (map (condition k) es)
  each-condition k [] r w = tt
  each-condition k (e ∷ es) r w = (condition-keeps Q k e r (and-left (is_written e) (exprs_written es) w), each-condition k es r (and-right (is_written e) (exprs_written es) w))

  abbrev Values : List Valued → List Function → Type 0
  Values vs gs = AllHold Sound vs gs

  values-keep : (k : Context) (es : List S.Expr) → Surrounded Q k → exprs_written es ≡ true → Keeps Q Values (all (map (condition k) es))
  values-keep k es r w = K.all-keeps Q Sound (map (condition k) es) valued-lasts (each-condition k es r w)

  values-last : Lasts Values
  values-last vs gs hs e s = K.all-last Q Sound valued-lasts vs gs hs e s

  no-default : (c : Checked (List Valued)) → false ≡ true → c ≡ Ok []
  no-default c h = absurd (cc)

  pub case-values : (k : Context) (es : List S.Expr) (body : StmtMeaning) → AroundStatements Q k → exprs_written es ≡ true → OfStmt body
      → Keeps Q SoundFound (both (looked_at (all (map (condition k) es))) (tried (body k)) (λ vs s. whole (record { is_default = false; values = vs; body = s })))
  case-values k es body r w h =
      K.both-keeps Q (Looked Values) (Looked SoundStmt) SoundFound (looked_at (all (map (condition k) es))) (tried (body k)) (λ vs s. whole (record { is_default = false; values = vs; body = s })) (looked-lasts Values values-last)
      (looked-keeps Q Values (all (map (condition k) es)) (values-keep k es r.around w)) (tried-keeps Q SoundStmt (body k) (h k r))
      (λ vs s js q x y. K.whole-kept Q SoundFound (record { is_default = false; values = vs; body = s }) js q (record { default = no-default vs; values = λ us g. all-valued us js (x us g); body = y }))

  abbrev values_ok : List Valued → Checked (List Valued)
  values_ok vs = Ok vs

  none-sound : (vs : List Valued) (gs : List Function) → values_ok [] ≡ Ok vs → AllSound vs gs
  none-sound vs gs h = let is : [] ≡ vs = cc in subst (λ us. AllSound us gs) is tt

  pub case-default : (k : Context) (body : StmtMeaning) → AroundStatements Q k → OfStmt body → Keeps Q SoundFound (checked (tried (body k)) (λ s. whole (record { is_default = true; values = Ok []; body = s })))
  case-default k body r h =
      K.checked-keeps Q (Looked SoundStmt) SoundFound (tried (body k)) (λ s. whole (record { is_default = true; values = Ok []; body = s })) (tried-keeps Q SoundStmt (body k) (h k r))
      (λ s js q x. K.whole-kept Q SoundFound (record { is_default = true; values = Ok []; body = s }) js q (record { default = λ e. refl; values = λ vs g. none-sound vs js g; body = x }))

  each-case : (k : Context) (ms : List CaseMeaning) → AroundStatements Q k → AllCases ms → AllKeep Q SoundFound (map (λ (c : CaseMeaning). c k) ms)
  each-case k [] r h = tt
  each-case k (m ∷ ms) r h = (h.0 k r, each-case k ms r h.1)

  pub case-keeps : (k : Context) (keyword : CaseKeyword) (sought : S.Expr) (items : List CaseMeaning) → AroundStatements Q k → is_written sought ≡ true → AllCases items
      → Keeps Q SoundStmt (both (looked_at (condition k sought)) (all (map (λ (c : CaseMeaning). c k) items)) (λ v cs. rule (case_stmt k (case_kind keyword) v cs)))
  case-keeps k keyword sought items r w h =
      K.both-keeps Q (Looked Sound) (λ cs gs. AllHold SoundFound cs gs) SoundStmt (looked_at (condition k sought)) (all (map (λ (c : CaseMeaning). c k) items)) (λ v cs. rule (case_stmt k (case_kind keyword) v cs)) (looked-lasts Sound valued-lasts)
      (looked-keeps Q Sound (condition k sought) (condition-keeps Q k sought r.around w)) (K.all-keeps Q SoundFound (map (λ (c : CaseMeaning). c k) items) found-lasts (each-case k items r h))
      (λ v cs js q x y. K.rule-kept Q SoundStmt (case_stmt k (case_kind keyword) v cs) js q (λ s g. G.case-sound k (case_kind keyword) v cs s js g x (all-found cs js y)))

  -- `for`
  abbrev loop_in : Context → S.Expr → LoopStep → StmtMeaning → Option LoopVariable → Typing Turns
  loop_in k test step body o = let inner = in_loop k o in both (both (condition inner test) (loop_step inner (id_of o) step) control) (body inner) turns

  control-keeps : (k : Context) (test : S.Expr) (v : LoopVariable) (step : LoopStep) → Surrounded Q k → is_written test ≡ true → Keeps Q (GivenTo v.id.of) (loop_step k (Some v.id) step)
      → Keeps Q (SoundControl v.id.of) (both (condition k test) (loop_step k (Some v.id) step) control)
  control-keeps k test v step r w h =
      K.both-keeps Q Sound (GivenTo v.id.of) (SoundControl v.id.of) (condition k test) (loop_step k (Some v.id) step) control valued-lasts (condition-keeps Q k test r w) h
      (λ x e js q y z. K.whole-kept Q (SoundControl v.id.of) (record { test = x; step = e }) js q (record { test = is-alone x js y; step = z }))

  turns-known : (k : Context) (test : S.Expr) (step : LoopStep) (body : StmtMeaning) (v : LoopVariable) (gs : List Function) → AroundStatements Q k → is_written test ≡ true → step_written step ≡ true
      → OfStmt body → SoundVariable v gs → Keeps Q (SoundTurns v.id.of) (loop_in k test step body (Some v))
  turns-known k test step body v gs r w u h s =
      let inner = in_loop k (Some v) in
      let around = loop-behind Q k v gs r.around s in
      let stands : AroundStatements Q inner = record { around = around; result = r.result } in
      K.both-keeps Q (SoundControl v.id.of) SoundStmt (SoundTurns v.id.of) (both (condition inner test) (loop_step inner (Some v.id) step) control) (body inner) turns (control-lasts v.id.of)
      (control-keeps inner test v step around w (step-keeps Q inner step v.id around u s.of)) (h inner stands)
      (λ c b js q x y. K.whole-kept Q (SoundTurns v.id.of) (record { control = c; body = b }) js q (record { control = x; body = y }))

  turns-anywhere : (k : Context) (test : S.Expr) (step : LoopStep) (body : StmtMeaning) → AroundStatements Q k → is_written test ≡ true → step_written step ≡ true → OfStmt body → Keeps Q Anything (loop_in k test step body None)
  turns-anywhere k test step body r w u h =
      K.both-keeps Q Anything SoundStmt Anything (both (condition k test) (loop_step k None step) control) (body k) turns any-lasts
      (K.both-keeps Q Sound Anything Anything (condition k test) (loop_step k None step) control valued-lasts (condition-keeps Q k test r.around w) (unknown-keeps Q k step r.around u)
      (λ v e js q x y. K.whole-kept Q Anything (record { test = v; step = e }) js q tt)) (h k r)
      (λ c b js q x y. K.whole-kept Q Anything (record { control = c; body = b }) js q tt)

  turns-keep : (k : Context) (test : S.Expr) (step : LoopStep) (body : StmtMeaning) (o : Option LoopVariable) (gs : List Function) → AroundStatements Q k → is_written test ≡ true → step_written step ≡ true
      → OfStmt body → Q gs → IfKnown SoundVariable o gs → Kept Turns Q (N.KnownWith Q TurnsOf o) gs (loop_in k test step body o gs)
  turns-keep k test step body None gs r w u h q s = let c = turns-anywhere k test step body r w u h gs q in record { extends = c.extends; kept = c.kept; sound = λ t e. tt }
  turns-keep k test step body (Some v) gs r w u h q s = turns-known k test step body v gs r w u h s gs q

  pub loop-keeps : (k : Context) (keyword : ℕ) (first : LoopStart) (test : S.Expr) (step : LoopStep) (body : StmtMeaning) → AroundStatements Q k → start_written first ≡ true → is_written test ≡ true → step_written step ≡ true
      → OfStmt body → Keeps Q SoundStmt (both_by (loop_variable k first) (loop_in k test step body) (λ v t. whole (loop_stmt k keyword v t)))
  loop-keeps k keyword first test step body r v w u h =
      N.with-keeps Q SoundVariable TurnsOf SoundStmt (loop_variable k first) (loop_in k test step body) (λ x t. whole (loop_stmt k keyword x t)) variable-lasts
      (variable-keeps Q k first r.around (and-left (type_written first.of) (is_written first.value) v) (and-right (type_written first.of) (is_written first.value) v))
      (λ o gs q s. turns-keep k test step body o gs r w u h q s) (λ x t js q s y. K.whole-kept Q SoundStmt (loop_stmt k keyword x t) js q (loop-sound k keyword x t js s y))

  -- calls
  counted-keeps : (k : Context) (of : QualifiedName) (es : List Meaning) → Surrounded Q k → AllMean Q es → Keeps Q SoundStmt (counted_call k of es)
  counted-keeps k of es r s =
      N.by-keeps Q KnownCall (λ as' gs. AllHold SoundActual as' gs) SoundStmt (needed k of.name (k.finds of)) (λ o. all (actuals k (ways o) es)) (λ c as'. rule (call_stmt_of k of.name c as')) call-lasts
      (C.needed-keeps Q k of.name (k.finds of) r) (λ o gs q x. K.all-keeps Q SoundActual (actuals k (ways o) es) actual-lasts (each-actual Q k (ways o) es r s) gs q)
      (λ c as' js q x y. K.rule-kept Q SoundStmt (call_stmt_of k of.name c as') js q (λ t h. G.call-sound k of.name c as' t js h x (all-actuals as' js y)))

  call-by : (k : Context) (of : QualifiedName) (es : List Meaning) (b : Bool) → Surrounded Q k → AllMean Q es
      → Keeps Q SoundStmt (cond b (counted_call k of es) (with_other_count (position k.source of.name) (needed k of.name (k.finds of)) (all (actuals k [] es))))
  call-by k of es true r s = counted-keeps k of es r s
  call-by k of es false r s = C.other-keeps Q SoundStmt (position k.source of.name) (needed k of.name (k.finds of)) (all (actuals k [] es)) (C.needed-keeps Q k of.name (k.finds of) r)

  pub call-keeps : (k : Context) (of : QualifiedName) (es : List Meaning) → Surrounded Q k → AllMean Q es → Keeps Q SoundStmt (call_stmt k of es)
  call-keeps k of es r s = call-by k of es (finds_count k (k.finds of) (length es)) r s
