-- The rows of the table, each with what it means.
use Rattle.std.proofs.Common.{◌≡◌, ℕ, zero, suc, true, false, List, [], ◌∷◌, ◌++◌, Some, None, refl, subst, slice_get}
use Rattle.ll_engine.specs.declared.table.Row.{Row}
use Rattle.v_tree.specs.declared.expressions.VExtent.TheVariants.{Down, Up}
use Rattle.v_tree.specs.declared.expressions.VExpr.TheVariants as E
use Rattle.v_tree.specs.declared.expressions.VPrim.TheVariants as O
use Rattle.v_tree.specs.declared.items.VInit.TheVariants as V
use Rattle.v_tree.specs.declared.items.VItem.TheVariants as I
use Rattle.v_tree.specs.declared.items.VProcess.TheVariants.{Assign, Always}
use Rattle.v_tree.specs.declared.items.VRegRest.TheVariants as R
use Rattle.v_tree.specs.declared.items.VSensitivity.TheVariants.{Star}
use Rattle.v_tree.specs.declared.items.VSignal.TheVariants.{Input, Output, OutputReg, Wire, Reg}
use Rattle.v_tree.specs.declared.operators.VBinaryOp.TheVariants as B
use Rattle.v_tree.specs.declared.operators.VUnaryOp.TheVariants as U
use Rattle.v_tree.specs.declared.parts.VPart.{VPart}
use Rattle.v_tree.specs.declared.statements.VBranch.TheVariants as G
use Rattle.v_tree.specs.declared.statements.VCaseItem.TheVariants as C
use Rattle.v_tree.specs.declared.statements.VCaseKind.TheVariants.{Plain, Z, X}
use Rattle.v_tree.specs.declared.statements.VLval.TheVariants as L
use Rattle.v_tree.specs.declared.statements.VStmt.TheVariants as T
use Rattle.v_tree.specs.Grammatical.{form_of_stmt, form_of_branch, is_number, is_declared, is_init, is_rest, is_lval, is_expr, is_branch, is_sensitivity, is_connection}
use Rattle.v_tree.specs.Meaning.{text_meanings, item_meanings, statement_meanings, target_meanings, expression_meanings, operator_meanings, row_meanings, by_row}
use Rattle.v_tree.specs.Table.{table, text_rows, item_rows, statement_rows, target_rows, expression_rows, operator_rows}
use Rattle.v_tree.specs.Tokens.{is_name}
use Rattle.std.specs.List.{list_all}
use Rattle.v_grammar.proofs.Lists.{both, three}
use Rattle.v_grammar.proofs.Levels as F
use Rattle.v_grammar.proofs.Meant.{Kind, Base, Tail, Behind, NoElse, made, RowGives}
use Rattle.v_grammar.proofs.Rows as W

-- each row and its meaning
infixr 20 ◌⨾◌
pub data AllRows : List Row → List (List VPart → VPart) → Type 0 where
  none : AllRows [] []
  ◌⨾◌ : {row : Row} {rows : List Row} {f : List VPart → VPart} {fs : List (List VPart → VPart)} → RowGives row f → AllRows rows fs → AllRows (row ∷ rows) (f ∷ fs)

text-rows : AllRows text_rows text_meanings
text-rows =
    (λ d x y ms hs m e. W.text-good d y ms hs)
    ⨾ (λ d x y m1 r1 m2 r2 n hn. (λ b m3 ps hp m4 r4 is hs m5 m6 r6 e. W.module-with d y n ps is hn hp hs, λ b m4 r4 is hs m5 m6 r6 e. W.module-without d y n is hn hs))
    ⨾ (λ d x y m1 r1 m2 r2 n hn ns hs m3 m4 r4 e. W.names-good d y n ns hn hs)
    ⨾ (λ d x y m1 r1 m2 r2 n hn e. made Kind.name d y n hn)
    ⨾ none

item-rows : AllRows item_rows item_meanings
item-rows =
    (λ d x y m1 r1. (
      λ b m2 l hl m3 r3 n hn m4 r4 e. made Kind.item d y (I.Signal (Input (Some l) n)) (W.declared-is (Some l) n hl hn),
      λ b m3 r3 n hn m4 r4 e. made Kind.item d y (I.Signal (Input None n)) (W.declared-is None n refl hn),
    ))
    ⨾ (λ d x y m1 r1 m2 i hi e. made Kind.item d y i hi)
    ⨾ (λ d x y m1 r1. (
      λ b m2 l hl m3 r3 n hn m4 r4 e. made Kind.item d y (I.Signal (Wire (Some l) n)) (W.declared-is (Some l) n hl hn),
      λ b m3 r3 n hn m4 r4 e. made Kind.item d y (I.Signal (Wire None n)) (W.declared-is None n refl hn),
    ))
    ⨾ (λ d x y m1 r1. (
      λ b m2 l hl m3 r3 n hn. (
        λ c m4 v hv m5 r5 e. made Kind.item d y (I.Signal (Reg (Some l) n (Some v))) (both (is_declared (Some l) n) (is_rest v) (W.declared-is (Some l) n hl hn) hv),
        λ c m5 r5 e. made Kind.item d y (I.Signal (Reg (Some l) n None)) (both (is_declared (Some l) n) true (W.declared-is (Some l) n hl hn) refl),
      ),
      λ b m3 r3 n hn. (
        λ c m4 v hv m5 r5 e. made Kind.item d y (I.Signal (Reg None n (Some v))) (both (is_declared None n) (is_rest v) (W.declared-is None n refl hn) hv),
        λ c m5 r5 e. made Kind.item d y (I.Signal (Reg None n None)) (both (is_declared None n) true (W.declared-is None n refl hn) refl),
      ),
    ))
    ⨾ (λ d x y m1 r1 m2 r2 n hn m3 r3 m4 r4 bits hb m5 r5 e. made Kind.item d y (I.Initial (record { name = n; value = bits })) (both (is_name n) (is_number bits) hn hb))
    ⨾ (λ d x y m1 r1 m2 l hl m3 r3 m4 v hv m5 r5 e. made Kind.item d y (I.Process (Assign l v)) (both (is_lval l) (is_expr v) (F.lval-within d l hl) (F.expr-within d v hv)))
    ⨾ (λ d x y m1 r1 m2 r2 m3 on ho m4 b hb e. made Kind.item d y (I.Process (Always on b)) (both (is_sensitivity on) (is_branch b) ho (F.branch-within d m4 b hb)))
    ⨾ (λ d x y m1 r1. (
      λ b m2 l hl m3 r3 n hn m4 r4 m5 i hi is his m6 ls hls m7 m8 s hs m9 r9 e. W.function-with d y m8 n i is ls s l hl hn hi his hls hs,
      λ b m3 r3 n hn m4 r4 m5 i hi is his m6 ls hls m7 m8 s hs m9 r9 e. W.function-without d y m8 n i is ls s hn hi his hls hs,
    ))
    ⨾ (λ d x y m1 r1 of hof m2 r2 n hn m3 r3. (
      λ b m4 cs hcs m5 r5 m6 r6 e. made Kind.item d y (I.Instance (record { of = of; name = n; connections = cs })) (three (is_name of) (is_name n) (list_all is_connection cs) hof hn hcs),
      λ b m5 r5 m6 r6 e. made Kind.item d y (I.Instance (record { of = of; name = n; connections = [] })) (three (is_name of) (is_name n) true hof hn refl),
    ))
    ⨾ (λ d x y. (
      λ b m2 l hl m3 r3 n hn m4 r4 e. made Kind.item d y (I.Signal (Output (Some l) n)) (W.declared-is (Some l) n hl hn),
      λ b m3 r3 n hn m4 r4 e. made Kind.item d y (I.Signal (Output None n)) (W.declared-is None n refl hn),
    ))
    ⨾ (λ d x y m1 r1. (
      λ b m2 l hl m3 r3 n hn. (
        λ c m4 v hv m5 r5 e. made Kind.item d y (I.Signal (OutputReg (Some l) n (Some v))) (both (is_declared (Some l) n) (is_init v) (W.declared-is (Some l) n hl hn) hv),
        λ c m5 r5 e. made Kind.item d y (I.Signal (OutputReg (Some l) n None)) (both (is_declared (Some l) n) true (W.declared-is (Some l) n hl hn) refl),
      ),
      λ b m3 r3 n hn. (
        λ c m4 v hv m5 r5 e. made Kind.item d y (I.Signal (OutputReg None n (Some v))) (both (is_declared None n) (is_init v) (W.declared-is None n refl hn) hv),
        λ c m5 r5 e. made Kind.item d y (I.Signal (OutputReg None n None)) (both (is_declared None n) true (W.declared-is None n refl hn) refl),
      ),
    ))
    ⨾ (λ d x y m v h e. made Kind.rest d y v h)
    ⨾ (λ d x y m v h e. made Kind.rest d y (R.Initial v) h)
    ⨾ (λ d x y m l h e. made Kind.rest d y (R.Memory l) h)
    ⨾ (λ d x y m1 r1 m v h e. made Kind.initial d y v h)
    ⨾ (λ d x y m r bits h e. made Kind.initial d y (V.Number bits) h)
    ⨾ (λ d x y m1 r1 m2 r2 b h bs hs m3 m4 r4 e. W.pieces-good d y b bs h hs)
    ⨾ (λ d x y m1 r1 m2 r2 bits h e. made Kind.number d y bits h)
    ⨾ (λ d x y m1 r1. (
      λ b m2 l hl m3 r3 n hn m4 r4 e. made Kind.input d y (record { range = Some l; name = n }) (W.local-is (Some l) n hl hn),
      λ b m3 r3 n hn m4 r4 e. made Kind.input d y (record { range = None; name = n }) (W.local-is None n refl hn),
    ))
    ⨾ (λ d x y m1 r1. (
      λ b m2 l hl m3 r3 n hn m4 r4 e. made Kind.local d y (record { range = Some l; name = n }) (W.local-is (Some l) n hl hn),
      λ b m3 r3 n hn m4 r4 e. made Kind.local d y (record { range = None; name = n }) (W.local-is None n refl hn),
    ))
    ⨾ (λ d x y m1 r1 m2 n h m3 r3 m4 r4 z hz m5 r5 e. made Kind.range d y n h)
    ⨾ (λ d x y m r n h e. made Kind.bound d y n h)
    ⨾ (λ d x y m r n h e. made Kind.bound d y n h)
    ⨾ none

statement-rows : AllRows statement_rows statement_meanings
statement-rows =
    (λ d x y m r e. made Kind.event d y Star refl)
    ⨾ (λ d x y m1 r1 m2 v h vs hs m3 m4 r4 e. W.edges-good d y v vs h hs)
    ⨾ (λ d x y m1 r1 m2 v h e. made Kind.edge d y v h)
    ⨾ (λ d x y m1 r1 m2 r2 n h e. made Kind.edge d y (record { rising = true; name = n }) h)
    ⨾ (λ d x y m1 r1 m2 r2 n h e. made Kind.edge d y (record { rising = false; name = n }) h)
    ⨾ (λ d x y m1 c h cs hs m2 e. W.connections-good d y c cs h hs)
    ⨾ (λ d x y m1 r1 m2 c h e. made Kind.connection d y c h)
    ⨾ (λ d x y m1 r1 m2 r2 n hn m3 r3. (
      λ b m4 v hv m5 r5 e. made Kind.connection d y (record { port = n; value = Some v }) (both (is_name n) (is_expr v) hn (F.expr-within d v hv)),
      λ b m5 r5 e. made Kind.connection d y (record { port = n; value = None }) (both (is_name n) true hn refl),
    ))
    ⨾ (λ d x y m s h e. made Kind.branch d y (G.Statement s) (F.statement-at d y s (F.form-as d m y (form_of_stmt s) (form_of_stmt s) e refl h)))
    ⨾ (λ d x y m r e. made Kind.branch d y G.Empty (F.empty-at d y))
    ⨾ (λ d x y m1 r1. (λ b m2 l hl ss hs m3 m4 r4 e. W.block-with d y l ss r1 hl hs, λ b ss hs m3 m4 r4 e. W.block-without d y ss r1 hs))
    ⨾ (λ d x y m1 r1 m2 r2 m3 on ho m4 r4 m5 b hb. (
      λ begun m6 c hc e. made Kind.stmt d y (T.If on b (Some c)) (F.else-at d m5 y on b c r1 ho hb begun (F.form-as (suc d) m6 y (form_of_branch c) (form_of_branch c) e refl hc)),
      λ ends e. made Kind.stmt d y (T.If on b None) (F.if-at d m5 y on b r1 ho hb (subst NoElse e ends)),
    ))
    ⨾ (λ d x y m1 k hk m2 r2 m3 on ho m4 r4 m5 cs hc m6 r6 e. made Kind.stmt d y (T.Case k on cs) (F.case-at d y k on cs r2 ho hc))
    ⨾ (λ d x y m1 l hl m2 later ht m3 v hv m4 r4 e. made Kind.stmt d y (T.Assign l v later) (F.store-at d y l v later r4 hl hv))
    ⨾ (λ d x y m1 r1 m2 r2 n hn ls hs m3 e. W.label-good d y n ls hn hs)
    ⨾ (λ d x y m1 r1 m2 b hb e. made Kind.otherwise d y b (F.form-as d m2 y (form_of_branch b) (form_of_branch b) e refl hb))
    ⨾ (λ d x y m r e. made Kind.case_kind d y Plain tt)
    ⨾ (λ d x y m r e. made Kind.case_kind d y Z tt)
    ⨾ (λ d x y m r e. made Kind.case_kind d y X tt)
    ⨾ (λ d x y m1 c hc cs hs m2. (λ b m3 ds hd e. W.items-with d y c cs ds hc hs hd, λ b e. W.items-alone-good d y c cs hc hs))
    ⨾ (λ d x y m cs h e. made Kind.case_items d y cs h)
    ⨾ (λ d x y m1 c hc cs hs m2 e. W.default-good d y c cs hc hs)
    ⨾ (λ d x y m1 v hv vs hs m2 m3 r3 m4 b hb e. W.case-item-good d y m4 v vs b hv hs hb)
    ⨾ (λ d x y m1 r1 m2 r2 m3 b hb e. made Kind.case_default d y (C.Default b) (F.default-at d m3 b hb))
    ⨾ (λ d x y m1 r1 m2 v h e. made Kind.expr d y v h)
    ⨾ (λ d x y m r e. made Kind.later d y false tt)
    ⨾ (λ d x y m r e. made Kind.later d y true tt)
    ⨾ none

target-rows : AllRows target_rows target_meanings
target-rows =
    (λ d x y m1 r1 n hn. (λ b m2 ss hs e. made Kind.lval d y (L.Name n ss) (F.target-at d n ss hn hs), λ b e. made Kind.lval d y (L.Name n []) (F.target-at d n [] hn (F.no-sels d))))
    ⨾ (λ d x y m1 r1 m2 l hl ls hs m3 m4 r4 e. W.targets-good d y l ls r1 hl hs)
    ⨾ (λ d x y m1 r1 m2 l h e. made Kind.lval d y l h)
    ⨾ (λ d x y m1 s hs. (λ b m2 t ht e. made Kind.sels d y (s ∷ t ∷ []) (F.two-sels d s t hs ht), λ b e. made Kind.sels d y (s ∷ []) (F.one-sel d s hs)))
    ⨾ (λ d x y m1 r1 m2 b hb. (λ c m3 v hv m4 r4 e. W.select-with d y b v hb hv, λ c m4 r4 e. W.select-without d y b hb))
    ⨾ (λ d x y m n h e. made Kind.base d y (Base.fixed n) h)
    ⨾ (λ d x y m v h e. made Kind.base d y (Base.moving v) h)
    ⨾ (λ d x y m1 r1 m2 n h e. made Kind.extent d y (Down n) h)
    ⨾ (λ d x y m1 r1 m2 n h e. made Kind.extent d y (Up n) h)
    ⨾ none

expression-rows : AllRows expression_rows expression_meanings
expression-rows =
    (λ d x y m1 a ha. (λ b m2 t ht e. W.expression-good d y a t ha ht, λ b e. made Kind.expr d y (E.Prim a) (F.alone-at d a ha)))
    ⨾ (λ d x y m1 op r1 m2 a ha e. made Kind.expr d y (E.Unary op a) (F.unary-at d op a ha))
    ⨾ (λ d x y m1 op h m2 a ha e. made Kind.tail d y (Tail.right op a) ha)
    ⨾ (λ d x y m1 r1 m2 a ha m3 r3 m4 b hb e. made Kind.tail d y (Tail.arms a b) (record { left = ha; right = hb }))
    ⨾ (λ d x y m r bits h e. made Kind.prim d y (O.Number bits) (F.number-at d bits h r))
    ⨾ (λ d x y m1 r1 m2 v hv m3 r3 e. made Kind.prim d y (O.Paren v) (F.paren-at d v hv r1))
    ⨾ (λ d x y m1 r1 n hn. (λ b m2 t ht e. W.name-good d y n t hn ht r1, λ b e. made Kind.prim d y (O.Name n []) (F.name-at d n [] hn (F.no-sels d) r1)))
    ⨾ (λ d x y m1 r1 m2 a ha m3 r3 e. made Kind.prim d y a (F.in-room d a ha r1))
    ⨾ (λ d x y m1 signed h m2 r2 m3 v hv m4 r4 e. made Kind.prim d y (O.Sign signed v) (F.sign-at d signed v hv r2))
    ⨾ (λ d x y m1 r1 m2 v hv vs hs m3 m4 r4 e. W.arguments-good d y v vs hv hs)
    ⨾ (λ d x y m ss h e. made Kind.behind_name d y (Behind.sels ss) h)
    ⨾ (λ d x y m1 n hn m2 r2 m3 v hv vs hs m4 m5 r5 e. W.repeat-good d y n v vs hn hv hs)
    ⨾ (λ d x y m1 v hv vs hs m2 e. W.concat-good d y v vs hv hs)
    ⨾ (λ d x y m r e. made Kind.sign d y true tt)
    ⨾ (λ d x y m r e. made Kind.sign d y false tt)
    ⨾ none

operator-rows : AllRows operator_rows operator_meanings
operator-rows =
    (λ d x y m r e. made Kind.unary d y U.Not r)
    ⨾ (λ d x y m r e. made Kind.unary d y U.LogicalNot r)
    ⨾ (λ d x y m r e. made Kind.unary d y U.Neg r)
    ⨾ (λ d x y m r e. made Kind.unary d y U.And r)
    ⨾ (λ d x y m r e. made Kind.unary d y U.Nand r)
    ⨾ (λ d x y m r e. made Kind.unary d y U.Or r)
    ⨾ (λ d x y m r e. made Kind.unary d y U.Nor r)
    ⨾ (λ d x y m r e. made Kind.unary d y U.Xor r)
    ⨾ (λ d x y m r e. made Kind.unary d y U.Xnor r)
    ⨾ (λ d x y m r e. made Kind.binary d y B.Add tt)
    ⨾ (λ d x y m r e. made Kind.binary d y B.Sub tt)
    ⨾ (λ d x y m r e. made Kind.binary d y B.Mul tt)
    ⨾ (λ d x y m r e. made Kind.binary d y B.Div tt)
    ⨾ (λ d x y m r e. made Kind.binary d y B.Rem tt)
    ⨾ (λ d x y m r e. made Kind.binary d y B.Power tt)
    ⨾ (λ d x y m r e. made Kind.binary d y B.ShiftLeft tt)
    ⨾ (λ d x y m r e. made Kind.binary d y B.ShiftRight tt)
    ⨾ (λ d x y m r e. made Kind.binary d y B.ArithmeticLeft tt)
    ⨾ (λ d x y m r e. made Kind.binary d y B.ArithmeticRight tt)
    ⨾ (λ d x y m r e. made Kind.binary d y B.Less tt)
    ⨾ (λ d x y m r e. made Kind.binary d y B.LessEqual tt)
    ⨾ (λ d x y m r e. made Kind.binary d y B.Greater tt)
    ⨾ (λ d x y m r e. made Kind.binary d y B.GreaterEqual tt)
    ⨾ (λ d x y m r e. made Kind.binary d y B.Equal tt)
    ⨾ (λ d x y m r e. made Kind.binary d y B.NotEqual tt)
    ⨾ (λ d x y m r e. made Kind.binary d y B.CaseEqual tt)
    ⨾ (λ d x y m r e. made Kind.binary d y B.CaseNotEqual tt)
    ⨾ (λ d x y m r e. made Kind.binary d y B.And tt)
    ⨾ (λ d x y m r e. made Kind.binary d y B.Or tt)
    ⨾ (λ d x y m r e. made Kind.binary d y B.Xor tt)
    ⨾ (λ d x y m r e. made Kind.binary d y B.Xnor tt)
    ⨾ (λ d x y m r e. made Kind.binary d y B.LogicalAnd tt)
    ⨾ (λ d x y m r e. made Kind.binary d y B.LogicalOr tt)
    ⨾ none

joined-rows : {rows more : List Row} {fs gs : List (List VPart → VPart)} → AllRows rows fs → AllRows more gs → AllRows (rows ++ more) (fs ++ gs)
joined-rows none k = k
joined-rows (h ⨾ hs) k = h ⨾ joined-rows hs k

all-rows : AllRows table row_meanings
all-rows = joined-rows text-rows (joined-rows item-rows (joined-rows statement-rows (joined-rows target-rows (joined-rows expression-rows operator-rows))))

gives-as : {row : Row} (f : List VPart → VPart) (other : Row) → RowGives row f → row ≡ other → RowGives other f
gives-as f other k alike = subst (λ r. RowGives r f) alike k

row-in : {rows : List Row} {fs : List (List VPart → VPart)} (i : ℕ) (row : Row) → AllRows rows fs → slice_get rows i ≡ Some row → RowGives row (by_row (slice_get fs i))
row-in i row none is = absurd (cc)
row-in zero row (◌⨾◌ {row = r} {f = f} k ks) is = let alike : r ≡ row = cc in gives-as f row k alike
row-in (suc i) row (k ⨾ ks) is = row-in i row ks is

-- the meaning of a row of the table
pub row-gives : (i : ℕ) (row : Row) → slice_get table i ≡ Some row → RowGives row (by_row (slice_get row_meanings i))
row-gives i row is = row-in i row all-rows is
