-- What each row means is of its head's kind, where its parts are of theirs.
use Rattle.std.proofs.Common.{◌≡◌, ◌≤◌, ℕ, suc, true, false, ◌&&◌, List, [], ◌∷◌, ◌++◌, map, Option, Some, None, refl, ap, subst, ◌∙◌, append-nil}
use Rattle.std.specs.List.{list_all}
use Rattle.v_tree.specs.declared.expressions.VExpr.{VExpr}
use Rattle.v_tree.specs.declared.expressions.VExpr.TheVariants as E
use Rattle.v_tree.specs.declared.expressions.VExtent.{VExtent}
use Rattle.v_tree.specs.declared.expressions.VPrim.{VPrim}
use Rattle.v_tree.specs.declared.expressions.VPrim.TheVariants as O
use Rattle.v_tree.specs.declared.expressions.VSel.TheVariants as S
use Rattle.v_tree.specs.declared.items.VConnection.{VConnection}
use Rattle.v_tree.specs.declared.items.VEdge.{VEdge}
use Rattle.v_tree.specs.declared.items.VInit.TheVariants as V
use Rattle.v_tree.specs.declared.items.VItem.{VItem}
use Rattle.v_tree.specs.declared.items.VItem.TheVariants as I
use Rattle.v_tree.specs.declared.items.VLocal.{VLocal}
use Rattle.v_tree.specs.declared.items.VModule.{VModule}
use Rattle.v_tree.specs.declared.items.VSensitivity.TheVariants.{Edges}
use Rattle.v_tree.specs.declared.parts.VPart.{VPart}
use Rattle.v_tree.specs.declared.parts.VPart.TheVariants as P
use Rattle.v_tree.specs.declared.statements.VBranch.{VBranch}
use Rattle.v_tree.specs.declared.statements.VCaseItem.{VCaseItem}
use Rattle.v_tree.specs.declared.statements.VCaseItem.TheVariants as C
use Rattle.v_tree.specs.declared.statements.VLabel.{VLabel}
use Rattle.v_tree.specs.declared.statements.VLval.{VLval}
use Rattle.v_tree.specs.declared.statements.VLval.TheVariants as L
use Rattle.v_tree.specs.declared.statements.VStmt.{VStmt}
use Rattle.v_tree.specs.declared.statements.VStmt.TheVariants as T
use Rattle.v_tree.specs.Grammatical.{fit, fit_of_lval, form_of_stmt, form_of_branch, is_perhaps, is_number, is_decimal, is_extent, is_local, is_label, is_declared, is_connection, is_stmt, is_item, is_module}
use Rattle.v_tree.specs.Meaning.{given, text_of, module_of, ports_of, pieces_of, edges_of, connections_of, block_of, label_of, case_items_of, case_item_of, lvalues_of, select_of, expression_of, name_of, arguments_of, repeat_of, concat_of}
use Rattle.v_tree.specs.Parts.{all_of, first_of, listed, as_name, as_number, as_ports, as_range, as_input, as_local, as_edge, as_connection, as_label, as_stmt, as_branch, as_case_item, as_case_items, as_lval, as_expr, as_item, as_module}
use Rattle.v_tree.specs.Reading.{nesting_limit}
use Rattle.v_tree.specs.Tokens.{is_name}
use Rattle.v_tree.proofs.Fits.{fit_of_prim, form_of_case}
use Rattle.v_tree.proofs.Induction.{Each}
use Rattle.v_grammar.proofs.Lists.{both, three, past-first, past-all, made-alone, each-test, all-at, more-at, FormsAt, no-forms, ItemsAt, more-forms, no-items, items-more, items-of, plain-items, default-first, items-first}
use Rattle.v_grammar.proofs.Levels as F
use Rattle.v_grammar.proofs.Meant.{Kind, Base, Tail, Behind, base_part, tail_part, behind_part, Payload, make, FitsAt, PrimAt, FormAt, CaseAt, CasesAt, ArgsAt, BaseAt, TailAt, BehindAt, Good, made, Turn}

-- texts and modules
pub text-good : (d : ℕ) (y : Option ℕ) (ms : List VModule) → Each (Turn Kind.a_module d) ms → Good Kind.text d y (text_of (map (make Kind.a_module) ms ++ []))
text-good d y ms hs = record {
  of = ms;
  is = ap P.Text (made-alone as_module (make Kind.a_module) (λ m. refl) ms [] refl);
  holds = each-test is_module (Turn Kind.a_module d) (λ m t. t.holds) ms hs;
}

abbrev a_module : List ℕ → List (List ℕ) → List VItem → VModule
a_module n ps is = record { name = n; ports = ps; items = is }

module-is : (d : ℕ) (n : List ℕ) (ps : List (List ℕ)) (is : List VItem) → is_name n ≡ true → list_all is_name ps ≡ true → Each (Turn Kind.item d) is
    → is_module (a_module n ps is) ≡ true
module-is d n ps is hn hp hs =
    three (is_name n) (list_all is_name ps) (list_all is_item is) hn hp (each-test is_item (Turn Kind.item d) (λ i t. t.holds) is hs)

items-alone : (is : List VItem) → all_of as_item (map (make Kind.item) is ++ (P.Nothing ∷ [])) ≡ is
items-alone is = made-alone as_item (make Kind.item) (λ i. refl) is (P.Nothing ∷ []) refl

pub module-with : (d : ℕ) (y : Option ℕ) (n : List ℕ) (ps : List (List ℕ)) (is : List VItem) → is_name n ≡ true → list_all is_name ps ≡ true → Each (Turn Kind.item d) is
    → Good Kind.a_module d y (module_of (P.Nothing ∷ P.Name n ∷ P.Ports ps ∷ P.Nothing ∷ (map (make Kind.item) is ++ (P.Nothing ∷ []))))
module-with d y n ps is hn hp hs = record {
  of = a_module n ps is;
  is = ap (λ zs. P.Module (a_module n ps zs)) (items-alone is);
  holds = module-is d n ps is hn hp hs;
}

pub module-without : (d : ℕ) (y : Option ℕ) (n : List ℕ) (is : List VItem) → is_name n ≡ true → Each (Turn Kind.item d) is
    → Good Kind.a_module d y (module_of (P.Nothing ∷ P.Name n ∷ P.Nothing ∷ (map (make Kind.item) is ++ (P.Nothing ∷ []))))
module-without d y n is hn hs = record {
  of = a_module n [] is;
  is =
      ap (λ o. P.Module (a_module n (listed o) (all_of as_item (map (make Kind.item) is ++ (P.Nothing ∷ [])))))
      (past-first as_ports (make Kind.item) (λ i. refl) is (P.Nothing ∷ []))
      ∙ ap (λ zs. P.Module (a_module n [] zs)) (items-alone is);
  holds = module-is d n [] is hn refl hs;
}

pub names-good : (d : ℕ) (y : Option ℕ) (n : List ℕ) (ns : List (List ℕ)) → is_name n ≡ true → Each (Turn Kind.name d) ns
    → Good Kind.ports d y (ports_of (P.Nothing ∷ P.Name n ∷ (map (make Kind.name) ns ++ (P.Nothing ∷ []))))
names-good d y n ns h hs = record {
  of = n ∷ ns;
  is = ap (λ zs. P.Ports (n ∷ zs)) (made-alone as_name (make Kind.name) (λ i. refl) ns (P.Nothing ∷ []) refl);
  holds = both (is_name n) (list_all is_name ns) h (each-test is_name (Turn Kind.name d) (λ i t. t.holds) ns hs);
}

-- items
pub declared-is : (range : Option ℕ) (n : List ℕ) → is_perhaps is_decimal range ≡ true → is_name n ≡ true → is_declared range n ≡ true
declared-is range n h k = both (is_perhaps is_decimal range) (is_name n) h k

pub pieces-good : (d : ℕ) (y : Option ℕ) (b : Payload Kind.number) (bs : List (Payload Kind.number)) → is_number b ≡ true → Each (Turn Kind.number d) bs
    → Good Kind.initial d y (pieces_of (P.Nothing ∷ P.Number b ∷ (map (make Kind.number) bs ++ (P.Nothing ∷ []))))
pieces-good d y b bs h hs = record {
  of = V.Concat (b ∷ bs);
  is = ap (λ zs. P.Initial (V.Concat (b ∷ zs))) (made-alone as_number (make Kind.number) (λ i. refl) bs (P.Nothing ∷ []) refl);
  holds = both (is_number b) (list_all is_number bs) h (each-test is_number (Turn Kind.number d) (λ i t. t.holds) bs hs);
}

-- a function, from its body and its declarations
abbrev function_by : Option ℕ → List ℕ → Option VStmt → List VLocal → List VLocal → VPart
function_by range n o inputs locals = given o (λ s. P.Item (I.Function (record { range = range; name = n; inputs = inputs; locals = locals; body = s })))

module _ (d : ℕ) (y m : Option ℕ) (n : List ℕ) (i : VLocal) (is ls : List VLocal) (s : VStmt) where
  abbrev last : List VPart
  last = P.Stmt s ∷ P.Nothing ∷ []

  abbrev locals : List VPart
  locals = map (make Kind.local) ls ++ last

  abbrev inputs : List VPart
  inputs = map (make Kind.input) is ++ locals

  body-is : first_of as_stmt inputs ≡ Some s
  body-is = past-first as_stmt (make Kind.input) (λ i. refl) is locals ∙ past-first as_stmt (make Kind.local) (λ i. refl) ls last

  inputs-are : all_of as_input inputs ≡ is
  inputs-are = made-alone as_input (make Kind.input) (λ i. refl) is locals (past-all as_input (make Kind.local) (λ i. refl) ls last)

  locals-are : all_of as_local inputs ≡ ls
  locals-are = past-all as_local (make Kind.input) (λ i. refl) is locals ∙ made-alone as_local (make Kind.local) (λ i. refl) ls last refl

  no-range : first_of as_range inputs ≡ None
  no-range = past-first as_range (make Kind.input) (λ i. refl) is locals ∙ past-first as_range (make Kind.local) (λ i. refl) ls last

  function-is : (range : Option ℕ) → is_perhaps is_decimal range ≡ true → is_name n ≡ true → is_local i ≡ true → Each (Turn Kind.input d) is → Each (Turn Kind.local d) ls
      → FormAt d m (form_of_stmt s) → is_item (I.Function (record { range = range; name = n; inputs = i ∷ is; locals = ls; body = s })) ≡ true
  function-is range hr hn hi his hls hs =
      let all_inputs = both (is_local i) (list_all is_local is) hi (each-test is_local (Turn Kind.input d) (λ i t. t.holds) is his) in
      let all_locals = each-test is_local (Turn Kind.local d) (λ i t. t.holds) ls hls in
      three (is_declared range n && true && list_all is_local (i ∷ is)) (list_all is_local ls) (is_stmt s)
      (three (is_declared range n) true (list_all is_local (i ∷ is)) (declared-is range n hr hn) refl all_inputs) all_locals (F.stmt-within d m s hs)

  pub function-with : (left : ℕ) → is_decimal left ≡ true → is_name n ≡ true → is_local i ≡ true → Each (Turn Kind.input d) is → Each (Turn Kind.local d) ls
      → FormAt d m (form_of_stmt s) → Good Kind.item d y (function_by (Some left) n (first_of as_stmt inputs) (i ∷ all_of as_input inputs) (all_of as_local inputs))
  function-with left hr hn hi his hls hs = record {
    of = I.Function (record { range = Some left; name = n; inputs = i ∷ is; locals = ls; body = s });
    is = λ j. function_by (Some left) n (body-is j) (i ∷ inputs-are j) (locals-are j);
    holds = function-is (Some left) hr hn hi his hls hs;
  }

  pub function-without : is_name n ≡ true → is_local i ≡ true → Each (Turn Kind.input d) is → Each (Turn Kind.local d) ls
      → FormAt d m (form_of_stmt s) → Good Kind.item d y (function_by (first_of as_range inputs) n (first_of as_stmt inputs) (i ∷ all_of as_input inputs) (all_of as_local inputs))
  function-without hn hi his hls hs = record {
    of = I.Function (record { range = None; name = n; inputs = i ∷ is; locals = ls; body = s });
    is = λ j. function_by (no-range j) n (body-is j) (i ∷ inputs-are j) (locals-are j);
    holds = function-is None refl hn hi his hls hs;
  }

pub local-is : (range : Option ℕ) (n : List ℕ) → is_perhaps is_decimal range ≡ true → is_name n ≡ true → is_local (record { range = range; name = n }) ≡ true
local-is range n h k = both (is_perhaps is_decimal range) (is_name n) h k

-- events and connections
pub edges-good : (d : ℕ) (y : Option ℕ) (e : VEdge) (es : List VEdge) → is_name e.name ≡ true → Each (Turn Kind.edge d) es
    → Good Kind.event d y (edges_of (P.Nothing ∷ P.Edge e ∷ (map (make Kind.edge) es ++ (P.Nothing ∷ []))))
edges-good d y e es h hs = record {
  of = Edges (e ∷ es);
  is = ap (λ zs. P.Event (Edges (e ∷ zs))) (made-alone as_edge (make Kind.edge) (λ i. refl) es (P.Nothing ∷ []) refl);
  holds = both (is_name e.name) (list_all (λ (x : VEdge). is_name x.name) es) h (each-test (λ (x : VEdge). is_name x.name) (Turn Kind.edge d) (λ i t. t.holds) es hs);
}

pub connections-good : (d : ℕ) (y : Option ℕ) (c : VConnection) (cs : List VConnection) → is_connection c ≡ true → Each (Turn Kind.connection d) cs
    → Good Kind.connections d y (connections_of (P.Connection c ∷ (map (make Kind.connection) cs ++ [])))
connections-good d y c cs h hs = record {
  of = c ∷ cs;
  is = ap (λ zs. P.Connections (c ∷ zs)) (made-alone as_connection (make Kind.connection) (λ i. refl) cs [] refl);
  holds = both (is_connection c) (list_all is_connection cs) h (each-test is_connection (Turn Kind.connection d) (λ i t. t.holds) cs hs);
}

-- statements
forms-at : (e : ℕ) (ss : List VStmt) → Each (Turn Kind.stmt e) ss → FormsAt e (map form_of_stmt ss)
forms-at e [] h = no-forms e
forms-at e (s ∷ ss) h = more-forms e (form_of_stmt s) (map form_of_stmt ss) h.0.holds.fits h.0.holds.depth (forms-at e ss h.1)

stmts-alone : (ss : List VStmt) → all_of as_stmt (map (make Kind.stmt) ss ++ (P.Nothing ∷ [])) ≡ ss
stmts-alone ss = made-alone as_stmt (make Kind.stmt) (λ i. refl) ss (P.Nothing ∷ []) refl

pub block-with : (d : ℕ) (y : Option ℕ) (l : VLabel) (ss : List VStmt) → suc d ≤ nesting_limit → is_label l ≡ true → Each (Turn Kind.stmt (suc d)) ss
    → Good Kind.stmt d y (block_of (P.Nothing ∷ P.Label l ∷ (map (make Kind.stmt) ss ++ (P.Nothing ∷ []))))
block-with d y l ss r h hs = record {
  of = T.Block (Some l) ss;
  is = ap (λ zs. P.Stmt (T.Block (Some l) zs)) (stmts-alone ss);
  holds = F.block-at d y (Some l) ss r h (forms-at (suc d) ss hs);
}

pub block-without : (d : ℕ) (y : Option ℕ) (ss : List VStmt) → suc d ≤ nesting_limit → Each (Turn Kind.stmt (suc d)) ss
    → Good Kind.stmt d y (block_of (P.Nothing ∷ (map (make Kind.stmt) ss ++ (P.Nothing ∷ []))))
block-without d y ss r hs = record {
  of = T.Block None ss;
  is =
      ap (λ o. P.Stmt (T.Block o (all_of as_stmt (map (make Kind.stmt) ss ++ (P.Nothing ∷ []))))) (past-first as_label (make Kind.stmt) (λ i. refl) ss (P.Nothing ∷ []))
      ∙ ap (λ zs. P.Stmt (T.Block None zs)) (stmts-alone ss);
  holds = F.block-at d y None ss r refl (forms-at (suc d) ss hs);
}

pub label-good : (d : ℕ) (y : Option ℕ) (n : List ℕ) (ls : List VLocal) → is_name n ≡ true → Each (Turn Kind.local d) ls
    → Good Kind.label d y (label_of (P.Nothing ∷ P.Name n ∷ (map (make Kind.local) ls ++ [])))
label-good d y n ls h hs = record {
  of = record { name = n; locals = ls };
  is = ap (λ zs. P.Label (record { name = n; locals = zs })) (made-alone as_local (make Kind.local) (λ i. refl) ls [] refl);
  holds = both (is_name n) (list_all is_local ls) h (each-test is_local (Turn Kind.local d) (λ i t. t.holds) ls hs);
}

-- items of a `case`
module _ (d : ℕ) (y : Option ℕ) (c : VCaseItem) (cs : List VCaseItem) where
  abbrev after : List VPart → List VPart
  after us = map (make Kind.case_item) cs ++ us

  pub items-with : (ds : List VCaseItem) → CaseAt d false (form_of_case c) → Each (Turn Kind.case_item d) cs → CasesAt d (map form_of_case ds)
      → Good Kind.case_items d y (case_items_of (P.CaseItem c ∷ after (P.CaseItems ds ∷ [])))
  items-with ds h hs k = record {
    of = c ∷ (cs ++ ds);
    is = λ j. P.CaseItems (c ∷ (made-alone as_case_item (make Kind.case_item) (λ i. refl) cs (P.CaseItems ds ∷ []) refl j
        ++ listed (past-first as_case_items (make Kind.case_item) (λ i. refl) cs (P.CaseItems ds ∷ []) j)));
    holds = items-first d (form_of_case c) (map form_of_case (cs ++ ds)) h (items-more d (Turn Kind.case_item d) (λ i t. t.holds) cs ds hs (items-of d (map form_of_case ds) k));
  }

  abbrev alone : VPart
  alone = case_items_of (P.CaseItem c ∷ after [])

  alone-is : alone ≡ P.CaseItems (c ∷ cs)
  alone-is =
      (λ j. P.CaseItems (c ∷ (made-alone as_case_item (make Kind.case_item) (λ i. refl) cs [] refl j
      ++ listed (past-first as_case_items (make Kind.case_item) (λ i. refl) cs [] j))))
      ∙ ap (λ zs. P.CaseItems (c ∷ zs)) (append-nil cs)

  pub items-alone-good : CaseAt d false (form_of_case c) → Each (Turn Kind.case_item d) cs → Good Kind.case_items d y alone
  items-alone-good h hs = record {
    of = c ∷ cs;
    is = alone-is;
    holds = items-first d (form_of_case c) (map form_of_case cs) h
        (subst (λ zs. ItemsAt d (map form_of_case zs)) (append-nil cs) (items-more d (Turn Kind.case_item d) (λ i t. t.holds) cs [] hs (no-items d)));
  }

  pub default-good : CaseAt d true (form_of_case c) → Each (Turn Kind.case_item d) cs → Good Kind.case_items d y alone
  default-good h hs = record {
    of = c ∷ cs;
    is = alone-is;
    holds = default-first d (form_of_case c) (map form_of_case cs) h (plain-items d (Turn Kind.case_item d) (λ i t. t.holds) cs hs);
  }

-- Expressions, one or more.
args-at : (e : ℕ) (x : VExpr) (xs : List VExpr) → FitsAt e (fit x) → Each (Turn Kind.expr e) xs → ArgsAt e (map fit (x ∷ xs))
args-at e x xs h hs = record { some = refl; each = more-at e (fit x) (map fit xs) h (all-at e fit (Turn Kind.expr e) (λ i t. t.holds) xs hs) }

exprs-alone : (xs : List VExpr) → all_of as_expr (map (make Kind.expr) xs ++ (P.Nothing ∷ [])) ≡ xs
exprs-alone xs = made-alone as_expr (make Kind.expr) (λ i. refl) xs (P.Nothing ∷ []) refl

pub case-item-good : (d : ℕ) (y m : Option ℕ) (x : VExpr) (xs : List VExpr) (b : VBranch) → FitsAt d (fit x) → Each (Turn Kind.expr d) xs → FormAt d m (form_of_branch b)
    → Good Kind.case_item d y (case_item_of (P.Expr x ∷ (map (make Kind.expr) xs ++ (P.Nothing ∷ P.Branch b ∷ []))))
case-item-good d y m x xs b h hs k = record {
  of = C.Item (x ∷ xs) b;
  is = λ j. given (past-first as_branch (make Kind.expr) (λ i. refl) xs (P.Nothing ∷ P.Branch b ∷ []) j)
      (λ body. P.CaseItem (C.Item (x ∷ made-alone as_expr (make Kind.expr) (λ i. refl) xs (P.Nothing ∷ P.Branch b ∷ []) refl j) body));
  holds = F.item-at d m (x ∷ xs) b (args-at d x xs h hs) k;
}

-- targets and selects
pub targets-good : (d : ℕ) (y : Option ℕ) (l : VLval) (ls : List VLval) → suc d ≤ nesting_limit → FitsAt (suc d) (fit_of_lval l) → Each (Turn Kind.lval (suc d)) ls
    → Good Kind.lval d y (lvalues_of (P.Nothing ∷ P.Lval l ∷ (map (make Kind.lval) ls ++ (P.Nothing ∷ []))))
targets-good d y l ls r h hs = record {
  of = L.Concat (l ∷ ls);
  is = ap (λ zs. P.Lval (L.Concat (l ∷ zs))) (made-alone as_lval (make Kind.lval) (λ i. refl) ls (P.Nothing ∷ []) refl);
  holds = F.targets-at d (l ∷ ls) r
      (record { some = refl; each = more-at (suc d) (fit_of_lval l) (map fit_of_lval ls) h (all-at (suc d) fit_of_lval (Turn Kind.lval (suc d)) (λ i t. t.holds) ls hs) });
}

pub select-with : (d : ℕ) (y : Option ℕ) (b : Base) (x : VExtent) → BaseAt d b → is_extent x ≡ true
    → Good Kind.sel d y (select_of (P.Nothing ∷ base_part b ∷ P.Extent x ∷ P.Nothing ∷ []))
select-with d y (Base.fixed n) x h k = made Kind.sel d y (S.Decimal n (Some x)) (F.fixed-at d n (Some x) h k)
select-with d y (Base.moving a) x h k = made Kind.sel d y (S.Expr a (Some x)) (F.moving-at d a (Some x) h k)

pub select-without : (d : ℕ) (y : Option ℕ) (b : Base) → BaseAt d b → Good Kind.sel d y (select_of (P.Nothing ∷ base_part b ∷ P.Nothing ∷ []))
select-without d y (Base.fixed n) h = made Kind.sel d y (S.Decimal n None) (F.fixed-at d n None h refl)
select-without d y (Base.moving a) h = made Kind.sel d y (S.Expr a None) (F.moving-at d a None h refl)

-- expressions
pub expression-good : (d : ℕ) (y : Option ℕ) (a : VPrim) (t : Tail) → PrimAt (suc d) (fit_of_prim a) → TailAt (suc d) t
    → Good Kind.expr d y (expression_of (P.Prim a ∷ tail_part t ∷ []))
expression-good d y a (Tail.right op b) h k = made Kind.expr d y (E.Binary op a b) (F.binary-at d op a b h k)
expression-good d y a (Tail.arms b c) h k = made Kind.expr d y (E.Choose a b c) (F.choose-at d a b c h k)

pub name-good : (d : ℕ) (y : Option ℕ) (n : List ℕ) (r : Behind) → is_name n ≡ true → BehindAt d r → d ≤ nesting_limit
    → Good Kind.prim d y (name_of (P.Name n ∷ behind_part r ∷ []))
name-good d y n (Behind.args xs) h k r = made Kind.prim d y (O.Call n xs) (F.call-at d n xs h k r)
name-good d y n (Behind.sels ss) h k r = made Kind.prim d y (O.Name n ss) (F.name-at d n ss h k r)

pub arguments-good : (d : ℕ) (y : Option ℕ) (x : VExpr) (xs : List VExpr) → FitsAt d (fit x) → Each (Turn Kind.expr d) xs
    → Good Kind.behind_name d y (arguments_of (P.Nothing ∷ P.Expr x ∷ (map (make Kind.expr) xs ++ (P.Nothing ∷ []))))
arguments-good d y x xs h hs = record {
  of = Behind.args (x ∷ xs);
  is = ap (λ zs. P.Args (x ∷ zs)) (exprs-alone xs);
  holds = args-at d x xs h hs;
}

pub repeat-good : (d : ℕ) (y : Option ℕ) (n : ℕ) (x : VExpr) (xs : List VExpr) → is_decimal n ≡ true → FitsAt d (fit x) → Each (Turn Kind.expr d) xs
    → Good Kind.brace d y (repeat_of (P.Decimal n ∷ P.Nothing ∷ P.Expr x ∷ (map (make Kind.expr) xs ++ (P.Nothing ∷ []))))
repeat-good d y n x xs hn h hs = record {
  of = O.Repeat n (x ∷ xs);
  is = ap (λ zs. P.Prim (O.Repeat n (x ∷ zs))) (exprs-alone xs);
  holds = F.repeat-at d n (x ∷ xs) hn (args-at d x xs h hs);
}

pub concat-good : (d : ℕ) (y : Option ℕ) (x : VExpr) (xs : List VExpr) → FitsAt d (fit x) → Each (Turn Kind.expr d) xs
    → Good Kind.brace d y (concat_of (P.Expr x ∷ (map (make Kind.expr) xs ++ [])))
concat-good d y x xs h hs = record {
  of = O.Concat (x ∷ xs);
  is = ap (λ zs. P.Prim (O.Concat (x ∷ zs))) (made-alone as_expr (make Kind.expr) (λ i. refl) xs [] refl);
  holds = F.concat-at d (x ∷ xs) (args-at d x xs h hs);
}
