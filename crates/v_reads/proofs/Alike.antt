-- What a text reads hangs on what the functions read alone, as sets.
use Rattle.std.proofs.Common.{◌≡◌, ℕ, ◌+◌, ◌==◌, ◌||◌, List, [], ◌∷◌, ◌++◌, length, map, Option, Some, None, refl, sym, ap, ◌∙◌, subst}
use Rattle.std.specs.Prelude.{flat_map}
use Rattle.v_tree.specs.Names.{Name}
use Rattle.v_tree.specs.declared.expressions.VExpr.{VExpr}
use Rattle.v_tree.specs.declared.expressions.VExpr.TheVariants as X
use Rattle.v_tree.specs.declared.expressions.VPrim.{VPrim}
use Rattle.v_tree.specs.declared.expressions.VPrim.TheVariants as P
use Rattle.v_tree.specs.declared.expressions.VSel.{VSel}
use Rattle.v_tree.specs.declared.items.VLocal.{VLocal}
use Rattle.v_tree.specs.declared.statements.VBranch.{VBranch}
use Rattle.v_tree.specs.declared.statements.VCaseItem.{VCaseItem}
use Rattle.v_tree.specs.declared.statements.VLval.{VLval}
use Rattle.v_tree.specs.declared.statements.VStmt.{VStmt}
use Rattle.v_tree.proofs.Induction.{Each, Perhaps, ExprSteps, ind-expr, ind-sel, LvalSteps, ind-lval, StmtSteps, ind-stmt}
use Rattle.v_expr_rules.proofs.Levels as L
use Rattle.v_footprints.specs.Footprints.{uses}
use Rattle.v_footprints.proofs.Levels as K
use Rattle.v_footprints.proofs.Uses.{uses-both}
use Rattle.v_meaning.specs.Scopes.{Named, Scope, Callee, Use, named}
use Rattle.v_meaning.specs.Selects.{SelMeaning}
use Rattle.v_meaning.specs.Values.{Meaning, meaning, sel_meaning, expr_step, prim_step, sel_step, all_reads, sel_reads, use_of}
use Rattle.v_meaning.specs.Statements.{Doing, Item, Target, target, lval_step, doing, doing_of, sequence, otherwise, declared, inside, locals_of, branch_step, item_step, stmt_step}
use Rattle.v_eval.specs.Scopes.{prim_meaning}
use Rattle.v_eval.proofs.Levels.{is-prim, is-unary, is-binary, is-choose, is-number, is-paren, is-name, is-call, is-repeat, is-concat, is-sign}
use Rattle.v_reads.specs.Reads.{item_of, item_read, items_read, else_doing}
use Rattle.v_reads.proofs.Exprs.{unary-reads, binary-reads, choose-reads, literal-reads, reference-reads, call-reads, repetition-reads, concatenation-reads, signing-reads}
use Rattle.v_reads.proofs.Targets.{name-reads, joined-reads}
use Rattle.v_reads.proofs.Forms.{block-with-reads, assignment-reads, conditional-used, if-doing, cases-used}

-- functions of the same names that read the same signals
pub record SameCalls (c d : Name → Callee) : Type 0 where
  pub same : (name : Name) (n : ℕ) → uses (c name).reads n ≡ uses (d name).reads n

abbrev pub place : List Named → ℕ → (Name → Callee) → Scope
place names next c = record { names = names; next = next; callee = c }

module _ (c d : Name → Callee) (calls : SameCalls c d) where
  -- the same signals and locals, whichever functions there are
  pub record Agrees (r : Scope → List Use) : Type 0 where
    pub same : (names : List Named) (next n : ℕ) → uses (r (place names next c)) n ≡ uses (r (place names next d)) n

  by-used : (r t : Scope → List Use) → ((sc : Scope) (n : ℕ) → uses (t sc) n ≡ uses (r sc) n) → Agrees t → Agrees r
  by-used r t e h = record { same = λ names next n. sym (e (place names next c) n) ∙ h.same names next n ∙ e (place names next d) n }

  by-same : (r t : Scope → List Use) → ((sc : Scope) → r sc ≡ t sc) → Agrees t → Agrees r
  by-same r t e h = by-used r t (λ sc n. ap (λ l. uses l n) (sym (e sc))) h

  none-agrees : Agrees (λ sc. [])
  none-agrees = record { same = λ names next n. refl }

  both-agree : (r t : Scope → List Use) → Agrees r → Agrees t → Agrees (λ sc. r sc ++ t sc)
  both-agree r t h g = record {
    same = λ names next n.
        uses-both (r (place names next c)) (t (place names next c)) n ∙ (λ j. h.same names next n j || g.same names next n j)
        ∙ sym (uses-both (r (place names next d)) (t (place names next d)) n);
  }

  use-agrees : (name : Name) (ss : List SelMeaning) (t : Scope → List Use) → Agrees t → Agrees (λ sc. use_of (named sc.names name) ss sc ∷ t sc)
  use-agrees name ss t h = record { same = λ names next n. ap (λ b. ((named names name).number == n) || b) (h.same names next n) }

  callee-agrees : (name : Name) → Agrees (λ sc. (sc.callee name).reads)
  callee-agrees name = record { same = λ names next n. calls.same name n }

  abbrev AllAgree : List Meaning → Type 0
  AllAgree ms = Each (λ (m : Meaning). Agrees m.reads) ms

  all-agree : (ms : List Meaning) → AllAgree ms → Agrees (λ sc. all_reads ms sc)
  all-agree [] h = none-agrees
  all-agree (m ∷ ms) h = both-agree m.reads (λ sc. all_reads ms sc) h.0 (all-agree ms h.1)

  sels-agree : (ss : List SelMeaning) → Each (λ (s : SelMeaning). Agrees s.reads) ss → Agrees (λ sc. sel_reads ss sc)
  sels-agree [] h = none-agrees
  sels-agree (s ∷ ss) h = both-agree s.reads (λ sc. sel_reads ss sc) h.0 (sels-agree ss h.1)

  -- expressions
  abbrev ExprAgrees : VExpr → Type 0
  ExprAgrees e = Agrees (meaning e).reads

  abbrev PrimAgrees : VPrim → Type 0
  PrimAgrees p = Agrees (prim_meaning p).reads

  abbrev SelAgrees : VSel → Type 0
  SelAgrees s = Agrees (sel_meaning s).reads

  by-meaning : (m n : Meaning) (t : Scope → List Use) → m ≡ n → ((sc : Scope) → n.reads sc ≡ t sc) → Agrees t → Agrees m.reads
  by-meaning m n t is e h = by-same m.reads t (λ sc. ap (λ (x : Meaning). x.reads sc) is ∙ e sc) h

  each-expr : (xs : List VExpr) → Each ExprAgrees xs → AllAgree (map meaning xs)
  each-expr [] h = tt
  each-expr (x ∷ xs) h = (h.0, each-expr xs h.1)

  each-sel : (ss : List VSel) → Each SelAgrees ss → Each (λ (s : SelMeaning). Agrees s.reads) (map sel_meaning ss)
  each-sel [] h = tt
  each-sel (s ∷ ss) h = (h.0, each-sel ss h.1)

  expr-steps : ExprSteps ExprAgrees PrimAgrees SelAgrees
  expr-steps = record {
    expr-prim = λ a h. by-meaning _ _ (prim_meaning a).reads (is-prim (X.Prim a) a refl) (λ sc. refl) h;
    expr-unary = λ op a h.
        let ms = prim_meaning a ∷ [] in
        by-meaning _ _ (λ sc. all_reads ms sc) (is-unary (X.Unary op a) op a refl) (λ sc. unary-reads op (prim_meaning a) sc) (all-agree ms (h, tt));
    expr-binary = λ op a b h g.
        let ms = prim_meaning a ∷ prim_meaning b ∷ [] in
        by-meaning _ _ (λ sc. all_reads ms sc) (is-binary (X.Binary op a b) op a b refl) (λ sc. binary-reads op (prim_meaning a) (prim_meaning b) sc) (all-agree ms (h, (g, tt)));
    expr-choose = λ on a b f h g.
        let ms = prim_meaning on ∷ prim_meaning a ∷ prim_meaning b ∷ [] in
        by-meaning _ _ (λ sc. all_reads ms sc) (is-choose (X.Choose on a b) on a b refl) (λ sc. choose-reads (prim_meaning on) (prim_meaning a) (prim_meaning b) sc) (all-agree ms (f, (h, (g, tt))));
    prim-number = λ bits. by-meaning _ _ (λ sc. []) (is-number (P.Number bits) bits refl) (λ sc. literal-reads bits sc) none-agrees;
    prim-paren = λ x h. by-meaning _ _ (meaning x).reads (is-paren (P.Paren x) x refl) (λ sc. refl) h;
    prim-name = λ n ss h.
        let sels = map sel_meaning ss in
        by-meaning _ _ (λ sc. use_of (named sc.names n) sels sc ∷ sel_reads sels sc) (is-name (P.Name n ss) n ss refl) (λ sc. reference-reads n sels sc)
        (use-agrees n sels (λ sc. sel_reads sels sc) (sels-agree sels (each-sel ss h)));
    prim-call = λ n xs h.
        let ms = map meaning xs in
        by-meaning _ _ (λ sc. all_reads ms sc ++ (sc.callee n).reads) (is-call (P.Call n xs) n xs refl) (λ sc. call-reads n ms sc)
        (both-agree (λ sc. all_reads ms sc) (λ sc. (sc.callee n).reads) (all-agree ms (each-expr xs h)) (callee-agrees n));
    prim-repeat = λ count xs h.
        let ms = map meaning xs in
        by-meaning _ _ (λ sc. all_reads ms sc) (is-repeat (P.Repeat count xs) count xs refl) (λ sc. repetition-reads count ms sc) (all-agree ms (each-expr xs h));
    prim-concat = λ xs h.
        let ms = map meaning xs in
        by-meaning _ _ (λ sc. all_reads ms sc) (is-concat (P.Concat xs) xs refl) (λ sc. concatenation-reads ms sc) (all-agree ms (each-expr xs h));
    prim-sign = λ signed x h.
        let ms = meaning x ∷ [] in
        by-meaning _ _ (λ sc. all_reads ms sc) (is-sign (P.Sign signed x) signed x refl) (λ sc. signing-reads signed (meaning x) sc) (all-agree ms (h, tt));
    sel-decimal = λ base extent. by-same _ (λ sc. []) (λ sc. ap (λ (m : SelMeaning). m.reads sc) (L.at-decimal expr_step prim_step sel_step base extent)) none-agrees;
    sel-expr = λ x extent h. by-same _ (meaning x).reads (λ sc. ap (λ (m : SelMeaning). m.reads sc) (L.at-moving expr_step prim_step sel_step x extent)) h;
  }

  expr-agrees : (e : VExpr) → ExprAgrees e
  expr-agrees = ind-expr ExprAgrees PrimAgrees SelAgrees expr-steps

  sel-agrees : (s : VSel) → SelAgrees s
  sel-agrees = ind-sel ExprAgrees PrimAgrees SelAgrees expr-steps

  all-sels : (ss : List VSel) → Each (λ (s : SelMeaning). Agrees s.reads) (map sel_meaning ss)
  all-sels [] = tt
  all-sels (s ∷ ss) = (sel-agrees s, all-sels ss)

  all-exprs : (xs : List VExpr) → AllAgree (map meaning xs)
  all-exprs [] = tt
  all-exprs (x ∷ xs) = (expr-agrees x, all-exprs xs)

  -- targets
  abbrev LvalAgrees : VLval → Type 0
  LvalAgrees t = Agrees (target t).reads

  parts-agree : (ts : List VLval) → Each LvalAgrees ts → Agrees (λ sc. flat_map (λ (t : Target). t.reads sc) (map target ts))
  parts-agree [] h = none-agrees
  parts-agree (t ∷ ts) h = both-agree (target t).reads (λ sc. flat_map (λ (u : Target). u.reads sc) (map target ts)) h.0 (parts-agree ts h.1)

  lval-steps : LvalSteps LvalAgrees
  lval-steps = record {
    lval-name = λ n ss.
        let sels = map sel_meaning ss in
        by-same _ (λ sc. sel_reads sels sc) (λ sc. ap (λ (t : Target). t.reads sc) (K.at-name lval_step n ss) ∙ name-reads n sels sc) (sels-agree sels (all-sels ss));
    lval-concat = λ ls h.
        by-same _ (λ sc. flat_map (λ (t : Target). t.reads sc) (map target ls)) (λ sc. ap (λ (t : Target). t.reads sc) (K.at-concat lval_step ls) ∙ joined-reads (map target ls) sc) (parts-agree ls h);
  }

  lval-agrees : (t : VLval) → LvalAgrees t
  lval-agrees = ind-lval LvalAgrees lval-steps

  -- statements
  sequence-agrees : (ds : List Doing) → Each (λ (x : Doing). Agrees x.reads) ds → Agrees (sequence ds).reads
  sequence-agrees [] h = none-agrees
  sequence-agrees (x ∷ ds) h = both-agree x.reads (sequence ds).reads h.0 (sequence-agrees ds h.1)

  inside-agrees : (ls : List VLocal) (r : Scope → List Use) → Agrees r → Agrees (λ sc. r (inside ls sc))
  inside-agrees ls r h = record { same = λ names next n. h.same (declared next ls ++ names) (next + length ls) n }

  abbrev ValuesAgree : Option (List Meaning) → Type 0
  ValuesAgree None = Unit {0}
  ValuesAgree (Some ms) = AllAgree ms

  record ItemAgrees (i : Item) : Type 0 where
    body : Agrees i.body.reads
    values : ValuesAgree i.values

  otherwise-agrees : (is : List Item) → Each ItemAgrees is → Agrees (otherwise is).reads
  otherwise-agrees [] h = none-agrees
  otherwise-agrees (i ∷ is) h = by (otherwise-agrees is h.1) i.values
    where
      by : Agrees (otherwise is).reads → (o : Option (List Meaning)) → Agrees (elim o as (λ x. Doing) [ None ↦ i.body | Some ms ↦ otherwise is ]).reads
      by g None = h.0.body
      by g (Some ms) = g

  item-agrees : (i : Item) → ItemAgrees i → Agrees (λ sc. item_read i sc)
  item-agrees i h = by i.values h.values
    where
      by : (o : Option (List Meaning)) → ValuesAgree o → Agrees (λ sc. elim o as (λ x. List Use) [ None ↦ [] | Some ms ↦ all_reads ms sc ++ i.body.reads sc ])
      by None g = none-agrees
      by (Some ms) g = both-agree (λ sc. all_reads ms sc) i.body.reads (all-agree ms g) h.body

  items-agree : (is : List Item) → Each ItemAgrees is → Agrees (λ sc. items_read is sc)
  items-agree [] h = none-agrees
  items-agree (i ∷ is) h = both-agree (λ sc. item_read i sc) (λ sc. items_read is sc) (item-agrees i h.0) (items-agree is h.1)

  abbrev BranchAgrees : VBranch → Type 0
  BranchAgrees b = Agrees (doing_of b).reads

  abbrev CaseAgrees : VCaseItem → Type 0
  CaseAgrees x = ItemAgrees (item_of x)

  abbrev StmtAgrees : VStmt → Type 0
  StmtAgrees s = Agrees (doing s).reads

  by-doing : (x y : Doing) (t : Scope → List Use) → x ≡ y → ((sc : Scope) (n : ℕ) → uses (t sc) n ≡ uses (y.reads sc) n) → Agrees t → Agrees x.reads
  by-doing x y t is e h = by-used x.reads t (λ sc n. e sc n ∙ sym (ap (λ (z : Doing). uses (z.reads sc) n) is)) h

  each-stmt : (ss : List VStmt) → Each StmtAgrees ss → Each (λ (x : Doing). Agrees x.reads) (map doing ss)
  each-stmt [] h = tt
  each-stmt (s ∷ ss) h = (h.0, each-stmt ss h.1)

  each-case : (cs : List VCaseItem) → Each CaseAgrees cs → Each ItemAgrees (map item_of cs)
  each-case [] h = tt
  each-case (x ∷ cs) h = (h.0, each-case cs h.1)

  else-agrees : (other : Option VBranch) → Perhaps BranchAgrees other → Agrees (else_doing other).reads
  else-agrees None h = none-agrees
  else-agrees (Some b) h = h

  stmt-steps : StmtSteps BranchAgrees CaseAgrees StmtAgrees
  stmt-steps = record {
    branch-statement = λ s h. by-doing _ _ (doing s).reads (K.at-statement branch_step item_step stmt_step s) (λ sc n. refl) h;
    branch-empty = by-doing _ _ (λ sc. []) (K.at-empty branch_step item_step stmt_step) (λ sc n. refl) none-agrees;
    case-item = λ values b h. subst ItemAgrees (sym (K.at-item branch_step item_step stmt_step values b)) (record { body = h; values = all-exprs values });
    case-default = λ b h. subst ItemAgrees (sym (K.at-default branch_step item_step stmt_step b)) (record { body = h; values = tt });
    stmt-block = λ label ss h.
        let ls = locals_of label in
        let all = sequence (map doing ss) in
        by-doing _ _ (λ sc. all.reads (inside ls sc)) (K.at-block branch_step item_step stmt_step label ss) (λ sc n. ap (λ l. uses l n) (sym (block-with-reads ls all sc)))
        (inside-agrees ls all.reads (sequence-agrees (map doing ss) (each-stmt ss h)));
    stmt-if = λ on b other h g.
        let x = (doing_of b).reads in
        let y = (else_doing other).reads in
        by-doing _ _ (λ sc. (meaning on).reads sc ++ (x sc ++ y sc)) (if-doing on b other) (λ sc n. conditional-used (meaning on) (doing_of b) (else_doing other) sc n)
        (both-agree (meaning on).reads (λ sc. x sc ++ y sc) (expr-agrees on) (both-agree x y h (else-agrees other g)));
    stmt-case = λ kind on cs h.
        let is = map item_of cs in
        let other = (otherwise is).reads in
        by-doing _ _ (λ sc. (meaning on).reads sc ++ (items_read is sc ++ other sc)) (K.at-case branch_step item_step stmt_step kind on cs) (λ sc n. cases-used kind (meaning on) is sc n)
        (both-agree (meaning on).reads (λ sc. items_read is sc ++ other sc) (expr-agrees on)
        (both-agree (λ sc. items_read is sc) other (items-agree is (each-case cs h)) (otherwise-agrees is (each-case cs h))));
    stmt-assign = λ to value later.
        let v = (meaning value).reads in
        let t = (target to).reads in
        by-doing _ _ (λ sc. v sc ++ t sc) (K.at-assign branch_step item_step stmt_step to value later) (λ sc n. ap (λ l. uses l n) (sym (assignment-reads later (target to) (meaning value) sc)))
        (both-agree v t (expr-agrees value) (lval-agrees to));
  }

  pub body-agrees : (s : VStmt) → StmtAgrees s
  body-agrees = ind-stmt BranchAgrees CaseAgrees StmtAgrees stmt-steps
