-- Written targets and statements: their pieces are read as their tokens, and these are derived and mean them.
use Rattle.std.proofs.Common.{◌≡◌, ℕ, suc, ◌+◌, ◌≤◌, Bool, true, false, not, ◌&&◌, ◌⊎◌, inl, inr, List, [], ◌∷◌, ◌++◌, map, codes, length, Option, Some, None, refl, sym, ap, subst, ◌∙◌, append_assoc, eqb-true, arith}
use Rattle.std.specs.Prelude.{nat_le, if◌then◌else◌}
use Rattle.std.specs.List.{list_all}
use Rattle.std.proofs.lemmas.Bool.{and_parts, false≢true}
use Rattle.std.proofs.lemmas.List.{append-nil}
use Rattle.ll_engine.specs.declared.table.Part.{Part}
use Rattle.ll_engine.specs.declared.table.Part.TheVariants.{Term, Non, Maybe, Many}
use Rattle.ll_engine.specs.Grammar.{Begins, IsBegun}
use Rattle.v_tree.specs.declared.expressions.VExpr.{VExpr}
use Rattle.v_tree.specs.declared.expressions.VSel.{VSel}
use Rattle.v_tree.specs.declared.items.VLocal.{VLocal}
use Rattle.v_tree.specs.declared.parts.VPart.{VPart}
use Rattle.v_tree.specs.declared.parts.VPart.TheVariants as P
use Rattle.v_tree.specs.declared.statements.VBranch.{VBranch}
use Rattle.v_tree.specs.declared.statements.VBranch.TheVariants as G
use Rattle.v_tree.specs.declared.statements.VCaseItem.{VCaseItem}
use Rattle.v_tree.specs.declared.statements.VCaseItem.TheVariants as C
use Rattle.v_tree.specs.declared.statements.VCaseKind.{VCaseKind}
use Rattle.v_tree.specs.declared.statements.VCaseKind.TheVariants as K
use Rattle.v_tree.specs.declared.statements.VLabel.{VLabel}
use Rattle.v_tree.specs.declared.statements.VLval.{VLval}
use Rattle.v_tree.specs.declared.statements.VLval.TheVariants as L
use Rattle.v_tree.specs.declared.statements.VStmt.{VStmt}
use Rattle.v_tree.specs.declared.statements.VStmt.TheVariants as T
use Rattle.v_tree.specs.Heads as head
use Rattle.v_tree.specs.Symbols as terminal
use Rattle.v_tree.specs.Table.{table}
use Rattle.v_tree.specs.Tokens.{Token, is_name}
use Rattle.v_tree.specs.Parts.{all_of, first_of, as_expr, as_lval, as_local, as_stmt, as_label, as_case_item, as_case_items, as_branch, with_first, or_else}
use Rattle.v_tree.specs.Parts.{listed as listed_items}
use Rattle.v_tree.specs.Meaning.{given, block_of, local_of, if_of}
use Rattle.v_tree.specs.Grammatical.{is_decimal, is_perhaps, has_some, all_fit, deepest, fit, fit_of_sel, fit_of_lval, is_local, is_label, Form, all_of_form, deepest_form, no_default, one_default, form_of_stmt, form_of_branch}
use Rattle.v_tree.specs.Reading.{nesting_limit}
use Rattle.v_tree.proofs.Fits.{form_of_case, lval-name-fit, lval-concat-fit, stmt-block-form, stmt-if-form-none, stmt-if-form-some, stmt-case-form, stmt-assign-form, branch-statement-form, case-item-form, case-default-form}
use Rattle.v_tree.proofs.Induction.{Each, Perhaps, ind-lval, StmtSteps, ind-stmt, ind-branch}
use Rattle.std.specs.Int.{bit_at}
use Rattle.v_tree.proofs.Fitness.{first, blank, firsts-closed}
use Rattle.ll_engine.proofs.class.BitSets.{has, disjoint, apart}
use Rattle.ll_engine.proofs.class.Firsts as Firsts
use Rattle.v_tree.proofs.Rows as Rows
use Rattle.v_writer.specs.Layout.{Piece, space, line, word, mark, name, whole, tokens_of, perhaps, listed, in_turn, sel_layout, expr_layout, lval_layout, range_layout, local_layout, lines, store_mark, stored, label_layout, case_word, case_head, stmt_layout, case_layout, branch_layout, else_of}
use Rattle.v_writer.proofs.Levels.{lval-name-layout, lval-concat-layout, stmt-block-layout, stmt-if-layout, stmt-case-layout, stmt-assign-layout, branch-statement-layout, branch-empty-layout, case-item-layout, case-default-layout}
use Rattle.v_writer.proofs.Phrases.{front, non-read}
use Rattle.v_writer.proofs.Pieces.{IsRead, ends, left-paren-on, right-paren-on, left-bracket-on, right-bracket-on, left-brace-on, right-brace-on, colon-on, semicolon-on, spaced-colon-on, spaced-equals-on, spaced-less-equal-on, name-on, word-on, whole-on}
use Rattle.v_writer.proofs.Sheets.{placed-map}
use Rattle.v_writer.proofs.Said.{avoids, Ended, Said, Node, done, mk, wd, spaced, sp, ln, said-as, means-as, node-as, out, non, may, many, row, begins, begins-more, passed, Item, separated}
use Rattle.v_writer.proofs.WrittenExprs.{fits-as, depth-as, all-made, bound-node, selects-node, sels-end, expr-read, each-expr, each-sel, exprs-said, exprs-made, exprs-begin}

-- the symbol doesn't go on a target, or an `if`
abbrev pub StopsTarget : Option ℕ → Type 0
StopsTarget x = (avoids (Maybe head.selects ∷ []) x ≡ true) × (avoids (Maybe head.select ∷ []) x ≡ true)

abbrev pub StopsIf : Option ℕ → Type 0
StopsIf x = avoids (Maybe head.else_branch ∷ []) x ≡ true

-- what begins some parts doesn't begin others that begin apart
bool-cases : (b : Bool) → (b ≡ true → ⊥) → not b ≡ true
bool-cases true f = absurd (f refl)
bool-cases false f = refl

pub begun-avoids : (ps qs : List Part) (x : Option ℕ) → disjoint (Firsts.firsts table first blank ps) (Firsts.firsts table first blank qs) ≡ true → IsBegun table ps x
    → avoids qs x ≡ true
begun-avoids ps qs None e b = refl
begun-avoids ps qs (Some a) e b =
    bool-cases (has (Firsts.firsts table first blank qs) a)
    (λ h. apart (Firsts.firsts table first blank ps) (Firsts.firsts table first blank qs) a e (Firsts.begins-sound table first blank firsts-closed b)
    (eqb-true (bit_at (Firsts.firsts table first blank qs) a) 1 h))

form-fits : {f g : Form} → f ≡ g → f.fits ≡ true → g.fits ≡ true
form-fits e h = ap (λ (f : Form). f.fits) (sym e) ∙ h

form-depth : {f g : Form} (n : ℕ) → f ≡ g → n + f.depth ≤ nesting_limit → n + g.depth ≤ nesting_limit
form-depth n e h = subst (λ (f : Form). n + f.depth ≤ nesting_limit) e h

form-closed : {f g : Form} → f ≡ g → g.closed ≡ false → f.closed ≡ false
form-closed e h = ap (λ (f : Form). f.closed) e ∙ h

form-default : {f g : Form} → f ≡ g → f.default ≡ true → g.default ≡ true
form-default e h = ap (λ (f : Form). f.default) (sym e) ∙ h

-- the first of a kind, behind parts of another one
pub first-past : {A B : Type 0} (kind : VPart → Option B) (make : A → VPart) → ((x : A) → kind (make x) ≡ None) → (xs : List A) (ps : List VPart)
    → first_of kind (map make xs ++ ps) ≡ first_of kind ps
first-past kind make is [] ps = refl
first-past kind make is (x ∷ xs) ps = ap (λ o. or_else o (first_of kind (map make xs ++ ps))) (is x) ∙ first-past kind make is xs ps

pub all-past : {A B : Type 0} (kind : VPart → Option B) (make : A → VPart) → ((x : A) → kind (make x) ≡ None) → (xs : List A) (ps : List VPart)
    → all_of kind (map make xs ++ ps) ≡ all_of kind ps
all-past kind make is [] ps = refl
all-past kind make is (x ∷ xs) ps = ap (λ o. with_first o (all_of kind (map make xs ++ ps))) (is x) ∙ all-past kind make is xs ps

pub lines-append : (depth : ℕ) (ls : List (List Piece)) (M : List Piece) → Ended M → Ended (lines depth ls ++ M)
lines-append depth [] M ended_by qs e = ended_by qs e
lines-append depth (l ∷ ls) M ended_by qs e = refl

abbrev pub range_parts : Option ℕ → List VPart
range_parts None = []
range_parts (Some left) = P.Range left ∷ []

module _ (all : List Token) where
  -- targets
  abbrev pub LvalRead : VLval → Type 0
  LvalRead l = (fit_of_lval l).fits ≡ true → (around : ℕ) (after : Option ℕ) → around + (fit_of_lval l).depth ≤ nesting_limit → StopsTarget after
      → Node all head.lvalue around (lval_layout l) after (P.Lval l)

  lval-pieces : (n : List ℕ) (ss : List VSel) → is_name n ≡ true → nat_le (length ss) 2 ≡ true → all_fit (map fit_of_sel ss) ≡ true
      → (around : ℕ) (after : Option ℕ) → around + deepest (map fit_of_sel ss) ≤ nesting_limit → StopsTarget after
      → Node all head.lvalue around (name n ∷ in_turn (map sel_layout ss)) after (P.Lval (L.Name n ss))
  lval-pieces n [] named count fits around after low stop =
      row all around Rows.row_lvalue_name (Begins.itself refl)
      (wd all (Token.name n) refl (omega (arith, low)) (λ qs. name-on n qs named) (λ qs e. e)
      (out all refl stop.0 (done all around around after))) refl
  lval-pieces n (s ∷ ss) named count fits around after low stop =
      let each = each-sel all (s ∷ ss) in
      node-as all (ap (λ l. name n ∷ l) (append-nil (in_turn (map sel_layout (s ∷ ss)))))
      (row all around Rows.row_lvalue_name (Begins.itself refl)
      (wd all (Token.name n) refl (omega (arith, low)) (λ qs. name-on n qs named) (λ qs e. ap (λ l. ends (l ++ qs)) (append-nil (in_turn (map sel_layout (s ∷ ss)))) ∙ sels-end all (s ∷ ss) each qs e)
      (may all (selects-node all s ss each count fits around after low stop.1) (λ qs e. e) (done all around around after))) refl)

  lval-name-read : (n : List ℕ) (ss : List VSel) → LvalRead (L.Name n ss)
  lval-name-read n ss fits around after low stop =
      let both = and_parts (is_name n && nat_le (length ss) 2) (all_fit (map fit_of_sel ss)) (fits-as (lval-name-fit n ss) fits) in
      let parts = and_parts (is_name n) (nat_le (length ss) 2) both.0 in
      node-as all (sym (lval-name-layout n ss))
      (lval-pieces n ss parts.0 parts.1 both.1 around after (depth-as around (lval-name-fit n ss) low) stop)

  lval-items : (ls : List VLval) → Each LvalRead ls → all_fit (map fit_of_lval ls) ≡ true → (around : ℕ) → around + deepest (map fit_of_lval ls) ≤ nesting_limit
      → Each (Item all lval_layout P.Lval (Non head.lvalue) StopsTarget around) ls
  lval-items [] each fits around low = tt
  lval-items (l ∷ ls) each fits around low =
      let good = and_parts (fit_of_lval l).fits (all_fit (map fit_of_lval ls)) fits in (
        (λ turn ps M after ms stop ended_by s. non all (each.0 good.0 around (front (tokens_of M) after) (omega (arith, low)) stop) ended_by s),
        lval-items ls each.1 good.1 around (omega (arith, low)),
      )

  lvals-node : (ls : List VLval) → Each LvalRead ls → has_some (map fit_of_lval ls) ≡ true → all_fit (map fit_of_lval ls) ≡ true → (around : ℕ) (after : Option ℕ)
      → suc around + deepest (map fit_of_lval ls) ≤ nesting_limit
      → Node all head.lvalue around (mark (codes "{") ∷ (listed (map lval_layout ls) ++ mark (codes "}") ∷ [])) after (P.Lval (L.Concat ls))
  lvals-node [] each some fits around after low = absurd (false≢true some)
  lvals-node (l ∷ ls) each some fits around after low =
      let here : suc around ≤ nesting_limit = omega (arith, low) in
      row all around Rows.row_lvalue_concat (Begins.itself refl)
      (mk all (Token.mark (codes "{")) refl here left-brace-on
      (separated all lval_layout P.Lval (Non head.lvalue) StopsTarget (refl, refl) head.next_lvalue 56 Rows.row_next_lvalue (λ y. refl) (suc around) here
      l ls (lval-items (l ∷ ls) each fits (suc around) low) (refl, refl) refl (λ qs e. refl)
      (mk all (Token.mark (codes "}")) refl here right-brace-on (done all (suc around) (suc around) after))))
      (ap (λ ys. P.Lval (L.Concat (l ∷ ys))) (all-made as_lval P.Lval (λ x. refl) ls (P.Nothing ∷ []) ∙ append-nil ls))

  lval-concat-read : (ls : List VLval) → Each LvalRead ls → LvalRead (L.Concat ls)
  lval-concat-read ls each fits around after low stop =
      let low_inside = depth-as around (lval-concat-fit ls) low in
      let good = and_parts (has_some (map fit_of_lval ls)) (all_fit (map fit_of_lval ls)) (fits-as (lval-concat-fit ls) fits) in
      node-as all (sym (lval-concat-layout ls)) (lvals-node ls each good.0 good.1 around after (omega (arith, low_inside)))

  pub lval-read : (l : VLval) → LvalRead l
  lval-read = ind-lval LvalRead (record { lval-name = lval-name-read; lval-concat = lval-concat-read })

  -- `[left:0]`
  pub range-node : (left around : ℕ) (after : Option ℕ) → is_decimal left ≡ true → around ≤ nesting_limit
      → Node all head.range around (mark (codes "[") ∷ whole left ∷ mark (codes ":") ∷ whole 0 ∷ mark (codes "]") ∷ []) after (P.Range left)
  range-node left around after good low =
      row all around Rows.row_range (Begins.itself refl)
      (mk all (Token.mark (codes "[")) refl low left-bracket-on
      (non all (bound-node all left around (Some terminal.colon) good low) (λ qs e. refl)
      (mk all (Token.mark (codes ":")) refl low colon-on
      (wd all (Token.decimal 0) refl low (λ qs. whole-on 0 qs (omega arith)) (λ qs e. refl)
      (mk all (Token.mark (codes "]")) refl low right-bracket-on (done all around around after)))))) refl

  -- `[left:0] name`, in front of parts
  pub declared-said : (range : Option ℕ) (n : List ℕ) (around : ℕ) {ps : List Part} {M : List Piece} {after : Option ℕ} {ms : List VPart} → is_perhaps is_decimal range ≡ true
      → is_name n ≡ true → around ≤ nesting_limit → Ended M → Said all around around ps M after ms
      → Said all around around (Maybe head.range ∷ Term terminal.name ∷ ps) (perhaps range_layout range ++ name n ∷ M) after (range_parts range ++ P.Name n ∷ ms)
  declared-said None n around good named low ended_by s =
      out all refl refl (wd all (Token.name n) refl low (λ qs. name-on n qs named) ended_by s)
  declared-said (Some left) n around good named low ended_by s =
      may all (range-node left around (Some terminal.name) good low) (λ qs e. refl) (sp all (wd all (Token.name n) refl low (λ qs. name-on n qs named) ended_by s))

  local-means : (l : VLocal) → local_of (P.Nothing ∷ (range_parts l.range ++ P.Name l.name ∷ P.Nothing ∷ [])) ≡ P.Local l
  local-means l = by-range l.range
    where
      by-range : (r : Option ℕ) → local_of (P.Nothing ∷ (range_parts r ++ P.Name l.name ∷ P.Nothing ∷ [])) ≡ P.Local (record { range = r; name = l.name })
      by-range None = refl
      by-range (Some left) = refl

  pub local-node : (l : VLocal) → is_local l ≡ true → (around : ℕ) → around ≤ nesting_limit → (after : Option ℕ)
      → Node all head.local_declaration around (local_layout (codes "reg") l) after (P.Local l)
  local-node l good around low after =
      let parts = and_parts (is_perhaps is_decimal l.range) (is_name l.name) good in
      row all around Rows.row_local (Begins.itself refl)
      (wd all (Token.word (codes "reg")) refl low (λ qs. word-on (codes "reg") qs refl) (λ qs e. refl)
      (sp all (declared-said l.range l.name around parts.0 parts.1 low (λ qs e. refl)
      (mk all (Token.mark (codes ";")) refl low semicolon-on (done all around around after)))))
      (local-means l)

  -- things on lines of their own, in front of parts
  module _ {A : Type 0} (f : A → List Piece) (part : A → VPart) (h around : ℕ) (Closing : Option ℕ → Type 0)
      (start : (x : A) (M : List Piece) (after : Option ℕ) → Node all h around (f x) (front (tokens_of M) after) (part x) → Closing (front (tokens_of (f x ++ M)) after))
      (depth : ℕ) where
    abbrev pub Line : A → Type 0
    Line x = (after : Option ℕ) → Closing after → Node all h around (f x) after (part x)

    pub lines-closing : (xs : List A) → Each Line xs → (M : List Piece) (after : Option ℕ) → Closing (front (tokens_of M) after)
        → Closing (front (tokens_of (lines depth (map f xs) ++ M)) after)
    lines-closing [] each M after end = end
    lines-closing (x ∷ xs) each M after end =
        let rest = lines depth (map f xs) ++ M in
        subst (λ l. Closing (front (tokens_of l) after)) (sym (append_assoc (f x) (lines depth (map f xs)) M))
        (start x rest after (each.0 (front (tokens_of rest) after) (lines-closing xs each.1 M after end)))

    pub lines-said : (xs : List A) → Each Line xs → {turn : ℕ} {ps : List Part} {M : List Piece} {after : Option ℕ} {ms : List VPart} → Closing (front (tokens_of M) after)
        → avoids (Many h ∷ []) (front (tokens_of M) after) ≡ true → Ended M → Said all around around ps M after ms
        → Said all around turn (Many h ∷ ps) (lines depth (map f xs) ++ M) after (map part xs ++ ms)
    lines-said [] each end other ended_by s = out all refl other s
    lines-said (x ∷ xs) each {M = M} {after = after} end other ended_by s =
        let rest = lines depth (map f xs) ++ M in
        ln all depth (said-as all (sym (append_assoc (f x) (lines depth (map f xs)) M))
        (many all (each.0 (front (tokens_of rest) after) (lines-closing xs each.1 M after end)) (lines-append depth (map f xs) M ended_by)
        (lines-said xs each.1 end other ended_by s)))

  abbrev Anything : Option ℕ → Type 0
  Anything x = Unit {0}

  local-lines : (ls : List VLocal) → list_all is_local ls ≡ true → (around depth : ℕ) → around ≤ nesting_limit
      → Each (Line (local_layout (codes "reg")) P.Local head.local_declaration around Anything (λ x M after n. tt) depth) ls
  local-lines [] good around depth low = tt
  local-lines (l ∷ ls) good around depth low =
      let parts = and_parts (is_local l) (list_all is_local ls) good in
      ((λ after c. local-node l parts.0 around low after), local-lines ls parts.1 around depth low)

  -- variables, in front of parts
  pub locals-said : (ls : List VLocal) → list_all is_local ls ≡ true → (around depth : ℕ) → around ≤ nesting_limit → {turn : ℕ} {ps : List Part} {M : List Piece} {after : Option ℕ} {ms : List VPart}
      → avoids (Many head.local_declaration ∷ []) (front (tokens_of M) after) ≡ true → Ended M → Said all around around ps M after ms
      → Said all around turn (Many head.local_declaration ∷ ps) (lines depth (map (local_layout (codes "reg")) ls) ++ M) after (map P.Local ls ++ ms)
  locals-said ls good around depth low other ended_by s =
      lines-said (local_layout (codes "reg")) P.Local head.local_declaration around Anything (λ x M after n. tt) depth ls (local-lines ls good around depth low) tt other ended_by s

  -- what statements of a block stand in front of: neither an `else`, nor a block's name, nor a variable
  abbrev pub StopsStmt : Option ℕ → Type 0
  StopsStmt x = (avoids (Maybe head.else_branch ∷ []) x ≡ true) × (avoids (Maybe head.block_label ∷ []) x ≡ true) × (avoids (Many head.local_declaration ∷ []) x ≡ true)

  -- statements, branches and items, wherever they stand
  abbrev pub StmtRead : VStmt → Type 0
  StmtRead s = (form_of_stmt s).fits ≡ true → (depth around : ℕ) (after : Option ℕ) → around + (form_of_stmt s).depth ≤ nesting_limit
      → ((form_of_stmt s).closed ≡ false → StopsIf after) → Node all head.statement around (stmt_layout s depth) after (P.Stmt s)

  abbrev pub BranchRead : VBranch → Type 0
  BranchRead b = (form_of_branch b).fits ≡ true → (depth around : ℕ) (after : Option ℕ) → around + (form_of_branch b).depth ≤ nesting_limit
      → around ≤ nesting_limit
      → ((form_of_branch b).closed ≡ false → StopsIf after) → Node all head.statement_or_null around (branch_layout b depth) after (P.Branch b)

  abbrev pub CaseRead : VCaseItem → Type 0
  CaseRead c = (form_of_case c).fits ≡ true → (depth around : ℕ) (after : Option ℕ) → around + (form_of_case c).depth ≤ nesting_limit
      → around ≤ nesting_limit → StopsIf after
      → ((form_of_case c).default ≡ false → Node all head.case_item around (case_layout c depth) after (P.CaseItem c))
      × ((form_of_case c).default ≡ true → Node all head.case_default around (case_layout c depth) after (P.CaseItem c))

  stmt-start : (around depth : ℕ) (s : VStmt) (M : List Piece) (after : Option ℕ) → Node all head.statement around (stmt_layout s depth) (front (tokens_of M) after) (P.Stmt s)
      → StopsStmt (front (tokens_of (stmt_layout s depth ++ M)) after)
  stmt-start around depth s M after n =
      let begun = begins-more all [] M after n in (
        begun-avoids (Non head.statement ∷ []) (Maybe head.else_branch ∷ []) _ refl begun,
        begun-avoids (Non head.statement ∷ []) (Maybe head.block_label ∷ []) _ refl begun,
        begun-avoids (Non head.statement ∷ []) (Many head.local_declaration ∷ []) _ refl begun,
      )

  stmt-lines : (ss : List VStmt) → Each StmtRead ss → all_of_form (map form_of_stmt ss) ≡ true → (around depth : ℕ) → around + deepest_form (map form_of_stmt ss) ≤ nesting_limit
      → Each (Line (λ s. stmt_layout s depth) P.Stmt head.statement around StopsStmt (stmt-start around depth) depth) ss
  stmt-lines [] each fits around depth low = tt
  stmt-lines (s ∷ ss) each fits around depth low =
      let parts = and_parts (form_of_stmt s).fits (all_of_form (map form_of_stmt ss)) fits in (
        (λ after stop. each.0 parts.0 depth around after (omega (arith, low)) (λ open_end. stop.0)),
        stmt-lines ss each.1 parts.1 around depth (omega (arith, low)),
      )

  abbrev end_pieces : ℕ → List Piece
  end_pieces depth = line depth ∷ word (codes "end") ∷ []

  -- statements and the end of their block
  block-rest : (ss : List VStmt) → Each StmtRead ss → all_of_form (map form_of_stmt ss) ≡ true → (around depth : ℕ) (after : Option ℕ)
      → around + deepest_form (map form_of_stmt ss) ≤ nesting_limit
      → Said all around around (Many head.statement ∷ Term terminal.end_word ∷ []) (lines (suc depth) (map (λ s. stmt_layout s (suc depth)) ss) ++ end_pieces depth) after
      (map P.Stmt ss ++ P.Nothing ∷ [])
  block-rest ss each fits around depth after low =
      lines-said (λ s. stmt_layout s (suc depth)) P.Stmt head.statement around StopsStmt (stmt-start around (suc depth)) (suc depth) ss
      (stmt-lines ss each fits around (suc depth) low) (refl, refl, refl) refl (λ qs e. refl)
      (ln all depth (wd all (Token.word (codes "end")) refl (omega (arith, low)) (λ qs. word-on (codes "end") qs refl) (λ qs e. e) (done all around around after)))

  block-front : (ss : List VStmt) → Each StmtRead ss → all_of_form (map form_of_stmt ss) ≡ true → (around depth : ℕ) (after : Option ℕ)
      → around + deepest_form (map form_of_stmt ss) ≤ nesting_limit
      → StopsStmt (front (tokens_of (lines (suc depth) (map (λ s. stmt_layout s (suc depth)) ss) ++ end_pieces depth)) after)
  block-front ss each fits around depth after low =
      lines-closing (λ s. stmt_layout s (suc depth)) P.Stmt head.statement around StopsStmt (stmt-start around (suc depth)) (suc depth) ss
      (stmt-lines ss each fits around (suc depth) low) (end_pieces depth) after (refl, refl, refl)

  abbrev label_parts : Option VLabel → List VPart
  label_parts None = []
  label_parts (Some l) = P.Label l ∷ []

  label-node : (l : VLabel) → is_label l ≡ true → (around depth : ℕ) (after : Option ℕ) → around ≤ nesting_limit → avoids (Many head.local_declaration ∷ []) after ≡ true
      → Node all head.block_label around (mark (codes ":") ∷ space ∷ name l.name ∷ lines depth (map (local_layout (codes "reg")) l.locals)) after (P.Label l)
  label-node l good around depth after low stop =
      let parts = and_parts (is_name l.name) (list_all is_local l.locals) good in
      let rest = lines depth (map (local_layout (codes "reg")) l.locals) in
      node-as all (ap (λ ps. mark (codes ":") ∷ space ∷ name l.name ∷ ps) (append-nil rest))
      (row all around Rows.row_label (Begins.itself refl)
      (spaced all (Token.mark (codes ":")) refl low spaced-colon-on
      (wd all (Token.name l.name) refl low (λ qs. name-on l.name qs parts.0) (lines-append depth (map (local_layout (codes "reg")) l.locals) [] (λ qs e. e))
      (locals-said l.locals parts.1 around depth low {M = []} stop (λ qs e. e) (done all around around after))))
      (ap (λ ls. P.Label (record { name = l.name; locals = ls })) (all-made as_local P.Local (λ x. refl) l.locals [] ∙ append-nil l.locals)))

  block-means : (label : Option VLabel) (ss : List VStmt)
      → block_of (P.Nothing ∷ (label_parts label ++ (map P.Stmt ss ++ P.Nothing ∷ []))) ≡ P.Stmt (T.Block label ss)
  block-means None ss =
      (λ i. P.Stmt (T.Block (first-past as_label P.Stmt (λ x. refl) ss (P.Nothing ∷ []) i) ((all-made as_stmt P.Stmt (λ x. refl) ss (P.Nothing ∷ []) ∙ append-nil ss) i)))
  block-means (Some l) ss = ap (λ ys. P.Stmt (T.Block (Some l) ys)) (all-made as_stmt P.Stmt (λ x. refl) ss (P.Nothing ∷ []) ∙ append-nil ss)

  label-said : (label : Option VLabel) (ss : List VStmt) → Each StmtRead ss → is_perhaps is_label label ≡ true → all_of_form (map form_of_stmt ss) ≡ true → (around depth : ℕ) (after : Option ℕ)
      → around + deepest_form (map form_of_stmt ss) ≤ nesting_limit
      → Said all around around (Maybe head.block_label ∷ Many head.statement ∷ Term terminal.end_word ∷ [])
      (perhaps (label_layout (suc depth)) label ++ (lines (suc depth) (map (λ s. stmt_layout s (suc depth)) ss) ++ end_pieces depth)) after
      (label_parts label ++ (map P.Stmt ss ++ P.Nothing ∷ []))
  label-said None ss each good fits around depth after low =
      out all refl (block-front ss each fits around depth after low).1 (block-rest ss each fits around depth after low)
  label-said (Some l) ss each good fits around depth after low =
      sp all
      (may all (label-node l good around (suc depth) _ (omega (arith, low)) (block-front ss each fits around depth after low).2)
      (lines-append (suc depth) (map (λ s. stmt_layout s (suc depth)) ss) (end_pieces depth) (λ qs e. refl))
      (block-rest ss each fits around depth after low))

  label-ends : (label : Option VLabel) (ss : List VStmt) (depth : ℕ)
      → Ended (perhaps (label_layout (suc depth)) label ++ (lines (suc depth) (map (λ s. stmt_layout s (suc depth)) ss) ++ end_pieces depth))
  label-ends None ss depth qs e = lines-append (suc depth) (map (λ s. stmt_layout s (suc depth)) ss) (end_pieces depth) (λ rs k. refl) qs e
  label-ends (Some l) ss depth qs e = refl

  block-read : (label : Option VLabel) (ss : List VStmt) → Each StmtRead ss → StmtRead (T.Block label ss)
  block-read label ss each fits depth around after low stop =
      let low_inside = form-depth around (stmt-block-form label ss) low in
      let good = and_parts (is_perhaps is_label label) (all_of_form (map form_of_stmt ss)) (form-fits (stmt-block-form label ss) fits) in
      let here : suc around ≤ nesting_limit = omega (arith, low_inside) in
      node-as all
      (ap (λ ls. word (codes "begin") ∷ (perhaps (label_layout (suc depth)) label ++ (lines (suc depth) ls ++ end_pieces depth))) (sym (placed-map stmt_layout (suc depth) ss))
      ∙ sym (stmt-block-layout label ss depth))
      (row all around Rows.row_block (Begins.itself refl)
      (wd all (Token.word (codes "begin")) refl here (λ qs. word-on (codes "begin") qs refl) (label-ends label ss depth)
      (label-said label ss each good.0 good.1 (suc around) depth after (omega (arith, low_inside))))
      (block-means label ss))

  -- ` = value`, or with `<=`, and what stands behind it
  pub mark-node : (later : Bool) (around : ℕ) (after : Option ℕ) → around ≤ nesting_limit
      → Node all head.assignment_mark around (mark (store_mark later) ∷ space ∷ []) after (P.Later later)
  mark-node false around after low =
      row all around Rows.row_equals (Begins.itself refl) (spaced all (Token.mark (codes "=")) refl low spaced-equals-on (done all around around after)) refl
  mark-node true around after low =
      row all around Rows.row_less_equal (Begins.itself refl) (spaced all (Token.mark (codes "<=")) refl low spaced-less-equal-on (done all around around after)) refl

  mark-on : (later : Bool) (qs : List Piece) → IsRead qs → IsRead (mark (store_mark later) ∷ space ∷ qs)
  mark-on false qs h = spaced-equals-on qs h
  mark-on true qs h = spaced-less-equal-on qs h

  mark-stops : (later : Bool) → StopsTarget (Some (terminal.symbol (Token.mark (store_mark later))))
  mark-stops false = (refl, refl)
  mark-stops true = (refl, refl)

  -- the mark, whatever stands behind its space
  mark-said : (later : Bool) (around : ℕ) {ps : List Part} {L : List Piece} {after : Option ℕ} {ms : List VPart} → around ≤ nesting_limit
      → Said all around around ps L after ms
      → Said all around around (Non head.assignment_mark ∷ ps) (mark (store_mark later) ∷ space ∷ L) after (P.Later later ∷ ms)
  mark-said later around {L = L} {after = after} low s = record {
    phrase = non-read all (mark-node later around (front (tokens_of L) after) low).derived s.phrase;
    on = λ qs e h. mark-on later (L ++ qs) (s.on qs e h);
  }

  assign-read : (target : VLval) (value : VExpr) (later : Bool) → StmtRead (T.Assign target value later)
  assign-read target value later fits depth around after low stop =
      let low_inside = form-depth around (stmt-assign-form target value later) low in
      let good = and_parts (fit_of_lval target).fits (fit value).fits (form-fits (stmt-assign-form target value later) fits) in
      let here : suc around ≤ nesting_limit = omega (arith, low_inside) in
      let to = lval-read target good.0 (suc around) (Some (terminal.symbol (Token.mark (store_mark later)))) (omega (arith, low_inside)) (mark-stops later) in
      let given = expr-read all value good.1 (suc around) (Some terminal.semicolon) (omega (arith, low_inside)) (refl, (refl, refl)) in
      let rest = stored later (expr_layout value) ++ mark (codes ";") ∷ [] in
      node-as all (sym (stmt-assign-layout target value later depth))
      (row all around Rows.row_store (begins-more all _ rest after to)
      (non all to (λ qs e. refl)
      (sp all (mark-said later (suc around) here
      (non all given (λ qs e. refl)
      (mk all (Token.mark (codes ";")) refl here semicolon-on (done all (suc around) (suc around) after))))))
      refl)

  else-ends : (depth : ℕ) (other : Option VBranch) → Ended (else_of depth other)
  else-ends depth None qs e = e
  else-ends depth (Some c) qs e = refl

  abbrev else_parts : Option VBranch → List VPart
  else_parts None = []
  else_parts (Some c) = P.Else c ∷ []

  -- an `if` whose parts are read
  if-row : (on : VExpr) (b : VBranch) (other : Option VBranch) (depth around : ℕ) (after : Option ℕ) → suc around + (fit on).depth ≤ nesting_limit
      → (fit on).fits ≡ true
      → Node all head.statement_or_null (suc around) (branch_layout b depth) (front (tokens_of (else_of depth other)) after) (P.Branch b)
      → Said all (suc around) (suc around) (Maybe head.else_branch ∷ []) (else_of depth other) after (else_parts other)
      → if_of (P.Nothing ∷ P.Nothing ∷ P.Expr on ∷ P.Nothing ∷ P.Branch b ∷ else_parts other) ≡ P.Stmt (T.If on b other)
      → Node all head.statement around (stmt_layout (T.If on b other) depth) after (P.Stmt (T.If on b other))
  if-row on b other depth around after low fits branch rest means =
      let here : suc around ≤ nesting_limit = omega (arith, low) in
      let test = expr-read all on fits (suc around) (Some terminal.right_paren) low (refl, (refl, refl)) in
      node-as all (sym (stmt-if-layout on b other depth))
      (row all around Rows.row_if (Begins.itself refl)
      (wd all (Token.word (codes "if")) refl here (λ qs. word-on (codes "if") qs refl) (λ qs e. refl)
      (sp all (mk all (Token.mark (codes "(")) refl here left-paren-on
      (non all test (λ qs e. refl)
      (mk all (Token.mark (codes ")")) refl here right-paren-on
      (sp all (non all branch (else-ends depth other) rest)))))))
      means)

  plain-if-read : (on : VExpr) (b : VBranch) → BranchRead b → StmtRead (T.If on b None)
  plain-if-read on b read fits depth around after low stop =
      let low_inside = form-depth around (stmt-if-form-none on b) low in
      let parts = and_parts (fit on).fits (form_of_branch b).fits (form-fits (stmt-if-form-none on b) fits) in
      let no_else = stop (form-closed (stmt-if-form-none on b) refl) in
      if-row on b None depth around after (omega (arith, low_inside)) parts.0
      (read parts.1 depth (suc around) after (omega (arith, low_inside)) (omega (arith, low_inside)) (λ open_end. no_else))
      (out all refl no_else (done all (suc around) (suc around) after)) refl

  closed-open : (b : Bool) → b ≡ true → b ≡ false → ⊥
  closed-open b e f = false≢true (sym f ∙ e)

  else-read : (on : VExpr) (b c : VBranch) → BranchRead b → BranchRead c → StmtRead (T.If on b (Some c))
  else-read on b c first_branch second_branch fits depth around after low stop =
      let low_inside = form-depth around (stmt-if-form-some on b c) low in
      let both = and_parts ((fit on).fits && (form_of_branch b).fits && (form_of_branch b).closed) (form_of_branch c).fits (form-fits (stmt-if-form-some on b c) fits) in
      let two = and_parts ((fit on).fits && (form_of_branch b).fits) (form_of_branch b).closed both.0 in
      let parts = and_parts (fit on).fits (form_of_branch b).fits two.0 in
      let here : suc around ≤ nesting_limit = omega (arith, low_inside) in
      let second = second_branch both.1 depth (suc around) after (omega (arith, low_inside)) here
      (λ open_end. stop (form-closed (stmt-if-form-some on b c) open_end)) in
      let behind = row all (suc around) Rows.row_else (Begins.itself refl)
      (wd all (Token.word (codes "else")) refl here (λ qs. word-on (codes "else") qs refl) (λ qs e. refl)
      (sp all (non all second (λ qs e. e) (done all (suc around) (suc around) after)))) refl in
      if-row on b (Some c) depth around after (omega (arith, low_inside)) parts.0
      (first_branch parts.1 depth (suc around) (Some terminal.else_word) (omega (arith, low_inside)) here
      (λ open_end. absurd (closed-open (form_of_branch b).closed two.1 open_end)))
      (said-as all
      (ap (λ l. line depth ∷ word (codes "else") ∷ space ∷ l) (append-nil (branch_layout c depth ++ []) ∙ append-nil (branch_layout c depth)))
      (ln all depth (may all behind (λ qs e. e) (done all (suc around) (suc around) after)))) refl

  choice-read : (on : VExpr) (b : VBranch) (other : Option VBranch) → BranchRead b → Perhaps BranchRead other → StmtRead (T.If on b other)
  choice-read on b None read others = plain-if-read on b read
  choice-read on b (Some c) read others = else-read on b c read others

  -- the items of a `case` by what stands before its `default` and from it on
  abbrev case_parts : List VCaseItem → List VPart
  case_parts [] = []
  case_parts (c ∷ cs) = if (form_of_case c).default then P.CaseItems (c ∷ cs) ∷ [] else P.CaseItem c ∷ case_parts cs

  case-made : (cs : List VCaseItem) → all_of as_case_item (case_parts cs) ++ listed_items (first_of as_case_items (case_parts cs)) ≡ cs
  case-made [] = refl
  case-made (c ∷ cs) = by-default (form_of_case c).default (case-made cs)
    where
      by-default : (b : Bool) → all_of as_case_item (case_parts cs) ++ listed_items (first_of as_case_items (case_parts cs)) ≡ cs → all_of as_case_item (if b then P.CaseItems (c ∷ cs) ∷ [] else P.CaseItem c ∷ case_parts cs)
          ++ listed_items (first_of as_case_items (if b then P.CaseItems (c ∷ cs) ∷ [] else P.CaseItem c ∷ case_parts cs)) ≡ c ∷ cs
      by-default true e = refl
      by-default false e = ap (λ ds. c ∷ ds) e

  abbrev laid_items : ℕ → List VCaseItem → List (List Piece)
  laid_items depth cs = map (λ c. case_layout c depth) cs

  item-start : (around depth : ℕ) (c : VCaseItem) (M : List Piece) (after : Option ℕ) → Node all head.case_item around (case_layout c depth) (front (tokens_of M) after) (P.CaseItem c)
      → StopsIf (front (tokens_of (case_layout c depth ++ M)) after)
  item-start around depth c M after n = begun-avoids (Non head.case_item ∷ []) (Maybe head.else_branch ∷ []) _ refl (begins-more all [] M after n)

  -- items without a `default`
  plain-items : (cs : List VCaseItem) → Each CaseRead cs → all_of_form (map form_of_case cs) ≡ true → no_default (map form_of_case cs) ≡ true → (around depth : ℕ)
      → around + deepest_form (map form_of_case cs) ≤ nesting_limit
      → Each (Line (λ c. case_layout c depth) P.CaseItem head.case_item around StopsIf (item-start around depth) depth) cs
  plain-items [] each fits plain around depth low = tt
  plain-items (c ∷ cs) each fits plain around depth low =
      let good = and_parts (form_of_case c).fits (all_of_form (map form_of_case cs)) fits in
      let lacks = and_parts (not (form_of_case c).default) (no_default (map form_of_case cs)) plain in (
        (λ after stop. (each.0 good.0 depth around after (omega (arith, low)) (omega (arith, low)) stop).0 (not_true (form_of_case c).default lacks.0)),
        plain-items cs each.1 good.1 lacks.1 around depth (omega (arith, low)),
      )
    where
      not_true : (b : Bool) → not b ≡ true → b ≡ false
      not_true true e = absurd (false≢true e)
      not_true false e = refl

  abbrev at_end : Option ℕ
  at_end = Some terminal.endcase_word

  true_or_false : (b : Bool) → (b ≡ true) ⊎ (b ≡ false)
  true_or_false true = inl refl
  true_or_false false = inr refl

  -- no `else` comes in front of items
  items-front : (cs : List VCaseItem) → Each CaseRead cs → all_of_form (map form_of_case cs) ≡ true → (around depth : ℕ) → around + deepest_form (map form_of_case cs) ≤ nesting_limit
      → StopsIf (front (tokens_of (lines depth (laid_items depth cs))) at_end)
  items-front [] each fits around depth low = refl
  items-front (c ∷ cs) each fits around depth low =
      let good = and_parts (form_of_case c).fits (all_of_form (map form_of_case cs)) fits in
      let rest = lines depth (laid_items depth cs) in
      let nodes = each.0 good.0 depth around (front (tokens_of rest) at_end) (omega (arith, low)) (omega (arith, low))
      (items-front cs each.1 good.1 around depth (omega (arith, low))) in
      elim (true_or_false (form_of_case c).default) [
        | inl is_default ↦ begun-avoids (Non head.case_default ∷ []) (Maybe head.else_branch ∷ []) _ refl (begins-more all [] rest at_end (nodes.1 is_default))
        | inr lacks ↦ begun-avoids (Non head.case_item ∷ []) (Maybe head.else_branch ∷ []) _ refl (begins-more all [] rest at_end (nodes.0 lacks))
      ]

  plain-front : (cs : List VCaseItem) → Each CaseRead cs → all_of_form (map form_of_case cs) ≡ true → (around depth : ℕ) → around + deepest_form (map form_of_case cs) ≤ nesting_limit
      → StopsIf (front (tokens_of (lines depth (laid_items depth cs) ++ [])) at_end)
  plain-front cs each fits around depth low =
      subst (λ l. StopsIf (front (tokens_of l) at_end)) (sym (append-nil (lines depth (laid_items depth cs)))) (items-front cs each fits around depth low)

  -- a `default` and the items behind it
  rest-node : (c : VCaseItem) (cs : List VCaseItem) → Each CaseRead (c ∷ cs) → all_of_form (map form_of_case (c ∷ cs)) ≡ true → no_default (map form_of_case cs) ≡ true
      → (form_of_case c).default ≡ true → (around depth : ℕ) → around + deepest_form (map form_of_case (c ∷ cs)) ≤ nesting_limit
      → Node all head.case_default_rest around (case_layout c depth ++ lines depth (laid_items depth cs)) at_end (P.CaseItems (c ∷ cs))
  rest-node c cs each fits plain is_default around depth low =
      let good = and_parts (form_of_case c).fits (all_of_form (map form_of_case cs)) fits in
      let rest = lines depth (laid_items depth cs) ++ [] in
      let node = (each.0 good.0 depth around (front (tokens_of rest) at_end) (omega (arith, low)) (omega (arith, low))
      (plain-front cs each.1 good.1 around depth (omega (arith, low)))).1 is_default in
      node-as all (ap (λ l. case_layout c depth ++ l) (append-nil (lines depth (laid_items depth cs))))
      (row all around Rows.row_case_default_rest (begins-more all (Many head.case_item ∷ []) rest at_end node)
      (non all node (lines-append depth (laid_items depth cs) [] (λ qs e. e))
      (lines-said (λ d. case_layout d depth) P.CaseItem head.case_item around StopsIf (item-start around depth) depth cs
      (plain-items cs each.1 good.1 plain around depth (omega (arith, low))) {M = []} {after = at_end} refl refl (λ qs e. e) (done all around around at_end)))
      ((λ i. P.CaseItems ((c ∷ (all-made as_case_item P.CaseItem (λ x. refl) cs [] ∙ append-nil cs) i) ++ listed_items (first-past as_case_items P.CaseItem (λ x. refl) cs [] i)))
      ∙ ap P.CaseItems (append-nil (c ∷ cs))))

  items-said : (cs : List VCaseItem) → Each CaseRead cs → all_of_form (map form_of_case cs) ≡ true → one_default (map form_of_case cs) ≡ true → (around depth : ℕ)
      → around + deepest_form (map form_of_case cs) ≤ nesting_limit
      → Said all around around (Many head.case_item ∷ Maybe head.case_default_rest ∷ []) (lines depth (laid_items depth cs)) at_end (case_parts cs)
  items-said [] each fits one around depth low = out all refl refl (out all refl refl (done all around around at_end))
  items-said (c ∷ cs) each fits one around depth low =
      let good = and_parts (form_of_case c).fits (all_of_form (map form_of_case cs)) fits in
      elim (true_or_false (form_of_case c).default) [
        | inl is_default ↦ (let rest = rest-node c cs each fits (ap (λ b. if b then no_default (map form_of_case cs) else one_default (map form_of_case cs)) (sym is_default) ∙ one) is_default around depth low in
            means-as all (ap (λ b. if b then P.CaseItems (c ∷ cs) ∷ [] else P.CaseItem c ∷ case_parts cs) (sym is_default))
            (ln all depth
            (out all refl (begun-avoids (Non head.case_default_rest ∷ []) (Many head.case_item ∷ []) _ refl (begins all [] rest))
            (said-as all (append-nil (case_layout c depth ++ lines depth (laid_items depth cs))) (may all rest (λ qs e. e) (done all around around at_end))))))
        | inr lacks ↦ (let node = (each.0 good.0 depth around (front (tokens_of (lines depth (laid_items depth cs))) at_end) (omega (arith, low)) (omega (arith, low))
            (items-front cs each.1 good.1 around depth (omega (arith, low)))).0 lacks in
            means-as all (ap (λ b. if b then P.CaseItems (c ∷ cs) ∷ [] else P.CaseItem c ∷ case_parts cs) (sym lacks))
            (ln all depth
            (many all node (lines-closes depth cs)
            (items-said cs each.1 good.1 (ap (λ b. if b then no_default (map form_of_case cs) else one_default (map form_of_case cs)) (sym lacks) ∙ one) around depth (omega (arith, low))))))
      ]
    where
      lines-closes : (n : ℕ) (ds : List VCaseItem) → Ended (lines n (laid_items n ds))
      lines-closes n [] qs e = e
      lines-closes n (d ∷ ds) qs e = refl

  body-node : (c : VCaseItem) (cs : List VCaseItem) → Each CaseRead (c ∷ cs) → all_of_form (map form_of_case (c ∷ cs)) ≡ true → one_default (map form_of_case (c ∷ cs)) ≡ true
      → (around depth : ℕ) → around + deepest_form (map form_of_case (c ∷ cs)) ≤ nesting_limit
      → Node all head.case_body around (case_layout c depth ++ lines depth (laid_items depth cs)) at_end (P.CaseItems (c ∷ cs))
  body-node c cs each fits one around depth low =
      let good = and_parts (form_of_case c).fits (all_of_form (map form_of_case cs)) fits in
      elim (true_or_false (form_of_case c).default) [
        | inl is_default ↦ passed all around Rows.row_case_default_first
            (rest-node c cs each fits (ap (λ b. if b then no_default (map form_of_case cs) else one_default (map form_of_case cs)) (sym is_default) ∙ one) is_default around depth low) refl
        | inr lacks ↦ (let rest = lines depth (laid_items depth cs) in
            let node = (each.0 good.0 depth around (front (tokens_of rest) at_end) (omega (arith, low)) (omega (arith, low))
            (items-front cs each.1 good.1 around depth (omega (arith, low)))).0 lacks in
            row all around Rows.row_case_items (begins-more all _ rest at_end node)
            (non all node (lines-closes depth cs)
            (items-said cs each.1 good.1 (ap (λ b. if b then no_default (map form_of_case cs) else one_default (map form_of_case cs)) (sym lacks) ∙ one) around depth (omega (arith, low))))
            (ap (λ ds. P.CaseItems (c ∷ ds)) (case-made cs)))
      ]
    where
      lines-closes : (n : ℕ) (ds : List VCaseItem) → Ended (lines n (laid_items n ds))
      lines-closes n [] qs e = e
      lines-closes n (d ∷ ds) qs e = refl

  kind-node : (kind : VCaseKind) (around : ℕ) (after : Option ℕ) → around ≤ nesting_limit → Node all head.case_keyword around (word (case_word kind) ∷ []) after (P.CaseKind kind)
  kind-node K.Plain around after low =
      row all around Rows.row_case_word (Begins.itself refl) (wd all (Token.word (codes "case")) refl low (λ qs. word-on (codes "case") qs refl) (λ qs e. e) (done all around around after)) refl
  kind-node K.Z around after low =
      row all around Rows.row_casez_word (Begins.itself refl) (wd all (Token.word (codes "casez")) refl low (λ qs. word-on (codes "casez") qs refl) (λ qs e. e) (done all around around after)) refl
  kind-node K.X around after low =
      row all around Rows.row_casex_word (Begins.itself refl) (wd all (Token.word (codes "casex")) refl low (λ qs. word-on (codes "casex") qs refl) (λ qs e. e) (done all around around after)) refl

  case-node : (kind : VCaseKind) (on : VExpr) (cs : List VCaseItem) → Each CaseRead cs → (fit on).fits ≡ true → has_some (map form_of_case cs) ≡ true → one_default (map form_of_case cs) ≡ true
      → all_of_form (map form_of_case cs) ≡ true → (depth around : ℕ) (after : Option ℕ) → suc around + (fit on).depth ≤ nesting_limit
      → suc around + deepest_form (map form_of_case cs) ≤ nesting_limit
      → Node all head.statement around (case_head kind (expr_layout on) ++ (lines (suc depth) (laid_items (suc depth) cs) ++ line depth ∷ word (codes "endcase") ∷ [])) after (P.Stmt (T.Case kind on cs))
  case-node kind on [] each fits some one good depth around after low deep = absurd (false≢true some)
  case-node kind on (c ∷ cs) each fits some one good depth around after low deep =
      let here : suc around ≤ nesting_limit = omega (arith, low) in
      let end = line depth ∷ word (codes "endcase") ∷ [] in
      let items = lines (suc depth) (laid_items (suc depth) (c ∷ cs)) in
      let head_word = kind-node kind (suc around) (Some terminal.left_paren) here in
      let test = expr-read all on fits (suc around) (Some terminal.right_paren) low (refl, (refl, refl)) in
      let body = body-node c cs each good one (suc around) (suc depth) deep in
      node-as all (ap (λ l. word (case_word kind) ∷ space ∷ mark (codes "(") ∷ l) (sym (append_assoc (expr_layout on) (mark (codes ")") ∷ []) (items ++ end))))
      (row all around Rows.row_case (begins-more all _ (space ∷ mark (codes "(") ∷ (expr_layout on ++ mark (codes ")") ∷ (items ++ end))) after head_word)
      (non all head_word (λ qs e. refl)
      (sp all (mk all (Token.mark (codes "(")) refl here left-paren-on
      (non all test (λ qs e. refl)
      (mk all (Token.mark (codes ")")) refl here right-paren-on
      (ln all (suc depth) (non all body (λ qs e. refl)
      (ln all depth (wd all (Token.word (codes "endcase")) refl here (λ qs. word-on (codes "endcase") qs refl) (λ qs e. e) (done all (suc around) (suc around) after)))))))))) refl)

  case-read : (kind : VCaseKind) (on : VExpr) (cs : List VCaseItem) → Each CaseRead cs → StmtRead (T.Case kind on cs)
  case-read kind on cs each fits depth around after low stop =
      let low_inside = form-depth around (stmt-case-form kind on cs) low in
      let three = and_parts ((fit on).fits && has_some (map form_of_case cs) && one_default (map form_of_case cs)) (all_of_form (map form_of_case cs)) (form-fits (stmt-case-form kind on cs) fits) in
      let two = and_parts ((fit on).fits && has_some (map form_of_case cs)) (one_default (map form_of_case cs)) three.0 in
      let parts = and_parts (fit on).fits (has_some (map form_of_case cs)) two.0 in
      node-as all
      (ap (λ ls. case_head kind (expr_layout on) ++ (lines (suc depth) ls ++ line depth ∷ word (codes "endcase") ∷ [])) (sym (placed-map case_layout (suc depth) cs))
      ∙ sym (stmt-case-layout kind on cs depth))
      (case-node kind on cs each parts.0 parts.1 two.1 three.1 depth around after (omega (arith, low_inside)) (omega (arith, low_inside)))

  values-node : (values : List VExpr) (b : VBranch) → BranchRead b → has_some values ≡ true → all_fit (map fit values) ≡ true → (form_of_branch b).fits ≡ true
      → (depth around : ℕ) (after : Option ℕ) → around + deepest (map fit values) ≤ nesting_limit → around + (form_of_branch b).depth ≤ nesting_limit → around ≤ nesting_limit → StopsIf after
      → Node all head.case_item around (listed (map expr_layout values) ++ (mark (codes ":") ∷ space ∷ branch_layout b depth)) after (P.CaseItem (C.Item values b))
  values-node [] b read some good fits depth around after low deep here stop = absurd (false≢true some)
  values-node (x ∷ xs) b read some good fits depth around after low deep here stop =
      let first = and_parts (fit x).fits (all_fit (map fit xs)) good in
      let branch = read fits depth around after deep here (λ open_end. stop) in
      let behind = mark (codes ":") ∷ space ∷ (branch_layout b depth ++ []) in
      node-as all (ap (λ l. listed (map expr_layout (x ∷ xs)) ++ (mark (codes ":") ∷ space ∷ l)) (append-nil (branch_layout b depth)))
      (row all around Rows.row_case_item
      (exprs-begin all x xs _ behind after around first.0 (omega (arith, low)) (refl, (refl, refl)))
      (exprs-said all x xs (each-expr all (x ∷ xs)) good around low {M = behind} (refl, (refl, refl)) refl (λ qs e. refl)
      (mk all (Token.mark (codes ":")) refl here colon-on
      (sp all (non all branch (λ qs e. e) (done all around around after)))))
      (ap (λ o. given o (λ d. P.CaseItem (C.Item (x ∷ all_of as_expr (map P.Expr xs ++ P.Nothing ∷ P.Branch b ∷ [])) d)))
      (first-past as_branch P.Expr (λ y. refl) xs (P.Nothing ∷ P.Branch b ∷ []))
      ∙ ap (λ ys. P.CaseItem (C.Item (x ∷ ys) b)) (exprs-made all xs (P.Nothing ∷ P.Branch b ∷ []) ∙ append-nil xs)))

  item-read : (values : List VExpr) (b : VBranch) → BranchRead b → CaseRead (C.Item values b)
  item-read values b read fits depth around after low here stop =
      let low_inside = form-depth around (case-item-form values b) low in
      let two = and_parts (has_some values && all_fit (map fit values)) (form_of_branch b).fits (form-fits (case-item-form values b) fits) in
      let parts = and_parts (has_some values) (all_fit (map fit values)) two.0 in (
        (λ lacks. node-as all (sym (case-item-layout values b depth))
            (values-node values b read parts.0 parts.1 two.1 depth around after (omega (arith, low_inside)) (omega (arith, low_inside)) here stop)),
        (λ is_default. absurd (false≢true (form-default (case-item-form values b) is_default))),
      )

  default-read : (b : VBranch) → BranchRead b → CaseRead (C.Default b)
  default-read b read fits depth around after low here stop =
      let low_inside = form-depth around (case-default-form b) low in
      let branch = read (form-fits (case-default-form b) fits) depth around after low_inside here (λ open_end. stop) in (
        (λ lacks. absurd (false≢true (sym lacks ∙ ap (λ (f : Form). f.default) (case-default-form b)))),
        (λ is_default. node-as all
            (ap (λ l. word (codes "default") ∷ mark (codes ":") ∷ space ∷ l) (append-nil (branch_layout b depth)) ∙ sym (case-default-layout b depth))
            (row all around Rows.row_case_default (Begins.itself refl)
            (wd all (Token.word (codes "default")) refl here (λ qs. word-on (codes "default") qs refl) (λ qs e. refl)
            (mk all (Token.mark (codes ":")) refl here colon-on
            (sp all (non all branch (λ qs e. e) (done all around around after))))) refl)),
      )

  statement-read : (s : VStmt) → StmtRead s → BranchRead (G.Statement s)
  statement-read s read fits depth around after low here stop =
      let inner = read (form-fits (branch-statement-form s) fits) depth around after (form-depth around (branch-statement-form s) low)
      (λ open_end. stop (form-closed (branch-statement-form s) open_end)) in
      node-as all (sym (branch-statement-layout s depth)) (passed all around Rows.row_statement inner refl)

  empty-read : BranchRead G.Empty
  empty-read fits depth around after low here stop =
      node-as all (sym (branch-empty-layout depth))
      (row all around Rows.row_empty (Begins.itself refl) (mk all (Token.mark (codes ";")) refl here semicolon-on (done all around around after)) refl)

  steps : StmtSteps BranchRead CaseRead StmtRead
  steps = record {
    branch-statement = statement-read;
    branch-empty = empty-read;
    case-item = item-read;
    case-default = default-read;
    stmt-block = block-read;
    stmt-if = choice-read;
    stmt-case = case-read;
    stmt-assign = assign-read;
  }

  pub stmt-read : (s : VStmt) → StmtRead s
  stmt-read = ind-stmt BranchRead CaseRead StmtRead steps

  pub branch-read : (b : VBranch) → BranchRead b
  branch-read = ind-branch BranchRead CaseRead StmtRead steps
