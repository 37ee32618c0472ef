-- Written expressions: their pieces are read as their tokens, and these are derived and mean the expression.
use Rattle.std.proofs.Common.{◌≡◌, ℕ, suc, ◌+◌, ◌<◌, ◌≤◌, ◌^◌, ◌==◌, Bool, true, false, cond, ◌&&◌, ◌⊎◌, inl, inr, List, [], ◌∷◌, ◌++◌, map, codes, decimal, length, Option, Some, None, refl, sym, ap, subst, ◌∙◌, append_assoc, leb-true, ltb-true, arith}
use Rattle.std.specs.Prelude.{nat_le}
use Rattle.std.proofs.lemmas.Bool.{and_parts, false≢true}
use Rattle.std.proofs.lemmas.List.{append-nil, length-map}
use Rattle.b4_core.specs.declared.bit.Bit4.{Bit4}
use Rattle.ll_engine.specs.declared.table.Part.{Part}
use Rattle.ll_engine.specs.declared.table.Part.TheVariants.{Term, Non, Maybe, Many}
use Rattle.ll_engine.specs.Grammar.{Begins, IsBegun}
use Rattle.v_tree.specs.declared.expressions.VExpr.{VExpr}
use Rattle.v_tree.specs.declared.expressions.VExpr.TheVariants as E
use Rattle.v_tree.specs.declared.expressions.VExtent.{VExtent}
use Rattle.v_tree.specs.declared.expressions.VExtent.TheVariants.{Down, Up}
use Rattle.v_tree.specs.declared.expressions.VPrim.{VPrim}
use Rattle.v_tree.specs.declared.expressions.VPrim.TheVariants as O
use Rattle.v_tree.specs.declared.expressions.VSel.{VSel}
use Rattle.v_tree.specs.declared.expressions.VSel.TheVariants as S
use Rattle.v_tree.specs.declared.operators.VBinaryOp.{VBinaryOp}
use Rattle.v_tree.specs.declared.operators.VBinaryOp.TheVariants as B
use Rattle.v_tree.specs.declared.operators.VUnaryOp.{VUnaryOp}
use Rattle.v_tree.specs.declared.operators.VUnaryOp.TheVariants as U
use Rattle.v_tree.specs.declared.parts.VPart.{VPart}
use Rattle.v_tree.specs.declared.parts.VPart.TheVariants as P
use Rattle.v_tree.specs.Heads as head
use Rattle.v_tree.specs.Symbols as terminal
use Rattle.v_tree.specs.Table.{table}
use Rattle.v_tree.specs.Tokens.{Token, is_name}
use Rattle.v_tree.specs.Parts.{all_of, with_first, as_expr}
use Rattle.v_tree.specs.Meaning.{select_of}
use Rattle.v_tree.specs.Grammatical.{is_decimal, is_perhaps, is_extent, has_some, Fit, all_fit, deepest, fit, fit_of_sel}
use Rattle.v_tree.specs.Reading.{nesting_limit}
use Rattle.v_tree.proofs.Fits.{fit_of_prim, expr-prim-fit, expr-unary-fit, expr-binary-fit, expr-choose-fit, prim-number-fit, prim-paren-fit, prim-name-fit, prim-call-fit, prim-repeat-fit, prim-concat-fit, prim-sign-fit, sel-decimal-fit, sel-expr-fit}
use Rattle.v_tree.proofs.Induction.{Each, ExprSteps, ind-expr, ind-sel}
use Rattle.v_tree.proofs.Rows as Rows
use Rattle.v_writer.specs.Layout.{Piece, space, word, mark, name, whole, bytes_from, tokens_of, perhaps, further, listed, in_turn, unary_mark, binary_mark, extent_layout, sign_word, sel_layout, prim_layout, expr_layout}
use Rattle.v_writer.proofs.Levels.{expr-prim-layout, expr-unary-layout, expr-binary-layout, expr-choose-layout, prim-number-layout, prim-paren-layout, prim-name-layout, prim-call-layout, prim-repeat-layout, prim-concat-layout, prim-sign-layout, sel-decimal-layout, sel-expr-layout}
use Rattle.v_writer.proofs.Phrases.{Derived, front, ended, symbol-read, by-row, non-read, tokens-are}
use Rattle.v_writer.proofs.Pieces.{ends, left-paren-on, right-paren-on, left-bracket-on, right-bracket-on, left-brace-on, right-brace-on, colon-on, signed-on, spaced-question-on, spaced-colon-on, spaced-plus-colon-on, spaced-binary-on, name-on, number-on, whole-on, Opens, name-opens, decimal-opens, unary-on}
use Rattle.v_writer.proofs.Said.{avoids, Ended, Said, Node, done, mk, wd, spaced, sp, node-as, out, non, may, row, begins-more, passed, Item, separated}

-- the form of a tree by that of its parts
pub fits-as : {f g : Fit} → f ≡ g → f.fits ≡ true → g.fits ≡ true
fits-as e h = ap (λ (f : Fit). f.fits) (sym e) ∙ h

pub depth-as : {f g : Fit} (n : ℕ) → f ≡ g → n + f.depth ≤ nesting_limit → n + g.depth ≤ nesting_limit
depth-as n e h = subst (λ (f : Fit). n + f.depth ≤ nesting_limit) e h

-- the symbol doesn't go on a name, a target or an expression
abbrev pub StopsName : Option ℕ → Type 0
StopsName x = (avoids (Maybe head.name_rest ∷ []) x ≡ true) × (avoids (Maybe head.select ∷ []) x ≡ true)

abbrev pub Stops : Option ℕ → Type 0
Stops x = (avoids (Maybe head.expression_rest ∷ []) x ≡ true) × StopsName x

-- all parts of one kind, made from a list
pub all-made : {A : Type 0} (kind : VPart → Option A) (make : A → VPart) → ((x : A) → kind (make x) ≡ Some x) → (xs : List A) (ps : List VPart)
    → all_of kind (map make xs ++ ps) ≡ xs ++ all_of kind ps
all-made kind make is [] ps = refl
all-made kind make is (x ∷ xs) ps =
    ap (λ o. with_first o (all_of kind (map make xs ++ ps))) (is x) ∙ ap (λ ys. x ∷ ys) (all-made kind make is xs ps)

operator-stops : (op : VBinaryOp) → StopsName (Some (terminal.symbol (Token.mark (binary_mark op))))
operator-stops B.Add = (refl, refl)
operator-stops B.Sub = (refl, refl)
operator-stops B.Mul = (refl, refl)
operator-stops B.Div = (refl, refl)
operator-stops B.Rem = (refl, refl)
operator-stops B.Power = (refl, refl)
operator-stops B.ShiftLeft = (refl, refl)
operator-stops B.ShiftRight = (refl, refl)
operator-stops B.ArithmeticLeft = (refl, refl)
operator-stops B.ArithmeticRight = (refl, refl)
operator-stops B.Less = (refl, refl)
operator-stops B.LessEqual = (refl, refl)
operator-stops B.Greater = (refl, refl)
operator-stops B.GreaterEqual = (refl, refl)
operator-stops B.Equal = (refl, refl)
operator-stops B.NotEqual = (refl, refl)
operator-stops B.CaseEqual = (refl, refl)
operator-stops B.CaseNotEqual = (refl, refl)
operator-stops B.And = (refl, refl)
operator-stops B.Or = (refl, refl)
operator-stops B.Xor = (refl, refl)
operator-stops B.Xnor = (refl, refl)
operator-stops B.LogicalAnd = (refl, refl)
operator-stops B.LogicalOr = (refl, refl)

pub small : (n : ℕ) → is_decimal n ≡ true → n < 2 ^ 32
small n e = ltb-true n 4294967296 e

true_or_false : (b : Bool) → (b ≡ true) ⊎ (b ≡ false)
true_or_false true = inl refl
true_or_false false = inr refl

pick_true : {A : Type 0} (b : Bool) (x y : A) → b ≡ true → (cond b x y) ≡ x
pick_true true x y e = refl
pick_true false x y e = absurd (false≢true e)

pick_false : {A : Type 0} (b : Bool) (x y : A) → b ≡ false → (cond b x y) ≡ y
pick_false true x y e = absurd (false≢true (sym e))
pick_false false x y e = refl

extent-ends : (extent : Option VExtent) (M : List Piece) → Ended (perhaps extent_layout extent ++ mark (codes "]") ∷ M)
extent-ends None M qs e = refl
extent-ends (Some (Down right)) M qs e = refl
extent-ends (Some (Up width)) M qs e = refl

abbrev extent_parts : Option VExtent → List VPart
extent_parts None = []
extent_parts (Some extent) = P.Extent extent ∷ []

module _ (all : List Token) where
  -- a decimal number, which is 0 or another one
  pub bound-node : (n around : ℕ) (after : Option ℕ) → is_decimal n ≡ true → around ≤ nesting_limit → Node all head.bound around (whole n ∷ []) after (P.Decimal n)
  bound-node n around after good low = elim (true_or_false (n == 0)) [
    | inl e ↦ (let is : terminal.symbol (Token.decimal n) ≡ terminal.nought = pick_true (n == 0) 4 3 e in
        row all around Rows.row_bound_nought (subst (λ a. Begins table (Term terminal.nought ∷ []) a) (sym is) (Begins.itself refl))
        (wd all (Token.decimal n) (ap Some (sym is)) low (λ qs. whole-on n qs (small n good)) (λ qs h. h) (done all around around after)) refl)
    | inr e ↦ (let is : terminal.symbol (Token.decimal n) ≡ terminal.decimal = pick_false (n == 0) 4 3 e in
        row all around Rows.row_bound_decimal (subst (λ a. Begins table (Term terminal.decimal ∷ []) a) (sym is) (Begins.itself refl))
        (wd all (Token.decimal n) (ap Some (sym is)) low (λ qs. whole-on n qs (small n good)) (λ qs h. h) (done all around around after)) refl)
  ]

  -- operands, expressions and selects, wherever they stand
  abbrev pub PrimRead : VPrim → Type 0
  PrimRead a = ((fit_of_prim a).fits ≡ true → (qs : List Piece) → Opens (bytes_from false (prim_layout a ++ qs)))
      × ((fit_of_prim a).fits ≡ true → (around : ℕ) (after : Option ℕ) → around + (fit_of_prim a).depth ≤ nesting_limit → StopsName after
      → Node all head.primary around (prim_layout a) after (P.Prim a))

  abbrev pub ExprRead : VExpr → Type 0
  ExprRead x = (fit x).fits ≡ true → (around : ℕ) (after : Option ℕ) → around + (fit x).depth ≤ nesting_limit → Stops after
      → Node all head.expression around (expr_layout x) after (P.Expr x)

  abbrev pub SelRead : VSel → Type 0
  SelRead s = ((M : List Piece) → Ended (sel_layout s ++ M)) × ((fit_of_sel s).fits ≡ true → (around : ℕ) (after : Option ℕ) → around + (fit_of_sel s).depth ≤ nesting_limit
      → Node all head.select around (sel_layout s) after (P.Sel s))

  extent-said : (extent : Option VExtent) (around : ℕ) (after : Option ℕ) → is_perhaps is_extent extent ≡ true → around ≤ nesting_limit
      → Said all around around (Maybe head.select_extent ∷ Term terminal.right_bracket ∷ []) (perhaps extent_layout extent ++ mark (codes "]") ∷ []) after
      (extent_parts extent ++ P.Nothing ∷ [])
  extent-said None around after good low =
      out all refl refl (mk all (Token.mark (codes "]")) refl low right-bracket-on (done all around around after))
  extent-said (Some (Down right)) around after good low =
      may all
      (row all around Rows.row_extent_down (Begins.itself refl)
      (mk all (Token.mark (codes ":")) refl low colon-on
      (non all (bound-node right around (Some terminal.right_bracket) good low) (λ qs e. e) (done all around around (Some terminal.right_bracket)))) refl)
      (λ qs e. refl)
      (mk all (Token.mark (codes "]")) refl low right-bracket-on (done all around around after))
  extent-said (Some (Up width)) around after good low =
      may all
      (row all around Rows.row_extent_up (Begins.itself refl)
      (sp all
      (spaced all (Token.mark (codes "+:")) refl low spaced-plus-colon-on
      (non all (bound-node width around (Some terminal.right_bracket) good low) (λ qs e. e) (done all around around (Some terminal.right_bracket))))) refl)
      (λ qs e. refl)
      (mk all (Token.mark (codes "]")) refl low right-bracket-on (done all around around after))

  sel-decimal-means : (base : ℕ) (extent : Option VExtent)
      → select_of (P.Nothing ∷ P.Decimal base ∷ (extent_parts extent ++ P.Nothing ∷ [])) ≡ P.Sel (S.Decimal base extent)
  sel-decimal-means base None = refl
  sel-decimal-means base (Some extent) = refl

  sel-expr-means : (x : VExpr) (extent : Option VExtent)
      → select_of (P.Nothing ∷ P.Expr x ∷ (extent_parts extent ++ P.Nothing ∷ [])) ≡ P.Sel (S.Expr x extent)
  sel-expr-means x None = refl
  sel-expr-means x (Some extent) = refl

  extent-front : (extent : Option VExtent) (after : Option ℕ) → Stops (front (tokens_of (perhaps extent_layout extent ++ mark (codes "]") ∷ [])) after)
  extent-front None after = (refl, (refl, refl))
  extent-front (Some (Down right)) after = (refl, (refl, refl))
  extent-front (Some (Up width)) after = (refl, (refl, refl))

  sel-decimal-read : (base : ℕ) (extent : Option VExtent) → SelRead (S.Decimal base extent)
  sel-decimal-read base extent = (
    (λ M qs e. ap (λ l. ends ((l ++ M) ++ qs)) (sel-decimal-layout base extent)),
    (λ fits around after low.
        let good = and_parts (is_decimal base) (is_perhaps is_extent extent) (fits-as (sel-decimal-fit base extent) fits) in
        let here : around ≤ nesting_limit = omega (arith, low) in
        let rest = perhaps extent_layout extent ++ mark (codes "]") ∷ [] in
        node-as all (sym (sel-decimal-layout base extent))
        (row all around Rows.row_select (Begins.itself refl)
        (mk all (Token.mark (codes "[")) refl here left-bracket-on
        (non all (passed all around Rows.row_base_bound (bound-node base around (front (tokens_of rest) after) good.0 here) refl) (extent-ends extent [])
        (extent-said extent around after good.1 here)))
        (sel-decimal-means base extent))),
  )

  sel-expr-read : (x : VExpr) (extent : Option VExtent) → ExprRead x → SelRead (S.Expr x extent)
  sel-expr-read x extent read = (
    (λ M qs e. ap (λ l. ends ((l ++ M) ++ qs)) (sel-expr-layout x extent)),
    (λ fits around after low.
        let good = and_parts (fit x).fits (is_perhaps is_extent extent) (fits-as (sel-expr-fit x extent) fits) in
        let low_inside = depth-as around (sel-expr-fit x extent) low in
        let here : around ≤ nesting_limit = omega (arith, low) in
        let rest = perhaps extent_layout extent ++ mark (codes "]") ∷ [] in
        node-as all (sym (sel-expr-layout x extent))
        (row all around Rows.row_select (Begins.itself refl)
        (mk all (Token.mark (codes "[")) refl here left-bracket-on
        (non all (passed all around Rows.row_base_expression (read good.0 around (front (tokens_of rest) after) low_inside (extent-front extent after)) refl) (extent-ends extent [])
        (extent-said extent around after good.1 here)))
        (sel-expr-means x extent))),
  )

  -- one select or two
  pub selects-node : (s : VSel) (ss : List VSel) → Each SelRead (s ∷ ss) → nat_le (length (s ∷ ss)) 2 ≡ true → all_fit (map fit_of_sel (s ∷ ss)) ≡ true
      → (around : ℕ) (after : Option ℕ) → around + deepest (map fit_of_sel (s ∷ ss)) ≤ nesting_limit → avoids (Maybe head.select ∷ []) after ≡ true
      → Node all head.selects around (in_turn (map sel_layout (s ∷ ss))) after (P.Sels (s ∷ ss))
  selects-node s [] each count fits around after low stop =
      let good = and_parts (fit_of_sel s).fits true fits in
      let node = each.0.1 good.0 around after (omega (arith, low)) in
      row all around Rows.row_selects (begins-more all (Maybe head.select ∷ []) [] after node)
      (non all node (λ qs e. e) (out all refl stop (done all around around after))) refl
  selects-node s (t ∷ []) each count fits around after low stop =
      let good = and_parts (fit_of_sel s).fits (all_fit (map fit_of_sel (t ∷ []))) fits in
      let more = and_parts (fit_of_sel t).fits true good.1 in
      let first = each.0.1 good.0 around (front (tokens_of (sel_layout t ++ [])) after) (omega (arith, low)) in
      let second = each.1.0.1 more.0 around after (omega (arith, low)) in
      row all around Rows.row_selects (begins-more all (Maybe head.select ∷ []) (sel_layout t ++ []) after first)
      (non all first (each.1.0.0 [])
      (may all second (λ qs e. e) (done all around around after))) refl
  selects-node s (t ∷ u ∷ ss) each count fits around after low stop =
      let long = leb-true (length (s ∷ t ∷ u ∷ ss)) 2 count in absurd (omega (arith, long))

  pub sels-end : (ss : List VSel) → Each SelRead ss → Ended (in_turn (map sel_layout ss))
  sels-end [] each qs e = e
  sels-end (s ∷ ss) each qs e = each.0.0 (in_turn (map sel_layout ss)) qs e

  -- the items of a list of expressions
  pub expr-items : (xs : List VExpr) → Each ExprRead xs → all_fit (map fit xs) ≡ true → (around : ℕ) → around + deepest (map fit xs) ≤ nesting_limit
      → Each (Item all expr_layout P.Expr (Non head.expression) Stops around) xs
  expr-items [] each fits around low = tt
  expr-items (x ∷ xs) each fits around low =
      let good = and_parts (fit x).fits (all_fit (map fit xs)) fits in (
        (λ turn ps M after ms stop ended_by s. non all (each.0 good.0 around (front (tokens_of M) after) (omega (arith, low)) stop) ended_by s),
        expr-items xs each.1 good.1 around (omega (arith, low)),
      )

  -- expressions with commas between, in front of parts
  pub exprs-said : (x : VExpr) (xs : List VExpr) → Each ExprRead (x ∷ xs) → all_fit (map fit (x ∷ xs)) ≡ true → (around : ℕ) → around + deepest (map fit (x ∷ xs)) ≤ nesting_limit
      → {turn : ℕ} {ps : List Part} {M : List Piece} {after : Option ℕ} {ms : List VPart} → Stops (front (tokens_of M) after)
      → avoids (Many head.next_expression ∷ []) (front (tokens_of M) after) ≡ true → Ended M → Said all around around ps M after ms
      → Said all around turn (Non head.expression ∷ Many head.next_expression ∷ ps) (listed (map expr_layout (x ∷ xs)) ++ M) after (P.Expr x ∷ (map P.Expr xs ++ ms))
  exprs-said x xs each fits around low stop other ended_by s =
      separated all expr_layout P.Expr (Non head.expression) Stops (refl, (refl, refl)) head.next_expression 51 Rows.row_next_expression (λ y. refl) around (omega (arith, low))
      x xs (expr-items (x ∷ xs) each fits around low) stop other ended_by s

  pub exprs-made : (xs : List VExpr) (ps : List VPart) → all_of as_expr (map P.Expr xs ++ ps) ≡ xs ++ all_of as_expr ps
  exprs-made = all-made as_expr P.Expr (λ x. refl)

  number-read : (bits : List Bit4) → PrimRead (O.Number bits)
  number-read bits = (
    (λ fits qs.
        let good = fits-as (prim-number-fit bits) fits in
        let long = and_parts (nat_le 1 (length bits)) (nat_le (length bits) 128) good in
        let bound = leb-true (length bits) 128 long.1 in
        subst (λ l. Opens (bytes_from false (l ++ qs))) (sym (prim-number-layout bits))
        (subst Opens (sym (append_assoc (decimal (length bits)) _ (bytes_from false qs))) (decimal-opens (length bits) _ (omega (arith, bound))))),
    (λ fits around after low stop.
        let good = fits-as (prim-number-fit bits) fits in
        node-as all (sym (prim-number-layout bits))
        (row all around Rows.row_number (Begins.itself refl)
        (mk all (Token.number bits) refl (omega (arith, low)) (λ qs. number-on bits qs good) (done all around around after)) refl)),
  )

  paren-read : (x : VExpr) → ExprRead x → PrimRead (O.Paren x)
  paren-read x read = (
    (λ fits qs. subst (λ l. Opens (bytes_from false (l ++ qs))) (sym (prim-paren-layout x))
        (record { byte = 40; behind = _; is_text = refl; no_xor = refl; no_and = refl; no_or = refl; no_equals = refl })),
    (λ fits around after low stop.
        let low_inside = depth-as around (prim-paren-fit x) low in
        let here : around ≤ nesting_limit = omega (arith, low) in
        node-as all (sym (prim-paren-layout x))
        (row all around Rows.row_paren (Begins.itself refl)
        (mk all (Token.mark (codes "(")) refl here left-paren-on
        (non all (read (fits-as (prim-paren-fit x) fits) around (Some terminal.right_paren) low_inside (refl, (refl, refl))) (λ qs e. refl)
        (mk all (Token.mark (codes ")")) refl here right-paren-on (done all around around after)))) refl)),
  )

  name-pieces : (n : List ℕ) (ss : List VSel) → Each SelRead ss → is_name n ≡ true → nat_le (length ss) 2 ≡ true → all_fit (map fit_of_sel ss) ≡ true
      → (around : ℕ) (after : Option ℕ) → around + deepest (map fit_of_sel ss) ≤ nesting_limit → StopsName after
      → Node all head.primary around (name n ∷ in_turn (map sel_layout ss)) after (P.Prim (O.Name n ss))
  name-pieces n [] each named count fits around after low stop =
      row all around Rows.row_named (Begins.itself refl)
      (wd all (Token.name n) refl (omega (arith, low)) (λ qs. name-on n qs named) (λ qs e. e)
      (out all refl stop.0 (done all around around after))) refl
  name-pieces n (s ∷ ss) each named count fits around after low stop =
      let selects = selects-node s ss each count fits around after low stop.1 in
      node-as all (ap (λ l. name n ∷ l) (append-nil (in_turn (map sel_layout (s ∷ ss)))))
      (row all around Rows.row_named (Begins.itself refl)
      (wd all (Token.name n) refl (omega (arith, low)) (λ qs. name-on n qs named) (λ qs e. ap (λ l. ends (l ++ qs)) (append-nil (in_turn (map sel_layout (s ∷ ss)))) ∙ sels-end (s ∷ ss) each qs e)
      (may all (passed all around Rows.row_name_selects selects refl) (λ qs e. e) (done all around around after))) refl)

  name-prim-opens : (n : List ℕ) (L qs : List Piece) → Opens (bytes_from false ((name n ∷ L) ++ qs))
  name-prim-opens n L qs = name-opens n _

  name-read : (n : List ℕ) (ss : List VSel) → Each SelRead ss → PrimRead (O.Name n ss)
  name-read n ss each = (
    (λ fits qs. subst (λ l. Opens (bytes_from false (l ++ qs))) (sym (prim-name-layout n ss)) (name-prim-opens n (in_turn (map sel_layout ss)) qs)),
    (λ fits around after low stop.
        let both = and_parts (is_name n && nat_le (length (map fit_of_sel ss)) 2) (all_fit (map fit_of_sel ss)) (fits-as (prim-name-fit n ss) fits) in
        let parts = and_parts (is_name n) (nat_le (length (map fit_of_sel ss)) 2) both.0 in
        node-as all (sym (prim-name-layout n ss))
        (name-pieces n ss each parts.0 (ap (λ k. nat_le k 2) (sym (length-map ss fit_of_sel)) ∙ parts.1) both.1 around after
        (depth-as around (prim-name-fit n ss) low) stop)),
  )

  arguments-node : (xs : List VExpr) → Each ExprRead xs → has_some (map fit xs) ≡ true → all_fit (map fit xs) ≡ true → (around : ℕ) (after : Option ℕ)
      → around + deepest (map fit xs) ≤ nesting_limit
      → Node all head.name_rest around (mark (codes "(") ∷ (listed (map expr_layout xs) ++ mark (codes ")") ∷ [])) after (P.Args xs)
  arguments-node [] each some fits around after low = absurd (false≢true some)
  arguments-node (x ∷ xs) each some fits around after low =
      let here : around ≤ nesting_limit = omega (arith, low) in
      row all around Rows.row_arguments (Begins.itself refl)
      (mk all (Token.mark (codes "(")) refl here left-paren-on
      (exprs-said x xs each fits around low (refl, (refl, refl)) refl (λ qs e. refl)
      (mk all (Token.mark (codes ")")) refl here right-paren-on (done all around around after))))
      (ap (λ ys. P.Args (x ∷ ys)) (exprs-made xs (P.Nothing ∷ []) ∙ append-nil xs))

  call-read : (n : List ℕ) (xs : List VExpr) → Each ExprRead xs → PrimRead (O.Call n xs)
  call-read n xs each = (
    (λ fits qs. subst (λ l. Opens (bytes_from false (l ++ qs))) (sym (prim-call-layout n xs)) (name-prim-opens n (mark (codes "(") ∷ (listed (map expr_layout xs) ++ mark (codes ")") ∷ [])) qs)),
    (λ fits around after low stop.
        let both = and_parts (is_name n && has_some (map fit xs)) (all_fit (map fit xs)) (fits-as (prim-call-fit n xs) fits) in
        let parts = and_parts (is_name n) (has_some (map fit xs)) both.0 in
        let args = arguments-node xs each parts.1 both.1 around after (depth-as around (prim-call-fit n xs) low) in
        node-as all (ap (λ l. name n ∷ l) (append-nil _) ∙ sym (prim-call-layout n xs))
        (row all around Rows.row_named (Begins.itself refl)
        (wd all (Token.name n) refl (omega (arith, low)) (λ qs. name-on n qs parts.0) (λ qs e. refl)
        (may all args (λ qs e. e) (done all around around after))) refl)),
  )

  concat-node : (xs : List VExpr) → Each ExprRead xs → has_some (map fit xs) ≡ true → all_fit (map fit xs) ≡ true → (around : ℕ)
      → around + deepest (map fit xs) ≤ nesting_limit
      → Node all head.brace_rest around (listed (map expr_layout xs)) (Some terminal.right_brace) (P.Prim (O.Concat xs))
  concat-node [] each some fits around low = absurd (false≢true some)
  concat-node (x ∷ xs) each some fits around low =
      let good = and_parts (fit x).fits (all_fit (map fit xs)) fits in
      let said = exprs-said x xs each fits around low {M = []} {after = Some terminal.right_brace} (refl, (refl, refl)) refl (λ qs e. e) (done all around around (Some terminal.right_brace)) in
      let rest = further (map expr_layout xs) in
      let first = each.0 good.0 around (front (tokens_of (rest ++ [])) (Some terminal.right_brace)) (omega (arith, low)) (rest-stops xs) in
      node-as all (append-nil (listed (map expr_layout (x ∷ xs))))
      (row all around Rows.row_concat
      (subst (λ l. IsBegun table (Non head.expression ∷ Many head.next_expression ∷ []) (front (tokens_of l) (Some terminal.right_brace))) (sym (append_assoc (expr_layout x) rest []))
      (begins-more all (Many head.next_expression ∷ []) (rest ++ []) (Some terminal.right_brace) first))
      said (ap (λ ys. P.Prim (O.Concat (x ∷ ys))) (exprs-made xs [] ∙ append-nil xs)))
    where
      rest-stops : (ys : List VExpr) → Stops (front (tokens_of (further (map expr_layout ys) ++ [])) (Some terminal.right_brace))
      rest-stops [] = (refl, (refl, refl))
      rest-stops (y ∷ ys) = (refl, (refl, refl))

  concat-read : (xs : List VExpr) → Each ExprRead xs → PrimRead (O.Concat xs)
  concat-read xs each = (
    (λ fits qs. subst (λ l. Opens (bytes_from false (l ++ qs))) (sym (prim-concat-layout xs))
        (record { byte = 123; behind = _; is_text = refl; no_xor = refl; no_and = refl; no_or = refl; no_equals = refl })),
    (λ fits around after low stop.
        let parts = and_parts (has_some (map fit xs)) (all_fit (map fit xs)) (fits-as (prim-concat-fit xs) fits) in
        let here : around ≤ nesting_limit = omega (arith, low) in
        node-as all (sym (prim-concat-layout xs))
        (row all around Rows.row_braces (Begins.itself refl)
        (mk all (Token.mark (codes "{")) refl here left-brace-on
        (non all (concat-node xs each parts.0 parts.1 around (depth-as around (prim-concat-fit xs) low)) (λ qs e. refl)
        (mk all (Token.mark (codes "}")) refl here right-brace-on (done all around around after)))) refl)),
  )

  repeat-node : (n : ℕ) (xs : List VExpr) → Each ExprRead xs → is_decimal n ≡ true → has_some (map fit xs) ≡ true → all_fit (map fit xs) ≡ true → (around : ℕ)
      → around + deepest (map fit xs) ≤ nesting_limit
      → Node all head.brace_rest around (whole n ∷ mark (codes "{") ∷ (listed (map expr_layout xs) ++ mark (codes "}") ∷ [])) (Some terminal.right_brace) (P.Prim (O.Repeat n xs))
  repeat-node n [] each good some fits around low = absurd (false≢true some)
  repeat-node n (x ∷ xs) each good some fits around low =
      let here : around ≤ nesting_limit = omega (arith, low) in
      let count = bound-node n around (Some terminal.left_brace) good here in
      row all around Rows.row_repeat
      (begins-more all _ (mark (codes "{") ∷ (listed (map expr_layout (x ∷ xs)) ++ mark (codes "}") ∷ [])) (Some terminal.right_brace) count)
      (non all count (λ qs e. refl)
      (mk all (Token.mark (codes "{")) refl here left-brace-on
      (exprs-said x xs each fits around low (refl, (refl, refl)) refl (λ qs e. refl)
      (mk all (Token.mark (codes "}")) refl here right-brace-on (done all around around (Some terminal.right_brace))))))
      (ap (λ ys. P.Prim (O.Repeat n (x ∷ ys))) (exprs-made xs (P.Nothing ∷ []) ∙ append-nil xs))

  repeat-read : (n : ℕ) (xs : List VExpr) → Each ExprRead xs → PrimRead (O.Repeat n xs)
  repeat-read n xs each = (
    (λ fits qs. subst (λ l. Opens (bytes_from false (l ++ qs))) (sym (prim-repeat-layout n xs))
        (record { byte = 123; behind = _; is_text = refl; no_xor = refl; no_and = refl; no_or = refl; no_equals = refl })),
    (λ fits around after low stop.
        let both = and_parts (is_decimal n && has_some (map fit xs)) (all_fit (map fit xs)) (fits-as (prim-repeat-fit n xs) fits) in
        let parts = and_parts (is_decimal n) (has_some (map fit xs)) both.0 in
        let here : around ≤ nesting_limit = omega (arith, low) in
        node-as all
        (ap (λ l. mark (codes "{") ∷ whole n ∷ mark (codes "{") ∷ l) (append_assoc (listed (map expr_layout xs)) (mark (codes "}") ∷ []) (mark (codes "}") ∷ []))
        ∙ sym (prim-repeat-layout n xs))
        (row all around Rows.row_braces (Begins.itself refl)
        (mk all (Token.mark (codes "{")) refl here left-brace-on
        (non all (repeat-node n xs each parts.0 parts.1 both.1 around (depth-as around (prim-repeat-fit n xs) low)) (λ qs e. refl)
        (mk all (Token.mark (codes "}")) refl here right-brace-on (done all around around after)))) refl)),
  )

  sign-node : (signed : Bool) (around : ℕ) (after : Option ℕ) → around ≤ nesting_limit
      → Node all head.sign_function around (word (sign_word signed) ∷ []) after (P.Sign signed)
  sign-node true around after low =
      row all around Rows.row_signed (Begins.itself refl) (mk all (Token.word (codes "$signed")) refl low (signed-on true) (done all around around after)) refl
  sign-node false around after low =
      row all around Rows.row_unsigned (Begins.itself refl) (mk all (Token.word (codes "$unsigned")) refl low (signed-on false) (done all around around after)) refl

  sign-read : (signed : Bool) (x : VExpr) → ExprRead x → PrimRead (O.Sign signed x)
  sign-read signed x read = (
    (λ fits qs. subst (λ l. Opens (bytes_from false (l ++ qs))) (sym (prim-sign-layout signed x)) (opens signed _)),
    (λ fits around after low stop.
        let low_inside = depth-as around (prim-sign-fit signed x) low in
        let here : around ≤ nesting_limit = omega (arith, low) in
        let sign = sign-node signed around (Some terminal.left_paren) here in
        node-as all (sym (prim-sign-layout signed x))
        (row all around Rows.row_sign (begins-more all _ (mark (codes "(") ∷ (expr_layout x ++ mark (codes ")") ∷ [])) after sign)
        (non all sign (λ qs e. refl)
        (mk all (Token.mark (codes "(")) refl here left-paren-on
        (non all (read (fits-as (prim-sign-fit signed x) fits) around (Some terminal.right_paren) low_inside (refl, (refl, refl))) (λ qs e. refl)
        (mk all (Token.mark (codes ")")) refl here right-paren-on (done all around around after))))) refl)),
  )
    where
      opens : (b : Bool) (text : List ℕ) → Opens (sign_word b ++ text)
      opens true text = record { byte = 36; behind = _; is_text = refl; no_xor = refl; no_and = refl; no_or = refl; no_equals = refl }
      opens false text = record { byte = 36; behind = _; is_text = refl; no_xor = refl; no_and = refl; no_or = refl; no_equals = refl }

  prim-read : (a : VPrim) → PrimRead a → ExprRead (E.Prim a)
  prim-read a read fits around after low stop =
      let low_inside = depth-as around (expr-prim-fit a) low in
      let inner = read.1 (fits-as (expr-prim-fit a) fits) (suc around) after (omega (arith, low_inside)) stop.1 in
      node-as all (append-nil (prim_layout a) ∙ sym (expr-prim-layout a))
      (row all around Rows.row_expression (begins-more all (Maybe head.expression_rest ∷ []) [] after inner)
      (non all inner (λ qs e. e) (out all refl stop.0 (done all (suc around) (suc around) after))) refl)

  module _ (around : ℕ) (after : Option ℕ) where
    binary-derived : (op : VBinaryOp) → around ≤ nesting_limit → Derived all head.binary_operator around (Token.mark (binary_mark op) ∷ []) after (P.BinaryOp op)
    binary-derived B.Add low = by-row all around Rows.row_binary_add (Begins.itself refl) (symbol-read all (Token.mark (codes "+")) refl low (ended all around around after)) refl
    binary-derived B.Sub low = by-row all around Rows.row_binary_sub (Begins.itself refl) (symbol-read all (Token.mark (codes "-")) refl low (ended all around around after)) refl
    binary-derived B.Mul low = by-row all around Rows.row_binary_mul (Begins.itself refl) (symbol-read all (Token.mark (codes "*")) refl low (ended all around around after)) refl
    binary-derived B.Div low = by-row all around Rows.row_binary_div (Begins.itself refl) (symbol-read all (Token.mark (codes "/")) refl low (ended all around around after)) refl
    binary-derived B.Rem low = by-row all around Rows.row_binary_rem (Begins.itself refl) (symbol-read all (Token.mark (codes "%")) refl low (ended all around around after)) refl
    binary-derived B.Power low = by-row all around Rows.row_binary_power (Begins.itself refl) (symbol-read all (Token.mark (codes "**")) refl low (ended all around around after)) refl
    binary-derived B.ShiftLeft low = by-row all around Rows.row_binary_shift_left (Begins.itself refl) (symbol-read all (Token.mark (codes "<<")) refl low (ended all around around after)) refl
    binary-derived B.ShiftRight low = by-row all around Rows.row_binary_shift_right (Begins.itself refl) (symbol-read all (Token.mark (codes ">>")) refl low (ended all around around after)) refl
    binary-derived B.ArithmeticLeft low = by-row all around Rows.row_binary_arithmetic_left (Begins.itself refl) (symbol-read all (Token.mark (codes "<<<")) refl low (ended all around around after)) refl
    binary-derived B.ArithmeticRight low = by-row all around Rows.row_binary_arithmetic_right (Begins.itself refl) (symbol-read all (Token.mark (codes ">>>")) refl low (ended all around around after)) refl
    binary-derived B.Less low = by-row all around Rows.row_binary_less (Begins.itself refl) (symbol-read all (Token.mark (codes "<")) refl low (ended all around around after)) refl
    binary-derived B.LessEqual low = by-row all around Rows.row_binary_less_equal (Begins.itself refl) (symbol-read all (Token.mark (codes "<=")) refl low (ended all around around after)) refl
    binary-derived B.Greater low = by-row all around Rows.row_binary_greater (Begins.itself refl) (symbol-read all (Token.mark (codes ">")) refl low (ended all around around after)) refl
    binary-derived B.GreaterEqual low = by-row all around Rows.row_binary_greater_equal (Begins.itself refl) (symbol-read all (Token.mark (codes ">=")) refl low (ended all around around after)) refl
    binary-derived B.Equal low = by-row all around Rows.row_binary_equal (Begins.itself refl) (symbol-read all (Token.mark (codes "==")) refl low (ended all around around after)) refl
    binary-derived B.NotEqual low = by-row all around Rows.row_binary_not_equal (Begins.itself refl) (symbol-read all (Token.mark (codes "!=")) refl low (ended all around around after)) refl
    binary-derived B.CaseEqual low = by-row all around Rows.row_binary_case_equal (Begins.itself refl) (symbol-read all (Token.mark (codes "===")) refl low (ended all around around after)) refl
    binary-derived B.CaseNotEqual low = by-row all around Rows.row_binary_case_not_equal (Begins.itself refl) (symbol-read all (Token.mark (codes "!==")) refl low (ended all around around after)) refl
    binary-derived B.And low = by-row all around Rows.row_binary_and (Begins.itself refl) (symbol-read all (Token.mark (codes "&")) refl low (ended all around around after)) refl
    binary-derived B.Or low = by-row all around Rows.row_binary_or (Begins.itself refl) (symbol-read all (Token.mark (codes "|")) refl low (ended all around around after)) refl
    binary-derived B.Xor low = by-row all around Rows.row_binary_xor (Begins.itself refl) (symbol-read all (Token.mark (codes "^")) refl low (ended all around around after)) refl
    binary-derived B.Xnor low = by-row all around Rows.row_binary_xnor (Begins.itself refl) (symbol-read all (Token.mark (codes "~^")) refl low (ended all around around after)) refl
    binary-derived B.LogicalAnd low = by-row all around Rows.row_binary_logical_and (Begins.itself refl) (symbol-read all (Token.mark (codes "&&")) refl low (ended all around around after)) refl
    binary-derived B.LogicalOr low = by-row all around Rows.row_binary_logical_or (Begins.itself refl) (symbol-read all (Token.mark (codes "||")) refl low (ended all around around after)) refl

    unary-derived : (op : VUnaryOp) → around ≤ nesting_limit → Derived all head.unary_operator around (Token.mark (unary_mark op) ∷ []) after (P.UnaryOp op)
    unary-derived U.Not low = by-row all around Rows.row_unary_not (Begins.itself refl) (symbol-read all (Token.mark (codes "~")) refl low (ended all around around after)) refl
    unary-derived U.LogicalNot low = by-row all around Rows.row_unary_logical_not (Begins.itself refl) (symbol-read all (Token.mark (codes "!")) refl low (ended all around around after)) refl
    unary-derived U.Neg low = by-row all around Rows.row_unary_neg (Begins.itself refl) (symbol-read all (Token.mark (codes "-")) refl low (ended all around around after)) refl
    unary-derived U.And low = by-row all around Rows.row_unary_and (Begins.itself refl) (symbol-read all (Token.mark (codes "&")) refl low (ended all around around after)) refl
    unary-derived U.Nand low = by-row all around Rows.row_unary_nand (Begins.itself refl) (symbol-read all (Token.mark (codes "~&")) refl low (ended all around around after)) refl
    unary-derived U.Or low = by-row all around Rows.row_unary_or (Begins.itself refl) (symbol-read all (Token.mark (codes "|")) refl low (ended all around around after)) refl
    unary-derived U.Nor low = by-row all around Rows.row_unary_nor (Begins.itself refl) (symbol-read all (Token.mark (codes "~|")) refl low (ended all around around after)) refl
    unary-derived U.Xor low = by-row all around Rows.row_unary_xor (Begins.itself refl) (symbol-read all (Token.mark (codes "^")) refl low (ended all around around after)) refl
    unary-derived U.Xnor low = by-row all around Rows.row_unary_xnor (Begins.itself refl) (symbol-read all (Token.mark (codes "~^")) refl low (ended all around around after)) refl

  unary-read : (op : VUnaryOp) (a : VPrim) → PrimRead a → ExprRead (E.Unary op a)
  unary-read op a read fits around after low stop =
      let low_inside = depth-as around (expr-unary-fit op a) low in
      let good = fits-as (expr-unary-fit op a) fits in
      let here : suc around ≤ nesting_limit = omega (arith, low_inside) in
      let inner = read.1 good (suc around) after (omega (arith, low_inside)) stop.1 in
      let sign = unary-derived (suc around) (front (tokens_of (prim_layout a)) after) op here in
      node-as all (sym (expr-unary-layout op a))
      (record {
        derived = by-row all around Rows.row_unary (begun op)
            (tokens-are all (ap (λ ts. Token.mark (unary_mark op) ∷ ts) (append-nil (tokens_of (prim_layout a))))
            (non-read all {us = tokens_of (prim_layout a) ++ []}
            (subst (λ ts. Derived all head.unary_operator (suc around) (Token.mark (unary_mark op) ∷ []) (front ts after) (P.UnaryOp op)) (sym (append-nil (tokens_of (prim_layout a)))) sign)
            (non-read all inner.derived (ended all (suc around) (suc around) after)))) refl;
        on = λ qs e h. unary-on op (prim_layout a ++ qs) (read.0 good qs) (inner.on qs e h);
      })
    where
      begun : (o : VUnaryOp) → Begins table (Non head.unary_operator ∷ Non head.primary ∷ []) (terminal.symbol (Token.mark (unary_mark o)))
      begun U.Not = Begins.inside refl Rows.row_unary_not (Begins.itself refl)
      begun U.LogicalNot = Begins.inside refl Rows.row_unary_logical_not (Begins.itself refl)
      begun U.Neg = Begins.inside refl Rows.row_unary_neg (Begins.itself refl)
      begun U.And = Begins.inside refl Rows.row_unary_and (Begins.itself refl)
      begun U.Nand = Begins.inside refl Rows.row_unary_nand (Begins.itself refl)
      begun U.Or = Begins.inside refl Rows.row_unary_or (Begins.itself refl)
      begun U.Nor = Begins.inside refl Rows.row_unary_nor (Begins.itself refl)
      begun U.Xor = Begins.inside refl Rows.row_unary_xor (Begins.itself refl)
      begun U.Xnor = Begins.inside refl Rows.row_unary_xnor (Begins.itself refl)

  -- an operator and its right operand
  right-node : (op : VBinaryOp) (b : VPrim) (around : ℕ) (after : Option ℕ) → around ≤ nesting_limit → Node all head.primary around (prim_layout b) after (P.Prim b)
      → Node all head.expression_rest around (mark (binary_mark op) ∷ space ∷ prim_layout b) after (P.Right op b)
  right-node op b around after low n =
      let sign = binary-derived around (front (tokens_of (prim_layout b)) after) op low in
      record {
        derived = by-row all around Rows.row_right (begun op)
            (tokens-are all (ap (λ ts. Token.mark (binary_mark op) ∷ ts) (append-nil (tokens_of (prim_layout b))))
            (non-read all {us = tokens_of (prim_layout b) ++ []}
            (subst (λ ts. Derived all head.binary_operator around (Token.mark (binary_mark op) ∷ []) (front ts after) (P.BinaryOp op)) (sym (append-nil (tokens_of (prim_layout b)))) sign)
            (non-read all n.derived (ended all around around after)))) refl;
        on = λ qs e h. spaced-binary-on op (prim_layout b ++ qs) (n.on qs e h);
      }
    where
      begun : (o : VBinaryOp) → Begins table (Non head.binary_operator ∷ Non head.primary ∷ []) (terminal.symbol (Token.mark (binary_mark o)))
      begun B.Add = Begins.inside refl Rows.row_binary_add (Begins.itself refl)
      begun B.Sub = Begins.inside refl Rows.row_binary_sub (Begins.itself refl)
      begun B.Mul = Begins.inside refl Rows.row_binary_mul (Begins.itself refl)
      begun B.Div = Begins.inside refl Rows.row_binary_div (Begins.itself refl)
      begun B.Rem = Begins.inside refl Rows.row_binary_rem (Begins.itself refl)
      begun B.Power = Begins.inside refl Rows.row_binary_power (Begins.itself refl)
      begun B.ShiftLeft = Begins.inside refl Rows.row_binary_shift_left (Begins.itself refl)
      begun B.ShiftRight = Begins.inside refl Rows.row_binary_shift_right (Begins.itself refl)
      begun B.ArithmeticLeft = Begins.inside refl Rows.row_binary_arithmetic_left (Begins.itself refl)
      begun B.ArithmeticRight = Begins.inside refl Rows.row_binary_arithmetic_right (Begins.itself refl)
      begun B.Less = Begins.inside refl Rows.row_binary_less (Begins.itself refl)
      begun B.LessEqual = Begins.inside refl Rows.row_binary_less_equal (Begins.itself refl)
      begun B.Greater = Begins.inside refl Rows.row_binary_greater (Begins.itself refl)
      begun B.GreaterEqual = Begins.inside refl Rows.row_binary_greater_equal (Begins.itself refl)
      begun B.Equal = Begins.inside refl Rows.row_binary_equal (Begins.itself refl)
      begun B.NotEqual = Begins.inside refl Rows.row_binary_not_equal (Begins.itself refl)
      begun B.CaseEqual = Begins.inside refl Rows.row_binary_case_equal (Begins.itself refl)
      begun B.CaseNotEqual = Begins.inside refl Rows.row_binary_case_not_equal (Begins.itself refl)
      begun B.And = Begins.inside refl Rows.row_binary_and (Begins.itself refl)
      begun B.Or = Begins.inside refl Rows.row_binary_or (Begins.itself refl)
      begun B.Xor = Begins.inside refl Rows.row_binary_xor (Begins.itself refl)
      begun B.Xnor = Begins.inside refl Rows.row_binary_xnor (Begins.itself refl)
      begun B.LogicalAnd = Begins.inside refl Rows.row_binary_logical_and (Begins.itself refl)
      begun B.LogicalOr = Begins.inside refl Rows.row_binary_logical_or (Begins.itself refl)

  binary-read : (op : VBinaryOp) (a b : VPrim) → PrimRead a → PrimRead b → ExprRead (E.Binary op a b)
  binary-read op a b left right fits around after low stop =
      let low_inside = depth-as around (expr-binary-fit op a b) low in
      let good = and_parts (fit_of_prim a).fits (fit_of_prim b).fits (fits-as (expr-binary-fit op a b) fits) in
      let here : suc around ≤ nesting_limit = omega (arith, low_inside) in
      let rest = space ∷ mark (binary_mark op) ∷ space ∷ (prim_layout b ++ []) in
      let one = left.1 good.0 (suc around) (Some (terminal.symbol (Token.mark (binary_mark op)))) (omega (arith, low_inside)) (operator-stops op) in
      let operand = right-node op b (suc around) after here (right.1 good.1 (suc around) after (omega (arith, low_inside)) stop.1) in
      node-as all (ap (λ l. prim_layout a ++ (space ∷ mark (binary_mark op) ∷ space ∷ l)) (append-nil (prim_layout b)) ∙ sym (expr-binary-layout op a b))
      (row all around Rows.row_expression (begins-more all (Maybe head.expression_rest ∷ []) rest after one)
      (non all one (λ qs e. refl) (sp all (may all operand (λ qs e. e) (done all (suc around) (suc around) after)))) refl)

  choose-read : (on a b : VPrim) → PrimRead on → PrimRead a → PrimRead b → ExprRead (E.Choose on a b)
  choose-read on a b first second third fits around after low stop =
      let low_inside = depth-as around (expr-choose-fit on a b) low in
      let two = and_parts ((fit_of_prim on).fits && (fit_of_prim a).fits) (fit_of_prim b).fits (fits-as (expr-choose-fit on a b) fits) in
      let good = and_parts (fit_of_prim on).fits (fit_of_prim a).fits two.0 in
      let here : suc around ≤ nesting_limit = omega (arith, low_inside) in
      let test = first.1 good.0 (suc around) (Some terminal.question) (omega (arith, low_inside)) (refl, refl) in
      let yes = second.1 good.1 (suc around) (Some terminal.colon) (omega (arith, low_inside)) (refl, refl) in
      let no = third.1 two.1 (suc around) after (omega (arith, low_inside)) stop.1 in
      let arms = row all (suc around) Rows.row_arms (Begins.itself refl)
      (spaced all (Token.mark (codes "?")) refl here spaced-question-on
      (non all yes (λ qs e. refl)
      (sp all (spaced all (Token.mark (codes ":")) refl here spaced-colon-on
      (non all no (λ qs e. e) (done all (suc around) (suc around) after)))))) refl in
      let laid = mark (codes "?") ∷ space ∷ (prim_layout a ++ (space ∷ mark (codes ":") ∷ space ∷ (prim_layout b ++ []))) in
      node-as all
      (ap (λ l. prim_layout on ++ (space ∷ l)) (append-nil laid)
      ∙ ap (λ l. prim_layout on ++ (space ∷ mark (codes "?") ∷ space ∷ (prim_layout a ++ (space ∷ mark (codes ":") ∷ space ∷ l)))) (append-nil (prim_layout b))
      ∙ sym (expr-choose-layout on a b))
      (row all around Rows.row_expression (begins-more all (Maybe head.expression_rest ∷ []) (space ∷ (laid ++ [])) after test)
      (non all test (λ qs e. refl) (sp all (may all arms (λ qs e. e) (done all (suc around) (suc around) after)))) refl)

  steps : ExprSteps ExprRead PrimRead SelRead
  steps = record {
    expr-prim = prim-read;
    expr-unary = unary-read;
    expr-binary = binary-read;
    expr-choose = choose-read;
    prim-number = number-read;
    prim-paren = paren-read;
    prim-name = name-read;
    prim-call = call-read;
    prim-repeat = repeat-read;
    prim-concat = concat-read;
    prim-sign = sign-read;
    sel-decimal = sel-decimal-read;
    sel-expr = sel-expr-read;
  }

  pub expr-read : (x : VExpr) → ExprRead x
  expr-read = ind-expr ExprRead PrimRead SelRead steps

  pub sel-read : (s : VSel) → SelRead s
  sel-read = ind-sel ExprRead PrimRead SelRead steps

  pub each-expr : (xs : List VExpr) → Each ExprRead xs
  each-expr [] = tt
  each-expr (x ∷ xs) = (expr-read x, each-expr xs)

  pub each-sel : (ss : List VSel) → Each SelRead ss
  each-sel [] = tt
  each-sel (s ∷ ss) = (sel-read s, each-sel ss)

  further-stops : (xs : List VExpr) (M : List Piece) (after : Option ℕ) → Stops (front (tokens_of M) after) → Stops (front (tokens_of (further (map expr_layout xs) ++ M)) after)
  further-stops [] M after stop = stop
  further-stops (x ∷ xs) M after stop = (refl, (refl, refl))

  -- what begins expressions with commas between
  pub exprs-begin : (x : VExpr) (xs : List VExpr) (ps : List Part) (M : List Piece) (after : Option ℕ) (around : ℕ) → (fit x).fits ≡ true → around + (fit x).depth ≤ nesting_limit
      → Stops (front (tokens_of M) after) → IsBegun table (Non head.expression ∷ ps) (front (tokens_of (listed (map expr_layout (x ∷ xs)) ++ M)) after)
  exprs-begin x xs ps M after around fits low stop =
      let rest = further (map expr_layout xs) ++ M in
      subst (λ l. IsBegun table (Non head.expression ∷ ps) (front (tokens_of l) after)) (sym (append_assoc (expr_layout x) (further (map expr_layout xs)) M))
      (begins-more all ps rest after (expr-read x fits around (front (tokens_of rest) after) low (further-stops xs M after stop)))
