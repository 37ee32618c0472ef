-- A core design that is translated is translated as an elaborated design too.
use Rattle.std.proofs.Common.{◌≡◌, ◌⊎◌, ℕ, zero, suc, ◌+◌, ◌<◌, ◌≤◌, max, Bool, true, false, List, [], ◌∷◌, ◌++◌, map, flat_map, length, Option, Some, None, refl, sym, ap, subst, ◌∙◌, inl, inr, arith}
use Rattle.std.specs.Prelude.{nat_le, if◌then◌else◌}
use Rattle.std.specs.List.{slice_get}
use Rattle.std.specs.Option.{option_map}
use Rattle.std.proofs.lemmas.Bool.{le-leb, leb-true, leb-false}
use Rattle.b4_core.specs.declared.bit.Bit4.{Bit4}
use Rattle.b4_core.specs.declared.operators.UnOp.{UnOp}
use Rattle.b4_core.specs.declared.operators.UnOp.TheVariants.{Not}
use Rattle.b4_core.specs.declared.operators.BinOp.{BinOp}
use Rattle.row_machine.specs.Valuation.{Member}
use Rattle.row_machine.proofs.Members.{append-member, member-front, member-back, map-member}
use Rattle.sv_types.specs.declared.types.SvType.{SvType}
use Rattle.sv_types.specs.declared.expression.Expr.{Expr as Typed}
use Rattle.sv_types.specs.declared.expression.Form.{Form, Form-F, out-Form, out-roll-Form}
use Rattle.sv_types.specs.declared.expression.Form.TheVariants as V
use Rattle.sv_types.specs.declared.design.Signal.{Signal as TypedSignal}
use Rattle.sv_types.specs.declared.design.Process.{Process as TypedProcess}
use Rattle.sv_types.specs.Layouts as Layouts
use Rattle.core_forms.specs.Forms.{then_one, then_two, each, primary_in, primary_of, operand_with, operand_in, operand_of, binary_with, expr_in, expr_of, target_in, if_of, assign_with, stmt_of, edge_of, kind_of, process_with, process_of, signal_kind_of, signal_of, design_with, core_of}
use Rattle.core_forms.specs.Typing.{IsVector, width_or_zero, width_in, PrimaryIn, PrimaryTyped, OperandIn, OperandTyped, ExprIn, ExprTyped, all_of, exprs_in, IsPlain}
use Rattle.core_forms.specs.Typed.{nowhere, vector_of, node, typed_form, bits_of, typed_primary, inverted_if, typed_operand, typed_expr, typed_stmt, typed_edge, typed_kind, typed_process, typed_signal_kind, typed_signal, typed}
use Rattle.core_forms.proofs.Gathering.{each-map}
use Rattle.core_forms.proofs.Levels.{of-block, of-If, of-Assign, in-Block, in-If, in-Assign}
use Rattle.core_forms.proofs.TypedLevels.{typed-Block, typed-If, typed-Assign}
use Rattle.core_forms.proofs.Vectors.{vector-is, vector-width}
use Rattle.sv_core.specs.declared.design.SignalKind.{SignalKind}
use Rattle.sv_core.specs.declared.design.SignalKind.TheVariants.{InputNet, OutputVar, Variable}
use Rattle.sv_core.specs.declared.design.Signal.{Signal}
use Rattle.sv_core.specs.declared.design.Primary.{Primary}
use Rattle.sv_core.specs.declared.design.Primary.TheVariants as P
use Rattle.sv_core.specs.declared.design.Operand.{Operand}
use Rattle.sv_core.specs.declared.design.Expr.{Expr}
use Rattle.sv_core.specs.declared.design.Expr.TheVariants.{Single, Binary}
use Rattle.sv_core.specs.declared.design.EdgeOn.{EdgeOn}
use Rattle.sv_core.specs.declared.design.ProcessKind.{ProcessKind}
use Rattle.sv_core.specs.declared.design.ProcessKind.TheVariants.{Continuous, Comb, Edges}
use Rattle.sv_core.specs.declared.design.Process.{Process}
use Rattle.sv_core.specs.declared.design.Stmt.{Stmt}
use Rattle.sv_core.specs.declared.design.Stmt.TheVariants as S
use Rattle.sv_core.specs.declared.design.Design.{Design}
use Rattle.sv_core.specs.Statements.{width_of, Doing, doing, stmt_doing, primary_signals, expr_signals}
use Rattle.sv_core.specs.Statements as Core
use Rattle.lower_design.specs.Translatable.{PrimaryFits, ExprFits, Inside, inside, stmt_inside, all_exprs, Translatable}
use Rattle.lower_design.specs.Designs.{IsTranslatable}
use Rattle.lower_design.proofs.Induction.{Steps, by_statement}
use Rattle.lower_design.proofs.Levels.{block-level, alone-level, either-level, assign-level}
use Rattle.lower_design.proofs.Names.{member-at}
use Rattle.lower_design.proofs.Items.{get-below, below-get}
use Rattle.lower_design.proofs.Extension.{uses-signals}

-- lists that are made there and back
each-back : {A B : Type 0} (f : B → Option A) (g : A → B) (xs : List A) → ((x : A) → Member xs x → f (g x) ≡ Some x) → each f (map g xs) ≡ Some xs
each-back f g [] h = refl
each-back f g (x ∷ xs) h = λ i. then_two (λ y ys. y ∷ ys) (h x (inl refl) i) (each-back f g xs (λ y m. h y (inr m)) i)

-- the layers of the forms that are made
out-Signal : (n : ℕ) → out-Form (V.Signal n) ≡ Form-F.Signal n
out-Signal n = ap out-Form (sym (V.rolls-Signal n)) ∙ out-roll-Form (Form-F.Signal n)

out-Literal : (bits : List Bit4) (goes_on : Bool) → out-Form (V.Literal bits goes_on) ≡ Form-F.Literal bits goes_on
out-Literal bits goes_on = ap out-Form (sym (V.rolls-Literal bits goes_on)) ∙ out-roll-Form (Form-F.Literal bits goes_on)

out-Unary : (op : UnOp) (e : Typed) → out-Form (V.Unary op e) ≡ Form-F.Unary op e
out-Unary op e = ap out-Form (sym (V.rolls-Unary op e)) ∙ out-roll-Form (Form-F.Unary op e)

out-Binary : (op : BinOp) (a b : Typed) → out-Form (V.Binary op a b) ≡ Form-F.Binary op a b
out-Binary op a b = ap out-Form (sym (V.rolls-Binary op a b)) ∙ out-roll-Form (Form-F.Binary op a b)

signal-kind-back : (k : SignalKind) → signal_kind_of (typed_signal_kind k) ≡ Some k
signal-kind-back InputNet = refl
signal-kind-back OutputVar = refl
signal-kind-back Variable = refl

abbrev made : List ℕ → ℕ → SignalKind → Signal
made path width kind = record { path = path; width = width; kind = kind }

signal-back : (s : Signal) → 1 ≤ s.width → s.width ≤ 65536 → signal_of (typed_signal s) ≡ Some s
signal-back s some few =
    let limit : s.width ≤ 4194304 = omega arith in
    let w : Layouts.width_of (vector_of s.width) ≡ s.width = vector-width (vector_of s.width) s.width (vector-is s.width some limit) in
    ap (λ n. if nat_le n 4194304 then then_one (made s.path n) (signal_kind_of (typed_signal_kind s.kind)) else None) w
    ∙ ap (λ o. if nat_le s.width 4194304 then then_one (made s.path s.width) o else None) (signal-kind-back s.kind)
    ∙ ap (λ b. if b then Some s else None) (le-leb s.width 4194304 limit)

edges-back : (es : List EdgeOn) → map edge_of (map typed_edge es) ≡ es
edges-back [] = refl
edges-back (e ∷ es) = ap (λ fs. e ∷ fs) (edges-back es)

kind-back : (k : ProcessKind) → kind_of (typed_kind k) ≡ Some k
kind-back Continuous = refl
kind-back Comb = refl
kind-back (Edges es) = ap (λ fs. Some (Edges fs)) (edges-back es)

module _ (ss : List Signal) where
  primary-back : (p : Primary) → primary_of (typed_primary ss p) ≡ Some p
  primary-back (P.Signal n) = ap primary_in (out-Signal n)
  primary-back (P.Literal bits) = ap primary_in (out-Literal bits false)

  operand-back : (b : Bool) (p : Primary) → operand_of (inverted_if b (bits_of ss p) (typed_primary ss p)) ≡ Some (operand_with b p)
  operand-back true p =
      ap (operand_in (node (bits_of ss p) (V.Unary Not (typed_primary ss p)))) (out-Unary Not (typed_primary ss p)) ∙ ap (then_one (operand_with true)) (primary-back p)
  operand-back false (P.Signal n) = ap (operand_in (typed_primary ss (P.Signal n))) (out-Signal n) ∙ ap (then_one (operand_with false)) (primary-back (P.Signal n))
  operand-back false (P.Literal bits) =
      ap (operand_in (typed_primary ss (P.Literal bits))) (out-Literal bits false) ∙ ap (then_one (operand_with false)) (primary-back (P.Literal bits))

  single-back : (b : Bool) (p : Primary) → expr_of (inverted_if b (bits_of ss p) (typed_primary ss p)) ≡ Some (Single (operand_with b p))
  single-back true p = ap (expr_in (node (bits_of ss p) (V.Unary Not (typed_primary ss p)))) (out-Unary Not (typed_primary ss p)) ∙ ap (then_one Single) (operand-back true p)
  single-back false (P.Signal n) = ap (expr_in (typed_primary ss (P.Signal n))) (out-Signal n) ∙ ap (then_one Single) (operand-back false (P.Signal n))
  single-back false (P.Literal bits) = ap (expr_in (typed_primary ss (P.Literal bits))) (out-Literal bits false) ∙ ap (then_one Single) (operand-back false (P.Literal bits))

  expr-back : (x : Expr) → expr_of (typed_expr ss x) ≡ Some x
  expr-back (Single a) = single-back a.inverted a.primary
  expr-back (Binary op a b) =
      ap (expr_in (node (max (bits_of ss a.primary) (bits_of ss b.primary)) (V.Binary op (typed_operand ss a) (typed_operand ss b)))) (out-Binary op (typed_operand ss a) (typed_operand ss b))
      ∙ (λ i. then_two (binary_with op) (operand-back a.inverted a.primary i) (operand-back b.inverted b.primary i))

  abbrev Back : Stmt → Type 0
  Back s = stmt_of (typed_stmt ss s) ≡ Some s

  back-steps : Steps Back
  back-steps = record {
    block = λ xs h. ap stmt_of (typed-Block ss xs) ∙ of-block [] (map (typed_stmt ss) xs) ∙ ap (then_one S.Block) (each-back stmt_of (typed_stmt ss) xs h);
    alone = λ on body h.
        ap stmt_of (typed-If ss on body None) ∙ of-If (typed_expr ss on) (typed_stmt ss body) None ∙ (λ i. if_of (expr-back on i) (h i) (Some None));
    either = λ on body other h k.
        ap stmt_of (typed-If ss on body (Some other)) ∙ of-If (typed_expr ss on) (typed_stmt ss body) (Some (typed_stmt ss other)) ∙ (λ i. if_of (expr-back on i) (h i) (then_one Some (k i)));
    assign = λ to value later.
        ap stmt_of (typed-Assign ss to value later) ∙ of-Assign (typed_primary ss (P.Signal to) ∷ []) (typed_expr ss value) later nowhere
        ∙ (λ i. then_two (assign_with later) (target_in (out-Signal to i)) (expr-back value i));
  }

  stmt-back : (s : Stmt) → stmt_of (typed_stmt ss s) ≡ Some s
  stmt-back = by_statement Back back-steps

  process-back : (p : Process) → process_of (typed_process ss p) ≡ Some p
  process-back p = λ i. then_two process_with (kind-back p.kind i) (stmt-back p.body i)

-- the widths of the signals that are made
slice-map : {A B : Type 0} (f : A → B) (xs : List A) (n : ℕ) → slice_get (map f xs) n ≡ option_map f (slice_get xs n)
slice-map f [] n = refl
slice-map f (x ∷ xs) zero = refl
slice-map f (x ∷ xs) (suc n) = slice-map f xs n

module _ (ss : List Signal) (some : (s : Signal) → Member ss s → 1 ≤ s.width) (few : (s : Signal) → Member ss s → s.width ≤ 65536) where
  vector-there : (s : Signal) → Member ss s → IsVector (vector_of s.width) s.width
  vector-there s m = (let one = some s m in let most = few s m in vector-is s.width one (omega (arith, most)))

  widths-same : (n : ℕ) → width_in (map typed_signal ss) n ≡ width_of ss n
  widths-same n = ap width_or_zero (slice-map typed_signal ss n) ∙ by_signal (slice_get ss n) refl
    where
      by_signal : (o : Option Signal) → slice_get ss n ≡ o → width_or_zero (option_map typed_signal o) ≡ Core.width_or_zero o
      by_signal None e = refl
      by_signal (Some s) e = vector-width (vector_of s.width) s.width (vector-there s (member-at ss n s e))

  -- names of signals that are there, and literals of 1 to 128 bits
  abbrev IsThere : List ℕ → Type 0
  IsThere ns = (n : ℕ) → Member ns n → n < length ss

  primary-vector : (p : Primary) → IsThere (primary_signals p) → PrimaryFits p → IsVector (vector_of (bits_of ss p)) (bits_of ss p)
  primary-vector (P.Signal n) there fits =
      let r = get-below ss n (there n (inl refl)) in
      subst (λ w. IsVector (vector_of w) w) (sym (ap Core.width_or_zero r.1)) (vector-there r.0 (member-at ss n r.0 r.1))
  primary-vector (P.Literal bits) there fits = (let low = fits.0 in let high = fits.1 in vector-is (length bits) low (omega (arith, high)))

  abbrev Widths : ℕ → ℕ
  Widths = width_in (map typed_signal ss)

  primary-typed : (p : Primary) → IsThere (primary_signals p) → PrimaryFits p → PrimaryTyped Widths (typed_primary ss p)
  primary-typed (P.Signal n) there fits =
      subst (PrimaryIn Widths (vector_of (bits_of ss (P.Signal n)))) (sym (out-Signal n)) (subst (IsVector (vector_of (bits_of ss (P.Signal n)))) (sym (widths-same n)) (primary-vector (P.Signal n) there fits))
  primary-typed (P.Literal bits) there fits =
      subst (PrimaryIn Widths (vector_of (length bits))) (sym (out-Literal bits false)) (primary-vector (P.Literal bits) there fits)

  -- the layers of a primary
  primary-operand : (p : Primary) → PrimaryTyped Widths (typed_primary ss p) → OperandTyped Widths (typed_primary ss p)
  primary-operand (P.Signal n) h = subst (OperandIn Widths (vector_of (bits_of ss (P.Signal n)))) (sym (out-Signal n)) (subst (PrimaryIn Widths (vector_of (bits_of ss (P.Signal n)))) (out-Signal n) h)
  primary-operand (P.Literal bits) h = subst (OperandIn Widths (vector_of (length bits))) (sym (out-Literal bits false)) (subst (PrimaryIn Widths (vector_of (length bits))) (out-Literal bits false) h)

  primary-expr : (p : Primary) → PrimaryTyped Widths (typed_primary ss p) → ExprTyped Widths (typed_primary ss p)
  primary-expr (P.Signal n) h = subst (ExprIn Widths (vector_of (bits_of ss (P.Signal n)))) (sym (out-Signal n)) (subst (PrimaryIn Widths (vector_of (bits_of ss (P.Signal n)))) (out-Signal n) h)
  primary-expr (P.Literal bits) h = subst (ExprIn Widths (vector_of (length bits))) (sym (out-Literal bits false)) (subst (PrimaryIn Widths (vector_of (length bits))) (out-Literal bits false) h)

  inverted-is : (p : Primary) → IsThere (primary_signals p) → PrimaryFits p → IsVector (vector_of (bits_of ss p)) (Layouts.width_of (vector_of (bits_of ss p))) × PrimaryTyped Widths (typed_primary ss p)
  inverted-is p there fits =
      let v = primary-vector p there fits in
      (subst (IsVector (vector_of (bits_of ss p))) (sym (vector-width (vector_of (bits_of ss p)) (bits_of ss p) v)) v, primary-typed p there fits)

  operand-typed : (b : Bool) (p : Primary) → IsThere (primary_signals p) → PrimaryFits p → OperandTyped Widths (inverted_if b (bits_of ss p) (typed_primary ss p))
  operand-typed true p there fits = subst (OperandIn Widths (vector_of (bits_of ss p))) (sym (out-Unary Not (typed_primary ss p))) (inverted-is p there fits)
  operand-typed false p there fits = primary-operand p (primary-typed p there fits)

  single-typed : (b : Bool) (p : Primary) → IsThere (primary_signals p) → PrimaryFits p → ExprTyped Widths (inverted_if b (bits_of ss p) (typed_primary ss p))
  single-typed true p there fits = subst (ExprIn Widths (vector_of (bits_of ss p))) (sym (out-Unary Not (typed_primary ss p))) (inverted-is p there fits)
  single-typed false p there fits = primary-expr p (primary-typed p there fits)

  operand-width : (b : Bool) (p : Primary) → IsThere (primary_signals p) → PrimaryFits p → Layouts.width_of (inverted_if b (bits_of ss p) (typed_primary ss p)).of ≡ bits_of ss p
  operand-width true p there fits = vector-width (vector_of (bits_of ss p)) (bits_of ss p) (primary-vector p there fits)
  operand-width false p there fits = vector-width (vector_of (bits_of ss p)) (bits_of ss p) (primary-vector p there fits)

  larger : (w x : ℕ) → IsVector (vector_of w) w → IsVector (vector_of x) x → IsVector (vector_of (max w x)) (max w x)
  larger w x v u = by_order (nat_le w x) refl
    where
      by_order : (b : Bool) → nat_le w x ≡ b → IsVector (vector_of (max w x)) (max w x)
      by_order true e = (let less = leb-true w x e in let same : x ≡ max w x = omega arith in subst (λ n. IsVector (vector_of n) n) same u)
      by_order false e = (let more = leb-false w x e in let same : w ≡ max w x = omega arith in subst (λ n. IsVector (vector_of n) n) same v)

  expr-typed : (x : Expr) → IsThere (expr_signals x) → ExprFits x → ExprTyped Widths (typed_expr ss x)
  expr-typed (Single a) there fits = single-typed a.inverted a.primary there fits
  expr-typed (Binary op a b) there fits =
      let left : IsThere (primary_signals a.primary) = λ n m. there n (member-front (primary_signals a.primary) (primary_signals b.primary) n m) in
      let right : IsThere (primary_signals b.primary) = λ n m. there n (member-back (primary_signals a.primary) (primary_signals b.primary) n m) in
      let w = bits_of ss a.primary in
      let x = bits_of ss b.primary in
      let both : IsVector (vector_of (max w x)) (max w x) = larger w x (primary-vector a.primary left fits.1) (primary-vector b.primary right fits.2) in
      subst (ExprIn Widths (vector_of (max w x))) (sym (out-Binary op (typed_operand ss a) (typed_operand ss b))) (
        subst (IsVector (vector_of (max w x))) (λ i. max (sym (operand-width a.inverted a.primary left fits.1) i) (sym (operand-width b.inverted b.primary right fits.2) i)) both,
        operand-typed a.inverted a.primary left fits.1,
        operand-typed b.inverted b.primary right fits.2,
      )

  abbrev AllTyped : List Typed → Type 0
  AllTyped es = (e : Typed) → Member es e → ExprTyped Widths e

  -- what a statement uses is there, and its expressions fit
  record Good (d : Doing) (exprs : List Expr) : Type 0 where
    reads : IsThere d.reads
    targets : IsThere d.targets
    later_targets : IsThere d.later_targets
    fit : (x : Expr) → Member exprs x → ExprFits x

  abbrev Done : Stmt → Type 0
  Done s = Good (doing s) (inside s).exprs → AllTyped (exprs_in (typed_stmt ss s))

  block-typed : (xs : List Stmt) → ((s : Stmt) → Member xs s → Done s) → Good (Core.sequence (map doing xs)) (all_exprs (map inside xs)) → AllTyped (all_of (map exprs_in (map (typed_stmt ss) xs)))
  block-typed [] h good e m = elim m [ ]
  block-typed (x ∷ xs) h good e m = by_place (append-member (exprs_in (typed_stmt ss x)) (all_of (map exprs_in (map (typed_stmt ss) xs))) e m)
      (block-typed xs (λ s k. h s (inr k)) (record {
        reads = λ n k. good.reads n (member-back (doing x).reads (Core.sequence (map doing xs)).reads n k);
        targets = λ n k. good.targets n (member-back (doing x).targets (Core.sequence (map doing xs)).targets n k);
        later_targets = λ n k. good.later_targets n (member-back (doing x).later_targets (Core.sequence (map doing xs)).later_targets n k);
        fit = λ y k. good.fit y (member-back (inside x).exprs (all_exprs (map inside xs)) y k);
      }))
    where
      by_place : Member (exprs_in (typed_stmt ss x)) e ⊎ Member (all_of (map exprs_in (map (typed_stmt ss) xs))) e → AllTyped (all_of (map exprs_in (map (typed_stmt ss) xs))) → ExprTyped Widths e
      by_place (inl k) rest = h x (inl refl) (record {
        reads = λ n k. good.reads n (member-front (doing x).reads (Core.sequence (map doing xs)).reads n k);
        targets = λ n k. good.targets n (member-front (doing x).targets (Core.sequence (map doing xs)).targets n k);
        later_targets = λ n k. good.later_targets n (member-front (doing x).later_targets (Core.sequence (map doing xs)).later_targets n k);
        fit = λ y k. good.fit y (member-front (inside x).exprs (all_exprs (map inside xs)) y k);
      }) e k
      by_place (inr k) rest = rest e k

  -- by what a statement is at this level
  at-level : (s : Stmt) (d : Doing) (i : Inside) (es : List Typed) → doing s ≡ d → inside s ≡ i → exprs_in (typed_stmt ss s) ≡ es → (Good d i.exprs → AllTyped es) → Done s
  at-level s d i es dis iis eis go good =
      subst AllTyped (sym eis) (go (subst (λ x. Good x i.exprs) dis (subst (λ (x : Inside). Good (doing s) x.exprs) iis good)))

  choice-typed : (on : Expr) (d d' : Doing) (xs ys : List Expr) (es fs : List Typed) → (Good d xs → AllTyped es) → (Good d' ys → AllTyped fs)
      → Good (Core.choice on d d') (on ∷ (xs ++ ys)) → AllTyped (typed_expr ss on ∷ (es ++ fs))
  choice-typed on d d' xs ys es fs h k good e (inl same) =
      subst (ExprTyped Widths) (sym same) (expr-typed on (λ n m. good.reads n (member-front (expr_signals on) (d.reads ++ d'.reads) n m)) (good.fit on (inl refl)))
  choice-typed on d d' xs ys es fs h k good e (inr m) =
      elim (append-member es fs e m) [
        | inl l ↦ h (record {
          reads = λ n j. good.reads n (member-back (expr_signals on) (d.reads ++ d'.reads) n (member-front d.reads d'.reads n j));
          targets = λ n j. good.targets n (member-front d.targets d'.targets n j);
          later_targets = λ n j. good.later_targets n (member-front d.later_targets d'.later_targets n j);
          fit = λ y j. good.fit y (inr (member-front xs ys y j));
        }) e l
        | inr l ↦ k (record {
          reads = λ n j. good.reads n (member-back (expr_signals on) (d.reads ++ d'.reads) n (member-back d.reads d'.reads n j));
          targets = λ n j. good.targets n (member-back d.targets d'.targets n j);
          later_targets = λ n j. good.later_targets n (member-back d.later_targets d'.later_targets n j);
          fit = λ y j. good.fit y (inr (member-back xs ys y j));
        }) e l
      ]

  target-of : (to : ℕ) (value : Expr) (later : Bool) → Good (Core.assignment to value later) (value ∷ []) → to < length ss
  target-of to value true good = good.later_targets to (inl refl)
  target-of to value false good = good.targets to (inl refl)

  reads-of : (to : ℕ) (value : Expr) (later : Bool) → Good (Core.assignment to value later) (value ∷ []) → IsThere (expr_signals value)
  reads-of to value true good = good.reads
  reads-of to value false good = good.reads

  assign-typed : (to : ℕ) (value : Expr) (later : Bool) → Good (Core.assignment to value later) (value ∷ []) → AllTyped (typed_expr ss value ∷ typed_primary ss (P.Signal to) ∷ [])
  assign-typed to value later good e (inl same) = subst (ExprTyped Widths) (sym same) (expr-typed value (reads-of to value later good) (good.fit value (inl refl)))
  assign-typed to value later good e (inr (inl same)) =
      subst (ExprTyped Widths) (sym same) (primary-expr (P.Signal to) (primary-typed (P.Signal to) (λ n m. elim m [ inl s ↦ subst (λ k. k < length ss) (sym s) (target-of to value later good) | inr z ↦ elim z [ ] ]) tt))
  assign-typed to value later good e (inr (inr z)) = elim z [ ]

  typed-steps : Steps Done
  typed-steps = record {
    block = λ xs h. at-level (S.Block xs) _ _ _ (block-level Doing stmt_doing xs) (block-level Inside stmt_inside xs)
        (ap exprs_in (typed-Block ss xs) ∙ in-Block [] (map (typed_stmt ss) xs)) (block-typed xs h);
    alone = λ on body h. at-level (S.If on body None) _ _ _ (alone-level Doing stmt_doing on body) (alone-level Inside stmt_inside on body)
        (ap exprs_in (typed-If ss on body None) ∙ in-If (typed_expr ss on) (typed_stmt ss body) None)
        (choice-typed on (doing body) Core.idle (inside body).exprs [] (exprs_in (typed_stmt ss body)) [] h (λ good e m. elim m [ ]));
    either = λ on body other h k. at-level (S.If on body (Some other)) _ _ _ (either-level Doing stmt_doing on body other) (either-level Inside stmt_inside on body other)
        (ap exprs_in (typed-If ss on body (Some other)) ∙ in-If (typed_expr ss on) (typed_stmt ss body) (Some (typed_stmt ss other)))
        (choice-typed on (doing body) (doing other) (inside body).exprs (inside other).exprs (exprs_in (typed_stmt ss body)) (exprs_in (typed_stmt ss other)) h k);
    assign = λ to value later. at-level (S.Assign to value later) _ _ _ (assign-level Doing stmt_doing to value later) (assign-level Inside stmt_inside to value later)
        (ap exprs_in (typed-Assign ss to value later) ∙ in-Assign (typed_primary ss (P.Signal to) ∷ []) (typed_expr ss value) later nowhere)
        (assign-typed to value later);
  }

  stmt-typed : (s : Stmt) → Done s
  stmt-typed = by_statement Done typed-steps

module _ (d : Design) (t : Translatable d) where
  core-back : core_of (typed d) ≡ Some d
  core-back = λ i. then_two (design_with d.top)
      (each-back signal_of typed_signal d.signals (λ s m. signal-back s (t.some_bits s m) (t.few_bits s m)) i)
      (each-back process_of (typed_process d.signals) d.processes (λ p m. process-back d.signals p) i)

  plain : IsPlain (typed d)
  plain = record {
    one_instance = refl;
    no_functions = refl;
    of_top = λ s m. (let r = map-member typed_signal d.signals s m in ap (λ (x : TypedSignal). x.instance) r.2);
    undeclared = λ s m. (let r = map-member typed_signal d.signals s m in ap (λ (x : TypedSignal). x.declared) r.2);
    vectors = λ s m.
        let r = map-member typed_signal d.signals s m in
        let v = vector-there d.signals t.some_bits t.few_bits r.0 r.1 in
        subst (λ (x : TypedSignal). IsVector x.of (Layouts.width_of x.of)) (sym r.2) (subst (IsVector (vector_of (r.0).width)) (sym (vector-width (vector_of (r.0).width) (r.0).width v)) v);
    typed = λ p m e k.
        let r = map-member (typed_process d.signals) d.processes p m in
        let u = uses-signals d t r.0 r.1 in
        stmt-typed d.signals t.some_bits t.few_bits (r.0).body
        (record { reads = u.reads; targets = u.targets; later_targets = u.later_targets; fit = t.exprs r.0 r.1 })
        e (subst (λ (x : TypedProcess). Member (exprs_in x.body) e) r.2 k);
  }

  pub typed-translatable : IsTranslatable (typed d)
  typed-translatable = record { plain = plain; core = d; is_core = core-back; fits = t }
