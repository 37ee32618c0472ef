-- Statements keep the order of the text, form by form.
use Rattle.std.proofs.Common.{ℕ, ◌≤◌, true, false, List, [], ◌∷◌, map, Option, Some, None, arith}
use Rattle.std.specs.Prelude.{Ok}
use Rattle.std.specs.Option.{option_map}
use Rattle.sv_tree.specs.declared.expressions.Expr as X
use Rattle.sv_types.specs.declared.statement.CaseKind.{CaseKind}
use Rattle.sv_types.specs.declared.statement.Stmt.TheVariants as S
use Rattle.sv_types.specs.declared.types.SvType.{SvType}
use Rattle.expr_type.specs.Typings.{Checked, Typing, all, all_of, at_all, both, checked, joined, looked_at, rule, tried, unless, whole}
use Rattle.expr_type.specs.Names.{Context}
use Rattle.expr_type.specs.declared.operand.Valued.{Valued}
use Rattle.expr_type.specs.Operands.{Operand, given, sized, too_wide}
use Rattle.expr_type.specs.Expressions.{operand}
use Rattle.expr_type.specs.Statements.{Declared, behind, BlockPart, IsStatement, IsDeclared, PartMeaning, StmtMeaning, CaseMeaning, behind_part, block_parts, built, block, return_value, returned, condition, branches, else_if, CaseFound, whole_item, case_items, default_body, widest, selector_at, wide_in, values_at, item_at, case_stmt}
use Rattle.expr_type.specs.Placed.{Ascend, OperandStands, RoutinesInOrder, Stands}
use Rattle.expr_type.proofs.Ordering.{ascend-append, ascend-wide}
use Rattle.order_laws.specs.Ordered.{if_there, expr_tokens, exprs_tokens}
use Rattle.order_laws.proofs.Typings.{PlacedAs, TypedAs, Each, any-from, as-all, as-all-of, as-both, as-both-any, as-checked, as-joined, as-then, as-wider}
use Rattle.order_laws.proofs.Parts.{PartsInOrder, each-in-row, each-of}
use Rattle.order_laws.proofs.Given.{bits-stand, given-stands, wide-ours}
use Rattle.order_laws.proofs.Declared.{InText, KeepsOrder, operand-in}

-- blocks
parts-behind : (k : Context) (ps : List PartMeaning) (low high : ℕ) → RoutinesInOrder k → ((j : Context) → RoutinesInOrder j → InText j low high (block_parts j ps))
    → (o : Option BlockPart) → InText k low high (block_parts (behind_part k o) ps)
parts-behind k ps low high rs rest None = rest k rs
parts-behind k ps low high rs rest (Some (IsStatement s)) = rest k rs
parts-behind k ps low high rs rest (Some (IsDeclared d)) = rest (behind k d) rs

parts-in : (k : Context) (ps : List PartMeaning) (low high : ℕ) → RoutinesInOrder k → Each KeepsOrder low high ps → InText k low high (block_parts k ps)
parts-in k [] low high rs p = λ fs. tt
parts-in k (x ∷ ps) low high rs p =
    as-both-any k.source.instance (λ q. Unit {0}) (λ qs. Unit {0}) (λ qs. Unit {0}) (x k) (λ o. block_parts (behind_part k o) ps) (λ q qs. whole (q ∷ qs)) low p.0 high p.1 p.2
    (p.3 k rs) (λ o u. parts-behind k ps p.0 high rs (λ j js. parts-in j ps p.0 high js p.4) o) (λ q qs u v fs. tt)

pub block-in : (ps : List PartMeaning) (low high : ℕ) → Each KeepsOrder low high ps → KeepsOrder low high (λ k. block k ps)
block-in ps low high p k rs =
    as-checked k.source.instance (λ qs. Unit {0}) (λ s. Unit {0}) (block_parts k ps) (λ qs. whole (S.Block (built qs).locals (built qs).body)) low high (parts-in k ps low high rs p) (λ qs u fs. tt)

-- items of blocks
pub statement-part : (s : StmtMeaning) (low high : ℕ) → KeepsOrder low high s → KeepsOrder low high (λ k. checked (s k) (λ t. whole (IsStatement t)))
statement-part s low high p k rs = as-checked k.source.instance (λ t. Unit {0}) (λ q. Unit {0}) (s k) (λ t. whole (IsStatement t)) low high (p k rs) (λ t u fs. tt)

pub declared-part : (d : Context → Typing Declared) (low high : ℕ) → KeepsOrder low high d → KeepsOrder low high (λ k. checked (d k) (λ e. whole (IsDeclared e)))
declared-part d low high p k rs = as-checked k.source.instance (λ e. Unit {0}) (λ q. Unit {0}) (d k) (λ e. whole (IsDeclared e)) low high (p k rs) (λ e u fs. tt)

-- an item of a `case`: its values, then its statement
abbrev FoundStands : ℕ → ℕ → ℕ → CaseFound → Type 0
FoundStands i low high c =
    (between : ℕ) × (low ≤ between) × (between ≤ high) × PlacedAs (Each Stands low between) i low between c.values × PlacedAs (λ s. Unit {0}) i between high c.body

abbrev pub FoundInOrder : ℕ → ℕ → CaseMeaning → Type 0
FoundInOrder low high c = (k : Context) → RoutinesInOrder k → TypedAs (FoundStands k.source.instance low high) k.source.instance low high (c k)

pub default-found : (s : StmtMeaning) (low high : ℕ) → low ≤ high → KeepsOrder low high s
    → FoundInOrder low high (λ k. checked (tried (s k)) (λ t. whole (record { is_default = true; values = Ok []; body = t })))
default-found s low high h p k rs =
    as-checked k.source.instance (λ t. PlacedAs (λ s. Unit {0}) k.source.instance low high t) (FoundStands k.source.instance low high) (tried (s k))
    (λ t. whole (record { is_default = true; values = Ok []; body = t })) low high (p k rs) (λ t q fs. (low, omega arith, h, omega arith, q))

-- an item at the width of all
wide-ascends : (w : ℕ) (vs : List Valued) (low high : ℕ) → Each Stands low high vs → Ascend low high (wide_in w vs)
wide-ascends w [] low high p = tt
wide-ascends w (v ∷ vs) low high p =
    ascend-append (too_wide w v.arithmetic) (wide_in w vs) low p.0 high p.1 p.2 (ascend-wide w v.arithmetic low p.0 p.3.operators) (wide-ascends w vs p.0 high p.4)

item-stands : (k : Context) (w low high : ℕ) (c : CaseFound) → FoundStands k.source.instance low high c → PlacedAs (λ c. Unit {0}) k.source.instance low high (whole_item (item_at k w c))
item-stands k w low high c p =
    as-then k.source.instance (λ q. Unit {0} × Unit {0}) (λ c. Unit {0}) (joined (values_at k w c.values) c.body) (λ q. Ok (record { is_default = c.is_default; values = q.0; body = q.1 })) low high
    (as-joined k.source.instance (λ vs. Unit {0}) (λ s. Unit {0}) (values_at k w c.values) c.body low p.0 high p.1 p.2
    (as-then k.source.instance (Each Stands low p.0) (λ vs. Unit {0}) c.values (λ vs. unless (at_all k.source.instance 502 (wide_in w vs)) vs) low p.0 p.3
    (λ vs q. wide-ours k.source low p.0 (wide_in w vs) vs (wide-ascends w vs low p.0 q)))
    p.4)
    (λ q u. tt)

selector-stands : (k : Context) (w low high : ℕ) (on : Checked Valued) → PlacedAs (Stands low high) k.source.instance low high on → PlacedAs (λ v. Unit {0}) k.source.instance low high (selector_at k w on)
selector-stands k w low high on p =
    as-then k.source.instance (Stands low high) (λ v. Unit {0}) on (λ v. sized k.source w v v) low high p
    (λ v s. wide-ours k.source low high (too_wide w v.arithmetic) v (ascend-wide w v.arithmetic low high s.operators))

each-item : (k : Context) (w : ℕ) (cs : List CaseFound) (low high : ℕ) → Each (FoundStands k.source.instance) low high cs
    → Each (λ l h x. PlacedAs (λ c. Unit {0}) k.source.instance l h x) low high (map whole_item (map (item_at k w) cs))
each-item k w [] low high p = p
each-item k w (c ∷ cs) low high p = (p.0, p.1, p.2, item-stands k w low p.0 c p.3, each-item k w cs p.0 high p.4)

case-stands : (k : Context) (kind : CaseKind) (on : Checked Valued) (cs : List CaseFound) (low between high : ℕ) → low ≤ between → between ≤ high
    → PlacedAs (Stands low between) k.source.instance low between on → Each (FoundStands k.source.instance) between high cs
    → PlacedAs (λ s. Unit {0}) k.source.instance low high (case_stmt k kind on cs)
case-stands k kind on cs low between high h m p q =
    let w = widest (joined on (all_of (map (λ (c : CaseFound). c.values) cs))) in
    as-then k.source.instance (λ t. Unit {0} × Unit {0}) (λ s. Unit {0}) (joined (selector_at k w on) (all_of (map whole_item (map (item_at k w) cs))))
    (λ t. Ok (S.Case kind t.0.expr (case_items t.1) (default_body t.1))) low high
    (as-joined k.source.instance (λ v. Unit {0}) (λ cs. Unit {0}) (selector_at k w on) (all_of (map whole_item (map (item_at k w) cs))) low between high h m
    (selector-stands k w low between on p)
    (as-wider k.source.instance (Each (λ l h c. Unit {0}) between high) (λ cs. Unit {0}) (all_of (map whole_item (map (item_at k w) cs))) between high between high (omega arith) (omega arith) (λ cs s. tt)
    (as-all-of k.source.instance (λ l h c. Unit {0}) (map whole_item (map (item_at k w) cs)) between high (each-item k w cs between high q))))
    (λ t u. tt)

items-stand : (k : Context) (cs : List CaseMeaning) (low high : ℕ) → RoutinesInOrder k → Each FoundInOrder low high cs
    → TypedAs (Each (FoundStands k.source.instance) low high) k.source.instance low high (all (map (λ (c : CaseMeaning). c k) cs))
items-stand k cs low high rs p =
    as-all k.source.instance (FoundStands k.source.instance) (map (λ (c : CaseMeaning). c k) cs) low high
    (each-of (λ (c : CaseMeaning). c k) FoundInOrder (λ l h x. TypedAs (FoundStands k.source.instance l h) k.source.instance l h x) (λ l h c q. q k rs) cs low high p)

-- `if`
abbrev pub ElseInOrder : ℕ → ℕ → Option StmtMeaning → Type 0
ElseInOrder low high None = Unit {0}
ElseInOrder low high (Some s) = KeepsOrder low high s

else-in : (k : Context) (o : Option StmtMeaning) (low high : ℕ) → RoutinesInOrder k → ElseInOrder low high o → InText k low high (else_if k o)
else-in k None low high rs p = λ fs. tt
else-in k (Some s) low high rs p = as-checked k.source.instance (λ t. Unit {0}) (λ o. Unit {0}) (s k) (λ t. whole (Some t)) low high (p k rs) (λ t u fs. tt)

module _ (parts : PartsInOrder) where
  pub condition-in : (k : Context) (e : X.Expr) (low high : ℕ) → RoutinesInOrder k → low ≤ high → Ascend low high (expr_tokens e)
      → TypedAs (Stands low high) k.source.instance low high (condition k e)
  condition-in k e low high rs h a = bits-stand k.source low high (operand k e) ((parts.expr e low high h a).typed k rs)

  condition-any : (k : Context) (e : X.Expr) (low high : ℕ) → RoutinesInOrder k → low ≤ high → Ascend low high (expr_tokens e) → InText k low high (condition k e)
  condition-any k e low high rs h a = any-from k.source.instance (Stands low high) (condition k e) low high low high (omega arith) (omega arith) (condition-in k e low high rs h a)

  pub if-in : (e : X.Expr) (body : StmtMeaning) (o : Option StmtMeaning) (low between next high : ℕ) → low ≤ between → between ≤ next → next ≤ high
      → Ascend low between (expr_tokens e) → KeepsOrder between next body → ElseInOrder next high o
      → KeepsOrder low high (λ k. both (condition k e) (both (body k) (else_if k o) branches) (λ v b. whole (S.If v.expr b.body b.other)))
  if-in e body o low between next high h m n a p q k rs =
      as-both k.source.instance (λ v. Unit {0}) (λ b. Unit {0}) (λ s. Unit {0}) (condition k e) (both (body k) (else_if k o) branches) (λ v b. whole (S.If v.expr b.body b.other))
      low between high h (omega arith) (condition-any k e low between rs h a)
      (as-both k.source.instance (λ s. Unit {0}) (λ o. Unit {0}) (λ b. Unit {0}) (body k) (else_if k o) branches between next high m n (p k rs) (else-in k o next high rs q) (λ s t u v fs. tt))
      (λ v b u w fs. tt)

  -- `case`
  each-condition : (k : Context) (es : List X.Expr) (low high : ℕ) → RoutinesInOrder k → low ≤ high → Ascend low high (exprs_tokens es)
      → Each (λ l h x. TypedAs (Stands l h) k.source.instance l h x) low high (map (condition k) es)
  each-condition k es low high rs h a =
      each-of (condition k) (λ l h e. TypedAs (Stands l h) k.source.instance l h (condition k e)) (λ l h x. TypedAs (Stands l h) k.source.instance l h x) (λ l h e p. p) es low high
      (each-in-row expr_tokens (λ l h e. TypedAs (Stands l h) k.source.instance l h (condition k e)) (λ e l h m b. condition-in k e l h rs m b) es low high h a)

  pub values-found : (es : List X.Expr) (s : StmtMeaning) (low between high : ℕ) → low ≤ between → between ≤ high → Ascend low between (exprs_tokens es) → KeepsOrder between high s
      → FoundInOrder low high (λ k. both (looked_at (all (map (condition k) es))) (tried (s k)) (λ vs t. whole (record { is_default = false; values = vs; body = t })))
  values-found es s low between high h m a p k rs =
      as-both k.source.instance (λ vs. PlacedAs (Each Stands low between) k.source.instance low between vs) (λ t. PlacedAs (λ s. Unit {0}) k.source.instance between high t)
      (FoundStands k.source.instance low high) (looked_at (all (map (condition k) es))) (tried (s k)) (λ vs t. whole (record { is_default = false; values = vs; body = t })) low between high h m
      (as-all k.source.instance Stands (map (condition k) es) low between (each-condition k es low between rs h a)) (p k rs) (λ vs t q r fs. (between, h, m, q, r))

  pub case-in : (kind : CaseKind) (e : X.Expr) (cs : List CaseMeaning) (low between high : ℕ) → low ≤ between → between ≤ high → Ascend low between (expr_tokens e) → Each FoundInOrder between high cs
      → KeepsOrder low high (λ k. both (looked_at (condition k e)) (all (map (λ (c : CaseMeaning). c k) cs)) (λ v cs. rule (case_stmt k kind v cs)))
  case-in kind e cs low between high h m a p k rs =
      as-both k.source.instance (λ v. PlacedAs (Stands low between) k.source.instance low between v) (Each (FoundStands k.source.instance) between high) (λ s. Unit {0})
      (looked_at (condition k e)) (all (map (λ (c : CaseMeaning). c k) cs)) (λ v cs. rule (case_stmt k kind v cs)) low between high h m
      (condition-in k e low between rs h a) (items-stand k cs between high rs p) (λ v cs q r fs. case-stands k kind v cs low between high h m q r)

  -- `return`
  value-returned : (k : Context) (at : ℕ) (t : Option SvType) (o : Operand) (low high : ℕ) → OperandStands k.source.instance low high o
      → PlacedAs (λ s. Unit {0}) k.source.instance low high (return_value k at t o)
  value-returned k at None o low high s = tt
  value-returned k at (Some t) o low high s = as-then k.source.instance (λ e. Unit {0}) (λ s. Unit {0}) (given k.source t o) _ low high (given-stands k.source low high t o s) (λ e u. tt)

  pub returned-in : (at : ℕ) (e : Option X.Expr) (low high : ℕ) → low ≤ high → Ascend low high (if_there (option_map expr_tokens e)) → KeepsOrder low high (λ k. returned k at e)
  returned-in at None low high h a k rs = λ fs. tt
  returned-in at (Some e) low high h a k rs =
      as-checked k.source.instance (OperandStands k.source.instance low high) (λ s. Unit {0}) (operand k e) (λ o. rule (return_value k at k.result o)) low high (operand-in parts k e low high rs h a)
      (λ o s fs. value-returned k at k.result o low high s)
