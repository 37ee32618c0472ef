-- What a tree has built: its names are those of name tokens, its operators are bitwise, and its statements nest within the limit.
use Rattle.std.proofs.Common.{◌≡◌, ◌≤◌, ℕ, zero, suc, Bool, true, false, List, [], ◌∷◌, ◌++◌, length, map, Option, Some, None, if◌then◌else◌, refl, sym, ap, subst, arith}
use Rattle.std.specs.List.{slice_get, AllByRecursion}
use Rattle.std.specs.Option.{IfSome}
use Rattle.std.specs.Prelude.{is_some, is_none, ◌&&◌, ◌||◌}
use Rattle.b4_core.specs.declared.operators.BinOp.{BinOp}
use Rattle.sv_source.specs.declared.token.Token.{Token}
use Rattle.sv_source.specs.declared.token.Spot.{Spot}
use Rattle.sv_macro.specs.Tokens.{is_name_kind}
use Rattle.lower_design.specs.Translatable.{OperatorFits}
use Rattle.sv_tree.specs.declared.declarations.Declarator.{Declarator}
use Rattle.sv_tree.specs.declared.expressions.Cast.{Cast}
use Rattle.sv_tree.specs.declared.expressions.Expr as X
use Rattle.sv_tree.specs.declared.expressions.Select.{Select}
use Rattle.sv_tree.specs.declared.expressions.Dimension.{Dimension}
use Rattle.sv_tree.specs.declared.items.DataDeclaration.{DataDeclaration}
use Rattle.sv_tree.specs.declared.items.Item as Y
use Rattle.sv_tree.specs.declared.names.Direction as W
use Rattle.sv_tree.specs.declared.names.Label.{Label}
use Rattle.sv_tree.specs.declared.names.QualifiedName.{QualifiedName}
use Rattle.sv_tree.specs.declared.operators.BinaryOperator.{BinaryOperator}
use Rattle.sv_tree.specs.declared.operators.BinaryOperator.TheVariants as O
use Rattle.sv_tree.specs.declared.operators.UnaryOperator.{UnaryOperator}
use Rattle.sv_tree.specs.declared.operators.UnaryOperator.TheVariants.{Invert}
use Rattle.sv_tree.specs.declared.ports.Header.{Header}
use Rattle.sv_tree.specs.declared.ports.Port as Q
use Rattle.sv_tree.specs.declared.ports.PortList.{PortList}
use Rattle.sv_tree.specs.declared.ports.PortText.{PortText}
use Rattle.sv_tree.specs.declared.ports.PortText.TheVariants as T
use Rattle.sv_tree.specs.declared.processes.Always.{Always}
use Rattle.sv_tree.specs.declared.processes.Always.TheVariants as A
use Rattle.sv_tree.specs.declared.processes.EventEdge.{EventEdge}
use Rattle.sv_tree.specs.declared.processes.NetAssignment.{NetAssignment}
use Rattle.sv_tree.specs.declared.statements.BlockItem.{BlockItem, BlockItem-F, out-BlockItem}
use Rattle.sv_tree.specs.declared.statements.CaseItem.{CaseItem}
use Rattle.sv_tree.specs.declared.statements.Else.{Else, out-Else}
use Rattle.sv_tree.specs.declared.statements.Lvalue.{Lvalue, Lvalue-F, out-Lvalue}
use Rattle.sv_tree.specs.declared.statements.Stmt as Z
use Rattle.sv_tree.specs.declared.types.TypeText.{TypeText}
use Rattle.sv_tree.specs.declared.units.Module as M
use Rattle.sv_tree.specs.declared.units.SourceTree.{SourceTree}
use Rattle.sv_tree.specs.declared.units.Unit as U
use Rattle.sv_tree.specs.declared.units.Unit.TheVariants as N
use Rattle.built_forms.specs.declared.forms.Assign as F
use Rattle.built_forms.specs.declared.forms.Expr.{Expr}
use Rattle.built_forms.specs.declared.forms.Expr.TheVariants as E
use Rattle.built_forms.specs.declared.forms.Item.{Item}
use Rattle.built_forms.specs.declared.forms.Item.TheVariants as I
use Rattle.built_forms.specs.declared.forms.Module.{Module}
use Rattle.built_forms.specs.declared.forms.Operand.{Operand}
use Rattle.built_forms.specs.declared.forms.Port.{Port}
use Rattle.built_forms.specs.declared.forms.PortHead.{PortHead}
use Rattle.built_forms.specs.declared.forms.Primary.{Primary}
use Rattle.built_forms.specs.declared.forms.Primary.TheVariants as P
use Rattle.built_forms.specs.declared.forms.Range.{Range}
use Rattle.built_forms.specs.declared.forms.Stmt.{Stmt}
use Rattle.built_forms.specs.declared.forms.Stmt.TheVariants as S
use Rattle.built_forms.specs.Built as means
use Rattle.built_forms.specs.Built.{then_one, then_two, each, put_before, gathered, spot_with, name_at, name_of, none_in, ExprLayer, StmtLayer, ItemLayer, is_alone, literal_of, primary_in, primary_of, operand_with, inverted_of, operand_in, operand_of, bitwise, binary_with, applied, expr_in, expr_of, type_of, head_with, direction_of, headed_port, bare_port, headed_by, typed_port, untyped_port, port_with, port_of, target_in, target_of, assign_with, assign_of, assigns_so, item_in, block_item_of, block_with, if_with, other_of, conditional_of, promised, assigned, stmt_in, stmt_around, stmt_within, stmt_of, nesting_limit, an_assign, assigns_of, a_variable, is_plain, variable_by, one_variable, variable_of, a_comb, an_edge, is_rising, clocked_by, edges_of, always_of, item_layer, item_of, first_is_headed, headed, ports_of, is_plain_header, header_of, label_agrees, agreed, body_with, module_of, unit_of, at_most_one, one_module, built}
use Rattle.sv2v_top.specs.declared.uses.Use.{Use}
use Rattle.sv2v_top.specs.source.Statements.{primary_uses, expr_uses, Parts, sequence, parts, item_parts}
use Rattle.sv2v_top.proofs.Levels.{block-parts, alone-parts, either-parts, assign-parts}

-- What is made of values that are there has a property, if it has it wherever they have theirs.
pub of-one : {A B : Type 0} (P : A → Type 0) (Q : B → Type 0) (f : A → B) → ((x : A) → P x → Q (f x)) → (o : Option A) → IfSome o P → IfSome (then_one f o) Q
of-one P Q f h None p = tt
of-one P Q f h (Some x) p = h x p

pub of-two : {A B C : Type 0} (P : A → Type 0) (R : B → Type 0) (Q : C → Type 0) (f : A → B → C) → ((x : A) (y : B) → P x → R y → Q (f x y))
    → (o : Option A) (u : Option B) → IfSome o P → IfSome u R → IfSome (then_two f o u) Q
of-two P R Q f h None u p r = tt
of-two P R Q f h (Some x) None p r = tt
of-two P R Q f h (Some x) (Some y) p r = h x y p r

pub of-each : {A B : Type 0} (Q : B → Type 0) (f : A → Option B) → ((x : A) → IfSome (f x) Q) → (xs : List A) → IfSome (each f xs) (AllByRecursion Q)
of-each Q f h [] = tt
of-each Q f h (x ∷ xs) = of-two Q (AllByRecursion Q) (AllByRecursion Q) (λ y ys. y ∷ ys) (λ y ys q qs. (q, qs)) (f x) (each f xs) (h x) (of-each Q f h xs)

abbrev pub Within : {A : Type 0} → (A → Type 0) → Option A → Type 0
Within Q o = IfSome o Q

pub put-all : {B : Type 0} (Q : B → Type 0) (o : Option B) (ys : List B) → Within Q o → AllByRecursion Q ys → AllByRecursion Q (put_before o ys)
put-all Q None ys q qs = qs
put-all Q (Some y) ys q qs = (q, qs)

pub of-gathered : {A B : Type 0} (Q : B → Type 0) (f : A → Option (Option B)) → ((x : A) → IfSome (f x) (Within Q)) → (xs : List A) → IfSome (gathered f xs) (AllByRecursion Q)
of-gathered Q f h [] = tt
of-gathered Q f h (x ∷ xs) = of-two (Within Q) (AllByRecursion Q) (AllByRecursion Q) put_before (put-all Q) (f x) (gathered f xs) (h x) (of-gathered Q f h xs)

pub of-if : {A : Type 0} (Q : A → Type 0) (b : Bool) (o : Option A) → IfSome o Q → IfSome (if b then o else None) Q
of-if Q true o h = h
of-if Q false o h = tt

pub of-unless : {A : Type 0} (Q : A → Type 0) (b : Bool) (o : Option A) → IfSome o Q → IfSome (if b then None else o) Q
of-unless Q true o h = tt
of-unless Q false o h = h

abbrev pub Any : {A : Type 0} → A → Type 0
Any x = Unit {0}

pub any : {A : Type 0} (o : Option A) → IfSome o Any
any None = tt
any (Some x) = tt

pub all-both : {A : Type 0} (P : A → Type 0) (xs ys : List A) → AllByRecursion P xs → AllByRecursion P ys → AllByRecursion P (xs ++ ys)
all-both P [] ys a b = b
all-both P (x ∷ xs) ys a b = (a.0, all-both P xs ys a.1 b)

-- an operator is one of `&`, `|` and `^`
abbrev pub Bitwise : Expr → Type 0
Bitwise (E.Single a) = Unit {0}
Bitwise (E.Binary op a b) = OperatorFits op

-- a property of names
module _ (K : Spot → Type 0) where
  abbrev pub OnUse : Use → Type 0
  OnUse u = K u.name

  abbrev pub OnPrimary : Primary → Type 0
  OnPrimary p = AllByRecursion OnUse (primary_uses p)

  abbrev pub OnOperand : Operand → Type 0
  OnOperand a = OnPrimary a.primary

  abbrev pub GoodExpr : Expr → Type 0
  GoodExpr x = AllByRecursion OnUse (expr_uses x) × Bitwise x

  abbrev pub GoodAssign : F.Assign → Type 0
  GoodAssign a = K a.target × GoodExpr a.value

  -- it holds at each name that a statement uses, its operators are bitwise, and its statements nest no deeper than this
  pub record GoodParts (depth : ℕ) (p : Parts) : Type 0 where
    pub names : AllByRecursion OnUse p.names
    pub exprs : AllByRecursion Bitwise p.exprs
    pub depth_within : p.depth ≤ depth

  abbrev pub Good : ℕ → Stmt → Type 0
  Good depth s = GoodParts depth (parts s)

  -- the same of an item, and it holds of the name that it declares
  abbrev pub NamedItem : Item → Type 0
  NamedItem (I.Assign a) = Unit {0}
  NamedItem (I.Logic d) = K d.name
  NamedItem (I.Comb body) = Unit {0}
  NamedItem (I.Edge clock body) = Unit {0}

  pub record GoodItem (i : Item) : Type 0 where
    pub good : GoodParts nesting_limit (item_parts i)
    pub named : NamedItem i

  abbrev pub NamedPort : Port → Type 0
  NamedPort p = K p.name

  pub record GoodModule (m : Module) : Type 0 where
    pub itself : K m.name
    pub ports : AllByRecursion NamedPort m.ports
    pub items : AllByRecursion GoodItem m.items

  good-of : (depth : ℕ) (s : Stmt) (p : Parts) → parts s ≡ p → GoodParts depth p → Good depth s
  good-of depth s p e g = subst (λ q. GoodParts depth q) (sym e) g

  good-list : (depth : ℕ) (ss : List Stmt) → AllByRecursion (Good depth) ss → GoodParts depth (sequence (map parts ss))
  good-list depth [] a = record { names = tt; exprs = tt; depth_within = omega arith }
  good-list depth (s ∷ ss) a =
      let one = a.0 in
      let rest = good-list depth ss a.1 in
      record {
        names = all-both OnUse _ _ one.names rest.names;
        exprs = all-both Bitwise _ _ one.exprs rest.exprs;
        depth_within = (let x = one.depth_within in let y = rest.depth_within in grind arith);
      }

  good-block : (depth : ℕ) (ss : List Stmt) → AllByRecursion (Good depth) ss → Good (suc depth) (S.Block ss)
  good-block depth ss a =
      let g = good-list depth ss a in
      good-of (suc depth) (S.Block ss) _ (block-parts ss) (record { names = g.names; exprs = g.exprs; depth_within = (let d = g.depth_within in omega arith) })

  good-assign : (depth : ℕ) (a : F.Assign) → GoodAssign a → Good (suc depth) (S.Assign a)
  good-assign depth a h =
      good-of (suc depth) (S.Assign a) _ (assign-parts a) (record { names = (h.0, h.1.0); exprs = (h.1.1, tt); depth_within = omega arith })

  abbrev GoodOther : ℕ → Option Stmt → Type 0
  GoodOther depth o = IfSome o (Good depth)

  good-if : (depth : ℕ) (on : Expr) (body : Stmt) (other : Option Stmt) → GoodExpr on → Good depth body → GoodOther depth other → Good (suc depth) (S.If on body other)
  good-if depth on body None x b o =
      good-of (suc depth) (S.If on body None) _ (alone-parts on body) (record {
        names = all-both OnUse (expr_uses on) _ x.0 (all-both OnUse (parts body).names [] b.names tt);
        exprs = (x.1, all-both Bitwise _ _ b.exprs tt);
        depth_within = (let d = b.depth_within in grind arith);
      })
  good-if depth on body (Some s) x b o =
      good-of (suc depth) (S.If on body (Some s)) _ (either-parts on body s) (record {
        names = all-both OnUse (expr_uses on) _ x.0 (all-both OnUse (parts body).names (parts s).names b.names o.names);
        exprs = (x.1, all-both Bitwise _ _ b.exprs o.exprs);
        depth_within = (let d = b.depth_within in let c = o.depth_within in grind arith);
      })

  -- it holds of the name tokens of a text
  module _ (tokens : List Token) (holds : (i : ℕ) (t : Token) → slice_get tokens i ≡ Some t → is_name_kind t.kind ≡ true → K (spot_with i t)) where
    a-name : (i : ℕ) → IfSome (name_of tokens i) K
    a-name i = by_token (slice_get tokens i) refl
      where
        by_kind : (t : Token) → slice_get tokens i ≡ Some t → (b : Bool) → is_name_kind t.kind ≡ b → IfSome (if b then Some (spot_with i t) else None) K
        by_kind t e true f = holds i t e f
        by_kind t e false f = tt

        by_token : (o : Option Token) → slice_get tokens i ≡ o → IfSome (name_at i o) K
        by_token None e = tt
        by_token (Some t) e = by_kind t e (is_name_kind t.kind) refl

    a-primary : (x : X.Expr) → IfSome (primary_of tokens x) OnPrimary
    a-primary x = by_layer (X.out-Expr x)
      where
        by_layer : (y : ExprLayer) → IfSome (primary_in tokens y) OnPrimary
        by_layer (X.Expr-F.Sized size digits) =
            of-two Any Any OnPrimary P.Literal (λ s d h k. tt) (means.spot_of tokens size) (means.spot_of tokens digits) (any _) (any _)
        by_layer (X.Expr-F.«Expr::Name» of selects cast) =
            of-if OnPrimary (is_alone of selects (is_some cast)) _ (of-one K OnPrimary P.Name (λ s h. (h, tt)) (name_of tokens of.name) (a-name of.name))
        by_layer _ = tt

    plain : (x : X.Expr) → IfSome (means.plain_of tokens x) OnOperand
    plain x = of-one OnPrimary OnOperand (operand_with false) (λ p h. h) (primary_of tokens x) (a-primary x)

    an-operand : (x : X.Expr) → IfSome (operand_of tokens x) OnOperand
    an-operand x = by_layer (X.out-Expr x)
      where
        by_operator : (operator : UnaryOperator) (y : X.Expr) → IfSome (inverted_of tokens operator y) OnOperand
        by_operator Invert y = of-one OnPrimary OnOperand (operand_with true) (λ p h. h) (primary_of tokens y) (a-primary y)
        by_operator _ y = tt

        by_layer : (y : ExprLayer) → IfSome (operand_in tokens x y) OnOperand
        by_layer (X.Expr-F.Unary operator at operand) = by_operator operator operand
        by_layer _ = plain x

    fits : (operator : BinaryOperator) → IfSome (bitwise operator) OperatorFits
    fits O.And = tt
    fits O.Or = tt
    fits O.Xor = tt
    fits _ = tt

    abbrev Right : (Operand → Expr) → Type 0
    Right f = (b : Operand) → OnOperand b → GoodExpr (f b)

    an-expr : (x : X.Expr) → IfSome (expr_of tokens x) GoodExpr
    an-expr x = by_layer (X.out-Expr x)
      where
        both : (op : BinOp) (a : Operand) → OperatorFits op → OnOperand a → Right (binary_with op a)
        both op a o h b k = (all-both OnUse (primary_uses a.primary) (primary_uses b.primary) h k, o)

        binary : (operator : BinaryOperator) (left right : X.Expr) → IfSome (means.binary_of tokens operator left right) GoodExpr
        binary operator left right =
            of-two Right OnOperand GoodExpr applied (λ f b h k. h b k) (then_two binary_with (bitwise operator) (operand_of tokens left)) (operand_of tokens right)
            (of-two OperatorFits OnOperand Right binary_with both (bitwise operator) (operand_of tokens left) (fits operator) (an-operand left)) (an-operand right)

        single : IfSome (means.single_of tokens x) GoodExpr
        single = of-one OnOperand GoodExpr E.Single (λ a h. (h, tt)) (operand_of tokens x) (an-operand x)

        by_layer : (y : ExprLayer) → IfSome (expr_in tokens x y) GoodExpr
        by_layer (X.Expr-F.Binary left operator at right) = binary operator left right
        by_layer _ = single

    -- a port
    headed-by : (direction : W.Direction) (of : TypeText) (name : ℕ) → IfSome (headed_by tokens direction of name) NamedPort
    headed-by direction of name =
        of-two Any K NamedPort headed_port (λ h s a k. k) (then_one (head_with (direction_of direction)) (type_of tokens of)) (name_of tokens name) (any _) (a-name name)

    a-port : (p : Q.Port) → IfSome (port_of tokens p) NamedPort
    a-port p = of-if NamedPort (is_none p.net) (port_with tokens p.direction p.text) (by_text p.direction p.text)
      where
        by_text : (d : Option W.Direction) (t : PortText) → IfSome (port_with tokens d t) NamedPort
        by_text None (T.Typed of name unpacked) = tt
        by_text (Some d) (T.Typed of name unpacked) = of-if NamedPort (none_in unpacked) (headed_by tokens d of name) (headed-by d of name)
        by_text d (T.Modport interface dot modport name) = tt
        by_text (Some d) (T.Bare name unpacked) = tt
        by_text None (T.Bare name unpacked) =
            of-if NamedPort (none_in unpacked) (means.named_by tokens name) (of-one K NamedPort bare_port (λ s h. h) (name_of tokens name) (a-name name))

    some-ports : (list : Option PortList) → IfSome (ports_of tokens list) (AllByRecursion NamedPort)
    some-ports None = tt
    some-ports (Some list) = by_ports (each (port_of tokens) list.ports) (of-each NamedPort (port_of tokens) a-port list.ports)
      where
        by_first : (b : Bool) (ports : List Port) → AllByRecursion NamedPort ports → IfSome (if b then Some ports else None) (AllByRecursion NamedPort)
        by_first true ports h = h
        by_first false ports h = tt

        by_ports : (o : Option (List Port)) → IfSome o (AllByRecursion NamedPort) → IfSome (headed o) (AllByRecursion NamedPort)
        by_ports None h = tt
        by_ports (Some ports) h = by_first (first_is_headed ports) ports h

    -- an assignment
    a-target : (l : Lvalue) → IfSome (target_of tokens l) K
    a-target l = by_layer (out-Lvalue l)
      where
        by_layer : (y : Lvalue-F Lvalue) → IfSome (target_in tokens y) K
        by_layer (Lvalue-F.Name name selects) = of-if K (none_in selects) (name_of tokens name) (a-name name)
        by_layer _ = tt

    an-assignment : (target : Lvalue) (value : X.Expr) → IfSome (assign_of tokens target value) GoodAssign
    an-assignment target value =
        of-two K GoodExpr GoodAssign assign_with (λ s x h k. (h, k)) (target_of tokens target) (expr_of tokens value) (a-target target) (an-expr value)

    -- a statement, where this holds of what stands inside
    module _ (later : Bool) (depth : ℕ) (inner : Z.Stmt → Option Stmt) (inside : (s : Z.Stmt) → IfSome (inner s) (Good depth)) where
      a-block-item : (i : BlockItem) → IfSome (block_item_of inner i) (Good depth)
      a-block-item i = by_layer (out-BlockItem i)
        where
          by_layer : (y : BlockItem-F BlockItem CaseItem Z.Stmt Else) → IfSome (item_in inner y) (Good depth)
          by_layer (BlockItem-F.Statement s) = inside s
          by_layer _ = tt

      an-other : (o : Option Else) → IfSome (other_of inner o) (GoodOther depth)
      an-other None = tt
      an-other (Some e) = of-one (Good depth) (GoodOther depth) Some (λ s h. h) (inner (out-Else e).body) (inside (out-Else e).body)

      abbrev Behind : (Option Stmt → Stmt) → Type 0
      Behind f = (o : Option Stmt) → GoodOther depth o → Good (suc depth) (f o)

      a-conditional : (test : X.Expr) (body : Z.Stmt) (other : Option Else) → IfSome (conditional_of tokens inner test body other) (Good (suc depth))
      a-conditional test body other =
          of-two Behind (GoodOther depth) (Good (suc depth)) applied (λ f o h k. h o k) (then_two if_with (expr_of tokens test) (inner body)) (other_of inner other)
          (of-two GoodExpr (Good depth) Behind if_with (λ x s h k o l. good-if depth x s o h k l) (expr_of tokens test) (inner body) (an-expr test) (inside body)) (an-other other)

      a-stmt-around : (s : Z.Stmt) → IfSome (stmt_around tokens later inner s) (Good (suc depth))
      a-stmt-around s = by_layer (Z.out-Stmt s)
        where
          by_layer : (y : StmtLayer) → IfSome (stmt_in tokens later inner y) (Good (suc depth))
          by_layer (Z.Stmt-F.Block begin label items end end_label) =
              of-unless (Good (suc depth)) (is_some label || is_some end_label) (then_one S.Block (each (block_item_of inner) items))
              (of-one (AllByRecursion (Good depth)) (Good (suc depth)) S.Block (good-block depth) (each (block_item_of inner) items)
              (of-each (Good depth) (block_item_of inner) a-block-item items))
          by_layer (Z.Stmt-F.If promise keyword opening test closing body other) =
              of-unless (Good (suc depth)) (is_some promise) (conditional_of tokens inner test body other) (a-conditional test body other)
          by_layer (Z.Stmt-F.Assign target operator at value semicolon) =
              of-if (Good (suc depth)) (assigns_so later operator) (then_one S.Assign (assign_of tokens target value))
              (of-one GoodAssign (Good (suc depth)) S.Assign (good-assign depth) (assign_of tokens target value) (an-assignment target value))
          by_layer _ = tt

    a-stmt-within : (later : Bool) (depth : ℕ) (s : Z.Stmt) → IfSome (stmt_within tokens later depth s) (Good depth)
    a-stmt-within later zero s = tt
    a-stmt-within later (suc depth) s = a-stmt-around later depth (stmt_within tokens later depth) (a-stmt-within later depth) s

    a-stmt : (later : Bool) (s : Z.Stmt) → IfSome (stmt_of tokens later s) (Good nesting_limit)
    a-stmt later s = a-stmt-within later nesting_limit s

    -- an item
    assign-item : (a : F.Assign) → GoodAssign a → Within GoodItem (an_assign a)
    assign-item a h = record { good = record { names = (h.0, h.1.0); exprs = (h.1.1, tt); depth_within = omega arith }; named = tt }

    comb-item : (s : Stmt) → Good nesting_limit s → Within GoodItem (a_comb s)
    comb-item s g = record { good = g; named = tt }

    edge-item : (c : Spot) (s : Stmt) → K c → Good nesting_limit s → Within GoodItem (an_edge c s)
    edge-item c s k g = record { good = record { names = (k, g.names); exprs = g.exprs; depth_within = g.depth_within }; named = tt }

    variable-item : (r : Option Range) (s : Spot) → Any r → K s → Within GoodItem (a_variable r s)
    variable-item r s u k = record { good = record { names = tt; exprs = tt; depth_within = omega arith }; named = k }

    some-assigns : (list : List NetAssignment) → IfSome (assigns_of tokens list) (Within GoodItem)
    some-assigns [] = tt
    some-assigns (a ∷ []) = of-one GoodAssign (Within GoodItem) an_assign assign-item (assign_of tokens a.target a.value) (an-assignment a.target a.value)
    some-assigns (a ∷ b ∷ list) = tt

    some-variable : (of : TypeText) (list : List Declarator) → IfSome (one_variable tokens of list) (Within GoodItem)
    some-variable of [] = tt
    some-variable of (d ∷ []) =
        of-if (Within GoodItem) (is_plain d) (variable_by tokens of d.name)
        (of-two Any K (Within GoodItem) a_variable variable-item (type_of tokens of) (name_of tokens d.name) (any _) (a-name d.name))
    some-variable of (d ∷ e ∷ list) = tt

    some-edge : (list : List EventEdge) (body : Z.Stmt) → IfSome (edges_of tokens list body) (Within GoodItem)
    some-edge [] body = tt
    some-edge (e ∷ []) body =
        of-if (Within GoodItem) (is_rising e.keyword && is_none e.member) (clocked_by tokens e.name body)
        (of-two K (Good nesting_limit) (Within GoodItem) an_edge edge-item (name_of tokens e.name) (stmt_of tokens true body) (a-name e.name) (a-stmt true body))
    some-edge (e ∷ f ∷ list) body = tt

    some-always : (a : Always) → IfSome (always_of tokens a) (Within GoodItem)
    some-always (A.Comb keyword body) = of-one (Good nesting_limit) (Within GoodItem) a_comb comb-item (stmt_of tokens false body) (a-stmt false body)
    some-always (A.Latch keyword body) = tt
    some-always (A.Ff keyword event opening edges closing body) = some-edge edges body
    some-always (A.Plain keyword event control body) = tt

    an-item : (i : Y.Item) → IfSome (item_of tokens i) (Within GoodItem)
    an-item i = by_layer (Y.out-Item i)
      where
        by_layer : (y : ItemLayer) → IfSome (item_layer tokens y) (Within GoodItem)
        by_layer (Y.Item-F.Assign a) = some-assigns a.assignments
        by_layer (Y.Item-F.Data d) = of-if (Within GoodItem) (is_none d.net) (one_variable tokens d.of d.declarators) (some-variable d.of d.declarators)
        by_layer (Y.Item-F.Always a) = some-always a
        by_layer (Y.Item-F.Empty semicolon) = tt
        by_layer _ = tt

    -- a module
    agreeing : (label : Option Label) (o : Option Spot) → IfSome o K → IfSome (agreed tokens label o) K
    agreeing label None h = tt
    agreeing label (Some s) h = by_test (label_agrees tokens s label)
      where
        by_test : (b : Bool) → IfSome (if b then Some s else None) K
        by_test true = h
        by_test false = tt

    abbrev Named : (Spot → Module) → Type 0
    Named f = (s : Spot) → K s → GoodModule (f s)

    a-module : (m : M.Module) → IfSome (module_of tokens m) GoodModule
    a-module m =
        let own = name_of tokens m.header.name in
        let ports = header_of tokens m.header in
        let items = gathered (item_of tokens) m.items in
        of-two Named K GoodModule applied (λ f s h k. h s k) (then_two body_with ports items) (agreed tokens m.end_label own)
        (of-two (AllByRecursion NamedPort) (AllByRecursion GoodItem) Named body_with (λ ps is h k s n. record { itself = n; ports = h; items = k }) ports items
        (of-if (AllByRecursion NamedPort) (is_plain_header m.header) (ports_of tokens m.header.ports) (some-ports m.header.ports))
        (of-gathered GoodItem (item_of tokens) an-item m.items))
        (agreeing m.end_label own (a-name m.header.name))

    a-unit : (u : U.Unit) → IfSome (unit_of tokens u) (Within GoodModule)
    a-unit (N.Module m) = of-one GoodModule (Within GoodModule) Some (λ x h. h) (module_of tokens m) (a-module m)
    a-unit (N.Empty semicolon) = tt
    a-unit _ = tt

    one : (o : Option (List Module)) → IfSome o (AllByRecursion GoodModule) → IfSome (one_module o) (Within GoodModule)
    one None h = tt
    one (Some []) h = tt
    one (Some (m ∷ [])) h = h.0
    one (Some (m ∷ n ∷ ms)) h = tt

    pub readable : (units : List U.Unit) → IfSome (one_module (gathered (unit_of tokens) units)) (Within GoodModule)
    readable units = one (gathered (unit_of tokens) units) (of-gathered GoodModule (unit_of tokens) a-unit units)

-- the word is that of a name token
pub record IsName (tokens : List Token) (word : List ℕ) : Type 0 where
  pub index : ℕ
  pub token : Token
  pub is_there : slice_get tokens index ≡ Some token
  pub is_name : is_name_kind token.kind ≡ true
  pub is_word : token.text ≡ word

abbrev pub NameSpot : List Token → Spot → Type 0
NameSpot tokens s = IsName tokens s.word

abbrev pub NamedModule : List Token → Module → Type 0
NamedModule tokens m = GoodModule (NameSpot tokens) m

pub some-is : {A : Type 0} (P : A → Type 0) (o : Option (Option A)) (x : A) → o ≡ Some (Some x) → IfSome o (Within P) → P x
some-is P o x e h = subst (λ u. IfSome u (Within P)) e h

-- the names of what a tree has built are those of its name tokens
pub names-built : (tree : SourceTree) (m : Module) → built tree ≡ Some (Some m) → NamedModule tree.tokens m
names-built tree m e =
    some-is (NamedModule tree.tokens) (built tree) m e
    (readable (NameSpot tree.tokens) tree.tokens (λ i t at named. record { index = i; token = t; is_there = at; is_name = named; is_word = refl }) tree.units)

pub map-get : {A B : Type 0} (f : A → B) (xs : List A) (n : ℕ) (x : A) → slice_get xs n ≡ Some x → slice_get (map f xs) n ≡ Some (f x)
map-get f [] n x e = cc
map-get f (y ∷ xs) zero x e = (let same : y ≡ x = cc in ap (λ z. Some (f z)) same)
map-get f (y ∷ xs) (suc n) x e = map-get f xs n x e

pub length-map : {A B : Type 0} (f : A → B) (xs : List A) → length (map f xs) ≡ length xs
length-map f [] = refl
length-map f (x ∷ xs) = ap suc (length-map f xs)
