-- The tokens of the items and units that are read from a text ascend.
use Rattle.std.proofs.Common.{◌≡◌, ℕ, zero, suc, ◌<◌, ◌≤◌, false, ◌==◌, List, [], ◌∷◌, ◌++◌, map, drop, Option, Some, None, rules, refl, sym, ap, ◌∙◌, arith}
use Rattle.std.specs.Option.{option_map}
use Rattle.ll_engine.specs.declared.tree.Tree.{Tree}
use Rattle.sv_tree.specs.Heads as head
use Rattle.sv_tree.specs.declared.expressions.Expr.{Expr}
use Rattle.sv_tree.specs.declared.instances.Instance.{Instance}
use Rattle.sv_tree.specs.declared.instances.ParameterBinds.{ParameterBinds}
use Rattle.sv_tree.specs.declared.items.CaseGenerateItem.{CaseGenerateItem, CaseGenerateItem-F, roll-CaseGenerateItem, map-CaseGenerateItem, fold-roll-CaseGenerateItem}
use Rattle.sv_tree.specs.declared.items.CaseGenerateItem.TheVariants as C
use Rattle.sv_tree.specs.declared.items.GenerateBlock.{GenerateBlock, GenerateBlock-F, roll-GenerateBlock, map-GenerateBlock, fold-roll-GenerateBlock}
use Rattle.sv_tree.specs.declared.items.GenerateBlock.TheVariants as K
use Rattle.sv_tree.specs.declared.items.GenerateElse.{GenerateElse}
use Rattle.sv_tree.specs.declared.items.Item.{Item, Item-F, roll-Item, map-Item, fold-roll-Item, the_lemmas}
use Rattle.sv_tree.specs.declared.items.Item.TheVariants as I
use Rattle.sv_tree.specs.declared.types.TypeText.{TypeText}
use Rattle.sv_tree.specs.declared.units.PackageItem.{PackageItem}
use Rattle.sv_tree.specs.declared.units.Unit.{Unit as Description}
use Rattle.expr_build.specs.Nodes.{kids_of, kid, token, row_of, is_none, behind_marks}
use Rattle.expr_build.specs.Expressions.{expr_of, nesting_limit}
use Rattle.expr_build.specs.Types.{alone, scoped}
use Rattle.sv_build.specs.declared.rows.TheConstants as R
use Rattle.sv_build.specs.Declarations.{declared}
use Rattle.sv_build.specs.Items as X
use Rattle.expr_type.specs.Placed.{Ascend}
use Rattle.order_laws.specs.Ordered.{Tokens, in_row, if_there, expr_tokens, type_tokens, declarator_tokens}
use Rattle.least_laws.specs.Trees as W
use Rattle.least_laws.specs.Trees.{binds_tokens, instance_tokens, connection_tokens, generate_loop_tokens, choice_tokens, block_tokens, item_tokens, else_tokens, module_tokens, package_item_tokens, unit_tokens}
use Rattle.least_laws.proofs.Tests.{by-test}
use Rattle.least_laws.proofs.Spans.{Spans, AllSpan}
use Rattle.least_laws.proofs.ItemRows as G
use Rattle.least_laws.proofs.Levels.{as-tokens}
use Rattle.least_laws.proofs.Lists as L
use Rattle.least_laws.proofs.Lists.{Ordered, append}
use Rattle.least_laws.proofs.Expressions.{expr-ordered, exprs-ordered}
use Rattle.least_laws.proofs.Types.{behind-ordered, named-ordered, named-dims-ordered, bare-ordered}
use Rattle.least_laws.proofs.Declarations.{parameters-ordered, variables-ordered, declared-ordered}
use Rattle.least_laws.proofs.Statements.{step-ordered}
use Rattle.least_laws.proofs.Functions.{function-ordered, task-ordered}
use Rattle.least_laws.proofs.Headers.{typedef-ordered, header-ordered, data-ordered, assign-ordered, always-ordered, binds-ordered, connections-ordered, instance-ordered}

-- items, level by level
item-is : {x : Item} (lo hi : ℕ) (z : Item-F CaseGenerateItem GenerateBlock Item GenerateElse) → roll-Item z ≡ x
    → Ascend lo hi (W.item_step (map-Item CaseGenerateItem GenerateBlock Item GenerateElse Tokens Tokens Tokens Tokens choice_tokens block_tokens item_tokens else_tokens z)) → Ascend lo hi (item_tokens x)
item-is lo hi z r w = as-tokens lo hi (ap item_tokens (sym r) ∙ fold-roll-Item Tokens Tokens Tokens Tokens W.choice_step W.block_step W.item_step W.else_step z) w

block-is : {x : GenerateBlock} (lo hi : ℕ) (z : GenerateBlock-F CaseGenerateItem GenerateBlock Item GenerateElse) → roll-GenerateBlock z ≡ x
    → Ascend lo hi (W.block_step (map-GenerateBlock CaseGenerateItem GenerateBlock Item GenerateElse Tokens Tokens Tokens Tokens choice_tokens block_tokens item_tokens else_tokens z)) → Ascend lo hi (block_tokens x)
block-is lo hi z r w = as-tokens lo hi (ap block_tokens (sym r) ∙ fold-roll-GenerateBlock Tokens Tokens Tokens Tokens W.choice_step W.block_step W.item_step W.else_step z) w

choice-is : {x : CaseGenerateItem} (lo hi : ℕ) (z : CaseGenerateItem-F CaseGenerateItem GenerateBlock Item GenerateElse) → roll-CaseGenerateItem z ≡ x
    → Ascend lo hi (W.choice_step (map-CaseGenerateItem CaseGenerateItem GenerateBlock Item GenerateElse Tokens Tokens Tokens Tokens choice_tokens block_tokens item_tokens else_tokens z)) → Ascend lo hi (choice_tokens x)
choice-is lo hi z r w = as-tokens lo hi (ap choice_tokens (sym r) ∙ fold-roll-CaseGenerateItem Tokens Tokens Tokens Tokens W.choice_step W.block_step W.item_step W.else_step z) w

else-level : (x : GenerateElse) → else_tokens x ≡ block_tokens x.body
else-level x = search (rules, the_lemmas)

if-form : (lo hi keyword opening : ℕ) (test : Expr) (closing : ℕ) (body : GenerateBlock) (o : Option GenerateElse)
    → Ascend lo hi (expr_tokens test ++ (block_tokens body ++ if_there (option_map else_tokens o))) → Ascend lo hi (item_tokens (I.IfGenerate keyword opening test closing body o))
if-form lo hi keyword opening test closing body None a = item-is lo hi _ (I.rolls-IfGenerate keyword opening test closing body None) a
if-form lo hi keyword opening test closing body (Some e) a = item-is lo hi _ (I.rolls-IfGenerate keyword opening test closing body (Some e)) a

module _ (n : ℕ) where
  -- items that a name begins
  instances-with : (of : ℕ) (parameters : Option ParameterBinds) (instances : List Instance) (semicolon mid lo hi : ℕ) → lo ≤ mid → mid ≤ hi → Ascend lo mid (if_there (option_map binds_tokens parameters))
      → Ascend mid hi (in_row (map instance_tokens instances)) → Ascend lo hi (item_tokens (X.instances_with of parameters instances semicolon))
  instances-with of parameters instances semicolon mid lo hi h k a b = item-is lo hi _ (I.rolls-Instances _) (append {lo = lo} {hi = hi} _ _ mid h k a b)

  behind-instances : (ts : List Tree) (at to lo hi : ℕ) → AllSpan head.next_instance n at ts to → lo ≤ at → to ≤ hi → Ascend lo hi (in_row (map instance_tokens (behind_marks X.instance_of ts)))
  behind-instances ts at to lo hi s a b = L.behind head.hierarchical_instance n instance_tokens X.instance_of (instance-ordered n) head.next_instance (λ x y u r. G.next-instance r) ts at to lo hi s a b

  two-names-item : (of name : ℕ) (t : Tree) (at to lo hi : ℕ) → Spans head.declared_name_rest n at t to → lo ≤ of → of < name → name < at → to ≤ hi → Ascend lo hi (item_tokens (X.two_names_item of name t))
  two-names-item of name t at to lo hi s a c d b =
      by-test (λ (x : Item). Ascend lo hi (item_tokens x)) (row_of t == R.INSTANCE) _ _
      (λ e.
      let f = G.instance-rest s e in
      let v = f.2 in
      let w = v.3.2 in
      instances-with of None _ (token 4 t) lo lo hi (omega arith) (omega arith) tt
      (append {lo = lo} {hi = hi} (instance_tokens (X.first_instance name t)) _ v.0 (omega arith) (omega arith)
      (omega arith, omega arith, connections-ordered n (kid 1 t) (suc at) v.0 (suc name) v.0 v.2 (omega arith) (omega arith))
      (behind-instances (kids_of (kid 3 t)) (suc v.0) w.0 v.0 hi (G.next-instances w.2) (omega arith) (omega arith))))
      (λ e.
      let f = G.data-rest s (e, tt) in
      let i = f.3 in
      let v = i.3 in
      item-is lo hi _ (I.rolls-Data _)
      (append {lo = lo} {hi = hi} _ _ name (omega arith) (omega arith) (bare-ordered n of lo name a c)
      (append {lo = name} {hi = hi} (declarator_tokens (declared name (kid 0 t) (kid 1 t))) _ i.0 (omega arith) (omega arith)
      (declared-ordered n name (kid 0 t) (kid 1 t) at f.0 f.0 i.0 name i.0 f.2 i.2 (omega arith) (omega arith) d (omega arith))
      (behind-ordered n (kids_of (kid 2 t)) i.0 v.0 i.0 hi (G.next-declarators v.2) (omega arith) (omega arith)))))

  typed-data : (of : TypeText) (names : Tree) (semicolon at to lo hi : ℕ) → Ascend lo at (type_tokens of) → Spans head.declarators n at names to → lo ≤ at → to ≤ hi
      → Ascend lo hi (item_tokens (X.typed_data of names semicolon))
  typed-data of names semicolon at to lo hi w s a b = item-is lo hi _ (I.rolls-Data _) (variables-ordered n of names at to lo hi w s a b)

  bound-instances : (of : ℕ) (t : Tree) (at to lo hi : ℕ) → Spans head.item_name_rest n at t to → (row_of t == R.SCOPED_DATA) ≡ false → (row_of t == R.DIMENSIONED_DATA) ≡ false
      → (row_of t == R.NAMED_DATA) ≡ false → lo ≤ at → to ≤ hi → Ascend lo hi (item_tokens (X.bound_instances of t))
  bound-instances of t at to lo hi s x y z a b =
      let f = G.bound-instances s (x, (y, (z, tt))) in
      let v = f.2.2 in
      let w = v.3.2 in
      instances-with of (Some (X.binds_of t)) _ (token 5 t) v.0 lo hi (omega arith) (omega arith) (binds-ordered n (kid 2 t) (suc (suc at)) v.0 lo v.0 v.2 (omega arith) (omega arith))
      (L.items-if head.hierarchical_instance n instance_tokens X.instance_of (instance-ordered n) head.next_instance (λ x y u r. G.next-instance r) (kid 4 t) (suc v.0) w.0 v.0 hi
      (λ e. G.instances w.2) (omega arith) (omega arith))

  name-item : (first : ℕ) (t : Tree) (at to lo hi : ℕ) → Spans head.item_name_rest n at t to → lo ≤ first → first < at → to ≤ hi → Ascend lo hi (item_tokens (X.name_item first t))
  name-item first t at to lo hi s a c b =
      by-test (λ (x : Item). Ascend lo hi (item_tokens x)) (row_of t == R.SCOPED_DATA) _ _
      (λ e.
      let f = G.scoped-data s e in
      let d = f.2.2 in
      let v = d.3 in
      typed-data _ (kid 3 t) (token 4 t) d.0 v.0 lo hi
      (named-ordered n (scoped first (token 0 t) (token 1 t)) (kid 2 t) (suc (suc at)) d.0 lo d.0 (a, omega arith, (omega arith, omega arith, tt)) d.2 (omega arith) (omega arith)) v.2 (omega arith)
      (omega arith))
      (λ e1.
      by-test (λ (x : Item). Ascend lo hi (item_tokens x)) (row_of t == R.DIMENSIONED_DATA) _ _
      (λ e.
      let f = G.dimensioned-data s e in
      let d = f.3 in
      let v = d.3 in
      typed-data _ (kid 2 t) (token 3 t) d.0 v.0 lo hi (named-dims-ordered n (alone first) (kid 0 t) (kid 1 t) at f.0 d.0 lo d.0 (a, c, tt) f.2 d.2 (omega arith) (omega arith)) v.2 (omega arith) (omega arith))
      (λ e2.
      by-test (λ (x : Item). Ascend lo hi (item_tokens x)) (row_of t == R.NAMED_DATA) _ _
      (λ e. let f = G.named-data s e in two-names-item first (token 0 t) (kid 1 t) (suc at) f.2.0 lo hi f.2.2 a (omega arith) (omega arith) (omega arith))
      (λ e. bound-instances first t at to lo hi s e1 e2 e (omega arith) b)))

-- generate constructs and items around these
module _ (n : ℕ) (inner : Tree → Item) (ok : Ordered head.module_item n item_tokens inner) where
  items-in : (t : Tree) (at to lo hi : ℕ) → Spans head.module_items n at t to → lo ≤ at → to ≤ hi → Ascend lo hi (in_row (map item_tokens (map inner (kids_of t))))
  items-in t at to lo hi s a b = L.each head.module_item n item_tokens inner ok (kids_of t) at to lo hi (G.module-items s) a b

  block-ordered : Ordered head.generate_block n block_tokens (X.generate_block_of inner)
  block-ordered t at to lo hi s a b =
      by-test (λ (x : GenerateBlock). Ascend lo hi (block_tokens x)) (row_of t == R.GENERATE_BLOCK) _ _
      (λ e.
      let f = G.generate-block s e in
      let x = f.2 in
      let y = x.3 in
      let z = y.3.2 in
      block-is lo hi _ (K.rolls-Block _ _ _ _ _) (items-in (kid 2 t) x.0 y.0 lo hi y.2 (omega arith) (omega arith)))
      (λ e. let f = G.single-block s (e, tt) in block-is lo hi _ (K.rolls-Single _) (ok (kid 0 t) at f.0 lo hi f.2 a (omega arith)))

  else-ordered : (ts : List Tree) (at to lo hi : ℕ) → AllSpan head.generate_else n at ts to → lo ≤ at → to ≤ hi → Ascend lo hi (if_there (option_map else_tokens (X.generate_else_of inner ts)))
  else-ordered [] at to lo hi s a b = tt
  else-ordered (t ∷ ts) at to lo hi s a b =
      let k = L.all-rise head.generate_else n ts s.0 to s.3 in
      let f = G.generate-else s.2 in
      as-tokens lo hi (else-level (X.generate_else_from inner t)) (block-ordered (kid 1 t) (suc at) f.2.0 lo hi f.2.2 (omega arith) (omega arith))

  loop-generate : Ordered head.loop_generate_construct n item_tokens (X.loop_generate inner)
  loop-generate t at to lo hi s a b =
      let f = G.loop-generate s in
      let g = f.2.2 in
      let x = g.3.2.2 in
      let y = x.3.2 in
      let z = y.3.2 in
      let w = z.3.2 in
      item-is lo hi _ (I.rolls-LoopGenerate _ _ _ _ _)
      (append {lo = lo} {hi = hi} (generate_loop_tokens (X.generate_loop_of t)) _ z.0 (omega arith) (omega arith) (
        omega arith,
        omega arith,
        append {lo = suc (token 3 t)} {hi = z.0} _ _ x.0 (omega arith) (omega arith) (expr-ordered n (kid 5 t) (suc (suc g.0)) x.0 (suc (token 3 t)) x.0 x.2 (omega arith) (omega arith))
            (append {lo = x.0} {hi = z.0} _ _ y.0 (omega arith) (omega arith) (expr-ordered n (kid 7 t) (suc x.0) y.0 x.0 y.0 y.2 (omega arith) (omega arith))
            (step-ordered n (kid 9 t) (suc y.0) z.0 y.0 z.0 z.2 (omega arith) (omega arith))),
      )
      (block-ordered (kid 11 t) (suc z.0) w.0 z.0 hi w.2 (omega arith) (omega arith)))

  if-generate : Ordered head.if_generate_construct n item_tokens (X.if_generate inner)
  if-generate t at to lo hi s a b =
      let f = G.if-generate s in
      let v = f.2.2 in
      let d = v.3.2 in
      let k = L.all-rise head.generate_else n (drop 5 (kids_of t)) d.0 to d.3 in
      if-form lo hi _ _ _ _ _ _
      (append {lo = lo} {hi = hi} _ _ v.0 (omega arith) (omega arith) (expr-ordered n (kid 2 t) (suc (suc at)) v.0 lo v.0 v.2 (omega arith) (omega arith))
      (append {lo = v.0} {hi = hi} _ _ d.0 (omega arith) (omega arith) (block-ordered (kid 4 t) (suc v.0) d.0 v.0 d.0 d.2 (omega arith) (omega arith))
      (else-ordered (drop 5 (kids_of t)) d.0 to d.0 hi d.3 (omega arith) b)))

  values-generate : Ordered head.case_generate_item n choice_tokens (X.values_generate inner)
  values-generate t at to lo hi s a b =
      let f = G.values-item s in
      let d = f.3.2 in
      choice-is lo hi _ (C.rolls-Values _ _ _)
      (append {lo = lo} {hi = hi} _ _ f.0 (omega arith) (omega arith) (exprs-ordered n expr_of (expr-ordered n) (kid 0 t) at f.0 lo f.0 f.2 a (omega arith))
      (block-ordered (kid 2 t) (suc f.0) d.0 f.0 hi d.2 (omega arith) (omega arith)))

  default-generate : Ordered head.case_generate_default n choice_tokens (X.default_generate inner)
  default-generate t at to lo hi s a b =
      let f = G.default-item s in
      let d = f.2.3 in
      choice-is lo hi _ (C.rolls-Default _ _ _) (block-ordered (kid 2 t) f.2.0 d.0 lo hi d.2 (omega arith) (omega arith))

  all-values : (ts : List Tree) (at to lo hi : ℕ) → AllSpan head.case_generate_item n at ts to → lo ≤ at → to ≤ hi → Ascend lo hi (in_row (map choice_tokens (map (X.values_generate inner) ts)))
  all-values ts at to lo hi s a b = L.each head.case_generate_item n choice_tokens (X.values_generate inner) values-generate ts at to lo hi s a b

  from-default : (t : Tree) (ts : List Tree) (at to lo hi : ℕ) → (is_none ts ≡ false → L.Behind head.case_generate_default head.case_generate_item n at t ts to) → lo ≤ at → to ≤ hi
      → Ascend lo hi (in_row (map choice_tokens (X.from_default_generate inner ts)))
  from-default t [] at to lo hi s a b = tt
  from-default t (x ∷ xs) at to lo hi s a b =
      let f = s refl in
      let k = L.all-rise head.case_generate_item n xs f.0 to f.3 in
      append {lo = lo} {hi = hi} _ _ f.0 (omega arith) (omega arith) (default-generate x at f.0 lo f.0 f.2 a (omega arith)) (all-values xs f.0 to f.0 hi f.3 (omega arith) b)

  choices-ordered : (t : Tree) (at to lo hi : ℕ) → Spans head.case_generate_body n at t to → lo ≤ at → to ≤ hi → Ascend lo hi (in_row (map choice_tokens (X.case_generate_items_of inner t)))
  choices-ordered t at to lo hi s a b =
      by-test (λ (xs : List CaseGenerateItem). Ascend lo hi (in_row (map choice_tokens xs))) (row_of t == R.GENERATE_ITEMS_FIRST) _ _
      (λ e.
      let f = G.items-first s e in
      let m = f.3 in
      let d = m.3 in
      append {lo = lo} {hi = hi} _ _ f.0 (omega arith) (omega arith) (values-generate (kid 0 t) at f.0 lo f.0 f.2 a (omega arith))
      (as-tokens f.0 hi (L.joined-row choice_tokens (map (X.values_generate inner) (kids_of (kid 1 t))) (X.from_default_generate inner (kids_of (kid 2 t))))
      (append {lo = f.0} {hi = hi} _ _ m.0 (omega arith) (omega arith) (all-values (kids_of (kid 1 t)) f.0 m.0 f.0 m.0 (G.case-items m.2) (omega arith) (omega arith))
      (from-default (kid 2 t) (kids_of (kid 2 t)) m.0 d.0 m.0 hi (λ q. G.case-default d.2 q tt) (omega arith) (omega arith)))))
      (λ e. from-default t (kids_of t) at to lo hi (λ q. G.default-first s (e, tt)) a b)

  case-generate : Ordered head.case_generate_construct n item_tokens (X.case_generate inner)
  case-generate t at to lo hi s a b =
      let f = G.case-generate s in
      let v = f.2.2 in
      let d = v.3.2 in
      item-is lo hi _ (I.rolls-CaseGenerate _ _ _ _ _ _)
      (append {lo = lo} {hi = hi} _ _ v.0 (omega arith) (omega arith) (expr-ordered n (kid 2 t) (suc (suc at)) v.0 lo v.0 v.2 (omega arith) (omega arith))
      (choices-ordered (kid 4 t) (suc v.0) d.0 v.0 hi d.2 (omega arith) (omega arith)))

  construct-ordered : Ordered head.module_item n item_tokens (X.construct_of inner)
  construct-ordered t at to lo hi s a b =
      by-test (λ (x : Item). Ascend lo hi (item_tokens x)) (row_of t == R.GENERATE_MODULE_ITEM) _ _
      (λ e. let f = G.generate-item s e in item-is lo hi _ (I.rolls-Generate _ _ _) (items-in (kid 1 t) (suc at) f.2.0 lo hi f.2.2 (omega arith) (omega arith)))
      (λ e1.
      by-test (λ (x : Item). Ascend lo hi (item_tokens x)) (row_of t == R.LOOP_MODULE_ITEM) _ _ (λ e. let f = G.loop-item s e in loop-generate (kid 0 t) at f.0 lo hi f.2 a (omega arith))
      (λ e2.
      by-test (λ (x : Item). Ascend lo hi (item_tokens x)) (row_of t == R.IF_MODULE_ITEM) _ _ (λ e. let f = G.if-item s e in if-generate (kid 0 t) at f.0 lo hi f.2 a (omega arith))
      (λ e3.
      by-test (λ (x : Item). Ascend lo hi (item_tokens x)) (row_of t == R.CASE_MODULE_ITEM) _ _ (λ e. let f = G.case-item s e in case-generate (kid 0 t) at f.0 lo hi f.2 a (omega arith))
      (λ e4.
      by-test (λ (x : Item). Ascend lo hi (item_tokens x)) (row_of t == R.MODPORT_MODULE_ITEM) _ _ (λ e. item-is lo hi _ (I.rolls-Modports _) tt)
      (λ e5.
      by-test (λ (x : Item). Ascend lo hi (item_tokens x)) (row_of t == R.NAME_MODULE_ITEM) _ _
      (λ e. let f = G.name-item s e in name-item n (token 0 t) (kid 1 t) (suc at) f.2.0 lo hi f.2.2 (omega arith) (omega arith) (omega arith)) (λ e6. item-is lo hi _ (I.rolls-Empty _) tt))))))

  around-ordered : Ordered head.module_item n item_tokens (X.item_around inner)
  around-ordered t at to lo hi s a b =
      by-test (λ (x : Item). Ascend lo hi (item_tokens x)) (row_of t == R.PARAMETERS_MODULE_ITEM) _ _
      (λ e. let f = G.parameters-item s e in item-is lo hi _ (I.rolls-Parameters _) (parameters-ordered n (kid 0 t) (token 1 t) at f.0 lo hi f.2 a (omega arith)))
      (λ e1.
      by-test (λ (x : Item). Ascend lo hi (item_tokens x)) (row_of t == R.TYPEDEF_MODULE_ITEM) _ _
      (λ e. let f = G.typedef-item s e in item-is lo hi _ (I.rolls-Typedef _) (typedef-ordered n (kid 0 t) at f.0 lo hi f.2 a (omega arith)))
      (λ e2.
      by-test (λ (x : Item). Ascend lo hi (item_tokens x)) (row_of t == R.IMPORT_MODULE_ITEM) _ _ (λ e. item-is lo hi _ (I.rolls-Import _) tt)
      (λ e3.
      by-test (λ (x : Item). Ascend lo hi (item_tokens x)) (row_of t == R.FUNCTION_MODULE_ITEM) _ _
      (λ e. let f = G.function-item s e in item-is lo hi _ (I.rolls-Function _) (function-ordered n (kid 0 t) at f.0 lo hi f.2 a (omega arith)))
      (λ e4.
      by-test (λ (x : Item). Ascend lo hi (item_tokens x)) (row_of t == R.TASK_MODULE_ITEM) _ _
      (λ e. let f = G.task-item s e in item-is lo hi _ (I.rolls-Task _) (task-ordered n (kid 0 t) at f.0 lo hi f.2 a (omega arith)))
      (λ e5.
      by-test (λ (x : Item). Ascend lo hi (item_tokens x)) (row_of t == R.DATA_MODULE_ITEM) _ _
      (λ e. let f = G.data-item s e in item-is lo hi _ (I.rolls-Data _) (data-ordered n (kid 0 t) (token 1 t) at f.0 lo hi f.2 a (omega arith)))
      (λ e6.
      by-test (λ (x : Item). Ascend lo hi (item_tokens x)) (row_of t == R.GENVAR_MODULE_ITEM) _ _ (λ e. item-is lo hi _ (I.rolls-Genvars _) tt)
      (λ e7.
      by-test (λ (x : Item). Ascend lo hi (item_tokens x)) (row_of t == R.ASSIGN_MODULE_ITEM) _ _ (λ e. item-is lo hi _ (I.rolls-Assign _) (assign-ordered n t at to lo hi s e a b))
      (λ e8.
      by-test (λ (x : Item). Ascend lo hi (item_tokens x)) (row_of t == R.ALWAYS_MODULE_ITEM) _ _
      (λ e. let f = G.always-item s e in item-is lo hi _ (I.rolls-Always _) (always-ordered n (kid 0 t) at f.0 lo hi f.2 a (omega arith))) (λ e9. construct-ordered t at to lo hi s a b)))))))))

-- items, however deep
item-within : (depth n : ℕ) → Ordered head.module_item n item_tokens (X.item_within depth)
unfolding X.item_within
item-within zero n t at to lo hi s a b = item-is lo hi _ (I.rolls-Empty _) tt
item-within (suc depth) n t at to lo hi s a b = around-ordered n (X.item_within depth) (item-within depth n) t at to lo hi s a b

-- packages, modules and interfaces
module _ (n : ℕ) where
  package-item : Ordered head.package_item n package_item_tokens X.package_item_of
  package-item t at to lo hi s a b =
      by-test (λ (x : PackageItem). Ascend lo hi (package_item_tokens x)) (row_of t == R.IMPORT_PACKAGE_ITEM) _ _ (λ e. tt)
      (λ e1.
      by-test (λ (x : PackageItem). Ascend lo hi (package_item_tokens x)) (row_of t == R.TYPEDEF_PACKAGE_ITEM) _ _
      (λ e. let f = G.package-typedef s e in typedef-ordered n (kid 0 t) at f.0 lo hi f.2 a (omega arith))
      (λ e2.
      by-test (λ (x : PackageItem). Ascend lo hi (package_item_tokens x)) (row_of t == R.PARAMETERS_PACKAGE_ITEM) _ _
      (λ e. let f = G.package-parameters s e in parameters-ordered n (kid 0 t) (token 1 t) at f.0 lo hi f.2 a (omega arith))
      (λ e3.
      by-test (λ (x : PackageItem). Ascend lo hi (package_item_tokens x)) (row_of t == R.FUNCTION_PACKAGE_ITEM) _ _
      (λ e. let f = G.package-function s e in function-ordered n (kid 0 t) at f.0 lo hi f.2 a (omega arith))
      (λ e4.
      by-test (λ (x : PackageItem). Ascend lo hi (package_item_tokens x)) (row_of t == R.TASK_PACKAGE_ITEM) _ _
      (λ e. let f = G.package-task s e in task-ordered n (kid 0 t) at f.0 lo hi f.2 a (omega arith)) (λ e5. tt)))))

  module-from : (t : Tree) (at mid to lo hi : ℕ) → Spans head.header n at (kid 1 t) mid → Spans head.module_items n mid (kid 2 t) to → lo ≤ at → to ≤ hi → Ascend lo hi (module_tokens (X.module_of t))
  module-from t at mid to lo hi s r a b =
      let c = s.rise in
      let d = r.rise in
      append {lo = lo} {hi = hi} _ _ mid (omega arith) (omega arith) (header-ordered n (kid 1 t) at mid lo mid s a (omega arith))
      (items-in n (X.item_within (suc nesting_limit)) (item-within (suc nesting_limit) n) (kid 2 t) mid to mid hi r (omega arith) b)

  module-ordered : Ordered head.module_declaration n module_tokens X.module_of
  module-ordered t at to lo hi s a b =
      let f = G.module-declaration s in
      let x = f.2 in
      let y = x.3 in
      let z = y.3.2 in
      module-from t (suc at) x.0 y.0 lo hi x.2 y.2 (omega arith) (omega arith)

  interface-ordered : Ordered head.interface_declaration n module_tokens X.module_of
  interface-ordered t at to lo hi s a b =
      let f = G.interface-declaration s in
      let x = f.2 in
      let y = x.3 in
      let z = y.3.2 in
      module-from t (suc at) x.0 y.0 lo hi x.2 y.2 (omega arith) (omega arith)

  package-ordered : (t : Tree) (at to lo hi : ℕ) → Spans head.package_declaration n at t to → lo ≤ at → to ≤ hi
      → Ascend lo hi (in_row (map package_item_tokens (map X.package_item_of (kids_of (kid 4 t)))))
  package-ordered t at to lo hi s a b =
      let f = G.package-declaration s in
      let x = f.2 in
      let y = x.3.2.2 in
      let z = y.3.2 in
      L.each head.package_item n package_item_tokens X.package_item_of package-item (kids_of (kid 4 t)) (suc (suc x.0)) y.0 lo hi (G.package-items y.2) (omega arith) (omega arith)

  unit-ordered : Ordered head.description n unit_tokens X.unit_of
  unit-ordered t at to lo hi s a b =
      by-test (λ (x : Description). Ascend lo hi (unit_tokens x)) (row_of t == R.PACKAGE_UNIT) _ _ (λ e. let f = G.package-unit s e in package-ordered (kid 0 t) at f.0 lo hi f.2 a (omega arith))
      (λ e1.
      by-test (λ (x : Description). Ascend lo hi (unit_tokens x)) (row_of t == R.MODULE_UNIT) _ _ (λ e. let f = G.module-unit s e in module-ordered (kid 0 t) at f.0 lo hi f.2 a (omega arith))
      (λ e2.
      by-test (λ (x : Description). Ascend lo hi (unit_tokens x)) (row_of t == R.INTERFACE_UNIT) _ _ (λ e. let f = G.interface-unit s e in interface-ordered (kid 0 t) at f.0 lo hi f.2 a (omega arith))
      (λ e3.
      by-test (λ (x : Description). Ascend lo hi (unit_tokens x)) (row_of t == R.IMPORT_UNIT) _ _ (λ e. tt)
      (λ e4.
      by-test (λ (x : Description). Ascend lo hi (unit_tokens x)) (row_of t == R.TYPEDEF_UNIT) _ _ (λ e. let f = G.typedef-unit s e in typedef-ordered n (kid 0 t) at f.0 lo hi f.2 a (omega arith))
      (λ e5.
      by-test (λ (x : Description). Ascend lo hi (unit_tokens x)) (row_of t == R.PARAMETERS_UNIT) _ _
      (λ e. let f = G.parameters-unit s e in parameters-ordered n (kid 0 t) (token 1 t) at f.0 lo hi f.2 a (omega arith))
      (λ e6.
      by-test (λ (x : Description). Ascend lo hi (unit_tokens x)) (row_of t == R.FUNCTION_UNIT) _ _ (λ e. let f = G.function-unit s e in function-ordered n (kid 0 t) at f.0 lo hi f.2 a (omega arith))
      (λ e7.
      by-test (λ (x : Description). Ascend lo hi (unit_tokens x)) (row_of t == R.TASK_UNIT) _ _ (λ e. let f = G.task-unit s e in task-ordered n (kid 0 t) at f.0 lo hi f.2 a (omega arith)) (λ e8. tt))))))))

  -- the units of a text
  pub units-ordered : (t : Tree) (at to lo hi : ℕ) → Spans head.source_text n at t to → lo ≤ at → to ≤ hi → Ascend lo hi (in_row (map unit_tokens (X.units_of t)))
  units-ordered t at to lo hi s a b = L.each head.description n unit_tokens X.unit_of unit-ordered (kids_of t) at to lo hi (G.source-text s) a b
