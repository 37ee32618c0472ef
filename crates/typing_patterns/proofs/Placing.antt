-- Patterns by their items.
use Rattle.std.proofs.Common.{◌≡◌, ℕ, Bool, List, [], ◌∷◌, ◌++◌, map, refl, sym, ap, ◌∙◌, subst}
use Rattle.std.specs.Prelude.{Result, Ok, Err, IfOk}
use Rattle.std.proofs.Math.Path.{fun_ext}
use Rattle.sv_tree.specs.declared.expressions.Expr.{Expr}
use Rattle.sv_tree.specs.declared.expressions.Pattern.{Pattern}
use Rattle.sv_tree.specs.declared.expressions.Pattern.TheVariants as P
use Rattle.sv_tree.specs.declared.expressions.PatternItem.{PatternItem}
use Rattle.sv_types.specs.declared.statement.Function.{Function}
use Rattle.expr_type.specs.declared.halt.Halt.{Halt}
use Rattle.expr_type.specs.declared.halt.Halt.TheVariants as H
use Rattle.expr_type.specs.Expressions.{pattern_operand}
use Rattle.expr_type.specs.Names.{Context}
use Rattle.expr_type.specs.Operands.{Operand}
use Rattle.expr_type.specs.Operands as V
use Rattle.expr_type.specs.Patterns.{InPlace, Item, Parts, fitted}
use Rattle.expr_type.specs.Typings.{Typing, beside, both, checked, whole}
use Rattle.pattern_types.specs.declared.operand.Item as J
use Rattle.pattern_types.specs.declared.operand.ItemKey.{ItemKey}
use Rattle.pattern_types.specs.declared.operand.Operand.TheVariants as O
use Rattle.pattern_types.specs.Meaning.{filled, fitted_in, item_of, operand_of, pattern_of, written}
use Rattle.pattern_types.specs.Named.{AllFound, IsFound}
use Rattle.pattern_types.proofs.Found.{fitted-found}
use Rattle.pattern_types.proofs.Levels.{operand-Pattern}
use Rattle.typing_steps.specs.Steps.{TypesTo}
use Rattle.typing_steps.proofs.Combining.{beside-fine, beside-breaks, beside-second, beside-quiet, beside-behind-quiet, checked-fine, checked-stops}
use Rattle.typing_rows.specs.Rows.{Adds, mapped}
use Rattle.typing_values.specs.Numbers.{count_of}
use Rattle.typing_values.specs.Parts.{pattern_meaning}
use Rattle.typing_values.specs.Values.{behind}
use Rattle.typing_patterns.specs.Written.{AllFoundIn, AllInPlace, IsFoundIn, IsInPlace, as_item, as_value, items_by, pattern_by, values_by}
use Rattle.typing_patterns.proofs.Levels.{map-map, pattern-Items, pattern-Replication}

-- a pattern whose names are looked up already is that of the text
all-found : (k : Context) (is : List J.Item) → AllFoundIn k is → AllFound k (map (filled k.source) is)
all-found k [] h = tt
all-found k (i ∷ is) h = (h.0, all-found k is h.1)

fitted-same : (k : Context) (tick times : ℕ) (is : List J.Item) → AllFoundIn k is
    → fitted_in k.source (pattern_of k.source (record { tick = tick; times = times; items = is })) ≡ fitted k tick (record { times = times; items = map (as_item k.source) is })
fitted-same k tick times is h =
    fun_ext (λ at. fun_ext (λ t. fitted-found k (pattern_of k.source (record { tick = tick; times = times; items = is })) at t (all-found k is h)))
    ∙ ap (λ (xs : List Item). fitted k tick (record { times = times; items = xs })) (map-map item_of (filled k.source) is)

pub operand-found : (k : Context) (tick times : ℕ) (is : List J.Item) → AllFoundIn k is
    → operand_of k.source (O.Pattern tick times is) ≡ pattern_operand k tick (record { times = times; items = map (as_item k.source) is })
operand-found k tick times is h = operand-Pattern k.source tick times is ∙ ap (V.Pattern tick) (fitted-same k tick times is h)

-- items without keys
in-place : (k : Context) (i : J.Item) → IsInPlace i → as_item k.source i ≡ record { key = InPlace; value = as_value k.source i }
in-place k i h = ap (λ (key : ItemKey). record { key = written key; value = as_value k.source i }) h

all-in-place : (k : Context) (is : List J.Item) → AllInPlace is → map (as_item k.source) is ≡ map (λ o. record { key = InPlace; value = o }) (map (as_value k.source) is)
all-in-place k [] h = refl
all-in-place k (i ∷ is) h =
    ap (λ (x : Item). x ∷ map (as_item k.source) is) (in-place k i h.0)
    ∙ ap (λ (xs : List Item). record { key = InPlace; value = as_value k.source i } ∷ xs) (all-in-place k is h.1)

found-in-place : (k : Context) (is : List J.Item) → AllInPlace is → AllFoundIn k is
found-in-place k [] h = tt
found-in-place k (i ∷ is) h = (subst (IsFound k) (sym h.0) tt, found-in-place k is h.1)

-- the pattern that items make
module _ (k : Context) (tick : ℕ) (fs gs : List Function) where
  abbrev made : Parts → Typing Operand
  made x = whole (pattern_operand k tick x)

  by-parts : (p : Pattern) (x : Typing Parts) (r : Result Operand Halt) → pattern_meaning p k ≡ x → TypesTo r (checked x made fs) gs → TypesTo r (pattern_by k tick p fs) gs
  by-parts p x r is h = subst (λ (y : Typing Parts). TypesTo r (checked y made fs) gs) (sym is) h

  abbrev whole_items : List Item → Typing Parts
  whole_items is = whole (record { times = 1; items = is })

  pub items-make : (p : Pattern) (items : List PatternItem) (is : List J.Item) → p ≡ P.Items items → TypesTo (Ok (map (as_item k.source) is)) (items_by k items fs) gs → AllFoundIn k is
      → TypesTo (Ok (operand_of k.source (O.Pattern tick 1 is))) (pattern_by k tick p fs) gs
  items-make p items is form h found =
      by-parts p (checked (items_by k items) whole_items) (Ok (operand_of k.source (O.Pattern tick 1 is))) (ap (λ (q : Pattern). pattern_meaning q k) form ∙ pattern-Items k items)
      (subst (λ (o : Operand). TypesTo (Ok o) (checked (checked (items_by k items) whole_items) made fs) gs) (sym (operand-found k tick 1 is found))
      (checked-fine (checked (items_by k items) whole_items) made fs gs gs (record { times = 1; items = map (as_item k.source) is })
      (Ok (pattern_operand k tick (record { times = 1; items = map (as_item k.source) is })))
      (checked-fine (items_by k items) whole_items fs gs gs (map (as_item k.source) is) (Ok (record { times = 1; items = map (as_item k.source) is })) h refl) refl))

  pub items-stop : (p : Pattern) (items : List PatternItem) (h : Halt) → p ≡ P.Items items → TypesTo {A = List Item} (Err h) (items_by k items fs) gs
      → TypesTo {A = Operand} (Err h) (pattern_by k tick p fs) gs
  items-stop p items h form t =
      by-parts p (checked (items_by k items) whole_items) (Err h) (ap (λ (q : Pattern). pattern_meaning q k) form ∙ pattern-Items k items)
      (checked-stops (checked (items_by k items) whole_items) made fs gs h (checked-stops (items_by k items) whole_items fs gs h t))

  abbrev repeated_items : ℕ → List Operand → Typing Parts
  repeated_items n os = whole (record { times = n; items = map (λ o. record { key = InPlace; value = o }) os })

  abbrev repeats : Expr → List Expr → Typing Parts
  repeats times es = both (count_of k times) (values_by k es) repeated_items

  repeats-stop : (p : Pattern) (times : Expr) (opening closing : ℕ) (es : List Expr) (h : Halt) → p ≡ P.Replication times opening es closing → TypesTo {A = Parts} (Err h) (repeats times es fs) gs
      → TypesTo {A = Operand} (Err h) (pattern_by k tick p fs) gs
  repeats-stop p times opening closing es h form t =
      by-parts p (repeats times es) (Err h) (ap (λ (q : Pattern). pattern_meaning q k) form ∙ pattern-Replication k times opening closing es)
      (checked-stops (repeats times es) made fs gs h t)

  abbrev then_repeat : ℕ × List Operand → Typing Parts
  then_repeat q = repeated_items q.0 q.1

  pub values-make : (p : Pattern) (times : Expr) (opening closing : ℕ) (es : List Expr) (n : ℕ) (is : List J.Item) (hs : List Function) → p ≡ P.Replication times opening es closing
      → TypesTo (Ok n) (count_of k times fs) hs → TypesTo (Ok (map (as_value k.source) is)) (values_by k es hs) gs → AllInPlace is
      → TypesTo (Ok (operand_of k.source (O.Pattern tick n is))) (pattern_by k tick p fs) gs
  values-make p times opening closing es n is hs form c h placed =
      let parts : Parts = record { times = n; items = map (λ o. record { key = InPlace; value = o }) (map (as_value k.source) is) } in
      let same : operand_of k.source (O.Pattern tick n is) ≡ pattern_operand k tick parts =
      operand-found k tick n is (found-in-place k is placed) ∙ ap (λ (xs : List Item). pattern_operand k tick (record { times = n; items = xs })) (all-in-place k is placed) in
      by-parts p (repeats times es) (Ok (operand_of k.source (O.Pattern tick n is))) (ap (λ (q : Pattern). pattern_meaning q k) form ∙ pattern-Replication k times opening closing es)
      (subst (λ (o : Operand). TypesTo (Ok o) (checked (repeats times es) made fs) gs) (sym same)
      (checked-fine (repeats times es) made fs gs gs parts (Ok (pattern_operand k tick parts))
      (checked-fine (beside (count_of k times) (values_by k es)) then_repeat fs gs gs (n, map (as_value k.source) is) (Ok parts) (beside-fine (count_of k times) (values_by k es) fs hs gs n (map (as_value k.source) is) c h) refl) refl))

  pub count-breaks : (p : Pattern) (times : Expr) (opening closing : ℕ) (es : List Expr) (hs : List Function) (at rule : ℕ) → p ≡ P.Replication times opening es closing
      → TypesTo {A = ℕ} (Err (H.Breaks at rule)) (count_of k times fs) hs → TypesTo {A = Operand} (Err (H.Breaks at rule)) (pattern_by k tick p fs) gs
  count-breaks p times opening closing es hs at rule form c =
      repeats-stop p times opening closing es (H.Breaks at rule) form
      (checked-stops (beside (count_of k times) (values_by k es)) then_repeat fs gs (H.Breaks at rule) (beside-breaks (count_of k times) (values_by k es) fs hs gs at rule c))

  pub values-stop : (p : Pattern) (times : Expr) (opening closing : ℕ) (es : List Expr) (n : ℕ) (h : Halt) (hs : List Function) → p ≡ P.Replication times opening es closing
      → TypesTo (Ok n) (count_of k times fs) hs → TypesTo {A = List Operand} (Err h) (values_by k es hs) gs → TypesTo {A = Operand} (Err h) (pattern_by k tick p fs) gs
  values-stop p times opening closing es n h hs form c t =
      repeats-stop p times opening closing es h form (checked-stops (beside (count_of k times) (values_by k es)) then_repeat fs gs h (beside-second (count_of k times) (values_by k es) fs hs gs n h c t))

  pub values-behind : (p : Pattern) (times : Expr) (opening closing : ℕ) (es : List Expr) (r : Result (List J.Item) Halt) (hs : List Function) → p ≡ P.Replication times opening es closing
      → TypesTo {A = ℕ} (Err H.Quiet) (count_of k times fs) hs → TypesTo (mapped (map (as_value k.source)) r) (values_by k es hs) gs → TypesTo {A = Operand} (Err (behind r)) (pattern_by k tick p fs) gs
  values-behind p times opening closing es (Ok is) hs form c t =
      repeats-stop p times opening closing es H.Quiet form
      (checked-stops (beside (count_of k times) (values_by k es)) then_repeat fs gs H.Quiet (beside-quiet (count_of k times) (values_by k es) fs hs gs (map (as_value k.source) is) c t))
  values-behind p times opening closing es (Err h) hs form c t =
      repeats-stop p times opening closing es h form (checked-stops (beside (count_of k times) (values_by k es)) then_repeat fs gs h (beside-behind-quiet (count_of k times) (values_by k es) fs hs gs h c t))

-- lists of items that are made one by one
found-append : (k : Context) (is : List J.Item) (i : J.Item) → AllFoundIn k is → IsFoundIn k i → AllFoundIn k (is ++ i ∷ [])
found-append k [] i n m = (m, tt)
found-append k (x ∷ is) i n m = (n.0, found-append k is i n.1 m)

pub found-more : (k : Context) (old new : List J.Item) (w v : Bool) (one : Result J.Item Halt) → Adds old w one (Ok v) new → AllFoundIn k old → IfOk one (IsFoundIn k) → AllFoundIn k new
found-more k old new w v (Ok i) d n m = subst (AllFoundIn k) (sym d.added) (found-append k old i n m)
found-more k old new w v (Err h) d n m = subst (AllFoundIn k) (sym d.same) n

placed-append : (is : List J.Item) (i : J.Item) → AllInPlace is → IsInPlace i → AllInPlace (is ++ i ∷ [])
placed-append [] i n m = (m, tt)
placed-append (x ∷ is) i n m = (n.0, placed-append is i n.1 m)

pub placed-more : (old new : List J.Item) (w v : Bool) (one : Result J.Item Halt) → Adds old w one (Ok v) new → AllInPlace old → IfOk one IsInPlace → AllInPlace new
placed-more old new w v (Ok i) d n m = subst AllInPlace (sym d.added) (placed-append old i n m)
placed-more old new w v (Err h) d n m = subst AllInPlace (sym d.same) n
