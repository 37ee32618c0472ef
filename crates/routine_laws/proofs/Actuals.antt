-- Actuals whose names find no signal stand on locals, where they are assigned.
use Rattle.std.proofs.Common.{◌≡◌, ℕ, Bool, true, List, [], ◌∷◌, map, Option, Some, None, ap, sym, ◌∙◌, subst}
use Rattle.std.specs.Prelude.{Ok}
use Rattle.std.specs.Option.{option_map}
use Rattle.sv_tree.specs.declared.expressions.Cast.{Cast, fold-Cast}
use Rattle.sv_tree.specs.declared.expressions.Dimension.{Dimension, fold-Dimension}
use Rattle.sv_tree.specs.declared.expressions.Expr.{Expr, Expr-F, roll-Expr, map-Expr, ind-Expr, fold-roll-Expr}
use Rattle.sv_tree.specs.declared.expressions.Pattern.{Pattern, fold-Pattern}
use Rattle.sv_tree.specs.declared.expressions.PatternItem.{PatternItem, fold-PatternItem}
use Rattle.sv_tree.specs.declared.expressions.Select.{Select, fold-Select}
use Rattle.sv_tree.specs.declared.expressions.SliceSize.{SliceSize, fold-SliceSize}
use Rattle.sv_tree.specs.declared.expressions.ValueRange.{ValueRange, fold-ValueRange}
use Rattle.expr_type.specs.declared.operand.Valued.{Valued}
use Rattle.expr_type.specs.Typings.{Typing, rule, checked, all}
use Rattle.expr_type.specs.Names.{Context, Source}
use Rattle.expr_type.specs.Operators.{concat_of, exprs}
use Rattle.expr_type.specs.Forms.{SelectMeaning}
use Rattle.expr_type.specs.Expressions as E
use Rattle.expr_type.specs.Expressions.{Meaning, CastMeaning, DimensionMeaning, PatternMeaning, ItemMeaning, SliceMeaning, RangeMeaning, meaning, select_meaning, dimension_meaning, slice_meaning, if_all, expr_step}
use Rattle.expr_type.specs.TargetNames.{is_packed_target, packed_target}
use Rattle.expr_type.specs.Shapes.{is_unpacked}
use Rattle.expr_type.specs.Names.{position}
use Rattle.typing_fits.proofs.Contexts.{refused-then}
use Rattle.typing_fits.proofs.Full.{and-left, and-right}
use Rattle.typing_walks.specs.Written as W
use Rattle.typing_walks.proofs.Walk.{cast_meaning, pattern_meaning, item_meaning, range_meaning}
use Rattle.routine_laws.specs.Names as N
use Rattle.routine_laws.specs.Names.{Signals, signals_of, finds_no_signal, actual_local}
use Rattle.routine_laws.proofs.Giving.{Gives, AllGive, Each, one-whole, rule-gives, checked-gives, all-gives}
use Rattle.routine_laws.proofs.Places.{LocalValued, concat-local, actual-local}

abbrev TargetIf : Option (Typing Valued) → Type 0
TargetIf None = Unit {0}
TargetIf (Some x) = Gives LocalValued x

abbrev TargetsIf : Option (List (Typing Valued)) → Type 0
TargetsIf None = Unit {0}
TargetsIf (Some xs) = AllGive LocalValued xs

packed-local : (k : Source) (v u : Valued) → is_packed_target k v ≡ Ok u → LocalValued v → LocalValued u
packed-local k v u h g = one-whole LocalValued v u (refused-then (is_unpacked v.expr.of) (position k v.first) 508 (Ok v) u h) g

each-packed : (k : Source) (xs : List (Typing Valued)) → AllGive LocalValued xs → AllGive LocalValued (map (packed_target k) xs)
each-packed k [] g = tt
each-packed k (x ∷ xs) g = (checked-gives LocalValued LocalValued x (λ v. rule (is_packed_target k v)) g.0 (λ v q. rule-gives LocalValued (is_packed_target k v) (λ u h. packed-local k v u h q)), each-packed k xs g.1)

more-targets : (x : Typing Valued) (o : Option (List (Typing Valued))) → Gives LocalValued x → TargetsIf o → TargetsIf (option_map (λ ys. x ∷ ys) o)
more-targets x None g r = tt
more-targets x (Some ys) g r = (g, r)

next-target : (o : Option (Typing Valued)) (os : List (Option (Typing Valued))) → TargetIf o → TargetsIf (if_all os) → TargetsIf (if_all (o ∷ os))
next-target None os g r = tt
next-target (Some x) os g r = more-targets x (if_all os) g r

joined-by : (k : Context) (opening : ℕ) (o : Option (List (Typing Valued))) → TargetsIf o → TargetIf (option_map (λ xs. checked (all (map (packed_target k.source) xs)) (λ vs. rule (concat_of k.source opening (exprs vs)))) o)
joined-by k opening None g = tt
joined-by k opening (Some xs) g =
    checked-gives (Each LocalValued) LocalValued (all (map (packed_target k.source) xs)) (λ vs. rule (concat_of k.source opening (exprs vs))) (all-gives LocalValued (map (packed_target k.source) xs) (each-packed k.source xs g))
    (λ vs q. rule-gives LocalValued (concat_of k.source opening (exprs vs)) (λ v h. concat-local k.source opening vs v h q))

module _ (s : Signals) where
  abbrev OfMeaning : Meaning → Type 0
  OfMeaning m = (k : Context) → signals_of k ≡ s → TargetIf (m.as_target k)

  abbrev AllMeanings : List Meaning → Type 0
  AllMeanings [] = Unit {0}
  AllMeanings (m ∷ ms) = OfMeaning m × AllMeanings ms

  all-targets : (k : Context) (ms : List Meaning) → signals_of k ≡ s → AllMeanings ms → TargetsIf (if_all (map (λ (e : Meaning). e.as_target k) ms))
  all-targets k [] r h = tt
  all-targets k (m ∷ ms) r h = next-target (m.as_target k) (map (λ (e : Meaning). e.as_target k) ms) (h.0 k r) (all-targets k ms r h.1)

  abbrev OfExpr : Expr → Type 0
  OfExpr x = actual_local s x ≡ true → OfMeaning (meaning x)

  abbrev AnExpr : Type 0
  AnExpr = (x : Expr) × OfExpr x

  abbrev Alone : Type 0 → Type 0
  Alone A = A × Unit {0}

  abbrev expr_in : Expr-F (Alone Cast) (Alone Dimension) AnExpr (Alone Pattern) (Alone PatternItem) (Alone Select) (Alone SliceSize) (Alone ValueRange) → Expr-F Cast Dimension Expr Pattern PatternItem Select SliceSize ValueRange
  expr_in = map-Expr (Alone Cast) (Alone Dimension) AnExpr (Alone Pattern) (Alone PatternItem) (Alone Select) (Alone SliceSize) (Alone ValueRange) Cast Dimension Expr Pattern PatternItem Select SliceSize ValueRange (λ e. e.0) (λ e. e.0) (λ e. e.0) (λ e. e.0) (λ e. e.0) (λ e. e.0) (λ e. e.0) (λ e. e.0)

  abbrev meant_expr : Expr-F Cast Dimension Expr Pattern PatternItem Select SliceSize ValueRange → Meaning
  meant_expr z = expr_step (map-Expr Cast Dimension Expr Pattern PatternItem Select SliceSize ValueRange CastMeaning DimensionMeaning Meaning PatternMeaning ItemMeaning SelectMeaning SliceMeaning RangeMeaning cast_meaning dimension_meaning meaning pattern_meaning item_meaning select_meaning slice_meaning range_meaning z)

  abbrev local_cast : Cast → Bool
  local_cast = fold-Cast Bool Bool Bool Bool Bool Bool Bool Bool N.cast_step N.dimension_step (N.expr_step s) N.pattern_step N.pattern_item_step N.select_step N.slice_step N.range_step

  abbrev local_dimension : Dimension → Bool
  local_dimension = fold-Dimension Bool Bool Bool Bool Bool Bool Bool Bool N.cast_step N.dimension_step (N.expr_step s) N.pattern_step N.pattern_item_step N.select_step N.slice_step N.range_step

  abbrev local_pattern : Pattern → Bool
  local_pattern = fold-Pattern Bool Bool Bool Bool Bool Bool Bool Bool N.cast_step N.dimension_step (N.expr_step s) N.pattern_step N.pattern_item_step N.select_step N.slice_step N.range_step

  abbrev local_item : PatternItem → Bool
  local_item = fold-PatternItem Bool Bool Bool Bool Bool Bool Bool Bool N.cast_step N.dimension_step (N.expr_step s) N.pattern_step N.pattern_item_step N.select_step N.slice_step N.range_step

  abbrev local_select : Select → Bool
  local_select = fold-Select Bool Bool Bool Bool Bool Bool Bool Bool N.cast_step N.dimension_step (N.expr_step s) N.pattern_step N.pattern_item_step N.select_step N.slice_step N.range_step

  abbrev local_slice : SliceSize → Bool
  local_slice = fold-SliceSize Bool Bool Bool Bool Bool Bool Bool Bool N.cast_step N.dimension_step (N.expr_step s) N.pattern_step N.pattern_item_step N.select_step N.slice_step N.range_step

  abbrev local_range : ValueRange → Bool
  local_range = fold-ValueRange Bool Bool Bool Bool Bool Bool Bool Bool N.cast_step N.dimension_step (N.expr_step s) N.pattern_step N.pattern_item_step N.select_step N.slice_step N.range_step

  abbrev local_expr : Expr-F Cast Dimension Expr Pattern PatternItem Select SliceSize ValueRange → Bool
  local_expr z = N.expr_step s (map-Expr Cast Dimension Expr Pattern PatternItem Select SliceSize ValueRange Bool Bool Bool Bool Bool Bool Bool Bool local_cast local_dimension (actual_local s) local_pattern local_item local_select local_slice local_range z)

  each-expr : (ys : List AnExpr) → W.all (map (actual_local s) (map (λ e. e.0) ys)) ≡ true → AllMeanings (map meaning (map (λ e. e.0) ys))
  each-expr [] w = tt
  each-expr (y ∷ ys) w =
      let rest = W.all (map (actual_local s) (map (λ (e : AnExpr). e.0) ys)) in
      (y.1 (and-left (actual_local s y.0) rest w), each-expr ys (and-right (actual_local s y.0) rest w))

  expr-case : (y : Expr-F (Alone Cast) (Alone Dimension) AnExpr (Alone Pattern) (Alone PatternItem) (Alone Select) (Alone SliceSize) (Alone ValueRange)) → local_expr (expr_in y) ≡ true → OfMeaning (meant_expr (expr_in y))
  expr-case (Expr-F.Concatenation opening items closing) w k r =
      joined-by k opening (if_all (map (λ (e : Meaning). e.as_target k) (map meaning (map (λ e. e.0) items)))) (all-targets k (map meaning (map (λ e. e.0) items)) r (each-expr items w))
  expr-case (Expr-F.«Expr::Name» of selects None) w k r = actual-local k of (map select_meaning (map (λ e. e.0) selects)) (ap (λ z. finds_no_signal z of) r ∙ w)
  expr-case (Expr-F.«Expr::Name» of selects (Some cast)) w k r = tt
  expr-case (Expr-F.Type of packed None) w k r = tt
  expr-case (Expr-F.Type of packed (Some cast)) w k r = tt
  expr-case (Expr-F.Conditional test question first colon second) w k r = tt
  expr-case (Expr-F.Binary left operator at right) w k r = tt
  expr-case (Expr-F.Inside sought keyword opening ranges closing) w k r = tt
  expr-case (Expr-F.Unary operator at operand) w k r = tt
  expr-case (Expr-F.«Expr::Decimal» digits) w k r = tt
  expr-case (Expr-F.Sized size digits) w k r = tt
  expr-case (Expr-F.SizeCast size cast) w k r = tt
  expr-case (Expr-F.Based digits) w k r = tt
  expr-case (Expr-F.Fill digit) w k r = tt
  expr-case (Expr-F.«Expr::Parenthesized» opening inner closing None) w k r = tt
  expr-case (Expr-F.«Expr::Parenthesized» opening inner closing (Some cast)) w k r = tt
  expr-case (Expr-F.«Expr::Replication» opening times inner_opening items inner_closing closing) w k r = tt
  expr-case (Expr-F.Stream opening operator at size inner_opening items inner_closing closing) w k r = tt
  expr-case (Expr-F.«Expr::Pattern» tick opening pattern closing) w k r = tt
  expr-case (Expr-F.SigningCast signing cast) w k r = tt
  expr-case (Expr-F.SystemCall name opening argument closing) w k r = tt
  expr-case (Expr-F.Call of opening arguments closing None) w k r = tt
  expr-case (Expr-F.Call of opening arguments closing (Some cast)) w k r = tt

  expr-level : (y : Expr-F (Alone Cast) (Alone Dimension) AnExpr (Alone Pattern) (Alone PatternItem) (Alone Select) (Alone SliceSize) (Alone ValueRange)) → OfExpr (roll-Expr (expr_in y))
  expr-level y w =
      subst OfMeaning (sym (fold-roll-Expr CastMeaning DimensionMeaning Meaning PatternMeaning ItemMeaning SelectMeaning SliceMeaning RangeMeaning E.cast_step E.dimension_step E.expr_step E.pattern_step E.pattern_item_step E.select_step E.slice_size_step E.value_range_step (expr_in y)))
      (expr-case y (sym (fold-roll-Expr Bool Bool Bool Bool Bool Bool Bool Bool N.cast_step N.dimension_step (N.expr_step s) N.pattern_step N.pattern_item_step N.select_step N.slice_step N.range_step (expr_in y)) ∙ w))

  abbrev AnyOf : {A : Type 0} → A → Type 0
  AnyOf a = Unit {0}

  expr-local : (e : Expr) → OfExpr e
  expr-local =
      ind-Expr AnyOf AnyOf OfExpr AnyOf AnyOf AnyOf AnyOf AnyOf (λ x y is. tt) (λ x y is. tt) (λ x y is. subst (λ z. OfExpr (roll-Expr z)) is (expr-level y)) (λ x y is. tt) (λ x y is. tt) (λ x y is. tt) (λ x y is. tt) (λ x y is. tt)

-- an actual by its meaning
pub record LocalActual (s : Signals) (m : Meaning) : Type 0 where
  pub target : (k : Context) (x : Typing Valued) → signals_of k ≡ s → m.as_target k ≡ Some x → Gives LocalValued x

target-there : (o : Option (Typing Valued)) (x : Typing Valued) → TargetIf o → o ≡ Some x → Gives LocalValued x
target-there None x g h = absurd (cc)
target-there (Some y) x g h = let is : y ≡ x = cc in subst (λ z. Gives LocalValued z) is g

abbrev pub AllLocalActuals : Signals → List Meaning → Type 0
AllLocalActuals s [] = Unit {0}
AllLocalActuals s (m ∷ ms) = LocalActual s m × AllLocalActuals s ms

pub actuals-local : (s : Signals) (es : List Expr) → W.all (map (actual_local s) es) ≡ true → AllLocalActuals s (map meaning es)
actuals-local s [] w = tt
actuals-local s (e ∷ es) w =
    let rest = W.all (map (actual_local s) es) in
    (record { target = λ k x r h. target-there ((meaning e).as_target k) x (expr-local s e (and-left (actual_local s e) rest w) k r) h }, actuals-local s es (and-right (actual_local s e) rest w))
