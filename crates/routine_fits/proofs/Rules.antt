-- The rules on statements.
use Rattle.std.proofs.Common.{◌≡◌, ℕ, ◌≤◌, max, Bool, true, false, ◌&&◌, ◌||◌, ◌==◌, cond, not, List, [], ◌∷◌, ◌++◌, length, map, flat_map, Option, Some, None, refl, arith, ap, sym, ◌∙◌, subst, append_assoc}
use Rattle.std.specs.Prelude.{Ok, Err}
use Rattle.sv_types.specs.declared.expression.Expr.{Expr}
use Rattle.sv_types.specs.declared.expression.Form.TheVariants as F
use Rattle.sv_types.specs.declared.statement.CaseKind.{CaseKind}
use Rattle.sv_types.specs.declared.statement.Formal.{Formal}
use Rattle.sv_types.specs.declared.statement.Function.{Function}
use Rattle.sv_types.specs.declared.statement.Local.{Local}
use Rattle.sv_types.specs.declared.statement.Stmt as R
use Rattle.sv_types.specs.declared.statement.Stmt.TheVariants as V
use Rattle.sv_types.specs.declared.types.SvType.{SvType}
use Rattle.sv_types.specs.Layouts.{width_of}
use Rattle.sv_types.specs.Meanings.{Meaning, most}
use Rattle.sv_types.specs.Runs.{widest_of}
use Rattle.sv_types.specs.Expressions.{meaning}
use Rattle.eval_parts.proofs.TypeKinds.{wide-is}
use Rattle.run_fits.specs.EvalStmts.{values_of}
use Rattle.expr_type.specs.declared.operand.Valued.{Valued}
use Rattle.expr_type.specs.Typings.{Checked, refused, unless, at_all, where_whole, joined, all_of}
use Rattle.expr_type.specs.Names.{Called, Context, position, spot}
use Rattle.expr_type.specs.Operands.{Operand, too_wide, width, given}
use Rattle.expr_type.specs.Operators.{exprs, by_itself}
use Rattle.expr_type.specs.Shapes.{is_assignable, is_plain_to_enum}
use Rattle.expr_type.specs.Statements.{BlockPart, IsStatement, IsDeclared, in_block, Block, built, result, return_value, CaseFound, CaseItem, whole_item, case_items, default_body, item_at, selector_at, values_at, wide_in, widest, case_stmt, Actual, is_other_enum, takes_result, is_inout, value_passed, actual_expr, all_actuals, call_stmt_of}
use Rattle.typing_fits.specs.Types.{is_full}
use Rattle.typing_fits.specs.Sound.{IsNarrowType, LimitedAt, Sound, AllSound, SoundFor}
use Rattle.typing_fits.specs.Operands.{SoundFixed, SoundOperand, AllSoundFor, AllFormalsFull, KnownCall}
use Rattle.typing_fits.proofs.Contexts.{refused-then, none-there, unless-is, unless-none, none-left, none-right, whole-part, joined-both}
use Rattle.typing_fits.proofs.Limits.{at-width}
use Rattle.typing_fits.proofs.Selects.{local-sound}
use Rattle.typing_fits.proofs.Calls.{all-front, none-all, formal_types}
use Rattle.typing_fits.proofs.Given.{given-sound, passed-sound, sound-for}
use Rattle.routine_fits.specs.Sound.{SoundStmt, AllSoundStmts, PerhapsSound, AllSoundLocals, AllLimitedAt, ItemsLimitedAt, AllSoundBodies}
use Rattle.routine_fits.specs.Targets.{ValueSound, TargetSound, AllSoundActuals, AllSoundFound}
use Rattle.routine_fits.proofs.Statements as S
use Rattle.routine_fits.proofs.Targets.{to-one}

abbrev stmt_ok : R.Stmt → Checked R.Stmt
stmt_ok s = Ok s

stmt-is : (a s : R.Stmt) (gs : List Function) → stmt_ok a ≡ Ok s → SoundStmt a gs → SoundStmt s gs
stmt-is a s gs h x = let is : a ≡ s = cc in subst (λ z. SoundStmt z gs) is x

-- blocks
abbrev PartSound : BlockPart → List Function → Type 0
PartSound (IsStatement s) gs = SoundStmt s gs
PartSound (IsDeclared d) gs = AllSoundLocals d.locals gs

abbrev pub AllPartsSound : List BlockPart → List Function → Type 0
AllPartsSound [] gs = Unit {0}
AllPartsSound (p ∷ ps) gs = PartSound p gs × AllPartsSound ps gs

more-locals : (ls ms : List Local) (gs : List Function) → AllSoundLocals ls gs → AllSoundLocals ms gs → AllSoundLocals (ls ++ ms) gs
more-locals [] ms gs s t = t
more-locals (l ∷ ls) ms gs s t = (s.0, more-locals ls ms gs s.1 t)

record BuiltSound (b : Block) (gs : List Function) : Type 0 where
  pub locals : AllSoundLocals b.locals gs
  pub body : AllSoundStmts b.body gs

inner : (ls : List Local) (ss : List R.Stmt) (gs : List Function) → AllSoundLocals ls gs → AllSoundStmts ss gs → AllSoundStmts (in_block ls ss) gs
inner [] ss gs l s = s
inner (x ∷ ls) ss gs l s = (S.block-sound (x ∷ ls) ss gs l s, tt)

built-sound : (ps : List BlockPart) (gs : List Function) → AllPartsSound ps gs → BuiltSound (built ps) gs
built-sound [] gs s = record { locals = tt; body = tt }
built-sound (IsStatement x ∷ ps) gs s =
    let r = built-sound ps gs s.1 in
    record { locals = tt; body = (s.0, inner (built ps).locals (built ps).body gs r.locals r.body) }
built-sound (IsDeclared d ∷ ps) gs s =
    let r = built-sound ps gs s.1 in
    record { locals = more-locals d.locals (built ps).locals gs s.0 r.locals; body = r.body }

pub block-sound : (ps : List BlockPart) (gs : List Function) → AllPartsSound ps gs → SoundStmt (V.Block (built ps).locals (built ps).body) gs
block-sound ps gs s = let r = built-sound ps gs s in S.block-sound (built ps).locals (built ps).body gs r.locals r.body

-- a `return` with its value
pub return-sound : (k : Context) (at : ℕ) (t : SvType) (o : Operand) (s : R.Stmt) (gs : List Function) → return_value k at (Some t) o ≡ Ok s → IsNarrowType t → SoundOperand o gs → SoundStmt s gs
return-sound k at t o s gs h narrow x =
    let a = whole-part (given k.source t o) (λ e. Ok (V.Block [] (V.Assign (result k at t ∷ []) e false (spot k.source at) ∷ V.Return ∷ []))) s h in
    let v = by_itself k.source at t (F.Local 0) in
    let r = given-sound k.source t o a.part gs a.is narrow.full x in
    let one = to-one v a.part gs (record { none = refl; sound = local-sound k.source at t 0 gs narrow }) r.of r.limits in
    stmt-is (V.Block [] (V.Assign (result k at t ∷ []) a.part false (spot k.source at) ∷ V.Return ∷ [])) s gs a.made
    (S.block-sound [] (V.Assign (result k at t ∷ []) a.part false (spot k.source at) ∷ V.Return ∷ []) gs tt
    (S.assign-sound (result k at t ∷ []) a.part false (spot k.source at) gs one, (S.return-sound gs, tt)))

-- `case`
all-wide : (vs : List Valued) (w : ℕ) (gs : List Function) → AllSound vs gs → flat_map (λ (u : Valued). too_wide w u.arithmetic) vs ≡ [] → AllLimitedAt (exprs vs) w gs
all-wide [] w gs s h = tt
all-wide (v ∷ vs) w gs s h =
    let rest = flat_map (λ (u : Valued). too_wide w u.arithmetic) vs in
    (at-width (meaning v.expr) v.arithmetic gs w s.0.limits (none-left (too_wide w v.arithmetic) rest h), all-wide vs w gs s.1 (none-right (too_wide w v.arithmetic) rest h))

-- the values of all items
abbrev item_values : List CaseItem → List Valued
item_values cs = flat_map (λ (c : CaseItem). c.values) cs

flat-append : (w : ℕ) (us vs : List Valued) → flat_map (λ (u : Valued). too_wide w u.arithmetic) (us ++ vs) ≡ flat_map (λ (u : Valued). too_wide w u.arithmetic) us ++ flat_map (λ (u : Valued). too_wide w u.arithmetic) vs
flat-append w [] vs = refl
flat-append w (u ∷ us) vs =
    ap (λ xs. too_wide w u.arithmetic ++ xs) (flat-append w us vs)
    ∙ sym (append_assoc (too_wide w u.arithmetic) (flat_map (λ (x : Valued). too_wide w x.arithmetic) us) (flat_map (λ (x : Valued). too_wide w x.arithmetic) vs))

-- an item that isn't `default` has its values, and `default` has none
abbrev DefaultsEmpty : List CaseItem → Type 0
DefaultsEmpty [] = Unit {0}
DefaultsEmpty (c ∷ cs) = (c.is_default ≡ true → c.values ≡ []) × DefaultsEmpty cs

widest-of : (vs : List Valued) (ms : List Meaning) → widest_of (map meaning (exprs vs) ++ ms) ≡ max (most (map width vs)) (widest_of ms)
widest-of [] ms = omega arith
widest-of (v ∷ vs) ms = let a = wide-is v.expr in let b = widest-of vs ms in omega arith

most-append : (us vs : List Valued) → most (map width (us ++ vs)) ≡ max (most (map width us)) (most (map width vs))
most-append [] vs = omega arith
most-append (u ∷ us) vs = let a = most-append us vs in omega arith

-- the items without `default`: their values at a width, and their bodies
abbrev BodiesSound : List CaseItem → List Function → Type 0
BodiesSound [] gs = Unit {0}
BodiesSound (c ∷ cs) gs = SoundStmt c.body gs × BodiesSound cs gs

case-widest : (cs : List CaseItem) → DefaultsEmpty cs → widest_of (values_of (case_items cs)) ≡ most (map width (item_values cs))
case-widest [] d = refl
case-widest (c ∷ cs) d = by c.is_default d.0 (case-widest cs d.1)
  where
    by : (b : Bool) → (b ≡ true → c.values ≡ []) → widest_of (values_of (case_items cs)) ≡ most (map width (item_values cs))
        → widest_of (values_of (cond b [] (record { values = exprs c.values; body = c.body } ∷ []) ++ case_items cs)) ≡ most (map width (c.values ++ item_values cs))
    by true none rest = rest ∙ ap (λ vs. most (map width (vs ++ item_values cs))) (sym (none refl))
    by false none rest = widest-of c.values (values_of (case_items cs)) ∙ ap (λ n. max (most (map width c.values)) n) rest ∙ sym (most-append c.values (item_values cs))

case-values : (cs : List CaseItem) (w : ℕ) (gs : List Function) → AllSound (item_values cs) gs → flat_map (λ (u : Valued). too_wide w u.arithmetic) (item_values cs) ≡ [] → ItemsLimitedAt (case_items cs) w gs
case-values [] w gs s h = tt
case-values (c ∷ cs) w gs s h =
    let here = flat_map (λ (u : Valued). too_wide w u.arithmetic) c.values in
    let rest = flat_map (λ (u : Valued). too_wide w u.arithmetic) (item_values cs) in
    let e = sym (flat-append w c.values (item_values cs)) ∙ h in
    by c.is_default (all-wide c.values w gs (left c.values (item_values cs) s) (none-left here rest e)) (case-values cs w gs (right c.values (item_values cs) s) (none-right here rest e))
  where
    left : (us vs : List Valued) → AllSound (us ++ vs) gs → AllSound us gs
    left [] vs x = tt
    left (u ∷ us) vs x = (x.0, left us vs x.1)

    right : (us vs : List Valued) → AllSound (us ++ vs) gs → AllSound vs gs
    right [] vs x = x
    right (u ∷ us) vs x = right us vs x.1

    by : (b : Bool) → AllLimitedAt (exprs c.values) w gs → ItemsLimitedAt (case_items cs) w gs → ItemsLimitedAt (cond b [] (record { values = exprs c.values; body = c.body } ∷ []) ++ case_items cs) w gs
    by true x r = r
    by false x r = (x, r)

case-bodies : (cs : List CaseItem) (gs : List Function) → BodiesSound cs gs → AllSoundBodies (case_items cs) gs
case-bodies [] gs s = tt
case-bodies (c ∷ cs) gs s = by c.is_default s.0 (case-bodies cs gs s.1)
  where
    by : (b : Bool) → SoundStmt c.body gs → AllSoundBodies (case_items cs) gs → AllSoundBodies (cond b [] (record { values = exprs c.values; body = c.body } ∷ []) ++ case_items cs) gs
    by true x r = r
    by false x r = (x, r)

default-sound : (cs : List CaseItem) (gs : List Function) → BodiesSound cs gs → PerhapsSound (default_body cs) gs
default-sound [] gs s = tt
default-sound (c ∷ cs) gs s = by c.is_default s.0 (default-sound cs gs s.1)
  where
    by : (b : Bool) → SoundStmt c.body gs → PerhapsSound (default_body cs) gs → PerhapsSound (cond b (Some c.body) (default_body cs)) gs
    by true x r = x
    by false x r = r

-- items that are whole
pub record Items (cs : List CaseFound) (items : List CaseItem) (gs : List Function) : Type 0 where
  pub values : all_of (map (λ (c : CaseFound). c.values) cs) ≡ Ok (map (λ (c : CaseItem). c.values) items)
  pub sound : AllSound (item_values items) gs
  pub bodies : BodiesSound items gs
  pub defaults : DefaultsEmpty items

append-sound : (us vs : List Valued) (gs : List Function) → AllSound us gs → AllSound vs gs → AllSound (us ++ vs) gs
append-sound [] vs gs s t = t
append-sound (u ∷ us) vs gs s t = (s.0, append-sound us vs gs s.1 t)

abbrev item_ok : CaseItem → Checked CaseItem
item_ok i = Ok i

abbrev values_ok : List Valued → Checked (List Valued)
values_ok vs = Ok vs

record IsItem (c : CaseFound) (i : CaseItem) : Type 0 where
  pub default : c.is_default ≡ i.is_default
  pub values : c.values ≡ Ok i.values
  pub body : c.body ≡ Ok i.body

item-of : (c : CaseFound) (i : CaseItem) → whole_item c ≡ Ok i → IsItem c i
item-of c i h =
    let p = whole-part (joined c.values c.body) (λ p. Ok (record { is_default = c.is_default; values = p.0; body = p.1 })) i h in
    let b = joined-both c.values c.body p.part p.is in
    let made : item_ok (record { is_default = c.is_default; values = p.part.0; body = p.part.1 }) ≡ Ok i = p.made in
    let is : record { is_default = c.is_default; values = p.part.0; body = p.part.1 } ≡ i = cc in
    record {
      default = ap (λ (x : CaseItem). x.is_default) is;
      values = b.left ∙ ap (λ (x : CaseItem). values_ok x.values) is;
      body = b.right ∙ ap (λ (x : CaseItem). stmt_ok x.body) is;
    }

all-values : (x : Checked (List Valued)) (xs : List (Checked (List Valued))) (v : List Valued) (vs : List (List Valued)) → x ≡ Ok v → all_of xs ≡ Ok vs → all_of (x ∷ xs) ≡ Ok (v ∷ vs)
all-values x xs v vs h g = ap (λ y. where_whole (joined y (all_of xs)) (λ p. Ok (p.0 ∷ p.1))) h ∙ ap (λ y. where_whole (joined (values_ok v) y) (λ p. Ok (p.0 ∷ p.1))) g

no-values : (c : CaseFound) (i : CaseItem) → c.values ≡ Ok i.values → c.values ≡ Ok [] → i.values ≡ []
no-values c i h g = let e : values_ok i.values ≡ values_ok [] = sym h ∙ g in cc

no-items : (items : List CaseItem) (gs : List Function) → items ≡ [] → Items [] items gs
no-items items gs is = subst (λ xs. Items [] xs gs) (sym is) (record { values = refl; sound = tt; bodies = tt; defaults = tt })

pub items-of : (cs : List CaseFound) (items : List CaseItem) (gs : List Function) → all_of (map whole_item cs) ≡ Ok items → AllSoundFound cs gs → Items cs items gs
items-of [] items gs h s = no-items items gs (none-all items h)
items-of (c ∷ cs) items gs h s =
    let r = all-front (whole_item c) (map whole_item cs) items h in
    let x = item-of c r.first r.here in
    let rest = items-of cs r.rest gs r.behind s.1 in
    subst (λ xs. Items (c ∷ cs) xs gs) (sym r.is) (record {
      values = all-values c.values (map (λ (d : CaseFound). d.values) cs) r.first.values (map (λ (i : CaseItem). i.values) r.rest) x.values rest.values;
      sound = append-sound r.first.values (item_values r.rest) gs (s.0.values r.first.values x.values) rest.sound;
      bodies = (s.0.body r.first.body x.body, rest.bodies);
      defaults = (λ is. no-values c r.first x.values (s.0.default (x.default ∙ is)), rest.defaults);
    })

flat-values : (items : List CaseItem) → flat_map (λ (vs : List Valued). vs) (map (λ (c : CaseItem). c.values) items) ≡ item_values items
flat-values [] = refl
flat-values (c ∷ cs) = ap (λ vs. c.values ++ vs) (flat-values cs)

abbrev both_of : Valued → List (List Valued) → Checked (Valued × List (List Valued))
both_of v vss = Ok (v, vss)

-- the selector and items at a width: none of their operators is too wide
record AtWidth {A : Type 0} (x : Checked A) (a : A) (ats : List ℕ) : Type 0 where
  pub whole : x ≡ Ok a
  pub none : ats ≡ []

selector-whole : (k : Context) (w : ℕ) (on : Checked Valued) (v : Valued) → selector_at k w on ≡ Ok v → AtWidth on v (too_wide w v.arithmetic)
selector-whole k w (Ok u) v h =
    let o = at_all k.source.instance 502 (too_wide w u.arithmetic) in
    let same = unless-is o u v h in
    let none = none-there k.source.instance 502 (too_wide w u.arithmetic) (unless-none o u v h) in
    record { whole = ap (λ (x : Valued). valued_ok x) same; none = subst (λ (x : Valued). too_wide w x.arithmetic ≡ []) same none }
  where
    valued_ok : Valued → Checked Valued
    valued_ok x = Ok x
selector-whole k w (Err b) v h = absurd (cc)

values-whole : (k : Context) (w : ℕ) (x : Checked (List Valued)) (vs : List Valued) → values_at k w x ≡ Ok vs → AtWidth x vs (wide_in w vs)
values-whole k w (Ok us) vs h =
    let o = at_all k.source.instance 502 (wide_in w us) in
    let same = unless-is o us vs h in
    let none = none-there k.source.instance 502 (wide_in w us) (unless-none o us vs h) in
    record { whole = ap values_ok same; none = subst (λ (x : List Valued). wide_in w x ≡ []) same none }
values-whole k w (Err b) vs h = absurd (cc)

no-values-at : (k : Context) (w : ℕ) (x : Checked (List Valued)) → x ≡ Ok [] → values_at k w x ≡ Ok []
no-values-at k w x h = ap (values_at k w) h

at-sound : (k : Context) (w : ℕ) (cs : List CaseFound) (gs : List Function) → AllSoundFound cs gs → AllSoundFound (map (item_at k w) cs) gs
at-sound k w [] gs s = tt
at-sound k w (c ∷ cs) gs s = (
  record {
    default = λ is. no-values-at k w c.values (s.0.default is);
    values = λ vs e. s.0.values vs (values-whole k w c.values vs e).whole;
    body = s.0.body;
  },
  at-sound k w cs gs s.1,
)

-- the values of items that are whole at a width
record AllAtWidth (w : ℕ) (cs : List CaseFound) (items : List CaseItem) : Type 0 where
  pub values : all_of (map (λ (c : CaseFound). c.values) cs) ≡ Ok (map (λ (c : CaseItem). c.values) items)
  pub none : wide_in w (item_values items) ≡ []

none-append : (w : ℕ) (us vs : List Valued) → wide_in w us ≡ [] → wide_in w vs ≡ [] → wide_in w (us ++ vs) ≡ []
none-append w us vs e f = flat-append w us vs ∙ ap (λ (ats : List ℕ). ats ++ wide_in w vs) e ∙ f

all-at-width : (k : Context) (w : ℕ) (cs : List CaseFound) (items : List CaseItem) → all_of (map whole_item (map (item_at k w) cs)) ≡ Ok items → AllAtWidth w cs items
all-at-width k w [] items h = subst (λ xs. AllAtWidth w [] xs) (sym (none-all items h)) (record { values = refl; none = refl })
all-at-width k w (c ∷ cs) items h =
    let r = all-front (whole_item (item_at k w c)) (map whole_item (map (item_at k w) cs)) items h in
    let x = item-of (item_at k w c) r.first r.here in
    let v = values-whole k w c.values r.first.values x.values in
    let rest = all-at-width k w cs r.rest r.behind in
    subst (λ xs. AllAtWidth w (c ∷ cs) xs) (sym r.is) (record {
      values = all-values c.values (map (λ (d : CaseFound). d.values) cs) r.first.values (map (λ (i : CaseItem). i.values) r.rest) v.whole rest.values;
      none = none-append w r.first.values (item_values r.rest) v.none rest.none;
    })

pub case-sound : (k : Context) (kind : CaseKind) (on : Checked Valued) (cs : List CaseFound) (s : R.Stmt) (gs : List Function) → case_stmt k kind on cs ≡ Ok s → ((v : Valued) → on ≡ Ok v → Sound v gs) → AllSoundFound cs gs → SoundStmt s gs
case-sound k kind on cs s gs h x y =
    let values = joined on (all_of (map (λ (c : CaseFound). c.values) cs)) in
    let w = widest values in
    let found = map (item_at k w) cs in
    let a = whole-part (joined (selector_at k w on) (all_of (map whole_item found))) (λ p. Ok (V.Case kind p.0.expr (case_items p.1) (default_body p.1))) s h in
    let c = joined-both (selector_at k w on) (all_of (map whole_item found)) a.part a.is in
    let v = a.part.0 in
    let items = a.part.1 in
    let at = selector-whole k w on v c.left in
    let r = items-of found items gs c.right (at-sound k w cs gs y) in
    let there = all-at-width k w cs items c.right in
    let known : values ≡ both_of v (map (λ (i : CaseItem). i.values) items) =
    ap (λ z. joined z (all_of (map (λ (d : CaseFound). d.values) cs))) at.whole ∙ ap (λ z. joined {A = Valued} (Ok v) z) there.values in
    let most_of : w ≡ most (map width (v ∷ item_values items)) = ap widest known ∙ ap (λ vs. most (map width (v ∷ vs))) (flat-values items) in
    let same : w ≡ widest_of (meaning v.expr ∷ values_of (case_items items)) =
    let e = wide-is v.expr in let f = case-widest items r.defaults in omega arith in
    let sound = x v at.whole in
    stmt-is (V.Case kind v.expr (case_items items) (default_body items)) s gs a.made
    (S.select-sound kind v.expr (case_items items) (default_body items) gs
    (record {
      of = sound.of;
      selector = subst (λ n. LimitedAt (meaning v.expr) n gs) same (at-width (meaning v.expr) v.arithmetic gs w sound.limits at.none);
      values = subst (λ n. ItemsLimitedAt (case_items items) n gs) same (case-values items w gs r.sound there.none);
    })
    (case-bodies items gs r.bodies) (default-sound items gs r.bodies))

-- calls of tasks and void functions
abbrev expr_ok : Expr → Checked Expr
expr_ok e = Ok e

for-is : (a e : Expr) (t : SvType) (gs : List Function) → expr_ok a ≡ Ok e → SoundFor a t gs → SoundFor e t gs
for-is a e t gs h s = let is : a ≡ e = cc in subst (λ x. SoundFor x t gs) is s

fixed-for : (v : Valued) (t : SvType) (gs : List Function) → SoundFixed v gs → SoundFor v.expr t gs
fixed-for v t gs s = sound-for v t gs s.sound (ap (λ xs. too_wide (max (width_of t) (width v)) xs) s.none)

value-for : (k : Context) (t : SvType) (o : Option Operand) (e : Expr) (gs : List Function) → value_passed k t o ≡ Ok e → is_full t ≡ true → ValueSound o gs → SoundFor e t gs
value-for k t None e gs h full s = absurd (cc)
value-for k t (Some o) e gs h full s = passed-sound k.source t o e gs h full s

result-for : (k : Context) (back : Bool) (t : SvType) (v : Valued) (e : Expr) (gs : List Function) → takes_result k back t v ≡ Ok e → SoundFixed v gs → SoundFor e t gs
result-for k back t v e gs h s =
    let second = is_other_enum t v.expr || (back && is_plain_to_enum t v.expr.of) in
    let rest = refused-then (not (is_assignable v.expr.of t) || (back && not (is_assignable t v.expr.of))) (position k.source v.first) 501 (refused second (position k.source v.first) 503 (Ok v.expr)) e h in
    for-is v.expr e t gs (refused-then second (position k.source v.first) 503 (Ok v.expr) e rest) (fixed-for v t gs s)

actual-by : (k : Context) (f : Formal) (value : Option Operand) (target : Option Valued) (e : Expr) (gs : List Function)
    → elim target as (λ x. Checked Expr) [ None ↦ value_passed k f.local.of value | Some v ↦ takes_result k (is_inout f.way) f.local.of v ] ≡ Ok e → is_full f.local.of ≡ true → ValueSound value gs → TargetSound target gs → SoundFor e f.local.of gs
actual-by k f value None e gs h full s t = value-for k f.local.of value e gs h full s
actual-by k f value (Some v) e gs h full s t = result-for k (is_inout f.way) f.local.of v e gs h t

all-for : (k : Context) (fs : List Formal) (as' : List Actual) (es : List Expr) (gs : List Function) → all_of (all_actuals k fs as') ≡ Ok es → AllFormalsFull fs → AllSoundActuals as' gs
    → AllSoundFor es (formal_types fs) gs × (length es ≤ length fs)
all-for k [] as' es gs h full s = subst (λ xs. AllSoundFor xs [] gs × (length xs ≤ 0)) (sym (none-all es h)) (tt, omega arith)
all-for k (f ∷ fs) [] es gs h full s = subst (λ xs. AllSoundFor xs (formal_types (f ∷ fs)) gs × (length xs ≤ length (f ∷ fs))) (sym (none-all es h)) (tt, omega arith)
all-for k (f ∷ fs) (a ∷ as') es gs h full s =
    let r = all-front (actual_expr k f a) (all_actuals k fs as') es h in
    let x = actual-by k f a.value a.target r.first gs r.here full.0 s.0.value s.0.target in
    let rest = all-for k fs as' r.rest gs r.behind full.1 s.1 in
    let few = rest.1 in
    subst (λ xs. AllSoundFor xs (formal_types (f ∷ fs)) gs × (length xs ≤ length (f ∷ fs))) (sym r.is) ((x, rest.0), omega arith)

pub call-sound : (k : Context) (at : ℕ) (c : Called) (as' : List Actual) (s : R.Stmt) (gs : List Function) → call_stmt_of k at c as' ≡ Ok s → KnownCall c gs → AllSoundActuals as' gs → SoundStmt s gs
call-sound k at c as' s gs h known x =
    let parts = all_of (all_actuals k c.of.formals as') in
    let inner_ = where_whole parts (λ es. Ok (V.Call c.place es (spot k.source at))) in
    let a = whole-part parts (λ es. Ok (V.Call c.place es (spot k.source at))) s (refused-then (not (length c.of.formals == length as')) (position k.source at) 405 inner_ s h) in
    let r = all-for k c.of.formals as' a.part gs a.is known.formals x in
    stmt-is (V.Call c.place a.part (spot k.source at)) s gs a.made (S.call-sound c a.part (spot k.source at) gs known.known r.1 r.0)
