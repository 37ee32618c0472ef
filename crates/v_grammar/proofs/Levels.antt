-- What each form needs to be of the grammar, where nesting is some number.
use Rattle.std.proofs.Common.{◌≡◌, ◌≤◌, ◌-◌, ℕ, suc, max, Bool, true, false, ◌&&◌, nat_le, List, [], ◌∷◌, length, map, Option, Some, None, refl, sym, ap, subst, ◌∙◌, arith}
use Rattle.std.proofs.lemmas.Bool.Decides.{nat_tests}
use Rattle.std.proofs.lemmas.List.{length-map}
use Rattle.b4_core.specs.declared.bit.Bit4.{Bit4}
use Rattle.ll_engine.specs.declared.table.Part.TheVariants.{Maybe}
use Rattle.ll_engine.specs.Grammar.{IsBegun}
use Rattle.v_tree.specs.declared.expressions.VExpr.{VExpr}
use Rattle.v_tree.specs.declared.expressions.VExpr.TheVariants as E
use Rattle.v_tree.specs.declared.expressions.VExtent.{VExtent}
use Rattle.v_tree.specs.declared.expressions.VPrim.{VPrim}
use Rattle.v_tree.specs.declared.expressions.VPrim.TheVariants as O
use Rattle.v_tree.specs.declared.expressions.VSel.{VSel}
use Rattle.v_tree.specs.declared.expressions.VSel.TheVariants as S
use Rattle.v_tree.specs.declared.operators.VBinaryOp.{VBinaryOp}
use Rattle.v_tree.specs.declared.operators.VUnaryOp.{VUnaryOp}
use Rattle.v_tree.specs.declared.statements.VBranch.{VBranch}
use Rattle.v_tree.specs.declared.statements.VBranch.TheVariants as G
use Rattle.v_tree.specs.declared.statements.VCaseItem.{VCaseItem}
use Rattle.v_tree.specs.declared.statements.VCaseItem.TheVariants as C
use Rattle.v_tree.specs.declared.statements.VCaseKind.{VCaseKind}
use Rattle.v_tree.specs.declared.statements.VLabel.{VLabel}
use Rattle.v_tree.specs.declared.statements.VLval.{VLval}
use Rattle.v_tree.specs.declared.statements.VLval.TheVariants as L
use Rattle.v_tree.specs.declared.statements.VStmt.{VStmt}
use Rattle.v_tree.specs.declared.statements.VStmt.TheVariants as T
use Rattle.v_tree.specs.Grammatical.{all_fit, deepest, Form, all_of_form, deepest_form, has_some, one_default, fit, fit_of_sel, fit_of_lval, form_of_stmt, form_of_branch, is_number, is_decimal, is_perhaps, is_extent, is_label, is_expr, is_lval, is_stmt, is_branch}
use Rattle.v_tree.specs.Heads as head
use Rattle.v_tree.specs.Reading.{nesting_limit}
use Rattle.v_tree.specs.Table.{table}
use Rattle.v_tree.specs.Tokens.{is_name}
use Rattle.v_tree.proofs.Fits as F
use Rattle.v_tree.proofs.Fits.{fit_of_prim, form_of_case}
use Rattle.v_grammar.proofs.Lists.{both, three, at-most-both, more-at, FormsAt}
use Rattle.v_grammar.proofs.Meant.{FitsAt, AllAt, PrimAt, NoElse, FormAt, CaseAt, CasesAt, SelsAt, ArgsAt, ArmsAt}

nothing : (e : ℕ) → 0 ≤ nesting_limit - e
nothing e = omega arith

-- one level further out
deeper : (n d : ℕ) → suc d ≤ nesting_limit → n ≤ nesting_limit - suc d → suc n ≤ nesting_limit - d
deeper n d r h = omega (arith, r, h)

low : (n e : ℕ) → n ≤ nesting_limit - e → nat_le n nesting_limit ≡ true
low n e h = grind (arith, nat_tests)

-- within the limit, wherever it stands
pub expr-within : (e : ℕ) (x : VExpr) → FitsAt e (fit x) → is_expr x ≡ true
expr-within e x h = both (fit x).fits (nat_le (fit x).depth nesting_limit) h.fits (low (fit x).depth e h.depth)

pub lval-within : (e : ℕ) (l : VLval) → FitsAt e (fit_of_lval l) → is_lval l ≡ true
lval-within e l h = both (fit_of_lval l).fits (nat_le (fit_of_lval l).depth nesting_limit) h.fits (low (fit_of_lval l).depth e h.depth)

pub stmt-within : (e : ℕ) (y : Option ℕ) (s : VStmt) → FormAt e y (form_of_stmt s) → is_stmt s ≡ true
stmt-within e y s h = both (form_of_stmt s).fits (nat_le (form_of_stmt s).depth nesting_limit) h.fits (low (form_of_stmt s).depth e h.depth)

pub branch-within : (e : ℕ) (y : Option ℕ) (b : VBranch) → FormAt e y (form_of_branch b) → is_branch b ≡ true
branch-within e y b h = both (form_of_branch b).fits (nat_le (form_of_branch b).depth nesting_limit) h.fits (low (form_of_branch b).depth e h.depth)

-- primaries
pub number-at : (e : ℕ) (bits : List Bit4) → is_number bits ≡ true → e ≤ nesting_limit → PrimAt e (fit_of_prim (O.Number bits))
number-at e bits h r = subst (PrimAt e) (sym (F.prim-number-fit bits)) (record { fits = h; depth = nothing e; room = r })

pub paren-at : (e : ℕ) (x : VExpr) → FitsAt e (fit x) → e ≤ nesting_limit → PrimAt e (fit_of_prim (O.Paren x))
paren-at e x h r = subst (PrimAt e) (sym (F.prim-paren-fit x)) (record { fits = h.fits; depth = h.depth; room = r })

pub sign-at : (e : ℕ) (signed : Bool) (x : VExpr) → FitsAt e (fit x) → e ≤ nesting_limit → PrimAt e (fit_of_prim (O.Sign signed x))
sign-at e signed x h r = subst (PrimAt e) (sym (F.prim-sign-fit signed x)) (record { fits = h.fits; depth = h.depth; room = r })

few-mapped : (ss : List VSel) → nat_le (length ss) 2 ≡ true → nat_le (length (map fit_of_sel ss)) 2 ≡ true
few-mapped ss h = ap (λ n. nat_le n 2) (length-map ss fit_of_sel) ∙ h

pub name-at : (e : ℕ) (n : List ℕ) (ss : List VSel) → is_name n ≡ true → SelsAt e ss → e ≤ nesting_limit → PrimAt e (fit_of_prim (O.Name n ss))
name-at e n ss h s r = subst (PrimAt e) (sym (F.prim-name-fit n ss)) (record {
  fits = three (is_name n) (nat_le (length (map fit_of_sel ss)) 2) (all_fit (map fit_of_sel ss)) h (few-mapped ss s.few) s.each.fits;
  depth = s.each.depth;
  room = r;
})

pub call-at : (e : ℕ) (n : List ℕ) (xs : List VExpr) → is_name n ≡ true → ArgsAt e (map fit xs) → e ≤ nesting_limit → PrimAt e (fit_of_prim (O.Call n xs))
call-at e n xs h s r = subst (PrimAt e) (sym (F.prim-call-fit n xs)) (record {
  fits = three (is_name n) (has_some (map fit xs)) (all_fit (map fit xs)) h s.some s.each.fits;
  depth = s.each.depth;
  room = r;
})

pub repeat-at : (e count : ℕ) (xs : List VExpr) → is_decimal count ≡ true → ArgsAt e (map fit xs) → FitsAt e (fit_of_prim (O.Repeat count xs))
repeat-at e count xs h s = subst (FitsAt e) (sym (F.prim-repeat-fit count xs)) (record {
  fits = three (is_decimal count) (has_some (map fit xs)) (all_fit (map fit xs)) h s.some s.each.fits;
  depth = s.each.depth;
})

pub concat-at : (e : ℕ) (xs : List VExpr) → ArgsAt e (map fit xs) → FitsAt e (fit_of_prim (O.Concat xs))
concat-at e xs s = subst (FitsAt e) (sym (F.prim-concat-fit xs)) (record {
  fits = both (has_some (map fit xs)) (all_fit (map fit xs)) s.some s.each.fits;
  depth = s.each.depth;
})

pub in-room : (e : ℕ) (a : VPrim) → FitsAt e (fit_of_prim a) → e ≤ nesting_limit → PrimAt e (fit_of_prim a)
in-room e a h r = record { fits = h.fits; depth = h.depth; room = r }

-- expressions
pub alone-at : (d : ℕ) (a : VPrim) → PrimAt (suc d) (fit_of_prim a) → FitsAt d (fit (E.Prim a))
alone-at d a h = subst (FitsAt d) (sym (F.expr-prim-fit a)) (record { fits = h.fits; depth = deeper (fit_of_prim a).depth d h.room h.depth })

pub unary-at : (d : ℕ) (op : VUnaryOp) (a : VPrim) → PrimAt (suc d) (fit_of_prim a) → FitsAt d (fit (E.Unary op a))
unary-at d op a h = subst (FitsAt d) (sym (F.expr-unary-fit op a)) (record { fits = h.fits; depth = deeper (fit_of_prim a).depth d h.room h.depth })

pub binary-at : (d : ℕ) (op : VBinaryOp) (a b : VPrim) → PrimAt (suc d) (fit_of_prim a) → PrimAt (suc d) (fit_of_prim b) → FitsAt d (fit (E.Binary op a b))
binary-at d op a b h k = subst (FitsAt d) (sym (F.expr-binary-fit op a b)) (record {
  fits = both (fit_of_prim a).fits (fit_of_prim b).fits h.fits k.fits;
  depth = deeper (max (fit_of_prim a).depth (fit_of_prim b).depth) d h.room (at-most-both (fit_of_prim a).depth (fit_of_prim b).depth (nesting_limit - suc d) h.depth k.depth);
})

pub choose-at : (d : ℕ) (on a b : VPrim) → PrimAt (suc d) (fit_of_prim on) → ArmsAt (suc d) (fit_of_prim a) (fit_of_prim b) → FitsAt d (fit (E.Choose on a b))
choose-at d on a b h k =
    let arms = at-most-both (fit_of_prim a).depth (fit_of_prim b).depth (nesting_limit - suc d) k.left.depth k.right.depth in
    let most = max (fit_of_prim a).depth (fit_of_prim b).depth in
    subst (FitsAt d) (sym (F.expr-choose-fit on a b)) (record {
      fits = three (fit_of_prim on).fits (fit_of_prim a).fits (fit_of_prim b).fits h.fits k.left.fits k.right.fits;
      depth = deeper (max (fit_of_prim on).depth most) d h.room (at-most-both (fit_of_prim on).depth most (nesting_limit - suc d) h.depth arms);
    })

-- selects and targets
pub no-sels : (e : ℕ) → SelsAt e []
no-sels e = record { few = refl; each = record { fits = refl; depth = nothing e } }

none-at : (e : ℕ) → AllAt e []
none-at e = record { fits = refl; depth = nothing e }

pub one-sel : (e : ℕ) (s : VSel) → FitsAt e (fit_of_sel s) → SelsAt e (s ∷ [])
one-sel e s h = record { few = refl; each = more-at e (fit_of_sel s) [] h (none-at e) }

pub two-sels : (e : ℕ) (s t : VSel) → FitsAt e (fit_of_sel s) → FitsAt e (fit_of_sel t) → SelsAt e (s ∷ t ∷ [])
two-sels e s t h k = record { few = refl; each = more-at e (fit_of_sel s) (fit_of_sel t ∷ []) h (more-at e (fit_of_sel t) [] k (none-at e)) }

pub fixed-at : (e base : ℕ) (extent : Option VExtent) → is_decimal base ≡ true → is_perhaps is_extent extent ≡ true → FitsAt e (fit_of_sel (S.Decimal base extent))
fixed-at e base extent h k = subst (FitsAt e) (sym (F.sel-decimal-fit base extent)) (record {
  fits = both (is_decimal base) (is_perhaps is_extent extent) h k;
  depth = nothing e;
})

pub moving-at : (e : ℕ) (x : VExpr) (extent : Option VExtent) → FitsAt e (fit x) → is_perhaps is_extent extent ≡ true → FitsAt e (fit_of_sel (S.Expr x extent))
moving-at e x extent h k = subst (FitsAt e) (sym (F.sel-expr-fit x extent)) (record {
  fits = both (fit x).fits (is_perhaps is_extent extent) h.fits k;
  depth = h.depth;
})

pub target-at : (e : ℕ) (n : List ℕ) (ss : List VSel) → is_name n ≡ true → SelsAt e ss → FitsAt e (fit_of_lval (L.Name n ss))
target-at e n ss h s = subst (FitsAt e) (sym (F.lval-name-fit n ss)) (record {
  fits = three (is_name n) (nat_le (length ss) 2) (all_fit (map fit_of_sel ss)) h s.few s.each.fits;
  depth = s.each.depth;
})

pub targets-at : (d : ℕ) (ls : List VLval) → suc d ≤ nesting_limit → ArgsAt (suc d) (map fit_of_lval ls) → FitsAt d (fit_of_lval (L.Concat ls))
targets-at d ls r s = subst (FitsAt d) (sym (F.lval-concat-fit ls)) (record {
  fits = both (has_some (map fit_of_lval ls)) (all_fit (map fit_of_lval ls)) s.some s.each.fits;
  depth = deeper (deepest (map fit_of_lval ls)) d r s.each.depth;
})

-- statements
pub form-as : (e : ℕ) (m y : Option ℕ) (f g : Form) → m ≡ y → f ≡ g → FormAt e m f → FormAt e y g
form-as e m y f g a b h = subst (λ z. FormAt e z g) a (subst (FormAt e m) b h)

pub statement-at : (e : ℕ) (y : Option ℕ) (s : VStmt) → FormAt e y (form_of_stmt s) → FormAt e y (form_of_branch (G.Statement s))
statement-at e y s h = subst (FormAt e y) (sym (F.branch-statement-form s)) h

pub empty-at : (e : ℕ) (y : Option ℕ) → FormAt e y (form_of_branch G.Empty)
empty-at e y = subst (FormAt e y) (sym F.branch-empty-form) (record { fits = refl; depth = nothing e; closes = λ b. refl })

pub block-at : (d : ℕ) (y : Option ℕ) (label : Option VLabel) (ss : List VStmt) → suc d ≤ nesting_limit → is_perhaps is_label label ≡ true
    → FormsAt (suc d) (map form_of_stmt ss) → FormAt d y (form_of_stmt (T.Block label ss))
block-at d y label ss r l h = subst (FormAt d y) (sym (F.stmt-block-form label ss)) (record {
  fits = both (is_perhaps is_label label) (all_of_form (map form_of_stmt ss)) l h.fits;
  depth = deeper (deepest_form (map form_of_stmt ss)) d r h.depth;
  closes = λ b. refl;
})

pub if-at : (d : ℕ) (m y : Option ℕ) (on : VExpr) (b : VBranch) → suc d ≤ nesting_limit → FitsAt (suc d) (fit on) → FormAt (suc d) m (form_of_branch b) → NoElse y
    → FormAt d y (form_of_stmt (T.If on b None))
if-at d m y on b r f g none = subst (FormAt d y) (sym (F.stmt-if-form-none on b)) (record {
  fits = both (fit on).fits (form_of_branch b).fits f.fits g.fits;
  depth = deeper (max (fit on).depth (form_of_branch b).depth) d r (at-most-both (fit on).depth (form_of_branch b).depth (nesting_limit - suc d) f.depth g.depth);
  closes = λ begun. absurd (none begun);
})

pub else-at : (d : ℕ) (m y : Option ℕ) (on : VExpr) (b c : VBranch) → suc d ≤ nesting_limit → FitsAt (suc d) (fit on) → FormAt (suc d) m (form_of_branch b)
    → IsBegun table (Maybe head.else_branch ∷ []) m → FormAt (suc d) y (form_of_branch c) → FormAt d y (form_of_stmt (T.If on b (Some c)))
else-at d m y on b c r f g begun k =
    let most = max (form_of_branch b).depth (form_of_branch c).depth in
    let parts = at-most-both (form_of_branch b).depth (form_of_branch c).depth (nesting_limit - suc d) g.depth k.depth in
    subst (FormAt d y) (sym (F.stmt-if-form-some on b c)) (record {
      fits = both ((fit on).fits && (form_of_branch b).fits && (form_of_branch b).closed) (form_of_branch c).fits
          (three (fit on).fits (form_of_branch b).fits (form_of_branch b).closed f.fits g.fits (g.closes begun)) k.fits;
      depth = deeper (max (fit on).depth most) d r (at-most-both (fit on).depth most (nesting_limit - suc d) f.depth parts);
      closes = k.closes;
    })

pub case-at : (d : ℕ) (y : Option ℕ) (kind : VCaseKind) (on : VExpr) (cs : List VCaseItem) → suc d ≤ nesting_limit → FitsAt (suc d) (fit on)
    → CasesAt (suc d) (map form_of_case cs) → FormAt d y (form_of_stmt (T.Case kind on cs))
case-at d y kind on cs r f g = subst (FormAt d y) (sym (F.stmt-case-form kind on cs)) (record {
  fits = both ((fit on).fits && has_some (map form_of_case cs) && one_default (map form_of_case cs)) (all_of_form (map form_of_case cs))
      (three (fit on).fits (has_some (map form_of_case cs)) (one_default (map form_of_case cs)) f.fits g.some g.one) g.fits;
  depth = deeper (max (fit on).depth (deepest_form (map form_of_case cs))) d r
      (at-most-both (fit on).depth (deepest_form (map form_of_case cs)) (nesting_limit - suc d) f.depth g.depth);
  closes = λ b. refl;
})

pub store-at : (d : ℕ) (y : Option ℕ) (l : VLval) (x : VExpr) (later : Bool) → suc d ≤ nesting_limit → FitsAt (suc d) (fit_of_lval l) → FitsAt (suc d) (fit x)
    → FormAt d y (form_of_stmt (T.Assign l x later))
store-at d y l x later r f g = subst (FormAt d y) (sym (F.stmt-assign-form l x later)) (record {
  fits = both (fit_of_lval l).fits (fit x).fits f.fits g.fits;
  depth = deeper (max (fit_of_lval l).depth (fit x).depth) d r (at-most-both (fit_of_lval l).depth (fit x).depth (nesting_limit - suc d) f.depth g.depth);
  closes = λ b. refl;
})

has-some-of : (xs : List VExpr) → has_some (map fit xs) ≡ true → has_some xs ≡ true
has-some-of [] h = h
has-some-of (x ∷ xs) h = refl

pub item-at : (e : ℕ) (y : Option ℕ) (values : List VExpr) (b : VBranch) → ArgsAt e (map fit values) → FormAt e y (form_of_branch b)
    → CaseAt e false (form_of_case (C.Item values b))
item-at e y values b f g = subst (CaseAt e false) (sym (F.case-item-form values b)) (record {
  fits = three (has_some values) (all_fit (map fit values)) (form_of_branch b).fits (has-some-of values f.some) f.each.fits g.fits;
  depth = at-most-both (deepest (map fit values)) (form_of_branch b).depth (nesting_limit - e) f.each.depth g.depth;
  which = refl;
})

pub default-at : (e : ℕ) (y : Option ℕ) (b : VBranch) → FormAt e y (form_of_branch b) → CaseAt e true (form_of_case (C.Default b))
default-at e y b g = subst (CaseAt e true) (sym (F.case-default-form b)) (record { fits = g.fits; depth = g.depth; which = refl })
