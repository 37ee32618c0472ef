-- What is assigned to targets.
use Rattle.std.proofs.Common.{◌≡◌, ℕ, ◌≤◌, max, Bool, true, false, List, [], ◌∷◌, map, Option, Some, None, refl, arith, sym, ◌∙◌, subst}
use Rattle.std.specs.Prelude.{nat_lt, Ok}
use Rattle.std.proofs.lemmas.Bool.Decides.{nat_tests}
use Rattle.sv_tree.specs.declared.operators.AssignmentOperator.{AssignmentOperator}
use Rattle.sv_tree.specs.declared.operators.BinaryOperator.{BinaryOperator}
use Rattle.sv_types.specs.declared.expression.Expr.{Expr}
use Rattle.sv_types.specs.declared.statement.Function.{Function}
use Rattle.sv_types.specs.declared.statement.Stmt as R
use Rattle.sv_types.specs.declared.types.SvType.{SvType}
use Rattle.sv_types.specs.Layouts.{width_of}
use Rattle.sv_types.specs.Operators.{width_of_all}
use Rattle.sv_types.specs.Expressions.{meaning}
use Rattle.eval_parts.proofs.TypeKinds.{wide-is}
use Rattle.expr_type.specs.declared.operand.Valued.{Valued}
use Rattle.expr_type.specs.Typings.{Checked, refused, where_whole, lesser}
use Rattle.expr_type.specs.Shapes.{is_unpacked}
use Rattle.expr_type.specs.Names.{Context, Source, position, spot}
use Rattle.expr_type.specs.Operands as X
use Rattle.expr_type.specs.Operands.{Operand, too_wide, width, given, is_value}
use Rattle.expr_type.specs.Operators.{all_bits, exprs, binary_of}
use Rattle.expr_type.specs.Targets.{Target, ToPath, ToParts, ToStream, parts_of, has_enough, with_no_enum, given_to_parts, assigned}
use Rattle.expr_type.specs.Statements.{operator_of, is_later, as_operand, combined, assign, assignment}
use Rattle.typing_fits.specs.Types.{is_full}
use Rattle.typing_fits.specs.Sound.{IsNarrowType, LimitedAt, Sound, SoundFor}
use Rattle.typing_fits.specs.Operands.{SoundFixed, SoundOperand}
use Rattle.typing_fits.proofs.Contexts.{refused-no, refused-then, whole-part, lesser-both}
use Rattle.typing_fits.proofs.Operators.{as-is, ok-is, binary-sound}
use Rattle.typing_fits.proofs.Joins.{is-alone, all-alone}
use Rattle.typing_fits.proofs.Given.{given-sound, value-sound, pattern-for}
use Rattle.routine_fits.specs.Sound.{SoundStmt, SoundAssign}
use Rattle.routine_fits.specs.Targets.{SoundTarget}
use Rattle.routine_fits.proofs.Statements.{assign-sound}

-- the bits of parts
parts-wide : (es : List Expr) → width_of_all (map meaning es) ≡ all_bits es
parts-wide [] = refl
parts-wide (e ∷ es) = let a = wide-is e in let b = parts-wide es in omega arith

one-wide : (e : Expr) → width_of_all (map meaning (e ∷ [])) ≡ width_of e.of
one-wide e = let a = wide-is e in omega arith

-- a value that is given to one target
pub to-one : (v : Valued) (e : Expr) (gs : List Function) → SoundFixed v gs → IsNarrowType e.of → LimitedAt (meaning e) (max (width v) (width_of e.of)) gs → SoundAssign (v.expr ∷ []) e gs
to-one v e gs t of l = record {
  targets = (is-alone v gs t.sound, tt);
  width = let a = one-wide v.expr in let b = t.sound.of.narrow in omega arith;
  of = of;
  value = subst (λ n. LimitedAt (meaning e) (max n (width_of e.of)) gs) (sym (one-wide v.expr)) l;
}

-- one that is assigned to a target stream has as many bits
enough-by : (u v : ℕ) (b : Bool) → nat_lt u v ≡ b → b ≡ false → max v u ≡ u
enough-by u v true is h = absurd (cc)
enough-by u v false is h = let k : v ≤ u = grind (arith, nat_tests, is) in omega arith

abbrev expr_ok : Expr → Checked Expr
expr_ok e = Ok e

expr-is : (a e : Expr) (v : Valued) (gs : List Function) → expr_ok a ≡ Ok e → SoundAssign (v.expr ∷ []) a gs → SoundAssign (v.expr ∷ []) e gs
expr-is a e v gs h s = let is : a ≡ e = cc in subst (λ x. SoundAssign (v.expr ∷ []) x gs) is s

enough : (v u : Valued) (gs : List Function) → nat_lt (width u) (width v) ≡ false → SoundFixed v gs → Sound u gs → SoundAssign (v.expr ∷ []) u.expr gs
enough v u gs h t s =
    let same = enough-by (width u) (width v) (nat_lt (width u) (width v)) refl h in
    to-one v u.expr gs t s.of (subst (λ n. LimitedAt (meaning u.expr) n gs) (sym same) (is-alone u gs s).limits)

stream-assigned : (k : Context) (v : Valued) (o : Operand) (e : Expr) (gs : List Function) → has_enough k v o ≡ Ok e → SoundFixed v gs → SoundOperand o gs → SoundAssign (v.expr ∷ []) e gs
stream-assigned k v (X.Plain u) e gs h t s =
    let inner = refused (is_unpacked u.expr.of) (position k.source u.first) 501 (Ok u.expr) in
    let no = refused-no (nat_lt (width u) (width v)) (position k.source v.first) 501 inner e h in
    let rest = refused-then (nat_lt (width u) (width v)) (position k.source v.first) 501 inner e h in
    expr-is u.expr e v gs (refused-then (is_unpacked u.expr.of) (position k.source u.first) 501 (Ok u.expr) e rest) (enough v u gs no t s)
stream-assigned k v (X.Pattern tick of) e gs h t s = absurd (cc)
stream-assigned k v (X.Stream u) e gs h t s =
    let no = refused-no (nat_lt (width u) (width v)) (position k.source v.first) 501 (Ok u.expr) e h in
    expr-is u.expr e v gs (refused-then (nat_lt (width u) (width v)) (position k.source v.first) 501 (Ok u.expr) e h) (enough v u gs no t s.sound)

-- concatenations
no-enum-is : (k : Source) (b : Bool) (first : ℕ) (x : Checked Expr) (e : Expr) → with_no_enum k b first x ≡ Ok e → x ≡ Ok e
no-enum-is k b first x e h =
    let y = refused b (position k first) 503 (Ok b) in
    let p = whole-part (lesser y x) (λ p. Ok p.1) e h in
    let c = lesser-both y x p.part p.is in
    c.right ∙ p.made

parts-given : (k : Source) (t : SvType) (b : Bool) (o : Operand) (e : Expr) (gs : List Function) → given_to_parts k t b o ≡ Ok e → is_full t ≡ true → SoundOperand o gs → SoundFor e t gs
parts-given k t b (X.Plain u) e gs h full s = given-sound k t (X.Plain u) e gs (no-enum-is k b u.first (given k t (X.Plain u)) e h) full s
parts-given k t b (X.Pattern tick of) e gs h full s = pattern-for e t gs (s tick t e full (no-enum-is k b tick (of tick t) e h))
parts-given k t b (X.Stream u) e gs h full s = given-sound k t (X.Stream u) e gs h full s

pub assigned-sound : (k : Context) (t : Target) (o : Operand) (e : Expr) (gs : List Function) → assigned k t o ≡ Ok e → SoundTarget t gs → SoundOperand o gs → SoundAssign (parts_of t) e gs
assigned-sound k (ToPath v) o e gs h t s =
    let r = given-sound k.source v.expr.of o e gs h t.sound.of.full s in
    to-one v e gs t r.of r.limits
assigned-sound k (ToParts v vs b) o e gs h t s =
    let r = parts-given k.source v.expr.of b o e gs h t.whole.sound.of.full s in
    let same : width_of_all (map meaning (exprs vs)) ≡ width v = parts-wide (exprs vs) ∙ sym t.width in
    record {
      targets = all-alone vs gs t.parts;
      width = let a = t.whole.sound.of.narrow in omega arith;
      of = r.of;
      value = subst (λ n. LimitedAt (meaning e) (max n (width_of e.of)) gs) (sym same) r.limits;
    }
assigned-sound k (ToStream v) o e gs h t s = stream-assigned k v o e gs h t s

-- `a op= b`
operand-sound : (k : Context) (t : Target) (v : Valued) (gs : List Function) → as_operand k t ≡ Ok v → SoundTarget t gs → Sound v gs
operand-sound k (ToPath u) v gs h t = as-is u v gs (ok-is u v h) t.sound
operand-sound k (ToParts u vs e) v gs h t = as-is u v gs (ok-is u v h) t.whole.sound
operand-sound k (ToStream u) v gs h t = absurd (cc)

abbrev operand_ok : Operand → Checked Operand
operand_ok o = Ok o

pub combined-sound : (k : Context) (at : ℕ) (op : Option BinaryOperator) (t : Target) (o p : Operand) (gs : List Function) → combined k at op t o ≡ Ok p → SoundTarget t gs → SoundOperand o gs → SoundOperand p gs
combined-sound k at None t o p gs h x s = let e : operand_ok o ≡ Ok p = h in let is : o ≡ p = cc in subst (λ y. SoundOperand y gs) is s
combined-sound k at (Some op) t o p gs h x s =
    let a = whole-part (as_operand k t) (λ l. where_whole (is_value k.source o) (λ r. where_whole (binary_of op k.source at l r) (λ v. Ok (X.Plain v)))) p h in
    let b = whole-part (is_value k.source o) (λ r. where_whole (binary_of op k.source at a.part r) (λ v. Ok (X.Plain v))) p a.made in
    let c = whole-part (binary_of op k.source at a.part b.part) (λ v. Ok (X.Plain v)) p b.made in
    let v = binary-sound op k.source at a.part b.part c.part gs c.is (operand-sound k t a.part gs a.is x) (value-sound k.source o b.part gs b.is s) in
    let made : operand_ok (X.Plain c.part) ≡ Ok p = c.made in
    let is : X.Plain c.part ≡ p = cc in
    subst (λ y. SoundOperand y gs) is v

abbrev stmt_ok : R.Stmt → Checked R.Stmt
stmt_ok s = Ok s

pub assignment-sound : (k : Context) (at : ℕ) (op : AssignmentOperator) (t : Target) (o : Operand) (s : R.Stmt) (gs : List Function) → assignment k at op t o ≡ Ok s → SoundTarget t gs → SoundOperand o gs → SoundStmt s gs
assignment-sound k at op t o s gs h x y =
    let a = whole-part (combined k at (operator_of op) t o) (λ v. where_whole (assigned k t v) (λ e. Ok (assign k at (is_later op) t e))) s h in
    let b = whole-part (assigned k t a.part) (λ e. Ok (assign k at (is_later op) t e)) s a.made in
    let made : stmt_ok (assign k at (is_later op) t b.part) ≡ Ok s = b.made in
    let is : assign k at (is_later op) t b.part ≡ s = cc in
    subst (λ z. SoundStmt z gs) is
    (assign-sound (parts_of t) b.part (is_later op) (spot k.source at) gs (assigned-sound k t a.part b.part gs b.is x (combined-sound k at (operator_of op) t o a.part gs a.is x y)))
