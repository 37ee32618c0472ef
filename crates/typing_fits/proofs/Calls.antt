-- Calls: each actual is given to its formal.
use Rattle.std.proofs.Common.{◌≡◌, ℕ, ◌≤◌, max, ◌==◌, not, List, [], ◌∷◌, length, map, zip, Some, refl, arith, sym, subst}
use Rattle.std.specs.Prelude.{slice_get, Ok}
use Rattle.sv_types.specs.declared.expression.Expr.{Expr}
use Rattle.sv_types.specs.declared.expression.Form.TheVariants as F
use Rattle.sv_types.specs.declared.statement.Formal.{Formal}
use Rattle.sv_types.specs.declared.statement.Function.{Function}
use Rattle.sv_types.specs.declared.types.SvType.{SvType}
use Rattle.sv_types.specs.Layouts.{Layout, layout, width_of}
use Rattle.sv_types.specs.Surroundings.{Parameter}
use Rattle.sv_types.specs.Meanings.{Operand, by_itself, most, total}
use Rattle.sv_types.specs.Operators as O
use Rattle.sv_types.specs.Operators.{assigned_width}
use Rattle.sv_types.specs.Expressions.{meaning}
use Rattle.sv_types.specs.Functions.{parameter}
use Rattle.sv_types.proofs.Levels as L
use Rattle.eval_parts.proofs.TypeKinds.{wide-is}
use Rattle.expr_type.specs.declared.operand.Valued.{Valued}
use Rattle.expr_type.specs.Typings.{Checked, where_whole, all_of, joined}
use Rattle.expr_type.specs.Names.{Called, Source, position}
use Rattle.expr_type.specs.Operands as X
use Rattle.expr_type.specs.Operands.{passed}
use Rattle.expr_type.specs.Operators as R
use Rattle.expr_type.specs.Forms.{passed_to, call_of}
use Rattle.typing_fits.specs.Sound.{Knows, Limited, LimitedAt, Sound, SoundFor}
use Rattle.typing_fits.specs.Operands.{AllSoundOperands, AllSoundFor, AllFormalsFull, KnownCall}
use Rattle.typing_fits.proofs.Contexts.{refused-then, whole-part, joined-both}
use Rattle.typing_fits.proofs.Vectors.{IsResult, result-of}
use Rattle.typing_fits.proofs.Operators.{made-alone, as-is, ok-is}
use Rattle.typing_fits.proofs.Given.{passed-sound}

-- parts that are all whole
pub record Front (A : Type 0) (x : Checked A) (xs : List (Checked A)) (bs : List A) : Type 0 where
  pub first : A
  pub rest : List A
  pub is : bs ≡ first ∷ rest
  pub here : x ≡ Ok first
  pub behind : all_of xs ≡ Ok rest

abbrev list_ok : {A : Type 0} → List A → Checked (List A)
list_ok xs = Ok xs

pub all-front : {A : Type 0} (x : Checked A) (xs : List (Checked A)) (bs : List A) → all_of (x ∷ xs) ≡ Ok bs → Front A x xs bs
all-front {A = A} x xs bs h =
    let p = whole-part (joined x (all_of xs)) (λ p. Ok (p.0 ∷ p.1)) bs h in
    let b = joined-both x (all_of xs) p.part p.is in
    let made : list_ok (p.part.0 ∷ p.part.1) ≡ Ok bs = p.made in
    let is : p.part.0 ∷ p.part.1 ≡ bs = cc in
    record { first = p.part.0; rest = p.part.1; is = sym is; here = b.left; behind = b.right }

pub none-all : {A : Type 0} (bs : List A) → all_of {A = A} [] ≡ Ok bs → bs ≡ []
none-all bs h = let e : list_ok [] ≡ Ok bs = h in let is : [] ≡ bs = cc in sym is

-- what is passed to formals
abbrev pub formal_types : List Formal → List SvType
formal_types fs = map (λ (f : Formal). f.local.of) fs

pub all-passed : (k : Source) (fs : List Formal) (os : List X.Operand) (es : List Expr) (gs : List Function) → all_of (map (passed_to k) (zip fs os)) ≡ Ok es → AllFormalsFull fs → AllSoundOperands os gs
    → AllSoundFor es (formal_types fs) gs
all-passed k [] os es gs h full s = subst (λ xs. AllSoundFor xs [] gs) (sym (none-all es h)) tt
all-passed k (f ∷ fs) [] es gs h full s = subst (λ xs. AllSoundFor xs (formal_types (f ∷ fs)) gs) (sym (none-all es h)) tt
all-passed k (f ∷ fs) (o ∷ os) es gs h full s =
    let r = all-front (passed_to k (f, o)) (map (passed_to k) (zip fs os)) es h in
    subst (λ xs. AllSoundFor xs (formal_types (f ∷ fs)) gs) (sym r.is)
    (passed-sound k f.local.of o r.first gs r.here full.0 s.0, all-passed k fs os r.rest gs r.behind full.1 s.1)

pub passed-length : (k : Source) (fs : List Formal) (os : List X.Operand) (es : List Expr) → all_of (map (passed_to k) (zip fs os)) ≡ Ok es → length es ≤ length fs
passed-length k [] os es h = subst (λ xs. length xs ≤ 0) (sym (none-all es h)) (omega arith)
passed-length k (f ∷ fs) [] es h = subst (λ xs. length xs ≤ length (f ∷ fs)) (sym (none-all es h)) (omega arith)
passed-length k (f ∷ fs) (o ∷ os) es h =
    let r = all-front (passed_to k (f, o)) (map (passed_to k) (zip fs os)) es h in
    let n = passed-length k fs os r.rest r.behind in
    subst (λ xs. length xs ≤ length (f ∷ fs)) (sym r.is) (omega arith)

-- sums over actuals
record Sums (fs : List Formal) (es : List Expr) (gs : List Function) : Type 0 where
  pub typed : total (map (λ (p : Operand). p.of.misfits) (map by_itself (map meaning es))) ≡ 0
  pub narrow : most (map (λ (p : Operand). p.of.widest) (map by_itself (map meaning es))) ≤ 4194304
  pub indexing : most (map (λ (p : Operand). p.of.indexing) (map by_itself (map meaning es))) ≤ 64
  pub arithmetic : (ps : ℕ → List Parameter) → Knows gs ps → most (map (λ p. p.1.arithmetic ps (assigned_width p.0.two_state p.1)) (zip (map parameter fs) (map meaning es))) ≤ 128

at-formal : (e : Expr) (t : SvType) (gs : List Function) → SoundFor e t gs → LimitedAt (meaning e) (assigned_width (layout t).two_state (meaning e)) gs
at-formal e t gs s = subst (λ w. LimitedAt (meaning e) (max (width_of t) w) gs) (sym (wide-is e)) s.limits

sums : (fs : List Formal) (es : List Expr) (gs : List Function) → length es ≤ length fs → AllSoundFor es (formal_types fs) gs → Sums fs es gs
sums [] [] gs few s = record { typed = refl; narrow = omega arith; indexing = omega arith; arithmetic = λ ps k. omega arith }
sums [] (e ∷ es) gs few s = absurd (omega arith)
sums (f ∷ fs) [] gs few s = record { typed = refl; narrow = omega arith; indexing = omega arith; arithmetic = λ ps k. omega arith }
sums (f ∷ fs) (e ∷ es) gs few s =
    let r = sums fs es gs (omega arith) s.1 in
    let x = at-formal e f.local.of gs s.0 in
    record {
      typed = omega (arith, x.typed, r.typed);
      narrow = omega (arith, x.narrow, r.narrow);
      indexing = omega (arith, x.indexing, r.indexing);
      arithmetic = λ ps k. omega (arith, x.arithmetic ps k, r.arithmetic ps k);
    }

call-limits : (of : Layout) (at : ℕ) (c : Called) (es : List Expr) (gs : List Function) → IsResult of (length of.two_state) of.signed → slice_get gs c.place ≡ Some c.of → Sums c.of.formals es gs
    → Limited (O.call of at c.place (map meaning es)) [] gs
unfolding O.call
call-limits of at c es gs v known s = record {
  typed = omega (arith, v.some, v.same, s.typed);
  narrow = omega (arith, v.narrow, s.narrow);
  indexing = omega (arith, s.indexing);
  arithmetic = λ ps k w h. subst (λ xs. most (map (λ p. p.1.arithmetic ps (assigned_width p.0.two_state p.1)) (zip xs (map meaning es))) ≤ 128) (sym (k.formals c.place c.of known)) (s.arithmetic ps k);
}

pub call-sound : (k : Source) (first name : ℕ) (c : Called) (os : List X.Operand) (v : Valued) (gs : List Function) → call_of k first name c os ≡ Ok v → KnownCall c gs → AllSoundOperands os gs → Sound v gs
call-sound k first name c os v gs h known s =
    let parts = all_of (map (passed_to k) (zip c.of.formals os)) in
    let inner = where_whole parts (λ es. Ok (R.by_itself k first c.of.of (F.Call c.place es))) in
    let p = whole-part parts (λ es. Ok (R.by_itself k first c.of.of (F.Call c.place es))) v (refused-then (not (length c.of.formals == length os)) (position k name) 405 inner v h) in
    let a = R.by_itself k first c.of.of (F.Call c.place p.part) in
    let r = sums c.of.formals p.part gs (passed-length k c.of.formals os p.part p.is) (all-passed k c.of.formals os p.part gs p.is known.formals s) in
    as-is a v gs (ok-is a v p.made)
    (made-alone k first c.of.of (F.Call c.place p.part) gs _ (L.form-Call c.place p.part) known.result
    (call-limits (layout c.of.of) first c p.part gs (result-of c.of.of (width_of c.of.of) (layout c.of.of).signed known.result refl refl) known.known r))
