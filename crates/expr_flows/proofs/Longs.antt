-- Where constant indices stand whose values take too long.
use Rattle.std.proofs.Common.{◌≡◌, inl, inr, ℕ, zero, suc, Bool, true, ℤ, List, [], ◌∷◌, map, drop, refl, ap, sym, ◌∙◌, subst, rules}
use Rattle.row_machine.specs.Valuation.{Member}
use Rattle.sv_types.specs.declared.expression.Expr.{Expr}
use Rattle.sv_types.specs.declared.expression.Form.{Form, Form-F, out-Form, the_lemmas}
use Rattle.sv_types.specs.declared.expression.Form.TheVariants as V
use Rattle.sv_types.specs.Layouts.{layout}
use Rattle.sv_types.specs.Surroundings.{Parameter}
use Rattle.sv_types.specs.Expressions.{meaning}
use Rattle.eval_forms.specs.Asked.{Asked, form_asked}
use Rattle.expr_flows.proofs.Operands.{asks}
use Rattle.expr_flows.specs.declared.fails.FlowFail.{FlowFail}
use Rattle.expr_flows.specs.declared.fails.FlowFail.TheVariants as F
use Rattle.expr_flows.specs.declared.known.Known.{Known}
use Rattle.expr_flows.specs.Known.{sight, ValueFails}
use Rattle.expr_flows.specs.Reads.{IsIndexOf, IsOperand, LongIndex, LongAt, ReadFails, IndexFails}

pub from-drop : {A : Type 0} (n : ℕ) (xs : List A) (x : A) → Member (drop n xs) x → Member xs x
from-drop zero xs x m = m
from-drop (suc n) [] x m = elim m [ ]
from-drop (suc n) (y ∷ xs) x m = inr (from-drop n xs x m)

pub mapped : {A B : Type 0} (f : A → B) (xs : List A) (x : A) → Member xs x → Member (map f xs) (f x)
mapped f [] x m = elim m [ ]
mapped f (y ∷ xs) x (inl is) = inl (ap f is)
mapped f (y ∷ xs) x (inr m) = inr (mapped f xs x m)

-- what an operand fails by, the whole fails by
pub operand-fails : (f : FlowFail) (k : Known) (e x : Expr) → IsOperand x e → ReadFails f k x → ReadFails f k e
operand-fails F.Memory k e x o h = tt
operand-fails (F.TooLong at) k e x o h = LongIndex.Inside e x at o h

pub asked-operand : (e : Expr) (fs : ℕ → List Parameter) (w : ℕ) (s : Bool) (q : Asked) → Member (asks e fs w s) q → IsOperand q.of e
asked-operand e fs w s q m = record { formals = fs; width = w; signed = s; here = mapped (λ (p : Asked). p.of) (asks e fs w s) q m }

first : (e x : Expr) (f : Form) (y : _) (fs : ℕ → List Parameter) → e.form ≡ f → out-Form f ≡ y → Member (map (λ (q : Asked). q.of) (form_asked (layout e.of) fs 0 true y)) x → IsOperand x e
first e x f y fs is out m = record {
  formals = fs;
  width = 0;
  signed = true;
  here = subst (λ z. Member (map (λ (q : Asked). q.of) (form_asked (layout e.of) fs 0 true z)) x) (sym (ap out-Form is ∙ out)) m;
}

no-formals : ℕ → List Parameter
no-formals n = []

out-Member : (x : Expr) (n : ℕ) → out-Form (V.Member x n) ≡ Form-F.Member x n
out-Member x n = search (rules, the_lemmas)

pub member-operand : (e x : Expr) (n : ℕ) → e.form ≡ V.Member x n → IsOperand x e
member-operand e x n is = first e x (V.Member x n) (Form-F.Member x n) no-formals is (out-Member x n) (inl refl)

out-Part : (x : Expr) (left right : ℤ) → out-Form (V.Part x left right) ≡ Form-F.Part x left right
out-Part x left right = search (rules, the_lemmas)

pub part-operand : (e x : Expr) (left right : ℤ) → e.form ≡ V.Part x left right → IsOperand x e
part-operand e x left right is = first e x (V.Part x left right) (Form-F.Part x left right) no-formals is (out-Part x left right) (inl refl)

out-Index : (x i : Expr) → out-Form (V.Index x i) ≡ Form-F.Index x i
out-Index x i = search (rules, the_lemmas)

pub index-operand : (e x i : Expr) → e.form ≡ V.Index x i → IsOperand x e
index-operand e x i is = first e x (V.Index x i) (Form-F.Index x i) no-formals is (out-Index x i) (inl refl)

index-of-index : (e x i : Expr) → e.form ≡ V.Index x i → IsOperand i e
index-of-index e x i is = first e i (V.Index x i) (Form-F.Index x i) no-formals is (out-Index x i) (inr (inl refl))

out-Slide : (x i : Expr) (n : ℕ) (up : Bool) → out-Form (V.Slide x i n up) ≡ Form-F.Slide x i n up
out-Slide x i n up = search (rules, the_lemmas)

pub slide-operand : (e x i : Expr) (n : ℕ) (up : Bool) → e.form ≡ V.Slide x i n up → IsOperand x e
slide-operand e x i n up is = first e x (V.Slide x i n up) (Form-F.Slide x i n up) no-formals is (out-Slide x i n up) (inl refl)

index-of-slide : (e x i : Expr) (n : ℕ) (up : Bool) → e.form ≡ V.Slide x i n up → IsOperand i e
index-of-slide e x i n up is = first e i (V.Slide x i n up) (Form-F.Slide x i n up) no-formals is (out-Slide x i n up) (inr (inl refl))

long-at : (k : Known) (e i : Expr) (at : ℕ) → IsIndexOf i e → IsOperand i e → LongAt k i at → LongIndex k e at
long-at k e i at is o (LongAt.Itself j c long) = LongIndex.Here e i is c long
long-at k e i at is o (LongAt.Within j a long) = LongIndex.Inside e i at o long

index-fails : (f : FlowFail) (k : Known) (e i : Expr) → IsIndexOf i e → IsOperand i e → IndexFails f k i → ReadFails f k e
index-fails F.Memory k e i is o h = tt
index-fails (F.TooLong at) k e i is o h = long-at k e i at is o h

pub fails-by-index : (f : FlowFail) (k : Known) (e x i : Expr) → e.form ≡ V.Index x i → IndexFails f k i → ReadFails f k e
fails-by-index f k e x i is h = index-fails f k e i (inl (x, is)) (index-of-index e x i is) h

pub fails-by-slide : (f : FlowFail) (k : Known) (e x i : Expr) (n : ℕ) (up : Bool) → e.form ≡ V.Slide x i n up → IndexFails f k i → ReadFails f k e
fails-by-slide f k e x i n up is h = index-fails f k e i (inr (x, n, up, is)) (index-of-slide e x i n up is) h

-- an index itself
pub reads-fail : (f : FlowFail) (k : Known) (i : Expr) → ReadFails f k i → IndexFails f k i
reads-fail F.Memory k i h = tt
reads-fail (F.TooLong at) k i h = LongAt.Within i at h

pub value-fails : (f : FlowFail) (k : Known) (i : Expr) → (meaning i).constant (sight k) ≡ true → ValueFails f k i → IndexFails f k i
value-fails F.Memory k i c h = tt
value-fails (F.TooLong at) k i c h = subst (LongAt k i) (sym h.0) (LongAt.Itself i c h.1)
