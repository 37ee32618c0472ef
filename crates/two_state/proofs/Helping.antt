-- Functions of the right inputs and result are helpers.
use Rattle.std.proofs.Common.{◌≡◌, ℕ, zero, suc, ◌+◌, ◌-◌, ◌<◌, Bool, true, false, length, map, drop, replicate, List, [], ◌∷◌, Result, Ok, Err, IfOk, refl, arith, sym, ◌∙◌, ap}
use Rattle.std.specs.Str.{bytes_eq}
use Rattle.b4_core.specs.declared.bit.Bit4.{Bit4}
use Rattle.b4_core.specs.declared.bit.Bit4.TheVariants.{X}
use Rattle.b4_core.specs.declared.operators.EqOp.TheVariants.{Wild}
use Rattle.b4_core.specs.Compare.{equality}
use Rattle.row_machine.specs.Valuation.{Valuation}
use Rattle.sv_types.specs.Layouts.{stored}
use Rattle.sv_types.proofs.Picks.{length-tabulated}
use Rattle.sv_types.proofs.Stored.{length-stored}
use Rattle.v_tree.specs.Names.{Name}
use Rattle.v_tree.specs.Printing.{helper_text}
use Rattle.v_tree.specs.declared.items.VFunction.{VFunction}
use Rattle.v_tree.specs.declared.items.VLocal.{VLocal}
use Rattle.v_tree.specs.declared.names.Helper.{Helper}
use Rattle.v_tree.specs.declared.names.HelperKind.{HelperKind}
use Rattle.v_tree.specs.declared.names.HelperKind.TheVariants.{Cast, TwoState, Select, WildEq}
use Rattle.v_meaning.specs.Functions.{callee_of, scope_in}
use Rattle.v_meaning.specs.Scopes.{Scope, Named, bits_of_range}
use Rattle.v_meaning.specs.Statements.{declared}
use Rattle.v_meaning.specs.Values.{Meaning}
use Rattle.lowering_laws.specs.Helpers.{from_offset}
use Rattle.lowering_laws.proofs.Assigned.{given-alone}
use Rattle.two_state.specs.Kinds.{Helps, HasBits, Gives, input_of, vector, other, value_of, result_width, inputs_for}
use Rattle.two_state.proofs.Calls.{held, called-gives, one-bound, first-bound, second-bound}
use Rattle.two_state.proofs.Results.{IsAlone, whole-alone, slide-alone, two-state-alone, wild-alone}

one-more : (n : ℕ) → 0 < n → n - 1 + 1 ≡ n
one-more n h = omega arith

width-is : (f : VFunction) (name : Name) (n : ℕ) (ins : List VLocal) (m : Meaning) (sc : Scope) → 0 < n → Gives f name n ins m → (callee_of sc f).width ≡ n
width-is f name n ins m sc some g = ap bits_of_range g.1 ∙ one-more n some

one-width : (f : VFunction) (name : Name) (n w : ℕ) (m : Meaning) (sc : Scope) → 0 < w → Gives f name n (input_of vector w ∷ []) m → (callee_of sc f).inputs ≡ w ∷ []
one-width f name n w m sc some g =
    ap (λ (ls : List VLocal). map (λ (k : Named). k.width) (declared 1 ls)) g.2 ∙ ap (λ k. k ∷ []) (one-more w some)

two-widths : (f : VFunction) (name : Name) (n w d : ℕ) (m : Meaning) (sc : Scope) → 0 < w → 0 < d → Gives f name n (input_of vector w ∷ input_of other d ∷ []) m → (callee_of sc f).inputs ≡ w ∷ d ∷ []
two-widths f name n w d m sc some other_some g =
    ap (λ (ls : List VLocal). map (λ (k : Named). k.width) (declared 1 ls)) g.2 ∙ (λ i. one-more w some i ∷ one-more d other_some i ∷ [])

-- what it gives is its result alone
run-is : (f : VFunction) (name : Name) (n : ℕ) (ins : List VLocal) (m : Meaning) (g : Gives f name n ins m) (some : 0 < n) (sc : Scope) (v : Valuation) (args : List (List Bit4)) (c : List Bit4)
    → IsAlone m c (scope_in f sc) (held f name n ins m g some sc v args) → length c ≡ n → (callee_of sc f).run v args ≡ c
run-is f name n ins m g some sc v args c alone long =
    let is = given-alone m n c (scope_in f sc) (held f name n ins m g some sc v args) (alone.width ∙ long) alone.value long in
    called-gives f name n ins m g some sc v args (ap length is ∙ long) ∙ is

-- names of helpers aren't those of their inputs
pub no-vector : (name rest : Name) → name ≡ 115 ∷ rest → bytes_eq name vector ≡ false
no-vector name rest is = ap (λ k. bytes_eq k vector) is

pub no-other : (name rest : Name) → name ≡ 115 ∷ rest → bytes_eq name other ≡ false
no-other name rest is = ap (λ k. bytes_eq k other) is

pub length-x : (w : ℕ) → length (replicate w X) ≡ w
length-x zero = refl
length-x (suc w) = ap suc (length-x w)

length-all : (w : ℕ) (b : Bool) → length (replicate w b) ≡ w
length-all zero b = refl
length-all (suc w) b = ap suc (length-all w b)

stored-none : (w : ℕ) (x : List Bit4) → length x ≡ w → stored (replicate w false) x ≡ x
stored-none zero [] h = refl
stored-none zero (b ∷ x) h = absurd (omega arith)
stored-none (suc w) [] h = absurd (omega arith)
stored-none (suc w) (b ∷ x) h = ap (λ v. b ∷ v) (stored-none w x (omega arith))

pub helps : (kind : HelperKind) (w : ℕ) (f : VFunction) (name rest : Name) (sc : Scope) → 0 < w → HasBits kind → name ≡ 115 ∷ rest
    → Gives f name (result_width kind w) (inputs_for kind w) (value_of kind w) → Helps kind w (callee_of sc f)
helps Cast w f name rest sc some sizes is g =
    let long = length-all w false in
    record {
      width = width-is f name w (input_of vector w ∷ []) (value_of Cast w) sc some g ∙ sym long;
      inputs = one-width f name w w (value_of Cast w) sc some g ∙ ap (λ k. k ∷ []) (sym long);
      run = λ v x h.
          let fits : length x ≡ w = h ∙ long in
          run-is f name w (input_of vector w ∷ []) (value_of Cast w) g some sc v (x ∷ []) x
          (whole-alone vector w x (scope_in f sc) (held f name w (input_of vector w ∷ []) (value_of Cast w) g some sc v (x ∷ []))
          (one-bound f name w (value_of Cast w) some sc v w x some (no-vector name rest is) g fits)) fits
          ∙ sym (stored-none w x fits);
    }
helps TwoState w f name rest sc some sizes is g =
    let long = length-all w true in
    record {
      width = width-is f name w (input_of vector w ∷ []) (value_of TwoState w) sc some g ∙ sym long;
      inputs = one-width f name w w (value_of TwoState w) sc some g ∙ ap (λ k. k ∷ []) (sym long);
      run = λ v x h.
          let fits : length x ≡ w = h ∙ long in
          run-is f name w (input_of vector w ∷ []) (value_of TwoState w) g some sc v (x ∷ []) (stored (replicate w true) x)
          (two-state-alone w x (scope_in f sc) (held f name w (input_of vector w ∷ []) (value_of TwoState w) g some sc v (x ∷ []))
          (one-bound f name w (value_of TwoState w) some sc v w x some (no-vector name rest is) g fits)) (length-stored (replicate w true) x h ∙ long);
    }
helps (Select part index) w f name rest sc some sizes is g = record {
  width = width-is f name part (inputs_for (Select part index) w) (value_of (Select part index) w) sc sizes.0 g;
  inputs = two-widths f name part w index (value_of (Select part index) w) sc some sizes.1 g;
  run = λ v x o h k.
      run-is f name part (inputs_for (Select part index) w) (value_of (Select part index) w) g sizes.0 sc v (x ∷ o ∷ []) (from_offset part w x o)
      (slide-alone part w index x o (scope_in f sc) (held f name part (inputs_for (Select part index) w) (value_of (Select part index) w) g sizes.0 sc v (x ∷ o ∷ []))
      (first-bound f name part (value_of (Select part index) w) sizes.0 sc v w index x o some sizes.1 (no-vector name rest is) (no-other name rest is) g h k)
      (second-bound f name part (value_of (Select part index) w) sizes.0 sc v w index x o some sizes.1 (no-vector name rest is) (no-other name rest is) g h k)) (length-tabulated part _);
}
helps WildEq w f name rest sc some sizes is g =
    let one : 0 < 1 = omega arith in
    record {
      width = width-is f name 1 (inputs_for WildEq w) (value_of WildEq w) sc one g;
      inputs = two-widths f name 1 w w (value_of WildEq w) sc some some g;
      run = λ v x y h k.
          run-is f name 1 (inputs_for WildEq w) (value_of WildEq w) g one sc v (x ∷ y ∷ []) (equality Wild x y ∷ [])
          (wild-alone w x y (scope_in f sc) (held f name 1 (inputs_for WildEq w) (value_of WildEq w) g one sc v (x ∷ y ∷ []))
          (first-bound f name 1 (value_of WildEq w) one sc v w w x y some some (no-vector name rest is) (no-other name rest is) g h k)
          (second-bound f name 1 (value_of WildEq w) one sc v w w x y some some (no-vector name rest is) (no-other name rest is) g h k)) refl;
    }

-- so is what is made for a name of a helper
pub starts : (h : Helper) → helper_text h ≡ 115 ∷ drop 1 (helper_text h)
starts h = refl

pub all-help : {E : Type 0} (kind : HelperKind) (w : ℕ) (name : Name) (r : Result VFunction E) → 0 < w → HasBits kind → name ≡ helper_text (record { kind = kind; width = w })
    → IfOk r (λ f. Gives f name (result_width kind w) (inputs_for kind w) (value_of kind w)) → IfOk r (λ f. (sc : Scope) → Helps kind w (callee_of sc f))
all-help kind w name (Ok f) some sizes is g =
    λ sc. helps kind w f name (drop 1 (helper_text (record { kind = kind; width = w }))) sc some sizes (is ∙ starts (record { kind = kind; width = w })) g
all-help kind w name (Err e) some sizes is g = g
