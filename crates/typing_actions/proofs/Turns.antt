-- Lists of targets, one after the other.
use Rattle.std.proofs.Common.{◌≡◌, ◌<◌, ℕ, zero, suc, true, List, [], ◌∷◌, ◌++◌, length, get_or, map, arith, sym, subst}
use Rattle.std.specs.Prelude.{Result, Ok, Err, IfOk, Vec}
use Rattle.std.specs.declared.alloc.Global.{Global}
use Rattle.sv_tree.specs.declared.statements.Lvalue.{Lvalue}
use Rattle.operand_types.specs.Allowed.{IsNarrow}
use Rattle.expr_type.specs.declared.halt.Halt.{Halt}
use Rattle.expr_type.specs.declared.halt.Halt.TheVariants as H
use Rattle.expr_type.specs.declared.operand.Valued.{Valued}
use Rattle.stmt_walks.specs.Written.{lvalue_written}
use Rattle.typing_fits.proofs.Full.{and-left, and-right}
use Rattle.typing_walks.specs.Written.{all}
use Rattle.typing_assigns.specs.declared.target.TargetPart.{TargetPart}
use Rattle.typing_assigns.specs.Parts.{AllNarrowParts, AllNarrowValues}
use Rattle.typing_calls.specs.Lists.{Follows}

-- each of them is written
pub written-at : (ts : List Lvalue) (i : ℕ) (t : Lvalue) → all (map lvalue_written ts) ≡ true → i < length ts → t ≡ get_or ts i t → lvalue_written t ≡ true
written-at [] i t w within is = absurd (omega arith)
written-at (x ∷ ts) zero t w within is = subst (λ (y : Lvalue). lvalue_written y ≡ true) (sym is) (and-left (lvalue_written x) (all (map lvalue_written ts)) w)
written-at (x ∷ ts) (suc i) t w within is = written-at ts i t (and-right (lvalue_written x) (all (map lvalue_written ts)) w) (omega arith) is

-- what holds of those before and of one more
module _ {A : Type 0} (P : List A → Type 0) (Q : A → Type 0) (grows : (as' : List A) (a : A) → P as' → Q a → P (as' ++ a ∷ [])) where
  holds-on : (made : Result (Vec A Global) Halt) (next : Result A Halt) (r : Result (Vec A Global) Halt) → Follows made next r → IfOk made (λ v. P v.items) → IfOk next Q → IfOk r (λ v. P v.items)
  holds-on (Ok v) (Ok a) (Ok w) s p q = subst P (sym s) (grows v.items a p q)
  holds-on (Ok v) (Ok a) (Err h) s p q = tt
  holds-on (Ok v) (Err h) r s p q = subst (λ (t : Result (Vec A Global) Halt). IfOk t (λ v. P v.items)) (sym s) tt
  holds-on (Err H.Quiet) (Ok a) r s p q = subst (λ (t : Result (Vec A Global) Halt). IfOk t (λ v. P v.items)) (sym s) tt
  holds-on (Err H.Quiet) (Err h) r s p q = subst (λ (t : Result (Vec A Global) Halt). IfOk t (λ v. P v.items)) (sym s) tt
  holds-on (Err H.Memory) next r s p q = subst (λ (t : Result (Vec A Global) Halt). IfOk t (λ v. P v.items)) (sym s) tt
  holds-on (Err (H.Breaks at n)) next r s p q = subst (λ (t : Result (Vec A Global) Halt). IfOk t (λ v. P v.items)) (sym s) tt

parts-grow : (ps : List TargetPart) (p : TargetPart) → AllNarrowParts ps → IsNarrow p.of → AllNarrowParts (ps ++ p ∷ [])
parts-grow [] p n m = (m, tt)
parts-grow (q ∷ ps) p n m = (n.0, parts-grow ps p n.1 m)

values-grow : (vs : List Valued) (v : Valued) → AllNarrowValues vs → IsNarrow v → AllNarrowValues (vs ++ v ∷ [])
values-grow [] v n m = (m, tt)
values-grow (u ∷ vs) v n m = (n.0, values-grow vs v n.1 m)

pub parts-narrow : (made : Result (Vec TargetPart Global) Halt) (next : Result TargetPart Halt) (r : Result (Vec TargetPart Global) Halt) → Follows made next r → IfOk made (λ v. AllNarrowParts v.items) → IfOk next (λ p. IsNarrow p.of)
    → IfOk r (λ v. AllNarrowParts v.items)
parts-narrow made next r s p q = holds-on AllNarrowParts (λ (p : TargetPart). IsNarrow p.of) parts-grow made next r s p q

pub values-narrow : (made : Result (Vec Valued Global) Halt) (next : Result Valued Halt) (r : Result (Vec Valued Global) Halt) → Follows made next r → IfOk made (λ v. AllNarrowValues v.items) → IfOk next IsNarrow
    → IfOk r (λ v. AllNarrowValues v.items)
values-narrow made next r s p q = holds-on AllNarrowValues IsNarrow values-grow made next r s p q
