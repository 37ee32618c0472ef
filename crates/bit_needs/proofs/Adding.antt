-- A number that comes to the end of a list, or stands there.
use Rattle.std.proofs.Common.{◌≡◌, ℕ, List, [], ◌∷◌, ◌++◌, refl, sym, subst, inl, inr}
use Rattle.std.specs.Prelude.{Result, Ok, Err, OnOk}
use Rattle.row_machine.specs.Valuation.{Member}
use Rattle.row_machine.proofs.Members.{append-member, member-front, member-back}
use Rattle.bit_needs.specs.Touching.{AddsOne}

pub one-is-there : (q : ℕ) (list : List ℕ) → Member list q → AddsOne q list list
one-is-there q list m = record { kept = λ p h. h; added = m; only = λ p h. inl h }

one-behind : (q : ℕ) (list : List ℕ) → AddsOne q list (list ++ q ∷ [])
one-behind q list = record {
  kept = λ p h. member-front list (q ∷ []) p h;
  added = member-back list (q ∷ []) q (inl refl);
  only = λ p h. elim (append-member list (q ∷ []) p h) [ inl before ↦ inl before | inr last ↦ elim last [ inl same ↦ inr same | inr none ↦ absurd none ] ];
}

pub one-more : {E : Type 0} (q : ℕ) (list new : List ℕ) (r : Result (Unit {0}) E) → OnOk r (new ≡ list ++ q ∷ []) → OnOk r (AddsOne q list new)
one-more q list new (Ok u) is = subst (AddsOne q list) (sym is) (one-behind q list)
one-more q list new (Err e) is = tt
