-- What is put under the number of a name is under the name.
use Rattle.std.proofs.Common.{◌≡◌, ℕ, ◌⊎◌, inl, inr, Bool, true, false, ◌&&◌, nat_eq, if◌then◌else◌, List, [], get_or, Option, Some, None, refl, sym, ap, ◌∙◌, arith}
use Rattle.std.specs.Prelude.{position}
use Rattle.std.specs.Str.{bytes_eq}
use Rattle.std.proofs.lemmas.Bool.{false≢true}
use Rattle.std.proofs.lemmas.Bool.Decides.{nat_tests}
use Rattle.std.proofs.lemmas.List.Quantifiers.{position-Some}
use Rattle.std.proofs.lemmas.Slice.Eq.{bytes_eq-Decides}
use Rattle.frame_things.specs.Members.{number_in, slots_in, put_slot, under_number, under, puts}
use Rattle.frame_things.specs.declared.members.MemberNames.{MemberNames}
use Rattle.frame_things.specs.declared.members.Slots.{Slots}

true_or_false : (b : Bool) → (b ≡ true) ⊎ (b ≡ false)
true_or_false true = inl refl
true_or_false false = inr refl

bytes_same : (a b : List ℕ) → bytes_eq a b ≡ true → a ≡ b
bytes_same a b e = (bytes_eq-Decides a b).0 e

same_bytes : (a b : List ℕ) → a ≡ b → bytes_eq a b ≡ true
same_bytes a b e = (bytes_eq-Decides a b).1 e

and-false : (b : Bool) → (b && false) ≡ false
and-false true = refl
and-false false = refl

-- two names have one number exactly where they are one name
same-number : (ks : List (List ℕ)) (a b : List ℕ) (m n : ℕ) → position (bytes_eq a) ks ≡ Some m → position (bytes_eq b) ks ≡ Some n → nat_eq m n ≡ bytes_eq a b
same-number ks a b m n at_a at_b = elim (true_or_false (bytes_eq a b)) [
  | inl h ↦ (let is : a ≡ b = bytes_same a b h in
      let both : Some m ≡ Some n = sym at_a ∙ ap (λ x. position (bytes_eq x) ks) is ∙ at_b in
      let numbers : m ≡ n = cc in
      let test : nat_eq m n ≡ true = grind (arith, nat_tests, numbers) in
      test ∙ sym h)
  | inr h ↦ elim (true_or_false (nat_eq m n)) [
    | inl k ↦ (let numbers : m ≡ n = grind (arith, nat_tests, k) in
        let left : a ≡ get_or ks m [] = bytes_same a _ (position-Some (bytes_eq a) ks m [] at_a).1 in
        let right : b ≡ get_or ks n [] = bytes_same b _ (position-Some (bytes_eq b) ks n [] at_b).1 in
        let is : a ≡ b = left ∙ ap (λ i. get_or ks i []) numbers ∙ sym right in
        absurd (false≢true (sym h ∙ same_bytes a b is)))
    | inr k ↦ k ∙ sym h
  ]
]

pub under-put : (names : MemberNames) (before after : Slots) (decl : ℕ) (member : List ℕ) (m place : ℕ) → number_in names member ≡ Some m
    → slots_in after ≡ put_slot (slots_in before) decl m place → puts names before after decl member place
under-put names before after decl member m place has put n q =
    ap (λ f. under_number f n (number_in names q)) put ∙ by_number (number_in names q) refl
  where
    by_number : (o : Option ℕ) → number_in names q ≡ o
        → under_number (put_slot (slots_in before) decl m place) n o ≡ (if (nat_eq decl n && bytes_eq member q) then Some place else under_number (slots_in before) n o)
    by_number None e = elim (true_or_false (bytes_eq member q)) [
      | inl h ↦ (let one : None ≡ Some m = sym e ∙ ap (λ x. number_in names x) (sym (bytes_same member q h)) ∙ has in absurd cc)
      | inr h ↦ sym (ap (λ b. if (nat_eq decl n && b) then Some place else None) h ∙ ap (λ b. if b then Some place else None) (and-false (nat_eq decl n)))
    ]
    by_number (Some j) e =
        ap (λ b. if (nat_eq decl n && b) then Some place else slots_in before (n, j)) (same-number names.names.keys member q m j has e)

-- nothing is under any name yet
pub under-none : (names : MemberNames) (slots : Slots) → slots_in slots ≡ (λ q. None) → (n : ℕ) (q : List ℕ) → under names slots n q ≡ None
under-none names slots none n q = ap (λ f. under_number f n (number_in names q)) none ∙ by_number (number_in names q)
  where
    by_number : (o : Option ℕ) → under_number (λ q. None) n o ≡ None
    by_number None = refl
    by_number (Some j) = refl
