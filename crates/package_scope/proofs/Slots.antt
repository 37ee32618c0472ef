-- What is put under names in scopes, from the last thing to the first one.
use Rattle.std.proofs.Common.{◌≡◌, ℕ, suc, ◌+◌, ◌<◌, ◌≤◌, ◌⊎◌, inl, inr, Bool, true, false, ◌&&◌, nat_eq, if◌then◌else◌, List, [], ◌∷◌, length, drop, get_or, Option, Some, None, refl, sym, ap, ◌∙◌, add-one, arith}
use Rattle.std.specs.Prelude.{position}
use Rattle.std.specs.Str.{bytes_eq}
use Rattle.std.proofs.lemmas.Bool.{false≢true}
use Rattle.std.proofs.lemmas.Bool.Decides.{nat_tests}
use Rattle.std.proofs.lemmas.List.{drop_more, drop_all}
use Rattle.std.proofs.lemmas.List.Quantifiers.{position-Some}
use Rattle.std.proofs.lemmas.Slice.Eq.{bytes_eq-Decides}
use Rattle.package_scope.specs.Index.{number_in, slots_in, put_slot, under_number, under, puts, puts_everywhere}
use Rattle.package_scope.specs.Lookup.{or_later, is_named, first_from, is_everywhere, everywhere_from, imports_it, import_from}
use Rattle.package_scope.specs.declared.names.Names.{Names}
use Rattle.package_scope.specs.declared.names.Slots.{Slots}
use Rattle.package_scope.specs.declared.table.Declaration.{Declaration}
use Rattle.package_scope.specs.declared.table.NamedImport.{NamedImport}

true_or_false : (b : Bool) → (b ≡ true) ⊎ (b ≡ false)
true_or_false true = inl refl
true_or_false false = inr refl

bytes_same : (a b : List ℕ) → bytes_eq a b ≡ true → a ≡ b
bytes_same a b e = (bytes_eq-Decides a b).0 e

same_bytes : (a b : List ℕ) → a ≡ b → bytes_eq a b ≡ true
same_bytes a b e = (bytes_eq-Decides a b).1 e

and-false : (b : Bool) → (b && false) ≡ false
and-false true = refl
and-false false = refl

if-or-later : (b : Bool) (v : ℕ) (x : Option ℕ) → (if b then Some v else x) ≡ or_later b v x
if-or-later true v x = refl
if-or-later false v x = refl

-- two names have one number exactly where they are one name
pub same-number : (ks : List (List ℕ)) (a b : List ℕ) (m n : ℕ) → position (bytes_eq a) ks ≡ Some m → position (bytes_eq b) ks ≡ Some n → nat_eq m n ≡ bytes_eq a b
same-number ks a b m n at_a at_b = elim (true_or_false (bytes_eq a b)) [
  | inl h ↦ (let is : a ≡ b = bytes_same a b h in
      let both : Some m ≡ Some n = sym at_a ∙ ap (λ x. position (bytes_eq x) ks) is ∙ at_b in
      let numbers : m ≡ n = cc in
      let test : nat_eq m n ≡ true = grind (arith, nat_tests, numbers) in
      test ∙ sym h)
  | inr h ↦ elim (true_or_false (nat_eq m n)) [
    | inl k ↦ (let numbers : m ≡ n = grind (arith, nat_tests, k) in
        let left : a ≡ get_or ks m [] = bytes_same a _ (position-Some (bytes_eq a) ks m [] at_a).1 in
        let right : b ≡ get_or ks n [] = bytes_same b _ (position-Some (bytes_eq b) ks n [] at_b).1 in
        let is : a ≡ b = left ∙ ap (λ i. get_or ks i []) numbers ∙ sym right in
        absurd (false≢true (sym h ∙ same_bytes a b is)))
    | inr k ↦ k ∙ sym h
  ]
]

pub under-put : (names : Names) (before after : Slots) (scope : ℕ) (name : List ℕ) (n v : ℕ) → number_in names name ≡ Some n
    → slots_in after ≡ put_slot (slots_in before) scope n v → puts names before after scope name v
under-put names before after scope name n v has put s q =
    ap (λ f. under_number f s (number_in names q)) put ∙ by_number (number_in names q) refl
  where
    by_number : (o : Option ℕ) → number_in names q ≡ o → under_number (put_slot (slots_in before) scope n v) s o ≡ or_later (nat_eq scope s && bytes_eq name q) v (under_number (slots_in before) s o)
    by_number None e = elim (true_or_false (bytes_eq name q)) [
      | inl h ↦ (let one : None ≡ Some n = sym e ∙ ap (λ x. number_in names x) (sym (bytes_same name q h)) ∙ has in absurd cc)
      | inr h ↦ sym (ap (λ b. or_later (nat_eq scope s && b) v None) h ∙ ap (λ b. or_later b v None) (and-false (nat_eq scope s)))
    ]
    by_number (Some m) e =
        ap (λ b. if (nat_eq scope s && b) then Some v else slots_in before (s, m)) (same-number names.names.keys name q n m has e)
        ∙ if-or-later (nat_eq scope s && bytes_eq name q) v (slots_in before (s, m))

-- one more declaration before others
pub first-put : (names : Names) (before after : Slots) (ds : List Declaration) (at k : ℕ) (d : Declaration) → k + 1 ≡ at → k < length ds → d ≡ get_or ds k d
    → ((s : ℕ) (q : List ℕ) → under names before s q ≡ first_from at s q (drop at ds)) → puts names before after d.scope d.name k
    → (s : ℕ) (q : List ℕ) → under names after s q ≡ first_from k s q (drop k ds)
first-put names before after ds at k d next within is so_far put s q =
    let rest : drop k ds ≡ d ∷ drop (k + 1) ds = drop_more ds k d within ∙ ap (λ x. x ∷ drop (k + 1) ds) (sym is) in
    let later : under names before s q ≡ first_from (suc k) s q (drop (k + 1) ds) = so_far s q ∙ ap (λ n. first_from n s q (drop n ds)) (sym next) ∙ ap (λ n. first_from n s q (drop (k + 1) ds)) (add-one k) in
    put s q ∙ ap (λ o. or_later (is_named s q d) k o) later ∙ ap (λ xs. first_from k s q xs) (sym rest)

pub import-put : (names : Names) (before after : Slots) (ds : List NamedImport) (at k : ℕ) (d : NamedImport) → k + 1 ≡ at → k < length ds → d ≡ get_or ds k d
    → ((s : ℕ) (q : List ℕ) → under names before s q ≡ import_from at s q (drop at ds)) → puts names before after d.scope d.name k
    → (s : ℕ) (q : List ℕ) → under names after s q ≡ import_from k s q (drop k ds)
import-put names before after ds at k d next within is so_far put s q =
    let rest : drop k ds ≡ d ∷ drop (k + 1) ds = drop_more ds k d within ∙ ap (λ x. x ∷ drop (k + 1) ds) (sym is) in
    let later : under names before s q ≡ import_from (suc k) s q (drop (k + 1) ds) = so_far s q ∙ ap (λ n. import_from n s q (drop n ds)) (sym next) ∙ ap (λ n. import_from n s q (drop (k + 1) ds)) (add-one k) in
    put s q ∙ ap (λ o. or_later (imports_it s q d) k o) later ∙ ap (λ xs. import_from k s q xs) (sym rest)

-- one more declaration, which is visible everywhere or isn't
and-true : (b : Bool) → (b && true) ≡ b
and-true true = refl
and-true false = refl

pub everywhere-put : (names : Names) (before after : Slots) (d : Declaration) (v : ℕ) → is_everywhere d.what ≡ true → puts names before after d.scope d.name v → puts_everywhere names before after d v
everywhere-put names before after d v holds put s q =
    put s q ∙ ap (λ b. or_later b v (under names before s q)) (sym (ap (λ b. is_named s q d && b) holds ∙ and-true (is_named s q d)))

pub everywhere-skip : (names : Names) (slots : Slots) (d : Declaration) (v : ℕ) → is_everywhere d.what ≡ false → puts_everywhere names slots slots d v
everywhere-skip names slots d v fails s q =
    sym (ap (λ b. or_later b v (under names slots s q)) (ap (λ b. is_named s q d && b) fails ∙ and-false (is_named s q d)))

pub everywhere-step : (names : Names) (before after : Slots) (ds : List Declaration) (at k : ℕ) (d : Declaration) → k + 1 ≡ at → k < length ds → d ≡ get_or ds k d
    → ((s : ℕ) (q : List ℕ) → under names before s q ≡ everywhere_from at s q (drop at ds)) → puts_everywhere names before after d k
    → (s : ℕ) (q : List ℕ) → under names after s q ≡ everywhere_from k s q (drop k ds)
everywhere-step names before after ds at k d next within is so_far put s q =
    let rest : drop k ds ≡ d ∷ drop (k + 1) ds = drop_more ds k d within ∙ ap (λ x. x ∷ drop (k + 1) ds) (sym is) in
    let later : under names before s q ≡ everywhere_from (suc k) s q (drop (k + 1) ds) = so_far s q ∙ ap (λ n. everywhere_from n s q (drop n ds)) (sym next) ∙ ap (λ n. everywhere_from n s q (drop (k + 1) ds)) (add-one k) in
    put s q ∙ ap (λ o. or_later (is_named s q d && is_everywhere d.what) k o) later ∙ ap (λ xs. everywhere_from k s q xs) (sym rest)

-- nothing is under any name yet
pub under-none : (names : Names) (slots : Slots) → slots_in slots ≡ (λ q. None) → (s : ℕ) (q : List ℕ) → under names slots s q ≡ None
under-none names slots none s q = ap (λ f. under_number f s (number_in names q)) none ∙ by_number (number_in names q)
  where
    by_number : (o : Option ℕ) → under_number (λ q. None) s o ≡ None
    by_number None = refl
    by_number (Some n) = refl

pub first-none : (ds : List Declaration) (at : ℕ) → length ds ≤ at → (s : ℕ) (q : List ℕ) → first_from at s q (drop at ds) ≡ None
first-none ds at past s q = ap (λ xs. first_from at s q xs) (drop_all at ds past)

pub everywhere-none : (ds : List Declaration) (at : ℕ) → length ds ≤ at → (s : ℕ) (q : List ℕ) → everywhere_from at s q (drop at ds) ≡ None
everywhere-none ds at past s q = ap (λ xs. everywhere_from at s q xs) (drop_all at ds past)

pub import-none : (ds : List NamedImport) (at : ℕ) → length ds ≤ at → (s : ℕ) (q : List ℕ) → import_from at s q (drop at ds) ≡ None
import-none ds at past s q = ap (λ xs. import_from at s q xs) (drop_all at ds past)
