-- What is kept of packages, one more thing at a time.
use Rattle.std.proofs.Common.{◌≡◌, ℕ, ◌+◌, ◌<◌, ◌≤◌, Bool, true, false, ◌&&◌, nat_eq, cond, if◌then◌else◌, List, [], ◌∷◌, ◌++◌, length, drop, get_or, Option, Some, None, refl, sym, ap, ◌∙◌, append_assoc, arith}
use Rattle.std.specs.Prelude.{position}
use Rattle.std.specs.Str.{bytes_eq}
use Rattle.std.proofs.lemmas.Bool.{false≢true}
use Rattle.std.proofs.lemmas.Bool.Decides.{nat_tests}
use Rattle.std.proofs.lemmas.List.{drop_more, drop_all}
use Rattle.std.proofs.lemmas.Slice.Eq.{bytes_eq-Decides}
use Rattle.package_scope.specs.Earliest.{sooner}
use Rattle.package_scope.specs.Index.{number_in, slots_in, put_slot}
use Rattle.package_scope.specs.Lookup.{package_scope, stands_in}
use Rattle.package_scope.specs.Packages.{same_scope, start_if, start_from, puts_start, holders_from, with_holder, of_number}
use Rattle.package_scope.specs.declared.names.Names.{Names}
use Rattle.package_scope.specs.declared.names.Slots.{Slots}
use Rattle.package_scope.specs.declared.table.Declaration.{Declaration}
use Rattle.package_scope.specs.declared.table.Table.{Table}
use Rattle.package_scope.specs.declared.table.WildcardImport.{WildcardImport}
use Rattle.package_scope.proofs.Slots.{same-number}

and-false : (b : Bool) → (b && false) ≡ false
and-false true = refl
and-false false = refl

and-left : (a b : Bool) → (a && b) ≡ true → a ≡ true
and-left true b e = refl
and-left false b e = absurd (false≢true e)

and-right : (a b : Bool) → (a && b) ≡ true → b ≡ true
and-right true b e = e
and-right false b e = absurd (false≢true e)

-- an import of all names of a package that is there, and of one that isn't
pub start-put : (t : Table) (before after : Slots) (i : WildcardImport) (q v : ℕ) → package_scope t i.source i.source_at ≡ Some q
    → v ≡ sooner i.at (slots_in before (i.scope, q)) → slots_in after ≡ put_slot (slots_in before) i.scope q v → puts_start t before after i
start-put t before after i q v has is put s p =
    ap (λ f. f (s, p)) put
    ∙ by (nat_eq i.scope s && nat_eq q p) refl
    ∙ sym (ap (λ o. start_if (stands_in s i && same_scope o p) i.at (slots_in before (s, p))) has)
  where
    by : (b : Bool) → (nat_eq i.scope s && nat_eq q p) ≡ b
        → (if (nat_eq i.scope s && nat_eq q p) then Some v else slots_in before (s, p)) ≡ start_if (nat_eq i.scope s && nat_eq q p) i.at (slots_in before (s, p))
    by true h =
        let left : nat_eq i.scope s ≡ true = and-left (nat_eq i.scope s) (nat_eq q p) h in
        let right : nat_eq q p ≡ true = and-right (nat_eq i.scope s) (nat_eq q p) h in
        let scope : i.scope ≡ s = grind (arith, nat_tests, left) in
        let holder : q ≡ p = grind (arith, nat_tests, right) in
        ap (λ b. if b then Some v else slots_in before (s, p)) h
        ∙ ap Some (is ∙ ap (λ x. sooner i.at (slots_in before (x, q))) scope ∙ ap (λ x. sooner i.at (slots_in before (s, x))) holder)
        ∙ sym (ap (λ b. start_if b i.at (slots_in before (s, p))) h)
    by false h =
        ap (λ b. if b then Some v else slots_in before (s, p)) h ∙ sym (ap (λ b. start_if b i.at (slots_in before (s, p))) h)

pub start-skip : (t : Table) (slots : Slots) (i : WildcardImport) → package_scope t i.source i.source_at ≡ None → puts_start t slots slots i
start-skip t slots i none s p =
    sym (ap (λ o. start_if (stands_in s i && same_scope o p) i.at (slots_in slots (s, p))) none
    ∙ ap (λ b. start_if b i.at (slots_in slots (s, p))) (and-false (stands_in s i)))

pub start-step : (t : Table) (before after : Slots) (is : List WildcardImport) (at k : ℕ) (i : WildcardImport) → k + 1 ≡ at → k < length is → i ≡ get_or is k i
    → ((s p : ℕ) → slots_in before (s, p) ≡ start_from t s p (drop at is)) → puts_start t before after i
    → (s p : ℕ) → slots_in after (s, p) ≡ start_from t s p (drop k is)
start-step t before after is at k i next within at_k so_far put s p =
    let rest : drop k is ≡ i ∷ drop (k + 1) is = drop_more is k i within ∙ ap (λ x. x ∷ drop (k + 1) is) (sym at_k) in
    put s p
    ∙ ap (start_if (stands_in s i && same_scope (package_scope t i.source i.source_at) p) i.at) (so_far s p ∙ ap (λ n. start_from t s p (drop n is)) (sym next))
    ∙ ap (start_from t s p) (sym rest)

pub start-none : (t : Table) (slots : Slots) (is : List WildcardImport) (at : ℕ) → slots_in slots ≡ (λ q. None) → length is ≤ at
    → (s p : ℕ) → slots_in slots (s, p) ≡ start_from t s p (drop at is)
start-none t slots is at none past s p = ap (λ f. f (s, p)) none ∙ ap (start_from t s p) (sym (drop_all at is past))

-- one more declaration behind the others of its name
pub holder-push : (names : Names) (before after : ℕ → List ℕ) (ds : List Declaration) (k : ℕ) (d : Declaration) (n : ℕ) → k < length ds → d ≡ get_or ds k d
    → number_in names d.name ≡ Some n → after ≡ with_holder before n d.scope
    → ((q : List ℕ) → of_number before (number_in names q) ++ holders_from q (drop k ds) ≡ holders_from q ds)
    → (q : List ℕ) → of_number after (number_in names q) ++ holders_from q (drop (k + 1) ds) ≡ holders_from q ds
holder-push names before after ds k d n within is has put so_far q =
    let rest : drop k ds ≡ d ∷ drop (k + 1) ds = drop_more ds k d within ∙ ap (λ x. x ∷ drop (k + 1) ds) (sym is) in
    ap (λ f. of_number f (number_in names q) ++ further) put
    ∙ by_number (number_in names q) refl
    ∙ ap (λ xs. of_number before (number_in names q) ++ holders_from q xs) (sym rest)
    ∙ so_far q
  where
    further : List ℕ
    further = holders_from q (drop (k + 1) ds)

    unnamed : (b : Bool) → bytes_eq d.name q ≡ b → number_in names q ≡ None → further ≡ cond b (d.scope ∷ further) further
    unnamed true h e =
        let same : d.name ≡ q = (bytes_eq-Decides d.name q).0 h in
        let one : None ≡ Some n = sym e ∙ ap (λ x. number_in names x) (sym same) ∙ has in
        absurd cc
    unnamed false h e = refl

    numbered : (m : ℕ) (b : Bool) → nat_eq n m ≡ b → (if b then before n ++ d.scope ∷ [] else before m) ++ further ≡ before m ++ cond b (d.scope ∷ further) further
    numbered m true h =
        let same : n ≡ m = grind (arith, nat_tests, h) in
        ap (λ x. (before x ++ d.scope ∷ []) ++ further) same ∙ append_assoc (before m) (d.scope ∷ []) further
    numbered m false h = refl

    by_number : (o : Option ℕ) → number_in names q ≡ o
        → of_number (with_holder before n d.scope) o ++ further ≡ of_number before o ++ cond (bytes_eq d.name q) (d.scope ∷ further) further
    by_number None e = unnamed (bytes_eq d.name q) refl e
    by_number (Some m) e =
        numbered m (nat_eq n m) refl
        ∙ ap (λ b. before m ++ cond b (d.scope ∷ further) further) (same-number names.names.keys d.name q n m has e)

pub holder-none : (names : Names) (lists : ℕ → List ℕ) → lists ≡ (λ n. []) → (q : List ℕ) (xs : List ℕ) → of_number lists (number_in names q) ++ xs ≡ xs
holder-none names lists none q xs = ap (λ f. of_number f (number_in names q) ++ xs) none ∙ by_number (number_in names q)
  where
    by_number : (o : Option ℕ) → of_number (λ n. []) o ++ xs ≡ xs
    by_number None = refl
    by_number (Some n) = refl
