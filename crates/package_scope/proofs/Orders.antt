-- The least break of lists in a row.
use Rattle.std.proofs.Common.{◌≡◌, ℕ, suc, ◌+◌, ◌<◌, ◌⊎◌, inl, inr, Bool, true, false, cond, List, [], ◌∷◌, ◌++◌, Option, Some, None, is_some, refl, sym, ap, ◌∙◌, add-one, length, drop, get_or, arith}
use Rattle.std.specs.Prelude.{flat_map}
use Rattle.name_events.specs.declared.events.Event.{Event}
use Rattle.std.specs.Str.{bytes_eq}
use Rattle.std.proofs.lemmas.Bool.Decides.{nat_tests}
use Rattle.std.proofs.lemmas.List.{drop_more}
use Rattle.std.proofs.lemmas.Slice.Eq.{bytes_eq-Decides}
use Rattle.sv_source.specs.declared.token.Token.{Token}
use Rattle.package_scope.specs.declared.breaks.Break.{Break}
use Rattle.package_scope.specs.declared.table.Table.{Table}
use Rattle.package_scope.specs.Least.{joined, least_over, least_kept, package_or, package_least}
use Rattle.package_scope.specs.Lookup.{own, package_found}
use Rattle.package_scope.specs.Tables.{word}
use Rattle.package_scope.specs.Rules.{breaks_at, breaks_if, package_breaks, is_less, lesser, least, is_kept, kept_breaks, use_breaks, import_breaks, wildcard_breaks, declaration_breaks, repeated_import_breaks, event_breaks, calls_breaks, rest_breaks, further_breaks, all_breaks}

true_or_false : (b : Bool) → (b ≡ true) ⊎ (b ≡ false)
true_or_false true = inl refl
true_or_false false = inr refl

less-less : (a b c : Break) → is_less c b ≡ true → is_less b a ≡ true → is_less c a ≡ true
less-less a b c h k = grind (arith, nat_tests, h, k)

not-less : (a b c : Break) → is_less c b ≡ false → is_less b a ≡ false → is_less c a ≡ false
not-less a b c h k = grind (arith, nat_tests, h, k)

-- the choice between three, by tests of each two
three : (a b c : Break) (ba cb ca : Bool) → (cb ≡ true → ba ≡ true → ca ≡ true) → (cb ≡ false → ba ≡ false → ca ≡ false)
    → is_less b a ≡ ba → is_less c b ≡ cb → is_less c a ≡ ca
    → cond (is_less c (cond ba b a)) c (cond ba b a) ≡ cond (is_less (cond cb c b) a) (cond cb c b) a
three a b c true true ca less not_less is_ba is_cb is_ca =
    ap (λ x. cond x c b) is_cb ∙ sym (ap (λ x. cond x c a) (is_ca ∙ less refl refl))
three a b c true false ca less not_less is_ba is_cb is_ca =
    ap (λ x. cond x c b) is_cb ∙ sym (ap (λ x. cond x b a) is_ba)
three a b c false true ca less not_less is_ba is_cb is_ca = refl
three a b c false false ca less not_less is_ba is_cb is_ca =
    ap (λ x. cond x c a) (is_ca ∙ not_less refl refl) ∙ sym (ap (λ x. cond x b a) is_ba)

pub joined-joined : (a b c : Option Break) → joined (joined a b) c ≡ joined a (joined b c)
joined-joined None b c = refl
joined-joined (Some a) None c = refl
joined-joined (Some a) (Some b) None = refl
joined-joined (Some a) (Some b) (Some c) =
    ap Some (three a b c (is_less b a) (is_less c b) (is_less c a)
    (λ h k. less-less a b c h k) (λ h k. not-less a b c h k) refl refl refl)

joined-none : (a : Option Break) → joined a None ≡ a
joined-none None = refl
joined-none (Some a) = refl

pub least-append : (xs ys : List Break) → least (xs ++ ys) ≡ joined (least xs) (least ys)
least-append [] ys = refl
least-append (x ∷ xs) ys = ap (λ o. lesser x o) (least-append xs ys) ∙ sym (joined-joined (Some x) (least xs) (least ys))

over-from : {A : Type 0} (f : A → List Break) (known : Option Break) (xs : List A) → least_over f known xs ≡ joined known (least (flat_map f xs))
over-from f known [] = sym (joined-none known)
over-from f known (x ∷ xs) =
    over-from f (joined known (least (f x))) xs
    ∙ joined-joined known (least (f x)) (least (flat_map f xs))
    ∙ ap (λ o. joined known o) (sym (least-append (f x) (flat_map f xs)))

pub over-is : {A : Type 0} (f : A → List Break) (xs : List A) → least_over f None xs ≡ least (flat_map f xs)
over-is f xs = over-from f None xs

kept-from : (known : Option Break) (at : ℕ) (ks : List Token) → least_kept known at ks ≡ joined known (least (kept_breaks at ks))
kept-from known at [] = sym (joined-none known)
kept-from known at (k ∷ ks) =
    kept-from (joined known (least (breaks_if (is_kept k) 404 at))) (suc at) ks
    ∙ joined-joined known (least (breaks_if (is_kept k) 404 at)) (least (kept_breaks (suc at) ks))
    ∙ ap (λ o. joined known o) (sym (least-append (breaks_if (is_kept k) 404 at) (kept_breaks (suc at) ks)))

pub kept-is : (ks : List Token) → least_kept None 0 ks ≡ least (kept_breaks 0 ks)
kept-is ks = kept-from None 0 ks

-- the break of a package's name, or of what stands behind it
behind-is : (t : Table) (holder n : ℕ) (bs : List Break) (b : Bool) → cond b (least bs) (least (breaks_at 404 holder)) ≡ least (cond b bs (breaks_at 404 holder))
behind-is t holder n bs true = refl
behind-is t holder n bs false = refl

package-or-is : (t : Table) (holder : ℕ) (bs : List Break) (o : Option ℕ) → package_or t holder (least bs) o ≡ least (elim o [
  | None ↦ breaks_at 401 holder
  | Some n ↦ cond (is_some (package_found t (Some n))) bs (breaks_at 404 holder)
])
package-or-is t holder bs None = refl
package-or-is t holder bs (Some n) = behind-is t holder n bs (is_some (package_found t (Some n)))

pub package-is : (ts : List Token) (t : Table) (holder : ℕ) (bs : List Break) → package_least ts t holder (least bs) ≡ least (package_breaks ts t holder bs)
package-is ts t holder bs = package-or-is t holder bs (own t 0 (word ts holder) holder)

-- all breaks
pub kept-more : (ks : List Token) (at : ℕ) (k : Token) (known new : Option Break) → at < length ks → k ≡ get_or ks at k → new ≡ joined known (least (breaks_if (is_kept k) 404 at))
    → least_kept new (at + 1) (drop (at + 1) ks) ≡ least_kept known at (drop at ks)
kept-more ks at k known new within is joins =
    ap (λ o. least_kept o (at + 1) (drop (at + 1) ks)) joins
    ∙ ap (λ n. least_kept (joined known (least (breaks_if (is_kept k) 404 at))) n (drop (at + 1) ks)) (add-one at)
    ∙ ap (λ xs. least_kept known at xs) (sym (drop_more ks at k within ∙ ap (λ x. x ∷ drop (at + 1) ks) (sym is)))

pub bytes-swap : (a b : List ℕ) → bytes_eq a b ≡ bytes_eq b a
bytes-swap a b = elim (true_or_false (bytes_eq a b)) [
  | inl h ↦ h ∙ sym ((bytes_eq-Decides b a).1 (sym ((bytes_eq-Decides a b).0 h)))
  | inr h ↦ elim (true_or_false (bytes_eq b a)) [
    | inl k ↦ (bytes_eq-Decides a b).1 (sym ((bytes_eq-Decides b a).0 k)) ∙ sym k
    | inr k ↦ h ∙ sym k
  ]
]

over-append : {A : Type 0} (f : A → List Break) (xs : List A) (ys : List Break) → joined (least_over f None xs) (least ys) ≡ least (flat_map f xs ++ ys)
over-append f xs ys = ap (λ o. joined o (least ys)) (over-is f xs) ∙ sym (least-append (flat_map f xs) ys)

pub further-is : (ts : List Token) (t : Table) → joined (least (calls_breaks ts t)) (least_over (rest_breaks ts t) None t.rests) ≡ least (further_breaks ts t)
further-is ts t =
    ap (λ o. joined (least (calls_breaks ts t)) o) (over-is (rest_breaks ts t) t.rests) ∙ sym (least-append (calls_breaks ts t) (flat_map (rest_breaks ts t) t.rests))

pub all-is : (ts : List Token) (t : Table) (es : List Event) (c : Option Break) → c ≡ least (further_breaks ts t) →
    joined (least_over (use_breaks ts t) None t.uses)
    (joined (least_over (import_breaks ts t) None t.named)
    (joined (least_over (wildcard_breaks ts t) None t.wildcards)
    (joined (joined (least_over (declaration_breaks t) None t.declared) (least_over (repeated_import_breaks t) None t.named))
    (joined (least_over (event_breaks ts t) None es)
    (joined (least_kept None 0 ts) c)))))
    ≡ least (all_breaks ts t es)
unfolding all_breaks
all-is ts t es c is =
    ap (λ o. joined (least_over (use_breaks ts t) None t.uses) o)
    (ap (λ o. joined (least_over (import_breaks ts t) None t.named) o)
    (ap (λ o. joined (least_over (wildcard_breaks ts t) None t.wildcards) o)
    (joined-joined (least_over (declaration_breaks t) None t.declared) (least_over (repeated_import_breaks t) None t.named) _
    ∙ ap (λ o. joined (least_over (declaration_breaks t) None t.declared) o)
    (ap (λ o. joined (least_over (repeated_import_breaks t) None t.named) o)
    (ap (λ o. joined (least_over (event_breaks ts t) None es) o)
    (ap (λ o. joined o c) (kept-is ts) ∙ ap (λ o. joined (least (kept_breaks 0 ts)) o) is
    ∙ sym (least-append (kept_breaks 0 ts) (further_breaks ts t)))
    ∙ over-append (event_breaks ts t) es _)
    ∙ over-append (repeated_import_breaks t) t.named _)
    ∙ over-append (declaration_breaks t) t.declared _)
    ∙ over-append (wildcard_breaks ts t) t.wildcards _)
    ∙ over-append (import_breaks ts t) t.named _)
    ∙ over-append (use_breaks ts t) t.uses _

-- the same by the parts that a search has found
pub all-from : (ts : List Token) (t : Table) (es : List Event) (u i w d o k c f g h j l r : Option Break)
    → u ≡ least_over (use_breaks ts t) None t.uses
    → i ≡ least_over (import_breaks ts t) None t.named
    → w ≡ least_over (wildcard_breaks ts t) None t.wildcards
    → d ≡ joined (least_over (declaration_breaks t) None t.declared) (least_over (repeated_import_breaks t) None t.named)
    → o ≡ least_over (event_breaks ts t) None es
    → k ≡ least_kept None 0 ts
    → c ≡ least (further_breaks ts t)
    → f ≡ joined k c → g ≡ joined o f → h ≡ joined d g → j ≡ joined w h → l ≡ joined i j → r ≡ joined u l
    → r ≡ least (all_breaks ts t es)
all-from ts t es u i w d o k c f g h j l r is_u is_i is_w is_d is_o is_k is_c is_f is_g is_h is_j is_l is_r =
    let f_is : f ≡ joined (least_kept None 0 ts) c = is_f ∙ ap (λ x. joined x c) is_k in
    let g_is : g ≡ joined (least_over (event_breaks ts t) None es) (joined (least_kept None 0 ts) c) = is_g ∙ ap (λ x. joined x f) is_o ∙ ap (λ x. joined (least_over (event_breaks ts t) None es) x) f_is in
    let h_is = is_h ∙ ap (λ x. joined x g) is_d ∙ ap (λ x. joined (joined (least_over (declaration_breaks t) None t.declared) (least_over (repeated_import_breaks t) None t.named)) x) g_is in
    let j_is = is_j ∙ ap (λ x. joined x h) is_w ∙ ap (λ x. joined (least_over (wildcard_breaks ts t) None t.wildcards) x) h_is in
    let l_is = is_l ∙ ap (λ x. joined x j) is_i ∙ ap (λ x. joined (least_over (import_breaks ts t) None t.named) x) j_is in
    is_r ∙ ap (λ x. joined x l) is_u ∙ ap (λ x. joined (least_over (use_breaks ts t) None t.uses) x) l_is
    ∙ all-is ts t es c is_c

pub ruleset joining = (least-append)

pub ruleset packaging = (package-is)

pub ruleset covering = (over-is)
