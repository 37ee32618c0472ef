-- The first use at a token stands at its place.
use Rattle.std.proofs.Common.{◌≡◌, ℕ, suc, ◌+◌, ◌<◌, Bool, true, false, nat_eq, if◌then◌else◌, cond, List, [], ◌∷◌, length, drop, get_or, Option, Some, None, refl, sym, ap, ◌∙◌, arith}
use Rattle.std.specs.Prelude.{slice_get}
use Rattle.package_scope.specs.Rules.{use_at, use_or}
use Rattle.package_scope.specs.declared.table.Use.{Use}
use Rattle.std.proofs.lemmas.Option.{slice_get-get_or}
use Rattle.frame_things.specs.Places.{place_from, put_place, first_by}
use Rattle.frame_things.proofs.Placing.{place-put}
use Rattle.frame_things.proofs.Standing.{nowhere, at-place}
use Rattle.sv_tree.specs.declared.units.SourceTree.{SourceTree}
use Rattle.package_scope.specs.declared.table.Declaration.{Declaration}
use Rattle.package_scope.specs.declared.table.Table.{Table}
use Rattle.frame_texts.specs.Frames.{number_from}
use Rattle.typing_names.specs.Scopes.{declaration_number, use_number}

use-first : (q : ℕ) (us : List Use) → use_at q us ≡ first_by (λ (u : Use). nat_eq (use_number u) q) us
use-first q [] = refl
use-first q (u ∷ us) = by_test (nat_eq u.at q) (use_at q us) (first_by (λ (u : Use). nat_eq (use_number u) q) us) (use-first q us)
  where
    by_test : (b : Bool) (o f : Option Use) → o ≡ f → use_or b u o ≡ (if b then Some u else f)
    by_test true o f e = refl
    by_test false o f e = e

pub no-use : (q : ℕ) (us : List Use) → place_from use_number 0 q us ≡ None → None ≡ use_at q us
no-use q us e = sym (use-first q us ∙ nowhere (λ (u : Use). nat_eq (use_number u) q) 0 us e)

pub use-there : (q p : ℕ) (us : List Use) (r : Option Use) → r ≡ slice_get us p → place_from use_number 0 q us ≡ Some p → r ≡ use_at q us
use-there q p us r read e = read ∙ at-place (λ (u : Use). nat_eq (use_number u) q) p us e ∙ sym (use-first q us)

-- one more thing before others
pub one-put : {T : Type 0} (number : T → ℕ) (before after : ℕ → Option ℕ) (xs : List T) (at k : ℕ) (d : T) → k + 1 ≡ at → k < length xs → after ≡ put_place before (number (get_or xs k d)) k
    → ((q : ℕ) → before q ≡ place_from number at q (drop at xs)) → (q : ℕ) → after q ≡ place_from number k q (drop k xs)
one-put {T = T} number before after xs at k d next within put so_far =
    let x : T = get_or xs k d in
    let this : slice_get xs k ≡ Some x = slice_get-get_or xs k d within in
    let that : slice_get xs k ≡ Some (get_or xs k x) = slice_get-get_or xs k x within in
    let both : Some x ≡ Some (get_or xs k x) = sym this ∙ that in
    let same : x ≡ get_or xs k x = cc in
    place-put number before after xs at k x (number x) next within same refl put so_far

-- the number of a declaration is its place
abbrev or_count : Option ℕ → ℕ → ℕ
or_count None n = n
or_count (Some p) n = p

number-step : (k n : ℕ) (b : Bool) (m : ℕ) (o : Option ℕ) (count later : ℕ) → m ≡ or_count o later → later ≡ count → cond b k m ≡ or_count (if b then Some k else o) count
number-step k n true m o count later e same = refl
number-step k n false m o count later e same = e ∙ ap (or_count o) same

number-place : (tree : SourceTree) (t : Table) (k q : ℕ) (ds : List Declaration) → number_from tree t k q ds ≡ or_count (place_from declaration_number k q ds) (k + length ds)
number-place tree t k q [] = omega arith
number-place tree t k q (d ∷ ds) =
    number-step k q (nat_eq d.at q) (number_from tree t (suc k) q ds) (place_from declaration_number (suc k) q ds) (k + suc (length ds)) (suc k + length ds)
    (number-place tree t (suc k) q ds) (omega arith)

pub number-there : (tree : SourceTree) (t : Table) (q p : ℕ) (ds : List Declaration) → place_from declaration_number 0 q ds ≡ Some p → p ≡ number_from tree t 0 q ds
number-there tree t q p ds e = sym (number-place tree t 0 q ds ∙ ap (λ o. or_count o (0 + length ds)) e)

pub number-none : (tree : SourceTree) (t : Table) (q : ℕ) (ds : List Declaration) → place_from declaration_number 0 q ds ≡ None → length ds ≡ number_from tree t 0 q ds
number-none tree t q ds e =
    let start : length ds ≡ 0 + length ds = omega arith in
    start ∙ sym (number-place tree t 0 q ds ∙ ap (λ o. or_count o (0 + length ds)) e)
