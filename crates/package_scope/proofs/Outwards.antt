-- One scope further out, and one scope further on.
use Rattle.std.proofs.Common.{◌≡◌, ℕ, suc, ◌+◌, ◌<◌, false, nat_eq, cond, List, ◌∷◌, length, drop, get_or, sym, ap, ◌∙◌, add-one}
use Rattle.std.proofs.lemmas.List.{drop_more}
use Rattle.package_scope.specs.Innermost.{holds, last_holder}
use Rattle.package_scope.specs.Lookup.{in_scope, or_outer, unless_last, outwards}
use Rattle.package_scope.specs.Tables.{outer}
use Rattle.package_scope.specs.declared.table.Found.TheVariants.{Absent}
use Rattle.package_scope.specs.declared.table.Scope.{Scope}
use Rattle.package_scope.specs.declared.table.Table.{Table}

pub one-out : (t : Table) (left more s around : ℕ) (name : List ℕ) (token : ℕ) → left ≡ more + 1 → in_scope t s name token ≡ Absent → nat_eq s 0 ≡ false → around ≡ outer t.scopes s
    → outwards t more around name token ≡ outwards t left s name token
one-out t left more s around name token next absent inner is =
    ap (λ x. outwards t more x name token) is
    ∙ sym (ap (λ n. outwards t n s name token) (next ∙ add-one more)
    ∙ ap (λ f. or_outer f (unless_last (nat_eq s 0) (outwards t more (outer t.scopes s) name token))) absent
    ∙ ap (λ b. unless_last b (outwards t more (outer t.scopes s) name token)) inner)

pub holder-more : (ss : List Scope) (n token : ℕ) (s : Scope) (known new : ℕ) → n < length ss → s ≡ get_or ss n s → new ≡ cond (holds token s) n known
    → last_holder new (n + 1) token (drop (n + 1) ss) ≡ last_holder known n token (drop n ss)
holder-more ss n token s known new within is chosen =
    ap (λ k. last_holder k (n + 1) token (drop (n + 1) ss)) chosen
    ∙ ap (λ m. last_holder (cond (holds token s) n known) m token (drop (n + 1) ss)) (add-one n)
    ∙ ap (last_holder known n token) (sym (drop_more ss n s within ∙ ap (λ x. x ∷ drop (n + 1) ss) (sym is)))
