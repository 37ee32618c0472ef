-- A list of formals that is read in part.
use Rattle.std.proofs.Common.{◌≡◌, ℕ, ◌+◌, ◌-◌, ◌<◌, ◌≤◌, List, ◌∷◌, ◌++◌, length, drop, get_or, Option, Some, None, if◌then◌else◌, sym, ap, ◌∙◌, arith}
use Rattle.std.proofs.lemmas.List.{drop_more, drop_all}
use Rattle.std.specs.Str.{bytes_eq}
use Rattle.sv_macro.specs.Macros.{formal_number}
use Rattle.sv_macro.specs.declared.definition.Formals.{Formals}
use Rattle.sv_macro.specs.declared.definition.Formals.TheVariants.{Listed, Departs, Ends}

-- these names and so many tokens stand before
abbrev pub behind_formals : List (List ℕ) → ℕ → Formals → Formals
behind_formals before count (Listed names taken) = Listed (before ++ names) (count + taken)
behind_formals before count (Departs t) = Departs t
behind_formals before count Ends = Ends

-- the numbers of the formals from one on
abbrev pub numbers_from : ℕ → List (List ℕ) → List ℕ → Option ℕ
numbers_from at formals = λ name. formal_number at (drop at formals) name

abbrev pub no_numbers : List ℕ → Option ℕ
no_numbers name = None

-- one more name before others
abbrev pub one_number : List ℕ → ℕ → (List ℕ → Option ℕ) → List ℕ → Option ℕ
one_number name k numbers = λ q. if bytes_eq name q then Some k else numbers q

abbrev Numbering : Type 0
Numbering = List ℕ → Option ℕ

pub numbers_none : (formals : List (List ℕ)) (at : ℕ) → length formals ≤ at → no_numbers ≡ numbers_from at formals
numbers_none formals at past = ap {B = Numbering} (λ rest. (λ name. formal_number at rest name)) (sym (drop_all at formals past))

pub numbers_one : (formals : List (List ℕ)) (at k : ℕ) (name : List ℕ) → k + 1 ≡ at → k < length formals → name ≡ get_or formals k name →
    one_number name k (numbers_from at formals) ≡ numbers_from k formals
numbers_one formals at k name next within is =
    let rest : drop k formals ≡ name ∷ drop (k + 1) formals = drop_more formals k name within ∙ ap (λ f. f ∷ drop (k + 1) formals) (sym is) in
    ap {B = Numbering} (λ n. one_number name k (numbers_from n formals)) (sym next)
    ∙ ap {B = Numbering} (λ fs. (λ q. formal_number k fs q)) (sym rest)

pub numbers_whole : (formals : List (List ℕ)) (at : ℕ) → at ≡ 0 → numbers_from at formals ≡ (λ name. formal_number 0 formals name)
numbers_whole formals at none = ap {B = Numbering} (λ n. (λ name. formal_number n (drop n formals) name)) none

-- a name is put before the others
pub numbers_put : (formals : List (List ℕ)) (before after : List ℕ → Option ℕ) (at : ℕ) (copy name : List ℕ) → 0 < at → at ≤ length formals → copy ≡ name → name ≡ get_or formals (at - 1) name →
    before ≡ numbers_from at formals → after ≡ one_number copy (at - 1) before → after ≡ numbers_from (at - 1) formals
numbers_put formals before after at copy name some within same is so_far put =
    put
    ∙ ap {B = Numbering} (λ c. one_number c (at - 1) before) same
    ∙ ap {B = Numbering} (λ b. one_number name (at - 1) b) so_far
    ∙ numbers_one formals at (at - 1) name (omega arith) (omega arith) is
