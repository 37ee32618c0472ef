-- Changes that are put one after the other.
use Rattle.std.proofs.Common.{◌≡◌, ℕ, ◌+◌, ◌≤◌, List, length, drop, Some, slice_get, refl, sym, ap, ◌∙◌}
use Rattle.std.proofs.lemmas.List.{drop_all}
use Rattle.row_machine.specs.Valuation.{Valuation, Changes, put, put_each}
use Rattle.round_runner.proofs.Elements.{rest_at}

-- those before the i-th element are put
pub record Going {A : Type 0} (c : A → Changes) (xs : List A) (i : ℕ) (base now : Valuation) : Type 0 where
  pub rest : put_each c (drop i xs) now ≡ put_each c xs base

pub going_at_start : {A : Type 0} (c : A → Changes) (xs : List A) (base : Valuation) → Going c xs 0 base base
going_at_start c xs base = record { rest = refl }

pub going_on : {A : Type 0} (c : A → Changes) (xs : List A) (i : ℕ) (x : A) (base now next : Valuation) → slice_get xs i ≡ Some x → next ≡ put (c x) now
    → Going c xs i base now → Going c xs (i + 1) base next
going_on c xs i x base now next e put_is going = record {
  rest =
      ap (put_each c (drop (i + 1) xs)) put_is
      ∙ ap (λ ys. put_each c ys now) (sym (rest_at xs i x e))
      ∙ going.rest;
}

pub gone : {A : Type 0} (c : A → Changes) (xs : List A) (i : ℕ) (base now : Valuation) → length xs ≤ i → Going c xs i base now → now ≡ put_each c xs base
gone c xs i base now h going = ap (λ ys. put_each c ys now) (sym (drop_all i xs h)) ∙ going.rest
