-- The latest thing with a number stands at its place.
use Rattle.std.proofs.Common.{◌≡◌, ℕ, zero, suc, ◌-◌, ◌<◌, Bool, true, false, nat_eq, if◌then◌else◌, List, [], ◌∷◌, ◌++◌, length, drop, Option, Some, None, refl, sym, ap, ◌∙◌, arith}
use Rattle.std.specs.Prelude.{slice_get, map, reverse, MatchOption}
use Rattle.std.specs.Option.{option_map}
use Rattle.std.proofs.lemmas.List.{reverse-reverse, reverse-append, length-reverse}
use Rattle.frame_things.specs.Places.{first_by}
use Rattle.frame_things.specs.Rows.{item_of, place_of}
use Rattle.frame_things.specs.declared.rows.Row.{Row}

at-end : {A : Type 0} (xs : List A) (a : A) (p : ℕ) → p ≡ length xs → slice_get (xs ++ a ∷ []) p ≡ Some a
at-end [] a zero h = refl
at-end [] a (suc p) h = absurd (omega arith)
at-end (x ∷ xs) a zero h = absurd (omega arith)
at-end (x ∷ xs) a (suc p) h = at-end xs a p (omega arith)

before-end : {A : Type 0} (xs : List A) (a : A) (p : ℕ) → p < length xs → slice_get (xs ++ a ∷ []) p ≡ slice_get xs p
before-end [] a p h = absurd (omega arith)
before-end (x ∷ xs) a zero h = refl
before-end (x ∷ xs) a (suc p) h = before-end xs a p (omega arith)

abbrev first_item : {T : Type 0} → (T → ℕ) → ℕ → List (Row T) → Option T
first_item number n rs = first_by (λ x. nat_eq (number x) n) (map item_of rs)

no-item-by : {T : Type 0} (r : Row T) (k : ℕ) (b : Bool) (o : Option ℕ) (f : Option T) → (o ≡ None → None ≡ f) → (if b then Some k else o) ≡ None → None ≡ (if b then Some r.item else f)
no-item-by r k true o f rest e = let no : Some k ≡ None = e in absurd cc
no-item-by r k false o f rest e = rest e

pub no-item : {T : Type 0} (number : T → ℕ) (n : ℕ) (rs : List (Row T)) → place_of number n rs ≡ None → None ≡ first_by (λ x. nat_eq (number x) n) (map item_of rs)
no-item number n [] e = refl
no-item number n (r ∷ rs) e = no-item-by r (length rs) (nat_eq (number r.item) n) (place_of number n rs) (first_item number n rs) (no-item number n rs) e

record At {T : Type 0} (rs : List (Row T)) (p : ℕ) (f : Option T) : Type 0 where
  within : p < length rs
  found : option_map item_of (slice_get (reverse rs) p) ≡ f

at-by : {T : Type 0} (r : Row T) (rs : List (Row T)) (p : ℕ) (b : Bool) (o : Option ℕ) (f : Option T) → (o ≡ Some p → At rs p f)
    → (if b then Some (length rs) else o) ≡ Some p → At (r ∷ rs) p (if b then Some r.item else f)
at-by r rs p true o f rest e =
    let is : Some (length rs) ≡ Some p = e in
    let same : length rs ≡ p = cc in
    record {
      within = omega arith;
      found = ap (λ xs. option_map item_of (slice_get xs p)) (reverse-append (r ∷ []) rs) ∙ ap (option_map item_of) (at-end (reverse rs) r p (omega (arith, length-reverse rs)));
    }
at-by r rs p false o f rest e =
    let later = rest e in
    record {
      within = omega (arith, later.within);
      found = ap (λ xs. option_map item_of (slice_get xs p)) (reverse-append (r ∷ []) rs)
          ∙ ap (option_map item_of) (before-end (reverse rs) r p (omega (arith, length-reverse rs, later.within)))
          ∙ later.found;
    }

item-at : {T : Type 0} (number : T → ℕ) (n p : ℕ) (rs : List (Row T)) → place_of number n rs ≡ Some p → At rs p (first_by (λ x. nat_eq (number x) n) (map item_of rs))
item-at number n p [] e = absurd cc
item-at number n p (r ∷ rs) e = at-by r rs p (nat_eq (number r.item) n) (place_of number n rs) (first_item number n rs) (item-at number n p rs) e

-- the same, counted from the first thing
pub found-at : {T : Type 0} (number : T → ℕ) (n p : ℕ) (rows : List (Row T)) → place_of number n (reverse rows) ≡ Some p
    → option_map item_of (slice_get rows p) ≡ first_by (λ x. nat_eq (number x) n) (map item_of (reverse rows))
found-at number n p rows e = ap (λ xs. option_map item_of (slice_get xs p)) (sym (reverse-reverse rows)) ∙ (item-at number n p (reverse rows) e).found

-- one thing less
drop-first : {A : Type 0} (xs ys : List A) (x : A) (n : ℕ) → xs ≡ x ∷ ys → n < length xs → drop (length ys - n) ys ≡ drop (length xs - n) xs
drop-first xs ys x n e h =
    let longer : length xs ≡ suc (length ys) = ap length e in
    let more : length xs - n ≡ suc (length ys - n) = omega arith in
    sym (ap (λ k. drop k xs) more ∙ ap (λ zs. drop (suc (length ys - n)) zs) e)

pub popped : {A : Type 0} (r : Option A) (xs ys : List A) (n : ℕ) → MatchOption r ((xs ≡ []) × (ys ≡ [])) (λ x. xs ≡ x ∷ ys) → n < length xs → drop (length ys - n) ys ≡ drop (length xs - n) xs
popped None xs ys n took h = let none : length xs ≡ 0 = ap length took.0 in absurd (omega arith)
popped (Some x) xs ys n took h = drop-first xs ys x n took h
