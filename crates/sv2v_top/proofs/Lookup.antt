-- A table of names that grows by one name.
use Rattle.std.proofs.Common.{◌≡◌, ℕ, zero, suc, ◌+◌, ◌<◌, ◌≤◌, ◌⊎◌, Bool, true, false, not, cond, ◌&&◌, ◌||◌, if◌then◌else◌, List, [], ◌∷◌, ◌++◌, map, take, length, add-one, Some, None, Option, Bor, refl, sym, ap, subst, ◌∙◌, inl, inr, arith}
use Rattle.std.specs.Option.{is_some, option_copied, unwrap_or}
use Rattle.std.specs.Prelude.{slice_index_or}
use Rattle.std.specs.Str.{bytes_eq}
use Rattle.std.proofs.lemmas.Bool.{or_cases, or_left, or_right, false≢true}
use Rattle.std.proofs.lemmas.Bool.Decides.{same_from_decides}
use Rattle.std.proofs.lemmas.Slice.Eq.{bytes_eq-Decides}
use Rattle.v_tree.specs.Names.{among, position}
use Rattle.v_tree.specs.Names.{distinct}
use Rattle.sv2v_top.specs.source.Lookup.{first_number}
use Rattle.sv2v_top.proofs.Names.{pick_true, pick_false, true_or_false, bytes_same}

pub among-more : (ns : List (List ℕ)) (w q : List ℕ) → among (ns ++ w ∷ []) q ≡ (among ns q || bytes_eq w q)
among-more [] w q = or-false (bytes_eq w q)
  where
    or-false : (b : Bool) → (b || false) ≡ b
    or-false true = refl
    or-false false = refl
among-more (n ∷ ns) w q = ap (λ b. bytes_eq n q || b) (among-more ns w q) ∙ sym (or-assoc (bytes_eq n q) (among ns q) (bytes_eq w q))
  where
    or-assoc : (a b c : Bool) → ((a || b) || c) ≡ (a || (b || c))
    or-assoc true b c = refl
    or-assoc false b c = refl

pub position-kept : (ns : List (List ℕ)) (w q : List ℕ) → among ns q ≡ true → position (ns ++ w ∷ []) q ≡ position ns q
position-kept [] w q e = absurd (false≢true e)
position-kept (n ∷ ns) w q e =
    elim (true_or_false (bytes_eq n q)) [
      | inl h ↦ pick_true _ _ _ h ∙ sym (pick_true _ _ _ h)
      | inr h ↦ pick_false _ _ _ h ∙ ap suc (position-kept ns w q (rest (or_cases _ _ e) h)) ∙ sym (pick_false _ _ _ h)
    ]
  where
    rest : (bytes_eq n q ≡ true) ⊎ (among ns q ≡ true) → bytes_eq n q ≡ false → among ns q ≡ true
    rest (inl k) h = absurd (false≢true (sym h ∙ k))
    rest (inr k) h = k

pub position-last : (ns : List (List ℕ)) (w q : List ℕ) → among ns q ≡ false → bytes_eq w q ≡ true → position (ns ++ w ∷ []) q ≡ length ns
position-last [] w q e h = pick_true _ _ _ h
position-last (n ∷ ns) w q e h =
    pick_false (bytes_eq n q) _ _ (first (bytes_eq n q) (among ns q) e) ∙ ap suc (position-last ns w q (second (bytes_eq n q) (among ns q) e) h)
  where
    first : (a b : Bool) → (a || b) ≡ false → a ≡ false
    first true b e = absurd (false≢true (sym e))
    first false b e = refl

    second : (a b : Bool) → (a || b) ≡ false → b ≡ false
    second true b e = absurd (false≢true (sym e))
    second false b e = e

-- a name that isn't there yet gets the next number
pub number-new : (ns : List (List ℕ)) (w q : List ℕ) → among ns w ≡ false → first_number (ns ++ w ∷ []) q ≡ cond (bytes_eq w q) (Some (length ns)) (first_number ns q)
number-new ns w q fresh =
    elim (true_or_false (bytes_eq w q)) [
      | inl h ↦ (let old : among ns q ≡ false = subst (λ x. among ns x ≡ false) (bytes_same w q h) fresh in
          pick_true _ _ _ (among-more ns w q ∙ or_right (among ns q) _ h) ∙ ap Some (position-last ns w q old h) ∙ ap (λ b. cond b (Some (length ns)) (first_number ns q)) (sym h))
      | inr h ↦ by_old h (true_or_false (among ns q)) ∙ ap (λ b. cond b (Some (length ns)) (first_number ns q)) (sym h)
    ]
  where
    neither : (a b : Bool) → a ≡ false → b ≡ false → (a || b) ≡ false
    neither true b e f = absurd (false≢true (sym e))
    neither false b e f = f

    by_old : bytes_eq w q ≡ false → (among ns q ≡ true) ⊎ (among ns q ≡ false) → first_number (ns ++ w ∷ []) q ≡ first_number ns q
    by_old h (inl e) = pick_true _ _ _ (among-more ns w q ∙ or_left _ _ e) ∙ ap Some (position-kept ns w q e) ∙ sym (pick_true _ _ _ e)
    by_old h (inr e) = pick_false _ _ _ (among-more ns w q ∙ neither _ _ e h) ∙ sym (pick_false _ _ _ e)

-- a name that is there changes nothing
pub number-old : (ns : List (List ℕ)) (w q : List ℕ) → among ns w ≡ true → first_number (ns ++ w ∷ []) q ≡ first_number ns q
number-old ns w q old =
    elim (true_or_false (among ns q)) [
      | inl e ↦ pick_true _ _ _ (among-more ns w q ∙ or_left _ _ e) ∙ ap Some (position-kept ns w q e) ∙ sym (pick_true _ _ _ e)
      | inr e ↦ pick_false _ _ _ (among-more ns w q ∙ neither _ _ e (other e)) ∙ sym (pick_false _ _ _ e)
    ]
  where
    neither : (a b : Bool) → a ≡ false → b ≡ false → (a || b) ≡ false
    neither true b e f = absurd (false≢true (sym e))
    neither false b e f = f

    other : among ns q ≡ false → bytes_eq w q ≡ false
    other e =
        elim (true_or_false (bytes_eq w q)) [
          | inr h ↦ h
          | inl h ↦ absurd (false≢true (sym (subst (λ x. among ns x ≡ false) (sym (bytes_same w q h)) e) ∙ old))
        ]

-- whether the table has a name
pub some-among : (ns : List (List ℕ)) (w : List ℕ) → is_some (first_number ns w) ≡ among ns w
some-among ns w = by_test (among ns w)
  where
    by_test : (b : Bool) → is_some (if b then Some (position ns w) else None) ≡ b
    by_test true = refl
    by_test false = refl

pub is_some-copied : {A : Type 0} (o : Option (Bor A)) → is_some (option_copied o) ≡ is_some o
is_some-copied None = refl
is_some-copied (Some x) = refl

pub or-false-left : (a b : Bool) → (a || b) ≡ false → a ≡ false
or-false-left true b e = absurd (false≢true (sym e))
or-false-left false b e = refl

pub or-false-right : (a b : Bool) → (a || b) ≡ false → b ≡ false
or-false-right true b e = absurd (false≢true (sym e))
or-false-right false b e = e

-- one more element of a list
pub map-take-suc : {A B : Type 0} (f : A → B) (xs : List A) (i : ℕ) (x : A) → i < length xs → x ≡ slice_index_or xs i x → map f (take (suc i) xs) ≡ map f (take i xs) ++ f x ∷ []
map-take-suc f [] i x h e = absurd (omega arith)
map-take-suc f (y ∷ ys) zero x h e = ap (λ z. f z ∷ []) (sym e)
map-take-suc f (y ∷ ys) (suc i) x h e = ap (λ zs. f y ∷ zs) (map-take-suc f ys i x (omega arith) e)

pub map-take-more : {A B : Type 0} (f : A → B) (xs : List A) (i : ℕ) (x : A) → i < length xs → x ≡ slice_index_or xs i x → map f (take (i + 1) xs) ≡ map f (take i xs) ++ f x ∷ []
map-take-more f xs i x h e = ap (λ k. map f (take k xs)) (add-one i) ∙ map-take-suc f xs i x h e

pub length-taken : {A B : Type 0} (f : A → B) (xs : List A) (i : ℕ) → i ≤ length xs → length (map f (take i xs)) ≡ i
length-taken f xs zero h = refl
length-taken f [] (suc i) h = absurd (omega arith)
length-taken f (x ∷ xs) (suc i) h = ap suc (length-taken f xs i (omega arith))

pub bytes_eq-swap : (a b : List ℕ) → bytes_eq a b ≡ bytes_eq b a
bytes_eq-swap a b = same_from_decides _ _ (bytes_eq-Decides a b) ((λ e. sym ((bytes_eq-Decides b a).0 e)), (λ e. (bytes_eq-Decides b a).1 (sym e)))

-- a new name keeps names distinct, one that is there doesn't
pub distinct-new : (ns : List (List ℕ)) (w : List ℕ) → among ns w ≡ false → distinct (ns ++ w ∷ []) ≡ distinct ns
distinct-new [] w e = refl
distinct-new (n ∷ ns) w e =
    (λ i. not (among-more ns w n i) && distinct-new ns w (or-false-right _ _ e) i)
    ∙ ap (λ b. not b && distinct ns) (apart (among ns n) (bytes_eq w n) (bytes_eq-swap w n ∙ or-false-left _ _ e))
  where
    apart : (a b : Bool) → b ≡ false → (a || b) ≡ a
    apart true b e = refl
    apart false b e = e

pub distinct-old : (ns : List (List ℕ)) (w : List ℕ) → among ns w ≡ true → distinct (ns ++ w ∷ []) ≡ false
distinct-old [] w e = absurd (false≢true e)
distinct-old (n ∷ ns) w e =
    elim (or_cases (bytes_eq n w) (among ns w) e) [
      | inl h ↦ ap (λ b. not b && distinct (ns ++ w ∷ [])) (among-more ns w n ∙ or_right (among ns n) _ (bytes_eq-swap w n ∙ h))
      | inr h ↦ ap (λ b. not (among (ns ++ w ∷ []) n) && b) (distinct-old ns w h) ∙ never (not (among (ns ++ w ∷ []) n))
    ]
  where
    never : (b : Bool) → (b && false) ≡ false
    never true = refl
    never false = refl

pub length-more : (ns : List (List ℕ)) (w : List ℕ) → length (ns ++ w ∷ []) ≡ length ns + 1
length-more [] w = refl
length-more (n ∷ ns) w = omega (arith, length-more ns w)

-- a number or, where there is none, how many names there are
pub position-or : (ns : List (List ℕ)) (w : List ℕ) → unwrap_or (first_number ns w) (length ns) ≡ position ns w
position-or ns w =
    elim (true_or_false (among ns w)) [
      | inl h ↦ ap (λ o. unwrap_or o (length ns)) (pick_true (among ns w) _ _ h)
      | inr h ↦ ap (λ o. unwrap_or o (length ns)) (pick_false (among ns w) _ _ h) ∙ sym (position-absent ns w h)
    ]
  where
    position-absent : (ns : List (List ℕ)) (w : List ℕ) → among ns w ≡ false → position ns w ≡ length ns
    position-absent [] w e = refl
    position-absent (n ∷ ns) w e = pick_false (bytes_eq n w) _ _ (or-false-left _ _ e) ∙ ap suc (position-absent ns w (or-false-right (bytes_eq n w) _ e))

pub position-within : (ns : List (List ℕ)) (w : List ℕ) → position ns w ≤ length ns
position-within [] w = omega arith
position-within (n ∷ ns) w =
    elim (true_or_false (bytes_eq n w)) [
      | inl h ↦ (let e = pick_true (bytes_eq n w) 0 (suc (position ns w)) h in omega arith)
      | inr h ↦ (let e = pick_false (bytes_eq n w) 0 (suc (position ns w)) h in let more = position-within ns w in omega arith)
    ]
