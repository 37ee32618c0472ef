-- Lists that grow at their end.
use Rattle.std.proofs.Common.{◌≡◌, ◌⊎◌, ℕ, zero, suc, ◌+◌, ◌-◌, ◌<◌, List, [], ◌∷◌, ◌++◌, length, take, set, slice_index_or, refl, sym, ap, ◌∙◌, subst, inl, inr, arith, length-append, get_or-set_same, get_or-set_other}
use Rattle.std.proofs.lemmas.Bool.{cases_eq, cases_order}
use Rattle.std.proofs.lemmas.List.{take-append-le, take_at, take_more, take_all, get_or_append_left, get_or_at}
use Rattle.row_machine.specs.Valuation.{Member}
use Rattle.row_machine.specs.Stuck.{Distinct}
use Rattle.row_machine.proofs.Members.{append-member, member-front, member-back}
use Rattle.row_machine.proofs.Basics.{member_at}
use Rattle.peel.specs.Peeled.{needed, Ascending}

-- what stands at a place after a change: what was put there, or what stood there before
pub set-cases : {A : Type 0} (xs : List A) (q p : ℕ) (y d : A) → q < length xs
    → ((p ≡ q) × (slice_index_or (set xs q y) p d ≡ y)) ⊎ ((p ≡ q → ⊥) × (slice_index_or (set xs q y) p d ≡ slice_index_or xs p d))
set-cases xs q p y d low =
    elim (cases_eq p q) [
      | inl e ↦ inl (e, ap (λ k. slice_index_or (set xs q y) k d) e ∙ get_or-set_same xs q y d low)
      | inr n ↦ inr (n, get_or-set_other xs q p y d n)
    ]

pub distinct-more : (xs : List ℕ) (p : ℕ) → Distinct xs → (Member xs p → ⊥) → Distinct (xs ++ p ∷ [])
distinct-more [] p distinct new = (λ m. m, tt)
distinct-more (x ∷ xs) p distinct new = (
  (λ m. elim (append-member xs (p ∷ []) x m) [
    | inl l ↦ distinct.0 l
    | inr r ↦ elim r [ inl e ↦ new (inl (sym e)) | inr none ↦ none ]
  ]),
  distinct-more xs p distinct.1 (λ m. new (inr m)),
)

pub distinct-fewer : (xs : List ℕ) (p : ℕ) → Distinct (xs ++ p ∷ []) → Distinct xs × (Member xs p → ⊥)
distinct-fewer [] p distinct = (tt, λ m. m)
distinct-fewer (x ∷ xs) p distinct =
    let rest = distinct-fewer xs p distinct.1 in (
      (λ m. distinct.0 (member-front xs (p ∷ []) x m), rest.0),
      λ m. elim m [ inl e ↦ distinct.0 (member-back xs (p ∷ []) x (inl (sym e))) | inr r ↦ rest.1 r ],
    )

pub distinct-append : (xs ys : List ℕ) → Distinct xs → Distinct ys → ((p : ℕ) → Member xs p → Member ys p → ⊥) → Distinct (xs ++ ys)
distinct-append [] ys a b apart = b
distinct-append (x ∷ xs) ys a b apart = (
  (λ m. elim (append-member xs ys x m) [ inl l ↦ a.0 l | inr r ↦ apart x (inl refl) r ]),
  distinct-append xs ys a.1 b (λ p m. apart p (inr m)),
)

pub distinct-front : (xs ys : List ℕ) → Distinct (xs ++ ys) → Distinct xs
distinct-front [] ys d = tt
distinct-front (x ∷ xs) ys d = (λ m. d.0 (member-front xs ys x m), distinct-front xs ys d.1)

-- no two places of a list without repetitions have one number
pub distinct_places : (xs : List ℕ) (i j : ℕ) → Distinct xs → i < j → j < length xs → slice_index_or xs i 0 ≡ slice_index_or xs j 0 → ⊥
distinct_places [] i j distinct below low e = absurd (omega arith)
distinct_places (x ∷ xs) i zero distinct below low e = absurd (omega arith)
distinct_places (x ∷ xs) zero (suc j) distinct below low e = distinct.0 (subst (Member xs) (sym e) (member_at xs j 0 (omega arith)))
distinct_places (x ∷ xs) (suc i) (suc j) distinct below low e = distinct_places xs i j distinct.1 (omega arith) (omega arith) e

-- an element of the first ones stands before their end
pub place-in_take : (xs : List ℕ) (i q : ℕ) → Member (take i xs) q → (k : ℕ) × (k < i) × (k < length xs) × (slice_index_or xs k 0 ≡ q)
place-in_take xs zero q m = elim m [ ]
place-in_take [] (suc i) q m = elim m [ ]
place-in_take (x ∷ xs) (suc i) q (inl e) = (0, omega arith, omega arith, sym e)
place-in_take (x ∷ xs) (suc i) q (inr m) = let r = place-in_take xs i q m in (suc r.0, omega (arith, r.1), omega (arith, r.2), r.3)

pub ascending-more : (xs : List ℕ) (p : ℕ) → Ascending xs → ((k : ℕ) → Member xs k → k < p) → Ascending (xs ++ p ∷ [])
ascending-more [] p up below = (λ j m. absurd m, tt)
ascending-more (x ∷ xs) p up below = (
  (λ j m. elim (append-member xs (p ∷ []) j m) [
    | inl l ↦ up.0 j l
    | inr r ↦ elim r [ inl e ↦ subst (λ k. x < k) (sym e) (below x (inl refl)) | inr none ↦ absurd none ]
  ]),
  ascending-more xs p up.1 (λ k m. below k (inr m)),
)

pub ascending-distinct : (xs : List ℕ) → Ascending xs → Distinct xs
ascending-distinct [] up = tt
ascending-distinct (x ∷ xs) up = (λ m. absurd (omega (arith, up.0 x m)), ascending-distinct xs up.1)

-- a list that has a last element
pub without_last : (xs : List ℕ) → 0 < length xs → xs ≡ take (length xs - 1) xs ++ slice_index_or xs (length xs - 1) 0 ∷ []
without_last xs some =
    let e : length xs - 1 + 1 ≡ length xs = omega arith in
    sym (take_all (length xs) xs (omega arith)) ∙ ap (λ n. take n xs) (sym e) ∙ take_more xs (length xs - 1) 0 (omega arith)

-- each in the list needs only earlier ones
abbrev pub Earlier : List (List ℕ) → List ℕ → Type 0
Earlier needs order = (i q : ℕ) → i < length order → q < length needs → Member (needed needs (slice_index_or order i 0)) q → Member (take i order) q

pub earlier-more : (needs : List (List ℕ)) (order : List ℕ) (p : ℕ) → Earlier needs order → ((q : ℕ) → q < length needs → Member (needed needs p) q → Member order q) → Earlier needs (order ++ p ∷ [])
earlier-more needs order p earlier now i q low is m =
    elim (cases_order i (length order)) [
      | inl e ↦ subst (λ xs. Member xs q) (sym (take_at order (p ∷ []) i (sym e)))
          (now q is (subst (λ k. Member (needed needs k) q) (get_or_at order p [] 0 i (sym e)) m))
      | inr other ↦ elim other [
        | inl l ↦ subst (λ xs. Member xs q) (sym (take-append-le i order (p ∷ []) (omega arith)))
            (earlier i q l is (subst (λ k. Member (needed needs k) q) (get_or_append_left order (p ∷ []) 0 i l) m))
        | inr l ↦ absurd (omega (arith, length-append order (p ∷ [])))
      ]
    ]

-- each in the list needs the next one
abbrev pub Chained : List (List ℕ) → List ℕ → Type 0
Chained needs path = (i : ℕ) → i + 1 < length path → Member (needed needs (slice_index_or path i 0)) (slice_index_or path (i + 1) 0)

pub chained-more : (needs : List (List ℕ)) (path : List ℕ) (q : ℕ) → Chained needs path
    → ((i : ℕ) → i + 1 ≡ length path → Member (needed needs (slice_index_or path i 0)) q) → Chained needs (path ++ q ∷ [])
chained-more needs path q chain link i low =
    let long = length-append path (q ∷ []) in
    let here : slice_index_or (path ++ q ∷ []) i 0 ≡ slice_index_or path i 0 = get_or_append_left path (q ∷ []) 0 i (omega (arith, long)) in
    elim (cases_order (i + 1) (length path)) [
      | inl e ↦ subst (Member (needed needs (slice_index_or (path ++ q ∷ []) i 0))) (sym (get_or_at path q [] 0 (i + 1) (sym e)))
          (subst (λ k. Member (needed needs k) q) (sym here) (link i e))
      | inr other ↦ elim other [
        | inl l ↦ subst (Member (needed needs (slice_index_or (path ++ q ∷ []) i 0))) (sym (get_or_append_left path (q ∷ []) 0 (i + 1) l))
            (subst (λ k. Member (needed needs k) (slice_index_or path (i + 1) 0)) (sym here) (chain i l))
        | inr l ↦ absurd (omega (arith, long))
      ]
    ]
