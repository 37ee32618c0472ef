-- What is kept for `.*`, one more thing at a time.
use Rattle.std.proofs.Common.{◌≡◌, ℕ, zero, suc, ◌+◌, ◌-◌, ◌<◌, ◌≤◌, ◌⊎◌, inl, inr, min, Bool, true, false, ◌||◌, cond, nat_eq, if◌then◌else◌, List, [], ◌∷◌, length, take, drop, get_or, Option, Some, None, is_some, refl, sym, ap, ◌∙◌, add-one, arith, length-take}
use Rattle.std.proofs.lemmas.Bool.{cases_lt}
use Rattle.std.proofs.lemmas.List.{drop_more, drop_all, drop-take, take_all}
use Rattle.std.specs.List.{list_any}
use Rattle.package_scope.specs.Index.{under, puts}
use Rattle.package_scope.specs.Lookup.{or_later}
use Rattle.package_scope.specs.Rests.{put_end, end_or, link_from}
use Rattle.package_scope.specs.Rules.{head_of, is_link_to}
use Rattle.package_scope.specs.declared.names.Names.{Names}
use Rattle.package_scope.specs.declared.names.Slots.{Slots}
use Rattle.package_scope.specs.declared.table.Head.{Head}
use Rattle.package_scope.specs.declared.table.Link.{Link}

-- one more head before others
end-chosen : (b : Bool) (n : ℕ) (o : Option ℕ) → end_or (if b then Some n else o) ≡ cond b n (end_or o)
end-chosen true n o = refl
end-chosen false n o = refl

pub head-put : (before after : ℕ → Option ℕ) (hs : List Head) (at k : ℕ) (h d : Head) → k + 1 ≡ at → k < length hs → h ≡ get_or hs k d → after ≡ put_end before h.scope h.declared
    → ((s : ℕ) → end_or (before s) ≡ head_of s (drop at hs)) → (s : ℕ) → end_or (after s) ≡ head_of s (drop k hs)
head-put before after hs at k h d next within is put so_far s =
    let rest : drop k hs ≡ h ∷ drop (k + 1) hs = drop_more hs k d within ∙ ap (λ x. x ∷ drop (k + 1) hs) (sym is) in
    ap (λ (g : ℕ → Option ℕ). end_or (g s)) put
    ∙ end-chosen (nat_eq h.scope s) h.declared (before s)
    ∙ ap (cond (nat_eq h.scope s) h.declared) (so_far s ∙ ap (λ n. head_of s (drop n hs)) (sym next))
    ∙ ap (head_of s) (sym rest)

pub head-none : (hs : List Head) (n : ℕ) → length hs ≤ n → (s : ℕ) → 0 ≡ head_of s (drop n hs)
head-none hs n past s = ap (head_of s) (sym (drop_all n hs past))

-- links
pub link-none : (ls : List Link) (at : ℕ) → length ls ≤ at → (n : ℕ) (q : List ℕ) → link_from at n q (drop at ls) ≡ None
link-none ls at past n q = ap (λ xs. link_from at n q xs) (drop_all at ls past)

some-later : (b : Bool) (k : ℕ) (o : Option ℕ) → is_some (or_later b k o) ≡ (b || is_some o)
some-later true k o = refl
some-later false k o = refl

pub link-any : (k n : ℕ) (q : List ℕ) (ls : List Link) → is_some (link_from k n q ls) ≡ list_any (is_link_to n q) ls
link-any k n q [] = refl
link-any k n q (l ∷ ls) =
    some-later (is_link_to n q l) k (link_from (suc k) n q ls) ∙ ap (λ b. is_link_to n q l || b) (link-any (suc k) n q ls)

-- a part of a list
pub part-is : {A : Type 0} (n m : ℕ) (xs : List A) → n ≤ m → take (m - n) (drop n xs) ≡ drop n (take m xs)
part-is n m xs le = let e : n + (m - n) ≡ m = omega arith in sym (drop-take n (m - n) xs) ∙ ap (λ k. drop n (take k xs)) e

-- the part behind a place and before an end, both within the list
pub part-within : {A : Type 0} (xs : List A) (n end m s : ℕ) → m ≡ min (length xs) end → s ≡ min m (n + 1) → take (m - s) (drop s xs) ≡ drop (suc n) (take end xs)
part-within xs n end m s is_m is_s =
    part-is s m xs (omega arith)
    ∙ ap (drop s) (cut (cases_lt (length xs) end))
    ∙ dropped (cases_lt m (n + 1))
  where
    cut : (length xs < end) ⊎ (end ≤ length xs) → take m xs ≡ take end xs
    cut (inl l) = take_all m xs (omega arith) ∙ sym (take_all end xs (omega arith))
    cut (inr l) = let e : m ≡ end = omega arith in ap (λ k. take k xs) e

    dropped : (m < n + 1) ⊎ (n + 1 ≤ m) → drop s (take end xs) ≡ drop (suc n) (take end xs)
    dropped (inl l) = drop_all s (take end xs) (omega (arith, length-take end xs)) ∙ sym (drop_all (suc n) (take end xs) (omega (arith, length-take end xs)))
    dropped (inr l) = let e : s ≡ suc n = omega arith in ap (λ k. drop k (take end xs)) e
