-- The first of some breaks.
use Rattle.std.proofs.Common.{◌≡◌, inl, inr, ℕ, zero, suc, ◌+◌, ◌<◌, ◌≤◌, Bool, true, false, ◌&&◌, ◌||◌, ◌==◌, List, [], ◌∷◌, length, map, slice_index_or, Some, refl, sym, ap, ◌∙◌, subst, arith}
use Rattle.std.specs.Prelude.{nat_lt, slice_get}
use Rattle.std.proofs.lemmas.Bool.{cases_eq, false_from_ne_true, false≢true}
use Rattle.std.proofs.lemmas.List.{get_or_default}
use Rattle.std.proofs.lemmas.Bool.Decides.{nat_tests}
use Rattle.row_machine.specs.Valuation.{Member}
use Rattle.row_machine.proofs.Basics.{member_at}
use Rattle.row_machine.proofs.Members.{member-place, map-member}
use Rattle.sv_source.specs.declared.refusal.Refusal.{Refusal}
use Rattle.sv_types.specs.declared.design.Process.{Process}
use Rattle.design_breaks.specs.declared.Break.{Break}
use Rattle.design_breaks.specs.Breaks.{is_less}
use Rattle.design_breaks.specs.Circles.{break_of}
use Rattle.comb_order.specs.Combs.{number_at}
use Rattle.comb_order.specs.Stuck.{break_at, break_or_none, refusal_at, IsFirst, IsRefusalOf}

less-by : (i j a b : ℕ) → (nat_lt i j || ((i == j) && nat_lt a b)) ≡ (nat_lt i j || ((i == j) && (nat_lt a b || ((a == b) && nat_lt 602 602))))
less-by i j a b = ap (λ t. nat_lt i j || ((i == j) && t)) (by (nat_lt a b) (a == b))
  where
    by : (s t : Bool) → s ≡ (s || (t && false))
    by true t = refl
    by false true = refl
    by false false = refl

at-place : (ps : List Process) (n : ℕ) (p : Process) → n < length ps → p ≡ slice_index_or ps n p → slice_get ps n ≡ Some p
at-place [] n p low is = absurd (omega (arith, low))
at-place (q ∷ ps) zero p low is = ap Some (sym is)
at-place (q ∷ ps) (suc n) p low is = at-place ps n p (omega (arith, low)) is

-- of two processes that stand at places
pub before-is : (ps : List Process) (m n : ℕ) (a b : Process) → m < length ps → n < length ps → a ≡ slice_index_or ps m a → b ≡ slice_index_or ps n b
    → (nat_lt a.instance b.instance || ((a.instance == b.instance) && nat_lt a.spot.at b.spot.at)) ≡ is_less (break_at ps m) (break_at ps n)
before-is ps m n a b lm ln is it =
    less-by a.instance b.instance a.spot.at b.spot.at
    ∙ ap (λ o. is_less (break_or_none o) (break_of b)) (sym (at-place ps m a lm is)) ∙ ap (λ o. is_less (break_at ps m) (break_or_none o)) (sym (at-place ps n b ln it))

less-trans : (i j k a b c r s t : ℕ)
    → (nat_lt i j || ((i == j) && (nat_lt a b || ((a == b) && nat_lt r s)))) ≡ true
    → (nat_lt j k || ((j == k) && (nat_lt b c || ((b == c) && nat_lt s t)))) ≡ true
    → (nat_lt i k || ((i == k) && (nat_lt a c || ((a == c) && nat_lt r t)))) ≡ true
less-trans i j k a b c r s t h g = grind (arith, nat_tests)

less-itself : (i a r : ℕ) → (nat_lt i i || ((i == i) && (nat_lt a a || ((a == a) && nat_lt r r)))) ≡ false
less-itself i a r = grind (arith, nat_tests)

-- the first of the first k
pub record IsFirstUpTo (ps : List Process) (numbers : List ℕ) (k n : ℕ) : Type 0 where
  pub there : Member numbers n
  pub first : (j : ℕ) → j < k → is_less (break_at ps (slice_index_or numbers j 0)) (break_at ps n) ≡ false

pub first-start : (ps : List Process) (numbers : List ℕ) → 0 < length numbers → IsFirstUpTo ps numbers 0 (slice_index_or numbers 0 0)
first-start ps numbers some = record { there = member_at numbers 0 0 some; first = λ j low. absurd (omega (arith, low)) }

pub first-same : (ps : List Process) (numbers : List ℕ) (k n : ℕ) → is_less (break_at ps (slice_index_or numbers k 0)) (break_at ps n) ≡ false → IsFirstUpTo ps numbers k n → IsFirstUpTo ps numbers (k + 1) n
first-same ps numbers k n not_less f = record {
  there = f.there;
  first = λ j low. elim (cases_eq j k) [
    | inl same ↦ subst (λ i. is_less (break_at ps (slice_index_or numbers i 0)) (break_at ps n) ≡ false) (sym same) not_less
    | inr other ↦ f.first j (omega (arith, low, other))
  ];
}

pub first-new : (ps : List Process) (numbers : List ℕ) (k n : ℕ) → k < length numbers → is_less (break_at ps (slice_index_or numbers k 0)) (break_at ps n) ≡ true → IsFirstUpTo ps numbers k n
    → IsFirstUpTo ps numbers (k + 1) (slice_index_or numbers k 0)
first-new ps numbers k n within less f = record {
  there = member_at numbers k 0 within;
  first = λ j low. elim (cases_eq j k) [
    | inl same ↦ subst (λ i. is_less (break_at ps (slice_index_or numbers i 0)) (break_at ps (slice_index_or numbers k 0)) ≡ false) (sym same) (itself (break_at ps (slice_index_or numbers k 0)))
    | inr other ↦ false_from_ne_true (is_less (break_at ps (slice_index_or numbers j 0)) (break_at ps (slice_index_or numbers k 0)))
        (λ lower. false≢true (sym (f.first j (omega (arith, low, other))) ∙ trans (break_at ps (slice_index_or numbers j 0)) (break_at ps (slice_index_or numbers k 0)) (break_at ps n) lower less))
  ];
}
  where
    itself : (b : Break) → is_less b b ≡ false
    itself b = less-itself b.instance b.at b.rule

    trans : (a b c : Break) → is_less a b ≡ true → is_less b c ≡ true → is_less a c ≡ true
    trans a b c h g = less-trans a.instance b.instance c.instance a.at b.at c.at a.rule b.rule c.rule h g

pub first-all : (ps : List Process) (numbers : List ℕ) (k n : ℕ) → length numbers ≤ k → IsFirstUpTo ps numbers k n → IsFirst ps numbers n
first-all ps numbers k n all f = record {
  there = f.there;
  first = λ m is_there. let r = member-place numbers m is_there in
      subst (λ x. is_less (break_at ps x) (break_at ps n) ≡ false) (get_or_default numbers r.0 0 m r.1 ∙ r.2) (f.first r.0 (let low = r.1 in omega (arith, low, all)));
}

-- numbers at places, and the refusal of one of them
pub mapped-low : (ns left all : List ℕ) (most : ℕ) → all ≡ map (number_at ns) left → ((k : ℕ) → k < length left → slice_index_or left k 0 < length ns)
    → ((k : ℕ) → k < length ns → slice_index_or ns k 0 < most) → (n : ℕ) → Member all n → n < most
mapped-low ns left all most is places within n m =
    let r = map-member (number_at ns) left n (subst (λ xs. Member xs n) is m) in
    let k = member-place left r.0 r.1 in
    let at : slice_index_or left k.0 0 ≡ r.0 = get_or_default left k.0 0 r.0 k.1 ∙ k.2 in
    let low = within r.0 (subst (λ j. j < length ns) at (places k.0 k.1)) in
    let same = r.2 in
    omega (arith, low, same)

pub is-refusal : (ps : List Process) (numbers all : List ℕ) (n : ℕ) (p : Process) (r : Refusal) → all ≡ numbers → n < length ps → p ≡ slice_index_or ps n p → IsFirst ps all n → r ≡ refusal_at p.spot → IsRefusalOf ps numbers r
is-refusal ps numbers all n p r same low is first made = record { number = n; is_first = subst (λ ns. IsFirst ps ns n) same first; process = p; stands = at-place ps n p low is; is = made }

pub ruleset first_laws = (before-is)
