-- Locals that aren't set.
use Rattle.std.proofs.Common.{◌≡◌, ◌⊎◌, inl, inr, ℕ, zero, suc, ◌+◌, ◌-◌, ◌^◌, ◌<◌, ◌≤◌, max, min, Bool, true, false, cond, List, [], ◌∷◌, ◌++◌, flat_map, length, refl, ap, sym, ◌∙◌, subst, arith, None}
use Rattle.std.proofs.lemmas.Bool.{lt-ltb, ltb-true, le-leb}
use Rattle.row_machine.specs.Valuation.{Place, Member}
use Rattle.row_machine.specs.Places.{places_from, places_of}
use Rattle.row_machine.proofs.Members.{append-member, member-front, member-back}
use Rattle.bit_sets.specs.declared.span.Span.{Span}
use Rattle.bit_sets.specs.declared.span.Use.{Use}
use Rattle.bit_sets.specs.Sets.{covers, tokens_at}
use Rattle.bit_sets.proofs.Laws as B
use Rattle.sv_types.specs.Surroundings.{local_number}
use Rattle.sv_types.specs.Flows as F
use Rattle.sv_types.specs.Flows.{Flow}
use Rattle.flow_sets.specs.declared.found.Found.{Found}
use Rattle.flow_sets.specs.Bits.{position, number_of, span_of}
use Rattle.flow_sets.specs.Flows.{IsFlow, SameTokens}
use Rattle.flow_sets.specs.Uses.{met, touches}
use Rattle.flow_sets.proofs.Early as E
use Rattle.flow_sets.proofs.Sequences as S

-- all bits of a signal or local
abbrev all_of : ℕ → ℕ → Span
all_of n w = span_of (record { number = n; low = 0; high = w; at = 0 })

-- one of the bits stands at a token
pub record At (e : ℕ → List ℕ) (k w t : ℕ) : Type 0 where
  pub bit : ℕ
  pub above : k ≤ bit
  pub below : bit < k + w
  pub token : Member (e bit) t

at-flat : (e : Place → List ℕ) (n k w t : ℕ) → Member (flat_map e (places_from n k w)) t → At (λ j. e (record { signal = n; bit = j })) k w t
at-flat e n k zero t m = elim m [ ]
at-flat e n k (suc w) t m = by (append-member (e (record { signal = n; bit = k })) (flat_map e (places_from n (suc k) w)) t m) (at-flat e n (suc k) w t)
  where
    by : Member (e (record { signal = n; bit = k })) t ⊎ Member (flat_map e (places_from n (suc k) w)) t
        → (Member (flat_map e (places_from n (suc k) w)) t → At (λ j. e (record { signal = n; bit = j })) (suc k) w t) → At (λ j. e (record { signal = n; bit = j })) k (suc w) t
    by (inl x) f = record { bit = k; above = omega arith; below = omega arith; token = x }
    by (inr y) f = let a = f y in let up = a.above in let low = a.below in record { bit = a.bit; above = omega (arith, up); below = omega (arith, low); token = a.token }

flat-at : (e : Place → List ℕ) (n k w t : ℕ) → At (λ j. e (record { signal = n; bit = j })) k w t → Member (flat_map e (places_from n k w)) t
flat-at e n k zero t a = let up = a.above in let low = a.below in absurd (omega (arith, up, low))
flat-at e n k (suc w) t a = by (cases_first k a.bit a.above) (flat-at e n (suc k) w t)
  where
    cases_first : (k j : ℕ) → k ≤ j → (k ≡ j) ⊎ (suc k ≤ j)
    cases_first zero zero h = inl refl
    cases_first zero (suc j) h = inr (omega arith)
    cases_first (suc k) zero h = absurd (omega (arith, h))
    cases_first (suc k) (suc j) h = elim (cases_first k j (omega (arith, h))) [ inl e ↦ inl (ap suc e) | inr g ↦ inr (omega (arith, g)) ]

    by : (k ≡ a.bit) ⊎ (suc k ≤ a.bit) → (At (λ j. e (record { signal = n; bit = j })) (suc k) w t → Member (flat_map e (places_from n (suc k) w)) t)
        → Member (flat_map e (places_from n k (suc w))) t
    by (inl is) f = member-front (e (record { signal = n; bit = k })) (flat_map e (places_from n (suc k) w)) t (subst (λ j. Member (e (record { signal = n; bit = j })) t) (sym is) a.token)
    by (inr h) f =
        let low = a.below in member-back (e (record { signal = n; bit = k })) (flat_map e (places_from n (suc k) w)) t (f (record { bit = a.bit; above = h; below = omega (arith, low); token = a.token }))

tokens-rest : (u : Use) (us : List Use) (p t : ℕ) → Member (tokens_at us p) t → Member (tokens_at (u ∷ us) p) t
tokens-rest u us p t m = subst (λ ts. Member ts t) (sym (B.tokens-more u us p)) (by (covers u.span p))
  where
    by : (b : Bool) → Member (cond b (u.at ∷ tokens_at us p) (tokens_at us p)) t
    by true = inr m
    by false = m

-- a use that touches the bits is of one of them
at-met : (us : List Use) (n w t : ℕ) → Member (met (all_of n w) us) t → At (λ j. tokens_at us (position n j)) 0 w t
at-met [] n w t m = elim (subst (λ ts. Member ts t) (E.met-none (all_of n w)) m) [ ]
at-met (u ∷ us) n w t m = by (touches u.span (all_of n w)) refl (subst (λ ts. Member ts t) (E.met-more (all_of n w) u us) m) (at-met us n w t)
  where
    rest : (Member (met (all_of n w) us) t → At (λ j. tokens_at us (position n j)) 0 w t) → Member (met (all_of n w) us) t → At (λ j. tokens_at (u ∷ us) (position n j)) 0 w t
    rest f y = let a = f y in record { bit = a.bit; above = a.above; below = a.below; token = tokens-rest u us (position n a.bit) t a.token }

    here : touches u.span (all_of n w) ≡ true → t ≡ u.at → At (λ j. tokens_at (u ∷ us) (position n j)) 0 w t
    here is e =
        let lt = ltb-true (max u.span.low (position n 0)) (min u.span.high (position n w)) is in
        let j = max u.span.low (position n 0) - position n 0 in
        let p : position n j ≡ max u.span.low (position n 0) = omega arith in
        let in_u : covers u.span (position n j) ≡ true = subst (λ k. covers u.span k ≡ true) (sym p) (S.and-true _ _ (le-leb u.span.low (max u.span.low (position n 0)) (omega arith)) (lt-ltb (max u.span.low (position n 0)) u.span.high (omega (arith, lt)))) in
        record {
          bit = j;
          above = omega arith;
          below = omega (arith, lt);
          token = subst (λ ts. Member ts t) (sym (B.tokens-more u us (position n j) ∙ ap (λ b. cond b (u.at ∷ tokens_at us (position n j)) (tokens_at us (position n j))) in_u)) (inl e);
        }

    by : (b : Bool) → touches u.span (all_of n w) ≡ b → Member (cond b (u.at ∷ met (all_of n w) us) (met (all_of n w) us)) t
        → (Member (met (all_of n w) us) t → At (λ j. tokens_at us (position n j)) 0 w t) → At (λ j. tokens_at (u ∷ us) (position n j)) 0 w t
    by true is (inl e) f = here is e
    by true is (inr y) f = rest f y
    by false is y f = rest f y

met-at : (us : List Use) (n w t j : ℕ) → j < w → Member (tokens_at us (position n j)) t → Member (met (all_of n w) us) t
met-at [] n w t j low m = elim (subst (λ ts. Member ts t) (B.tokens-none (position n j)) m) [ ]
met-at (u ∷ us) n w t j low m =
    subst (λ ts. Member ts t) (sym (E.met-more (all_of n w) u us)) (by (covers u.span (position n j)) refl (subst (λ ts. Member ts t) (B.tokens-more u us (position n j)) m) (met-at us n w t j low))
  where
    rest : (b : Bool) → Member (met (all_of n w) us) t → Member (cond b (u.at ∷ met (all_of n w) us) (met (all_of n w) us)) t
    rest true y = inr y
    rest false y = y

    touched : covers u.span (position n j) ≡ true → touches u.span (all_of n w) ≡ true
    touched is =
        let a = B.covers-low u.span (position n j) is in
        let b = B.covers-high u.span (position n j) is in lt-ltb (max u.span.low (position n 0)) (min u.span.high (position n w)) (omega (arith, a, b, low))

    by : (b : Bool) → covers u.span (position n j) ≡ b → Member (cond b (u.at ∷ tokens_at us (position n j)) (tokens_at us (position n j))) t
        → (Member (tokens_at us (position n j)) t → Member (met (all_of n w) us) t) → Member (cond (touches u.span (all_of n w)) (u.at ∷ met (all_of n w) us) (met (all_of n w) us)) t
    by true is (inl e) f = subst (λ b. Member (cond b (u.at ∷ met (all_of n w) us) (met (all_of n w) us)) t) (sym (touched is)) (inl e)
    by true is (inr y) f = rest (touches u.span (all_of n w)) (f y)
    by false is y f = rest (touches u.span (all_of n w)) (f y)

same-met : (us : List Use) (e : Place → List ℕ) (n w : ℕ) → w < 2 ^ 32 → ((q : Place) → q.bit < 2 ^ 32 → tokens_at us (number_of q) ≡ e q) → SameTokens (met (all_of n w) us) (flat_map e (places_of n w))
same-met us e n w short is t = (
  λ m. let a = at-met us n w t m in
      let low = a.below in
      flat-at e n 0 w t (record { bit = a.bit; above = a.above; below = low; token = subst (λ ts. Member ts t) (is (record { signal = n; bit = a.bit }) (omega (arith, low, short))) a.token }),
  λ m. let a = at-flat e n 0 w t m in
      let low = a.below in
      met-at us n w t a.bit (omega (arith, low)) (subst (λ ts. Member ts t) (sym (is (record { signal = n; bit = a.bit }) (omega (arith, low, short)))) a.token),
)

pub unset-is : (unset : List ℕ) (f : Found) (g : Flow) (local width : ℕ) (marks : List Bool) → width < 2 ^ 32 → length marks ≡ width → unset ≡ f.unset ++ met (all_of (local_number local) width) f.early
    → IsFlow f g → IsFlow (record f { unset = unset }) (F.unset_in local marks None g)
unset-is unset f g local width marks short wide is h = record {
  reads = h.reads;
  writes = h.writes;
  later = h.later;
  sets = h.sets;
  ends = h.ends;
  slips = h.slips;
  early = h.early;
  unset = subst (λ ts. SameTokens ts (g.unset ++ F.early_of local marks g)) (sym is)
      (S.same-append f.unset (met (all_of (local_number local) width) f.early) g.unset (F.early_of local marks g) h.unset
      (subst (λ n. SameTokens (met (all_of (local_number local) width) f.early) (flat_map g.early (places_of (local_number local) n))) (sym wide)
      (same-met f.early g.early (local_number local) width short h.early)));
  unrolls = h.unrolls;
  statements = h.statements;
}

pub ruleset local_laws = (E.met-none)
