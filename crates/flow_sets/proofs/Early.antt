-- Early reads, and bits that are surely written.
use Rattle.std.proofs.Common.{◌≡◌, ℕ, suc, ◌+◌, ◌<◌, ◌≤◌, Bool, true, false, ◌&&◌, ◌||◌, not, cond, List, [], ◌∷◌, ◌++◌, length, drop, slice_index_or, Option, Some, None, refl, ap, sym, ◌∙◌, append-nil, append_assoc, subst, arith}
use Rattle.bit_sets.specs.declared.span.Span.{Span}
use Rattle.bit_sets.specs.declared.span.Use.{Use}
use Rattle.bit_sets.specs.Sets.{covers, in_spans, tokens_at, IsSet}
use Rattle.bit_sets.proofs.Laws as L
use Rattle.flow_sets.specs.declared.uses.Write.{Write}
use Rattle.flow_sets.specs.Ends.{leaves_out}
use Rattle.flow_sets.specs.Uses.{surely, met, touches}

pub early-none : (r early then_ : List Use) → r ≡ early → (n : ℕ) → tokens_at r n ≡ tokens_at early n ++ cond (leaves_out None n) (tokens_at then_ n) []
early-none r early then_ is n = ap (λ us. tokens_at us n) is ∙ sym (append-nil (tokens_at early n))

flipped : (b : Bool) (ts : List ℕ) → cond b [] ts ≡ cond (not b) ts []
flipped true ts = refl
flipped false ts = refl

pub early-some : (r early then_ : List Use) (set : List Span) → ((n : ℕ) → tokens_at r n ≡ tokens_at early n ++ cond (in_spans set n) [] (tokens_at then_ n))
    → (n : ℕ) → tokens_at r n ≡ tokens_at early n ++ cond (leaves_out (Some set) n) (tokens_at then_ n) []
early-some r early then_ set is n = is n ∙ ap (λ ts. tokens_at early n ++ ts) (flipped (in_spans set n) (tokens_at then_ n))

pub ruleset early_laws = (early-none, early-some, append-nil)

pub surely-none : (n : ℕ) → surely [] n ≡ false
unfolding surely
surely-none n = refl

pub surely-more : (w : Write) (ws : List Write) (n : ℕ) → surely (w ∷ ws) n ≡ ((w.exact && covers w.of.span n) || surely ws n)
unfolding surely
surely-more w ws n = refl

pub one-set : (s : Span) → s.low < s.high → IsSet (s ∷ [])
one-set s some = L.ascending-from 0 s [] (omega arith) some (L.ascending-none s.high)

pub in-one : (s : Span) (n : ℕ) → in_spans (s ∷ []) n ≡ covers s n
in-one s n = L.in-more s [] n ∙ ap (λ b. covers s n || b) (L.in-none n) ∙ L.or-false (covers s n)

-- a write that isn't exact, or that has no bit
pub no-write : (exact : Bool) (s : Span) (n : ℕ) (b : Bool) → (exact ≡ true → s.high ≤ s.low) → b ≡ (b || (exact && covers s n))
no-write true s n b none = sym (ap (λ x. b || x) (L.covers-none s.low s.high n (none refl)) ∙ L.or-false b)
no-write false s n b none = sym (L.or-false b)

pub ruleset sure_laws = (one-set, in-one, no-write, L.in-none, L.ascending-none)

pub sure-on : (w : Write) (ws : List Write) (n : ℕ) (b b' t : Bool) → b' ≡ (b || (w.exact && covers w.of.span n)) → (b || surely (w ∷ ws) n) ≡ t → (b' || surely ws n) ≡ t
sure-on w ws n b b' t new before =
    ap (λ x. x || surely ws n) new ∙ L.or-assoc b (w.exact && covers w.of.span n) (surely ws n) ∙ ap (λ x. b || x) (sym (surely-more w ws n)) ∙ before

pub sure-end : (ws : List Write) (n : ℕ) (b t : Bool) → ws ≡ [] → (b || surely ws n) ≡ t → b ≡ t
sure-end ws n b t none before = sym (ap (λ vs. b || surely vs n) none ∙ ap (λ x. b || x) (surely-none n) ∙ L.or-false b) ∙ before

pub met-none : (s : Span) → met s [] ≡ []
unfolding met
met-none s = refl

pub met-more : (s : Span) (u : Use) (us : List Use) → met s (u ∷ us) ≡ cond (touches u.span s) (u.at ∷ met s us) (met s us)
unfolding met
met-more s u us = refl

pub met-on-yes : (s : Span) (u : Use) (us : List Use) (b all : List ℕ) → touches u.span s ≡ true → b ++ met s (u ∷ us) ≡ all → (b ++ u.at ∷ []) ++ met s us ≡ all
met-on-yes s u us b all touched before =
    append_assoc b (u.at ∷ []) (met s us) ∙ ap (λ ts. b ++ ts) (sym (met-more s u us ∙ ap (λ c. cond c (u.at ∷ met s us) (met s us)) touched)) ∙ before

pub met-on-no : (s : Span) (u : Use) (us : List Use) (b all : List ℕ) → touches u.span s ≡ false → b ++ met s (u ∷ us) ≡ all → b ++ met s us ≡ all
met-on-no s u us b all apart before = ap (λ ts. b ++ ts) (sym (met-more s u us ∙ ap (λ c. cond c (u.at ∷ met s us) (met s us)) apart)) ∙ before

pub met-end : (s : Span) (us : List Use) (b all : List ℕ) → us ≡ [] → b ++ met s us ≡ all → b ≡ all
met-end s us b all none before = sym (ap (λ vs. b ++ met s vs) none ∙ ap (λ ts. b ++ ts) (met-none s) ∙ append-nil b) ∙ before
