-- Tokens of writes, as the definitions list them and as they are found.
use Rattle.std.proofs.Common.{◌≡◌, inl, inr, ℕ, ◌<◌, ◌^◌, Bool, true, false, ◌&&◌, not, cond, List, [], ◌∷◌, ◌++◌, map, filter, Option, None, refl, ap, sym, ◌∙◌, subst, arith}
use Rattle.std.specs.Prelude.{nat_lt}
use Rattle.std.proofs.lemmas.Bool.{le-ltb, and_right, cases_lt, false≢true}
use Rattle.std.proofs.lemmas.Bool.Decides.{nat_tests}
use Rattle.std.proofs.lemmas.Nat.{div-mul-add}
use Rattle.row_machine.specs.Valuation.{Member}
use Rattle.bit_sets.specs.declared.span.Span.{Span}
use Rattle.sv_types.specs.declared.design.Design.{Design}
use Rattle.sv_types.specs.declared.design.Process.{Process}
use Rattle.sv_types.specs.declared.design.ProcessKind.{ProcessKind}
use Rattle.sv_types.specs.declared.design.ProcessKind.TheVariants.{Continuous, Link, Comb, Latch, Star, Edges}
use Rattle.sv_types.specs.declared.design.Signal.{Signal}
use Rattle.sv_types.specs.Surroundings as S
use Rattle.sv_types.specs.Surroundings.{is_signal}
use Rattle.sv_types.specs.Flows.{uses_of}
use Rattle.flow_sets.specs.declared.found.Found.{Found}
use Rattle.flow_sets.specs.declared.uses.Write.{Write}
use Rattle.flow_sets.specs.Bits.{position, span_of, write_of, AllShort}
use Rattle.flow_sets.specs.Flows.{IsFlow}
use Rattle.flow_sets.proofs.Positions.{short-more}
use Rattle.design_breaks.specs.Memories.{flow, is_edged, writes_of}
use Rattle.design_breaks.specs.Breaks as B
use Rattle.least_breaks.specs.Least.{with_token, least_from, IsLeastToken}
use Rattle.least_breaks.proofs.Tokens.{is-least}
use Rattle.value_breaks.specs.Signals as V
use Rattle.value_breaks.specs.Signals.{signal_of, is_of_value, is_foreign, is_continuous, least_by}

-- the tokens of the writes of some kind
abbrev pub tokens : (Span → Bool) → List Write → List ℕ
tokens test ws = map (λ (w : Write). w.of.at) (filter (λ (w : Write). test w.of.span) ws)

by-tokens : (test : Span → Bool) (ws : List Write) (acc : Option ℕ) → least_by test acc ws ≡ least_from acc (tokens test ws)
unfolding least_from
by-tokens test [] acc = refl
by-tokens test (w ∷ ws) acc = by (test w.of.span) (by-tokens test ws)
  where
    by : (b : Bool) → ((a : Option ℕ) → least_by test a ws ≡ least_from a (tokens test ws))
        → least_by test (cond b (with_token acc w.of.at) acc) ws
        ≡ least_from acc (map (λ (x : Write). x.of.at) (cond b (w ∷ filter (λ (x : Write). test x.of.span) ws) (filter (λ (x : Write). test x.of.span) ws)))
    by true h = h (with_token acc w.of.at)
    by false h = h acc

-- one list of writes and then another
twice : (test : Span → Bool) (vs ws : List Write) (acc : Option ℕ) → least_by test (least_by test acc vs) ws ≡ least_from acc (tokens test vs ++ tokens test ws)
unfolding least_from
twice test [] ws acc = by-tokens test ws acc
twice test (v ∷ vs) ws acc = by (test v.of.span) (twice test vs ws)
  where
    by : (b : Bool) → ((a : Option ℕ) → least_by test (least_by test a vs) ws ≡ least_from a (tokens test vs ++ tokens test ws))
        → least_by test (least_by test (cond b (with_token acc v.of.at) acc) vs) ws
        ≡ least_from acc (map (λ (x : Write). x.of.at) (cond b (v ∷ filter (λ (x : Write). test x.of.span) vs) (filter (λ (x : Write). test x.of.span) vs)) ++ tokens test ws)
    by true h = h (with_token acc v.of.at)
    by false h = h acc

-- what is found, by the uses that it is found of
abbrev at_of : S.Use → ℕ
at_of u = u.at

found-tokens : (test : Span → Bool) (t : S.Use → Bool) → ((u : S.Use) → u.high < 2 ^ 32 → test (span_of u) ≡ t u) → (ws : List S.Write) → AllShort (uses_of ws)
    → tokens test (map write_of ws) ≡ map at_of (filter t (uses_of ws))
found-tokens test t same [] short = refl
found-tokens test t same (w ∷ ws) short =
    let more = short-more w.of (uses_of ws) short in
    one (t w.of) (test (span_of w.of)) (same w.of more.0) (found-tokens test t same ws more.1)
  where
    one : (b c : Bool) → c ≡ b → tokens test (map write_of ws) ≡ map at_of (filter t (uses_of ws))
        → map (λ (x : Write). x.of.at) (cond c (write_of w ∷ filter (λ (x : Write). test x.of.span) (map write_of ws)) (filter (λ (x : Write). test x.of.span) (map write_of ws)))
        ≡ map at_of (cond b (w.of ∷ filter t (uses_of ws)) (filter t (uses_of ws)))
    one true true is h = ap (λ ts. w.of.at ∷ ts) h
    one false false is h = h
    one true false is h = absurd (false≢true is)
    one false true is h = absurd (false≢true (sym is))

filter-twice : (s t : S.Use → Bool) (us : List S.Use) → filter t (filter s us) ≡ filter (λ u. s u && t u) us
filter-twice s t [] = refl
filter-twice s t (u ∷ us) = by (s u) (filter-twice s t us)
  where
    by : (b : Bool) → filter t (filter s us) ≡ filter (λ v. s v && t v) us
        → filter t (cond b (u ∷ filter s us) (filter s us)) ≡ cond (b && t u) (u ∷ filter (λ v. s v && t v) us) (filter (λ v. s v && t v) us)
    by true h = ap (λ vs. cond (t u) (u ∷ vs) vs) h
    by false h = h

filter-append : (t : S.Use → Bool) (us vs : List S.Use) → map at_of (filter t (us ++ vs)) ≡ map at_of (filter t us) ++ map at_of (filter t vs)
filter-append t [] vs = refl
filter-append t (u ∷ us) vs = by (t u) (filter-append t us vs)
  where
    by : (b : Bool) → map at_of (filter t (us ++ vs)) ≡ map at_of (filter t us) ++ map at_of (filter t vs)
        → map at_of (cond b (u ∷ filter t (us ++ vs)) (filter t (us ++ vs))) ≡ map at_of (cond b (u ∷ filter t us) (filter t us)) ++ map at_of (filter t vs)
    by true h = ap (λ ts. u.at ∷ ts) h
    by false h = h

-- a span that has a bit begins in its signal
begins : (u : S.Use) → u.high < 2 ^ 32 → u.low < u.high → signal_of (span_of u) ≡ u.number
begins u short some = div-mul-add u.number (2 ^ 32) u.low (omega (arith, short, some))

some-bits : (n low high : ℕ) → nat_lt (position n low) (position n high) ≡ nat_lt low high
some-bits n low high = grind (arith, nat_tests)

is-a-signal : (n low high : ℕ) → low < high → high < 2 ^ 32 → nat_lt (position n low) (2 ^ 64) ≡ is_signal n
is-a-signal n low high some short = grind (arith, nat_tests)

module _ (ss : List Signal) where
  abbrev value_use : S.Use → Bool
  value_use u = is_signal u.number && (V.is_declared ss u.number && nat_lt u.low u.high)

  value-agrees : (u : S.Use) → u.high < 2 ^ 32 → is_of_value ss (span_of u) ≡ value_use u
  value-agrees u short = elim (cases_lt u.low u.high) [
    | inl some ↦ ap (λ b. b && (V.is_declared ss (signal_of (span_of u)) && nat_lt (span_of u).low (span_of u).high)) (is-a-signal u.number u.low u.high some short)
        ∙ ap (λ n. is_signal u.number && (V.is_declared ss n && nat_lt (span_of u).low (span_of u).high)) (begins u short some)
        ∙ ap (λ b. is_signal u.number && (V.is_declared ss u.number && b)) (some-bits u.number u.low u.high)
    | inr none ↦ (let e = le-ltb u.low u.high none in
        and_right (nat_lt (span_of u).low (2 ^ 64)) (V.is_declared ss (signal_of (span_of u)) && nat_lt (span_of u).low (span_of u).high)
        (and_right (V.is_declared ss (signal_of (span_of u))) (nat_lt (span_of u).low (span_of u).high) (some-bits u.number u.low u.high ∙ e))
        ∙ sym (and_right (is_signal u.number) (V.is_declared ss u.number && nat_lt u.low u.high) (and_right (V.is_declared ss u.number) (nat_lt u.low u.high) e)))
  ]

  abbrev foreign_use : ProcessKind → S.Use → Bool
  foreign_use k u = V.is_any_input ss u.number && (nat_lt u.low u.high && not (V.is_own_link k u.number))

  foreign-agrees : (k : ProcessKind) (u : S.Use) → u.high < 2 ^ 32 → is_foreign ss k (span_of u) ≡ foreign_use k u
  foreign-agrees k u short = elim (cases_lt u.low u.high) [
    | inl some ↦ ap (λ n. V.is_any_input ss n && (nat_lt (span_of u).low (span_of u).high && not (V.is_own_link k n))) (begins u short some)
        ∙ ap (λ b. V.is_any_input ss u.number && (b && not (V.is_own_link k u.number))) (some-bits u.number u.low u.high)
    | inr none ↦ (let e = le-ltb u.low u.high none in
        and_right (V.is_any_input ss (signal_of (span_of u))) (nat_lt (span_of u).low (span_of u).high && not (V.is_own_link k (signal_of (span_of u))))
        (ap (λ b. b && not (V.is_own_link k (signal_of (span_of u)))) (some-bits u.number u.low u.high ∙ e))
        ∙ sym (and_right (V.is_any_input ss u.number) (nat_lt u.low u.high && not (V.is_own_link k u.number)) (ap (λ b. b && not (V.is_own_link k u.number)) e)))
  ]

own-link : (d : Design) (k : ProcessKind) (n : ℕ) → V.is_own_link k n ≡ B.is_own_link d k n
own-link d Continuous n = refl
own-link d (Link port) n = refl
own-link d Comb n = refl
own-link d Latch n = refl
own-link d Star n = refl
own-link d (Edges es) n = refl

drives : (d : Design) (k : ProcessKind) → is_continuous k ≡ B.continuous d k
drives d Continuous = refl
drives d (Link port) = refl
drives d Comb = refl
drives d Latch = refl
drives d Star = refl
drives d (Edges es) = refl

not-edged : (k : ProcessKind) → is_continuous k ≡ true → is_edged k ≡ false
not-edged Continuous h = refl
not-edged (Link port) h = refl
not-edged Comb h = refl
not-edged Latch h = refl
not-edged Star h = refl
not-edged (Edges es) h = absurd (false≢true h)

abbrev signals_in : List S.Use → List S.Use
signals_in us = filter (λ (u : S.Use). is_signal u.number) us

abbrev declared_tokens : Design → List S.Use → List ℕ
declared_tokens d us = map at_of (filter (λ (u : S.Use). B.is_declared d u.number && nat_lt u.low u.high) us)

-- of a process that drives what it assigns
pub values-law : (ss : List Signal) (p : Process) (found : Found) (r : Option ℕ) → is_continuous p.kind ≡ true → r ≡ least_by (is_of_value ss) None found.writes
    → (d : Design) → ss ≡ d.signals → IsFlow found (flow d p) → B.unrolls d p.body ≡ true → IsLeastToken (B.drives_a_value d p) r
values-law ss p found r drive is d same flows can = is-least (B.drives_a_value d p) r (sym (is ∙ by-tokens (is_of_value ss) found.writes None ∙ ap (least_from None) listed))
  where
    listed : tokens (is_of_value ss) found.writes ≡ B.drives_a_value d p
    listed =
        ap (tokens (is_of_value ss)) flows.writes.same
        ∙ ap (λ (xs : List Signal). tokens (is_of_value xs) (map write_of (flow d p).writes)) same
        ∙ found-tokens (is_of_value d.signals) (value_use d.signals) (value-agrees d.signals) (flow d p).writes flows.writes.short
        ∙ ap (map at_of) (sym (filter-twice (λ (u : S.Use). is_signal u.number) (λ (u : S.Use). B.is_declared d u.number && nat_lt u.low u.high) (uses_of (flow d p).writes)))
        ∙ sym (ap (λ b. declared_tokens d (signals_in (cond b (uses_of (flow d p).later) (uses_of (flow d p).writes)))) (not-edged p.kind drive))
        ∙ sym (ap (λ b. declared_tokens d (B.only_if b (signals_in (writes_of d p)))) can)
        ∙ sym (ap (λ b. B.only_if b (declared_tokens d (B.all_writes d p))) (sym (drives d p.kind) ∙ drive))

-- of another process
pub no-values-law : (p : Process) → is_continuous p.kind ≡ false → (d : Design) → IsLeastToken (B.drives_a_value d p) None
no-values-law p other d = λ t m. subst (λ b. Member (B.only_if b (map at_of (filter (λ (u : S.Use). B.is_declared d u.number && nat_lt u.low u.high) (B.all_writes d p)))) t → ⊥) (sym (sym (drives d p.kind) ∙ other)) (λ x. x) m

abbrev foreign_to : Design → Process → S.Use → Bool
foreign_to d p u = B.is_any_input d u.number && (nat_lt u.low u.high && not (B.is_own_link d p.kind u.number))

pub inputs-law : (ss : List Signal) (p : Process) (found : Found) (r : Option ℕ)
    → r ≡ least_by (is_foreign ss p.kind) (least_by (is_foreign ss p.kind) None found.writes) found.later
    → (d : Design) → ss ≡ d.signals → IsFlow found (flow d p) → B.unrolls d p.body ≡ true → IsLeastToken (B.writes_input d p) r
inputs-law ss p found r is d same flows can = is-least (B.writes_input d p) r (sym (is ∙ twice (is_foreign ss p.kind) found.writes found.later None ∙ ap (least_from None) listed))
  where
    agrees : (u : S.Use) → u.high < 2 ^ 32 → is_foreign d.signals p.kind (span_of u) ≡ foreign_to d p u
    agrees u short = foreign-agrees d.signals p.kind u short ∙ ap (λ b. B.is_any_input d u.number && (nat_lt u.low u.high && not b)) (own-link d p.kind u.number)

    both : tokens (is_foreign d.signals p.kind) found.writes ++ tokens (is_foreign d.signals p.kind) found.later
        ≡ map at_of (filter (foreign_to d p) (uses_of (flow d p).writes)) ++ map at_of (filter (foreign_to d p) (uses_of (flow d p).later))
    both =
        ap (λ ts. ts ++ tokens (is_foreign d.signals p.kind) found.later)
        (ap (tokens (is_foreign d.signals p.kind)) flows.writes.same ∙ found-tokens (is_foreign d.signals p.kind) (foreign_to d p) agrees (flow d p).writes flows.writes.short)
        ∙ ap (λ ts. map at_of (filter (foreign_to d p) (uses_of (flow d p).writes)) ++ ts)
        (ap (tokens (is_foreign d.signals p.kind)) flows.later.same ∙ found-tokens (is_foreign d.signals p.kind) (foreign_to d p) agrees (flow d p).later flows.later.short)

    listed : tokens (is_foreign ss p.kind) found.writes ++ tokens (is_foreign ss p.kind) found.later ≡ B.writes_input d p
    listed =
        ap (λ (xs : List Signal). tokens (is_foreign xs p.kind) found.writes ++ tokens (is_foreign xs p.kind) found.later) same
        ∙ both
        ∙ sym (filter-append (foreign_to d p) (uses_of (flow d p).writes) (uses_of (flow d p).later))
        ∙ sym (ap (λ b. B.only_if b (map at_of (filter (foreign_to d p) (uses_of (flow d p).writes ++ uses_of (flow d p).later)))) can)

pub ruleset value_laws = (values-law, no-values-law, inputs-law)
