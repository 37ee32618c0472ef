-- What holds of each token of a list holds of the tokens that are made of it.
use Rattle.std.proofs.Common.{◌≡◌, inl, inr, ℕ, Bool, true, false, cond, List, [], ◌∷◌, map, filter, Option, Some, None, refl, sym, subst}
use Rattle.std.specs.Prelude.{min}
use Rattle.sv_types.specs.declared.design.Design.{Design}
use Rattle.sv_types.specs.Surroundings.{Use, Write, is_signal}
use Rattle.sv_types.specs.Flows.{uses_of}
use Rattle.sv_types.proofs.Terms.{Each}
use Rattle.design_breaks.specs.declared.Unrolled.{Unrolled}
use Rattle.design_breaks.specs.Breaks as B
use Rattle.spot_laws.proofs.Each.{each-map, IfSome}
use Rattle.spot_laws.proofs.Tells.{AtUse, AtWrite}
use Rattle.spot_laws.proofs.Exprs.{min-is-one}

module _ (S : ℕ → Type 0) where
  -- a write of a signal, as what locals are written at is no token
  abbrev pub AtSignal : Use → Type 0
  AtSignal u = is_signal u.number ≡ true → S u.at

  pub signal-uses : (ws : List Write) → Each (AtWrite S) ws → Each AtSignal (uses_of ws)
  signal-uses [] h = tt
  signal-uses (w ∷ ws) h = (h.0, signal-uses ws h.1)

  -- those that pass a test which only signals pass
  pub tested : (test : Use → Bool) → ((u : Use) → test u ≡ true → is_signal u.number ≡ true) → (us : List Use) → Each AtSignal us → Each (AtUse S) (filter test us)
  tested test only [] h = tt
  tested test only (u ∷ us) h = by (test u) refl (tested test only us h.1)
    where
      by : (b : Bool) → test u ≡ b → Each (AtUse S) (filter test us) → Each (AtUse S) (cond b (u ∷ filter test us) (filter test us))
      by true is rest = (h.0 (only u is), rest)
      by false is rest = rest

  pub tokens : (us : List Use) → Each (AtUse S) us → Each S (map (λ (u : Use). u.at) us)
  tokens us h = each-map S (λ (u : Use). u.at) us h

  lesser : (n m : ℕ) → S n → S m → S (min n m)
  lesser n m h g = elim (min-is-one n m) [ inl is ↦ subst S (sym is) h | inr is ↦ subst S (sym is) g ]

  pub each-least : (d : Design) (ns : List ℕ) → Each S ns → Each S (B.least d ns)
  each-least d [] h = tt
  each-least d (n ∷ ns) h = by (B.least d ns) (each-least d ns h.1)
    where
      by : (ms : List ℕ) → Each S ms → Each S (elim ms [ [] ↦ n ∷ [] | m ∷ rest ↦ min n m ∷ [] ])
      by [] g = (h.0, tt)
      by (m ∷ rest) g = (lesser n m h.0 g.0, tt)

  pub each-endless : (u : Unrolled) → IfSome S u.endless → Each S (B.endless_at u)
  each-endless u h = by u.endless h
    where
      by : (o : Option ℕ) → IfSome S o → Each S (elim o [ None ↦ [] | Some at ↦ at ∷ [] ])
      by None g = tt
      by (Some at) g = (g, tt)
