-- The tokens at which the rule on loops is broken, by the parts of an unrolled list.
use Rattle.std.proofs.Common.{ℕ, zero, suc, Bool, true, false, ◌&&◌, not, cond, List, [], ◌∷◌, Option, Some, None}
use Rattle.sv_types.specs.declared.expression.Expr.{Expr}
use Rattle.sv_types.specs.Surroundings.{Sight}
use Rattle.sv_types.specs.Runs.{most_turns}
use Rattle.sv_types.specs.Expressions.{meaning}
use Rattle.sv_types.proofs.Terms.{Each}
use Rattle.design_breaks.specs.declared.Unrolled.{Unrolled}
use Rattle.design_breaks.specs.Indices.{takes_too_long, said, long_in}
use Rattle.design_breaks.specs.Unrolling as U
use Rattle.design_breaks.specs.Unrolling.{Unrolls, Control}
use Rattle.spot_laws.proofs.Each.{IfSome}
use Rattle.spot_laws.proofs.Exprs.{Told, first-stands, lesser-stands, if-stands, long-all}

module _ (S : ℕ → Type 0) where
  -- what is found so far
  abbrev pub Found : Unrolled → Type 0
  Found u = IfSome S u.endless

  abbrev pub Keeps : Unrolls → Type 0
  Keeps f = (k : Sight) (u : Unrolled) → Found u → Found (f k u)

  keeps-onward : (f : Unrolls) → Keeps f → Keeps (U.onward f)
  keeps-onward f h k u g = by u.left
    where
      by : (left : Option ℕ) → Found (elim left [ None ↦ u | Some n ↦ f k u ])
      by None = g
      by (Some n) = h k u g

  pub keeps-turn : (fs : List Unrolls) → Each Keeps fs → Keeps (U.in_turn fs)
  keeps-turn [] h k u g = g
  keeps-turn (f ∷ fs) h k u g = keeps-turn fs h.1 k (U.onward f k u) (keeps-onward f h.0 k u g)

  pub keeps-counted : (f : Unrolls) → Keeps f → Keeps (U.counted f)
  keeps-counted f h k u g = keeps-onward f h k (record u { left = U.one_less u.left }) g

  pub keeps-uncounted : (f : Unrolls) → Keeps f → Keeps (U.uncounted f)
  keeps-uncounted f h k u g = by (f k (record u { left = Some U.most_statements })) (h k (record u { left = Some U.most_statements }) g)
    where
      kept : (v : Unrolled) (left : Option ℕ) → Found v → Found (elim left [ None ↦ v | Some n ↦ record v { left = u.left } ])
      kept v None i = i
      kept v (Some n) i = i

      by : (v : Unrolled) → Found v → Found (U.with_left u.left v)
      by v i = kept v v.left i

  found-too : (at : Option ℕ) (u : Unrolled) → IfSome S at → Found u → Found (U.found at u)
  found-too None u h g = g
  found-too (Some n) u h g = lesser-stands S u.endless (Some n) g h

  pub keeps-valuing : (es : List Expr) → Each (Told S) es → Keeps (U.valuing es)
  keeps-valuing es h k u g = found-too (long_in es k) u (long-all S es h k) g

  -- loops
  pub record Controls (c : Control) : Type 0 where
    pub at_it : S c.at
    pub first : Told S c.first
    pub test : Told S c.test
    pub step : Told S c.step

  abbrev Finds : (Sight → Option ℕ) → Type 0
  Finds f = (k : Sight) → IfSome S (f k)

  finds-long : (e : Expr) → Told S e → Finds (U.too_long_at e)
  finds-long e h k =
      first-stands S ((said e).long k) (cond (takes_too_long (meaning e) k) (Some e.spot.at) None) (h.long k) (if-stands S (takes_too_long (meaning e) k) e.spot.at h.token)

  finds-one : (b : Bool) (f g : Sight → Option ℕ) → Finds f → Finds g → Finds (U.one_of b f g)
  finds-one true f g h i k = h k
  finds-one false f g h i k = i k

  finds-unless : (at : Option ℕ) (f : Sight → Option ℕ) → IfSome S at → Finds f → Finds (U.unless_at at f)
  finds-unless None f h g k = g k
  finds-unless (Some n) f h g k = h

  finds-lasting : (n : ℕ) (c : Control) → Controls c → Finds (U.lasting n c)
  unfolding U.lasting
  finds-lasting zero c h k =
      finds-unless (U.too_long_at c.test k) (U.one_of (U.goes_on c k) (λ j. Some c.at) (λ j. None)) (finds-long c.test h.test k)
      (finds-one (U.goes_on c k) (λ j. Some c.at) (λ j. None) (λ j. h.at_it) (λ j. tt)) k
  finds-lasting (suc n) c h k =
      finds-unless (U.too_long_at c.test k)
      (U.one_of (U.goes_on c k) (λ j. U.unless_at (U.too_long_at c.step j) (λ i. U.lasting n c (U.given c c.step i)) j) (λ j. None)) (finds-long c.test h.test k)
      (finds-one (U.goes_on c k) (λ j. U.unless_at (U.too_long_at c.step j) (λ i. U.lasting n c (U.given c c.step i)) j) (λ j. None)
      (λ j. finds-unless (U.too_long_at c.step j) (λ i. U.lasting n c (U.given c c.step i)) (finds-long c.step h.step j) (λ i. finds-lasting n c h (U.given c c.step i)) j) (λ j. tt)) k

  keeps-one : (b : Bool) (f g : Sight → Unrolled) (k : Sight) → Found (f k) → Found (g k) → Found (U.one_of b f g k)
  keeps-one true f g k h i = h
  keeps-one false f g k h i = i

  keeps-turns : (n : ℕ) (c : Control) (body : Unrolls) → Keeps body → Keeps (U.turns n c body)
  unfolding U.turns
  keeps-turns zero c body h k u g = g
  keeps-turns (suc n) c body h k u g =
      keeps-one (U.goes_on c k) (λ j. U.turns n c body (U.given c c.step j) (U.onward body j u)) (λ j. u) k
      (keeps-turns n c body h (U.given c c.step k) (U.onward body k u) (keeps-onward body h k u g)) g

  keeps-unless : (at : Option ℕ) (f : Unrolls) → IfSome S at → Keeps f → Keeps (U.unless_found at f)
  keeps-unless None f h g k u i = g k u i
  keeps-unless (Some n) f h g k u i = found-too (Some n) u h i

  keeps-all : (c : Control) (body : Unrolls) → Controls c → Keeps body → Keeps (U.all_turns c body)
  keeps-all c body h g k u i =
      keeps-unless (U.too_long_at c.first k) (λ j v. U.unless_found (U.lasting most_turns c (U.given c c.first j)) (λ o w. U.turns most_turns c body (U.given c c.first o) w) j v)
      (finds-long c.first h.first k)
      (λ j v f. keeps-unless (U.lasting most_turns c (U.given c c.first j)) (λ o w. U.turns most_turns c body (U.given c c.first o) w)
      (finds-lasting most_turns c h (U.given c c.first j)) (λ o w e. keeps-turns most_turns c body g (U.given c c.first o) w e) j v f) k u i

  pub keeps-looping : (is_counted : Bool) (c : Control) (body : Unrolls) → Controls c → Keeps body → (k : Sight) (u : Unrolled) → Found u → Found (U.looping is_counted c body k u)
  keeps-looping is_counted c body h g k u i =
      keeps-one (is_counted && not (U.is_past u.endless c.at)) (λ j. U.all_turns c body j u) (λ j. u) k (keeps-all c body h g k u i) i
