-- Operations name what their operands name.
use Rattle.std.proofs.Common.{◌≡◌, ◌⊎◌, inl, inr, ℕ, Bool, List, [], ◌∷◌, ◌++◌, map, flat_map, refl, sym, subst, ap, append-nil}
use Rattle.b4_core.specs.declared.operators.UnOp.{UnOp}
use Rattle.b4_core.specs.declared.operators.BinOp.{BinOp}
use Rattle.b4_core.specs.declared.operators.RedOp.{RedOp}
use Rattle.b4_core.specs.declared.operators.ShiftOp.{ShiftOp}
use Rattle.b4_core.specs.declared.operators.OrdOp.{OrdOp}
use Rattle.b4_core.specs.declared.operators.EqOp.{EqOp}
use Rattle.row_machine.specs.Valuation.{Member}
use Rattle.sv_types.specs.Layouts.{Layout}
use Rattle.sv_types.specs.Meanings as S
use Rattle.sv_types.specs.Operators as O
use Rattle.v_meaning.specs.Scopes.{Scope}
use Rattle.v_meaning.specs.Values as T
use Rattle.lowering_laws.specs.NamedImages.{numbers, AreImages, SameNames, EachNames}

member-left : {A : Type 0} (xs ys : List A) (z : A) → Member xs z → Member (xs ++ ys) z
member-left [] ys z h = absurd h
member-left (x ∷ xs) ys z (inl e) = inl e
member-left (x ∷ xs) ys z (inr h) = inr (member-left xs ys z h)

member-right : {A : Type 0} (xs ys : List A) (z : A) → Member ys z → Member (xs ++ ys) z
member-right [] ys z h = h
member-right (x ∷ xs) ys z h = inr (member-right xs ys z h)

member-split : {A : Type 0} (xs ys : List A) (z : A) → Member (xs ++ ys) z → Member xs z ⊎ Member ys z
member-split [] ys z h = inr h
member-split (x ∷ xs) ys z (inl e) = inl (inl e)
member-split (x ∷ xs) ys z (inr h) = elim (member-split xs ys z h) [ inl k ↦ inl (inr k) | inr k ↦ inr k ]

numbers-both : (xs ys : List S.Named) → numbers (xs ++ ys) ≡ numbers xs ++ numbers ys
numbers-both [] ys = refl
numbers-both (x ∷ xs) ys = ap (λ ns. x.number ∷ ns) (numbers-both xs ys)

module _ (image : ℕ → ℕ) where
  pub no-images : AreImages image [] []
  no-images = record { all = λ n h. absurd h; only = λ q h. absurd h }

  -- the names of two things
  pub both-images : (xs ys : List S.Named) (us vs : List ℕ) → AreImages image xs us → AreImages image ys vs → AreImages image (xs ++ ys) (us ++ vs)
  both-images xs ys us vs h g = record {
    all = λ n k. all-of n (member-split (numbers xs) (numbers ys) n (subst (λ l. Member l n) (numbers-both xs ys) k));
    only = λ q k. only-of q (member-split us vs q k);
  }
    where
      all-of : (n : ℕ) → Member (numbers xs) n ⊎ Member (numbers ys) n → Member (us ++ vs) (image n)
      all-of n (inl k) = member-left us vs (image n) (h.all n k)
      all-of n (inr k) = member-right us vs (image n) (g.all n k)

      only-of : (q : ℕ) → Member us q ⊎ Member vs q → (n : ℕ) × Member (numbers (xs ++ ys)) n × (q ≡ image n)
      only-of q (inl k) = (let r = h.only q k in (r.0, subst (λ l. Member l r.0) (sym (numbers-both xs ys)) (member-left (numbers xs) (numbers ys) r.0 r.1), r.2))
      only-of q (inr k) = (let r = g.only q k in (r.0, subst (λ l. Member l r.0) (sym (numbers-both xs ys)) (member-right (numbers xs) (numbers ys) r.0 r.1), r.2))

  -- a thing whose names stand twice in the target, as those of an index in its guard
  pub twice-images : (xs : List S.Named) (us vs : List ℕ) → AreImages image xs us → AreImages image xs vs → AreImages image xs (us ++ vs)
  twice-images xs us vs h g = record {
    all = λ n k. member-left us vs (image n) (h.all n k);
    only = λ q k. only-of q (member-split us vs q k);
  }
    where
      only-of : (q : ℕ) → Member us q ⊎ Member vs q → (n : ℕ) × Member (numbers xs) n × (q ≡ image n)
      only-of q (inl k) = h.only q k
      only-of q (inr k) = g.only q k

  -- the operands of an operation
  pub each-image : (es : List S.Meaning) (ms : List T.Meaning) (sc : Scope) → EachNames image es ms sc
      → AreImages image (flat_map (λ (e : S.Meaning). e.names) es) (T.all_names ms sc)
  each-image [] [] sc h = no-images
  each-image [] (m ∷ ms) sc h = absurd h
  each-image (e ∷ es) [] sc h = absurd h
  each-image (e ∷ es) (m ∷ ms) sc h =
      both-images e.names (flat_map (λ (x : S.Meaning). x.names) es) (m.names sc) (T.all_names ms sc) h.0 (each-image es ms sc h.1)

  one-image : (e : S.Meaning) (m : T.Meaning) (sc : Scope) → SameNames image e m sc → AreImages image (e.names ++ []) (m.names sc ++ [])
  one-image e m sc h = each-image (e ∷ []) (m ∷ []) sc (h, tt)

  two-images : (e f : S.Meaning) (m n : T.Meaning) (sc : Scope) → SameNames image e m sc → SameNames image f n sc
      → AreImages image (e.names ++ (f.names ++ [])) (m.names sc ++ (n.names sc ++ []))
  two-images e f m n sc h g = each-image (e ∷ f ∷ []) (m ∷ n ∷ []) sc (h, (g, tt))

  pub unary-names : (of : Layout) (at : ℕ) (op : UnOp) (e : S.Meaning) (m : T.Meaning) (sc : Scope) → SameNames image e m sc → SameNames image (O.unary of at op e) (T.unary op m) sc
  unfolding O.unary T.unary
  unary-names of at op e m sc h = one-image e m sc h

  pub reduce-names : (of : Layout) (at : ℕ) (op : RedOp) (e : S.Meaning) (m : T.Meaning) (sc : Scope) → SameNames image e m sc → SameNames image (O.reduce of at op e) (T.reduce op m) sc
  unfolding O.reduce T.reduce
  reduce-names of at op e m sc h = one-image e m sc h

  pub negate-names : (of : Layout) (at : ℕ) (e : S.Meaning) (m : T.Meaning) (sc : Scope) → SameNames image e m sc → SameNames image (O.negate of at e) (T.negate m) sc
  unfolding O.negate T.negate
  negate-names of at e m sc h = one-image e m sc h

  pub signing-names : (e : S.Meaning) (m : T.Meaning) (s : Bool) (sc : Scope) → SameNames image e m sc → SameNames image e (T.signing s m) sc
  unfolding T.signing
  signing-names e m s sc h = subst (λ us. AreImages image e.names us) (sym (append-nil (m.names sc))) h

  pub binary-names : (of : Layout) (at : ℕ) (op : BinOp) (e f : S.Meaning) (m n : T.Meaning) (sc : Scope) → SameNames image e m sc → SameNames image f n sc
      → SameNames image (O.binary of at op e f) (T.binary op m n) sc
  unfolding O.binary T.binary
  binary-names of at op e f m n sc h g = two-images e f m n sc h g

  pub shift-names : (of : Layout) (at : ℕ) (op : ShiftOp) (e f : S.Meaning) (m n : T.Meaning) (sc : Scope) → SameNames image e m sc → SameNames image f n sc
      → SameNames image (O.shift of at op e f) (T.shift op m n) sc
  unfolding O.shift T.shift
  shift-names of at op e f m n sc h g = two-images e f m n sc h g

  pub power-names : (of : Layout) (at : ℕ) (e f : S.Meaning) (m n : T.Meaning) (sc : Scope) → SameNames image e m sc → SameNames image f n sc
      → SameNames image (O.power of at e f) (T.power m n) sc
  unfolding O.power T.power
  power-names of at e f m n sc h g = two-images e f m n sc h g

  pub both-names : (of : Layout) (at : ℕ) (e f : S.Meaning) (m n : T.Meaning) (sc : Scope) → SameNames image e m sc → SameNames image f n sc
      → SameNames image (O.both of at e f) (T.both m n) sc
  unfolding O.both T.both
  both-names of at e f m n sc h g = two-images e f m n sc h g

  pub either-names : (of : Layout) (at : ℕ) (e f : S.Meaning) (m n : T.Meaning) (sc : Scope) → SameNames image e m sc → SameNames image f n sc
      → SameNames image (O.either of at e f) (T.either m n) sc
  unfolding O.either T.either
  either-names of at e f m n sc h g = two-images e f m n sc h g

  pub order-names : (of : Layout) (at : ℕ) (op : OrdOp) (e f : S.Meaning) (m n : T.Meaning) (sc : Scope) → SameNames image e m sc → SameNames image f n sc
      → SameNames image (O.order of at op e f) (T.order op m n) sc
  unfolding O.order T.order
  order-names of at op e f m n sc h g = two-images e f m n sc h g

  pub equal-names : (of : Layout) (at : ℕ) (op : EqOp) (negated : Bool) (e f : S.Meaning) (m n : T.Meaning) (sc : Scope) → SameNames image e m sc → SameNames image f n sc
      → SameNames image (O.equal of at op negated e f) (T.equal op m n) sc × SameNames image (O.equal of at op negated e f) (T.unequal op m n) sc
  unfolding O.equal T.equal T.unequal
  equal-names of at op negated e f m n sc h g = (two-images e f m n sc h g, two-images e f m n sc h g)

  pub choose-names : (of : Layout) (at : ℕ) (on e f : S.Meaning) (k m n : T.Meaning) (sc : Scope) → SameNames image on k sc → SameNames image e m sc → SameNames image f n sc
      → SameNames image (O.choose of at on e f) (T.choose k m n) sc
  unfolding O.choose T.choose
  choose-names of at on e f k m n sc i h g = each-image (on ∷ e ∷ f ∷ []) (k ∷ m ∷ n ∷ []) sc (i, (h, (g, tt)))

  -- the operands of a list, each alone
  alone-names : (es : List S.Meaning) → flat_map (λ (p : S.Operand). p.of.names) (map S.by_itself es) ≡ flat_map (λ (e : S.Meaning). e.names) es
  alone-names [] = refl
  alone-names (e ∷ es) = ap (λ ns. e.names ++ ns) (alone-names es)

  pub concat-names : (of : Layout) (at : ℕ) (es : List S.Meaning) (ms : List T.Meaning) (sc : Scope) → EachNames image es ms sc
      → SameNames image (O.concat of at es) (T.concatenation ms) sc
  unfolding O.concat T.concatenation
  concat-names of at es ms sc h = subst (λ ns. AreImages image ns (T.all_names ms sc)) (sym (alone-names es)) (each-image es ms sc h)

  pub repeat-names : (of : Layout) (at n : ℕ) (es : List S.Meaning) (ms : List T.Meaning) (sc : Scope) → EachNames image es ms sc
      → SameNames image (O.repeat of at n es) (T.repetition n ms) sc
  unfolding O.repeat T.repetition
  repeat-names of at n es ms sc h = subst (λ ns. AreImages image ns (T.all_names ms sc)) (sym (alone-names es)) (each-image es ms sc h)
