-- What a pass over the rules does to the marks.
use Rattle.std.proofs.Common.{◌≡◌, ◌<◌, ◌≤◌, ◌+◌, ◌⊎◌, inl, inr, ◌&&◌, ℕ, zero, suc, List, [], ◌∷◌, ◌++◌, max, Some, Bool, true, false, refl, sym, ◌∙◌, ap, subst, slice_get, get_or, set, replicate, length, arith}
use Rattle.std.proofs.lemmas.List.{get_or-set_other}
use Rattle.ll_engine.specs.declared.rules.Rule.{Rule}
use Rattle.ll_engine.specs.Marks.{marked, Has, Holds, Tells, AreMarks, AreWithin, all_marked, unmarked, AreSound, AreClosed, rule_bound}

pub has_at : {A : Type 0} (xs : List A) (n : ℕ) (d : A) → n < length xs → Has xs (get_or xs n d)
has_at [] n d h = absurd (omega arith)
has_at (x ∷ xs) zero d h = inl refl
has_at (x ∷ xs) (suc n) d h = inr (has_at xs n d (omega arith))

pub has_index : {A : Type 0} (xs : List A) (x : A) → Has xs x → (i : ℕ) × (i < length xs) × (slice_get xs i ≡ Some x)
has_index [] x h = absurd h
has_index (y ∷ ys) x (inl e) = (0, omega arith, ap Some e)
has_index (y ∷ ys) x (inr h) = let r = has_index ys x h in let l = r.1 in (suc r.0, omega (arith, l), r.2)

pub index_has : {A : Type 0} (xs : List A) (x : A) (i : ℕ) → slice_get xs i ≡ Some x → Has xs x
index_has [] x i e = cc
index_has (y ∷ ys) x zero e = let f : y ≡ x = cc in inl f
index_has (y ∷ ys) x (suc i) e = inr (index_has ys x i e)

pub slice_get_at : {A : Type 0} (xs : List A) (n : ℕ) (d : A) → n < length xs → slice_get xs n ≡ Some (get_or xs n d)
slice_get_at [] n d h = absurd (omega arith)
slice_get_at (x ∷ xs) zero d h = refl
slice_get_at (x ∷ xs) (suc n) d h = slice_get_at xs n d (omega arith)

pub slice_get_short : {A : Type 0} (xs : List A) (n : ℕ) (x : A) → slice_get xs n ≡ Some x → n < length xs
slice_get_short [] n x e = cc
slice_get_short (y ∷ ys) zero x e = omega arith
slice_get_short (y ∷ ys) (suc n) x e = let h = slice_get_short ys n x e in omega (arith, h)

and_is : (a b : Bool) → (a && b) ≡ true → (a ≡ true) × (b ≡ true)
and_is true b e = (refl, e)
and_is false b e = cc

pub all_has : (marks : List Bool) (gs : List ℕ) → all_marked marks gs ≡ true → (g : ℕ) → Has gs g → marked marks g ≡ true
all_has marks [] e g h = absurd h
all_has marks (x ∷ gs) e g (inl f) = subst (λ q. marked marks q ≡ true) f (and_is (marked marks x) (all_marked marks gs) e).0
all_has marks (x ∷ gs) e g (inr h) = all_has marks gs (and_is (marked marks x) (all_marked marks gs) e).1 g h

pub has_all : (marks : List Bool) (gs : List ℕ) → ((g : ℕ) → Has gs g → marked marks g ≡ true) → all_marked marks gs ≡ true
has_all marks [] f = refl
has_all marks (x ∷ gs) f = rw (f x (inl refl)) (has_all marks gs (λ g h. f g (inr h)))

pub unmarked_set : (marks : List Bool) (n : ℕ) → n < length marks → marked marks n ≡ false
    → suc (unmarked (set marks n true)) ≡ unmarked marks
unmarked_set [] n h e = absurd (omega arith)
unmarked_set (true ∷ ms) zero h e = cc
unmarked_set (false ∷ ms) zero h e = refl
unmarked_set (true ∷ ms) (suc n) h e = unmarked_set ms n (omega arith) e
unmarked_set (false ∷ ms) (suc n) h e = ap suc (unmarked_set ms n (omega arith) e)

same_or_not : (a b : ℕ) → (a ≡ b) ⊎ (a ≡ b → ⊥)
same_or_not a b = grind arith

-- one mark more
pub sound_set : (rules : List Rule) (marks : List Bool) (r : Rule) → AreSound rules marks → Has rules r
    → all_marked marks r.from ≡ true → AreSound rules (set marks r.to true)
sound_set rules marks r s h a g e = go (same_or_not g r.to)
  where
    go : (g ≡ r.to) ⊎ (g ≡ r.to → ⊥) → Holds rules g
    go (inl f) = Holds.by_rule r h (sym f) (λ k m. s k (all_has marks r.from a k m))
    go (inr n) = s g (sym (get_or-set_other marks r.to g true false n) ∙ e)

pub below_suc : {P : ℕ → Type 0} (n : ℕ) → ((i : ℕ) → i < n → P i) → P n → (i : ℕ) → i < suc n → P i
below_suc {P} n f p i h = go (same_or_not i n)
  where
    go : (i ≡ n) ⊎ (i ≡ n → ⊥) → P i
    go (inl e) = subst P (sym e) p
    go (inr m) = f i (omega arith)

pub marks_exact : (rules : List Rule) (marks : List Bool) → AreSound rules marks → AreClosed rules (length rules) marks
    → AreMarks rules marks
marks_exact rules marks s c h = go (marked marks h) refl
  where
    holds : (g : ℕ) → Holds rules g → marked marks g ≡ true
    holds g (Holds.by_rule r m e f) =
        let i = has_index rules r m in
        subst (λ q. marked marks q ≡ true) e (c i.0 r i.1 i.2 (has_all marks r.from (λ k n. holds k (f k n))))

    go : (b : Bool) → marked marks h ≡ b → Tells b (Holds rules h)
    go true e = s h e
    go false e = λ k. let m = holds h k in cc (m, e)

pub none_marked : (n h : ℕ) → marked (replicate n false) h ≡ false
none_marked zero h = refl
none_marked (suc n) zero = refl
none_marked (suc n) (suc h) = none_marked n h

-- the first `n` rules were applied
pub record Applied (rules : List Rule) (n : ℕ) (changed : Bool) (old now : List Bool) : Type 0 where
  pub sound : AreSound rules old → AreSound rules now
  pub fewer : changed ≡ true → unmarked now < unmarked old
  pub no_more : unmarked now ≤ unmarked old
  pub closed : changed ≡ false → AreClosed rules n now

pub step_new : (rules : List Rule) (n : ℕ) (changed : Bool) (old now : List Bool) (r : Rule) → Applied rules n changed old now
    → Has rules r → all_marked now r.from ≡ true → marked now r.to ≡ false → r.to < length now
    → Applied rules (suc n) true old (set now r.to true)
step_new rules n changed old now r a h m e l =
    let u = unmarked_set now r.to l e in
    let k = a.no_more in
    record {
      sound = λ s. sound_set rules now r (a.sound s) h m;
      fewer = λ f. omega (arith, u, k);
      no_more = omega (arith, u, k);
      closed = λ f. cc;
    }

pub step_old : (rules : List Rule) (n : ℕ) (changed : Bool) (old now : List Bool) (r : Rule) → Applied rules n changed old now
    → slice_get rules n ≡ Some r → (all_marked now r.from ≡ true → marked now r.to ≡ true)
    → Applied rules (suc n) changed old now
step_old rules n changed old now r a g f = record {
  sound = a.sound;
  fewer = a.fewer;
  no_more = a.no_more;
  closed = λ e. λ i s h w m. below_suc {P = λ j. (q : Rule) → slice_get rules j ≡ Some q → all_marked now q.from ≡ true → marked now q.to ≡ true} n
      (λ j l q b c. a.closed e j q l b c)
      (λ q b c.
      let same : r ≡ q = some_same (g) b in
      subst (λ z. marked now z.to ≡ true) same (f (subst (λ z. all_marked now z.from ≡ true) (sym same) c)))
      i h s w m;
}
  where
    some_same : {q : Rule} → slice_get rules n ≡ Some r → slice_get rules n ≡ Some q → r ≡ q
    some_same x y = cc

bound_grows : (rs : List Rule) (n : ℕ) → n ≤ rule_bound rs n
bound_grows [] n = omega arith
bound_grows (r ∷ rs) n = let h = bound_grows rs (max n (r.to + 1)) in omega (arith, h)

within_bound : (rs : List Rule) (n : ℕ) (r : Rule) → Has rs r → r.to < rule_bound rs n
within_bound [] n r h = absurd h
within_bound (x ∷ rs) n r (inl e) =
    let h = bound_grows rs (max n (x.to + 1)) in
    let f : x.to ≡ r.to = ap (λ q. q.to) e in
    omega (arith, h, f)
within_bound (x ∷ rs) n r (inr h) = within_bound rs (max n (x.to + 1)) r h

pub are_within : (rs : List Rule) → AreWithin (rule_bound rs 0) rs
are_within rs r h = within_bound rs 0 r h

pub each_push : {A : Type 0} (P : ℕ → A → Type 0) (xs : List A) (y : A) → ((i : ℕ) (x : A) → slice_get xs i ≡ Some x → P i x)
    → P (length xs) y → (i : ℕ) (x : A) → slice_get (xs ++ y ∷ []) i ≡ Some x → P i x
each_push P [] y f p zero x e = let h : y ≡ x = cc in subst (λ q. P 0 q) h p
each_push P [] y f p (suc i) x e = cc
each_push P (z ∷ xs) y f p zero x e = f 0 x e
each_push P (z ∷ xs) y f p (suc i) x e = each_push (λ n q. P (suc n) q) xs y (λ n q h. f (suc n) q h) p i x e
