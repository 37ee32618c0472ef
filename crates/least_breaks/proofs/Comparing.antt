-- The lesser of two breaks.
use Rattle.std.proofs.Common.{◌≡◌, inl, inr, ℕ, ◌≤◌, Bool, true, false, ◌&&◌, ◌||◌, ◌==◌, cond, List, [], ◌∷◌, ◌++◌, Option, Some, None, refl, ap, sym, subst, arith}
use Rattle.std.specs.Prelude.{nat_lt}
use Rattle.std.proofs.lemmas.Bool.Decides.{nat_tests}
use Rattle.row_machine.proofs.Basics.{true_or_false}
use Rattle.row_machine.proofs.Members.{append-member, member-front, member-back, member-map, map-member}
use Rattle.design_breaks.specs.declared.Break.{Break}
use Rattle.design_breaks.specs.Breaks.{is_less, least_of, at_each}
use Rattle.least_breaks.specs.Least.{IsLeastTokenAt, IsLeastToken, IsLeastAt, IsLeast, LeastIsLeast}

-- the order of three numbers, one after the other
abbrev before : ℕ → ℕ → ℕ → ℕ → ℕ → ℕ → Bool
before i j a b r s = nat_lt i j || ((i == j) && (nat_lt a b || ((a == b) && nat_lt r s)))

before-trans : (i j k a b c r s t : ℕ) → before j i b a s r ≡ false → before k j c b t s ≡ false → before k i c a t r ≡ false
before-trans i j k a b c r s t h g = grind (arith, nat_tests)

not-after : (i j a b r s : ℕ) → before i j a b r s ≡ true → before j i b a s r ≡ false
not-after i j a b r s h = grind (arith, nat_tests)

same-place : (i j a b r s : ℕ) → before i j a b r s ≡ false → before j i b a s r ≡ false → (i ≡ j) × (a ≡ b) × (r ≡ s)
same-place i j a b r s h g = (first, second, third)
  where
    first : i ≡ j
    first = grind (arith, nat_tests)

    second : a ≡ b
    second = grind (arith, nat_tests)

    third : r ≡ s
    third = grind (arith, nat_tests)

-- a break that isn't before one that isn't before a third isn't before that
less-trans : (a b c : Break) → is_less b a ≡ false → is_less c b ≡ false → is_less c a ≡ false
less-trans a b c h g = before-trans a.instance b.instance c.instance a.at b.at c.at a.rule b.rule c.rule h g

less-not : (a b : Break) → is_less a b ≡ true → is_less b a ≡ false
less-not a b h = not-after a.instance b.instance a.at b.at a.rule b.rule h

neither : (a b : Break) → is_less a b ≡ false → is_less b a ≡ false → a ≡ b
neither a b h g =
    let s = same-place a.instance b.instance a.at b.at a.rule b.rule h g in
    λ i. record { instance = s.0 i; at = s.1 i; rule = s.2 i }

pub lesser-none : (xs ys : List Break) (b : Option Break) → IsLeast xs None → IsLeast ys b → IsLeast (xs ++ ys) b
lesser-none xs ys None h g = λ b m. elim (append-member xs ys b m) [ inl x ↦ h b x | inr y ↦ g b y ]
lesser-none xs ys (Some b) h g = record {
  there = member-back xs ys b g.there;
  least = λ c m. elim (append-member xs ys c m) [ inl x ↦ absurd (h c x) | inr y ↦ g.least c y ];
}

pub lesser-first : (xs ys : List Break) (a : Break) → IsLeastAt xs a → IsLeast ys None → IsLeastAt (xs ++ ys) a
lesser-first xs ys a h g = record {
  there = member-front xs ys a h.there;
  least = λ c m. elim (append-member xs ys c m) [ inl x ↦ h.least c x | inr y ↦ absurd (g c y) ];
}

pub lesser-second : (xs ys : List Break) (a b : Break) → is_less b a ≡ true → IsLeastAt xs a → IsLeastAt ys b → IsLeastAt (xs ++ ys) b
lesser-second xs ys a b less h g = record {
  there = member-back xs ys b g.there;
  least = λ c m. elim (append-member xs ys c m) [ inl x ↦ less-trans b a c (less-not b a less) (h.least c x) | inr y ↦ g.least c y ];
}

pub lesser-stays : (xs ys : List Break) (a b : Break) → is_less b a ≡ false → IsLeastAt xs a → IsLeastAt ys b → IsLeastAt (xs ++ ys) a
lesser-stays xs ys a b less h g = record {
  there = member-front xs ys a h.there;
  least = λ c m. elim (append-member xs ys c m) [ inl x ↦ h.least c x | inr y ↦ less-trans a b c less (g.least c y) ];
}

-- at the tokens of an instance
pub none-at : (i rule : ℕ) (ts : List ℕ) → IsLeastToken ts None → IsLeast (at_each i rule ts) None
none-at i rule ts h b m = let r = map-member (λ at. record { instance = i; at = at; rule = rule }) ts b m in h r.0 r.1

later : (i rule at t : ℕ) → at ≤ t → before i i t at rule rule ≡ false
later i rule at t h = grind (arith, nat_tests)

pub some-at : (i rule : ℕ) (ts : List ℕ) (at : ℕ) → IsLeastTokenAt ts at → IsLeastAt (at_each i rule ts) (record { instance = i; at = at; rule = rule })
some-at i rule ts at h = record {
  there = member-map (λ t. record { instance = i; at = t; rule = rule }) ts at h.there;
  least = λ c m.
      let r = map-member (λ t. record { instance = i; at = t; rule = rule }) ts c m in
      subst (λ (x : Break). is_less x (record { instance = i; at = at; rule = rule }) ≡ false) (sym r.2) (later i rule at r.0 (h.least r.0 r.1));
}

-- the least break of a list is one
of-list : (bs : List Break) → IsLeast bs (least_of bs)
of-list [] = λ b m. elim m [ ]
of-list (b ∷ bs) = by (least_of bs) (of-list bs)
  where
    alone : IsLeastAt (b ∷ []) b
    alone = record { there = inl refl; least = λ c m. elim m [ inl is ↦ subst (λ (x : Break). is_less x b ≡ false) (sym is) (itself b) | inr none ↦ elim none [ ] ] }
      where
        itself : (x : Break) → is_less x x ≡ false
        itself x = later x.instance x.rule x.at x.at (omega arith)

    by : (o : Option Break) → IsLeast bs o → IsLeast (b ∷ bs) (elim o [ None ↦ Some b | Some c ↦ cond (is_less c b) (Some c) (Some b) ])
    by None h = lesser-first (b ∷ []) bs b alone h
    by (Some c) h = elim (true_or_false (is_less c b)) [
      | inl is ↦ subst (λ t. IsLeast (b ∷ bs) (cond {A = Option Break} t (Some c) (Some b))) (sym is) (lesser-second (b ∷ []) bs b c is alone h)
      | inr is ↦ subst (λ t. IsLeast (b ∷ bs) (cond {A = Option Break} t (Some c) (Some b))) (sym is) (lesser-stays (b ∷ []) bs b c is alone h)
    ]

same : (bs : List Break) (o r : Option Break) → IsLeast bs o → IsLeast bs r → o ≡ r
same bs None None h g = refl
same bs None (Some b) h g = absurd (h b g.there)
same bs (Some a) None h g = absurd (g a h.there)
same bs (Some a) (Some b) h g = ap Some (neither a b (g.least a h.there) (h.least b g.there))

pub least-is-least : LeastIsLeast
least-is-least bs r h = same bs (least_of bs) r (of-list bs) h

pub ruleset lesser_laws = (lesser-none, lesser-first, lesser-second, lesser-stays, none-at, some-at, least-is-least)
