-- The first break in the order of the text is the least.
use Rattle.std.proofs.Common.{◌≡◌, ℕ, ◌<◌, ◌≤◌, inl, inr, false, ◌&&◌, ◌||◌, List, [], ◌∷◌, Option, Some, None, refl, sym, ◌∙◌, subst, arith}
use Rattle.std.specs.Prelude.{nat_lt}
use Rattle.std.proofs.lemmas.Bool.Decides.{nat_tests}
use Rattle.expr_type.specs.Breaks.{Position, Breaks, At, And, Behind, Quiet, Key, key_at, key_behind, Has, turn_before, same_turn, is_before, or_next, behind, first, IsLeast, Stands, Within}

-- a key begins with a position in a part of a text
abbrev Begins : ℕ → ℕ → ℕ → List Position → Type 0
Begins i low high [] = ⊥
Begins i low high (p ∷ ps) = Stands i low high p

wider : (i low high low' high' : ℕ) (ps : List Position) → low' ≤ low → high ≤ high' → Begins i low high ps → Begins i low' high' ps
wider i low high low' high' [] h k b = absurd b
wider i low high low' high' (p ∷ ps) h k b = record { instance = b.instance; from = omega arith; before = omega arith }

begins : (b : Breaks) (i low high : ℕ) → Within b i low high → (k : Key) → Has b k → Begins i low high k.turn
begins (At p rule) i low high w k h = subst (λ (x : Key). Begins i low high x.turn) (sym h) w
begins (And a b) i low high w k (inl h) = wider i low w.0 low high k.turn (omega arith) (omega arith) (begins a i low w.0 w.3 k h)
begins (And a b) i low high w k (inr h) = wider i w.0 high low high k.turn (omega arith) (omega arith) (begins b i w.0 high w.4 k h)
begins (Behind p b) i low high w k h = subst (λ (x : Key). Begins i low high x.turn) (sym h.2) w.0
begins Quiet i low high w k h = absurd h

-- what begins with an earlier token is before what begins with a later one
starts-before : (i low between high : ℕ) (a b : Key) → Begins i low between a.turn → Begins i between high b.turn → is_before b a ≡ false
starts-before i low between high a b x y = turns a.turn b.turn x y
  where
    turns : (ps qs : List Position) → Begins i low between ps → Begins i between high qs → (turn_before qs ps || (same_turn qs ps && nat_lt b.rule a.rule)) ≡ false
    turns [] qs x y = absurd x
    turns (p ∷ ps) [] x y = absurd y
    turns (p ∷ ps) (q ∷ qs) x y =
        let e : p.instance ≡ q.instance = x.instance ∙ sym y.instance in
        let l : p.at < q.at = omega arith in
        grind (arith, nat_tests, e, l)

not-itself : (k : Key) → is_before k k ≡ false
not-itself k = turns k.turn
  where
    turns : (ps : List Position) → (turn_before ps ps || (same_turn ps ps && nat_lt k.rule k.rule)) ≡ false
    turns [] = grind (arith, nat_tests)
    turns (p ∷ ps) = let h = turns ps in grind (arith, nat_tests, h)

-- behind one position the order stays
behind-same : (p : Position) (a b : Key) → is_before (key_behind p a) (key_behind p b) ≡ is_before a b
behind-same p a b = grind (arith, nat_tests)

and-least : (a b : Breaks) (i low between high : ℕ) → Within a i low between → Within b i between high
    → (x y : Option Key) → IsLeast a x → IsLeast b y → IsLeast (And a b) (or_next x y)
and-least a b i low between high wa wb None None la lb = none
  where
    none : (k : Key) → Has (And a b) k → ⊥
    none k (inl h) = la k h
    none k (inr h) = lb k h
and-least a b i low between high wa wb None (Some y) la lb = record { has = inr lb.has; least = least }
  where
    least : (other : Key) → Has (And a b) other → is_before other y ≡ false
    least other (inl h) = absurd (la other h)
    least other (inr h) = lb.least other h
and-least a b i low between high wa wb (Some x) y la lb = record { has = inl la.has; least = least }
  where
    least : (other : Key) → Has (And a b) other → is_before other x ≡ false
    least other (inl h) = la.least other h
    least other (inr h) = starts-before i low between high x other (begins a i low between wa x la.has) (begins b i between high wb other h)

behind-least : (p : Position) (b : Breaks) (x : Option Key) → IsLeast b x → IsLeast (Behind p b) (behind p x)
behind-least p b None l = λ k h. l h.0 h.1
behind-least p b (Some x) l = record {
  has = (x, l.has, refl);
  least = λ other h. subst (λ (y : Key). is_before y (key_behind p x) ≡ false) (sym h.2) (behind-same p h.0 x ∙ l.least h.0 h.1);
}

pub first-least : (b : Breaks) (i low high : ℕ) → Within b i low high → IsLeast b (first b)
first-least (At p rule) i low high w = record {
  has = refl;
  least = λ other h. subst (λ (y : Key). is_before y (key_at p rule) ≡ false) (sym h) (not-itself (key_at p rule));
}
first-least (And a b) i low high w =
    and-least a b i low w.0 high w.3 w.4 (first a) (first b) (first-least a i low w.0 w.3) (first-least b i w.0 high w.4)
first-least (Behind p b) i low high w = behind-least p b (first b) (first-least b w.1.0 w.1.1 w.1.2 w.1.3)
first-least Quiet i low high w = λ k h. absurd h
