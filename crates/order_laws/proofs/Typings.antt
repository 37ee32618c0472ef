-- Typings whose breaks stand in a part of a text, in its order, where what is whole has a property.
use Rattle.std.proofs.Common.{ℕ, ◌≤◌, Bool, true, false, List, [], ◌∷◌, Option, Some, None, cond, arith}
use Rattle.std.specs.Prelude.{Ok, Err}
use Rattle.sv_types.specs.declared.statement.Function.{Function}
use Rattle.expr_type.specs.Breaks.{Position, Within}
use Rattle.expr_type.specs.Breaks as B
use Rattle.expr_type.specs.Typings.{Checked, Typing, joined, where_whole, refused, lesser, first_before, all_of, whole, applied, checked, beside, both, all, known, beside_by, both_by}
use Rattle.expr_type.specs.Placed.{Placed, PlacedTyping}
use Rattle.expr_type.proofs.Placing.{wider}

abbrev pub PlacedAs : {A : Type 0} → (A → Type 0) → ℕ → ℕ → ℕ → Checked A → Type 0
PlacedAs P i low high (Ok a) = P a
PlacedAs P i low high (Err b) = Within b i low high

abbrev pub TypedAs : {A : Type 0} → (A → Type 0) → ℕ → ℕ → ℕ → Typing A → Type 0
TypedAs P i low high x = (fs : List Function) → PlacedAs P i low high (x fs).result

-- things that stand behind one another
abbrev pub Each : {A : Type 0} → (ℕ → ℕ → A → Type 0) → ℕ → ℕ → List A → Type 0
Each P low high [] = low ≤ high
Each P low high (a ∷ as') = (between : ℕ) × (low ≤ between) × (between ≤ high) × P low between a × Each P between high as'

-- what is known of what is there
abbrev pub IfThere : {A : Type 0} → (A → Type 0) → Option A → Type 0
IfThere P None = Unit {0}
IfThere P (Some a) = P a

module _ (i : ℕ) where
  pub as-wider : {A : Type 0} (P Q : A → Type 0) (x : Checked A) (low high low' high' : ℕ) → low' ≤ low → high ≤ high' → ((a : A) → P a → Q a)
      → PlacedAs P i low high x → PlacedAs Q i low' high' x
  as-wider P Q (Ok a) low high low' high' h m f p = f a p
  as-wider P Q (Err b) low high low' high' h m f p = wider b i low high low' high' h m p

  -- nothing is known of what is whole
  pub any-placed : {A : Type 0} (x : Checked A) (low high : ℕ) → Placed i low high x → PlacedAs (λ a. Unit {0}) i low high x
  any-placed (Ok a) low high p = tt
  any-placed (Err b) low high p = p

  pub any-typing : {A : Type 0} (x : Typing A) (low high : ℕ) → PlacedTyping i low high x → TypedAs (λ a. Unit {0}) i low high x
  any-typing x low high p fs = any-placed (x fs).result low high (p fs)

  pub any-from : {A : Type 0} (P : A → Type 0) (x : Typing A) (low high low' high' : ℕ) → low' ≤ low → high ≤ high' → TypedAs P i low high x
      → TypedAs (λ a. Unit {0}) i low' high' x
  any-from P x low high low' high' h m p fs = as-wider P (λ a. Unit {0}) (x fs).result low high low' high' h m (λ a q. tt) (p fs)

  pub as-joined : {A B : Type 0} (P : A → Type 0) (Q : B → Type 0) (x : Checked A) (y : Checked B) (low between high : ℕ) → low ≤ between → between ≤ high
      → PlacedAs P i low between x → PlacedAs Q i between high y → PlacedAs (λ p. P p.0 × Q p.1) i low high (joined x y)
  as-joined P Q (Ok a) (Ok b) low between high h m p q = (p, q)
  as-joined P Q (Ok a) (Err b) low between high h m p q = wider b i between high low high h (omega arith) q
  as-joined P Q (Err a) (Ok b) low between high h m p q = wider a i low between low high (omega arith) m p
  as-joined P Q (Err a) (Err b) low between high h m p q = (between, h, m, p, q)

  pub as-then : {A B : Type 0} (P : A → Type 0) (Q : B → Type 0) (x : Checked A) (f : A → Checked B) (low high : ℕ) → PlacedAs P i low high x
      → ((a : A) → P a → PlacedAs Q i low high (f a)) → PlacedAs Q i low high (where_whole x f)
  as-then P Q (Ok a) f low high p q = q a p
  as-then P Q (Err b) f low high p q = p

  pub as-refused : {A : Type 0} (P : A → Type 0) (b : Bool) (at : Position) (r : ℕ) (x : Checked A) (low high : ℕ) → B.Stands i low high at
      → PlacedAs P i low high x → PlacedAs P i low high (refused b at r x)
  as-refused P true at r x low high s p = s
  as-refused P false at r x low high s p = p

  pub as-lesser : {A B : Type 0} (P : A → Type 0) (Q : B → Type 0) (x : Checked A) (y : Checked B) (low high : ℕ) → PlacedAs P i low high x → PlacedAs Q i low high y
      → PlacedAs (λ p. P p.0 × Q p.1) i low high (lesser x y)
  as-lesser P Q (Ok a) (Ok b) low high p q = (p, q)
  as-lesser P Q (Ok a) (Err b) low high p q = q
  as-lesser P Q (Err a) (Ok b) low high p q = p
  as-lesser P Q (Err a) (Err b) low high p q = either (first_before (B.first b) (B.first a))
    where
      either : (c : Bool) → Within (cond c b a) i low high
      either true = q
      either false = p

  pub as-all-of : {A : Type 0} (P : ℕ → ℕ → A → Type 0) (xs : List (Checked A)) (low high : ℕ) → Each (λ l h x. PlacedAs (P l h) i l h x) low high xs
      → PlacedAs (Each P low high) i low high (all_of xs)
  as-all-of P [] low high p = p
  as-all-of P (x ∷ xs) low high p =
      as-then (λ q. P low p.0 q.0 × Each P p.0 high q.1) (Each P low high) (joined x (all_of xs)) (λ q. Ok (q.0 ∷ q.1)) low high
      (as-joined (P low p.0) (Each P p.0 high) x (all_of xs) low p.0 high p.1 p.2 p.3 (as-all-of P xs p.0 high p.4)) (λ a q. (p.0, p.1, p.2, q.0, q.1))

  as-applied : {A B : Type 0} (P : A → Type 0) (Q : B → Type 0) (x : Checked A) (f : A → Typing B) (low high : ℕ) (fs : List Function) → PlacedAs P i low high x
      → ((a : A) → P a → TypedAs Q i low high (f a)) → PlacedAs Q i low high (applied x f fs).result
  as-applied P Q (Ok a) f low high fs p q = q a p fs
  as-applied P Q (Err b) f low high fs p q = p

  pub as-checked : {A B : Type 0} (P : A → Type 0) (Q : B → Type 0) (x : Typing A) (f : A → Typing B) (low high : ℕ) → TypedAs P i low high x
      → ((a : A) → P a → TypedAs Q i low high (f a)) → TypedAs Q i low high (checked x f)
  as-checked P Q x f low high p q fs = as-applied P Q (x fs).result f low high (x fs).functions (p fs) q

  pub as-both : {A B C : Type 0} (P : A → Type 0) (Q : B → Type 0) (R : C → Type 0) (x : Typing A) (y : Typing B) (f : A → B → Typing C) (low between high : ℕ)
      → low ≤ between → between ≤ high → TypedAs P i low between x → TypedAs Q i between high y
      → ((a : A) (b : B) → P a → Q b → TypedAs R i low high (f a b)) → TypedAs R i low high (both x y f)
  as-both P Q R x y f low between high h m p q r =
      as-checked (λ t. P t.0 × Q t.1) R (beside x y) (λ t. f t.0 t.1) low high
      (λ fs. as-joined P Q (x fs).result (y (x fs).functions).result low between high h m (p fs) (q (x fs).functions)) (λ t s. r t.0 t.1 s.0 s.1)

  -- a part that is looked at by what stands before it
  joined-by : {A B : Type 0} (P : A → Type 0) (Q : B → Type 0) (x : Checked A) (y : Option A → Typing B) (fs : List Function) (low between high : ℕ)
      → low ≤ between → between ≤ high → PlacedAs P i low between x → TypedAs Q i between high (y None) → ((a : A) → P a → TypedAs Q i low high (y (Some a)))
      → PlacedAs (λ p. P p.0 × Q p.1) i low high (joined x (y (known x) fs).result)
  joined-by {B = B} P Q (Ok a) y fs low between high h m p q r = behind (y (Some a) fs).result (r a p fs)
    where
      behind : (z : Checked B) → PlacedAs Q i low high z → PlacedAs (λ t. P t.0 × Q t.1) i low high (joined (Ok a) z)
      behind (Ok b) s = (p, s)
      behind (Err b) s = s
  joined-by {B = B} P Q (Err a) y fs low between high h m p q r = behind (y None fs).result (q fs)
    where
      behind : (z : Checked B) → PlacedAs Q i between high z → PlacedAs (λ t. P t.0 × Q t.1) i low high (joined (Err a) z)
      behind (Ok b) s = wider a i low between low high (omega arith) m p
      behind (Err b) s = (between, h, m, p, s)

  pub as-both-by : {A B C : Type 0} (P : A → Type 0) (Q : B → Type 0) (R : C → Type 0) (x : Typing A) (y : Option A → Typing B) (f : A → B → Typing C)
      (low between high : ℕ) → low ≤ between → between ≤ high → TypedAs P i low between x → TypedAs Q i between high (y None)
      → ((a : A) → P a → TypedAs Q i low high (y (Some a))) → ((a : A) (b : B) → P a → Q b → TypedAs R i low high (f a b)) → TypedAs R i low high (both_by x y f)
  as-both-by P Q R x y f low between high h m p q s r =
      as-checked (λ t. P t.0 × Q t.1) R (beside_by x y) (λ t. f t.0 t.1) low high
      (λ fs. joined-by P Q (x fs).result y (x fs).functions low between high h m (p fs) q s) (λ t u. r t.0 t.1 u.0 u.1)

  -- where nothing is asked of what it is looked at by
  pub as-both-any : {A B C : Type 0} (P : A → Type 0) (Q : B → Type 0) (R : C → Type 0) (x : Typing A) (y : Option A → Typing B) (f : A → B → Typing C)
      (low between high : ℕ) → low ≤ between → between ≤ high → TypedAs P i low between x → ((o : Option A) → IfThere P o → TypedAs Q i between high (y o))
      → ((a : A) (b : B) → P a → Q b → TypedAs R i low high (f a b)) → TypedAs R i low high (both_by x y f)
  as-both-any P Q R x y f low between high h m p q r =
      as-both-by P Q R x y f low between high h m p (q None tt)
      (λ a s fs. as-wider Q Q (y (Some a) fs).result between high low high h (omega arith) (λ b t. t) (q (Some a) s fs)) r

  pub as-all : {A : Type 0} (P : ℕ → ℕ → A → Type 0) (xs : List (Typing A)) (low high : ℕ) → Each (λ l h x. TypedAs (P l h) i l h x) low high xs
      → TypedAs (Each P low high) i low high (all xs)
  as-all P [] low high p = λ fs. p
  as-all P (x ∷ xs) low high p =
      as-both (P low p.0) (Each P p.0 high) (Each P low high) x (all xs) (λ a as'. whole (a ∷ as')) low p.0 high p.1 p.2 p.3 (as-all P xs p.0 high p.4)
      (λ a as' s t fs. (p.0, p.1, p.2, s, t))
