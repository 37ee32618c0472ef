-- The breaks of typings stand in the order of the text, if those of their parts do and their own stand in the whole.
use Rattle.std.proofs.Common.{ℕ, ◌≤◌, Bool, true, false, List, [], ◌∷◌, Option, cond, arith}
use Rattle.std.specs.Prelude.{Ok, Err}
use Rattle.sv_types.specs.declared.statement.Function.{Function}
use Rattle.expr_type.specs.Breaks.{Position, Breaks, At, And, Behind, Quiet, Stands, Within}
use Rattle.expr_type.specs.Typings.{Checked, Typing, joined, where_whole, refused, lesser, first_before, whole, applied, checked, beside, both, all, known, beside_by, both_by, put_behind, from_token}
use Rattle.expr_type.specs.Breaks as B
use Rattle.expr_type.specs.Placed.{Placed, PlacedTyping, InTurn}

-- what stands in a part stands in the whole
pub wider : (b : Breaks) (i low high low' high' : ℕ) → low' ≤ low → high ≤ high' → Within b i low high → Within b i low' high'
wider (At p r) i low high low' high' h k w = record { instance = w.instance; from = omega arith; before = omega arith }
wider (And a b) i low high low' high' h k w =
    (w.0, omega arith, omega arith, wider a i low w.0 low' w.0 h (omega arith) w.3, wider b i w.0 high w.0 high' (omega arith) k w.4)
wider (Behind p b) i low high low' high' h k w = (record { instance = w.0.instance; from = omega arith; before = omega arith }, w.1)
wider Quiet i low high low' high' h k w = tt

module _ (i : ℕ) where
  placed-wider : {A : Type 0} (x : Checked A) (low high low' high' : ℕ) → low' ≤ low → high ≤ high' → Placed i low high x → Placed i low' high' x
  placed-wider (Ok a) low high low' high' h k w = tt
  placed-wider (Err b) low high low' high' h k w = wider b i low high low' high' h k w

  pub placed-joined : {A B : Type 0} (x : Checked A) (y : Checked B) (low between high : ℕ) → low ≤ between → between ≤ high
      → Placed i low between x → Placed i between high y → Placed i low high (joined x y)
  placed-joined (Ok a) (Ok b) low between high h k p q = tt
  placed-joined (Ok a) (Err b) low between high h k p q = wider b i between high low high h (omega arith) q
  placed-joined (Err a) (Ok b) low between high h k p q = wider a i low between low high (omega arith) k p
  placed-joined (Err a) (Err b) low between high h k p q = (between, h, k, p, q)

  pub placed-then : {A B : Type 0} (x : Checked A) (f : A → Checked B) (low high : ℕ) → Placed i low high x → ((a : A) → Placed i low high (f a)) → Placed i low high (where_whole x f)
  placed-then (Ok a) f low high p q = q a
  placed-then (Err b) f low high p q = p

  pub placed-refused : {A : Type 0} (b : Bool) (p : Position) (r : ℕ) (x : Checked A) (low high : ℕ) → Stands i low high p → Placed i low high x → Placed i low high (refused b p r x)
  placed-refused true p r x low high s q = s
  placed-refused false p r x low high s q = q

  pub placed-lesser : {A B : Type 0} (x : Checked A) (y : Checked B) (low high : ℕ) → Placed i low high x → Placed i low high y → Placed i low high (lesser x y)
  placed-lesser (Ok a) (Ok b) low high p q = tt
  placed-lesser (Ok a) (Err b) low high p q = q
  placed-lesser (Err a) (Ok b) low high p q = p
  placed-lesser (Err a) (Err b) low high p q = either (first_before (B.first b) (B.first a))
    where
      either : (c : Bool) → Within (cond c b a) i low high
      either true = q
      either false = p

  pub placed-applied : {A B : Type 0} (x : Checked A) (f : A → Typing B) (low high : ℕ) (fs : List Function) → Placed i low high x
      → ((a : A) → PlacedTyping i low high (f a)) → Placed i low high (applied x f fs).result
  placed-applied (Ok a) f low high fs p q = q a fs
  placed-applied (Err b) f low high fs p q = p

  pub placed-checked : {A B : Type 0} (x : Typing A) (f : A → Typing B) (low high : ℕ) → PlacedTyping i low high x
      → ((a : A) → PlacedTyping i low high (f a)) → PlacedTyping i low high (checked x f)
  placed-checked x f low high p q fs = placed-applied (x fs).result f low high (x fs).functions (p fs) q

  pub placed-beside : {A B : Type 0} (x : Typing A) (y : Typing B) (low between high : ℕ) → low ≤ between → between ≤ high
      → PlacedTyping i low between x → PlacedTyping i between high y → PlacedTyping i low high (beside x y)
  placed-beside x y low between high h k p q fs =
      placed-joined (x fs).result (y (x fs).functions).result low between high h k (p fs) (q (x fs).functions)

  pub placed-both : {A B C : Type 0} (x : Typing A) (y : Typing B) (f : A → B → Typing C) (low between high : ℕ) → low ≤ between → between ≤ high
      → PlacedTyping i low between x → PlacedTyping i between high y → ((a : A) (b : B) → PlacedTyping i low high (f a b))
      → PlacedTyping i low high (both x y f)
  placed-both x y f low between high h k p q r =
      placed-checked (beside x y) (λ t. f t.0 t.1) low high (placed-beside x y low between high h k p q) (λ t. r t.0 t.1)

  pub placed-both-by : {A B C : Type 0} (x : Typing A) (y : Option A → Typing B) (f : A → B → Typing C) (low between high : ℕ) → low ≤ between → between ≤ high
      → PlacedTyping i low between x → ((o : Option A) → PlacedTyping i between high (y o)) → ((a : A) (b : B) → PlacedTyping i low high (f a b))
      → PlacedTyping i low high (both_by x y f)
  placed-both-by x y f low between high h k p q r =
      placed-checked (beside_by x y) (λ t. f t.0 t.1) low high
      (λ fs. placed-joined (x fs).result (y (known (x fs).result) (x fs).functions).result low between high h k (p fs) (q (known (x fs).result) (x fs).functions))
      (λ t. r t.0 t.1)

  pub placed-all : {A : Type 0} (xs : List (Typing A)) (low high : ℕ) → InTurn i low high xs → PlacedTyping i low high (all xs)
  placed-all [] low high p = λ fs. tt
  placed-all (x ∷ xs) low high p =
      placed-both x (all xs) (λ a as'. whole (a ∷ as')) low p.0 high p.1 p.2 p.3 (placed-all xs p.0 high p.4) (λ a as' fs. tt)

  put-behind : {A : Type 0} (p : Position) (x : Checked A) (low high : ℕ) → Stands i low high p → ((j : ℕ) × (from : ℕ) × (to : ℕ) × Placed j from to x) → Placed i low high (put_behind p x)
  put-behind p (Ok a) low high s w = tt
  put-behind p (Err b) low high s w = (s, w)

  pub placed-from : {A : Type 0} (p : Position) (x : Typing A) (low high : ℕ) → Stands i low high p
      → ((fs : List Function) → ((j : ℕ) × (from : ℕ) × (to : ℕ) × Placed j from to (x fs).result)) → PlacedTyping i low high (from_token p x)
  placed-from p x low high s w fs = put-behind p (x fs).result low high s (w fs)
