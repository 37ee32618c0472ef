use Rattle.std.specs.Prelude.{◌≡◌, ◌<◌, ◌+◌, max, ◌&&◌, ◌⊎◌, ℕ, suc, List, [], ◌∷◌, Some, Bool, true, false, slice_get, slice_index_or, length}
use Rattle.ll_engine.specs.declared.rules.Rule.{Rule}

-- Sets of heads, as a mark for each head, and the rules by which heads are marked.

abbrev pub marked : List Bool → ℕ → Bool
marked marks h = slice_index_or marks h false

-- one of the list
abbrev pub Has : {A : Type 0} → List A → A → Type 0
Has [] x = ⊥
Has (y ∷ ys) x = (y ≡ x) ⊎ Has ys x

-- the head is marked by the rules: all heads of one of its rules are
pub data Holds (rules : List Rule) : ℕ → Type 0 where
  by_rule : {h : ℕ} (r : Rule) → Has rules r → r.to ≡ h → ((g : ℕ) → Has r.from g → Holds rules g) → Holds rules h

-- a test's answer, with what it says
abbrev pub Tells : Bool → Type 0 → Type 0
Tells true P = P
Tells false P = P → ⊥

-- the marks are the heads that the rules mark
abbrev pub AreMarks : List Rule → List Bool → Type 0
AreMarks rules marks = (h : ℕ) → Tells (marked marks h) (Holds rules h)

-- the rules speak of the first `n` heads
abbrev pub AreWithin : ℕ → List Rule → Type 0
AreWithin n rules = (r : Rule) → Has rules r → r.to < n

abbrev pub all_marked : List Bool → List ℕ → Bool
all_marked marks [] = true
all_marked marks (g ∷ gs) = marked marks g && all_marked marks gs

-- how many heads have no mark
abbrev pub unmarked : List Bool → ℕ
unmarked [] = 0
unmarked (true ∷ marks) = unmarked marks
unmarked (false ∷ marks) = suc (unmarked marks)

-- each mark is by the rules
abbrev pub AreSound : List Rule → List Bool → Type 0
AreSound rules marks = (h : ℕ) → marked marks h ≡ true → Holds rules h

-- the first `n` rules mark nothing more
abbrev pub AreClosed : List Rule → ℕ → List Bool → Type 0
AreClosed rules n marks = (i : ℕ) (r : Rule) → i < n → slice_get rules i ≡ Some r
    → all_marked marks r.from ≡ true → marked marks r.to ≡ true

-- what one pass over the rules leaves
pub record Passes (rules : List Rule) (changed : Bool) (old new : List Bool) : Type 0 where
  pub sound : AreSound rules old → AreSound rules new
  pub fewer : changed ≡ true → unmarked new < unmarked old
  pub closed : changed ≡ false → AreClosed rules (length rules) new
  pub same : length new ≡ length old

-- a number above all heads that the rules mark
abbrev pub rule_bound : List Rule → ℕ → ℕ
rule_bound [] n = n
rule_bound (r ∷ rs) n = rule_bound rs (max n (r.to + 1))
