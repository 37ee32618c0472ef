-- Typings: what a part of a text is, or where it breaks rules. A break about a thing whose parts are broken is no break, so a
-- rule is applied where its parts are whole, and parts are all looked at, in the order of the text.
use Rattle.std.specs.Prelude.{ℕ, Bool, true, false, cond, List, [], ◌∷◌, Option, Some, None, Result, Ok, Err}
use Rattle.sv_types.specs.declared.statement.Function.{Function}
use Rattle.expr_type.specs.Breaks.{Position, Breaks, At, And, Behind, Key, is_before, first}

-- a thing that is whole, or the breaks of its parts and its own
abbrev pub Checked : Type 0 → Type 0
Checked A = Result A Breaks

abbrev pub joined : {A B : Type 0} → Checked A → Checked B → Checked (A × B)
joined (Ok a) (Ok b) = Ok (a, b)
joined (Ok a) (Err y) = Err y
joined (Err x) (Ok b) = Err x
joined (Err x) (Err y) = Err (And x y)

abbrev pub where_whole : {A B : Type 0} → Checked A → (A → Checked B) → Checked B
where_whole (Ok a) f = f a
where_whole (Err x) f = Err x

abbrev pub all_of : {A : Type 0} → List (Checked A) → Checked (List A)
all_of [] = Ok []
all_of (x ∷ xs) = where_whole (joined x (all_of xs)) (λ p. Ok (p.0 ∷ p.1))

-- a rule that is broken if a test says so
abbrev pub refused : {A : Type 0} → Bool → Position → ℕ → Checked A → Checked A
refused b p rule other = cond b (Err (At p rule)) other

-- the breaks at tokens in a row
abbrev pub and_at : Position → ℕ → Option Breaks → Option Breaks
and_at p rule None = Some (At p rule)
and_at p rule (Some b) = Some (And (At p rule) b)

abbrev pub at_all : ℕ → ℕ → List ℕ → Option Breaks
at_all i rule [] = None
at_all i rule (at ∷ ats) = and_at (record { instance = i; at = at }) rule (at_all i rule ats)

abbrev pub unless : {A : Type 0} → Option Breaks → A → Checked A
unless None a = Ok a
unless (Some b) a = Err b

-- of two the one whose first break comes first
abbrev pub first_before : Option Key → Option Key → Bool
first_before None k = false
first_before (Some k) None = true
first_before (Some k) (Some l) = is_before k l

abbrev pub lesser : {A B : Type 0} → Checked A → Checked B → Checked (A × B)
lesser (Ok a) (Ok b) = Ok (a, b)
lesser (Ok a) (Err y) = Err y
lesser (Err x) (Ok b) = Err x
lesser (Err x) (Err y) = Err (cond (first_before (first y) (first x)) y x)

abbrev pub least_of_all : {A : Type 0} → List (Checked A) → Checked (List A)
least_of_all [] = Ok []
least_of_all (x ∷ xs) = where_whole (lesser x (least_of_all xs)) (λ p. Ok (p.0 ∷ p.1))

-- What is typed may call functions. The first call of a function puts it behind those that are known before.
pub record Typed (A : Type 0) : Type 0 where
  pub result : Checked A
  pub functions : List Function

abbrev pub Typing : Type 0 → Type 0
Typing A = List Function → Typed A

abbrev pub whole : {A : Type 0} → A → Typing A
whole a fs = record { result = Ok a; functions = fs }

abbrev pub broken : {A : Type 0} → Breaks → Typing A
broken b fs = record { result = Err b; functions = fs }

-- a rule that needs no functions, and one that values constants by those that are known
abbrev pub rule : {A : Type 0} → Checked A → Typing A
rule r fs = record { result = r; functions = fs }

abbrev pub by_functions : {A : Type 0} → (List Function → Checked A) → Typing A
by_functions r fs = record { result = r fs; functions = fs }

abbrev pub applied : {A B : Type 0} → Checked A → (A → Typing B) → Typing B
applied (Ok a) f = f a
applied (Err x) f = broken x

-- a part and what is made of it where it is whole
abbrev pub checked : {A B : Type 0} → Typing A → (A → Typing B) → Typing B
checked x f fs = let r = x fs in applied r.result f r.functions

abbrev pub beside : {A B : Type 0} → Typing A → Typing B → Typing (A × B)
beside x y fs = let r = x fs in let s = y r.functions in record { result = joined r.result s.result; functions = s.functions }

-- two parts in the order of the text
abbrev pub both : {A B C : Type 0} → Typing A → Typing B → (A → B → Typing C) → Typing C
both x y f = checked (beside x y) (λ p. f p.0 p.1)

abbrev pub all : {A : Type 0} → List (Typing A) → Typing (List A)
all [] = whole []
all (x ∷ xs) = both x (all xs) (λ a as'. whole (a ∷ as'))

-- a part that may be left out
abbrev pub maybe : {A : Type 0} → Option (Typing A) → Typing (Option A)
maybe None = whole None
maybe (Some x) = checked x (λ a. whole (Some a))

-- a part and its breaks, for a rule that doesn't need all parts to be whole
abbrev pub looked_at : {A : Type 0} → Typing A → Typing (Checked A)
looked_at x fs = let r = x fs in record { result = Ok r.result; functions = r.functions }

-- likewise, but where the part isn't whole, functions that only it makes known aren't known behind it
abbrev pub known_behind : {A : Type 0} → Checked A → List Function → List Function → List Function
known_behind (Ok a) before then = then
known_behind (Err x) before then = before

abbrev pub tried : {A : Type 0} → Typing A → Typing (Checked A)
tried x fs = let r = x fs in record { result = Ok r.result; functions = known_behind r.result fs r.functions }

-- what is first looked at from a token
abbrev pub put_behind : {A : Type 0} → Position → Checked A → Checked A
put_behind p (Ok a) = Ok a
put_behind p (Err b) = Err (Behind p b)

abbrev pub from_token : {A : Type 0} → Position → Typing A → Typing A
from_token p x fs = let r = x fs in record { result = put_behind p r.result; functions = r.functions }

-- A part that is looked at by what stands before it: what a broken declaration would declare stands for nothing behind it.
abbrev pub known : {A : Type 0} → Checked A → Option A
known (Ok a) = Some a
known (Err x) = None

abbrev pub beside_by : {A B : Type 0} → Typing A → (Option A → Typing B) → Typing (A × B)
beside_by x y fs = let r = x fs in let s = y (known r.result) r.functions in record { result = joined r.result s.result; functions = s.functions }

abbrev pub both_by : {A B C : Type 0} → Typing A → (Option A → Typing B) → (A → B → Typing C) → Typing C
both_by x y f = checked (beside_by x y) (λ p. f p.0 p.1)
