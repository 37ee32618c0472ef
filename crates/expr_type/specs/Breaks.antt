-- Breaks of the rules of elaboration, and which of them comes first.
use Rattle.std.specs.Prelude.{◌≡◌, ◌⊎◌, ℕ, ◌<◌, ◌≤◌, Bool, true, false, ◌&&◌, ◌||◌, ◌==◌, nat_lt, List, [], ◌∷◌, Option, Some, None}

-- A token of an instance's text. The texts of packages and of the compilation unit are those of instance 0.
pub record Position : Type 0 where
  pub instance : ℕ
  pub at : ℕ

-- A rule that is broken at a token; all breaks of two parts, the one that stands first in the text first; the breaks of what is
-- looked at from a token on, as those of a function at the call that first needs it, or those of an interface or a header at
-- the instance's name; and none, though something isn't whole: it names what has a broken declaration.
pub data Breaks : Type 0 where
  At : Position → ℕ → Breaks
  And : Breaks → Breaks → Breaks
  Behind : Position → Breaks → Breaks
  Quiet : Breaks

-- What tells breaks apart: the turn, which is the positions from which the token is come to and its own last, and the rule.
pub record Key : Type 0 where
  pub turn : List Position
  pub rule : ℕ

abbrev pub key_at : Position → ℕ → Key
key_at p rule = record { turn = p ∷ []; rule = rule }

abbrev pub key_behind : Position → Key → Key
key_behind p k = record { turn = p ∷ k.turn; rule = k.rule }

-- it is one of the breaks
abbrev pub Has : Breaks → Key → Type 0
Has (At p rule) k = k ≡ key_at p rule
Has (And a b) k = Has a k ⊎ Has b k
Has (Behind p b) k = (inner : Key) × Has b inner × (k ≡ key_behind p inner)
Has Quiet k = ⊥

-- Positions go by instance and then by token, turns position by position, the shorter one first, and keys by turn and rule.
abbrev pub position_before : Position → Position → Bool
position_before p q = nat_lt p.instance q.instance || ((p.instance == q.instance) && nat_lt p.at q.at)

abbrev pub same_position : Position → Position → Bool
same_position p q = (p.instance == q.instance) && (p.at == q.at)

abbrev pub turn_before : List Position → List Position → Bool
turn_before [] [] = false
turn_before [] (q ∷ qs) = true
turn_before (p ∷ ps) [] = false
turn_before (p ∷ ps) (q ∷ qs) = position_before p q || (same_position p q && turn_before ps qs)

abbrev pub same_turn : List Position → List Position → Bool
same_turn [] [] = true
same_turn [] (q ∷ qs) = false
same_turn (p ∷ ps) [] = false
same_turn (p ∷ ps) (q ∷ qs) = same_position p q && same_turn ps qs

abbrev pub is_before : Key → Key → Bool
is_before a b = turn_before a.turn b.turn || (same_turn a.turn b.turn && nat_lt a.rule b.rule)

-- the first break in the order of the text
abbrev pub or_next : Option Key → Option Key → Option Key
or_next None k = k
or_next (Some k) other = Some k

abbrev pub behind : Position → Option Key → Option Key
behind p None = None
behind p (Some k) = Some (key_behind p k)

abbrev pub first : Breaks → Option Key
first (At p rule) = Some (key_at p rule)
first (And a b) = or_next (first a) (first b)
first (Behind p b) = behind p (first b)
first Quiet = None

-- the least break: none comes before it
pub record Least (b : Breaks) (k : Key) : Type 0 where
  pub has : Has b k
  pub least : (other : Key) → Has b other → is_before other k ≡ false

abbrev pub IsLeast : Breaks → Option Key → Type 0
IsLeast b (Some k) = Least b k
IsLeast b None = (k : Key) → Has b k → ⊥

-- A position in a part of an instance's text, from one token up to, but not including, another one.
pub record Stands (of low high : ℕ) (p : Position) : Type 0 where
  pub instance : p.instance ≡ of
  pub from : low ≤ p.at
  pub before : p.at < high

-- Breaks that stand in such a part, in the order of the text. What is looked at from a token stands in some text of its own.
abbrev pub Within : Breaks → ℕ → ℕ → ℕ → Type 0
Within (At p rule) i low high = Stands i low high p
Within (And a b) i low high = (between : ℕ) × (low ≤ between) × (between ≤ high) × Within a i low between × Within b i between high
Within (Behind p b) i low high = Stands i low high p × ((j : ℕ) × (from : ℕ) × (to : ℕ) × Within b j from to)
Within Quiet i low high = Unit {0}

-- Where breaks stand in the order of the text, the first is the least.
abbrev pub FirstsAreLeast : Type 0
FirstsAreLeast = (b : Breaks) (i low high : ℕ) → Within b i low high → IsLeast b (first b)
