-- What hangs on what: surroundings that hold the same bits where an expression reads give it the same value.
use Rattle.std.specs.Prelude.{◌≡◌, ℕ, Bool, true, List, [], Option, Some, None}
use Rattle.row_machine.specs.Valuation.{Place}
use Rattle.row_machine.specs.Places.{vector_at}
use Rattle.sv_types.specs.declared.expression.Expr.{Expr}
use Rattle.sv_types.specs.Windows.{Window, within}
use Rattle.sv_types.specs.Surroundings.{Around, Sight, Use}
use Rattle.sv_types.specs.Meanings.{Meaning}
use Rattle.sv_types.specs.Paths.{reads_from, known_base}
use Rattle.sv_types.specs.Flows.{covered}
use Rattle.sv_types.specs.Expressions.{meaning}

-- Surroundings that a sight knows of: what is sure holds what the sight says, and the functions are its functions. A signal or
-- local is sure whole or not at all.
pub record Seen (k : Sight) (a : Around) : Type 0 where
  pub sure : (n j : ℕ) → k.sure (record { signal = n; bit = 0 }) ≡ true → a.now (record { signal = n; bit = j }) ≡ k.around.now (record { signal = n; bit = j })
  pub callee : a.callee ≡ k.around.callee

-- both hold the same bits where these uses are
abbrev pub Agree : List Use → Around → Around → Type 0
Agree us a b = (q : Place) → covered us q ≡ true → a.now q ≡ b.now q

-- an expression has the same value in both
pub record Same (m : Meaning) (a b : Around) : Type 0 where
  pub value : (w : ℕ) (s : Bool) → m.value w s a ≡ m.value w s b
  pub given : (n : ℕ) → m.given n a ≡ m.given n b

-- all bits of the first window are bits of the second
abbrev pub Inside : Window → Window → Type 0
Inside inner outer = (j : ℕ) → within inner j ≡ true → within outer j ≡ true

-- what a path stands on: so many bits of a signal or local
pub record StandsOn (n : ℕ) (m : Meaning) : Type 0 where
  pub bits : ℕ
  pub base : (a : Around) → m.base a ≡ vector_at a.now n bits

-- or a value, which hangs on what it reads
abbrev pub Stands : Option ℕ → Meaning → Type 0
Stands None m =
    (k : Sight) (a b : Around) → Seen k a → Seen k b → Agree (m.reads k) a b → m.base a ≡ m.base b
Stands (Some n) m = StandsOn n m

-- which bits a path names, of what it stands on
pub record Moves (root : Option ℕ) (m : Meaning) : Type 0 where
  pub window : (k : Sight) (a b : Around) → Seen k a → Seen k b → Agree (reads_from root m k) a b → m.window a ≡ m.window b
  pub within : (k : Sight) (a : Around) → Seen k a → Inside (m.window a) (m.prefix k).window
  pub exact : (k : Sight) (a : Around) → Seen k a → (m.prefix k).exact ≡ true → m.window a ≡ (m.prefix k).window
  pub known : (k : Sight) → (m.prefix k).exact ≡ true → known_base root (m.constant k) ≡ true → reads_from root m k ≡ []

pub record Hangs (m : Meaning) : Type 0 where
  pub same : (k : Sight) (a b : Around) → Seen k a → Seen k b → Agree (m.reads k) a b → Same m a b
  pub constant : (k : Sight) → m.constant k ≡ true → m.reads k ≡ []
  pub stands : Stands m.root m
  pub moves : Moves m.root m

abbrev pub ExpressionsHang : Type 0
ExpressionsHang = (e : Expr) → Hangs (meaning e)
