use Rattle.std.specs.Prelude.{◌≡◌, ◌<◌, ℕ, List, [], ◌∷◌, Option, Some, None, Result, Ok, Err}
use Rattle.std.specs.declared.alloc.AllocError.{AllocError}
use Rattle.ll_engine.specs.declared.table.Part.{Part}
use Rattle.ll_engine.specs.declared.table.Row.{Row}
use Rattle.ll_engine.specs.declared.tables.Head.{Head}
use Rattle.ll_engine.specs.declared.machine.Step.{Step}
use Rattle.ll_engine.specs.declared.machine.Step.TheVariants.{Moved, Stopped}
use Rattle.ll_engine.specs.declared.machine.Stop.{Stop}
use Rattle.ll_engine.specs.declared.machine.Stop.TheVariants.{Ready, Fails, Ended}
use Rattle.ll_engine.specs.declared.fails.ParseFail.{ParseFail}
use Rattle.ll_engine.specs.declared.fails.ParseFail.TheVariants.{Memory, NoText, Deep}
use Rattle.ll_engine.specs.declared.tree.Tree.{Tree}
use Rattle.ll_engine.specs.declared.tree.Tree.TheVariants.{Node}
use Rattle.ll_engine.specs.Grammar.{terminal}
use Rattle.ll_engine.specs.Knows.{row_next, row_blank}
use Rattle.ll_engine.specs.Machine.{Level, Same, Stuck, IsStack, took}
use Rattle.ll_engine.specs.Weight.{weight}

abbrev pub first_of : List Part → Option Part
first_of [] = None
first_of (p ∷ ps) = Some p

abbrev pub or_else : Option ℕ → Option ℕ → Option ℕ
or_else None y = y
or_else (Some x) y = Some x

-- the row by which a head is read that stands there, by the next token
abbrev pub row_for : List Head → ℕ → Option ℕ → Option ℕ
row_for heads h x = or_else (row_next heads h x) (row_blank heads h)

-- the rows after a move are completed by the same lists, and weigh less
pub record IsMove (t : List Row) (heads : List Head) (x : Option ℕ) (old new : List Level) : Type 0 where
  pub same : Same t x old new
  pub stack : IsStack t old → IsStack t new
  pub falls : weight t heads new < weight t heads old

-- the next part is the symbol, and so is the next token
abbrev pub IsReady : Option ℕ → List Level → Type 0
IsReady x [] = ⊥
IsReady x (l ∷ ls) =
    (p : Part) × (a : ℕ) × (ps : List Part) × (l.left ≡ p ∷ ps) × (terminal p ≡ Some a) × (x ≡ Some a)

-- the outermost row is left, with no part
abbrev pub IsOver : List Level → Type 0
IsOver [] = ⊥
IsOver (l ∷ []) = l.left ≡ []
IsOver (l ∷ m ∷ ms) = ⊥

-- what one step of the reader answers
abbrev pub StepGives : List Row → List Head → Option ℕ → List Level → List Level → Result Step AllocError → Type 0
StepGives t heads x old new (Err e) = Unit {0}
StepGives t heads x old new (Ok Moved) = IsMove t heads x old new
StepGives t heads x old new (Ok (Stopped Ready)) = (new ≡ old) × IsReady x old
StepGives t heads x old new (Ok (Stopped Fails)) = Stuck t x old
StepGives t heads x old new (Ok (Stopped Ended)) = (new ≡ old) × (x ≡ None) × IsOver old

-- the rows come to the end of what can be done without a symbol
pub record Reaches (t : List Row) (x : Option ℕ) (old new : List Level) : Type 0 where
  pub same : Same t x old new
  pub stack : IsStack t new

-- what the steps up to the next symbol answer
abbrev pub SettleGives : List Row → Option ℕ → List Level → List Level → Result Stop AllocError → Type 0
SettleGives t x old new (Err e) = Unit {0}
SettleGives t x old new (Ok Ready) = Reaches t x old new × IsReady x new
SettleGives t x old new (Ok Fails) = Stuck t x old
SettleGives t x old new (Ok Ended) = Reaches t x old new × (x ≡ None) × IsOver new

-- The rows are read up to a symbol, which is the next.
pub record ComesTo (t : List Row) (x : Option ℕ) (old : List Level) : Type 0 where
  pub mid : List Level
  pub reaches : Reaches t x old mid
  pub ready : IsReady x mid

abbrev pub room_of : List Level → ℕ
room_of [] = 0
room_of (l ∷ ls) = l.room

pub record Takes (t : List Row) (x : Option ℕ) (at : ℕ) (old new : List Level) : Type 0 where
  pub comes : ComesTo t x old
  pub has_room : 0 < room_of comes.mid
  pub is_new : new ≡ took at comes.mid

pub record LacksRoom (t : List Row) (x : Option ℕ) (old : List Level) : Type 0 where
  pub comes : ComesTo t x old
  pub has_none : room_of comes.mid ≡ 0

-- what the reader answers to one symbol
abbrev pub SymbolGives : {A : Type 0} → List Row → Option ℕ → ℕ → List Level → List Level → Result A ParseFail → Type 0
SymbolGives t x at old new (Ok u) = Takes t x at old new
SymbolGives t x at old new (Err Memory) = Unit {0}
SymbolGives t x at old new (Err (NoText n)) = (n ≡ at) × Stuck t x old
SymbolGives t x at old new (Err (Deep n)) = (n ≡ at) × LacksRoom t x old

abbrev pub node_of : List Level → Tree → Type 0
node_of [] x = ⊥
node_of (l ∷ ls) x = x ≡ Node l.row l.kids

pub record Finishes (t : List Row) (old : List Level) (x : Tree) : Type 0 where
  pub last : List Level
  pub reaches : Reaches t None old last
  pub is_over : IsOver last
  pub is_node : node_of last x

-- what the reader answers to the end
abbrev pub EndGives : List Row → ℕ → List Level → Result Tree ParseFail → Type 0
EndGives t at old (Ok x) = Finishes t old x
EndGives t at old (Err Memory) = Unit {0}
EndGives t at old (Err (NoText n)) = (n ≡ at) × Stuck t None old
EndGives t at old (Err (Deep n)) = ⊥
