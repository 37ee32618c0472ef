use Rattle.std.specs.Prelude.{◌≡◌, ℕ, List, Result, Ok, Err}
use Rattle.ll_engine.specs.declared.table.Row.{Row}
use Rattle.ll_engine.specs.declared.tree.Tree.{Tree}
use Rattle.ll_engine.specs.declared.fails.NewFail.{NewFail}
use Rattle.ll_engine.specs.declared.fails.NewFail.TheVariants as made
use Rattle.ll_engine.specs.declared.fails.ParseFail.{ParseFail}
use Rattle.ll_engine.specs.declared.fails.ParseFail.TheVariants as read
use Rattle.ll_engine.specs.Class.{IsFit, BreaksAt}
use Rattle.ll_engine.specs.Texts.{IsReading, FailsAt, PassesAt}

-- what `Ll1::new` answers: the table, which is of the class, or its first row that breaks the class
abbrev pub NewGives : List Row → Result (List Row) NewFail → Type 0
NewGives rows (Ok t) = (t ≡ rows) × IsFit rows
NewGives rows (Err made.Memory) = Unit {0}
NewGives rows (Err (made.Unfit row)) = BreaksAt rows row

-- what `Ll1::parse` answers: the reading, the failing symbol, or the one where nesting first passes the limit
abbrev pub ParseGives : List Row → List ℕ → ℕ → Result Tree ParseFail → Type 0
ParseGives t symbols limit (Ok tree) = IsReading t symbols limit tree
ParseGives t symbols limit (Err read.Memory) = Unit {0}
ParseGives t symbols limit (Err (read.NoText at)) = FailsAt t symbols limit at
ParseGives t symbols limit (Err (read.Deep at)) = PassesAt t symbols limit at
