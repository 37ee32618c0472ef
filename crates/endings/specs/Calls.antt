-- A call of a program: what it is given, and what it leaves.
use Rattle.std.specs.Prelude.{ℕ, List, Option}
use Rattle.sv_source.specs.Loading.{Contents}
use Rattle.endings.specs.Sinks.{Put_on, Took, Untouched}

-- a call: its words, what the files tell, how often they had failed before and after it, and its two sinks
pub record Call : Type 0 where
  pub words : List (List ℕ)
  pub told : Option Contents
  pub faults_before : ℕ
  pub faults_after : ℕ
  pub out : Put_on
  pub err : Put_on

-- the call with these words over files, as they stand before and after it
abbrev pub call : {F : Type 0} → List (List ℕ) → (F → Option Contents) → (F → ℕ) → F → F → Put_on → Put_on → Call
call words contents faults old new out err = record { words = words; told = contents old; faults_before = faults old; faults_after = faults new; out = out; err = err }

-- the line is on the error stream, and the output is as it was
pub record Said (c : Call) (line : List ℕ) : Type 0 where
  pub line_put : Took c.err line
  pub nothing_put : Untouched c.out
