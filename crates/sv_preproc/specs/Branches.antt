-- Conditionals (IEEE 1800-2017 clause 22.6).
use Rattle.std.specs.Prelude.{ℕ, not, Bool, true, false, List, [], ◌∷◌, Option, Some, None, if◌then◌else◌}
use Rattle.std.specs.Option.{is_some}
use Rattle.sv_source.specs.declared.token.Token.{Token}
use Rattle.sv_preproc.specs.declared.state.Branch.{Branch}
use Rattle.sv_preproc.specs.declared.state.Branch.TheVariants.{Waiting, Taken, Over}
use Rattle.sv_preproc.specs.declared.state.Conditional.{Conditional}
use Rattle.sv_preproc.specs.declared.state.OpenFile.{OpenFile}
use Rattle.sv_macro.specs.declared.words.Condition.{Condition}
use Rattle.sv_macro.specs.declared.words.Condition.TheVariants.{Ifdef, Ifndef, Elsif, Else, Endif}
use Rattle.sv_preproc.specs.States.{State, Step, goes, broken, behind_next, next_name}

-- a conditional whose test is made
abbrev pub branch_if : Bool → Branch
branch_if test = if test then Taken else Waiting

-- whether a branch that isn't taken is read
abbrev pub is_taken : Branch → Bool
is_taken Taken = true
is_taken _ = false

abbrev pub skips_in : List Conditional → Bool
skips_in [] = false
skips_in (c ∷ cs) = not (is_taken c.branch)

abbrev pub skips : List OpenFile → Bool
skips [] = false
skips (f ∷ fs) = skips_in f.conditionals

-- the innermost file has these conditionals
abbrev pub with_conditionals : State → OpenFile → List OpenFile → List Conditional → State
with_conditionals s file files cs = record s { files = (record file { conditionals = cs }) ∷ files }

-- a conditional begins
abbrev pub conditional_begins : State → OpenFile → List OpenFile → Token → Branch → Step
conditional_begins s file files t branch =
    goes (with_conditionals s file files ((record { first = t; branch = branch; last = false }) ∷ file.conditionals))

-- whether the name stands for a macro, or for none
abbrev pub test_of : State → Bool → List ℕ → Bool
test_of s wanted name = if wanted then is_some (s.macros name) else not (is_some (s.macros name))

abbrev pub first_branch : State → List Conditional → Bool → List ℕ → Branch
first_branch s cs wanted name = if skips_in cs then Over else branch_if (test_of s wanted name)

abbrev pub if_named : State → OpenFile → List OpenFile → Token → Bool → Option (List ℕ) → Step
if_named s file files t wanted None = broken s 201 t
if_named s file files t wanted (Some name) = conditional_begins s file files t (first_branch s file.conditionals wanted name)

abbrev pub if_begins : State → OpenFile → List OpenFile → Token → Bool → Step
if_begins s file files t wanted = if_named (behind_next s) file files t wanted (next_name s)

-- another branch of a conditional
abbrev pub branch_begins : State → OpenFile → List OpenFile → Conditional → List Conditional → Branch → Bool → Step
branch_begins s file files c cs branch last =
    goes (with_conditionals s file files ((record { first = c.first; branch = branch; last = last }) ∷ cs))

abbrev pub branch_of_elsif : State → Branch → List ℕ → Branch
branch_of_elsif s Waiting name = branch_if (is_some (s.macros name))
branch_of_elsif s _ name = Over

abbrev pub branch_of_else : Branch → Branch
branch_of_else Waiting = Taken
branch_of_else _ = Over

-- `elsif, `else and `endif belong to an open conditional of the file, and `else is its last branch
abbrev pub elsif_in : State → OpenFile → List OpenFile → List Conditional → Token → List ℕ → Step
elsif_in s file files [] t name = broken s 205 t
elsif_in s file files (c ∷ cs) t name = elim c.last [
  | true ↦ broken s 205 t
  | false ↦ branch_begins s file files c cs (branch_of_elsif s c.branch name) false
]

abbrev pub elsif_named : State → OpenFile → List OpenFile → Token → Option (List ℕ) → Step
elsif_named s file files t None = broken s 201 t
elsif_named s file files t (Some name) = elsif_in s file files file.conditionals t name

abbrev pub else_in : State → OpenFile → List OpenFile → List Conditional → Token → Step
else_in s file files [] t = broken s 205 t
else_in s file files (c ∷ cs) t = elim c.last [ true ↦ broken s 205 t | false ↦ branch_begins s file files c cs (branch_of_else c.branch) true ]

abbrev pub endif_in : State → OpenFile → List OpenFile → List Conditional → Token → Step
endif_in s file files [] t = broken s 205 t
endif_in s file files (c ∷ cs) t = goes (with_conditionals s file files cs)

abbrev pub branching : State → OpenFile → List OpenFile → Token → Condition → Step
branching s file files t Ifdef = if_begins s file files t true
branching s file files t Ifndef = if_begins s file files t false
branching s file files t Elsif = elsif_named (behind_next s) file files t (next_name s)
branching s file files t Else = else_in s file files file.conditionals t
branching s file files t Endif = endif_in s file files file.conditionals t

abbrev pub branching_in : State → List OpenFile → Token → Condition → Step
branching_in s [] t word = broken s 201 t
branching_in s (file ∷ files) t word = branching s file files t word

abbrev pub branches : State → Token → Condition → Step
branches s t word = branching_in s s.files t word
