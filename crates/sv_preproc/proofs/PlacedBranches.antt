-- The places of an expansion's tokens are those of loaded files: behind a directive of a conditional.
use Rattle.std.proofs.Common.{ℕ, Bool, true, false, List, [], ◌∷◌, length, Option, Some, None, All, refl}
use Rattle.std.proofs.lemmas.List.Elements.{All-cons, All-head, All-tail}
use Rattle.sv_source.specs.declared.token.Token.{Token}
use Rattle.sv_macro.specs.declared.words.Condition.{Condition}
use Rattle.sv_macro.specs.declared.words.Condition.TheVariants.{Ifdef, Ifndef, Elsif, Else, Endif}
use Rattle.sv_preproc.specs.States.{State, next_name, behind_next}
use Rattle.sv_preproc.specs.Branches as branches
use Rattle.sv_preproc.specs.declared.state.Branch.{Branch}
use Rattle.sv_preproc.specs.declared.state.Conditional.{Conditional}
use Rattle.sv_preproc.specs.declared.state.OpenFile.{OpenFile}
use Rattle.sv_preproc.proofs.PlacedStates.{In, FirstIn, FileIn, Placed, Tells, by_test, with_files, behind_next_placed}

module _ (count : ℕ) where
  -- conditionals: the files behind the innermost are those of the state, and the conditionals behind the innermost its own
  conditionals_placed : (s : State) (file : OpenFile) (files : List OpenFile) (cs : List Conditional) → Placed s → All (FileIn (length s.names)) files →
      All (FirstIn (length s.names)) cs → Placed (branches.with_conditionals s file files cs)
  conditionals_placed s file files cs i all firsts = with_files s _ (All-cons (FileIn (length s.names)) _ files firsts all) i

  begins_placed : (s : State) (file : OpenFile) (files : List OpenFile) (t : Token) (b : Branch) → Placed s → All (FileIn (length s.names)) files →
      FileIn (length s.names) file → In (length s.names) t → Tells count s (branches.conditional_begins s file files t b)
  begins_placed s file files t b i all f k = (conditionals_placed s file files _ i all (All-cons (FirstIn (length s.names)) _ file.conditionals k f), refl)

  if_named_placed : (s : State) (file : OpenFile) (files : List OpenFile) (t : Token) (wanted : Bool) (name : Option (List ℕ)) → Placed s → All (FileIn (length s.names)) files →
      FileIn (length s.names) file → In (length s.names) t → Tells count s (branches.if_named s file files t wanted name)
  if_named_placed s file files t wanted None i all f k = k
  if_named_placed s file files t wanted (Some name) i all f k = begins_placed s file files t _ i all f k

  branch_placed : (s : State) (file : OpenFile) (files : List OpenFile) (c : Conditional) (cs : List Conditional) (b : Branch) (last : Bool) → Placed s → All (FileIn (length s.names)) files →
      FirstIn (length s.names) c → All (FirstIn (length s.names)) cs → Tells count s (branches.branch_begins s file files c cs b last)
  branch_placed s file files c cs b last i all f firsts = (conditionals_placed s file files _ i all (All-cons (FirstIn (length s.names)) _ cs f firsts), refl)

  behind_first_placed : (s : State) (file : OpenFile) (files : List OpenFile) (c : Conditional) (cs : List Conditional) (b : Branch) (last : Bool) → Placed s → All (FileIn (length s.names)) files →
      All (FirstIn (length s.names)) (c ∷ cs) → Tells count s (branches.branch_begins s file files c cs b last)
  behind_first_placed s file files c cs b last i all firsts =
      branch_placed s file files c cs b last i all (All-head (FirstIn (length s.names)) c cs firsts) (All-tail (FirstIn (length s.names)) c cs firsts)

  elsif_placed : (s : State) (file : OpenFile) (files : List OpenFile) (cs : List Conditional) (t : Token) (name : List ℕ) → Placed s → All (FileIn (length s.names)) files →
      All (FirstIn (length s.names)) cs → In (length s.names) t → Tells count s (branches.elsif_in s file files cs t name)
  elsif_placed s file files [] t name i all firsts k = k
  elsif_placed s file files (c ∷ cs) t name i all firsts k = by_test count s c.last _ _ k (behind_first_placed s file files c cs _ false i all firsts)

  elsif_named_placed : (s : State) (file : OpenFile) (files : List OpenFile) (t : Token) (name : Option (List ℕ)) → Placed s → All (FileIn (length s.names)) files →
      FileIn (length s.names) file → In (length s.names) t → Tells count s (branches.elsif_named s file files t name)
  elsif_named_placed s file files t None i all f k = k
  elsif_named_placed s file files t (Some name) i all f k = elsif_placed s file files file.conditionals t name i all f k

  else_placed : (s : State) (file : OpenFile) (files : List OpenFile) (cs : List Conditional) (t : Token) → Placed s → All (FileIn (length s.names)) files →
      All (FirstIn (length s.names)) cs → In (length s.names) t → Tells count s (branches.else_in s file files cs t)
  else_placed s file files [] t i all firsts k = k
  else_placed s file files (c ∷ cs) t i all firsts k = by_test count s c.last _ _ k (behind_first_placed s file files c cs _ true i all firsts)

  endif_placed : (s : State) (file : OpenFile) (files : List OpenFile) (cs : List Conditional) (t : Token) → Placed s → All (FileIn (length s.names)) files →
      All (FirstIn (length s.names)) cs → In (length s.names) t → Tells count s (branches.endif_in s file files cs t)
  endif_placed s file files [] t i all firsts k = k
  endif_placed s file files (c ∷ cs) t i all firsts k = (conditionals_placed s file files cs i all (All-tail (FirstIn (length s.names)) c cs firsts), refl)

  branching_placed : (s : State) (file : OpenFile) (files : List OpenFile) (t : Token) (word : Condition) → Placed s → All (FileIn (length s.names)) files →
      FileIn (length s.names) file → In (length s.names) t → Tells count s (branches.branching s file files t word)
  branching_placed s file files t Ifdef i all f k = if_named_placed (behind_next s) file files t true (next_name s) (behind_next_placed s i) all f k
  branching_placed s file files t Ifndef i all f k = if_named_placed (behind_next s) file files t false (next_name s) (behind_next_placed s i) all f k
  branching_placed s file files t Elsif i all f k = elsif_named_placed (behind_next s) file files t (next_name s) (behind_next_placed s i) all f k
  branching_placed s file files t Else i all f k = else_placed s file files file.conditionals t i all f k
  branching_placed s file files t Endif i all f k = endif_placed s file files file.conditionals t i all f k

  in_files_placed : (s : State) (files : List OpenFile) (t : Token) (word : Condition) → Placed s → All (FileIn (length s.names)) files → In (length s.names) t → Tells count s (branches.branching_in s files t word)
  in_files_placed s [] t word i all k = k
  in_files_placed s (file ∷ files) t word i all k =
      branching_placed s file files t word i (All-tail (FileIn (length s.names)) file files all) (All-head (FileIn (length s.names)) file files all) k

  pub branches_placed : (s : State) (t : Token) (word : Condition) → Placed s → In (length s.names) t → Tells count s (branches.branches s t word)
  branches_placed s t word i k = in_files_placed s s.files t word i i.opens k
