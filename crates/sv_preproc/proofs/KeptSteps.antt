-- A property of tokens that lexing and moving keep: each step keeps it.
use Rattle.std.proofs.Common.{ℕ, Bool, true, false, List, [], ◌∷◌, length, map, slice_get, Option, Some, None, All}
use Rattle.std.specs.Option.{IfSome}
use Rattle.std.proofs.lemmas.List.Elements.{All-cons, All-head, All-tail, All-append, All-map}
use Rattle.sv_source.specs.declared.token.Kind.{Kind}
use Rattle.sv_source.specs.declared.token.Kind.TheVariants as K
use Rattle.sv_source.specs.declared.token.Token.{Token}
use Rattle.sv_lexer.specs.Lexing.{tokens_of}
use Rattle.sv_macro.specs.Tokens.{is_string, said_by}
use Rattle.sv_macro.specs.Macros.{undefined}
use Rattle.sv_macro.specs.Definitions.{behind_line, line_of, defining}
use Rattle.sv_macro.specs.Including.{Held}
use Rattle.sv_macro.specs.Shapes.{behind_shapes}
use Rattle.sv_macro.specs.declared.words.Condition.{Condition}
use Rattle.sv_macro.specs.declared.words.Condition.TheVariants.{Ifdef, Ifndef, Elsif, Else, Endif}
use Rattle.sv_macro.specs.declared.words.Word.{Word}
use Rattle.sv_macro.specs.declared.words.Word.TheVariants as W
use Rattle.sv_macro.specs.declared.definition.Defining.{Defining}
use Rattle.sv_macro.specs.declared.definition.Defining.TheVariants.{Defines, BreaksAt, BreaksList, IllFormed}
use Rattle.sv_macro.specs.declared.shapes.Shape.{Shape}
use Rattle.sv_macro.specs.declared.coming.Coming.{Coming}
use Rattle.sv_macro.specs.declared.coming.Coming.TheVariants.{Raw, Kept, FileEnd, UseEnd}
use Rattle.sv_preproc.specs.States.{State, Step, with_coming, next_raw, next_name, behind_next, broken}
use Rattle.sv_preproc.specs.Searches.{opened}
use Rattle.sv_preproc.specs.Branches as branches
use Rattle.sv_preproc.specs.Expansion as spec
use Rattle.sv_preproc.specs.declared.settings.Settings.{Settings}
use Rattle.sv_preproc.specs.declared.state.Conditional.{Conditional}
use Rattle.sv_preproc.specs.declared.state.OpenFile.{OpenFile}
use Rattle.sv_preproc.proofs.KeptItems.{Steady, ItemKeeps, behind_line_keeps, line_keeps, shapes_keep}
use Rattle.sv_preproc.proofs.KeptBodies.{DefiningKeeps, defined_keeps, undefined_keeps, marked_keeps, defining_keeps}
use Rattle.sv_preproc.proofs.KeptStates.{StateKeeps, MachineKeeps, StepKeeps, MoveKeeps, with_rest, with_macros, by_test, behind_next_keeps, use_begins_keeps, acted_keeps}
use Rattle.sv_preproc.specs.Machine.{Machine, move}

module _ (P : Token → Type 0) (steady : Steady P) where
  abbrev Goes : Step → Type 0
  Goes = StepKeeps P

  -- conditionals
  if_named_keeps : (s : State) (file : OpenFile) (files : List OpenFile) (t : Token) (wanted : Bool) (name : Option (List ℕ)) → StateKeeps P s → Goes (branches.if_named s file files t wanted name)
  if_named_keeps s file files t wanted None i = tt
  if_named_keeps s file files t wanted (Some name) i = i

  elsif_keeps : (s : State) (file : OpenFile) (files : List OpenFile) (cs : List Conditional) (t : Token) (name : List ℕ) → StateKeeps P s → Goes (branches.elsif_in s file files cs t name)
  elsif_keeps s file files [] t name i = tt
  elsif_keeps s file files (c ∷ cs) t name i = by_test P c.last _ _ (λ _. tt) (λ _. i)

  elsif_named_keeps : (s : State) (file : OpenFile) (files : List OpenFile) (t : Token) (name : Option (List ℕ)) → StateKeeps P s → Goes (branches.elsif_named s file files t name)
  elsif_named_keeps s file files t None i = tt
  elsif_named_keeps s file files t (Some name) i = elsif_keeps s file files file.conditionals t name i

  else_keeps : (s : State) (file : OpenFile) (files : List OpenFile) (cs : List Conditional) (t : Token) → StateKeeps P s → Goes (branches.else_in s file files cs t)
  else_keeps s file files [] t i = tt
  else_keeps s file files (c ∷ cs) t i = by_test P c.last _ _ (λ _. tt) (λ _. i)

  endif_keeps : (s : State) (file : OpenFile) (files : List OpenFile) (cs : List Conditional) (t : Token) → StateKeeps P s → Goes (branches.endif_in s file files cs t)
  endif_keeps s file files [] t i = tt
  endif_keeps s file files (c ∷ cs) t i = i

  branching_keeps : (s : State) (file : OpenFile) (files : List OpenFile) (t : Token) (word : Condition) → StateKeeps P s → Goes (branches.branching s file files t word)
  branching_keeps s file files t Ifdef i = if_named_keeps (behind_next s) file files t true (next_name s) (behind_next_keeps P steady s i)
  branching_keeps s file files t Ifndef i = if_named_keeps (behind_next s) file files t false (next_name s) (behind_next_keeps P steady s i)
  branching_keeps s file files t Elsif i = elsif_named_keeps (behind_next s) file files t (next_name s) (behind_next_keeps P steady s i)
  branching_keeps s file files t Else i = else_keeps s file files file.conditionals t i
  branching_keeps s file files t Endif i = endif_keeps s file files file.conditionals t i

  in_files_keeps : (s : State) (files : List OpenFile) (t : Token) (word : Condition) → StateKeeps P s → Goes (branches.branching_in s files t word)
  in_files_keeps s [] t word i = tt
  in_files_keeps s (file ∷ files) t word i = branching_keeps s file files t word i

  branches_keep : (s : State) (t : Token) (word : Condition) → StateKeeps P s → Goes (branches.branches s t word)
  branches_keep s t word i = in_files_keeps s s.files t word i

  -- definitions
  definition_keeps : (s : State) (t : Token) (d : Defining) → StateKeeps P s → DefiningKeeps P d → Goes (spec.definition s t d)
  definition_keeps s t (Defines name m) i k = with_macros P s.coming s.macros s.delivered s.spent _ (defined_keeps P s.macros name m i.stands k) i
  definition_keeps s t (BreaksAt rule u) i k = tt
  definition_keeps s t BreaksList i k = tt
  definition_keeps s t IllFormed i k = tt

  define_keeps : (s : State) (t : Token) → StateKeeps P s → Goes (spec.define s t)
  define_keeps s t i = definition_keeps (with_coming s (behind_line s.coming)) t (defining (line_of s.coming))
      (with_rest P s.coming s.macros s.delivered s.spent (behind_line s.coming) (behind_line_keeps P s.coming i.comes) i)
      (defining_keeps P (line_of s.coming) (line_keeps P s.coming i.comes))

  undefine_keeps : (s : State) (t : Token) (name : Option (List ℕ)) → StateKeeps P s → Goes (spec.undefine_named s t name)
  undefine_keeps s t None i = tt
  undefine_keeps s t (Some name) i = with_macros P s.coming s.macros s.delivered s.spent (undefined s.macros name) (undefined_keeps P s.macros name i.stands) i

  -- files
  include_in_keeps : (set : Settings) (s : State) (t string : Token) (files : List OpenFile) → StateKeeps P s → Goes (spec.include_in set s t string files)
  include_in_keeps set s t string [] i = tt
  include_in_keeps set s t string (file ∷ files) i = i

  include_from_keeps : (set : Settings) (s : State) (t : Token) (next : Option Token) → StateKeeps P s → Goes (spec.include_from set s t next)
  include_from_keeps set s t None i = tt
  include_from_keeps set s t (Some u) i = by_test P (is_string u) _ _ (λ _. include_in_keeps set s t u s.files i) (λ _. tt)

  -- what is dropped
  dropped_keeps : (s : State) (t : Token) (rest : Option (List Coming)) → StateKeeps P s → IfSome rest (All (ItemKeeps P)) → Goes (spec.dropped s t rest)
  dropped_keeps s t None i k = tt
  dropped_keeps s t (Some rest) i k = with_rest P s.coming s.macros s.delivered s.spent rest k i

  dropped_with_keeps : (s : State) (t : Token) (shapes : List Shape) → StateKeeps P s → Goes (spec.dropped_with s t shapes)
  dropped_with_keeps s t shapes i = dropped_keeps s t (behind_shapes shapes s.coming) i (shapes_keep P shapes s.coming i.comes)

  -- directives
  obeyed_keeps : (set : Settings) (s : State) (t : Token) (word : Word) → StateKeeps P s → Goes (spec.obeyed set s t word)
  obeyed_keeps set s t (W.Branch word) i = branches_keep s t word i
  obeyed_keeps set s t W.Define i = define_keeps s t i
  obeyed_keeps set s t W.Undef i = undefine_keeps (behind_next s) t (next_name s) (behind_next_keeps P steady s i)
  obeyed_keeps set s t W.Include i = include_from_keeps set (behind_next s) t (next_raw s) (behind_next_keeps P steady s i)
  obeyed_keeps set s t W.Alone i = i
  obeyed_keeps set s t W.NetType i = dropped_with_keeps s t spec.net_type_shapes i
  obeyed_keeps set s t W.Timescale i = dropped_with_keeps s t spec.timescale_shapes i
  obeyed_keeps set s t W.Unsupported i = tt
  obeyed_keeps set s t W.Use i = use_begins_keeps P steady s t i

  in_file_keeps : (set : Settings) (s : State) (t : Token) (word : Word) → StateKeeps P s → Goes (elim (spec.in_file s) [ true ↦ spec.obeyed set s t word | false ↦ broken s 201 t ])
  in_file_keeps set s t word i = by_test P (spec.in_file s) _ _ (λ _. obeyed_keeps set s t word i) (λ _. tt)

  directive_keeps : (set : Settings) (s : State) (t : Token) (word : Word) → StateKeeps P s → Goes (spec.directive set s t word)
  directive_keeps set s t W.Use i = use_begins_keeps P steady s t i
  directive_keeps set s t (W.Branch word) i = in_file_keeps set s t (W.Branch word) i
  directive_keeps set s t W.Define i = in_file_keeps set s t W.Define i
  directive_keeps set s t W.Undef i = in_file_keeps set s t W.Undef i
  directive_keeps set s t W.Include i = in_file_keeps set s t W.Include i
  directive_keeps set s t W.Alone i = in_file_keeps set s t W.Alone i
  directive_keeps set s t W.NetType i = in_file_keeps set s t W.NetType i
  directive_keeps set s t W.Timescale i = in_file_keeps set s t W.Timescale i
  directive_keeps set s t W.Unsupported i = in_file_keeps set s t W.Unsupported i

  -- tokens
  skipped_word_keeps : (s : State) (t : Token) (word : Word) → StateKeeps P s → Goes (spec.skipped_word s t word)
  skipped_word_keeps s t (W.Branch word) i = branches_keep s t word i
  skipped_word_keeps s t _ i = i

  skipped_keeps : (s : State) (t : Token) (kind : Kind) → StateKeeps P s → Goes (spec.skipped s t kind)
  skipped_keeps s t K.Directive i = skipped_word_keeps s t (said_by t) i
  skipped_keeps s t K.Cut i = tt
  skipped_keeps s t _ i = i

  taken_keeps : (set : Settings) (s : State) (t : Token) (kind : Kind) → StateKeeps P s → P t → Goes (spec.taken set s t kind)
  taken_keeps set s t K.Directive i k = directive_keeps set s t (said_by t) i
  taken_keeps set s t K.Cut i k = tt
  taken_keeps set s t K.Quote i k = tt
  taken_keeps set s t K.Line i k = i
  taken_keeps set s t K.Continued i k = i
  taken_keeps set s t _ i k = (i, k)

  raw_keeps : (set : Settings) (s : State) (t : Token) → StateKeeps P s → P t → Goes (spec.raw set s t)
  raw_keeps set s t i k = by_test P (branches.skips s.files) _ _ (λ _. skipped_keeps s t t.kind i) (λ _. taken_keeps set s t t.kind i k)

  -- ends
  file_with_keeps : (s : State) (files : List OpenFile) (cs : List Conditional) → StateKeeps P s → Goes (spec.file_ends_with s files cs)
  file_with_keeps s files [] i = i
  file_with_keeps s files (c ∷ cs) i = tt

  file_keeps : (s : State) (files : List OpenFile) → StateKeeps P s → Goes (spec.file_ends s files)
  file_keeps s [] i = i
  file_keeps s (file ∷ files) i = file_with_keeps s files file.conditionals i

  body_ends_keeps : (s : State) (name : List ℕ) → StateKeeps P s → Goes (spec.body_ends s name)
  body_ends_keeps s name i = with_macros P s.coming s.macros s.delivered s.spent _ (marked_keeps P s.macros name false i.stands) i

  next_file_keeps : (s : State) (path : Option (List ℕ)) → StateKeeps P s → Goes (spec.next_file s path)
  next_file_keeps s None i = i
  next_file_keeps s (Some path) i = i

  -- one step
  behind_item : (s : State) (item : Coming) (rest : List Coming) → All (ItemKeeps P) (item ∷ rest) → StateKeeps P s → StateKeeps P (with_coming s rest)
  behind_item s item rest all i = with_rest P s.coming s.macros s.delivered s.spent rest (All-tail (ItemKeeps P) item rest all) i

  at_keeps : (set : Settings) (s : State) (coming : List Coming) → All (ItemKeeps P) coming → StateKeeps P s → Goes (spec.step_at set s coming)
  at_keeps set s [] all i = next_file_keeps s (slice_get set.files s.next) i
  at_keeps set s (Raw t ∷ rest) all i = raw_keeps set (with_coming s rest) t (behind_item s (Raw t) rest all i) (All-head (ItemKeeps P) (Raw t) rest all)
  at_keeps set s (Kept t ∷ rest) all i = (behind_item s (Kept t) rest all i, All-head (ItemKeeps P) (Kept t) rest all)
  at_keeps set s (FileEnd ∷ rest) all i = file_keeps (with_coming s rest) s.files (behind_item s FileEnd rest all i)
  at_keeps set s (UseEnd name ∷ rest) all i = body_ends_keeps (with_coming s rest) name (behind_item s (UseEnd name) rest all i)

  pub step_keeps : (set : Settings) (s : State) → StateKeeps P s → Goes (spec.step set s)
  step_keeps set s i = at_keeps set s s.coming i.comes i

  pub move_keeps : (set : Settings) (m : Machine) → MachineKeeps P m → MoveKeeps P (move set m)
  move_keeps set m k = acted_keeps P steady m.calls (spec.step set m.state) k.collects (step_keeps set m.state k.state)

  -- a file is opened
  pub opened_keeps : (top : Bool) (s : State) (held : Held) → StateKeeps P s → StateKeeps P (opened top s held)
  opened_keeps top s held i = with_rest P s.coming s.macros s.delivered s.spent _
      (All-append (ItemKeeps P) (map Raw (tokens_of (length s.names) held.bytes)) (FileEnd ∷ s.coming)
      (All-map (ItemKeeps P) Raw (tokens_of (length s.names) held.bytes) (steady.lexed (length s.names) held.bytes))
      (All-cons (ItemKeeps P) FileEnd s.coming tt i.comes)) i
