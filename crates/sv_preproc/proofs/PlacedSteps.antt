-- The places of an expansion's tokens are those of loaded files: each step keeps it, and the rule that it breaks is broken
-- at such a place.
use Rattle.std.proofs.Common.{◌≡◌, ℕ, zero, suc, ◌≤◌, nat_lt, Bool, true, false, List, [], ◌∷◌, length, slice_get, Option, Some, None, All, refl, sym, arith}
use Rattle.std.specs.Option.{IfSome}
use Rattle.std.proofs.lemmas.Option.{none-some}
use Rattle.std.proofs.lemmas.List.Elements.{All-head, All-tail}
use Rattle.sv_source.specs.declared.token.Kind.{Kind}
use Rattle.sv_source.specs.declared.token.Kind.TheVariants as K
use Rattle.sv_source.specs.declared.token.Token.{Token}
use Rattle.sv_macro.specs.Tokens.{is_string, said_by}
use Rattle.sv_macro.specs.Definitions.{behind_line, line_of, defining}
use Rattle.sv_macro.specs.Shapes.{behind_shapes}
use Rattle.sv_macro.specs.declared.words.Word.{Word}
use Rattle.sv_macro.specs.declared.words.Word.TheVariants as W
use Rattle.sv_macro.specs.declared.definition.Defining.{Defining}
use Rattle.sv_macro.specs.declared.definition.Defining.TheVariants.{Defines, BreaksAt, BreaksList, IllFormed}
use Rattle.sv_macro.specs.declared.shapes.Shape.{Shape}
use Rattle.sv_macro.specs.declared.coming.Coming.{Coming}
use Rattle.sv_macro.specs.declared.coming.Coming.TheVariants.{Raw, Kept, FileEnd, UseEnd}
use Rattle.sv_preproc.specs.States.{State, Step, with_coming, depth_limit, next_raw, next_name, behind_next, broken}
use Rattle.sv_preproc.specs.Branches as branches
use Rattle.sv_preproc.specs.Expansion as spec
use Rattle.sv_preproc.specs.declared.settings.Settings.{Settings}
use Rattle.sv_preproc.specs.declared.state.Conditional.{Conditional}
use Rattle.sv_preproc.specs.declared.state.OpenFile.{OpenFile}
use Rattle.sv_preproc.specs.Machine.{Machine, move}
use Rattle.sv_preproc.proofs.KeptItems.{ItemKeeps, next_raw_keeps, behind_line_keeps, line_keeps, shapes_keep}
use Rattle.sv_preproc.proofs.KeptBodies.{DefiningKeeps, defining_keeps}
use Rattle.sv_preproc.proofs.PlacedStates as placed
use Rattle.sv_preproc.proofs.PlacedStates.{Stand, In, FirstIn, FileIn, Placed, Reads, with_rest, with_files, behind_next_placed, use_begins_placed, acted_placed}
use Rattle.sv_preproc.proofs.PlacedBranches.{branches_placed}

all_looked_for : (files : List (List ℕ)) (next : ℕ) → slice_get files next ≡ None → length files ≤ next
all_looked_for [] next e = omega arith
all_looked_for (file ∷ files) zero e = absurd (none-some file (sym e))
all_looked_for (file ∷ files) (suc next) e = omega (arith, all_looked_for files next e)

module _ (set : Settings) where
  abbrev pub Tells : State → Step → Type 0
  Tells = placed.Tells (length set.files)

  by_test : (s : State) (b : Bool) (x y : Step) → Tells s x → Tells s y → Tells s (elim b [ true ↦ x | false ↦ y ])
  by_test = placed.by_test (length set.files)

  -- definitions
  definition_placed : (s : State) (t : Token) (d : Defining) → Placed s → In (length s.names) t → DefiningKeeps (In (length s.names)) d → Tells s (spec.definition s t d)
  definition_placed s t (Defines name m) i k d = (i, refl)
  definition_placed s t (BreaksAt rule u) i k d = d
  definition_placed s t BreaksList i k d = k
  definition_placed s t IllFormed i k d = k

  define_placed : (s : State) (t : Token) → Placed s → In (length s.names) t → Tells s (spec.define s t)
  define_placed s t i k = definition_placed (with_coming s (behind_line s.coming)) t (defining (line_of s.coming))
      (with_rest s (behind_line s.coming) (behind_line_keeps (In (length s.names)) s.coming i.comes) i) k
      (defining_keeps (In (length s.names)) (line_of s.coming) (line_keeps (In (length s.names)) s.coming i.comes))

  undefine_placed : (s : State) (t : Token) (name : Option (List ℕ)) → Placed s → In (length s.names) t → Tells s (spec.undefine_named s t name)
  undefine_placed s t None i k = k
  undefine_placed s t (Some name) i k = (i, refl)

  -- files
  by_depth : (names : List (List ℕ)) (b : Bool) (t : Token) → In (length names) t → IfSome (elim b as (λ _. Option Token) [ true ↦ None | false ↦ Some t ]) (In (length names))
  by_depth names true t k = tt
  by_depth names false t k = k

  deep_placed : (names : List (List ℕ)) (files : List OpenFile) (t : Token) → In (length names) t → IfSome (spec.too_deep files t) (In (length names))
  deep_placed names files t k = by_depth names (nat_lt (length files) depth_limit) t k

  include_in_placed : (s : State) (t string : Token) (files : List OpenFile) → Placed s → In (length s.names) t → In (length s.names) string → Tells s (spec.include_in set s t string files)
  include_in_placed s t string [] i k l = k
  include_in_placed s t string (file ∷ files) i k l = (((i, l), deep_placed s.names (file ∷ files) t k), refl)

  include_from_placed : (s : State) (t : Token) (next : Option Token) → Placed s → In (length s.names) t → IfSome next (In (length s.names)) → Tells s (spec.include_from set s t next)
  include_from_placed s t None i k l = k
  include_from_placed s t (Some u) i k l = by_test s (is_string u) _ _ (include_in_placed s t u s.files i k l) k

  -- what is dropped
  dropped_placed : (s : State) (t : Token) (rest : Option (List Coming)) → Placed s → In (length s.names) t → IfSome rest (All (ItemKeeps (In (length s.names)))) → Tells s (spec.dropped s t rest)
  dropped_placed s t None i k r = k
  dropped_placed s t (Some rest) i k r = (with_rest s rest r i, refl)

  dropped_with_placed : (s : State) (t : Token) (shapes : List Shape) → Placed s → In (length s.names) t → Tells s (spec.dropped_with s t shapes)
  dropped_with_placed s t shapes i k = dropped_placed s t (behind_shapes shapes s.coming) i k (shapes_keep (In (length s.names)) shapes s.coming i.comes)

  -- directives
  obeyed_placed : (s : State) (t : Token) (word : Word) → Placed s → In (length s.names) t → Tells s (spec.obeyed set s t word)
  obeyed_placed s t (W.Branch word) i k = branches_placed (length set.files) s t word i k
  obeyed_placed s t W.Define i k = define_placed s t i k
  obeyed_placed s t W.Undef i k = undefine_placed (behind_next s) t (next_name s) (behind_next_placed s i) k
  obeyed_placed s t W.Include i k = include_from_placed (behind_next s) t (next_raw s) (behind_next_placed s i) k (next_raw_keeps (In (length s.names)) s.coming i.comes)
  obeyed_placed s t W.Alone i k = (i, refl)
  obeyed_placed s t W.NetType i k = dropped_with_placed s t spec.net_type_shapes i k
  obeyed_placed s t W.Timescale i k = dropped_with_placed s t spec.timescale_shapes i k
  obeyed_placed s t W.Unsupported i k = k
  obeyed_placed s t W.Use i k = use_begins_placed (length set.files) s t i k

  in_file_placed : (s : State) (t : Token) (word : Word) → Placed s → In (length s.names) t → Tells s (elim (spec.in_file s) [ true ↦ spec.obeyed set s t word | false ↦ broken s 201 t ])
  in_file_placed s t word i k = by_test s (spec.in_file s) _ _ (obeyed_placed s t word i k) k

  directive_placed : (s : State) (t : Token) (word : Word) → Placed s → In (length s.names) t → Tells s (spec.directive set s t word)
  directive_placed s t W.Use i k = use_begins_placed (length set.files) s t i k
  directive_placed s t (W.Branch word) i k = in_file_placed s t (W.Branch word) i k
  directive_placed s t W.Define i k = in_file_placed s t W.Define i k
  directive_placed s t W.Undef i k = in_file_placed s t W.Undef i k
  directive_placed s t W.Include i k = in_file_placed s t W.Include i k
  directive_placed s t W.Alone i k = in_file_placed s t W.Alone i k
  directive_placed s t W.NetType i k = in_file_placed s t W.NetType i k
  directive_placed s t W.Timescale i k = in_file_placed s t W.Timescale i k
  directive_placed s t W.Unsupported i k = in_file_placed s t W.Unsupported i k

  -- tokens
  skipped_word_placed : (s : State) (t : Token) (word : Word) → Placed s → In (length s.names) t → Tells s (spec.skipped_word s t word)
  skipped_word_placed s t (W.Branch word) i k = branches_placed (length set.files) s t word i k
  skipped_word_placed s t _ i k = (i, refl)

  skipped_placed : (s : State) (t : Token) (kind : Kind) → Placed s → In (length s.names) t → Tells s (spec.skipped s t kind)
  skipped_placed s t K.Directive i k = skipped_word_placed s t (said_by t) i k
  skipped_placed s t K.Cut i k = k
  skipped_placed s t _ i k = (i, refl)

  taken_placed : (s : State) (t : Token) (kind : Kind) → Placed s → In (length s.names) t → Tells s (spec.taken set s t kind)
  taken_placed s t K.Directive i k = directive_placed s t (said_by t) i k
  taken_placed s t K.Cut i k = k
  taken_placed s t K.Quote i k = k
  taken_placed s t K.Line i k = (i, refl)
  taken_placed s t K.Continued i k = (i, refl)
  taken_placed s t _ i k = (i, refl, k)

  raw_placed : (s : State) (t : Token) → Placed s → In (length s.names) t → Tells s (spec.raw set s t)
  raw_placed s t i k = by_test s (branches.skips s.files) _ _ (skipped_placed s t t.kind i k) (taken_placed s t t.kind i k)

  -- ends
  file_with_placed : (s : State) (files : List OpenFile) (cs : List Conditional) → Placed s → All (FileIn (length s.names)) files → All (FirstIn (length s.names)) cs → Tells s (spec.file_ends_with s files cs)
  file_with_placed s files [] i all firsts = (with_files s files all i, refl)
  file_with_placed s files (c ∷ cs) i all firsts = All-head (FirstIn (length s.names)) c cs firsts

  file_placed : (s : State) (files : List OpenFile) → Placed s → All (FileIn (length s.names)) files → Tells s (spec.file_ends s files)
  file_placed s [] i all = (i, refl)
  file_placed s (file ∷ files) i all =
      file_with_placed s files file.conditionals i (All-tail (FileIn (length s.names)) file files all) (All-head (FileIn (length s.names)) file files all)

  -- the next file of the command line
  next_file_placed : (s : State) (path : Option (List ℕ)) → slice_get set.files s.next ≡ path → Placed s → Tells s (spec.next_file s path)
  next_file_placed s None e i = (i, all_looked_for set.files s.next e)
  next_file_placed s (Some path) e i =
      let waits : Stand (length s.names) s.coming s.files s.delivered 0 s.ending = record { comes = i.comes; opens = i.opens; gives = i.gives; ends = λ l. absurd (omega (arith, l)) } in
      (((waits, omega arith), tt), refl)

  -- one step
  behind_item : (s : State) (item : Coming) (rest : List Coming) → All (ItemKeeps (In (length s.names))) (item ∷ rest) → Placed s → Placed (with_coming s rest)
  behind_item s item rest all i = with_rest s rest (All-tail (ItemKeeps (In (length s.names))) item rest all) i

  at_placed : (s : State) (coming : List Coming) → All (ItemKeeps (In (length s.names))) coming → Placed s → Tells s (spec.step_at set s coming)
  at_placed s [] all i = next_file_placed s (slice_get set.files s.next) refl i
  at_placed s (Raw t ∷ rest) all i = raw_placed (with_coming s rest) t (behind_item s (Raw t) rest all i) (All-head (ItemKeeps (In (length s.names))) (Raw t) rest all)
  at_placed s (Kept t ∷ rest) all i = (behind_item s (Kept t) rest all i, refl, All-head (ItemKeeps (In (length s.names))) (Kept t) rest all)
  at_placed s (FileEnd ∷ rest) all i = file_placed (with_coming s rest) s.files (behind_item s FileEnd rest all i) i.opens
  at_placed s (UseEnd name ∷ rest) all i = (behind_item s (UseEnd name) rest all i, refl)

  step_placed : (s : State) → Placed s → Tells s (spec.step set s)
  step_placed s i = at_placed s s.coming i.comes i

  pub move_placed : (m : Machine) → Placed m.state → Reads m → placed.Moves (length set.files) (move set m)
  move_placed m i r = acted_placed (length set.files) m.state.names m.calls (spec.step set m.state) r (step_placed m.state i)
