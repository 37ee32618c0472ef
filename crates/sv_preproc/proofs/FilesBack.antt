-- A move in a file, with no open call, is a step.
use Rattle.std.proofs.Common.{◌≡◌, ℕ, ◌+◌, nat_lt, Bool, true, false, cond, List, [], ◌∷◌, ◌++◌, slice_get, Option, Some, None, refl, sym, ap, ◌∙◌, subst}
use Rattle.sv_source.specs.Loading.{Contents}
use Rattle.sv_source.specs.declared.token.Kind.{Kind}
use Rattle.sv_source.specs.declared.token.Kind.TheVariants as K
use Rattle.sv_source.specs.declared.token.Token.{Token}
use Rattle.sv_macro.specs.Tokens.{is_string, said_by}
use Rattle.sv_macro.specs.Definitions.{behind_line, line_of, defining}
use Rattle.sv_macro.specs.Shapes.{behind_shapes}
use Rattle.sv_macro.specs.declared.words.Condition.{Condition}
use Rattle.sv_macro.specs.declared.words.Condition.TheVariants.{Ifdef, Ifndef, Elsif, Else, Endif}
use Rattle.sv_macro.specs.declared.words.Word.{Word}
use Rattle.sv_macro.specs.declared.words.Word.TheVariants as W
use Rattle.sv_macro.specs.declared.definition.Defining.{Defining}
use Rattle.sv_macro.specs.declared.definition.Defining.TheVariants.{Defines, BreaksAt, BreaksList, IllFormed}
use Rattle.sv_macro.specs.declared.coming.Coming.{Coming}
use Rattle.sv_macro.specs.declared.coming.Coming.TheVariants.{Raw, Kept, FileEnd, UseEnd}
use Rattle.sv_preproc.specs.States as step
use Rattle.sv_preproc.specs.States.{State, Step, spending_limit, broken, with_coming, next_raw, next_name, behind_next}
use Rattle.sv_preproc.specs.Branches as branches
use Rattle.sv_preproc.specs.Uses as uses
use Rattle.sv_preproc.specs.Expansion as spec
use Rattle.sv_preproc.specs.Machine as mach
use Rattle.sv_preproc.specs.Machine.{Machine, Move, machine, plain, acted, move}
use Rattle.sv_preproc.specs.Searches.{Ending, stopped}
use Rattle.sv_preproc.specs.Leads as leads
use Rattle.sv_preproc.specs.Leads.{steps, next, next_in, Leads}
use Rattle.sv_preproc.specs.declared.settings.Settings.{Settings}
use Rattle.sv_preproc.specs.declared.state.Call.{Call}
use Rattle.sv_preproc.specs.declared.state.Conditional.{Conditional}
use Rattle.sv_preproc.specs.declared.state.OpenFile.{OpenFile}
use Rattle.sv_preproc.proofs.Frames.{Frame, Open, opens, inner, Sound, From, Back, breaks_from, goes_back}
use Rattle.sv_preproc.proofs.UsesBack.{use_acts}
use Rattle.sv_preproc.proofs.ArgumentsBack.{open_tells}

module _ (set : Settings) (told : Option Contents) where
  -- what a move tells, also where a file is looked for and where nothing comes
  abbrev pub Tells : List Open → Step → Move → Type 0
  Tells os seen (mach.goes n) = Back set told (From set told os seen) (mach.goes n)
  Tells os seen (mach.looks search n) = (os ≡ []) × (seen ≡ step.looks search n.state) × (n.calls ≡ []) × (n.state.inside ≡ false)
  Tells os seen (mach.done n) = (os ≡ []) × (seen ≡ step.done n.state)
  Tells os seen (mach.breaks r names) = From set told os seen (stopped r names)

  tells_all : (os : List Open) (seen : Step) (mv : Move) → Back set told (From set told os seen) mv → Tells os seen mv
  tells_all os seen (mach.goes n) b = b
  tells_all os seen (mach.looks search n) b = absurd b
  tells_all os seen (mach.done n) b = absurd b
  tells_all os seen (mach.breaks r names) b = b

  -- a step in a file
  abbrev In : Step → Type 0
  In st = Tells [] st (acted [] st)

  goes_on : (s : State) → s.inside ≡ false → In (step.goes s)
  goes_on s i = goes_back set told s [] [] s.coming (record { fits = refl; inside = i; reads = λ no. absurd (let x : false ≡ true = no in cc) })

  says : (s : State) (rule : ℕ) (t : Token) → In (broken s rule t)
  says s rule t = breaks_from set told [] (record { rule = rule; place = t.place; word = t.text }) s.names

  by_test : (b : Bool) (st other : Step) → (b ≡ true → In st) → (b ≡ false → In other) → In (elim b as (λ _. Step) [ true ↦ st | false ↦ other ])
  by_test true st other f g = f refl
  by_test false st other f g = g refl

  -- a token is delivered
  given_is : (s : State) (t : Token) (b : Bool) → s.inside ≡ false → nat_lt spending_limit (s.spent + 1) ≡ b →
      leads.given s t ≡ elim b as (λ _. Step) [ true ↦ broken s 207 t | false ↦ step.goes (record s { delivered = s.delivered ++ t ∷ []; spent = s.spent + 1 }) ]
  given_is s t b i e =
      ap (λ (c : Bool). cond {A = Step} c (step.goes (record s { delivered = s.delivered ++ t ∷ [] })) (uses.delivered s t)) i ∙
      ap (λ (c : Bool). elim c as (λ _. Step) [ true ↦ broken s 207 t | false ↦ step.goes (record s { delivered = s.delivered ++ t ∷ []; spent = s.spent + 1 }) ]) e

  delivers : (s : State) (t : Token) (b : Bool) → s.inside ≡ false → nat_lt spending_limit (s.spent + 1) ≡ b →
      Tells [] (step.gives t s) (plain [] (elim b as (λ _. Step) [ true ↦ broken s 207 t | false ↦ step.goes (record s { delivered = s.delivered ++ t ∷ []; spent = s.spent + 1 }) ]))
  delivers s t true i e =
      let end : Ending = stopped (record { rule = 207; place = t.place; word = t.text }) s.names in
      let P : Step → Type 0 = λ st. Leads set told (steps st) end in
      (end, leads.gives t s end (subst P (sym (given_is s t true i e)) (leads.breaks (record { rule = 207; place = t.place; word = t.text }) s.names)), refl)
  delivers s t false i e =
      let n : State = record s { delivered = s.delivered ++ t ∷ []; spent = s.spent + 1 } in
      let sound : Sound (machine n []) [] s.coming = record { fits = refl; inside = i; reads = λ no. absurd (let x : false ≡ true = no in cc) } in (
        [],
        s.coming,
        sound,
        λ ending l.
            let P : Step → Type 0 = λ st. Leads set told (steps st) l.0 in
            (l.0, leads.gives t s l.0 (subst P (sym (given_is s t false i e)) (leads.goes n l.0 l.1)), l.2),
      )

  gives : (s : State) (t : Token) → s.inside ≡ false → In (step.gives t s)
  gives s t i = delivers s t (nat_lt spending_limit (s.spent + 1)) i refl

  -- a macro is used
  uses_in : (s : State) (t : Token) → s.inside ≡ false → branches.skips s.files ≡ false → In (uses.use_begins s t)
  uses_in s t i r = tells_all [] (uses.use_begins s t) (acted [] (uses.use_begins s t)) (use_acts set told [] [] s s.coming t refl (record { inside = i; reads = r }))

  -- conditionals
  if_named : (s : State) (file : OpenFile) (files : List OpenFile) (t : Token) (wanted : Bool) (name : Option (List ℕ)) → s.inside ≡ false → In (branches.if_named s file files t wanted name)
  if_named s file files t wanted None i = says s 201 t
  if_named s file files t wanted (Some name) i = goes_on _ i

  elsif_in : (s : State) (file : OpenFile) (files : List OpenFile) (cs : List Conditional) (t : Token) (name : List ℕ) → s.inside ≡ false → In (branches.elsif_in s file files cs t name)
  elsif_in s file files [] t name i = says s 205 t
  elsif_in s file files (c ∷ cs) t name i = by_test c.last _ _ (λ _. says s 205 t) (λ _. goes_on _ i)

  elsif_named : (s : State) (file : OpenFile) (files : List OpenFile) (t : Token) (name : Option (List ℕ)) → s.inside ≡ false → In (branches.elsif_named s file files t name)
  elsif_named s file files t None i = says s 201 t
  elsif_named s file files t (Some name) i = elsif_in s file files file.conditionals t name i

  else_in : (s : State) (file : OpenFile) (files : List OpenFile) (cs : List Conditional) (t : Token) → s.inside ≡ false → In (branches.else_in s file files cs t)
  else_in s file files [] t i = says s 205 t
  else_in s file files (c ∷ cs) t i = by_test c.last _ _ (λ _. says s 205 t) (λ _. goes_on _ i)

  endif_in : (s : State) (file : OpenFile) (files : List OpenFile) (cs : List Conditional) (t : Token) → s.inside ≡ false → In (branches.endif_in s file files cs t)
  endif_in s file files [] t i = says s 205 t
  endif_in s file files (c ∷ cs) t i = goes_on _ i

  branching : (s : State) (file : OpenFile) (files : List OpenFile) (t : Token) (word : Condition) → s.inside ≡ false → In (branches.branching s file files t word)
  branching s file files t Ifdef i = if_named (behind_next s) file files t true (next_name s) i
  branching s file files t Ifndef i = if_named (behind_next s) file files t false (next_name s) i
  branching s file files t Elsif i = elsif_named (behind_next s) file files t (next_name s) i
  branching s file files t Else i = else_in s file files file.conditionals t i
  branching s file files t Endif i = endif_in s file files file.conditionals t i

  in_files : (s : State) (files : List OpenFile) (t : Token) (word : Condition) → s.inside ≡ false → In (branches.branching_in s files t word)
  in_files s [] t word i = says s 201 t
  in_files s (file ∷ files) t word i = branching s file files t word i

  -- directives
  definition : (s : State) (t : Token) (d : Defining) → s.inside ≡ false → In (spec.definition s t d)
  definition s t (Defines name m) i = goes_on _ i
  definition s t (BreaksAt rule u) i = says s rule u
  definition s t BreaksList i = says s 203 t
  definition s t IllFormed i = says s 201 t

  undefine : (s : State) (t : Token) (name : Option (List ℕ)) → s.inside ≡ false → In (spec.undefine_named s t name)
  undefine s t None i = says s 201 t
  undefine s t (Some name) i = goes_on _ i

  include_in : (s : State) (t string : Token) (files : List OpenFile) → s.inside ≡ false → In (spec.include_in set s t string files)
  include_in s t string [] i = says s 201 t
  include_in s t string (file ∷ files) i = (refl, refl, refl, i)

  include_from : (s : State) (t : Token) (string : Option Token) → s.inside ≡ false → In (spec.include_from set s t string)
  include_from s t None i = says s 201 t
  include_from s t (Some u) i = by_test (is_string u) _ _ (λ _. include_in s t u s.files i) (λ _. says s 201 t)

  dropped : (s : State) (t : Token) (rest : Option (List Coming)) → s.inside ≡ false → In (spec.dropped s t rest)
  dropped s t None i = says s 201 t
  dropped s t (Some rest) i = goes_on _ i

  obeyed : (s : State) (t : Token) (word : Word) → s.inside ≡ false → branches.skips s.files ≡ false → In (spec.obeyed set s t word)
  obeyed s t (W.Branch word) i r = in_files s s.files t word i
  obeyed s t W.Define i r = definition (with_coming s (behind_line s.coming)) t (defining (line_of s.coming)) i
  obeyed s t W.Undef i r = undefine (behind_next s) t (next_name s) i
  obeyed s t W.Include i r = include_from (behind_next s) t (next_raw s) i
  obeyed s t W.Alone i r = goes_on s i
  obeyed s t W.NetType i r = dropped s t (behind_shapes spec.net_type_shapes s.coming) i
  obeyed s t W.Timescale i r = dropped s t (behind_shapes spec.timescale_shapes s.coming) i
  obeyed s t W.Unsupported i r = says s 201 t
  obeyed s t W.Use i r = uses_in s t i r

  in_file : (s : State) (t : Token) (word : Word) → s.inside ≡ false → branches.skips s.files ≡ false → In (elim (spec.in_file s) as (λ _. Step) [ true ↦ spec.obeyed set s t word | false ↦ broken s 201 t ])
  in_file s t word i r = by_test (spec.in_file s) _ _ (λ _. obeyed s t word i r) (λ _. says s 201 t)

  directive : (s : State) (t : Token) (word : Word) → s.inside ≡ false → branches.skips s.files ≡ false → In (spec.directive set s t word)
  directive s t W.Use i r = uses_in s t i r
  directive s t (W.Branch word) i r = in_file s t (W.Branch word) i r
  directive s t W.Define i r = in_file s t W.Define i r
  directive s t W.Undef i r = in_file s t W.Undef i r
  directive s t W.Include i r = in_file s t W.Include i r
  directive s t W.Alone i r = in_file s t W.Alone i r
  directive s t W.NetType i r = in_file s t W.NetType i r
  directive s t W.Timescale i r = in_file s t W.Timescale i r
  directive s t W.Unsupported i r = in_file s t W.Unsupported i r

  -- tokens
  skipped_word : (s : State) (t : Token) (word : Word) → s.inside ≡ false → In (spec.skipped_word s t word)
  skipped_word s t (W.Branch word) i = in_files s s.files t word i
  skipped_word s t _ i = goes_on s i

  skipped : (s : State) (t : Token) (kind : Kind) → s.inside ≡ false → In (spec.skipped s t kind)
  skipped s t K.Directive i = skipped_word s t (said_by t) i
  skipped s t K.Cut i = says s 208 t
  skipped s t _ i = goes_on s i

  taken : (s : State) (t : Token) (kind : Kind) → s.inside ≡ false → branches.skips s.files ≡ false → In (spec.taken set s t kind)
  taken s t K.Directive i r = directive s t (said_by t) i r
  taken s t K.Cut i r = says s 208 t
  taken s t K.Quote i r = says s 201 t
  taken s t K.Line i r = goes_on s i
  taken s t K.Continued i r = goes_on s i
  taken s t _ i r = gives s t i

  raw : (s : State) (t : Token) → s.inside ≡ false → In (spec.raw set s t)
  raw s t i = by_test (branches.skips s.files) _ _ (λ _. skipped s t t.kind i) (λ r. taken s t t.kind i r)

  -- ends
  file_with : (s : State) (files : List OpenFile) (cs : List Conditional) → s.inside ≡ false → In (spec.file_ends_with s files cs)
  file_with s files [] i = goes_on _ i
  file_with s files (c ∷ cs) i = says s 205 c.first

  file_ends : (s : State) (files : List OpenFile) → s.inside ≡ false → In (spec.file_ends s files)
  file_ends s [] i = goes_on s i
  file_ends s (file ∷ files) i = file_with s files file.conditionals i

  next_file : (s : State) (path : Option (List ℕ)) → s.inside ≡ false → In (spec.next_file s path)
  next_file s None i = (refl, refl)
  next_file s (Some path) i = (refl, refl, refl, i)

  step_in : (s : State) (coming : List Coming) → s.inside ≡ false → In (spec.step_at set s coming)
  step_in s [] i = next_file s (slice_get set.files s.next) i
  step_in s (Raw t ∷ coming) i = raw (with_coming s coming) t i
  step_in s (Kept t ∷ coming) i = gives (with_coming s coming) t i
  step_in s (FileEnd ∷ coming) i = file_ends (with_coming s coming) s.files i
  step_in s (UseEnd name ∷ coming) i = goes_on _ i

  next_is : (s : State) (coming : List Coming) → s.inside ≡ false → next_in set s coming ≡ spec.step set s
  next_is s [] i = ap (λ (b : Bool). cond {A = Step} b (step.done s) (spec.step set s)) i
  next_is s (item ∷ coming) i = refl

  -- a move
  pub moves_tell : (s : State) (calls : List Call) (fs : List Frame) (text : List Coming) → Sound (machine s calls) fs text →
      Tells (opens s.delivered calls fs) (next set (inner s calls text)) (move set (machine s calls))
  moves_tell s [] [] text sound =
      let P : List Coming → Type 0 = λ x. Tells [] (next set (inner s [] x)) (move set (machine s [])) in
      let Q : Step → Type 0 = λ st. Tells [] st (move set (machine s [])) in
      subst P (sym sound.fits) (subst Q (sym (next_is s s.coming sound.inside)) (step_in s s.coming sound.inside))
  moves_tell s [] (f ∷ fs) text sound = absurd sound.fits
  moves_tell s (c ∷ cs) [] text sound = absurd sound.fits
  moves_tell s (c ∷ cs) (f ∷ fs) text sound = tells_all (opens s.delivered (c ∷ cs) (f ∷ fs)) (next set (inner s (c ∷ cs) text)) (move set (machine s (c ∷ cs))) (open_tells set told c cs f fs s text sound)
