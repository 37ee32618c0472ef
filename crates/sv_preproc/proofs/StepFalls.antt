-- Each step leaves less to do: directives, ends and files.
use Rattle.std.proofs.Common.{◌≡◌, ℕ, zero, suc, ◌+◌, ◌-◌, ◌^◌, ◌<◌, ◌≤◌, Bool, true, false, List, [], ◌∷◌, length, drop, map, Option, Some, None, slice_get, refl, ap, arith, length-append}
use Rattle.sv_source.specs.declared.token.Kind.{Kind}
use Rattle.sv_source.specs.declared.token.Kind.TheVariants as K
use Rattle.sv_source.specs.declared.token.Token.{Token}
use Rattle.sv_macro.specs.Tokens.{is_string, said_by}
use Rattle.sv_macro.specs.Definitions.{ends_line, behind_line, line_of, defining}
use Rattle.sv_macro.specs.Lines.{raw_token, first_by}
use Rattle.sv_preproc.specs.States.{State, breaks, with_coming, next_raw, next_name, behind_next}
use Rattle.sv_lexer.specs.Lexing.{tokens_of}
use Rattle.sv_macro.specs.Including.{Held}
use Rattle.sv_preproc.specs.Searches.{room_left, opened}
use Rattle.sv_macro.specs.Shapes as lined
use Rattle.sv_preproc.specs.Branches as branches
use Rattle.sv_preproc.specs.Expansion as spec
use Rattle.sv_preproc.specs.declared.settings.Settings.{Settings}
use Rattle.sv_macro.specs.declared.words.Condition.{Condition}
use Rattle.sv_macro.specs.declared.words.Condition.TheVariants.{Ifdef, Ifndef, Elsif, Else, Endif}
use Rattle.sv_macro.specs.declared.words.Word.{Word}
use Rattle.sv_macro.specs.declared.words.Word.TheVariants as W
use Rattle.sv_macro.specs.declared.definition.Defining.{Defining}
use Rattle.sv_macro.specs.declared.definition.Defining.TheVariants.{Defines, BreaksAt, BreaksList, IllFormed}
use Rattle.sv_macro.specs.declared.shapes.Shape.{Shape}
use Rattle.sv_macro.specs.declared.coming.Coming.{Coming}
use Rattle.sv_macro.specs.declared.coming.Coming.TheVariants.{Raw, Kept, FileEnd, UseEnd}
use Rattle.sv_preproc.specs.declared.state.Branch.{Branch}
use Rattle.sv_preproc.specs.declared.state.Conditional.{Conditional}
use Rattle.sv_preproc.specs.declared.state.OpenFile.{OpenFile}
use Rattle.sv_preproc.specs.Left.{weight, most_weight}
use Rattle.sv_preproc.proofs.Weights.{Within, Behind, Waits, Falls, by_test, settled, shorter, next_falls, drop_one}
use Rattle.sv_preproc.proofs.Falls.{next_within, use_begins_falls}

-- with the same counts, and no more to come
pub rests : (count c w : ℕ) (s : State) → Within count c w s → Behind count c w s
rests count c w s i = settled count c w s s i (omega arith) i.spent i.loaded (omega arith) (omega arith)

-- conditionals
begins_falls : (count c w : ℕ) (s : State) (file : OpenFile) (files : List OpenFile) (t : Token) (b : Branch) → Within count c w s → Falls count c w (branches.conditional_begins s file files t b)
begins_falls count c w s file files t b i = settled count c w s _ i (omega arith) i.spent i.loaded (omega arith) (omega arith)

named_falls : (count c w : ℕ) (s : State) (file : OpenFile) (files : List OpenFile) (t : Token) (wanted : Bool) (name : Option (List ℕ)) → Within count c w s → Falls count c w (branches.if_named s file files t wanted name)
named_falls count c w s file files t wanted None i = tt
named_falls count c w s file files t wanted (Some name) i = begins_falls count c w s file files t _ i

if_falls : (count c w : ℕ) (s : State) (file : OpenFile) (files : List OpenFile) (t : Token) (wanted : Bool) → Within count c w s → Falls count c w (branches.if_begins s file files t wanted)
if_falls count c w s file files t wanted i = named_falls count c w (behind_next s) file files t wanted (next_name s) (next_within count c w s i)

branch_falls : (count c w : ℕ) (s : State) (file : OpenFile) (files : List OpenFile) (d : Conditional) (ds : List Conditional) (b : Branch) (last : Bool) → Within count c w s → Falls count c w (branches.branch_begins s file files d ds b last)
branch_falls count c w s file files d ds b last i = settled count c w s _ i (omega arith) i.spent i.loaded (omega arith) (omega arith)

elsif_falls : (count c w : ℕ) (s : State) (file : OpenFile) (files : List OpenFile) (ds : List Conditional) (t : Token) (name : List ℕ) → Within count c w s → Falls count c w (branches.elsif_in s file files ds t name)
elsif_falls count c w s file files [] t name i = tt
elsif_falls count c w s file files (d ∷ ds) t name i = by_test count c w d.last _ _ (λ _. tt) (λ _. branch_falls count c w s file files d ds _ false i)

elsif_named_falls : (count c w : ℕ) (s : State) (file : OpenFile) (files : List OpenFile) (t : Token) (name : Option (List ℕ)) → Within count c w s → Falls count c w (branches.elsif_named s file files t name)
elsif_named_falls count c w s file files t None i = tt
elsif_named_falls count c w s file files t (Some name) i = elsif_falls count c w s file files file.conditionals t name i

else_falls : (count c w : ℕ) (s : State) (file : OpenFile) (files : List OpenFile) (ds : List Conditional) (t : Token) → Within count c w s → Falls count c w (branches.else_in s file files ds t)
else_falls count c w s file files [] t i = tt
else_falls count c w s file files (d ∷ ds) t i = by_test count c w d.last _ _ (λ _. tt) (λ _. branch_falls count c w s file files d ds _ true i)

endif_falls : (count c w : ℕ) (s : State) (file : OpenFile) (files : List OpenFile) (ds : List Conditional) (t : Token) → Within count c w s → Falls count c w (branches.endif_in s file files ds t)
endif_falls count c w s file files [] t i = tt
endif_falls count c w s file files (d ∷ ds) t i = settled count c w s _ i (omega arith) i.spent i.loaded (omega arith) (omega arith)

branching_falls : (count c w : ℕ) (s : State) (file : OpenFile) (files : List OpenFile) (t : Token) (word : Condition) → Within count c w s → Falls count c w (branches.branching s file files t word)
branching_falls count c w s file files t Ifdef i = if_falls count c w s file files t true i
branching_falls count c w s file files t Ifndef i = if_falls count c w s file files t false i
branching_falls count c w s file files t Elsif i = elsif_named_falls count c w (behind_next s) file files t (next_name s) (next_within count c w s i)
branching_falls count c w s file files t Else i = else_falls count c w s file files file.conditionals t i
branching_falls count c w s file files t Endif i = endif_falls count c w s file files file.conditionals t i

in_files_falls : (count c w : ℕ) (s : State) (files : List OpenFile) (t : Token) (word : Condition) → Within count c w s → Falls count c w (branches.branching_in s files t word)
in_files_falls count c w s [] t word i = tt
in_files_falls count c w s (file ∷ files) t word i = branching_falls count c w s file files t word i

branches_falls : (count c w : ℕ) (s : State) (t : Token) (word : Condition) → Within count c w s → Falls count c w (branches.branches s t word)
branches_falls count c w s t word i = in_files_falls count c w s s.files t word i

-- definitions
line_falls : (coming : List Coming) → length (behind_line coming) ≤ length coming
line_falls [] = omega arith
line_falls (item ∷ coming) = by_end (ends_line item) item coming (behind_line coming) (line_falls coming)
  where
    by_end : (b : Bool) (item : Coming) (coming rest : List Coming) → length rest ≤ length coming → length (elim b as (λ _. List Coming) [ true ↦ item ∷ coming | false ↦ rest ]) ≤ length (item ∷ coming)
    by_end true item coming rest l = omega arith
    by_end false item coming rest l = omega arith

definition_falls : (count c w : ℕ) (s : State) (t : Token) (d : Defining) → Within count c w s → Falls count c w (spec.definition s t d)
definition_falls count c w s t (Defines name m) i = settled count c w s _ i (omega arith) i.spent i.loaded (omega arith) (omega arith)
definition_falls count c w s t (BreaksAt rule u) i = tt
definition_falls count c w s t BreaksList i = tt
definition_falls count c w s t IllFormed i = tt

define_falls : (count c w : ℕ) (s : State) (t : Token) → Within count c w s → Falls count c w (spec.define s t)
define_falls count c w s t i = definition_falls count c w (with_coming s (behind_line s.coming)) t (defining (line_of s.coming))
    (record { spent = i.spent; loaded = i.loaded; less = omega (arith, i.less, line_falls s.coming); uses = i.uses; names = i.names })

undefined_falls : (count c w : ℕ) (s : State) (t : Token) (name : Option (List ℕ)) → Within count c w s → Falls count c w (spec.undefine_named s t name)
undefined_falls count c w s t None i = tt
undefined_falls count c w s t (Some name) i = settled count c w s _ i (omega arith) i.spent i.loaded (omega arith) (omega arith)

-- files
search_falls : (count c w : ℕ) (set : Settings) (s : State) (t string : Token) (files : List OpenFile) → Waits count c w s → Falls count c w (spec.include_in set s t string files)
search_falls count c w set s t string [] i = tt
search_falls count c w set s t string (file ∷ files) i = i

string_falls : (count c w : ℕ) (set : Settings) (s : State) (t : Token) (next : Option Token) → ((u : Token) → next ≡ Some u → Waits count c w s) → Falls count c w (spec.include_from set s t next)
string_falls count c w set s t None i = tt
string_falls count c w set s t (Some u) i = by_test count c w (is_string u) _ _ (λ _. search_falls count c w set s t u s.files (i u refl)) (λ _. tt)

include_falls : (count c w : ℕ) (set : Settings) (s : State) (t : Token) → Within count c w s → Falls count c w (spec.include set s t)
include_falls count c w set s t i = string_falls count c w set (behind_next s) t (next_raw s) (λ u e. record {
  spent = i.spent;
  loaded = i.loaded;
  less = omega (arith, i.less, next_falls raw_token s.coming u e);
  uses = i.uses;
  names = i.names;
})

-- what is dropped
joints_fall : (coming : List Coming) → length (lined.behind_joints coming) ≤ length coming
joints_fall [] = omega arith
joints_fall (item ∷ coming) = shorter (lined.is_joint item) item coming (lined.behind_joints coming) (joints_fall coming)

some_none : {A : Type 0} (x : A) → None ≡ Some x → ⊥
some_none x e = cc

shapes_fall : (shapes : List Shape) (coming rest : List Coming) → lined.behind_shapes shapes coming ≡ Some rest → length rest ≤ length coming
shapes_fall [] coming rest e = (let same : coming ≡ rest = cc in omega (arith, ap length same))
shapes_fall (shape ∷ shapes) coming rest e =
    by_fit (lined.first_fits shape (first_by raw_token (lined.behind_joints coming))) coming rest (drop 1 (lined.behind_joints coming)) (lined.behind_shapes shapes (drop 1 (lined.behind_joints coming)))
    (omega (arith, drop_one (lined.behind_joints coming), joints_fall coming)) (λ f. shapes_fall shapes (drop 1 (lined.behind_joints coming)) rest f) e
  where
    by_fit : (b : Bool) (coming rest next : List Coming) (o : Option (List Coming)) → length next ≤ length coming → (o ≡ Some rest → length rest ≤ length next) →
        (elim b as (λ _. Option (List Coming)) [ true ↦ o | false ↦ None ]) ≡ Some rest → length rest ≤ length coming
    by_fit true coming rest next o l more e = omega (arith, l, more e)
    by_fit false coming rest next o l more e = absurd (let no : None ≡ Some rest = e in cc)

dropped_falls : (count c w : ℕ) (s : State) (t : Token) (rest : Option (List Coming)) → Within count c w s → ((coming : List Coming) → rest ≡ Some coming → length coming ≤ length s.coming) → Falls count c w (spec.dropped s t rest)
dropped_falls count c w s t None i less = tt
dropped_falls count c w s t (Some coming) i less = settled count c w s _ i (omega (arith, less coming refl)) i.spent i.loaded (omega arith) (omega arith)

dropped_with_falls : (count c w : ℕ) (s : State) (t : Token) (shapes : List Shape) → Within count c w s → Falls count c w (spec.dropped_with s t shapes)
dropped_with_falls count c w s t shapes i = dropped_falls count c w s t (lined.behind_shapes shapes s.coming) i (λ coming e. shapes_fall shapes s.coming coming e)

-- directives
obeyed_falls : (count c w : ℕ) (set : Settings) (s : State) (t : Token) (word : Word) → Within count c w s → Falls count c w (spec.obeyed set s t word)
obeyed_falls count c w set s t (W.Branch word) i = branches_falls count c w s t word i
obeyed_falls count c w set s t W.Define i = define_falls count c w s t i
obeyed_falls count c w set s t W.Undef i = undefined_falls count c w (behind_next s) t (next_name s) (next_within count c w s i)
obeyed_falls count c w set s t W.Include i = include_falls count c w set s t i
obeyed_falls count c w set s t W.Alone i = rests count c w s i
obeyed_falls count c w set s t W.NetType i = dropped_with_falls count c w s t spec.net_type_shapes i
obeyed_falls count c w set s t W.Timescale i = dropped_with_falls count c w s t spec.timescale_shapes i
obeyed_falls count c w set s t W.Unsupported i = tt
obeyed_falls count c w set s t W.Use i = use_begins_falls count c w s t i

in_file_falls : (count c w : ℕ) (set : Settings) (s : State) (t : Token) (word : Word) → Within count c w s → Falls count c w (elim (spec.in_file s) [ true ↦ spec.obeyed set s t word | false ↦ breaks (record { rule = 201; place = t.place; word = t.text }) s.names ])
in_file_falls count c w set s t word i = by_test count c w (spec.in_file s) _ _ (λ _. obeyed_falls count c w set s t word i) (λ _. tt)

directive_falls : (count c w : ℕ) (set : Settings) (s : State) (t : Token) (word : Word) → Within count c w s → Falls count c w (spec.directive set s t word)
directive_falls count c w set s t W.Use i = use_begins_falls count c w s t i
directive_falls count c w set s t (W.Branch word) i = in_file_falls count c w set s t (W.Branch word) i
directive_falls count c w set s t W.Define i = in_file_falls count c w set s t W.Define i
directive_falls count c w set s t W.Undef i = in_file_falls count c w set s t W.Undef i
directive_falls count c w set s t W.Include i = in_file_falls count c w set s t W.Include i
directive_falls count c w set s t W.Alone i = in_file_falls count c w set s t W.Alone i
directive_falls count c w set s t W.NetType i = in_file_falls count c w set s t W.NetType i
directive_falls count c w set s t W.Timescale i = in_file_falls count c w set s t W.Timescale i
directive_falls count c w set s t W.Unsupported i = in_file_falls count c w set s t W.Unsupported i

-- tokens
skipped_word_falls : (count c w : ℕ) (s : State) (t : Token) (word : Word) → Within count c w s → Falls count c w (spec.skipped_word s t word)
skipped_word_falls count c w s t (W.Branch word) i = branches_falls count c w s t word i
skipped_word_falls count c w s t _ i = rests count c w s i

skipped_falls : (count c w : ℕ) (s : State) (t : Token) (kind : Kind) → Within count c w s → Falls count c w (spec.skipped s t kind)
skipped_falls count c w s t K.Directive i = skipped_word_falls count c w s t (said_by t) i
skipped_falls count c w s t K.Cut i = tt
skipped_falls count c w s t _ i = rests count c w s i

taken_falls : (count c w : ℕ) (set : Settings) (s : State) (t : Token) (kind : Kind) → Within count c w s → Falls count c w (spec.taken set s t kind)
taken_falls count c w set s t K.Directive i = directive_falls count c w set s t (said_by t) i
taken_falls count c w set s t K.Cut i = tt
taken_falls count c w set s t K.Quote i = tt
taken_falls count c w set s t K.Line i = rests count c w s i
taken_falls count c w set s t K.Continued i = rests count c w s i
taken_falls count c w set s t _ i = i

raw_falls : (count c w : ℕ) (set : Settings) (s : State) (t : Token) → Within count c w s → Falls count c w (spec.raw set s t)
raw_falls count c w set s t i = by_test count c w (branches.skips s.files) _ _ (λ _. skipped_falls count c w s t t.kind i) (λ _. taken_falls count c w set s t t.kind i)

-- ends
file_with_falls : (count c w : ℕ) (s : State) (files : List OpenFile) (cs : List Conditional) → Within count c w s → Falls count c w (spec.file_ends_with s files cs)
file_with_falls count c w s files [] i = settled count c w s _ i (omega arith) i.spent i.loaded (omega arith) (omega arith)
file_with_falls count c w s files (d ∷ ds) i = tt

file_falls : (count c w : ℕ) (s : State) (files : List OpenFile) → Within count c w s → Falls count c w (spec.file_ends s files)
file_falls count c w s [] i = rests count c w s i
file_falls count c w s (file ∷ files) i = file_with_falls count c w s files file.conditionals i

body_ends_falls : (count c w : ℕ) (s : State) (name : List ℕ) → Within count c w s → Falls count c w (spec.body_ends s name)
body_ends_falls count c w s name i = settled count c w s _ i (omega arith) i.spent i.loaded (omega arith) (omega arith)

-- from a state that has this weight, with so many calls
pub record From (count c w : ℕ) (s : State) : Type 0 where
  pub spent : s.spent ≤ 2 ^ 22
  pub loaded : s.loaded ≤ 2 ^ 26
  pub is : weight count s + c ≡ w
  pub uses : s.uses + w ≤ most_weight
  pub names : length s.names + w ≤ most_weight

one_less : (count c w : ℕ) (s : State) (item : Coming) (rest : List Coming) → s.coming ≡ item ∷ rest → From count c w s → Within count c w (with_coming s rest)
one_less count c w s item rest e r = record { spent = r.spent; loaded = r.loaded; less = omega (arith, ap length e, r.is); uses = r.uses; names = r.names }

get_within : (paths : List (List ℕ)) (n : ℕ) (path : List ℕ) → slice_get paths n ≡ Some path → n < length paths
get_within [] n path e = absurd (let no : None ≡ Some path = e in cc)
get_within (p ∷ ps) zero path e = omega arith
get_within (p ∷ ps) (suc n) path e = omega (arith, get_within ps n path e)

next_file_falls : (c w : ℕ) (set : Settings) (s : State) (path : Option (List ℕ)) → From (length set.files) c w s → slice_get set.files s.next ≡ path → Falls (length set.files) c w (spec.next_file s path)
next_file_falls c w set s None r e = tt
next_file_falls c w set s (Some path) r e =
    let within : s.next < length set.files = get_within set.files s.next path e in
    record { spent = r.spent; loaded = r.loaded; less = omega (arith, r.is); uses = r.uses; names = r.names }

at_falls : (c w : ℕ) (set : Settings) (s : State) (coming : List Coming) → s.coming ≡ coming → From (length set.files) c w s → Falls (length set.files) c w (spec.step_at set s coming)
at_falls c w set s [] e r = next_file_falls c w set s (slice_get set.files s.next) r refl
at_falls c w set s (Raw t ∷ rest) e r = raw_falls (length set.files) c w set (with_coming s rest) t (one_less (length set.files) c w s (Raw t) rest e r)
at_falls c w set s (Kept t ∷ rest) e r = one_less (length set.files) c w s (Kept t) rest e r
at_falls c w set s (FileEnd ∷ rest) e r = file_falls (length set.files) c w (with_coming s rest) s.files (one_less (length set.files) c w s FileEnd rest e r)
at_falls c w set s (UseEnd name ∷ rest) e r = body_ends_falls (length set.files) c w (with_coming s rest) name (one_less (length set.files) c w s (UseEnd name) rest e r)

pub step_falls : (c w : ℕ) (set : Settings) (s : State) → From (length set.files) c w s → Falls (length set.files) c w (spec.step set s)
step_falls c w set s r = at_falls c w set s s.coming refl r

-- a file is opened
mapped_length : (tokens : List Token) → length (map Raw tokens) ≡ length tokens
mapped_length [] = refl
mapped_length (t ∷ ts) = ap suc (mapped_length ts)

pub opened_falls : (count c w : ℕ) (top : Bool) (s : State) (held : Held) → length (tokens_of (length s.names) held.bytes) ≤ length held.bytes → length held.bytes ≤ room_left s → Waits count c w s → Behind count c w (opened top s held)
opened_falls count c w top s held few fits i =
    let tokens = mapped_length (tokens_of (length s.names) held.bytes) in
    let all = length-append (map Raw (tokens_of (length s.names) held.bytes)) (FileEnd ∷ s.coming) in
    let names = length-append s.names (held.path ∷ []) in
    let room : length held.bytes ≤ 2 ^ 26 - s.loaded = omega arith in
    record {
      spent = i.spent;
      loaded = omega (arith, i.loaded);
      less = omega (arith, i.less, i.loaded);
      uses = omega (arith, i.less, i.uses, i.loaded);
      names = omega (arith, i.less, i.names, i.loaded);
    }
