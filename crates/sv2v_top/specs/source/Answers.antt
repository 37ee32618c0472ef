-- What elaboration answers.
use Rattle.std.specs.Prelude.{◌≡◌, ◌++◌, ℕ, Bool, true, false, List, Option, Some, None, Result, Ok, Err, codes}
use Rattle.std.specs.Option.{option_or, option_map}
use Rattle.sv_source.specs.declared.token.Spot.{Spot}
use Rattle.sv_source.specs.declared.refusal.Refusal.{Refusal}
use Rattle.sv_source.specs.declared.refusal.Fail.{Fail}
use Rattle.sv_source.specs.declared.refusal.Fail.TheVariants.{Memory, Refused}
use Rattle.sv2v_top.specs.declared.uses.Use.{Use}
use Rattle.v_tree.specs.Names.{among}
use Rattle.sv2v_top.specs.source.Statements.{targets}
use Rattle.sv_tree.specs.declared.units.SourceTree.{SourceTree}
use Rattle.built_forms.specs.Built.{built}
use Rattle.built_forms.specs.declared.forms.Item.{Item}
use Rattle.built_forms.specs.declared.forms.Module.{Module}
use Rattle.sv_core.specs.declared.design.Design as Core
use Rattle.sv_types.specs.declared.design.Design.{Design}
use Rattle.core_forms.specs.Typed.{typed}
use Rattle.sv2v_top.specs.source.Names.{first_undeclared, signal_names}
use Rattle.sv2v_top.specs.source.Lookup.{Numbers}
use Rattle.sv2v_top.specs.declared.name_table.Names.{Names}
use Rattle.sv2v_top.specs.source.Rules.{writes_break, always_written, target_words, is_top, elaborates, first_process_break, is_built}
use Rattle.sv2v_top.specs.source.Elaboration.{design_of}
use Rattle.package_scope.specs.Answers.{names_refusal}

-- E401 at the name
abbrev pub undeclared_refusal : Spot → Refusal
undeclared_refusal s = record { rule = 401; place = s.place; word = s.word }

-- E999 at the head of the first file: something isn't built yet
abbrev pub stage_refusal : Refusal
stage_refusal = record { rule = 999; place = record { file = 0; line = 1; col = 1 }; word = codes "stage" }

-- E408 at the head of the first file: the top isn't there
abbrev pub absent_refusal : List ℕ → Refusal
absent_refusal top = record { rule = 408; place = record { file = 0; line = 1; col = 1 }; word = top }

-- The refusal of a module. The first name that isn't declared comes first, and then whether the module is the top. Where it
-- doesn't elaborate, the rule that it breaks isn't built. Then come the rules on processes, and last what isn't built.
abbrev pub unless_built : Bool → Option Refusal
unless_built true = None
unless_built false = Some stage_refusal

abbrev pub refusal_if_elaborates : Bool → Option Refusal → Bool → Option Refusal
refusal_if_elaborates false process_break built = Some stage_refusal
refusal_if_elaborates true process_break built = option_or process_break (unless_built built)

abbrev pub refusal_if_top : Bool → List ℕ → Option Refusal → Option Refusal
refusal_if_top false top rest = Some (absent_refusal top)
refusal_if_top true top rest = rest

abbrev pub refusal_or : Option Use → Option Refusal → Option Refusal
refusal_or (Some u) rest = Some (undeclared_refusal u.name)
refusal_or None rest = rest

abbrev pub refusal_of : Module → List ℕ → Option Refusal
refusal_of m top =
    refusal_or (first_undeclared m) (refusal_if_top (is_top m top) top (refusal_if_elaborates (elaborates m) (first_process_break m) (is_built m)))

-- The refusal of a source text that reads: a name of it breaks a rule, it uses a form that isn't built, it has no module, or
-- its module is refused.
abbrev pub refusal_by : Option (Option Module) → List ℕ → Option Refusal
refusal_by None top = Some stage_refusal
refusal_by (Some None) top = Some (absent_refusal top)
refusal_by (Some (Some m)) top = refusal_of m top

abbrev pub tree_refusal : SourceTree → List ℕ → Option Refusal
tree_refusal tree top = option_or (names_refusal tree) (refusal_by (built tree) top)

-- A tree that is refused nothing has a module, which elaborates to this design: its forms by their names, with their types.
pub record Elaborated (tree : SourceTree) (top : List ℕ) (d : Design) : Type 0 where
  pub names : names_refusal tree ≡ None
  pub source : Module
  pub builds : built tree ≡ Some (Some source)
  pub unbroken : refusal_of source top ≡ None
  pub is : d ≡ typed (design_of source)

-- no rule on names is broken, or the first break
abbrev pub NamesGive : SourceTree → Result (Unit {0}) Fail → Type 0
NamesGive tree (Ok u) = names_refusal tree ≡ None
NamesGive tree (Err Memory) = Unit {0}
NamesGive tree (Err (Refused r)) = names_refusal tree ≡ Some r

-- the design where nothing is refused, else the refusal
abbrev pub TreeGives : SourceTree → List ℕ → Result Design Fail → Type 0
TreeGives tree top (Ok d) = Elaborated tree top d
TreeGives tree top (Err Memory) = Unit {0}
TreeGives tree top (Err (Refused r)) = tree_refusal tree top ≡ Some r

-- the same of a module
abbrev pub ModuleGives : Module → List ℕ → Result Design Fail → Type 0
ModuleGives m top (Ok d) = (refusal_of m top ≡ None) × (d ≡ typed (design_of m))
ModuleGives m top (Err Memory) = Unit {0}
ModuleGives m top (Err (Refused r)) = refusal_of m top ≡ Some r

-- and of its forms by their names, without types
abbrev pub ElaborationGives : Module → List ℕ → Result Core.Design Fail → Type 0
ElaborationGives m top (Ok d) = (refusal_of m top ≡ None) × (d ≡ design_of m)
ElaborationGives m top (Err Memory) = Unit {0}
ElaborationGives m top (Err (Refused r)) = refusal_of m top ≡ Some r

-- the names of the signals, or the refusal of a name that isn't declared
abbrev pub UndeclaredGives : Module → Result Names Refusal → Type 0
UndeclaredGives m (Ok names) = (first_undeclared m ≡ None) × Numbers names (signal_names m)
UndeclaredGives m (Err r) = option_map (λ (u : Use). undeclared_refusal u.name) (first_undeclared m) ≡ Some r

-- the first break of an item behind those that write these names, and the names that are written then
pub record BreaksAfter (written : List (List ℕ)) (i : Item) (r : Option Refusal) (table : Names) : Type 0 where
  pub first : r ≡ writes_break (among written) (among (always_written i)) (targets i)
  pub table_is : Numbers table (written ++ target_words i)
