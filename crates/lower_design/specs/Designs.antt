-- What is lowered of an elaborated design, by way of its core form.
use Rattle.std.specs.Prelude.{◌≡◌, ℕ, true, List, slice_get, Some}
use Rattle.std.specs.List.{AllZip}
use Rattle.row_machine.specs.Valuation.{Valuation}
use Rattle.row_machine.specs.Places.{vector_at}
use Rattle.row_machine.specs.Machine.{Started}
use Rattle.row_machine.specs.Settle.{Settled}
use Rattle.row_machine.specs.Trace.{HasTrace, OneTrace}
use Rattle.row_machine.specs.Rounds.{Reaches}
use Rattle.sv_types.specs.declared.design.Signal.{Signal}
use Rattle.sv_types.specs.declared.design.Design.{Design}
use Rattle.sv_types.specs.Layouts.{width_of}
use Rattle.sv_types.specs.Machine as Source
use Rattle.sv_core.specs.declared.design.Design as Core
use Rattle.core_forms.specs.Forms.{top_of, core_of}
use Rattle.core_forms.specs.Typed.{typed}
use Rattle.core_forms.specs.Typing.{IsPlain}
use Rattle.v_tree.specs.declared.items.VDesign.{VDesign}
use Rattle.v_tree.specs.Grammatical.{is_of_grammar}
use Rattle.v_tree.specs.Rules.{Keeps, FitsTop}
use Rattle.v_meaning.specs.Machine as Target
use Rattle.lower_design.specs.Agreement.{held, of_top}
use Rattle.lower_design.specs.Shape.{Shape}
use Rattle.lower_design.specs.Translatable.{Translatable}

-- A design that is translated: it has one instance, its types are vectors of four-state bits, and its core form is translated.
pub record IsTranslatable (d : Design) : Type 0 where
  pub plain : IsPlain d
  pub core : Core.Design
  pub is_core : core_of d ≡ Some core
  pub fits : Translatable core

-- Two valuations agree if each signal of the source holds what the signal of its printed name holds in the target.
abbrev pub DesignsAgree : Design → VDesign → Valuation → Valuation → Type 0
DesignsAgree d e v u =
    (n : ℕ) (s : Signal) → slice_get d.signals n ≡ Some s
    → vector_at v n (width_of s.of) ≡ held u (of_top e (top_of d.instances) s.path)

-- Two traces agree if they do so after each row.
abbrev pub DesignTracesAgree : Design → VDesign → List Valuation → List Valuation → Type 0
DesignTracesAgree d e vs us = AllZip (DesignsAgree d e) vs us

-- The target design is right for the source design.
pub record LowersDesign (d : Design) (e : VDesign) : Type 0 where
  -- it is a tree of the target grammar, keeps the rules that need no top, and fits the top
  pub of_grammar : is_of_grammar e ≡ true
  pub keeps : Keeps e
  pub fits_top : FitsTop e (top_of d.instances)
  -- it has the source's shape, which is that of its core form
  pub core : Core.Design
  pub is_core : core_of d ≡ Some core
  pub shape : Shape core e
  -- any rows have exactly one trace on each side
  pub source_trace : (rows : List Valuation) → OneTrace (Source.machine d) rows
  pub target_trace : (rows : List Valuation) → OneTrace (Target.machine e (top_of d.instances)) rows
  -- and these agree after each row, in every signal
  pub forward : (rows vs : List Valuation) → HasTrace (Source.machine d) rows vs
      → (us : List Valuation) × HasTrace (Target.machine e (top_of d.instances)) rows us × DesignTracesAgree d e vs us
  pub back : (rows us : List Valuation) → HasTrace (Target.machine e (top_of d.instances)) rows us
      → (vs : List Valuation) × HasTrace (Source.machine d) rows vs × DesignTracesAgree d e vs us
  -- in each settling of the target the rounds reach the settled valuation
  pub rounds : (s : Started) (base v : Valuation) → Settled (Target.machine e (top_of d.instances)) s base v → Reaches (Target.machine e (top_of d.instances)) s base v

-- A core design that is translated is so with its types too.
abbrev pub TypedIsTranslatable : Type 0
TypedIsTranslatable = (d : Core.Design) → Translatable d → IsTranslatable (typed d)
