-- Agreement of a source design and a target design.
use Rattle.std.specs.Prelude.{◌≡◌, ℕ, List, slice_get, Some}
use Rattle.std.specs.List.{AllZip}
use Rattle.b4_core.specs.declared.bit.Bit4.{Bit4}
use Rattle.row_machine.specs.Valuation.{Valuation}
use Rattle.row_machine.specs.Places.{vector_at}
use Rattle.sv_core.specs.declared.design.Signal.{Signal}
use Rattle.sv_core.specs.declared.design.Design.{Design}
use Rattle.v_tree.specs.Names.{Name}
use Rattle.v_tree.specs.declared.items.VDesign.{VDesign}
use Rattle.v_meaning.specs.Scopes.{Named, named, all_bits}
use Rattle.v_meaning.specs.Modules.{signals, numbered, items_of}

-- what a declared name holds
abbrev pub held : Valuation → Named → List Bit4
held u n = vector_at u n.number (all_bits n)

-- a name of the top
abbrev pub of_top : VDesign → Name → Name → Named
of_top e top name = named (numbered 0 (signals (items_of e.modules top))) name

-- Two valuations agree if each signal of the source holds what the signal of its printed name holds in the target.
abbrev pub Agree : Design → VDesign → Valuation → Valuation → Type 0
Agree d e v u =
    (n : ℕ) (s : Signal) → slice_get d.signals n ≡ Some s
    → vector_at v n s.width ≡ held u (of_top e d.top s.path)

-- Two traces agree if they do so after each row.
abbrev pub TracesAgree : Design → VDesign → List Valuation → List Valuation → Type 0
TracesAgree d e vs us = AllZip (Agree d e) vs us
