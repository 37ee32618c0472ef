-- Keys whose names are looked up already.
use Rattle.std.specs.Prelude.{◌≡◌, ℕ, ⊤, List, [], ◌∷◌}
use Rattle.sv_tree.specs.Extents.{qualified_first}
use Rattle.sv_types.specs.declared.types.SvType.{SvType}
use Rattle.expr_type.specs.Names.{Context, thing}
use Rattle.expr_type.specs.Patterns.{fitted, named_key}
use Rattle.pattern_types.specs.declared.operand.ItemKey.{ItemKey}
use Rattle.pattern_types.specs.declared.operand.ItemKey.TheVariants as I
use Rattle.pattern_types.specs.Meaning.{Filled, Pattern, fitted_in, key_of_name, parts_of}

-- a name stands for what it finds in a context
abbrev pub IsFound : Context → ItemKey → Type 0
IsFound c I.InPlace = ⊤
IsFound c I.ByDefault = ⊤
IsFound c (I.Named of otherwise) = key_of_name c.source otherwise ≡ named_key c (qualified_first of) (thing c of)
IsFound c (I.Numbered n) = ⊤

abbrev pub AllFound : Context → List Filled → Type 0
AllFound c [] = ⊤
AllFound c (i ∷ is) = IsFound c i.key × AllFound c is

-- then a pattern is fitted as in that context
abbrev pub FittedAsFound : Type 0
FittedAsFound = (c : Context) (p : Pattern) (at : ℕ) (t : SvType) → AllFound c p.items → fitted_in c.source p at t ≡ fitted c p.tick (parts_of p) at t
