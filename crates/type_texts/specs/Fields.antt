-- A member of a type with unpacked dimensions, which are known.
use Rattle.std.specs.Prelude.{ℕ, Bool, ◌&&◌, List, Ok}
use Rattle.sv_types.specs.declared.types.SvType.{SvType}
use Rattle.expr_type.specs.KeywordTypes.{Dim, unpacked}
use Rattle.expr_type.specs.Names.{Source, position}
use Rattle.expr_type.specs.Shapes.{is_unpacked}
use Rattle.expr_type.specs.Types.{Field}
use Rattle.expr_type.specs.Typings.{Checked, refused}

abbrev pub field : Source → Bool → ℕ → List Dim → SvType → Checked Field
field k inside name ds t =
    let u = unpacked ds t in
    refused (inside && is_unpacked u) (position k name) 404 (Ok (record { at = name; of = u }))
