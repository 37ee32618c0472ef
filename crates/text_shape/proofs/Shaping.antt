-- The shape that the table gives is that of the top.
use Rattle.std.proofs.Common.{◌≡◌, ℕ, List, length, Option, Some, None, refl, ap, ◌∙◌}
use Rattle.v_tree.specs.Names.{Name}
use Rattle.v_tree.specs.Rules.{module_named, bits_below}
use Rattle.v_tree.specs.declared.items.VDesign.{VDesign}
use Rattle.v_tree.specs.declared.items.VModule.{VModule}
use Rattle.text_shape.specs.Shapes.{inputs, outputs, top_items, top_ports, shape_of, shape_if}
use Rattle.v_rules.specs.Tables.{no_numbers, numbers_from}
use Rattle.v_top_rules.specs.Sums.{at_module}
use Rattle.v_top_rules.proofs.Counting.{numbered_module}
use Rattle.text_shape.proofs.Listing.{inputs-are, outputs-are}

with-table : (m : Option VModule) (bits : ℕ) → shape_if m bits ≡ record { inputs = inputs (top_items m) (top_ports m); outputs = outputs (top_items m) (top_ports m); bits = bits }
with-table None bits = refl
with-table (Some m) bits = λ i. record { inputs = inputs-are m.items m.ports i; outputs = outputs-are m.items m.ports i; bits = bits }

pub shape_is : (e : VDesign) (top : Name) → shape_if (module_named e.modules top) (bits_below (length e.modules) e.modules top) ≡ shape_of e top
shape_is e top = with-table (module_named e.modules top) (bits_below (length e.modules) e.modules top)

-- the module with the number of its name
pub found-module : (ms : List VModule) (name : Name) (o : Option ℕ) → o ≡ numbers_from 0 ms no_numbers name → at_module ms o ≡ module_named ms name
found-module ms name o e = ap (at_module ms) e ∙ numbered_module ms name
