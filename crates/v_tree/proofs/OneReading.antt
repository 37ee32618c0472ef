-- A text reads as one design at most.
use Rattle.std.proofs.Common.{◌≡◌, ℕ, List, [], map, sym, ap, ◌∙◌}
use Rattle.ll_engine.proofs.One.{one_reading}
use Rattle.v_tree.specs.declared.items.VDesign.{VDesign}
use Rattle.v_tree.specs.declared.items.VModule.{VModule}
use Rattle.v_tree.specs.declared.parts.VPart.{VPart}
use Rattle.v_tree.specs.declared.parts.VPart.TheVariants as P
use Rattle.v_tree.specs.Tokens.{tokens}
use Rattle.v_tree.specs.Symbols.{symbol}
use Rattle.v_tree.specs.Table.{table}
use Rattle.v_tree.specs.Meaning.{part_of}
use Rattle.v_tree.specs.Reading.{VReads, nesting_limit}
use Rattle.v_tree.proofs.Fitness.{table-fits}

abbrev modules_of : VPart → List VModule
modules_of (P.Text ms) = ms
modules_of p = []

abbrev design : List VModule → VDesign
design ms = record { modules = ms }

pub one_design : (bytes : List ℕ) (e f : VDesign) → VReads bytes e → VReads bytes f → e ≡ f
one_design bytes e f a b =
    ap (λ p. design (modules_of p))
    (sym a.spells.means
    ∙ ap (part_of (tokens bytes)) (one_reading table table-fits (map symbol (tokens bytes)) nesting_limit nesting_limit a.spells.tree b.spells.tree a.spells.reading b.spells.reading)
    ∙ b.spells.means)
