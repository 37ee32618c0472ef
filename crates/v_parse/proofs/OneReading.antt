-- A text has one reading at most.
use Rattle.std.proofs.Common.{◌≡◌, ℕ, List, [], map, sym, ap, ◌∙◌}
use Rattle.ll_engine.specs.Texts.{OneAnswer}
use Rattle.ll_engine.proofs.Laws.{one_answer}
use Rattle.v_tree.specs.declared.items.VDesign.{VDesign}
use Rattle.v_tree.specs.declared.items.VModule.{VModule}
use Rattle.v_tree.specs.declared.parts.VPart.{VPart}
use Rattle.v_tree.specs.declared.parts.VPart.TheVariants as P
use Rattle.v_tree.specs.Tokens.{tokens}
use Rattle.v_tree.specs.Symbols.{symbol}
use Rattle.v_tree.specs.Table.{table}
use Rattle.v_tree.specs.Meaning.{part_of}
use Rattle.v_tree.specs.Reading.{Spells, nesting_limit}
use Rattle.v_tree.proofs.Fitness.{table-fits}
use Rattle.v_parse.specs.Parsing.{OneReading}

modules_in : VPart → List VModule
modules_in (P.Text ms) = ms
modules_in p = []

a-design : List VModule → VDesign
a-design ms = record { modules = ms }

answer : (bytes : List ℕ) → OneAnswer table (map symbol (tokens bytes)) nesting_limit
answer bytes = one_answer table table-fits (map symbol (tokens bytes)) nesting_limit

one-design : (bytes : List ℕ) (e f : VDesign) → Spells bytes e → Spells bytes f → e ≡ f
unfolding a-design modules_in
one-design bytes e f a b =
    ap (λ p. a-design (modules_in p))
    (sym a.means ∙ ap (part_of (tokens bytes)) ((answer bytes).reading a.tree b.tree a.reading b.reading) ∙ b.means)

pub one_reading : (bytes : List ℕ) → OneReading bytes
one_reading bytes = record {
  design = one-design bytes;
  fails = (answer bytes).fails;
  nests = (answer bytes).passes;
  spells_or_fails = λ e i a f. (answer bytes).reads_or_fails a.tree i a.reading f;
  spells_or_nests = λ e i a p. (answer bytes).reads_or_passes a.tree i a.reading p;
  fails_or_nests = (answer bytes).fails_or_passes;
}
