-- The tree of a text is written in each part.
use Rattle.std.proofs.Common.{◌≡◌, ℕ, true, List, Some, map, sym, subst}
use Rattle.sv_source.specs.declared.token.Token.{Token}
use Rattle.sv_tree.specs.declared.units.SourceTree.{SourceTree}
use Rattle.sv_tree.specs.declared.units.Unit.{Unit as Description}
use Rattle.sv_build.specs.Reading.{Reads}
use Rattle.expr_type.specs.Names.{RoutineText}
use Rattle.expr_type.specs.Routines.{named_at, routines}
use Rattle.typing_walks.specs.Written.{all}
use Rattle.stmt_laws.specs.Written.{items_written}
use Rattle.routine_laws.specs.Texts.{head_written, items_of}
use Rattle.written_laws.specs.Trees.{routine_written, unit_written, tree_written}
use Rattle.written_laws.proofs.Tests.{left-of, right-of}
use Rattle.written_laws.proofs.Nodes.{derivation-good}
use Rattle.written_laws.proofs.Items.{units-read}
use Rattle.written_laws.proofs.Routines.{AllRead, routines-read, named-read}

pub tree-written : (tokens : List Token) (tree : SourceTree) → Reads tokens tree → tree_written tree ≡ true
tree-written tokens tree r =
    subst (λ (us : List Description). all (map unit_written us) ≡ true) (sym r.means) (units-read r.derivation (derivation-good r.derivation r.is_reading.is_text.reads))

pub all-routines : (tokens : List Token) (tree : SourceTree) → Reads tokens tree → AllRead (routines tree)
all-routines tokens tree r = routines-read tree (tree-written tokens tree r)

routine-written : (tokens : List Token) (tree : SourceTree) (at : ℕ) (t : RoutineText) → Reads tokens tree → named_at at (routines tree) ≡ Some t → routine_written t ≡ true
routine-written tokens tree at t r e = named-read at (routines tree) t (all-routines tokens tree r) e

pub head-written : (tokens : List Token) (tree : SourceTree) (at : ℕ) (t : RoutineText) → Reads tokens tree → named_at at (routines tree) ≡ Some t → head_written t ≡ true
head-written tokens tree at t r e = left-of (head_written t) (items_written (items_of t)) (routine-written tokens tree at t r e)

pub items-written : (tokens : List Token) (tree : SourceTree) (at : ℕ) (t : RoutineText) → Reads tokens tree → named_at at (routines tree) ≡ Some t → items_written (items_of t) ≡ true
items-written tokens tree at t r e = right-of (head_written t) (items_written (items_of t)) (routine-written tokens tree at t r e)
