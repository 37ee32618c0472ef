-- What the targets of a path of which indices select from part-selects name, and what they are made of (IEEE 1800-2017 clause 9.4.2.2,
-- IEEE 1364-2005 clause 6.1.2).
use Rattle.std.specs.Prelude.{◌≡◌, ℕ, pos, List, map, None}
use Rattle.row_machine.specs.Valuation.{Valuation}
use Rattle.sv_types.specs.declared.expression.Expr.{Expr}
use Rattle.sv_types.specs.Surroundings.{Around}
use Rattle.sv_types.specs.Expressions.{meaning}
use Rattle.v_tree.specs.Names.{Name}
use Rattle.v_meaning.specs.Scopes.{Scope, Named}
use Rattle.path_flatten.specs.Naming.{SameNumbers}
use Rattle.target_flatten.specs.declared.writes.Write.{Write}
use Rattle.target_flatten.specs.Naming.{EachNames}
use Rattle.target_flatten.specs.Owning.{AllPlain}
use Rattle.target_flatten.specs.Writing.{pieces, pieces_in, WritesPath}
use Rattle.target_walk.specs.declared.given.Given.{Given}
use Rattle.target_walk.specs.declared.given.Given.TheVariants as G
use Rattle.target_walk.specs.declared.never.Targets.{Targets}
use Rattle.target_walk.specs.Giving.{all_names}
use Rattle.target_walk.specs.Naming.{target_names}
use Rattle.target_walk.specs.Owning.{AllFixed}
use Rattle.case_targets.specs.declared.indices.PathIndex.{PathIndex}
use Rattle.case_targets.specs.declared.indices.PathIndex.TheVariants as I
use Rattle.case_targets.specs.Spreading.{IsSet}

-- an index by its number, or as it is lowered, whatever it selects from
abbrev pub given_for : PathIndex → Given
given_for (I.Plain g) = g
given_for (I.InPart i) = G.Lowered i (pos 0)

abbrev pub givens_for : List PathIndex → List Given
givens_for ps = map given_for ps

-- each of some targets names what the path's indices do
abbrev pub NamesEach : ℕ → Expr → List PathIndex → List Write → Type 0
NamesEach bits e ps xs = (vec : Named) (a : Around) (sc : Scope) (v : Valuation) → IsSet bits e ps vec a sc v → EachNames (all_names (givens_for ps) sc) (pieces xs) sc

abbrev pub KeepsNames : ℕ → Expr → List PathIndex → List Write → List Write → Type 0
KeepsNames bits e ps old new = NamesEach bits e ps old → NamesEach bits e ps new

-- where all indices are known, they have no guards, and their selects are decimal
abbrev pub PlainOf : Name → List PathIndex → List Write → Type 0
PlainOf name ps xs = AllFixed (givens_for ps) → AllPlain name xs

-- Targets write a typed path in a vector, each bit that a write through it does and no other, and they and an expression apart name
-- what its indices do, all of it and nothing else.
pub record Spread (e : Expr) (ps : List PathIndex) (r : Targets) (vec : Named) (a : Around) (sc : Scope) (v : Valuation) : Type 0 where
  pub path : WritesPath vec (meaning e) a (pieces_in vec r.writes) sc v
  pub names : SameNumbers (all_names (givens_for ps) sc) (target_names r sc)

abbrev pub SpreadsTo : ℕ → Expr → List PathIndex → Targets → Type 0
SpreadsTo bits e ps r = (vec : Named) (a : Around) (sc : Scope) (v : Valuation) → IsSet bits e ps vec a sc v → Spread e ps r vec a sc v

-- without guards, with decimal selects, and nothing apart; so they are where all indices are known
pub record IsBare (name : Name) (r : Targets) : Type 0 where
  pub plain : AllPlain name r.writes
  pub named : r.named ≡ None

abbrev pub BareOf : Name → List PathIndex → Targets → Type 0
BareOf name ps r = AllFixed (givens_for ps) → IsBare name r
