-- Indices of a typed path as its targets are given them (IEEE 1800-2017 clauses 7.4.5, 9.4.2.2 and 11.5.1).
use Rattle.std.specs.Prelude.{ℕ, List}
use Rattle.row_machine.specs.Valuation.{Valuation}
use Rattle.sv_types.specs.Surroundings.{Around}
use Rattle.sv_types.specs.Expressions.{meaning}
use Rattle.v_meaning.specs.Scopes.{Scope}
use Rattle.lowering_laws.specs.NamedImages.{AreImages}
use Rattle.target_walk.specs.Giving.{given_names}
use Rattle.typed_paths.specs.Typed.{Indexing}
use Rattle.case_targets.specs.declared.indices.PathIndex.{PathIndex}
use Rattle.case_targets.specs.Naming.{given_for}
use Rattle.case_targets.specs.Spreading.{Pairwise, StandsFor}

-- they stand for the path's indices, by their numbers or lowered alone
abbrev pub AllStandFor : List Indexing → List PathIndex → Around → Scope → Valuation → Type 0
AllStandFor xs ps a sc v = Pairwise (StandsFor a sc v) xs ps

-- one names the images of what the index names, and so do all of them
abbrev pub NamesAs : (ℕ → ℕ) → Scope → Indexing → PathIndex → Type 0
NamesAs image sc x p = AreImages image (meaning x.index).names (given_names (given_for p) sc)

abbrev pub AllNameAs : (ℕ → ℕ) → List Indexing → List PathIndex → Scope → Type 0
AllNameAs image xs ps sc = Pairwise (NamesAs image sc) xs ps
