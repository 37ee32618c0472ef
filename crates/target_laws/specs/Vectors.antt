-- Targets in a vector, whichever name stands for it: a word of a memory is one (IEEE 1364-2005 clauses 4.9 and 9.2).
use Rattle.std.specs.Prelude.{◌≡◌, ℕ, List, ◌∷◌, [], None}
use Rattle.picks.specs.Windows.{written}
use Rattle.v_meaning.specs.Scopes.{Named}
use Rattle.v_meaning.specs.Selects.{SelMeaning}
use Rattle.v_meaning.specs.Statements.{Target}
use Rattle.v_meaning.specs.Values as T

-- a vector of so many bits
pub record IsVector (n : Named) (bits : ℕ) : Type 0 where
  pub vector : n.words ≡ None
  pub width : n.width ≡ bits

-- some selects of it as a target
abbrev pub vector_target : Named → List SelMeaning → Target
vector_target n sels = record {
  width = λ sc. T.width_of n sels;
  puts = λ sc v bits. written n.number (T.path_of n sels sc v).window bits;
  writes = λ sc. T.use_of n sels sc ∷ [];
  names = T.sel_names sels;
  reads = T.sel_reads sels;
}
