-- Calls of helper functions, and what the target expressions of forms name.
use Rattle.std.specs.Prelude.{◌≡◌, ℕ, Bool, List, length}
use Rattle.row_machine.specs.Valuation.{Member}
use Rattle.sv_types.specs.Surroundings.{Around}
use Rattle.sv_types.specs.Meanings as S
use Rattle.v_tree.specs.Printing.{helper_text}
use Rattle.v_tree.specs.declared.names.Helper.{Helper}
use Rattle.v_meaning.specs.Scopes.{Scope}
use Rattle.v_meaning.specs.Values as T
use Rattle.path_flatten.specs.Helping.{IsSized}
use Rattle.path_flatten.specs.Naming.{SameNumbers}

-- a call of a helper, which the text declares if it has bits
pub record Calls (h : Helper) (args : List T.Meaning) (hs : List Helper) (r : T.Meaning) : Type 0 where
  pub is : r ≡ T.call (helper_text h) args
  pub there : IsSized h → Member hs h

-- an expression names what these name, all of them and no other
abbrev pub NamesOf : List T.Meaning → T.Meaning → Type 0
NamesOf ms r = (sc : Scope) → SameNumbers (T.all_names ms sc) (r.names sc)

-- the bits at each width and sign are so many
abbrev pub IsLong : S.Meaning → Type 0
IsLong e = (w : ℕ) (s : Bool) (a : Around) → length (e.value w s a) ≡ w
