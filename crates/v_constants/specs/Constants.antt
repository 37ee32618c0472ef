-- Which functions of a module read no signal, and which selects have constant bases.
use Rattle.std.specs.Prelude.{◌≡◌, ℕ, Bool, true, cond, List, [], ◌∷◌, Option, Some, None, slice_get}
use Rattle.v_tree.specs.declared.expressions.VSel.{VSel}
use Rattle.v_meaning.specs.Scopes as S
use Rattle.v_meaning.specs.Values.{is_empty, sel_meaning}
use Rattle.v_eval.specs.declared.scopes.Scope.{Scope}
use Rattle.v_eval.specs.Scopes.{callee_at}

-- what is said of one of these, and true of one that isn't there
abbrev pub or_true : Option Bool → Bool
or_true None = true
or_true (Some b) = b

-- for each item of the module, whether the function there reads no signal
pub record AreQuiet (s : Scope) (quiet : List Bool) : Type 0 where
  pub right : (i : ℕ) → or_true (slice_get quiet i) ≡ is_empty (callee_at s (Some i)).reads

-- the longest prefix of selects whose bases are constants
abbrev pub leading : S.Scope → List VSel → List VSel
leading sc [] = []
leading sc (s ∷ ss) = cond ((sel_meaning s).constant sc) (s ∷ leading sc ss) []
