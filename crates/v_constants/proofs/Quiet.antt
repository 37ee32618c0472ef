-- Functions that read no signal.
use Rattle.std.proofs.Common.{◌≡◌, ℕ, Bool, true, List, Some, None, ap, ◌∙◌}
use Rattle.std.specs.Prelude.{slice_get}
use Rattle.v_meaning.specs.Values.{is_empty}
use Rattle.v_eval.specs.declared.scopes.Scope.{Scope}
use Rattle.v_eval.specs.Scopes.{callee_at}
use Rattle.v_constants.specs.Constants.{or_true, AreQuiet}

pub quiet-there : (s : Scope) (quiet : List Bool) (i : ℕ) (b : Bool) → AreQuiet s quiet → Some b ≡ slice_get quiet i → b ≡ is_empty (callee_at s (Some i)).reads
quiet-there s quiet i b h is = ap or_true is ∙ h.right i

pub quiet-absent : (s : Scope) (quiet : List Bool) (i : ℕ) → AreQuiet s quiet → None ≡ slice_get quiet i → true ≡ is_empty (callee_at s (Some i)).reads
quiet-absent s quiet i h is = ap or_true is ∙ h.right i

pub ruleset quiet = (quiet-there, quiet-absent)
