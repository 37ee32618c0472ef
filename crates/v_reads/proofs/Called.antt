-- What functions read, as they are called.
use Rattle.std.proofs.Common.{◌≡◌, ℕ, ◌||◌, List, ◌++◌, Option, Some, None, sym, ap, ◌∙◌}
use Rattle.std.specs.Prelude.{slice_get}
use Rattle.v_eval.specs.declared.scopes.Scope.{Scope}
use Rattle.v_eval.specs.Scopes.{callee_at}
use Rattle.v_reads.specs.Reads.{is_among, Adds, or_none, FunctionsRead}
use Rattle.v_reads.proofs.Sets.{or-none, adds-none, adds-list}

pub called-nowhere : (s : Scope) (old : List ℕ) (o : Option ℕ) → None ≡ o → Adds old old (callee_at s o).reads
called-nowhere s old o is = adds-none old _ (sym (ap (λ p. (callee_at s p).reads) is))

pub called-none : (s : Scope) (lists : List (List ℕ)) (i : ℕ) (old : List ℕ) → FunctionsRead s lists → None ≡ slice_get lists i → Adds old old (callee_at s (Some i)).reads
called-none s lists i old h is = record { same = λ n. or-none (is_among old n) ∙ ap (λ b. is_among old n || b) (ap (λ o. is_among (or_none o) n) is ∙ h.right i n) }

pub called-some : (s : Scope) (lists : List (List ℕ)) (i : ℕ) (ns old new : List ℕ) → FunctionsRead s lists → Some ns ≡ slice_get lists i → new ≡ old ++ ns → Adds old new (callee_at s (Some i)).reads
called-some s lists i ns old new h is e = adds-list old new ns _ e (record { same = λ n. ap (λ o. is_among (or_none o) n) is ∙ h.right i n })

pub ruleset called = (called-nowhere, called-none, called-some)
