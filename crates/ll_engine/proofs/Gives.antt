-- What the answers of the steps say of the whole reading.
use Rattle.std.proofs.Common.{◌≡◌, ◌<◌, ℕ, zero, suc, List, [], ◌∷◌, Some, Result, Ok, Err, refl, sym, ◌∙◌, subst, length, slice_get, get_or, arith}
use Rattle.ll_engine.specs.declared.table.Row.{Row}
use Rattle.ll_engine.specs.declared.tables.Head.{Head}
use Rattle.ll_engine.specs.declared.tree.Tree.{Tree}
use Rattle.ll_engine.specs.declared.fails.ParseFail.{ParseFail}
use Rattle.ll_engine.specs.declared.fails.ParseFail.TheVariants.{Memory, NoText, Deep}
use Rattle.ll_engine.specs.Answers.{ParseGives}
use Rattle.ll_engine.specs.Knows.{Knows}
use Rattle.ll_engine.specs.Machine.{Level, Stuck}
use Rattle.ll_engine.specs.Steps.{SymbolGives, EndGives}
use Rattle.ll_engine.specs.Texts.{FailsAt, PassesAt}
use Rattle.ll_engine.proofs.Progress.{Progress, fails_at, lacks, finishes, fails_end}

pub slice_get_or : (n d : ℕ) (xs : List ℕ) → n < length xs → slice_get xs n ≡ Some (get_or xs n d)
slice_get_or zero d [] h = absurd (omega arith)
slice_get_or zero d (x ∷ xs) h = refl
slice_get_or (suc n) d [] h = absurd (omega arith)
slice_get_or (suc n) d (x ∷ xs) h = slice_get_or n d xs (omega arith)

module _ (t : List Row) (heads : List Head) (k : Knows t heads) (h limit : ℕ) (ss : List ℕ) where
  pub symbol_fails : (at a : ℕ) (old new : List Level) (e : ParseFail) → Progress t h limit ss at old
      → slice_get ss at ≡ Some a → at < length ss → SymbolGives {A = Unit {0}} t (Some a) at old new (Err e)
      → ParseGives t ss limit (Err e)
  symbol_fails at a old new Memory p g le m = tt
  symbol_fails at a old new (NoText n) p g le m =
      subst (λ q. FailsAt t ss limit q) (sym m.0)
      (fails_at t heads k h limit ss at old p (omega arith) (subst (λ q. Stuck t q old) (sym g) m.1))
  symbol_fails at a old new (Deep n) p g le m =
      subst (λ q. PassesAt t ss limit q) (sym m.0) (lacks t heads k h limit ss at a old p g le m.1)

  pub end_gives : (at : ℕ) (old : List Level) (r : Result Tree ParseFail) → at ≡ length ss → Progress t h limit ss at old
      → EndGives t at old r → ParseGives t ss limit r
  end_gives at old (Ok x) e p m = finishes t heads k h limit ss old x (subst (λ q. Progress t h limit ss q old) e p) m
  end_gives at old (Err Memory) e p m = tt
  end_gives at old (Err (NoText n)) e p m =
      subst (λ q. FailsAt t ss limit q) (sym (m.0 ∙ e))
      (fails_end t heads k h limit ss old (subst (λ q. Progress t h limit ss q old) e p) m.1)
  end_gives at old (Err (Deep n)) e p m = absurd m
