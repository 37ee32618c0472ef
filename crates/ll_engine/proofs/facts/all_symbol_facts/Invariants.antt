use Rattle.std.proofs.Common.{◌≡◌, ℕ, Some, length, slice_get}
use Rattle.ll_engine.specs.Facts.{AreSymbolFacts}
use Rattle.ll_engine.specs.declared.facts.SymbolFacts.{SymbolFacts}
use Rattle.ll_engine.proofs.facts.all_symbol_facts.Given as goal

abbrev pub invariant-loop-symbol : goal.invariant-loop-symbol
invariant-loop-symbol l = record {
  long : length l.all ≡ l.symbol;
  each : (a : ℕ) (s : SymbolFacts) → slice_get l.all a ≡ Some s → AreSymbolFacts l.rows l.blank a s;
}
