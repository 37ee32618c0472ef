-- The word of an index, as it is found, is the one that its select names.
use Rattle.std.proofs.Common.{inl, inr, ℕ, ℤ, pos, Option, Some, None, refl, true≢false}
use Rattle.row_machine.specs.Valuation.{Valuation}
use Rattle.sv_types.specs.Layouts.{Layout}
use Rattle.v_meaning.specs.Scopes.{Scope}
use Rattle.v_meaning.specs.Values as T
use Rattle.v_meaning.specs.Values.{decimal_base, expression_base}
use Rattle.memory_laws.specs.InWords.{SelectsWord, NamesWord, there, behind}
use Rattle.memory_laws.proofs.Choosing.{expression-selects}
use Rattle.memory_words.specs.Words.{IsExactWord, NumbersWord}

-- by an expression
pub exact-selects : (of : Layout) (i : Option ℤ) (g : Option T.Meaning) (r : T.Meaning) (sc : Scope) (v : Valuation) → IsExactWord of i g r sc v → SelectsWord of i g (expression_base r None) sc v
exact-selects of i g r sc v word =
    expression-selects of i g r sc v (record { unsigned = word.unsigned; yes = λ h k. inl (word.yes h k); no = word.no; lost = word.lost })

-- by its number
named-by : (of : Layout) (z : Option ℤ) (x : ℕ) → NumbersWord of z x → NamesWord of z (Some (pos x))
named-by of z x (inl has) = there x has refl
named-by of z x (inr far) = behind x far refl

pub known-selects : (of : Layout) (z : Option ℤ) (x : ℕ) (sc : Scope) (v : Valuation) → NumbersWord of z x → SelectsWord of z None (decimal_base x None) sc v
known-selects of z x sc v word = record { yes = λ h. named-by of z x word; no = λ h. absurd (true≢false h) }
