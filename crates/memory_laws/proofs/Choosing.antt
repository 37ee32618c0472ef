-- Selects that name the word of an index.
use Rattle.std.proofs.Common.{◌≡◌, ◌⊎◌, inl, inr, ℕ, ◌<◌, Bool, true, false, cond, ℤ, pos, ◌-ℤ◌, Option, Some, None, refl, ap, ◌∙◌, true≢false}
use Rattle.b4_core.specs.Vectors.{known, num, number}
use Rattle.row_machine.specs.Valuation.{Valuation}
use Rattle.sv_types.specs.Layouts.{Layout, count_of}
use Rattle.v_meaning.specs.Scopes.{Scope}
use Rattle.v_meaning.specs.Values as T
use Rattle.v_meaning.specs.Values.{decimal_base, expression_base, number_of}
use Rattle.lowering_laws.specs.Placed.{holds}
use Rattle.lowering_laws.specs.Words.{lower, HasWord, BehindAll, IsWord}
use Rattle.memory_laws.specs.InWords.{NamesWord, there, behind, lost, SelectsWord}

-- an expression that is the number of the word
pub expression-selects : (of : Layout) (i : Option ℤ) (g : Option T.Meaning) (r : T.Meaning) (sc : Scope) (v : Valuation) → IsWord of i g r sc v → SelectsWord of i g (expression_base r None) sc v
expression-selects of i g r sc v word = record { yes = λ h. by h (known (T.alone r sc v)) refl; no = word.no }
  where
    number-there : known (T.alone r sc v) ≡ true → number_of r.signed (T.alone r sc v) ≡ Some (pos (num (T.alone r sc v)))
    number-there k = ap (λ s. number_of s (T.alone r sc v)) word.unsigned ∙ ap (λ b. cond b (Some (number false (T.alone r sc v))) None) k

    at-number : holds g sc v ≡ true → known (T.alone r sc v) ≡ true → HasWord of i (num (T.alone r sc v)) ⊎ BehindAll of i (num (T.alone r sc v)) → NamesWord of i (number_of r.signed (T.alone r sc v))
    at-number h k (inl has) = there (num (T.alone r sc v)) has (number-there k)
    at-number h k (inr far) = behind (num (T.alone r sc v)) far (number-there k)

    by : holds g sc v ≡ true → (b : Bool) → known (T.alone r sc v) ≡ b → NamesWord of i (number_of r.signed (T.alone r sc v))
    by h true k = at-number h k (word.yes h k)
    by h false k = lost (word.lost h k) (ap (λ b. cond b (Some (number r.signed (T.alone r sc v))) None) k)

-- the decimal number of the word of a known index
pub decimal-selects : (of : Layout) (k : ℤ) (x : ℕ) (sc : Scope) (v : Valuation) → k -ℤ lower of ≡ pos x → x < count_of of.left of.right → SelectsWord of (Some k) None (decimal_base x None) sc v
decimal-selects of k x sc v is few = record {
  yes = λ h. there x (record { index = k; known_there = refl; word_is = is; below = few }) refl;
  no = λ h. absurd (true≢false h);
}
