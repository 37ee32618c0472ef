-- The functions that were known before, by how many they were.
use Rattle.std.proofs.Common.{◌≡◌, ◌≤◌, ℕ, List, length, min, take, arith, sym, ap, ◌∙◌, subst}
use Rattle.std.proofs.lemmas.List.{length-take}
use Rattle.sv_types.specs.declared.statement.Function.{Function}
use Rattle.known_functions.proofs.Laws.{cut-back}
use Rattle.routine_fits.specs.Sound.{AllSoundFunctions}
use Rattle.typing_fits.specs.Sound.{Extends}

pub before-is : (gs hs : List Function) (n : ℕ) → n ≡ length gs → Extends gs hs → take n hs ≡ gs
before-is gs hs n is e = ap (λ m. take m hs) is ∙ cut-back gs hs e

pub within-longer : (gs hs : List Function) (n : ℕ) → n ≡ length gs → Extends gs hs → n ≤ length hs
within-longer gs hs n is e =
    let long : min n (length hs) ≡ n = sym (length-take n hs) ∙ ap length (before-is gs hs n is e) ∙ sym is in
    omega arith

pub sound-before : (gs hs : List Function) (n : ℕ) → n ≡ length gs → Extends gs hs → AllSoundFunctions gs → AllSoundFunctions (take n hs)
sound-before gs hs n is e s = subst (λ (ls : List Function). AllSoundFunctions ls) (sym (before-is gs hs n is e)) s
