-- Frames whose functions are taken out and put back.
use Rattle.std.proofs.Common.{◌≡◌, ℕ, List, Option, Some, sym, ap, ◌∙◌, subst}
use Rattle.std.specs.Prelude.{Result, Err}
use Rattle.sv_source.specs.declared.refusal.Fail.{Fail}
use Rattle.sv_source.specs.declared.refusal.Fail.TheVariants.{Memory, Refused}
use Rattle.sv_source.specs.declared.refusal.Refusal.{Refusal}
use Rattle.sv_source.specs.declared.token.Token.{Token}
use Rattle.sv_tree.specs.declared.units.SourceTree.{SourceTree}
use Rattle.sv_types.specs.declared.frame.Frame.{Frame}
use Rattle.sv_types.specs.declared.statement.Function.{Function}
use Rattle.expr_type.specs.declared.halt.Halt.{Halt}
use Rattle.expr_type.specs.declared.halt.Halt.TheVariants as H
use Rattle.expr_type.specs.Answers.{reason}
use Rattle.expr_type.specs.Typings.{Typed}
use Rattle.routine_fits.specs.Sound.{AllSoundFunctions}
use Rattle.typing_fits.specs.Sound.{Extends}
use Rattle.typing_steps.specs.Steps.{StopsBy}
use Rattle.typing_stmts.specs.Around.{SoundAround}
use Rattle.typing_stmts.specs.Frames.{AnswersTo, refusal_by, refusal_of, with_functions}

-- the functions of a frame are none of what is sound around it
pub still-around : (tree : SourceTree) (f : Frame) (fs : List Function) → SoundAround tree f → SoundAround tree (with_functions f fs)
still-around tree f fs a = record { tokens = a.tokens; reads = a.reads; frame = record { values = a.frame.values; types = a.frame.types; signals = a.frame.signals } }

-- want of memory says nothing
pub nothing-answered : {A : Type 0} (ts : List Token) (t : Typed A) (gs : List Function) (r : Result (Option A) Fail) → r ≡ Err Memory → AnswersTo ts r t gs
nothing-answered {A = A} ts t gs r e = subst (λ (x : Result (Option A) Fail). AnswersTo ts x t gs) (sym e) tt

-- a break is refused
pub refused-by : {A : Type 0} (ts : List Token) (h : Halt) (at rule : ℕ) (t : Typed A) (gs : List Function) (r : Refusal) → h ≡ H.Breaks at rule → r ≡ refusal_of ts (record { at = at; rule = rule }) → StopsBy h t gs → AnswersTo ts (Err (Refused r)) t gs
refused-by ts h at rule t gs r is made s =
    let first : reason t.result ≡ Some (Some (record { at = at; rule = rule })) = subst (λ (x : Halt). StopsBy x t gs) is s in
    ap (refusal_by ts) first ∙ ap Some (sym made)

-- a frame `g` with the functions that are put back, which were the functions of `f`
module _ (f g : Frame) (gs : List Function) (back : g ≡ with_functions f gs) where
  put : g.functions ≡ gs
  put = ap (λ (x : Frame). x.functions) back

  pub same-else : g ≡ with_functions f g.functions
  same-else = back ∙ ap (λ (x : List Function). with_functions f x) (sym put)

  pub all-sound : AllSoundFunctions gs → AllSoundFunctions g.functions
  all-sound s = subst AllSoundFunctions (sym put) s

  pub all-kept : (fs : List Function) → fs ≡ f.functions → Extends fs gs → Extends f.functions g.functions
  all-kept fs is e = subst (λ (x : List Function). Extends f.functions x) (sym put) (subst (λ (x : List Function). Extends x gs) is e)

  pub answered : (A : Type 0) (ts : List Token) (fs : List Function) (r : Result (Option A) Fail) (typed : Frame → Typed A) → fs ≡ f.functions → AnswersTo ts r (typed (with_functions f fs)) gs → AnswersTo ts r (typed f) g.functions
  answered A ts fs r typed is s =
      subst (λ (x : List Function). AnswersTo ts r (typed f) x) (sym put)
      (subst (λ (x : Frame). AnswersTo ts r (typed x) gs) (ap (λ (x : List Function). with_functions f x) is) s)
