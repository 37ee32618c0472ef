-- The heads of loops.
use Rattle.std.proofs.Common.{◌≡◌, ℕ, List, Option, Some, refl, sym, ap, ◌∙◌, subst}
use Rattle.std.specs.Prelude.{Result, Ok, Err}
use Rattle.sv_types.specs.declared.statement.Function.{Function}
use Rattle.sv_types.specs.declared.statement.Stmt as R
use Rattle.sv_types.specs.declared.statement.Stmt.TheVariants as S
use Rattle.expr_type.specs.declared.halt.Halt.{Halt}
use Rattle.expr_type.specs.Names as N
use Rattle.expr_type.specs.Names.{Context, Source}
use Rattle.expr_type.specs.Statements as D
use Rattle.expr_type.specs.Typings.{Typing, both, whole}
use Rattle.typing_steps.specs.Steps.{TypesTo}
use Rattle.typing_calls.specs.Lists.{as_meant}
use Rattle.typing_sides.specs.Sides.{Besides, first_stop, known_of, stop}
use Rattle.typing_sides.proofs.Together.{by-both-fine, by-both-stops}
use Rattle.typing_declarations.specs.declared.turns.LoopVariable.{LoopVariable}
use Rattle.typing_declarations.specs.declared.turns.Control.{Control}
use Rattle.typing_declarations.specs.Loops.{control_of, looped, variable_of}
use Rattle.typing_declarations.proofs.Sides.{same-stop, together}

-- a loop of its parts
abbrev turns_of : Control × R.Stmt → D.Turns
turns_of p = record { control = control_of p.0; body = p.1 }

abbrev as_loop : Context → ℕ → D.LoopVariable → D.Turns → Typing R.Stmt
as_loop k at v t = whole (D.loop_stmt k at v t)

module _ (k : Context) (at : ℕ) (x : Typing D.LoopVariable) (y : Option D.LoopVariable → Typing D.Control) (z : Option D.LoopVariable → Typing R.Stmt) (r : Result LoopVariable Halt) (c : Result Control Halt)
    (body : Result R.Stmt Halt) (two : Result (Control × R.Stmt) Halt) (fs gs hs js : List Function) where
  abbrev found : Option D.LoopVariable
  found = known_of (as_meant variable_of r)

  abbrev turned : Option D.LoopVariable → Typing D.Turns
  turned o = both (y o) (z o) D.turns

  turns-are : Besides c body two → TypesTo (as_meant control_of c) (y found gs) hs → TypesTo body (z found hs) js → TypesTo (as_meant turns_of two) (turned found gs) js
  turns-are b p q = together control_of (y found) (z found) (λ d s. record { control = d; body = s }) gs hs js c body two b p q

  pub loop-stops : (h : Halt) → Besides c body two → first_stop (stop r) (stop two) ≡ Some h → TypesTo (as_meant variable_of r) (x fs) gs
      → TypesTo (as_meant control_of c) (y found gs) hs → TypesTo body (z found hs) js → TypesTo {A = R.Stmt} (Err h) (looped k at x y z fs) js
  loop-stops h b e p q t =
      by-both-stops x turned (as_loop k at) fs gs js (as_meant variable_of r) (as_meant turns_of two) h
      (ap (λ (o : Option Halt). first_stop o (stop (as_meant turns_of two))) (same-stop variable_of r) ∙ ap (first_stop (stop r)) (same-stop turns_of two) ∙ e) p (turns-are b q t)

abbrev found_variable : LoopVariable → Result LoopVariable Halt
found_variable v = Ok v

variable-is : (a b : LoopVariable) → found_variable a ≡ Ok b → b ≡ a
variable-is a b e = cc

pub loop-fine : (k : Context) (src : Source) (at : ℕ) (x : Typing D.LoopVariable) (y : Option D.LoopVariable → Typing D.Control) (z : Option D.LoopVariable → Typing R.Stmt) (r : Result LoopVariable Halt)
    (c : Result Control Halt) (body : Result R.Stmt Halt) (two : Result (Control × R.Stmt) Halt) (fs gs hs js : List Function) (s : LoopVariable) (p : Control × R.Stmt) (made : R.Stmt) → src ≡ k.source
    → Besides c body two → r ≡ Ok s → two ≡ Ok p → made ≡ S.Loop s.local.number s.first p.0.test.expr p.0.step p.1 (N.spot src at) → TypesTo (as_meant variable_of r) (x fs) gs
    → TypesTo (as_meant control_of c) (y (known_of (as_meant variable_of r)) gs) hs → TypesTo body (z (known_of (as_meant variable_of r)) hs) js → TypesTo (Ok made) (looped k at x y z fs) js
loop-fine k src at x y z (Err h) c body two fs gs hs js s p made same b f g is t u w = absurd (cc)
loop-fine k src at x y z (Ok v) c body two fs gs hs js s p made same b f g is t u w =
    let first : s ≡ v = variable-is v s f in
    let v-turns = turns-are k at x y z (Ok v) c body two fs gs hs js b u w in
    let both-there : TypesTo (Ok (turns_of p)) (both (y (Some (variable_of v))) (z (Some (variable_of v))) D.turns gs) js =
    subst (λ (q : Result (Control × R.Stmt) Halt). TypesTo (as_meant turns_of q) (both (y (Some (variable_of v))) (z (Some (variable_of v))) D.turns gs) js) g v-turns in
    let it : made ≡ D.loop_stmt k at (variable_of v) (turns_of p) =
    is ∙ ap (λ (a : LoopVariable). S.Loop a.local.number a.first p.0.test.expr p.0.step p.1 (N.spot src at)) first
    ∙ ap (λ (a : Source). S.Loop v.local.number v.first p.0.test.expr p.0.step p.1 (N.spot a at)) same in
    by-both-fine x (λ o. both (y o) (z o) D.turns) (as_loop k at) fs gs js (variable_of v) (turns_of p) (Ok made) t both-there
    (subst (λ (a : R.Stmt). TypesTo (Ok a) (as_loop k at (variable_of v) (turns_of p) js) js) (sym it) refl)

pub ruleset loops = (loop-stops, loop-fine)
