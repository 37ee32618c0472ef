-- Parts in a row, which are all looked at: what is made so far is whole, or something before isn't.
use Rattle.std.specs.Prelude.{◌≡◌, Bool, true, false, List, [], ◌∷◌, ◌++◌, Result, Ok, Err}
use Rattle.expr_type.specs.declared.halt.Halt.{Halt}
use Rattle.expr_type.specs.declared.halt.Halt.TheVariants as H

abbrev pub so_far : {A : Type 0} → Bool → List A → Result (List A) Halt
so_far true xs = Ok xs
so_far false xs = Err H.Quiet

-- one more, which ends the walk by want of memory or by a break
pub record AddsOne {A : Type 0} (old : List A) (whole : Bool) (a : A) (is_whole : Bool) (new : List A) : Type 0 where
  pub whole_still : is_whole ≡ whole
  pub added : new ≡ old ++ a ∷ []

pub record AddsNone {A : Type 0} (old : List A) (h : Halt) (is_whole : Bool) (new : List A) : Type 0 where
  pub quiet : h ≡ H.Quiet
  pub whole_no_more : is_whole ≡ false
  pub same : new ≡ old

pub record Ends (h g : Halt) : Type 0 where
  pub same : g ≡ h
  pub loud : h ≡ H.Quiet → ⊥

abbrev pub Adds : {A : Type 0} → List A → Bool → Result A Halt → Result Bool Halt → List A → Type 0
Adds old whole (Ok a) (Ok is_whole) new = AddsOne old whole a is_whole new
Adds old whole (Ok a) (Err g) new = g ≡ H.Memory
Adds old whole (Err h) (Ok is_whole) new = AddsNone old h is_whole new
Adds old whole (Err h) (Err g) new = Ends h g

-- what is whole, as it is meant
abbrev pub mapped : {A B : Type 0} → (A → B) → Result A Halt → Result B Halt
mapped m (Ok a) = Ok (m a)
mapped m (Err h) = Err h
