-- What is made of a thing that isn't whole.
use Rattle.std.specs.Prelude.{Ok, Err}
use Rattle.expr_type.specs.declared.halt.Halt.{Halt}
use Rattle.expr_type.specs.declared.halt.Halt.TheVariants as H
use Rattle.expr_type.specs.Answers.{Gives}
use Rattle.expr_type.specs.Typings.{Checked, where_whole}

pub where-stops : {A B : Type 0} (c : Checked A) (f : A → Checked B) (h : Halt) → Gives {A = A} (Err h) c → Gives {A = B} (Err h) (where_whole c f)
where-stops (Ok a) f H.Memory p = tt
where-stops (Ok a) f (H.Breaks at n) p = absurd (cc)
where-stops (Ok a) f H.Quiet p = absurd (cc)
where-stops (Err b) f h p = p
