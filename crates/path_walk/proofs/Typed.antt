-- What is known of what a select is of, and that selects are paths.
use Rattle.std.proofs.Common.{◌≡◌, ℕ, ◌*◌, ◌<◌, ◌≤◌, Bool, ℤ, length, arith, ap, subst, ◌∙◌}
use Rattle.sv_types.specs.declared.expression.Expr.{Expr}
use Rattle.sv_types.specs.declared.expression.Form.TheVariants as V
use Rattle.sv_types.specs.Layouts.{Layout, layout, width_of}
use Rattle.sv_types.specs.Surroundings.{Around}
use Rattle.sv_types.specs.Meanings as S
use Rattle.sv_types.specs.Paths as P
use Rattle.sv_types.specs.Expressions.{meaning}
use Rattle.sv_types.proofs.Heads.{heads}
use Rattle.sv_types.proofs.Widths.{has-bits, wide-widest}
use Rattle.eval_parts.proofs.Nodes as N
use Rattle.eval_parts.proofs.Nodes.{nodes}
use Rattle.eval_parts.proofs.Selecting.{same-Member, same-Index, same-Part, same-Slide}
use Rattle.eval_parts.proofs.TypeKinds.{wide-is}
use Rattle.lowering_laws.specs.Steps.{IsPath}
use Rattle.lowering_laws.proofs.Paths.{selected-is-path}
use Rattle.lowering_laws.proofs.Wholes.{member-typed, index-typed, sliding-typed}
use Rattle.path_steps.proofs.PathSteps.{slide-wide}

-- what is typed, and so wide at most
pub record Fine (m : S.Meaning) : Type 0 where
  pub typed : m.misfits ≡ 0
  pub narrow : m.widest ≤ 4194304

-- what a select is of
pub record From (e x : Expr) : Type 0 where
  pub fewer : nodes x < nodes e
  pub typed : (meaning x).misfits ≡ 0
  pub narrow : (meaning x).widest ≤ 4194304
  pub own : width_of x.of ≤ 4194304
  pub some : 1 ≤ width_of x.of

from-by : (e x : Expr) → nodes x < nodes e → Fine (meaning x) → From e x
from-by e x fewer fine = record {
  fewer = fewer;
  typed = fine.typed;
  narrow = fine.narrow;
  own = (let wide = wide-widest x in let same = wide-is x in let narrow = fine.narrow in omega arith);
  some = (let bits = has-bits x fine.typed in let same = wide-is x in omega arith);
}

member-fine : (of : Layout) (at : ℕ) (m : S.Meaning) (k : ℕ) → Fine (P.member of at m k) → Fine m
unfolding P.member
member-fine of at m k h = record { typed = (member-typed of at m k h.typed).step.typed_from; narrow = (let narrow = h.narrow in omega arith) }

index-fine : (of : Layout) (at : ℕ) (m i : S.Meaning) → Fine (P.index of at m i) → Fine m
unfolding P.index
index-fine of at m i h = record { typed = (index-typed of at m i h.typed).0.typed_from; narrow = (let narrow = h.narrow in omega arith) }

part-fine : (of : Layout) (at : ℕ) (m : S.Meaning) (left right : ℤ) → Fine (P.part_select of at m left right) → Fine m
unfolding P.part_select
part-fine of at m left right h = record { typed = (let typed = h.typed in omega arith); narrow = (let narrow = h.narrow in omega arith) }

slide-fine : (of : Layout) (at : ℕ) (m i : S.Meaning) (n : ℕ) (up : Bool) → Fine (P.sliding of at m i n up) → Fine m
unfolding P.sliding
slide-fine of at m i n up h = record { typed = (sliding-typed of at m i n up h.typed).0.typed_from; narrow = (let narrow = h.narrow in omega arith) }

pub fine-of : (e : Expr) → (meaning e).misfits ≡ 0 → (meaning e).widest ≤ 4194304 → Fine (meaning e)
fine-of e typed narrow = record { typed = typed; narrow = narrow }

pub from-Member : (e x : Expr) (k : ℕ) → e.form ≡ V.Member x k → Fine (meaning e) → From e x
from-Member e x k is h =
    let fewer = N.nodes-Member e x k is in
    from-by e x (omega arith) (member-fine (layout e.of) e.spot.at (meaning x) k (subst Fine (same-Member e x k is) h))

pub from-Index : (e x i : Expr) → e.form ≡ V.Index x i → Fine (meaning e) → From e x
from-Index e x i is h =
    let fewer = N.nodes-Index e x i is in
    from-by e x (omega arith) (index-fine (layout e.of) e.spot.at (meaning x) (meaning i) (subst Fine (same-Index e x i is) h))

pub from-Part : (e x : Expr) (left right : ℤ) → e.form ≡ V.Part x left right → Fine (meaning e) → From e x
from-Part e x left right is h =
    let fewer = N.nodes-Part e x left right is in
    from-by e x (omega arith) (part-fine (layout e.of) e.spot.at (meaning x) left right (subst Fine (same-Part e x left right is) h))

pub from-Slide : (e x i : Expr) (n : ℕ) (up : Bool) → e.form ≡ V.Slide x i n up → Fine (meaning e) → From e x
from-Slide e x i n up is h =
    let fewer = N.nodes-Slide e x i n up is in
    from-by e x (omega arith) (slide-fine (layout e.of) e.spot.at (meaning x) (meaning i) n up (subst Fine (same-Slide e x i n up is) h))

-- how wide an expression is, and that it has bits
pub own-narrow : (e : Expr) → (meaning e).widest ≤ 4194304 → width_of e.of ≤ 4194304
own-narrow e narrow = (let wide = wide-widest e in let same = wide-is e in omega arith)

pub own-some : (e : Expr) → (meaning e).misfits ≡ 0 → 1 ≤ width_of e.of
own-some e typed = (let bits = has-bits e typed in let same = wide-is e in omega arith)

-- how many bits an indexed part-select has
pub slide-size : (e x i : Expr) (n : ℕ) (up : Bool) → e.form ≡ V.Slide x i n up → (meaning e).misfits ≡ 0 → S.wide (meaning e) ≡ n * length (layout x.of).element.two_state
slide-size e x i n up is typed =
    let level = same-Slide e x i n up is in
    ap (λ (m : S.Meaning). S.wide m) level
    ∙ slide-wide (layout e.of) e.spot.at (meaning x) (meaning i) n up (subst (λ (m : S.Meaning). m.misfits ≡ 0) level typed)
    ∙ ap (λ (l : Layout). n * length l.element.two_state) (heads x).kind

-- selects are paths
pub member-path : (of : Layout) (at : ℕ) (m : S.Meaning) (k : ℕ) (a : Around) → IsPath (P.member of at m k) a
unfolding P.member
member-path of at m k a = selected-is-path of at _ a

pub index-path : (of : Layout) (at : ℕ) (m i : S.Meaning) (a : Around) → IsPath (P.index of at m i) a
unfolding P.index
index-path of at m i a = selected-is-path of at _ a

pub part-path : (of : Layout) (at : ℕ) (m : S.Meaning) (left right : ℤ) (a : Around) → IsPath (P.part_select of at m left right) a
unfolding P.part_select
part-path of at m left right a = selected-is-path of at _ a

pub slide-path : (of : Layout) (at : ℕ) (m i : S.Meaning) (n : ℕ) (up : Bool) (a : Around) → IsPath (P.sliding of at m i n up) a
unfolding P.sliding
slide-path of at m i n up a = selected-is-path of at _ a
