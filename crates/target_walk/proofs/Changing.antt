-- What writes through a select path change.
use Rattle.std.proofs.Common.{◌≡◌, ℕ, Bool, ℤ, List, Result, Ok, Err, IfOk, refl, ap, sym, ◌∙◌, subst}
use Rattle.std.specs.declared.alloc.AllocError.{AllocError}
use Rattle.b4_core.specs.declared.bit.Bit4.{Bit4}
use Rattle.row_machine.specs.Valuation.{Valuation}
use Rattle.sv_types.specs.declared.expression.Expr.{Expr}
use Rattle.sv_types.specs.Layouts.{Layout, stored}
use Rattle.sv_types.specs.Surroundings.{Around}
use Rattle.sv_types.specs.Meanings as S
use Rattle.sv_types.specs.Meanings.{written_at}
use Rattle.sv_types.specs.Paths as P
use Rattle.sv_types.specs.Expressions.{meaning}
use Rattle.eval_parts.proofs.Selecting.{same-Signal, same-Local, same-Member, same-Index, same-Part, same-Slide}
use Rattle.v_meaning.specs.Scopes.{Scope, named}
use Rattle.lowering_laws.specs.Agreeing.{Images, SameChanges}
use Rattle.lowering_laws.specs.Reached.{Piece, pieces_put, IsWritten}
use Rattle.lowering_laws.proofs.Changes.{HasPieces, path-changes}
use Rattle.lowering_laws.proofs.WriteAt.{IsTight}
use Rattle.target_flatten.specs.declared.writes.Image.{Image}
use Rattle.target_walk.specs.declared.never.Targets.{Targets}
use Rattle.target_flatten.specs.Writing.{pieces}
use Rattle.target_walk.specs.declared.given.Given.{Given}
use Rattle.target_walk.specs.Changing.{IsShownBy, ChangesAs}
use Rattle.target_walk.specs.Naming.{FlattensTo}
use Rattle.target_walk.specs.Walking.{Indexed, of_signal, of_local, of_member, of_index, of_part, of_slide}
use Rattle.target_walk.proofs.Taking.{steady}

-- a write through a path changes what it stands on
abbrev pub Puts : S.Meaning → Type 0
Puts m = (a : Around) (bits : List Bit4) → m.puts a bits ≡ written_at m.root (m.window a) (stored m.of.two_state bits)

pub signal-puts : (of : Layout) (at n : ℕ) → Puts (P.signal of at n)
unfolding P.signal
signal-puts of at n a bits = refl

pub local-puts : (of : Layout) (at n : ℕ) → Puts (P.local of at n)
unfolding P.local
local-puts of at n a bits = refl

pub member-puts : (of : Layout) (at : ℕ) (from : S.Meaning) (k : ℕ) → Puts (P.member of at from k)
unfolding P.member
member-puts of at from k a bits = refl

pub index-puts : (of : Layout) (at : ℕ) (from i : S.Meaning) → Puts (P.index of at from i)
unfolding P.index
index-puts of at from i a bits = refl

pub part-puts : (of : Layout) (at : ℕ) (from : S.Meaning) (left right : ℤ) → Puts (P.part_select of at from left right)
unfolding P.part_select
part-puts of at from left right a bits = refl

pub slide-puts : (of : Layout) (at : ℕ) (from i : S.Meaning) (n : ℕ) (up : Bool) → Puts (P.sliding of at from i n up)
unfolding P.sliding
slide-puts of at from i n up a bits = refl

pub puts-by : (e : Expr) (m : S.Meaning) → meaning e ≡ m → Puts m → Puts (meaning e)
puts-by e m is h = subst Puts (sym is) h

path-puts : (w bits : ℕ) (a : Around) (sc : Scope) (v : Valuation) (e : Expr) (gs : List Given) (part : Bool) → Indexed w bits a sc v e gs part → Puts (meaning e)
path-puts w bits a sc v e gs part (of_signal x n is wide) = puts-by x _ (same-Signal x n is) (signal-puts _ _ n)
path-puts w bits a sc v e gs part (of_local x n is wide) = puts-by x _ (same-Local x n is) (local-puts _ _ n)
path-puts w bits a sc v e gs part (of_member x from k hs is rest) = puts-by x _ (same-Member x from k is) (member-puts _ _ (meaning from) k)
path-puts w bits a sc v e gs part (of_index x from i g hs b is number fits rest) = puts-by x _ (same-Index x from i is) (index-puts _ _ (meaning from) (meaning i))
path-puts w bits a sc v e gs part (of_part x from l r hs b is typed rest) = puts-by x _ (same-Part x from l r is) (part-puts _ _ (meaning from) l r)
path-puts w bits a sc v e gs part (of_slide x from i n up g hs b is number typed fits rest) = puts-by x _ (same-Slide x from i n up is) (slide-puts _ _ (meaning from) (meaning i) n up)

-- so what writes the path changes its image
pub changes-by : (im : Image) (ims : Images) (r : ℕ) (e : Expr) (a : Around) (sc : Scope) (v : Valuation) (ps : List Piece) → IsShownBy im ims r e a sc → Puts (meaning e)
    → IsTight ((meaning e).window a) (S.wide (meaning e)) → IsWritten ((meaning e).window a) (S.wide (meaning e)) (named sc.names im.name).number ps sc v → HasPieces ims (meaning e) ps a sc v
changes-by im ims r e a sc v ps shown puts tight h =
    let image = subst (λ n. IsWritten ((meaning e).window a) (S.wide (meaning e)) n ps sc v) (sym shown.number) h in
    record {
      wide = h.wide;
      below = h.below;
      changes = λ bs long.
          subst (λ c. SameChanges ims c (pieces_put ps sc v (stored (meaning e).of.two_state bs)))
          (sym (puts a bs ∙ ap (λ o. written_at o ((meaning e).window a) (stored (meaning e).of.two_state bs)) shown.root))
          (path-changes ims shown.distinct (meaning e) a r shown.some shown.in_order ps sc v tight shown.converted image bs long);
    }

pub changes-as : (im : Image) (e : Expr) (gs : List Given) (x : Targets) → FlattensTo im e gs x → ChangesAs im e gs x.writes
changes-as im e gs x flattens ims r a sc v part shown vector small bits one room typed path =
    changes-by im ims r e a sc v (pieces x.writes) shown (path-puts im.room im.bits a sc v e gs part path) (steady im.room im.bits a sc v e gs part path typed).tight
    (flattens a sc v part vector small bits one room typed path).path

pub changes-all : (im : Image) (e : Expr) (gs : List Given) (q : Result Targets AllocError) → IfOk q (FlattensTo im e gs) → IfOk q (λ x. ChangesAs im e gs x.writes)
changes-all im e gs (Ok x) h = changes-as im e gs x h
changes-all im e gs (Err x) h = tt
