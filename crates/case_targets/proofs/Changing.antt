-- What writes through a typed path change in the images of signals and locals.
use Rattle.std.proofs.Common.{◌≡◌, ℕ, Bool, List}
use Rattle.row_machine.specs.Valuation.{Valuation}
use Rattle.sv_types.specs.declared.expression.Expr.{Expr}
use Rattle.sv_types.specs.declared.types.SvType.{SvType}
use Rattle.sv_types.specs.Surroundings.{Around}
use Rattle.sv_types.specs.Meanings as S
use Rattle.sv_types.specs.Expressions.{meaning}
use Rattle.eval_parts.proofs.Selecting.{same-Signal, same-Local, same-Member, same-Index, same-Part, same-Slide}
use Rattle.v_meaning.specs.Scopes.{Scope, named}
use Rattle.lowering_laws.specs.Agreeing.{Images}
use Rattle.lowering_laws.specs.Reached.{Piece, IsWritten}
use Rattle.lowering_laws.proofs.Changes.{HasPieces}
use Rattle.target_flatten.specs.declared.writes.Image.{Image}
use Rattle.target_walk.specs.Changing.{IsShownBy}
use Rattle.target_walk.proofs.Changing.{Puts, puts-by, signal-puts, local-puts, member-puts, index-puts, part-puts, slide-puts, changes-by}
use Rattle.typed_paths.specs.Typed.{Indexing, IsTypedPath, of_signal, of_local, of_member, of_index, of_part, of_slide}
use Rattle.filled_paths.proofs.Emptying.{typed-tight}

typed-puts : (number : ℕ) (t : SvType) (e : Expr) (xs : List Indexing) (part : Bool) → IsTypedPath number t e xs part → Puts (meaning e)
typed-puts number t e xs part (of_signal y n is it of) = puts-by y _ (same-Signal y n is) (signal-puts _ _ n)
typed-puts number t e xs part (of_local y n is it of) = puts-by y _ (same-Local y n is) (local-puts _ _ n)
typed-puts number t e xs part (of_member y from k ys is path) = puts-by y _ (same-Member y from k is) (member-puts _ _ (meaning from) k)
typed-puts number t e xs part (of_index y from i ys b is has path) = puts-by y _ (same-Index y from i is) (index-puts _ _ (meaning from) (meaning i))
typed-puts number t e xs part (of_part y from left right ys b is has bounds path) = puts-by y _ (same-Part y from left right is) (part-puts _ _ (meaning from) left right)
typed-puts number t e xs part (of_slide y from i n up ys b is has bounds path) = puts-by y _ (same-Slide y from i n up is) (slide-puts _ _ (meaning from) (meaning i) n up)

pub typed-changes : (im : Image) (ims : Images) (r : ℕ) (number : ℕ) (t : SvType) (e : Expr) (xs : List Indexing) (part : Bool) (a : Around) (sc : Scope) (v : Valuation) (ps : List Piece)
    → IsTypedPath number t e xs part → (meaning e).misfits ≡ 0 → IsShownBy im ims r e a sc → IsWritten ((meaning e).window a) (S.wide (meaning e)) (named sc.names im.name).number ps sc v → HasPieces ims (meaning e) ps a sc v
typed-changes im ims r number t e xs part a sc v ps path typed shown h =
    changes-by im ims r e a sc v ps shown (typed-puts number t e xs part path) (typed-tight number t e xs part a path typed) h
