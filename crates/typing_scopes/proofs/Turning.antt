-- Parts in a row, one more after the other, each looked at by what those before it are.
use Rattle.std.proofs.Common.{◌≡◌, ℕ, List, Option, Some, None, refl, subst}
use Rattle.std.specs.Prelude.{Result, Ok, Err}
use Rattle.sv_types.specs.declared.statement.Function.{Function}
use Rattle.expr_type.specs.declared.halt.Halt.{Halt}
use Rattle.expr_type.specs.declared.halt.Halt.TheVariants as H
use Rattle.expr_type.specs.Typings.{Typed, Typing, beside_by, both_by, whole}
use Rattle.typing_steps.specs.Steps.{StopsBy, TypesTo}
use Rattle.typing_steps.proofs.Combining.{checked-fine, checked-stops}
use Rattle.typing_steps.proofs.Following.{by-fine, by-breaks, by-second, by-quiet, by-behind-quiet}
use Rattle.typing_scopes.specs.Ahead.{AheadQuiet, AheadWhole, halted, mapped}

module _ {A D E : Type 0} (x : Typing A) (y : Option A → Typing D) (join : A → D → E) where
  abbrev put_both : A × D → Typing E
  put_both p = whole (join p.0 p.1)

  -- a part and the rest behind it
  abbrev pub turn : Typing E
  turn = both_by x y (λ a d. whole (join a d))

  -- the part is whole
  pub whole-turn : (a : A) (r : Result D Halt) (fs gs hs : List Function) → TypesTo (Ok a) (x fs) gs → TypesTo r (y (Some a) gs) hs → TypesTo (mapped (join a) r) (turn fs) hs
  whole-turn a (Ok d) fs gs hs p q = checked-fine (beside_by x y) put_both fs hs hs (a, d) (Ok (join a d)) (by-fine x y fs gs hs a d p q) refl
  whole-turn a (Err h) fs gs hs p q = checked-stops (beside_by x y) put_both fs hs h (by-second x y fs gs hs a h p q)

  -- it breaks nothing and isn't whole
  pub quiet-turn : (r : Result D Halt) (fs gs hs : List Function) → TypesTo {A = A} (Err H.Quiet) (x fs) gs → TypesTo r (y None gs) hs → TypesTo {A = E} (Err (halted r)) (turn fs) hs
  quiet-turn (Ok d) fs gs hs p q = checked-stops (beside_by x y) put_both fs hs H.Quiet (by-quiet x y fs gs hs d p q)
  quiet-turn (Err h) fs gs hs p q = checked-stops (beside_by x y) put_both fs hs h (by-behind-quiet x y fs gs hs h p q)

  -- it breaks a rule
  pub broken-turn : (at n : ℕ) (fs gs hs : List Function) → TypesTo {A = A} (Err (H.Breaks at n)) (x fs) gs → TypesTo {A = E} (Err (H.Breaks at n)) (turn fs) hs
  broken-turn at n fs gs hs p = checked-stops (beside_by x y) put_both fs hs (H.Breaks at n) (by-breaks x y fs gs hs at n p)

  module _ {F : Type 0} (put : E → F) (row : Typed F) (fs gs : List Function) where
    mapped-twice : (a : A) (r : Result D Halt) (hs : List Function) → TypesTo (mapped put (mapped (join a) r)) row hs → TypesTo (mapped (λ (d : D). put (join a d)) r) row hs
    mapped-twice a (Ok d) hs p = p
    mapped-twice a (Err h) hs p = p

    -- behind what is whole
    pub ahead-whole : (a : A) → AheadWhole put turn row fs → TypesTo (Ok a) (x fs) gs → AheadWhole (λ (d : D). put (join a d)) (y (Some a)) row gs
    ahead-whole a so_far p r hs q = mapped-twice a r hs (so_far (mapped (join a) r) hs (whole-turn a r fs gs hs p q))

    pub ahead-quiet : AheadWhole put turn row fs → TypesTo {A = A} (Err H.Quiet) (x fs) gs → AheadQuiet (y None) row gs
    ahead-quiet so_far p r hs q = so_far (Err (halted r)) hs (quiet-turn r fs gs hs p q)

    pub ahead-breaks : (at n : ℕ) → AheadWhole put turn row fs → TypesTo {A = A} (Err (H.Breaks at n)) (x fs) gs → (hs : List Function) → StopsBy (H.Breaks at n) row hs
    ahead-breaks at n so_far p hs = so_far (Err (H.Breaks at n)) hs (broken-turn at n fs gs hs p)

  module _ {F : Type 0} (row : Typed F) (fs gs : List Function) where
    halted-mapped : (a : A) (r : Result D Halt) (hs : List Function) → TypesTo {A = F} (Err (halted (mapped (join a) r))) row hs → TypesTo {A = F} (Err (halted r)) row hs
    halted-mapped a (Ok d) hs p = p
    halted-mapped a (Err h) hs p = p

    -- behind what breaks nothing and isn't whole
    pub behind-whole : (a : A) → AheadQuiet turn row fs → TypesTo (Ok a) (x fs) gs → AheadQuiet (y (Some a)) row gs
    behind-whole a so_far p r hs q = halted-mapped a r hs (so_far (mapped (join a) r) hs (whole-turn a r fs gs hs p q))

    pub behind-quiet : AheadQuiet turn row fs → TypesTo {A = A} (Err H.Quiet) (x fs) gs → AheadQuiet (y None) row gs
    behind-quiet so_far p r hs q = so_far (Err (halted r)) hs (quiet-turn r fs gs hs p q)

    pub behind-breaks : (at n : ℕ) → AheadQuiet turn row fs → TypesTo {A = A} (Err (H.Breaks at n)) (x fs) gs → (hs : List Function) → StopsBy (H.Breaks at n) row hs
    behind-breaks at n so_far p hs = so_far (Err (H.Breaks at n)) hs (broken-turn at n fs gs hs p)

-- nothing is left of the row
pub ahead-end : {D E : Type 0} (d : D) (put : D → E) (row : Typed E) (fs : List Function) → AheadWhole put (whole d) row fs → TypesTo (Ok (put d)) row fs
ahead-end d put row fs so_far = so_far (Ok d) fs refl

pub behind-end : {D E : Type 0} (d : D) (row : Typed E) (fs : List Function) → AheadQuiet (whole d) row fs → TypesTo {A = E} (Err H.Quiet) row fs
behind-end d row fs so_far = so_far (Ok d) fs refl

-- before the row nothing is done
pub ahead-start : {D : Type 0} (row : Typing D) (fs : List Function) → AheadWhole (λ (d : D). d) row (row fs) fs
ahead-start row fs (Ok d) gs p = p
ahead-start row fs (Err h) gs p = p

-- what is made of the rest may be said in another way
mapped-alike : {D E : Type 0} (put other : D → E) (r : Result D Halt) (row : Typed E) (gs : List Function) → ((d : D) → put d ≡ other d) → TypesTo (mapped put r) row gs → TypesTo (mapped other r) row gs
mapped-alike {E = E} put other (Ok d) row gs same p = subst (λ (e : E). TypesTo (Ok e) row gs) (same d) p
mapped-alike put other (Err h) row gs same p = p

pub ahead-alike : {D E : Type 0} (put other : D → E) (rest : Typing D) (row : Typed E) (fs : List Function) → ((d : D) → put d ≡ other d) → AheadWhole put rest row fs → AheadWhole other rest row fs
ahead-alike put other rest row fs same so_far r gs p = mapped-alike put other r row gs same (so_far r gs p)
