-- What is written of a path, by its last step.
use Rattle.std.proofs.Common.{◌≡◌, ℕ, ◌≤◌, Bool, false, ℤ, List, None, Result, Ok, Err, IfOk, arith, sym, ◌∙◌, subst}
use Rattle.std.specs.declared.alloc.AllocError.{AllocError}
use Rattle.sv_types.specs.declared.expression.Expr.{Expr}
use Rattle.sv_types.specs.declared.expression.Form.TheVariants as V
use Rattle.sv_types.specs.Layouts.{width_of}
use Rattle.sv_types.specs.Meanings as S
use Rattle.sv_types.specs.Expressions.{meaning}
use Rattle.sv_types.proofs.Heads.{heads}
use Rattle.sv_types.proofs.Widths.{wide-widest}
use Rattle.path_flatten.proofs.Sees.{stays-of}
use Rattle.target_flatten.specs.declared.spots.Spot.{Spot}
use Rattle.target_flatten.specs.declared.writes.Image.{Image}
use Rattle.target_flatten.specs.declared.writes.Write.{Write}
use Rattle.target_flatten.specs.Naming.{NamesWrites}
use Rattle.target_flatten.specs.Writing.{WritesWhole, WritesBetween}
use Rattle.target_walk.specs.declared.given.Given.{Given}
use Rattle.target_walk.specs.Giving.{FitsAt, all_names}
use Rattle.target_walk.specs.Walking.{Indexed, StandsAt, TellsPart, WritesAs, WritesAll}
use Rattle.target_walk.proofs.Inverting.{of-Part}
use Rattle.target_walk.proofs.Limiting.{own-wide}
use Rattle.target_walk.proofs.Taking.{takes-Part, steady}

-- a path that is no part-select
whole-one : (im : Image) (e : Expr) (gs : List Given) (s : Spot) (n : ℕ) (xs : List Write) → StandsAt e gs None im.room s → n ≡ width_of e.of → WritesWhole im.bits s n im.room xs → NamesWrites s xs
    → WritesAs im e gs false xs
whole-one im e gs s n xs stands size whole names vec a sc v vector small one room typed path =
    let h = stands a sc v im.bits small room typed path in
    let own = steady im.room im.bits a sc v e gs false path typed in
    record {
      path = whole vec (meaning e) a sc v vector small one room (own-wide e ∙ sym size) (stays-of ((meaning e).window a) (S.wide (meaning e)) own.tight) h.0;
      names = names (all_names gs sc) sc h.1;
    }

pub whole-written : (im : Image) (e : Expr) (gs : List Given) (s : Spot) (n : ℕ) (r : Result (List Write) AllocError) → StandsAt e gs None im.room s → n ≡ width_of e.of
    → IfOk r (WritesWhole im.bits s n im.room) → IfOk r (NamesWrites s) → IfOk r (WritesAs im e gs false)
whole-written im e gs s n (Ok xs) stands size whole names = whole-one im e gs s n xs stands size whole names
whole-written im e gs s n (Err x) stands size whole names = tt

-- elements between two bounds of such a path
between-one : (im : Image) (e from : Expr) (left right : ℤ) (gs : List Given) (s : Spot) (xs : List Write) → e.form ≡ V.Part from left right → TellsPart false from → (meaning e).widest ≤ 4194304
    → StandsAt from gs None im.room s → WritesBetween im.bits s from.of left right im.room xs → NamesWrites s xs → WritesAll im e gs xs
between-one im e from left right gs s xs is tells narrow stands between names part vec a sc v vector small one room typed path =
    let h = of-Part (FitsAt im.room) im.bits a sc v e from left right gs part is path in
    let t = takes-Part e from left right a is typed in
    let rest = subst (λ b. Indexed im.room im.bits a sc v from gs b) (tells im.room im.bits a sc v gs h.inner h.rest) h.rest in
    let r = stands a sc v im.bits small room t.typed rest in
    let own = steady im.room im.bits a sc v from gs false rest t.typed in
    let wide = wide-widest e in
    record {
      path = between vec (meaning e) (meaning from) a sc v vector small one room (heads from).kind t.step t.wide (omega arith) own.some (stays-of ((meaning from).window a) (S.wide (meaning from)) own.tight) r.0;
      names = names (all_names gs sc) sc r.1;
    }

pub between-written : (im : Image) (e from : Expr) (left right : ℤ) (gs : List Given) (s : Spot) (r : Result (List Write) AllocError) → e.form ≡ V.Part from left right → TellsPart false from → (meaning e).widest ≤ 4194304
    → StandsAt from gs None im.room s → IfOk r (WritesBetween im.bits s from.of left right im.room) → IfOk r (NamesWrites s) → IfOk r (WritesAll im e gs)
between-written im e from left right gs s (Ok xs) is tells narrow stands between names = between-one im e from left right gs s xs is tells narrow stands between names
between-written im e from left right gs s (Err x) is tells narrow stands between names = tt

-- by whether the last step is a part-select
told-one : (im : Image) (e : Expr) (gs : List Given) (b : Bool) (xs : List Write) → TellsPart b e → WritesAs im e gs b xs → WritesAll im e gs xs
told-one im e gs b xs tells writes part vec a sc v vector small one room typed path =
    let same = tells im.room im.bits a sc v gs part path in
    writes vec a sc v vector small one room typed (subst (λ c. Indexed im.room im.bits a sc v e gs c) same path)

pub told-writes : (im : Image) (e : Expr) (gs : List Given) (b : Bool) (r : Result (List Write) AllocError) → TellsPart b e → IfOk r (WritesAs im e gs b) → IfOk r (WritesAll im e gs)
told-writes im e gs b (Ok xs) tells writes = told-one im e gs b xs tells writes
told-writes im e gs b (Err x) tells writes = tt
