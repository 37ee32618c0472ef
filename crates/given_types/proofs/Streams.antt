-- A stream that is given to a type.
use Rattle.std.proofs.Common.{◌≡◌, ◌<◌, ◌≤◌, ℕ, Bool, true, false, Option, Some, refl, arith}
use Rattle.std.specs.Prelude.{Ok, nat_lt}
use Rattle.std.proofs.lemmas.Bool.Decides.{nat_tests}
use Rattle.sv_types.specs.declared.types.SvType.{SvType}
use Rattle.sv_types.specs.Layouts.{width_of}
use Rattle.expr_type.specs.declared.operand.Valued.{Valued}
use Rattle.expr_type.specs.Answers.{reason}
use Rattle.expr_type.specs.Names.{Source, position}
use Rattle.expr_type.specs.Operands.{is_streamed, width}
use Rattle.expr_type.specs.Typings.{refused}

by-tests : (k : Source) (v : Valued) (a b : Bool) → a ≡ false → b ≡ true
    → reason (refused a (position k v.first) 501 (refused b (position k v.first) 701 (Ok v.expr))) ≡ Some (Some (record { at = v.first; rule = 701 }))
by-tests k v false true e f = refl
by-tests k v false false e f = cc
by-tests k v true b e f = cc

shorter : (k : Source) (v : Valued) (a b : Bool) → a ≡ true
    → reason (refused a (position k v.first) 501 (refused b (position k v.first) 701 (Ok v.expr))) ≡ Some (Some (record { at = v.first; rule = 501 }))
shorter k v true b e = refl
shorter k v false b e = cc

whole : (k : Source) (v : Valued) (a b : Bool) → a ≡ false → b ≡ false
    → refused a (position k v.first) 501 (refused b (position k v.first) 701 (Ok v.expr)) ≡ Ok v.expr
whole k v false false e f = refl
whole k v false true e f = cc
whole k v true b e f = cc

pub streamed-wide : (k : Source) (t : SvType) (v : Valued) → width v ≤ 65536 → nat_lt 65536 (width_of t) ≡ true
    → reason (is_streamed k t v) ≡ Some (Some (record { at = v.first; rule = 701 }))
streamed-wide k t v n w =
    let short : nat_lt (width_of t) (width v) ≡ false = grind (arith, nat_tests) in
    by-tests k v (nat_lt (width_of t) (width v)) (nat_lt 65536 (width_of t)) short w

pub streamed-short : (k : Source) (t : SvType) (v : Valued) → width_of t < width v
    → reason (is_streamed k t v) ≡ Some (Some (record { at = v.first; rule = 501 }))
streamed-short k t v n =
    let short : nat_lt (width_of t) (width v) ≡ true = grind (arith, nat_tests) in
    shorter k v (nat_lt (width_of t) (width v)) (nat_lt 65536 (width_of t)) short

pub streamed-fine : (k : Source) (t : SvType) (v : Valued) → nat_lt 65536 (width_of t) ≡ false → width v ≤ width_of t
    → is_streamed k t v ≡ Ok v.expr
streamed-fine k t v w n =
    let long : nat_lt (width_of t) (width v) ≡ false = grind (arith, nat_tests) in
    whole k v (nat_lt (width_of t) (width v)) (nat_lt 65536 (width_of t)) long w

pub ruleset streaming = (streamed-wide, streamed-short, streamed-fine)
