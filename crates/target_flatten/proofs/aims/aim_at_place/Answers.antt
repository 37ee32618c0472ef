use Rattle.std.proofs.Common.{arith}
use Rattle.v_meaning.specs.Values.{meaning}
use Rattle.target_flatten.specs.Writing.{select_at}
use Rattle.target_flatten.proofs.Naming.{aim-only, aim-select}
use Rattle.target_flatten.proofs.Owning.{own-bare, own-selected, selects-none, selects-one}
use Rattle.target_flatten.proofs.Writing.{placed-only, placed-select}
use Rattle.target_flatten.proofs.aims.aim_at_place.Goals as goal

pub returns-in_ok-made-clause-aims : goal.returns-in_ok-made-clause-aims
returns-in_ok-made-clause-aims c =
    placed-only c.args.image.now.bits c.args.place c.args.n c.args.image.now.room c.in_ok-made.made (omega arith) c.in_ok-made.ensures.guard
    (selects-none c.args.image.now.name c.in_ok-made.made.to c.in_ok-made.ensures.is)

pub returns-in_ok-made-2-clause-aims : goal.returns-in_ok-made-2-clause-aims
returns-in_ok-made-2-clause-aims c =
    let s = c.in_ok-made-2.ensures.is in
    placed-select c.args.image.now.bits c.args.place c.args.n c.args.image.now.room c.in_ok-made-2.made c.in_ok-made-2.ensures.guard
    (selects-one c.args.image.now.name s.sel (select_at (meaning c.args.place.offset) c.args.n) c.in_ok-made-2.made.to s.means s.is)

pub returns-in_ok-made-clause-names : goal.returns-in_ok-made-clause-names
returns-in_ok-made-clause-names c = aim-only c.args.image.now.name c.args.place c.args.image.now.room c.in_ok-made.made c.in_ok-made.ensures.guard c.in_ok-made.ensures.to

pub returns-in_ok-made-2-clause-names : goal.returns-in_ok-made-2-clause-names
returns-in_ok-made-2-clause-names c = aim-select c.args.image.now.name c.args.place c.args.n c.in_ok-made-2.made c.in_ok-made-2.ensures.guard c.in_ok-made-2.ensures.to

pub returns-in_ok-made-clause-own : goal.returns-in_ok-made-clause-own
returns-in_ok-made-clause-own c = own-bare c.args.image.now.name c.args.image.now.bits c.in_ok-made.made.to c.in_ok-made.ensures.is

pub returns-in_ok-made-2-clause-own : goal.returns-in_ok-made-2-clause-own
returns-in_ok-made-2-clause-own c = own-selected c.args.image.now.name c.args.image.now.bits (select_at (meaning c.args.place.offset) c.args.n) c.in_ok-made-2.made.to (λ h. omega arith) c.in_ok-made-2.ensures.is
