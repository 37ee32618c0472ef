use Rattle.std.proofs.Common.{refl}
use Rattle.loop_rules.proofs.Roots as R
use Rattle.loop_rules.proofs.targets.+stands_on.Goals as goal

pub returns-in-None : goal.returns-in-None
returns-in-None t c = R.stands-nowhere c.args.e.now c.args.number c.in-None.ensures.step.root

pub returns-in-Some-Signal : goal.returns-in-Some-Signal
returns-in-Some-Signal t c = let h = rw c.in-Some-Signal.field-0-is at c.in-Some-Signal.ensures.step in R.stands-Signal c.args.e.now _ c.args.number _ h refl

pub returns-in-Some-Local : goal.returns-in-Some-Local
returns-in-Some-Local t c = let h = rw c.in-Some-Local.field-0-is at c.in-Some-Local.ensures.step in R.stands-Local c.args.e.now _ c.args.number _ h refl

pub returns-in-Some-Member : goal.returns-in-Some-Member
returns-in-Some-Member t c = let h = rw c.in-Some-Member.field-0-is at c.in-Some-Member.ensures.step in R.stands-Member c.args.e.now _ _ c.args.number _ h c.stands_on.ensures

pub returns-in-Some-Index : goal.returns-in-Some-Index
returns-in-Some-Index t c = let h = rw c.in-Some-Index.field-0-is at c.in-Some-Index.ensures.step in R.stands-Index c.args.e.now _ _ c.args.number _ h c.stands_on-in-Some-Index.ensures

pub returns-in-Some-Part : goal.returns-in-Some-Part
returns-in-Some-Part t c = let h = rw c.in-Some-Part.field-0-is at c.in-Some-Part.ensures.step in R.stands-Part c.args.e.now _ _ _ c.args.number _ h c.stands_on-in-Some-Part.ensures

pub returns-in-Some-Slide : goal.returns-in-Some-Slide
returns-in-Some-Slide t c = let h = rw c.in-Some-Slide.field-0-is at c.in-Some-Slide.ensures.step in R.stands-Slide c.args.e.now _ _ _ _ c.args.number _ h c.stands_on-in-Some-Slide.ensures
