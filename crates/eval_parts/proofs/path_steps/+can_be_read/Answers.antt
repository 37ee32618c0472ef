use Rattle.eval_parts.proofs.Roots.{can-Signal, can-Local, can-Member, can-Index, can-Part, can-Slide}
use Rattle.eval_parts.proofs.path_steps.+can_be_read.Goals as goal

pub returns-in-Some-Signal : goal.returns-in-Some-Signal
returns-in-Some-Signal t c = let h = rw c.in-Some-Signal.field-0-is at c.in-Some-Signal.ensures.step in can-Signal c.args.e.now _ _ _ h c.is_filled.ensures.low c.is_filled.ensures.value

pub returns-in-Some-Local : goal.returns-in-Some-Local
returns-in-Some-Local t c = let h = rw c.in-Some-Local.field-0-is at c.in-Some-Local.ensures.step in can-Local c.args.e.now _ _ h

pub returns-in-Some-Member : goal.returns-in-Some-Member
returns-in-Some-Member t c = let h = rw c.in-Some-Member.field-0-is at c.in-Some-Member.ensures.step in can-Member c.args.e.now _ _ _ _ h c.can_be_read.ensures

pub returns-in-Some-Index : goal.returns-in-Some-Index
returns-in-Some-Index t c = let h = rw c.in-Some-Index.field-0-is at c.in-Some-Index.ensures.step in can-Index c.args.e.now _ _ _ _ h c.can_be_read-in-Some-Index.ensures

pub returns-in-Some-Part : goal.returns-in-Some-Part
returns-in-Some-Part t c = let h = rw c.in-Some-Part.field-0-is at c.in-Some-Part.ensures.step in can-Part c.args.e.now _ _ _ _ _ h c.can_be_read-in-Some-Part.ensures

pub returns-in-Some-Slide : goal.returns-in-Some-Slide
returns-in-Some-Slide t c = let h = rw c.in-Some-Slide.field-0-is at c.in-Some-Slide.ensures.step in can-Slide c.args.e.now _ _ _ _ _ _ h c.can_be_read-in-Some-Slide.ensures
