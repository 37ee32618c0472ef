use Rattle.std.proofs.Common.{◌≡◌, Some, sym, ◌∙◌}
use Rattle.frame_things.specs.Members.{number_in}
use Rattle.frame_things.proofs.Naming.{under-put}
use Rattle.frame_things.proofs.members.put.Goals as goal

pub returns : goal.returns
returns c =
    let has : number_in c.args.names.now c.args.member.now ≡ Some c.in-Some.number = sym c.number.ensures ∙ c.in-Some.is in
    under-put c.args.names.now c.args.slots.now c.put.new.self c.args.decl c.args.member.now c.in-Some.number c.args.place has c.in_ok-put.ensures
