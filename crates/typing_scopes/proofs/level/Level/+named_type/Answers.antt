use Rattle.std.proofs.Common.{nat_eq, ◌++◌, Option, sym, ap, ◌∙◌}
use Rattle.std.specs.Borrow.{Bor}
use Rattle.std.specs.Option.{option_copied}
use Rattle.sv_types.specs.declared.frame.ParamType.{ParamType}
use Rattle.typing_scopes.specs.declared.level.Level.{Level, out-Level}
use Rattle.typing_scopes.specs.Scopes.{lists}
use Rattle.typing_scopes.proofs.Levels.{found-here, found-around, level-types, outer_lists}
use Rattle.typing_scopes.proofs.level.Level.+named_type.Goals as goal

pub returns-in-Some : goal.returns-in-Some
returns-in-Some t c =
    let own = (out-Level c.args.self.now).types in
    let rest = (outer_lists (out-Level c.args.self.now).outer).types in
    found-here (λ (x : ParamType). nat_eq x.decl c.args.declaration) own rest (lists c.args.self.now).types c.in-Some.named.now (level-types c.args.self.now)
    (sym (ap option_copied c.in-Some.is) ∙ c.find.ensures)

pub returns-in-Some-outer : goal.returns-in-Some-outer
returns-in-Some-outer t c =
    let own = (out-Level c.args.self.now).types in
    let rest = (lists c.in-Some-outer.outer.now).types in
    found-around (λ (x : ParamType). nat_eq x.decl c.args.declaration) own rest (lists c.args.self.now).types (option_copied c.named_type.result)
    (level-types c.args.self.now ∙ ap (λ (o : Option (Bor Level)). own ++ (outer_lists o).types) c.in-Some-outer.is) (sym (ap option_copied c.in-None.is) ∙ c.find.ensures) c.named_type.ensures
