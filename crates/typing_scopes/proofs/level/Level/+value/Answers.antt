use Rattle.std.proofs.Common.{nat_eq, ◌++◌, Option, sym, ap, ◌∙◌}
use Rattle.std.specs.Borrow.{Bor}
use Rattle.std.specs.Option.{option_copied}
use Rattle.sv_types.specs.declared.frame.ParamValue.{ParamValue}
use Rattle.typing_scopes.specs.declared.level.Level.{Level, out-Level}
use Rattle.typing_scopes.specs.Scopes.{lists}
use Rattle.typing_scopes.proofs.Levels.{found-here, found-around, level-values, outer_lists}
use Rattle.typing_scopes.proofs.level.Level.+value.Goals as goal

pub returns-in-Some : goal.returns-in-Some
returns-in-Some t c =
    let own = (out-Level c.args.self.now).values in
    let rest = (outer_lists (out-Level c.args.self.now).outer).values in
    found-here (λ (x : ParamValue). nat_eq x.decl c.args.declaration) own rest (lists c.args.self.now).values c.in-Some.value.now (level-values c.args.self.now)
    (sym (ap option_copied c.in-Some.is) ∙ c.find.ensures)

pub returns-in-Some-outer : goal.returns-in-Some-outer
returns-in-Some-outer t c =
    let own = (out-Level c.args.self.now).values in
    let rest = (lists c.in-Some-outer.outer.now).values in
    found-around (λ (x : ParamValue). nat_eq x.decl c.args.declaration) own rest (lists c.args.self.now).values (option_copied c.value.result)
    (level-values c.args.self.now ∙ ap (λ (o : Option (Bor Level)). own ++ (outer_lists o).values) c.in-Some-outer.is) (sym (ap option_copied c.in-None.is) ∙ c.find.ensures) c.value.ensures
