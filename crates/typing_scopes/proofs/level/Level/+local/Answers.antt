use Rattle.std.proofs.Common.{nat_eq, ◌++◌, Option, sym, ap, ◌∙◌}
use Rattle.std.specs.Borrow.{Bor}
use Rattle.std.specs.Option.{option_copied}
use Rattle.frame_things.specs.declared.things.NamedLocal.{NamedLocal}
use Rattle.typing_scopes.specs.declared.level.Level.{Level, out-Level}
use Rattle.typing_scopes.specs.Scopes.{lists}
use Rattle.typing_scopes.proofs.Levels.{found-here, found-around, level-locals, outer_lists}
use Rattle.typing_scopes.proofs.level.Level.+local.Goals as goal

pub returns-in-Some : goal.returns-in-Some
returns-in-Some t c =
    let own = (out-Level c.args.self.now).locals in
    let rest = (outer_lists (out-Level c.args.self.now).outer).locals in
    found-here (λ (x : NamedLocal). nat_eq x.decl c.args.declaration) own rest (lists c.args.self.now).locals c.in-Some.local.now (level-locals c.args.self.now)
    (sym (ap option_copied c.in-Some.is) ∙ c.find.ensures)

pub returns-in-Some-outer : goal.returns-in-Some-outer
returns-in-Some-outer t c =
    let own = (out-Level c.args.self.now).locals in
    let rest = (lists c.in-Some-outer.outer.now).locals in
    found-around (λ (x : NamedLocal). nat_eq x.decl c.args.declaration) own rest (lists c.args.self.now).locals (option_copied c.local.result)
    (level-locals c.args.self.now ∙ ap (λ (o : Option (Bor Level)). own ++ (outer_lists o).locals) c.in-Some-outer.is) (sym (ap option_copied c.in-None.is) ∙ c.find.ensures) c.local.ensures
