use Rattle.std.proofs.Common.{rules, ◌≡◌, ◌∙◌}
use Rattle.std.specs.Str.{bytes_eq}
use Rattle.indexmap.specs.IndexMap.{get}
use Rattle.v_eval.proofs.Naming.{placed}
use Rattle.v_eval.proofs.scopes.Scope.function.Goals as goal

pub returns : goal.returns
returns c =
    let m = c.args.self.now.module.now in
    let found : c.copied.result ≡ get bytes_eq m.functions c.args.name.now = search rules in
    placed m.items.now c.args.name.now c.copied.result (found ∙ m.indexed c.args.name.now)
