use Rattle.frame_things.proofs.Grown.{local-found}
use Rattle.frame_things.proofs.things.Things.local.Goals as goal

pub returns : goal.returns
returns c = local-found (λ l. l.now) c.find.result c.args.declaration c.args.self.now.locals c.find.ensures
