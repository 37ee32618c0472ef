use Rattle.eval_forms.proofs.Narrowness.{narrow-value, narrow-range}
use Rattle.eval_forms.proofs.asking.push_choice.Goals as goal

pub push_compared-requires-clause-right : goal.push_compared-requires-clause-right
push_compared-requires-clause-right c = narrow-value c.args.choice.now _ c.in-Value.is c.requires.right

pub push_compared-requires-in-Range-clause-right : goal.push_compared-requires-in-Range-clause-right
push_compared-requires-in-Range-clause-right c = (narrow-range c.args.choice.now _ _ c.in-Range.is c.requires.right).0

pub push_compared-requires-in-Range-2-clause-right : goal.push_compared-requires-in-Range-2-clause-right
push_compared-requires-in-Range-2-clause-right c = (narrow-range c.args.choice.now _ _ c.in-Range.is c.requires.right).1
