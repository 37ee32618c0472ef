use Rattle.std.proofs.Common.{◌≡◌, subst}
use Rattle.v_tree.specs.Names.{Name}
use Rattle.name_maps.specs.Named.{signal_name, OneSignal}
use Rattle.target_flatten.specs.Owning.{AllOwn}
use Rattle.target_walk.specs.declared.never.Targets.{Targets}
use Rattle.target_lower.proofs.Stepping.{ok-both}
use Rattle.case_targets.specs.Naming.{SpreadsTo}
use Rattle.memory_lower.specs.Made.{IsAloneFor}
use Rattle.memory_lower.proofs.words.targets_alone.Goals as goal

pub returns : goal.returns
returns c =
    let inner = c.args.inner.now in
    let ps = c.args.indices.now in
    let bits = c.bounds_of.result.element in
    let name : Name = c.in_ok-name.name in
    ok-both (SpreadsTo bits inner ps) (λ (x : Targets). AllOwn name bits x.writes) (IsAloneFor c.args.names.now c.args.signal c.args.of.now inner ps) c.spread_target.result c.spread_target.ensures.writes
    c.spread_target.ensures.own
    (λ x spreads own. record {
      spreads = subst (λ k. SpreadsTo k inner ps x) c.bounds_of.ensures.element spreads;
      name = name;
      name_is = subst (λ l. OneSignal l c.args.signal → name ≡ signal_name l c.args.signal) c.as_slice.ensures c.in_ok-name.ensures;
      own = subst (λ k. AllOwn name k x.writes) c.bounds_of.ensures.element own;
    })
