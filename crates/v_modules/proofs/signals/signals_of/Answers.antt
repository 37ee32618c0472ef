use Rattle.std.proofs.Common.{◌≡◌, ◌+◌, ◌++◌, ℕ, map, drop, sym, ap, ◌∙◌, subst, arith}
use Rattle.std.specs.Map.{keys_of}
use Rattle.std.proofs.Common.{List}
use Rattle.indexmap.specs.IndexMap.{keys}
use Rattle.v_tree.specs.Names.{distinct}
use Rattle.v_tree.specs.declared.items.VItem.{VItem}
use Rattle.v_meaning.specs.Modules.{signals, numbered}
use Rattle.v_eval.specs.Names.{signal_named}
use Rattle.v_modules.specs.Named.{AllNew, counted, names_of_signals}
use Rattle.v_modules.proofs.Naming.{next-new, next-once, here-new, none-there, next-named, first-named, last-named, drop-here, drop-none}
use Rattle.v_modules.proofs.signals.signals_of.Goals as goal

pub loop-item-init : goal.loop-item-init
loop-item-init c = record {
  named = first-named c.new-signals.result.entries c.args.items.now c.new-signals.ensures.empty;
  fresh = subst (λ es. AllNew (keys_of es) (signals (drop 0 c.args.items.now))) (sym c.new-signals.ensures.empty) (none-there (signals (drop 0 c.args.items.now)));
  once = ap (λ (is : List VItem). distinct (names_of_signals (signals is))) (drop-none c.args.items.now) ∙ c.requires;
}

pub add_item-requires : goal.add_item-requires
add_item-requires c =
    let i = c.loop-item.item-index in
    let here = drop-here c.args.items.now i c.item-item.result c.loop-item-test.true c.item-item.is in
    here-new (keys c.loop-item.signals) c.item-item.result (drop (i + 1) c.args.items.now) (subst (λ (is : List VItem). AllNew (keys c.loop-item.signals) (signals is)) here c.loop-item.invariant.fresh)

pub loop-item-preserved : goal.loop-item-preserved
loop-item-preserved c =
    let i = c.loop-item.item-index in
    let rest = drop (i + 1) c.args.items.now in
    let item = c.item-item.result in
    let old = c.loop-item.signals in
    let here = drop-here c.args.items.now i item c.loop-item-test.true c.item-item.is in
    let once = ap (λ (is : List VItem). distinct (names_of_signals (signals is))) (sym here) ∙ c.loop-item.invariant.once in
    record {
      named = next-named old.entries c.add_item.new.signals.entries item rest (signals c.args.items.now) c.in_ok-add_item.ensures.named
          (subst (λ (is : List VItem). (first : ℕ) → map (signal_named first) old.entries ++ numbered (first + counted old) (signals is) ≡ numbered first (signals c.args.items.now)) here c.loop-item.invariant.named);
      fresh = subst (λ ns. AllNew ns (signals rest)) (sym c.in_ok-add_item.ensures.keys)
          (next-new (keys old) item rest (subst (λ (is : List VItem). AllNew (keys old) (signals is)) here c.loop-item.invariant.fresh) once);
      once = next-once item rest once;
    }

pub returns : goal.returns
returns c = last-named c.loop-item.signals.entries c.args.items.now c.loop-item.item-index (omega (arith, c.loop-item-test.false)) c.loop-item.invariant.named
