use Rattle.std.proofs.Common.{◌≡◌, true, false, sym, ◌∙◌, subst}
use Rattle.element_paths.specs.Elements.{FindsElement}
use Rattle.name_maps.specs.Named.{is_memory, OneSignal}
use Rattle.memory_lower.proofs.Choosing.{vector-without, vector-with}
use Rattle.memory_lower.proofs.written.element_in_memory.Goals as goal

pub returns-in-None : goal.returns-in-None
returns-in-None c = vector-without c.args.names.now c.args.e.now c.requires.typed (subst (λ o. FindsElement o c.args.e.now) c.in-None.is c.element_under.ensures)

pub returns-then-is_memory : goal.returns-then-is_memory
returns-then-is_memory c =
    let x = c.in-Some.element in
    record {
      goes = subst (λ o. FindsElement o c.args.e.now) c.in-Some.is c.element_under.ensures;
      memory = subst (λ l. OneSignal l x.signal → is_memory l x.signal ≡ true) c.as_slice.ensures (λ one. sym (c.is_memory.ensures one) ∙ c.if-is_memory.true);
    }

pub returns-else-is_memory : goal.returns-else-is_memory
returns-else-is_memory c =
    let x = c.in-Some.element in
    vector-with c.args.names.now x.signal x.of.now x.index.now c.args.e.now (subst (λ o. FindsElement o c.args.e.now) c.in-Some.is c.element_under.ensures)
    (subst (λ l. OneSignal l x.signal → is_memory l x.signal ≡ false) c.as_slice.ensures (λ one. sym (c.is_memory.ensures one) ∙ c.if-is_memory.false))
