-- One settling after another, from the same base.
use Rattle.std.proofs.Common.{◌≡◌, Bool, true, false, List, sym, ◌∙◌, subst}
use Rattle.b4_core.specs.declared.bit.Bit4.{Bit4}
use Rattle.row_machine.specs.Valuation.{Valuation}
use Rattle.row_machine.specs.Machine.{Machine, Started}
use Rattle.row_machine.specs.Settle.{SettlesBy, ends, goes_on, adds, woken}
use Rattle.row_machine.specs.Rounds.{Reaches}
use Rattle.row_machine.specs.Unsettled.{SettlingFails, fails, fails_later}
use Rattle.round_runner.specs.declared.rounds.Change.{Change}
use Rattle.round_runner.specs.Stores.{holding}
use Rattle.round_runner.specs.Parts.{Marks}
use Rattle.round_runner.specs.Rounds.{ComeToRest, GoOn}
use Rattle.round_runner.specs.Settling.{Woken, Settles, Fails}

-- what settling from one set comes to, settling from another one does
pub record Leads (d : Machine) (base : Valuation) (s u : Started) : Type 0 where
  pub ends : (t : Started) (v : Valuation) → SettlesBy (Reaches d) d base u t v → SettlesBy (Reaches d) d base s t v
  pub fails : (t : Started) → SettlingFails d base u t → SettlingFails d base s t

pub record Onward (d : Machine) (base : List (List Bit4)) (before flags : List Bool) : Type 0 where
  pub leads : (s : Started) → Marks d.combs s before → (u : Started) × Marks d.combs u flags × Leads d (holding base) s u

pub onward_at_start : (d : Machine) (base : List (List Bit4)) (flags : List Bool) → Onward d base flags flags
onward_at_start d base flags = record { leads = λ s m. (s, m, record { ends = λ t v h. h; fails = λ t h. h }) }

pub onward_more : (d : Machine) (base now : List (List Bit4)) (before flags next : List Bool) (answer : Bool) → ComeToRest d flags base now → Woken d now flags next answer → answer ≡ true
    → Onward d base before flags → Onward d base before next
onward_more d base now before flags next answer rest more so onward = record {
  leads = λ s m.
      let u = onward.leads s m in
      let goes : adds d (holding now) u.0 ≡ true = sym (more.added u.0 u.1) ∙ so in (
        woken d (holding now) u.0,
        more.marks u.0 u.1,
        record {
          ends = λ t v h. u.2.ends t v (goes_on (rest.reached u.0 u.1) goes h);
          fails = λ t h. u.2.fails t (fails_later (rest.reached u.0 u.1) goes h);
        },
      );
}

pub settles_here : (d : Machine) (base now : List (List Bit4)) (before flags next : List Bool) (answer : Bool) → ComeToRest d flags base now → Woken d now flags next answer → answer ≡ false
    → Onward d base before flags → Settles d base before next now
settles_here d base now before flags next answer rest more isnt onward = record {
  ends = λ s m.
      let u = onward.leads s m in
      let over : adds d (holding now) u.0 ≡ false = sym (more.added u.0 u.1) ∙ isnt in
      (u.0, subst (Marks d.combs u.0) (sym (more.kept isnt)) u.1, u.2.ends u.0 (holding now) (ends (rest.reached u.0 u.1) over));
  shape = rest.shape;
}

pub fails_here : (d : Machine) (base : List (List Bit4)) (before flags : List Bool) (c : Change) → GoOn d flags base c → Onward d base before flags → Fails d base before c
fails_here d base before flags c going onward = record {
  fails = λ s m.
      let u = onward.leads s m in
      (u.0, u.2.fails u.0 (fails (going.never u.0 u.1)), going.last u.0 u.1);
}
