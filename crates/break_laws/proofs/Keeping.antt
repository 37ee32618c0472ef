-- Processes that keep to the bits of their signals and of the variables of their loops.
use Rattle.std.proofs.Common.{◌≡◌, ℕ, Bool, true, false, not, cond, List, Option, Some, None, ap, sym, ◌∙◌}
use Rattle.std.proofs.lemmas.Bool.{and_parts, false≢true, false_from_ne_true, ltb-true, leb-true}
use Rattle.std.proofs.Common.{arith}
use Rattle.sv_types.specs.declared.design.Design.{Design}
use Rattle.sv_types.specs.declared.design.Process.{Process}
use Rattle.sv_types.specs.Surroundings.{Use, is_signal}
use Rattle.sv_types.specs.Flows.{covered, uses_of}
use Rattle.sv_types.specs.Machine.{parts, unseen}
use Rattle.flow_laws.specs.Runs.{is_above}
use Rattle.design_breaks.specs.Memories.{flow}
use Rattle.break_laws.specs.Widths.{is_below}
use Rattle.break_laws.specs.Shapes.{ShapedProcess, AreThere, only_those}
use Rattle.break_laws.specs.Laws.{BitsAreThere}
use Rattle.break_laws.proofs.Fitting.{AllIn}
use Rattle.break_laws.proofs.FlowsFit.{FlowIn, flows-in}
use Rattle.break_laws.proofs.Numbers.{bit-there}

-- a bit lies below a width or not
not-both : (o : Option ℕ) (bit : ℕ) → is_below o bit ≡ true → is_above o bit ≡ true → ⊥
not-both None bit low high = false≢true low
not-both (Some w) bit low high = let l = ltb-true bit w low in let h = leb-true w bit high in omega (arith, l, h)

above-it : (b : Bool) (o : Option ℕ) (bit : ℕ) → is_above (cond b o None) bit ≡ true → is_above o bit ≡ true
above-it true o bit h = h
above-it false o bit h = absurd (false≢true h)

signals-there : (d : Design) (p : Process) (s : ShapedProcess d p) (us : List Use) → AllIn s.widths us → AreThere d us
signals-there d p s us all q signal is = bit-there d q (sym (ap (λ o. is_below o q.bit) (s.signals q.signal signal)) ∙ all q is)

pub keeps-to-bits : BitsAreThere
keeps-to-bits d p s = record {
  reads = signals-there d p s (flow d p).reads f.reads;
  writes = signals-there d p s (uses_of (flow d p).writes) f.writes;
  later = signals-there d p s (uses_of (flow d p).later) f.later;
  within = λ q beyond. false_from_ne_true (covered (uses_of (flow d p).writes) q) (λ is.
      not-both (s.widths q.signal) q.bit (f.writes q is)
      (above-it (s.is_variable q.signal) (s.widths q.signal) q.bit (and_parts (not (is_signal q.signal)) (is_above (only_those s.is_variable s.widths q.signal) q.bit) beyond).1));
}
  where
    f : FlowIn s.widths (flow d p)
    f = flows-in s.widths p.body s.fits (unseen (parts d))
