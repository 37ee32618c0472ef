-- Lines on the error stream, and counts of faults.
use Rattle.std.proofs.Common.{refl, ℕ, List, Option, inl, inr, arith}
use Rattle.sv_source.specs.Faults.{Rose, NoFault}
use Rattle.sv_source.specs.Putting.{Gains, PutCause}
use Rattle.sv_source.specs.declared.sink.Put.{Put}
use Rattle.sv_source.specs.declared.sink.Put.TheVariants.{Ok as PutOk, Failed}
use Rattle.endings.specs.declared.status.Status.TheVariants.{SinkFault}
use Rattle.endings.specs.Ends.{Says, said, unsaid}

-- the line of a write fault, put on the error stream
pub fault-said : {b a : Option (List ℕ)} → {fb fa : ℕ} → {line : List ℕ} → (result : Put)
    → Gains b a line result → PutCause result fb fa
    → Says (record { before = b; after = a; faults_before = fb; faults_after = fa }) line SinkFault SinkFault
fault-said PutOk g c = said g refl
fault-said Failed g c = unsaid (record { front = g; rose = c }) refl

-- a count that rose did so in the call, or stands at its last value
pub no-rise : (before now : ℕ) → Rose before now → NoFault before now → ⊥
no-rise before now (inl rose) calm = absurd (omega (arith, calm.level))
no-rise before now (inr last) calm = absurd (omega (arith, calm.below, last))
