-- What a sink took.
use Rattle.std.specs.Prelude.{◌≡◌, ℕ, List, Option}
use Rattle.sv_source.specs.Faults.{Rose}
use Rattle.sv_source.specs.Putting.{appended, GainsFront}

-- a sink before and after: the bytes written, where they are told, and the count of faults
pub record Put_on : Type 0 where
  pub before : Option (List ℕ)
  pub after : Option (List ℕ)
  pub faults_before : ℕ
  pub faults_after : ℕ

-- what a sink shows of a call: its bytes and its faults, before and after it
abbrev pub sink : {S : Type 0} → (S → Option (List ℕ)) → (S → ℕ) → S → S → Put_on
sink written faults old new = record { before = written old; after = written new; faults_before = faults old; faults_after = faults new }

-- the sink took just these bytes
abbrev pub Took : Put_on → List ℕ → Type 0
Took sink bytes = sink.after ≡ appended sink.before bytes

-- nothing was put on the sink
abbrev pub Untouched : Put_on → Type 0
Untouched sink = sink.after ≡ sink.before

-- the sink failed: it took a front of the bytes, and its count rose
pub record FailedAt (sink : Put_on) (bytes : List ℕ) : Type 0 where
  pub front : GainsFront sink.before sink.after bytes
  pub rose : Rose sink.faults_before sink.faults_after
