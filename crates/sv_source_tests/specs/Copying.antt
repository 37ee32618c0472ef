-- A file's bytes on a sink.
use Rattle.std.specs.Prelude.{◌≡◌, List, ℕ, Option, Some}
use Rattle.sv_source.specs.Loading.{Contents}
use Rattle.sv_source.specs.Putting.{appended}

-- the sink gained the bytes of the path, where the contents are told
abbrev pub Copies : Option Contents → List ℕ → Option (List ℕ) → Option (List ℕ) → Type 0
Copies told path before after = (contents : Contents) → told ≡ Some contents → (bytes : List ℕ) × (contents path ≡ Some bytes) × (after ≡ appended before bytes)
