-- What a load of a file may answer.
use Rattle.std.specs.Prelude.{◌≡◌, ℕ, ◌<◌, ◌≤◌, List, length, Option, Some, None}
use Rattle.sv_source.specs.declared.files.Loaded.{Loaded}
use Rattle.sv_source.specs.declared.files.Loaded.TheVariants.{Bytes, Absent, TooLong, Failed, Memory}
use Rattle.sv_source.specs.Faults.{Rose}

-- what each path holds: its bytes, or nothing where no file is there
abbrev pub Contents : Type 0
Contents = List ℕ → Option (List ℕ)

-- the load of a path that holds this, up to the limit: its bytes, or why there are none; a fault and want of memory
-- may stand in the place of any of the three
abbrev pub Loads : Option (List ℕ) → ℕ → Loaded → Type 0
Loads held limit (Bytes text) = (held ≡ Some text) × (length text ≤ limit)
Loads held limit Absent = held ≡ None
Loads held limit TooLong = (bytes : List ℕ) × (held ≡ Some bytes) × (limit < length bytes)
Loads held limit Failed = Unit {0}
Loads held limit Memory = Unit {0}

-- `Loads` where the contents are told
abbrev pub LoadsTold : Option Contents → List ℕ → ℕ → Loaded → Type 0
LoadsTold told path limit result = (contents : Contents) → told ≡ Some contents → Loads (contents path) limit result

-- the bytes are at most as many as the limit
abbrev pub LoadsWithin : ℕ → Loaded → Type 0
LoadsWithin limit (Bytes text) = length text ≤ limit
LoadsWithin limit Absent = Unit {0}
LoadsWithin limit TooLong = Unit {0}
LoadsWithin limit Failed = Unit {0}
LoadsWithin limit Memory = Unit {0}

-- a fault is answered only where the count rose, and every other answer leaves the count as it was
abbrev pub LoadCause : Loaded → ℕ → ℕ → Type 0
LoadCause (Bytes text) before now = now ≡ before
LoadCause Absent before now = now ≡ before
LoadCause TooLong before now = now ≡ before
LoadCause Failed before now = Rose before now
LoadCause Memory before now = now ≡ before
