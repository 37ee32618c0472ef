-- Places that values are assigned to.
use Rattle.std.specs.Prelude.{◌≡◌, ◌≤◌, ⊤, ℕ, Bool, List, [], ◌∷◌, length, map, Option, Some, None, slice_get}
use Rattle.std.specs.Borrow.{Bor}
use Rattle.sv_types.specs.declared.types.SvType.{SvType}
use Rattle.sv_types.specs.declared.types.Member.{Member}
use Rattle.sv_types.specs.declared.statement.Formal.{Formal}
use Rattle.sv_types.specs.Layouts.{Part, layout, width_of}
use Rattle.sv_types.specs.Surroundings.{Parameter}
use Rattle.sv_types.specs.Operators.{parts_of}
use Rattle.sv_types.specs.Functions.{parameter}
use Rattle.eval_parts.specs.declared.targets.Places.{Places}
use Rattle.eval_parts.specs.declared.targets.Places.TheVariants as P

-- no formal, and no member, has more than 2^22 bits
abbrev pub AllNarrow : List Formal → Type 0
AllNarrow [] = ⊤
AllNarrow (f ∷ fs) = (width_of f.local.of ≤ 4194304) × AllNarrow fs

abbrev pub MembersAreNarrow : List Member → Type 0
MembersAreNarrow ms = (i : ℕ) (m : Member) → slice_get ms i ≡ Some m → width_of m.of ≤ 4194304

-- the marks of places
abbrev pub marks_of_parts : List Part → List (List Bool)
marks_of_parts ps = map (λ (p : Part). p.two_state) ps

abbrev pub marks_of_formals : List Parameter → List (List Bool)
marks_of_formals ps = map (λ (p : Parameter). p.two_state) ps

abbrev pub marks_of : Places → List (List Bool)
marks_of (P.Parts t) = marks_of_parts (parts_of (layout t.now))
marks_of (P.Formals fs) = marks_of_formals (map parameter fs.now)

-- places that can be assigned to: none has more than 2^22 bits
abbrev pub AreNarrow : Places → Type 0
AreNarrow (P.Parts t) = (1 ≤ width_of t.now) × (width_of t.now ≤ 4194304)
AreNarrow (P.Formals fs) = AllNarrow fs.now

-- the type at a place, by its marks, if there is that place
abbrev pub IsTypeAt : Option (Bor SvType) → Option (List Bool) → Type 0
IsTypeAt None m = m ≡ None
IsTypeAt (Some t) m = (m ≡ Some (layout t.now).two_state) × (width_of t.now ≤ 4194304)

abbrev pub IsMemberAt : Option (Bor SvType) → List Member → ℕ → Type 0
IsMemberAt None ms i = length ms ≤ i
IsMemberAt (Some t) ms i = (m : Member) × (slice_get ms i ≡ Some m) × (t.now ≡ m.of)
