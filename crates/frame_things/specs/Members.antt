-- At which place of a list the first signal with the number of a declaration and the name of a member stands.
use Rattle.std.specs.Prelude.{◌≡◌, ℕ, Bool, ◌&&◌, nat_eq, position, if◌then◌else◌, List, Option, Some, None}
use Rattle.std.specs.Str.{bytes_eq}
use Rattle.indexmap.specs.IndexMap as map
use Rattle.sv_types.specs.declared.frame.SignalId.{SignalId}
use Rattle.frame_things.specs.Places.{place_by}
use Rattle.frame_things.specs.declared.members.MemberNames.{MemberNames}
use Rattle.frame_things.specs.declared.members.Slots.{Slots}
use Rattle.frame_things.specs.declared.members.Members.{Members}

abbrev pub is_member : ℕ → List ℕ → SignalId → Bool
is_member n name s = nat_eq s.decl n && bytes_eq s.member name

abbrev pub member_from : ℕ → ℕ → List ℕ → List SignalId → Option ℕ
member_from k n name ss = place_by (is_member n name) k ss

-- the number of a name is its place among the names
abbrev pub number_in : MemberNames → List ℕ → Option ℕ
number_in x name = position (bytes_eq name) x.names.keys

abbrev pub same_slot : ℕ × ℕ → ℕ × ℕ → Bool
same_slot x y = nat_eq x.0 y.0 && nat_eq x.1 y.1

abbrev pub slots_in : Slots → ℕ × ℕ → Option ℕ
slots_in x = λ q. map.get same_slot x.slots q

abbrev pub put_slot : (ℕ × ℕ → Option ℕ) → ℕ → ℕ → ℕ → ℕ × ℕ → Option ℕ
put_slot slots decl number place = λ q. if same_slot (decl, number) q then Some place else slots q

-- what is under a name
abbrev pub under_number : (ℕ × ℕ → Option ℕ) → ℕ → Option ℕ → Option ℕ
under_number slots n None = None
under_number slots n (Some m) = slots (n, m)

abbrev pub under : MemberNames → Slots → ℕ → List ℕ → Option ℕ
under names slots n name = under_number (slots_in slots) n (number_in names name)

-- one more thing under a name
abbrev pub puts : MemberNames → Slots → Slots → ℕ → List ℕ → ℕ → Type 0
puts names before after decl member place =
    (n : ℕ) (name : List ℕ) → under names after n name ≡ (if (nat_eq decl n && bytes_eq member name) then Some place else under names before n name)

abbrev pub members_in : Members → ℕ → List ℕ → Option ℕ
members_in x n name = under x.names x.slots n name
