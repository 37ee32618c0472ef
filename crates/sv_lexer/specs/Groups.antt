-- Groups of a table's words: all words that begin with one byte stand in that byte's group.
use Rattle.std.specs.Prelude.{◌≡◌, ℕ, ◌+◌, ◌≤◌, ◌<◌, Bool, false, ◌==◌, if◌then◌else◌, List, [], ◌∷◌, length, take, drop, slice_set, slice_index_or, slice_range}
use Rattle.std.specs.List.{list_any}
use Rattle.std.proofs.Common.{Bor}
use Rattle.sv_lexer.specs.declared.tables.Group.{Group}

abbrev pub no_group : Group
no_group = record { start = 0; end = 0 }

-- the byte's group
abbrev pub group_of : List Group → ℕ → Group
group_of groups byte = slice_index_or groups byte no_group

-- the words of the byte's group
abbrev pub group_words : List (Bor (List ℕ)) → List Group → ℕ → List (Bor (List ℕ))
group_words words groups byte = slice_range words (group_of groups byte).start (group_of groups byte).end

-- the group with one more word, at this index
abbrev pub widened : Group → ℕ → Group
widened group at = record { start = if group.end == 0 then at else group.start; end = at + 1 }

-- the groups with one more word, at this index
abbrev pub with_word : List Group → List ℕ → ℕ → List Group
with_word groups [] at = groups
with_word groups (c ∷ cs) at = slice_set groups c (widened (group_of groups c) at)

abbrev pub has_first : ℕ → List ℕ → Bool
has_first byte [] = false
has_first byte (c ∷ cs) = c == byte

-- whether one of the words begins with the byte
abbrev pub any_begins : ℕ → List (Bor (List ℕ)) → Bool
any_begins byte words = list_any (λ word. has_first byte word.now) words

-- no word outside a byte's group begins with the byte
pub record IsGroup (words : List (Bor (List ℕ))) (byte : ℕ) (group : Group) : Type 0 where
  pub before : any_begins byte (take group.start words) ≡ false
  pub behind : any_begins byte (drop group.end words) ≡ false
  pub order : group.start ≤ group.end
  pub within : group.end ≤ length words

pub record IsGrouped (words : List (Bor (List ℕ))) (groups : List Group) : Type 0 where
  pub bytes : length groups ≡ 256
  pub each : (byte : ℕ) → byte < 256 → IsGroup words byte (group_of groups byte)
