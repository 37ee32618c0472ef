-- Tables of names.
use Rattle.std.specs.Prelude.{◌≡◌, ℕ, Bool, List, Option, Some, None, if◌then◌else◌, length}
use Rattle.std.specs.Option.{is_some}
use Rattle.std.specs.Str.{bytes_eq}
use Rattle.indexmap.specs.IndexMap as table
use Rattle.sv2v_top.specs.declared.name_table.Names.{Names}
use Rattle.v_tree.specs.Names.{among, position, distinct}

-- what the table has for a name
abbrev pub number_in : Names → List ℕ → Option ℕ
number_in names name = table.get bytes_eq names.numbers name

-- whether the table has a name
abbrev pub holds : Names → List ℕ → Bool
holds names name = is_some (number_in names name)

-- the number of the first of these names that is the given one, if one is
abbrev pub first_number : List (List ℕ) → List ℕ → Option ℕ
first_number names name = if among names name then Some (position names name) else None

-- the table is that of these names
pub record Numbers (table : Names) (names : List (List ℕ)) : Type 0 where
  -- it has each name's first number, and no other name
  pub numbers : (name : List ℕ) → number_in table name ≡ first_number names name
  -- it knows how many there are, and whether one stands twice
  pub count : table.next ≡ length names
  pub distinct_flag : table.distinct ≡ distinct names
