-- Targets and statements: what they do, read and write (IEEE 1364-2005 clauses 9.2 to 9.5 and 9.8).
use Rattle.std.specs.Prelude.{ℕ, suc, ◌+◌, ◌==◌, nat_le, nat_lt, Bool, ◌&&◌, cond, List, [], ◌∷◌, ◌++◌, length, drop, take, map, flat_map, Option, Some, None}
use Rattle.std.specs.List.{list_any}
use Rattle.b4_core.specs.declared.bit.Bit4.{Bit4}
use Rattle.row_machine.specs.Valuation.{Place, Valuation, Changes}
use Rattle.row_machine.specs.Steps.{unchanged, then_changes}
use Rattle.picks.specs.Windows.{written}
use Rattle.v_tree.specs.Names.{Name}
use Rattle.v_tree.specs.declared.items.VLocal.{VLocal}
use Rattle.v_tree.specs.declared.statements.VBranch.{VBranch, VBranch-F, fold-VBranch}
use Rattle.v_tree.specs.declared.statements.VCaseItem.{VCaseItem-F}
use Rattle.v_tree.specs.declared.statements.VCaseKind.{VCaseKind}
use Rattle.v_tree.specs.declared.statements.VLabel.{VLabel}
use Rattle.v_tree.specs.declared.statements.VLval.{VLval, VLval-F, fold-VLval}
use Rattle.v_tree.specs.declared.statements.VStmt.{VStmt, VStmt-F, fold-VStmt}
use Rattle.v_meaning.specs.Scopes.{Named, Scope, Use, named, bits_of_range, local_number}
use Rattle.v_meaning.specs.Selects.{SelMeaning}
use Rattle.v_meaning.specs.Values.{Meaning, given, all_names, all_reads, path_of, width_of, use_of, sel_names, sel_reads, sel_meaning, meaning}
use Rattle.v_meaning.specs.Runs.{Run, current, idle, branch, assign_as, assign_now, cleared, selector, ItemRun, first_match}

-- What a target means: its width, what a write of bits through it changes, the bits that it may write, the signals and locals
-- that it writes, and what valuing its indices names and reads.
pub record Target : Type 0 where
  pub width : Scope → ℕ
  pub puts : Scope → Valuation → List Bit4 → Changes
  pub writes : Scope → List Use
  pub names : Scope → List ℕ
  pub reads : Scope → List Use

-- a name with its selects; bits out of range are not written
unfoldable pub name_target : Name → List SelMeaning → Target
name_target name sels = record {
  width = λ sc. width_of (named sc.names name) sels;
  puts = λ sc v bits. let n = named sc.names name in written n.number (path_of n sels sc v).window bits;
  writes = λ sc. use_of (named sc.names name) sels sc ∷ [];
  names = sel_names sels;
  reads = sel_reads sels;
}

-- the parts of a concatenation, the first most significant; all indices are valued before the first part is written
abbrev pub parts_width : List Target → Scope → ℕ
parts_width [] sc = 0
parts_width (t ∷ ts) sc = parts_width ts sc + t.width sc

abbrev pub puts_parts : List Target → Scope → Valuation → List Bit4 → Changes
puts_parts [] sc v bits = unchanged
puts_parts (t ∷ ts) sc v bits =
    let low = parts_width ts sc in
    then_changes (t.puts sc v (drop low bits)) (puts_parts ts sc v (take low bits))

unfoldable pub joined_target : List Target → Target
joined_target ts = record {
  width = parts_width ts;
  puts = puts_parts ts;
  writes = λ sc. flat_map (λ (t : Target). t.writes sc) ts;
  names = λ sc. flat_map (λ (t : Target). t.names sc) ts;
  reads = λ sc. flat_map (λ (t : Target). t.reads sc) ts;
}

abbrev pub lval_step : VLval-F Target → Target
lval_step (VLval-F.Name name sels) = name_target name (map sel_meaning sels)
lval_step (VLval-F.Concat parts) = joined_target parts

abbrev pub target : VLval → Target
target = fold-VLval Target lval_step

-- whether a use is of a bit
abbrev pub covers : Use → Place → Bool
covers u q = (u.number == q.signal) && (nat_le u.low q.bit && nat_lt q.bit u.high)

abbrev pub covered : List Use → Place → Bool
covered us q = list_any (λ u. covers u q) us

-- What a statement means: what it does, the signals and locals that it names other than as targets, the bits that it reads,
-- and those that its blocking and its nonblocking assignments may write. A condition that is a constant counts as any other.
pub record Doing : Type 0 where
  pub run : Run
  pub names : Scope → List ℕ
  pub reads : Scope → List Use
  pub writes : Scope → List Use
  pub later : Scope → List Use

abbrev pub nothing : Doing
nothing = record { run = idle; names = λ sc. []; reads = λ sc. []; writes = λ sc. []; later = λ sc. [] }

abbrev pub or_nothing : Option Doing → Doing
or_nothing (Some d) = d
or_nothing None = nothing

-- what an assignment changes: the value and the indices of its target are valued first
abbrev pub changes_of : Target → Meaning → Scope → Valuation → Changes
changes_of to value sc v = to.puts sc v (given value (to.width sc) sc v)

abbrev pub now_writes : Bool → Target → Scope → List Use
now_writes later to sc = cond later [] (to.writes sc)

abbrev pub later_writes : Bool → Target → Scope → List Use
later_writes later to sc = cond later (to.writes sc) []

-- an assignment; a nonblocking one is made later
unfoldable pub assignment : Bool → Target → Meaning → Doing
assignment later to value = record {
  run = λ sc v s. assign_as later (changes_of to value sc (current v s)) s;
  names = λ sc. value.names sc ++ to.names sc;
  reads = λ sc. value.reads sc ++ to.reads sc;
  writes = now_writes later to;
  later = later_writes later to;
}

abbrev pub sequence : List Doing → Doing
sequence [] = nothing
sequence (d ∷ ds) =
    let e = sequence ds in
    record {
      run = λ sc v s. e.run sc v (d.run sc v s);
      names = λ sc. d.names sc ++ e.names sc;
      reads = λ sc. d.reads sc ++ e.reads sc;
      writes = λ sc. d.writes sc ++ e.writes sc;
      later = λ sc. d.later sc ++ e.later sc;
    }

-- one of two
abbrev pub either_of : Run → Doing → Doing → Doing
either_of run d e = record {
  run = run;
  names = λ sc. d.names sc ++ e.names sc;
  reads = λ sc. d.reads sc ++ e.reads sc;
  writes = λ sc. d.writes sc ++ e.writes sc;
  later = λ sc. d.later sc ++ e.later sc;
}

-- a statement behind what these expressions read
abbrev pub behind : List Meaning → Doing → Doing
behind ms d = record d { names = λ sc. all_names ms sc ++ d.names sc; reads = λ sc. all_reads ms sc ++ d.reads sc }

unfoldable pub conditional : Meaning → Doing → Doing → Doing
conditional on then other = behind (on ∷ []) (either_of (branch on then.run other.run) then other)

-- an item of a `case`, which is its `default` if it has no values
pub record Item : Type 0 where
  pub values : Option (List Meaning)
  pub body : Doing

abbrev pub item_runs : List Item → List ItemRun
item_runs [] = []
item_runs (i ∷ is) = elim i.values [ None ↦ item_runs is | Some ms ↦ record { values = ms; run = i.body.run } ∷ item_runs is ]

-- the `default`, or nothing where there is none
abbrev pub otherwise : List Item → Doing
otherwise [] = nothing
otherwise (i ∷ is) = elim i.values [ None ↦ i.body | Some ms ↦ otherwise is ]

abbrev pub item_values : List Item → List Meaning
item_values [] = []
item_values (i ∷ is) = elim i.values [ None ↦ item_values is | Some ms ↦ ms ++ item_values is ]

-- a statement that does one of these, as a run says: an item, or else the last
abbrev pub any_item : Run → List Item → Doing → Doing
any_item run [] other = record other { run = run }
any_item run (i ∷ is) other = elim i.values [ None ↦ any_item run is other | Some ms ↦ either_of run i.body (any_item run is other) ]

unfoldable pub cases : VCaseKind → Meaning → List Item → Doing
cases kind on items =
    let values = item_values items in
    let run : Run = λ sc v s. first_match (selector kind on values sc (current v s)) (item_runs items) (otherwise items).run sc v s in
    behind (on ∷ values) (any_item run items (otherwise items))

-- the locals of a block or function, numbered from the next one on
abbrev pub declared : ℕ → List VLocal → List Named
declared n [] = []
declared n (l ∷ ls) = record { name = l.name; number = local_number n; width = bits_of_range l.range; words = None } ∷ declared (suc n) ls

abbrev pub inside : List VLocal → Scope → Scope
inside ls sc = record sc { names = declared sc.next ls ++ sc.names; next = sc.next + length ls }

-- a block whose locals hold x when it is entered
unfoldable pub block_with : List VLocal → Doing → Doing
block_with ls d = record {
  run = λ sc v s. d.run (inside ls sc) v (assign_now (cleared (declared sc.next ls)) s);
  names = λ sc. d.names (inside ls sc);
  reads = λ sc. d.reads (inside ls sc);
  writes = λ sc. d.writes (inside ls sc);
  later = λ sc. d.later (inside ls sc);
}

abbrev pub locals_of : Option VLabel → List VLocal
locals_of None = []
locals_of (Some label) = label.locals

abbrev pub branch_step : VBranch-F Doing Item Doing → Doing
branch_step (VBranch-F.Statement d) = d
branch_step VBranch-F.Empty = nothing

abbrev pub item_step : VCaseItem-F Doing Item Doing → Item
item_step (VCaseItem-F.Item values body) = record { values = Some (map meaning values); body = body }
item_step (VCaseItem-F.Default body) = record { values = None; body = body }

abbrev pub stmt_step : VStmt-F Doing Item Doing → Doing
stmt_step (VStmt-F.Block label ds) = block_with (locals_of label) (sequence ds)
stmt_step (VStmt-F.If on then other) = conditional (meaning on) then (or_nothing other)
stmt_step (VStmt-F.Case kind on items) = cases kind (meaning on) items
stmt_step (VStmt-F.Assign to value later) = assignment later (target to) (meaning value)

abbrev pub doing : VStmt → Doing
doing = fold-VStmt Doing Item Doing branch_step item_step stmt_step

abbrev pub doing_of : VBranch → Doing
doing_of = fold-VBranch Doing Item Doing branch_step item_step stmt_step
