-- The combinational processes of a design, by their numbers.
use Rattle.std.specs.Prelude.{◌≡◌, ℕ, suc, false, cond, List, [], ◌∷◌, flat_map, slice_get, slice_index_or, Option, Some, None}
use Rattle.row_machine.specs.Valuation.{Member}
use Rattle.row_machine.specs.Machine as M
use Rattle.row_machine.specs.Order.{Ordered}
use Rattle.row_machine.specs.Stuck.{Distinct}
use Rattle.sv_types.specs.declared.design.Design.{Design}
use Rattle.sv_types.specs.declared.design.Process.{Process}
use Rattle.sv_types.specs.Statements.{doing}
use Rattle.sv_types.specs.Machine.{parts, comb_of}
use Rattle.design_breaks.specs.Memories.{is_edged}

-- the numbers of the combinational ones among processes that are numbered from n on
abbrev pub numbers_from : ℕ → List Process → List ℕ
numbers_from n [] = []
numbers_from n (p ∷ ps) = cond (is_edged p.kind) (numbers_from (suc n) ps) (n ∷ numbers_from (suc n) ps)

abbrev pub number_at : List ℕ → ℕ → ℕ
number_at numbers k = slice_index_or numbers k 0

module _ (d : Design) where
  -- the process of the machine that a process with some number is, or nothing
  abbrev pub made_of : Option Process → List M.Process
  made_of None = []
  made_of (Some p) = comb_of (parts d) (doing p.body) p.kind

  abbrev pub comb_at : ℕ → List M.Process
  comb_at n = made_of (slice_get d.processes n)

  abbrev pub combs_at : List ℕ → List M.Process
  combs_at order = flat_map comb_at order

  -- a process has this number, and is combinational
  pub record IsComb (n : ℕ) : Type 0 where
    pub process : Process
    pub stands : slice_get d.processes n ≡ Some process
    pub not_edged : is_edged process.kind ≡ false

  -- the number of each combinational process once, so that none follows itself or a later one
  pub record IsOrderOf (order : List ℕ) : Type 0 where
    pub combinational : (n : ℕ) → Member order n → IsComb n
    pub every : (n : ℕ) → IsComb n → Member order n
    pub distinct : Distinct order
    pub ordered : Ordered (combs_at order)
